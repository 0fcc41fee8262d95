-- Cells that are set and cleared in a store and in a state.
use Rattle.std.proofs.Common.{◌≡◌, ℕ, zero, suc, ◌+◌, ◌<◌, ◌^◌, Bool, true, false, List, [], ◌∷◌, ◌++◌, take, drop, length, Option, Some, None, refl, sym, ap, subst, ◌∙◌, arith, pos, ◌-ℤ◌, ◌-◌, replicate}
use Rattle.std.specs.Prelude.{IsTrue, nat_lt, if◌then◌else◌, slice_set}
use Rattle.std.proofs.lemmas.List.{length-set}
use Rattle.std.proofs.lemmas.Bool.{le-leb, lt-ltb}
use Rattle.c_values.specs.Kind.{int, number_of, least, greatest, wrapped, converted, IsValue, IsInRange}
use Rattle.c_values.specs.declared.kinds.Kind.{Kind}
use Rattle.c_values.proofs.Fitting.{le_is, value_parts, value_from_parts, wrapped-number_of, wrapped-pattern_of, pattern_of-number_of}
use Rattle.c_meaning.specs.Steps.{cleared}
use Rattle.tree_meaning.specs.Activations.{zeros_at, as_kind}
use Rattle.tree_meaning_laws.specs.expression_laws.Contexts.{Context, Held, Agree, Proper}
use Rattle.tree_meaning_laws.proofs.expression_laws.Cells.{agree_set}

-- ---- cells that are set to 0

cleared_suc : (y : ℕ) (ys : List ℕ) (first count : ℕ) → cleared (y ∷ ys) (suc first) count ≡ y ∷ cleared ys first count
cleared_suc y ys first count = ap (λ i. y ∷ (take first ys ++ (replicate count 0 ++ drop i (y ∷ ys)))) (let e : suc first + count ≡ suc (first + count) = omega arith in e)

clear_step : (ys : List ℕ) (first count : ℕ) → first < length ys → cleared (slice_set ys first 0) (suc first) count ≡ cleared ys first (suc count)
clear_step [] first count l = absurd (omega (arith, l))
clear_step (y ∷ ys) zero count l =
    ap (λ i. 0 ∷ (replicate count 0 ++ drop i (0 ∷ ys))) (let e : suc zero + count ≡ suc count = omega arith in e)
    ∙ ap (λ i. 0 ∷ (replicate count 0 ++ drop i (y ∷ ys))) (let e : suc count ≡ zero + suc count = omega arith in e)
clear_step (y ∷ ys) (suc first) count l = cleared_suc y (slice_set ys first 0) (suc first) count ∙ ap (λ zs. y ∷ zs) (clear_step ys first count (omega (arith, l))) ∙ sym (cleared_suc y ys first (suc count))

clear_none : (ys : List ℕ) (first : ℕ) → cleared ys first 0 ≡ ys
clear_none [] zero = refl
clear_none [] (suc first) = empty (suc first + 0)
  where
    empty : (i : ℕ) → drop i (let zs : List ℕ = [] in zs) ≡ []
    empty zero = refl
    empty (suc i) = refl
clear_none (y ∷ ys) zero = refl
clear_none (y ∷ ys) (suc first) = cleared_suc y ys first 0 ∙ ap (λ zs. y ∷ zs) (clear_none ys first)

pub cleared_is : (count first : ℕ) (ys : List ℕ) → ((i : ℕ) → i < count → first + i < length ys) → cleared ys first count ≡ zeros_at count first ys
unfolding zeros_at
cleared_is zero first ys l = clear_none ys first
cleared_is (suc count) first ys l =
    let here = l 0 (omega arith) in
    let next : suc first ≡ first + 1 = omega arith in
    sym (clear_step ys first count (omega (arith, here)))
    ∙ ap (λ i. cleared (slice_set ys first 0) i count) next
    ∙ cleared_is count (first + 1) (slice_set ys first 0) (λ i less. let k = l (i + 1) (omega (arith, less)) in let long = length-set ys first 0 in omega (arith, k, long))

pub agree_zeros : (keeps : ℕ → Bool) (ho : Held) (count first : ℕ) (xs ys : List ℕ) → Agree keeps ho xs ys → ((i : ℕ) → i < count → ho (first + i) ≡ None) → Agree keeps ho (zeros_at count first xs) (zeros_at count first ys)
unfolding zeros_at
agree_zeros keeps ho zero first xs ys h free = h
agree_zeros keeps ho (suc count) first xs ys h free =
    let here : ho first ≡ None = ap ho (let e : first ≡ first + 0 = omega arith in e) ∙ free 0 (omega arith) in
    agree_zeros keeps ho count (first + 1) (slice_set xs first 0) (slice_set ys first 0) (agree_set keeps ho xs ys first 0 h here)
    (λ i less. ap ho (let e : first + 1 + i ≡ first + (i + 1) = omega arith in e) ∙ free (i + 1) (omega (arith, less)))

pub zeros_long : (count first : ℕ) (ys : List ℕ) → length (zeros_at count first ys) ≡ length ys
unfolding zeros_at
zeros_long zero first ys = refl
zeros_long (suc count) first ys = zeros_long count (first + 1) (slice_set ys first 0) ∙ length-set ys first 0

-- ---- what is no temporary isn't held

pub free_of : (c : Context) (ho : Held) → Proper c ho → (cell : ℕ) → IsTrue (c.keeps cell) → ho cell ≡ None
free_of c ho proper cell kept = by (ho cell) refl
  where
    by : (o : Option ℕ) → ho cell ≡ o → ho cell ≡ None
    by None e = e
    by (Some v) e = let clash : true ≡ false = sym kept ∙ (proper cell v e).1 in absurd cc

-- ---- values

-- an index below 2 ^ 31 is an int
pub index_value : (i : ℕ) → i < 2 ^ 31 → IsValue int i
unfolding number_of least greatest
index_value i h =
    let below : nat_lt i (2 ^ 63) ≡ true = lt-ltb i (2 ^ 63) (omega arith) in
    let number : number_of int i ≡ pos i = ap (λ b. if b then pos i else (pos i -ℤ pos (2 ^ 64))) below in
    let range : IsInRange int (pos i) = (le_is (least int) (pos i) refl, le_is (pos i) (greatest int) (le-leb i (2 ^ 31 - 1) (omega arith))) in
    value_from_parts int i (record { of_kind = refl; pattern = omega arith; range = subst (IsInRange int) (sym number) range })

-- a value is what its kind has of it
pub kept_value : (kind : Kind) (v : ℕ) → IsValue kind v → as_kind kind v ≡ v
kept_value kind v h =
    let parts = value_parts kind v h in
    let same = pattern_of-number_of kind v parts.pattern in
    ap (λ w. wrapped kind (pos w)) (sym same) ∙ wrapped-pattern_of kind (number_of kind v) parts.of_kind ∙ wrapped-number_of kind v h

-- a conversion between equal kinds
pub same_converted : (kind : Kind) (v : ℕ) → IsValue kind v → converted kind kind v ≡ v
unfolding converted
same_converted kind v h = wrapped-number_of kind v h
