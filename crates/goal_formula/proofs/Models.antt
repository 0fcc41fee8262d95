-- The input of a model, bit by bit and word by word.
use Rattle.std.proofs.Common.{All, pos, subst, mod-eq_of_lt, ◌%◌, ◌≡◌, ℕ, zero, suc, ◌+◌, ◌*◌, ◌^◌, ◌≤◌, ◌<◌, Bool, false, List, [], ◌∷◌, ◌++◌, length, take, drop, map, get_or, Option, Some, None, refl, sym, ap, ◌∙◌, arith, length-drop}
use Rattle.std.specs.Prelude.{slice_get}
use Rattle.std.proofs.lemmas.List.{drop_more, length-map}
use Rattle.std.proofs.lemmas.Option.{same_Some, slice_get-get_or, slice_get_read}
use Rattle.c_meaning.specs.Starts.{fitted}
use Rattle.c_values.proofs.Bits.{width_below}
use Rattle.c_values.proofs.Fitting.{IsValue-wrapped, converted-is}
use Rattle.c_values.specs.Kind.{IsKind, IsValue, converted, fit, pattern_of, residue, wrapped}
use Rattle.c_values.specs.declared.kinds.Kind.{Kind}
use Rattle.path_runner.specs.Masks.{bit}
use Rattle.goal_formula.specs.Bits.{bit_in, number_in, words_in}
use Rattle.goal_formula.proofs.InputWorlds.{number_few}

module _ (value : ℕ → Bool) where
  -- one bit more, below those that were read
  pub number_more : (row : List (Option ℕ)) (place : ℕ) → place < length row → number_in value (drop place row) ≡ bit (bit_in value (get_or row place None)) + 2 * number_in value (drop (place + 1) row)
  number_more row place lt = ap (number_in value) (drop_more row place None lt)

  pub number_below : (row : List (Option ℕ)) (place : ℕ) → length row ≤ 64 → 1 ≤ place → number_in value (drop place row) < 2 ^ 63
  number_below row place few some = number_few value (drop place row) 63 (omega (arith, length-drop place row))

  pub number_small : (row : List (Option ℕ)) (place : ℕ) → length row ≤ 64 → number_in value (drop place row) < 2 ^ 64
  number_small row place few = number_few value (drop place row) 64 (omega (arith, length-drop place row))

  words_push : (kinds : List Kind) (rows : List (List (Option ℕ))) (i : ℕ) (kind : Kind) (row : List (Option ℕ)) → slice_get kinds i ≡ Some kind → slice_get rows i ≡ Some row
      → words_in value (take (suc i) kinds) (take (suc i) rows) ≡ words_in value (take i kinds) (take i rows) ++ fitted kind (number_in value row) ∷ []
  words_push [] rows i kind row e f = absurd cc
  words_push (k ∷ kinds) [] i kind row e f = absurd cc
  words_push (k ∷ kinds) (r ∷ rows) zero kind row e f =
      ap (λ (q : Kind). fitted q (number_in value r) ∷ []) (same_Some k kind e) ∙ ap (λ xs. fitted kind (number_in value xs) ∷ []) (same_Some r row f)
  words_push (k ∷ kinds) (r ∷ rows) (suc i) kind row e f = ap (λ ws. fitted k (number_in value r) ∷ ws) (words_push kinds rows i kind row e f)

  -- one word more
  pub words_more : (kinds : List Kind) (rows : List (List (Option ℕ))) (i : ℕ) (kind : Kind) (row : List (Option ℕ)) → slice_get kinds i ≡ Some kind → slice_get rows i ≡ Some row
      → words_in value (take (i + 1) kinds) (take (i + 1) rows) ≡ words_in value (take i kinds) (take i rows) ++ fitted kind (number_in value row) ∷ []
  words_more kinds rows i kind row e f =
      let next : i + 1 ≡ suc i = omega arith in
      ap (λ n. words_in value (take n kinds) (take n rows)) next ∙ words_push kinds rows i kind row e f

-- ---- rows as long as their kinds are wide

row_within : (kinds : List Kind) (rows : List (List (Option ℕ))) (i : ℕ) (row : List (Option ℕ)) → map length rows ≡ map (λ (kind : Kind). kind.width) kinds → All IsKind kinds → i < length kinds → row ≡ get_or rows i row → length row ≤ 64
row_within [] rows i row e h lt is = absurd (omega arith)
row_within (kind ∷ kinds) [] i row e h lt is = absurd cc
row_within (kind ∷ kinds) (r ∷ rows) zero row e h lt is =
    let long : length r ≡ kind.width = cc in
    let most = width_below kind (h 0 kind (omega arith)) in
    let same = ap length is in
    omega (arith, long, most, same)
row_within (kind ∷ kinds) (r ∷ rows) (suc i) row e h lt is =
    let rest : map length rows ≡ map (λ (k : Kind). k.width) kinds = cc in
    row_within kinds rows i row rest (λ k d l. h (suc k) d (omega arith)) (omega arith) is

-- the row that a loop is at
pub row_few : (kinds : List Kind) (rows : List (List (Option ℕ))) (i : ℕ) (row read : List (Option ℕ)) → map length rows ≡ map (λ (kind : Kind). kind.width) kinds → All IsKind kinds → i < length kinds → row ≡ get_or rows i row → read ≡ row → length read ≤ 64
row_few kinds rows i row read e h lt is same = let few = row_within kinds rows i row e h lt is in omega (arith, few, ap length same)

wrapped-long : (v : ℕ) → v < 2 ^ 64 → wrapped (record { width = 64; signed = false }) (pos v) ≡ v
unfolding wrapped fit pattern_of residue
wrapped-long v h = ap (λ x. x % 2 ^ 64) (mod-eq_of_lt h) ∙ mod-eq_of_lt h

-- a pattern of 64 bits is a value without a sign
pub long_value : (v : ℕ) → v < 2 ^ 64 → IsValue (record { width = 64; signed = false }) v
long_value v h = subst (IsValue (record { width = 64; signed = false })) (wrapped-long v h) (IsValue-wrapped (record { width = 64; signed = false }) (pos v) refl)

pub words_pushed : (value : ℕ → Bool) (kinds : List Kind) (rows : List (List (Option ℕ))) (at : ℕ) (words new : List ℕ) (d : Kind) (row read : List (Option ℕ)) (n v : ℕ) → at < length kinds → map length rows ≡ map (λ (kind : Kind). kind.width) kinds → All IsKind kinds
    → row ≡ get_or rows at row → read ≡ row → n ≡ number_in value read → v ≡ converted (record { width = 64; signed = false }) (get_or kinds at d) n → words ≡ words_in value (take at kinds) (take at rows) → new ≡ words ++ v ∷ [] → new ≡ words_in value (take (at + 1) kinds) (take (at + 1) rows)
words_pushed value kinds rows at words new d row read n v lt e h is same number converted_is before pushed =
    let long : length rows ≡ length kinds = sym (length-map rows length) ∙ ap length e ∙ length-map kinds (λ (k : Kind). k.width) in
    let kind_there = slice_get-get_or kinds at d lt in
    let row_there = slice_get_read rows (length rows) at row refl (omega (arith, long)) is in
    let few = row_few kinds rows at row row e h lt is refl in
    let own : n ≡ number_in value row = number ∙ ap (number_in value) same in
    let small = number_few value row 64 few in
    let fits : fitted (get_or kinds at d) (number_in value row) ≡ v = converted-is (record { width = 64; signed = false }) (get_or kinds at d) (number_in value row) (h at d lt) small ∙ ap (converted (record { width = 64; signed = false }) (get_or kinds at d)) (sym own) ∙ sym converted_is in
    pushed ∙ ap (λ ws. ws ++ v ∷ []) before ∙ ap (λ x. words_in value (take at kinds) (take at rows) ++ x ∷ []) (sym fits) ∙ sym (words_more value kinds rows at (get_or kinds at d) row kind_there row_there)
