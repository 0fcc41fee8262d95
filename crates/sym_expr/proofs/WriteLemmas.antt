-- Stores with a word put into one of their cells.
use Rattle.std.proofs.Common.{◌≡◌, ℕ, ◌+◌, ◌*◌, ◌^◌, ◌<◌, ◌≤◌, Bool, true, false, ◌||◌, ◌&&◌, cond, List, length, get_or, set, Some, None, is_some, refl, sym, ap, ◌∙◌, ⊎_elim, arith}
use Rattle.std.specs.Prelude.{All, ◌==◌, nat_lt, option_and_then, OnOk, Result, Ok, Err}
use Rattle.std.specs.Result.{is_ok, result_ok}
use Rattle.std.proofs.lemmas.Bool.{cases_lt, lt-ltb, le-ltb}
use Rattle.std.proofs.lemmas.Bool.Decides.{eqb_tells}
use Rattle.std.proofs.lemmas.List.{get_or-map, length-set, map-set, set-get_or}
use Rattle.std.proofs.lemmas.List.Elements.{All-set}
use Rattle.circuit.specs.Truth.{World}
use Rattle.circuit.specs.Wires.{IsWire, lit_holds}
use Rattle.circuit.specs.declared.lit.Lit.{Lit}
use Rattle.circuit.specs.declared.lit.Gate.{Gate}
use Rattle.circuit.proofs.Gates.{constant_wire}
use Rattle.c_values.specs.declared.kinds.Kind.{Kind}
use Rattle.c_values.specs.Kind.{IsKind}
use Rattle.c_values.proofs.Fitting.{by_width}
use Rattle.cfa.specs.declared.expr.ArrayPlace.{ArrayPlace}
use Rattle.cfa.specs.declared.expr.CellPlace.TheVariants as place
use Rattle.cfa.specs.declared.expr.Expr.{Expr}
use Rattle.cfa.specs.declared.state.Frame.{Frame}
use Rattle.cfa.specs.declared.state.Trap.{Trap}
use Rattle.cfa.specs.Values.{array_start, cell_of, value_of}
use Rattle.bit_words.specs.Words.{Grows, word_value}
use Rattle.bit_words.proofs.Steps.{grows_none, grows_then, grows_within}
use Rattle.bit_words.proofs.Values.{no_holds, word_value-later}
use Rattle.sym_expr.specs.Stores.{PlaceFitsWithin, cells_in, outcome_in}
use Rattle.sym_expr.proofs.ElementLemmas.{cells_still, cells_later}
use Rattle.sym_expr.proofs.ExprRules.{place_outcome}

-- what holds anyway holds where there is a value
pub on_ok : {T E : Type 0} {P : Type 0} (r : Result T E) → P → OnOk r P
on_ok (Ok x) p = p
on_ok (Err e) p = tt

-- a word put into a cell, in a world
pub cell_put : (gates : List Gate) (cells : List (List Lit)) (n : ℕ) (word : List Lit) (w : World) → cells_in gates (set cells n word) w ≡ set (cells_in gates cells w) n (word_value gates word w)
cell_put gates cells n word w = map-set (λ word. word_value gates word w) cells n word

-- ---- the elements below a place

pub record WrittenSoFar (old new : List Gate) (before cells : List (List Lit)) (start : ℕ) (index word : List Lit) (inside : Lit) (k : ℕ) : Type 0 where
  pub grows : Grows old new (385 * k)
  pub count : length cells ≡ length before
  pub wires : All (All (IsWire new)) cells
  pub wire : IsWire new inside
  pub named : (w : World) → lit_holds new inside w ≡ nat_lt (word_value old index w) k
  pub value : (w : World) → let i = word_value old index w in cells_in new cells w ≡ cond (nat_lt i k) (set (cells_in old before w) (start + i) (word_value old word w)) (cells_in old before w)

pub written_none : (gates : List Gate) (before : List (List Lit)) (start : ℕ) (index word : List Lit) → All (All (IsWire gates)) before → WrittenSoFar gates gates before before start index word (record { wire = 0; negated = true }) 0
written_none gates before start index word h = record {
  grows = grows_none gates 0;
  count = refl;
  wires = h;
  wire = omega arith;
  named = λ w. no_holds gates w ∙ sym (le-ltb (word_value gates index w) 0 (omega arith));
  value = λ w. ap (λ t. cond t (set (cells_in gates before w) (start + word_value gates index w) (word_value gates word w)) (cells_in gates before w)) (sym (le-ltb (word_value gates index w) 0 (omega arith)));
}

-- tests of the places below the next one
same_test : (i k : ℕ) → (i ≡ k → ⊥) → nat_lt i k ≡ nat_lt i (k + 1)
same_test i k n = ⊎_elim
    (λ lt. lt-ltb i k lt ∙ sym (lt-ltb i (k + 1) (omega arith)))
    (λ le. le-ltb i k le ∙ sym (le-ltb i (k + 1) (omega arith)))
    (cases_lt i k)

next_test : (i k : ℕ) → ((i == k) || nat_lt i k) ≡ nat_lt i (k + 1)
next_test i k = ⊎_elim
    (λ here. ap (λ t. t || nat_lt i k) here.0 ∙ sym (lt-ltb i (k + 1) (let e = here.1 in omega arith)))
    (λ other. ap (λ t. t || nat_lt i k) other.0 ∙ same_test i k other.1)
    (eqb_tells i k)

put_next : (i k start v : ℕ) (cells mid : List ℕ) → mid ≡ cond (nat_lt i k) (set cells (start + i) v) cells
    → set mid (start + k) (cond (i == k) v (get_or mid (start + k) 0)) ≡ cond (nat_lt i (k + 1)) (set cells (start + i) v) cells
put_next i k start v cells mid e = ⊎_elim
    (λ here. ap (λ t. set mid (start + k) (cond t v (get_or mid (start + k) 0))) here.0
    ∙ ap (λ xs. set xs (start + k) v) (e ∙ ap (λ t. cond t (set cells (start + i) v) cells) (le-ltb i k (let same = here.1 in omega arith)))
    ∙ ap (λ n. set cells (start + n) v) (sym here.1)
    ∙ ap (λ t. cond t (set cells (start + i) v) cells) (sym (lt-ltb i (k + 1) (let same = here.1 in omega arith))))
    (λ other. ap (λ t. set mid (start + k) (cond t v (get_or mid (start + k) 0))) other.0
    ∙ set-get_or mid (start + k) 0 ∙ e
    ∙ ap (λ t. cond t (set cells (start + i) v) cells) (same_test i k other.1))
    (eqb_tells i k)

pub written_more : {old mid new : List Gate} {before cells : List (List Lit)} {start : ℕ} {index word : List Lit} {named : Lit} {k : ℕ} (r : List Lit) (l : Lit) (d : List Lit) → WrittenSoFar old mid before cells start index word named k
    → Grows mid new 385 → start + k < length before → All (IsWire old) index → All (IsWire old) word → d ≡ get_or cells (start + k) d → All (IsWire new) r → IsWire new l
    → ((w : World) → word_value new r w ≡ cond (word_value mid index w == k) (word_value mid word w) (word_value mid d w))
    → ((w : World) → lit_holds new l w ≡ ((word_value mid index w == k) || lit_holds mid named w))
    → WrittenSoFar old new before (set cells (start + k) r) start index word l (k + 1)
written_more {old} {mid} {new} {before} {cells} {start} {index} {word} {named} {k} r l d so g lt at put there wires wire is_word is_named = record {
  grows = grows_within (385 * (k + 1)) (grows_then so.grows g) (omega arith);
  count = length-set cells (start + k) r ∙ so.count;
  wires = All-set (All (IsWire new)) cells (start + k) r wires (cells_still g cells so.wires);
  wire = wire;
  named = λ w.
      is_named w ∙ ap (λ v. (v == k) || lit_holds mid named w) (word_value-later so.grows index at w)
      ∙ ap (λ t. (word_value old index w == k) || t) (so.named w) ∙ next_test (word_value old index w) k;
  value = λ w.
      let i = word_value old index w in
      let v = word_value old word w in
      let c = cells_in mid cells w in
      let p = start + k in
      let within : p < length cells = (let e = so.count in omega arith) in
      let one : word_value new r w ≡ cond (i == k) v (get_or c p 0) =
      is_word w
      ∙ ap (λ e. cond (word_value mid index w == k) (word_value mid word w) (word_value mid e w)) there
      ∙ ap (λ n. cond (n == k) (word_value mid word w) (word_value mid (get_or cells p d) w)) (word_value-later so.grows index at w)
      ∙ ap (λ n. cond (i == k) n (word_value mid (get_or cells p d) w)) (word_value-later so.grows word put w)
      ∙ ap (λ n. cond (i == k) v n) (sym (get_or-map (λ word. word_value mid word w) cells p d 0 within)) in
      cell_put new cells p r w
      ∙ ap (λ xs. set xs p (word_value new r w)) (cells_later g cells so.wires w)
      ∙ ap (λ n. set c p n) one
      ∙ put_next i k start v (cells_in old before w) c (so.value w);
}

-- ---- the place of an index with its literal

some_of : {T E : Type 0} (r : Result T E) → is_ok r ≡ is_some (result_ok r)
some_of (Ok x) = refl
some_of (Err e) = refl

named_both : (p q : Bool) (n i : ℕ) (f : ℕ → ℕ) → q ≡ nat_lt i n → (p && q) ≡ is_some (option_and_then (λ v. cond (nat_lt v n) (Some (f v)) None) (cond p (Some i) None))
named_both true q n i f e = e ∙ by (nat_lt i n)
  where
    by : (t : Bool) → t ≡ is_some (cond t (Some (f i)) None)
    by true = refl
    by false = refl
named_both false q n i f e = refl

named_cell : (p : Bool) (n i cell : ℕ) (f : ℕ → ℕ) (cells mid : List ℕ) (v : ℕ) → option_and_then (λ v. cond (nat_lt v n) (Some (f v)) None) (cond p (Some i) None) ≡ Some cell
    → mid ≡ cond (nat_lt i n) (set cells (f i) v) cells → mid ≡ set cells cell v
named_cell true n i cell f cells mid v e is = by (nat_lt i n) e is
  where
    by : (t : Bool) → cond t (Some (f i)) None ≡ Some cell → mid ≡ cond t (set cells (f i) v) cells → mid ≡ set cells cell v
    by true e is = is ∙ ap (λ n. set cells n v) (let same : f i ≡ cell = cc in same)
    by false e is = absurd (cc)
named_cell false n i cell f cells mid v e is = absurd (cc)

-- the place that an index names, by what the index comes to
module _ {g0 g1 : List Gate} {m : ℕ} (g2 : List Gate) (frame : Frame) (cells : List (List Lit)) (a : ArrayPlace) (i : Expr) (n start : ℕ) (w : World) (index : List Lit × Lit) (f : Grows g0 g1 m) (h : All (All (IsWire g0)) cells)
    (small : n < 2 ^ 32) (fits : PlaceFitsWithin (length cells) frame (place.Element a i n)) (from : start ≡ array_start (cells_in g0 cells w) frame a)
    (is : outcome_in g1 index w ≡ result_ok (value_of (cells_in g0 cells w) frame i)) where
  named_place : result_ok (cell_of (cells_in g0 cells w) frame (place.Element a i n)) ≡ option_and_then (λ v. cond (nat_lt v n) (Some (start + v)) None) (outcome_in g1 index w)
  named_place =
      place_outcome fits.room (cells_in g0 cells w) frame a i n small fits.fits
      ∙ ap (λ s. option_and_then (λ v. cond (nat_lt v n) (Some (s + v)) None) (result_ok (value_of (cells_in g0 cells w) frame i))) (sym from)
      ∙ ap (λ o. option_and_then (λ v. cond (nat_lt v n) (Some (start + v)) None) o) (sym is)

  pub place_inside : (inside : Lit) → lit_holds g2 inside w ≡ (lit_holds g1 index.1 w && nat_lt (word_value g1 index.0 w) n) → lit_holds g2 inside w ≡ is_ok (cell_of (cells_in g0 cells w) frame (place.Element a i n))
  place_inside inside held =
      held ∙ named_both (lit_holds g1 index.1 w) (nat_lt (word_value g1 index.0 w) n) n (word_value g1 index.0 w) (λ v. start + v) refl
      ∙ ap is_some (sym named_place) ∙ sym (some_of (cell_of (cells_in g0 cells w) frame (place.Element a i n)))

  pub place_put : (after : List (List Lit)) (word : List Lit) (cell : ℕ) → All (IsWire g0) word
      → (let j = word_value g1 index.0 w in cells_in g2 after w ≡ cond (nat_lt j n) (set (cells_in g1 cells w) (start + j) (word_value g1 word w)) (cells_in g1 cells w))
      → cell_of (cells_in g0 cells w) frame (place.Element a i n) ≡ Ok cell → cells_in g2 after w ≡ set (cells_in g0 cells w) cell (word_value g0 word w)
  place_put after word cell wires made at =
      let held = cells_in g0 cells w in
      named_cell (lit_holds g1 index.1 w) n (word_value g1 index.0 w) cell (λ v. start + v) (cells_in g1 cells w) (cells_in g2 after w) (word_value g1 word w)
      (sym named_place ∙ ap result_ok at) made
      ∙ ap (λ xs. set xs cell (word_value g1 word w)) (cells_later f cells h w)
      ∙ ap (λ v. set held cell v) (word_value-later f word wires w)

-- a write to a cell that no index names
pub sure_put : (gates : List Gate) (cells after : List (List Lit)) (word : List Lit) (n cell : ℕ) (r : Result ℕ Trap) (w : World) → after ≡ set cells n word → r ≡ Ok n → r ≡ Ok cell → cells_in gates after w ≡ set (cells_in gates cells w) cell (word_value gates word w)
sure_put gates cells after word n cell r w made is at =
    let same : n ≡ cell = cc in
    ap (λ xs. cells_in gates xs w) made ∙ cell_put gates cells n word w ∙ ap (λ k. set (cells_in gates cells w) k (word_value gates word w)) same

pub sure_inside : (gates : List Gate) (w : World) (n : ℕ) (r : Result ℕ Trap) → r ≡ Ok n → lit_holds gates (record { wire = 0; negated = false }) w ≡ is_ok r
sure_inside gates w n r is = constant_wire gates w ∙ sym (ap is_ok is)

-- no index names one of no cells
pub none_named : (gates : List Gate) (w : World) (p : Bool) (i n : ℕ) → n ≡ 0 → lit_holds gates (record { wire = 0; negated = true }) w ≡ (p && nat_lt i n)
none_named gates w p i n zero = no_holds gates w ∙ sym (ap (λ t. p && t) (le-ltb i n (omega arith)) ∙ and_false p)
  where
    and_false : (p : Bool) → (p && false) ≡ false
    and_false true = refl
    and_false false = refl

pub none_put : (i n : ℕ) (put cells : List ℕ) → n ≡ 0 → cells ≡ cond (nat_lt i n) put cells
none_put i n put cells zero = sym (ap (λ t. cond t put cells) (le-ltb i n (omega arith)))

-- what the writes to an array's elements may use
pub write_room : (kind : Kind) (n : ℕ) → IsKind kind → 386 * n ≤ 31 * (4 * (kind.width * n))
write_room kind n k = by_width (λ w. 386 * n ≤ 31 * (4 * (w * n))) (omega arith) (omega arith) (omega arith) (omega arith) kind.width k
