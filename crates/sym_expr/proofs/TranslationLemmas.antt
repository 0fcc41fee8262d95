-- What is translated of each form, from what is translated of its parts.
use Rattle.std.proofs.Common.{◌≡◌, ℕ, ◌+◌, ◌^◌, ◌<◌, false, cond, pos, subst, List, length, get_or, Some, None, sym, ap, ◌∙◌, arith}
use Rattle.std.specs.Prelude.{All, nat_lt, slice_index, option_and_then}
use Rattle.std.specs.List.{slice_range}
use Rattle.std.specs.Result.{result_ok}
use Rattle.std.proofs.lemmas.List.{get_or-map}
use Rattle.circuit.specs.Truth.{World}
use Rattle.circuit.specs.Wires.{IsWire}
use Rattle.circuit.specs.declared.lit.Lit.{Lit}
use Rattle.circuit.specs.declared.lit.Gate.{Gate}
use Rattle.c_values.specs.declared.kinds.Kind.{Kind}
use Rattle.c_values.specs.declared.operators.BinaryOp.{BinaryOp}
use Rattle.c_values.specs.Kind.{IsValue, wrapped}
use Rattle.c_values.specs.Operations.{binary_value}
use Rattle.cfa.specs.declared.expr.ArrayPlace.{ArrayPlace}
use Rattle.cfa.specs.declared.expr.CellPlace.TheVariants as place
use Rattle.cfa.specs.declared.expr.Expr.{Expr}
use Rattle.cfa.specs.declared.expr.Expr.TheVariants as expr
use Rattle.cfa.specs.declared.state.Frame.{Frame}
use Rattle.cfa.specs.Kinds.{kind_of}
use Rattle.cfa.specs.Values.{array_start, value_of}
use Rattle.bit_words.specs.Words.{Grows, IsWord, word_value}
use Rattle.sym_expr.specs.Stores.{FitsWithin, PlaceFitsWithin, cells_in, outcome_in}
use Rattle.sym_expr.proofs.WordLemmas.{sure_outcome}
use Rattle.sym_expr.proofs.ElementLemmas.{cells_later, outcome_later, element_among, count_among, same_selected}
use Rattle.sym_expr.proofs.ExprRules.{binary_outcome, loaded_outcome, fits_array}

-- a word of one value
pub value_is_word : (gates : List Gate) (word : List Lit) (kind : Kind) (v : ℕ) → All (IsWire gates) word → ((w : World) → word_value gates word w ≡ v) → IsValue kind v → IsWord gates kind word
value_is_word gates word kind v h is value = record {
  wires = h;
  values = λ w. subst (IsValue kind) (sym (is w)) value;
}

-- what a kind has of a cell
pub cell_outcome : (gates : List Gate) (cells : List (List Lit)) (w : World) (n : ℕ) (d result : List Lit) (kind : Kind) → n < length cells → word_value gates result w ≡ wrapped kind (pos (word_value gates (get_or cells n d) w))
    → outcome_in gates (result, record { wire = 0; negated = false }) w ≡ Some (wrapped kind (pos (slice_index (cells_in gates cells w) n)))
cell_outcome gates cells w n d result kind lt is =
    sure_outcome gates result w ∙ ap Some (is ∙ ap (λ v. wrapped kind (pos v)) (sym (get_or-map (λ word. word_value gates word w) cells n d 0 lt)))

-- what a kind has of an element
pub element_loaded : {g0 g1 : List Gate} {m : ℕ} (g2 : List Gate) (frame : Frame) (cells : List (List Lit)) (a : ArrayPlace) (i : Expr) (n start : ℕ) (kind : Kind) (w : World) (named r : List Lit × Lit) → Grows g0 g1 m → All (All (IsWire g0)) cells
    → n < 2 ^ 32 → PlaceFitsWithin (length cells) frame (place.Element a i n) → start ≡ array_start (cells_in g0 cells w) frame a
    → outcome_in g1 named w ≡ result_ok (value_of (cells_in g0 cells w) frame i)
    → outcome_in g2 r w ≡ option_and_then (λ j. cond (nat_lt j (length (slice_range cells start (start + n)))) (Some (wrapped kind (pos (slice_index (cells_in g1 (slice_range cells start (start + n)) w) j)))) None) (outcome_in g1 named w)
    → outcome_in g2 r w ≡ result_ok (value_of (cells_in g0 cells w) frame (expr.Load (place.Element a i n) kind))
element_loaded {g0} {g1} g2 frame cells a i n start kind w named r f h small fits from index is =
    let held = cells_in g0 cells w in
    let part = slice_range cells start (start + n) in
    let within = fits_array (length cells) frame held a i n fits in
    let whole : length part ≡ n = count_among cells start n (omega arith) in
    let one = λ (j : ℕ) (lt : j < n).
    ap (λ x. Some (wrapped kind (pos x)))
    (element_among g1 cells w start (start + n) j (omega arith)
    ∙ ap (λ xs. slice_index xs (start + j)) (cells_later f cells h w)
    ∙ ap (λ s. slice_index held (s + j)) from) in
    is
    ∙ ap (λ o. option_and_then (λ j. cond (nat_lt j (length part)) (Some (wrapped kind (pos (slice_index (cells_in g1 part w) j)))) None) o) index
    ∙ same_selected (result_ok (value_of held frame i)) (length part) n
    (λ j. Some (wrapped kind (pos (slice_index (cells_in g1 part w) j))))
    (λ j. Some (wrapped kind (pos (slice_index held (array_start held frame a + j)))))
    whole one
    ∙ sym (loaded_outcome fits.room held frame a i n kind small fits.fits)

-- an operator's outcome, from those of its operands
pub operator_translated : {g0 g1 g2 : List Gate} {m n : ℕ} (g3 : List Gate) (frame : Frame) (cells : List (List Lit)) (op : BinaryOp) (a b : Expr) (kind : Kind) (first second r : List Lit × Lit) (w : World) → Grows g0 g1 m → Grows g1 g2 n
    → All (All (IsWire g0)) cells → FitsWithin (length cells) frame (expr.Binary op a b kind) → All (IsWire g1) first.0 → IsWire g1 first.1
    → outcome_in g1 first w ≡ result_ok (value_of (cells_in g0 cells w) frame a)
    → outcome_in g2 second w ≡ result_ok (value_of (cells_in g1 cells w) frame b)
    → outcome_in g3 r w ≡ option_and_then (λ x. option_and_then (λ y. binary_value op kind (kind_of b) x y) (outcome_in g2 second w)) (outcome_in g2 first w)
    → outcome_in g3 r w ≡ result_ok (value_of (cells_in g0 cells w) frame (expr.Binary op a b kind))
operator_translated {g0} {g1} {g2} g3 frame cells op a b kind first second r w f g h fits word wire left right is =
    is ∙ binary_outcome (length cells) frame (cells_in g0 cells w) op a b kind (outcome_in g2 first w) (outcome_in g2 second w) fits
    (outcome_later g first word wire w ∙ left)
    (right ∙ ap (λ xs. result_ok (value_of xs frame b)) (cells_later f cells h w))
