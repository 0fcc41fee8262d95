-- The input of a model leaves the bounds, and so it does without the zeros at the end of its answers.
use Rattle.std.proofs.Common.{◌≡◌, ℕ, zero, suc, ◌<◌, ◌^◌, Bool, List, [], ◌∷◌, length, map, replicate, Option, Some, sym, ap, subst, ◌∙◌, arith, pos}
use Rattle.std.specs.Prelude.{All, slice_get, slice_index}
use Rattle.std.specs.List.{AllZip}
use Rattle.std.proofs.lemmas.List.{get_or_default, length-map, length-replicate}
use Rattle.c_meaning.specs.declared.input.Input.{Input}
use Rattle.c_values.proofs.Fitting.{IsValue-wrapped}
use Rattle.c_values.specs.Kind.{IsKind, IsValue}
use Rattle.c_values.specs.declared.kinds.Kind.{Kind}
use Rattle.cfa.specs.Graph.{IsGraph}
use Rattle.cfa.specs.declared.parts.Function.{Function}
use Rattle.cfa.specs.declared.parts.GraphParts.{GraphParts}
use Rattle.goal_formula.proofs.InputWorlds.{input_given}
use Rattle.goal_formula.specs.Bits.{assignment, input_from, number_in, words_in}
use Rattle.goal_formula.specs.declared.goal.GoalFormula.{GoalFormula}
use Rattle.unwinder_reach.specs.declared.reached.bounds.Bounds.{Bounds}
use Rattle.measurer_hits.proofs.run_laws.Taken.{answers_alike}
use Rattle.search.specs.Nexts.{IsModel}
use Rattle.unwinder.proofs.Made.{parameter_kinds}
use Rattle.bounds_check.specs.Leaving.{IsExactForLeaving, Leaves, no_predicates}
use Rattle.bounds_check.specs.Parts.{IsCut}
use Rattle.bounds_check.specs.Sufficing.{IsLeft}

-- an input with the same words and answers that are read alike leaves the bounds too
leaves_still : (parts : GraphParts) (f : Function) (bounds : Bounds) (x y : Input) → x.words ≡ y.words → ((n : ℕ) → slice_index y.answers n ≡ slice_index x.answers n) → Leaves parts f bounds x → Leaves parts f bounds y
leaves_still parts f bounds x y words same h = record {
  run = h.run;
  begins = (answers_alike parts f x y no_predicates h.run h.begins words (λ n lt. sym (same n))).0;
  outside = h.outside;
}

-- each word is a value of its parameter's kind
words_fit : (value : ℕ → Bool) (kinds : List Kind) (rows : List (List (Option ℕ))) → map length rows ≡ map (λ (kind : Kind). kind.width) kinds → All IsKind kinds → AllZip IsValue kinds (words_in value kinds rows)
words_fit value [] rows e h = tt
words_fit value (kind ∷ kinds) [] e h = absurd cc
words_fit value (kind ∷ kinds) (row ∷ rows) e h =
    let rest : map length rows ≡ map (λ (k : Kind). k.width) kinds = cc in
    (IsValue-wrapped kind (pos (number_in value row)) (h 0 kind (omega arith)), words_fit value kinds rows rest (λ k d lt. h (suc k) d (omega arith)))

-- each row has 64 places
pub rows_long : (count : ℕ) (rows : List (List (Option ℕ))) → map length rows ≡ replicate count 64 → All (λ (row : List (Option ℕ)). length row ≡ 64) rows
rows_long count [] e k d lt = absurd (omega arith)
rows_long zero (row ∷ rows) e k d lt = absurd cc
rows_long (suc count) (row ∷ rows) e zero d lt = cc
rows_long (suc count) (row ∷ rows) e (suc k) d lt = let rest : map length rows ≡ replicate count 64 = cc in rows_long count rows rest k d (omega arith)

-- there are so many rows
row_count : (count : ℕ) (rows : List (List (Option ℕ))) → map length rows ≡ replicate count 64 → length rows ≡ count
row_count count rows e = sym (length-map rows length) ∙ ap length e ∙ length-replicate count 64

-- of the numbers that are left each is small
left_small : (long short : List ℕ) → IsCut long short → All (λ n. n < 2 ^ 64) long → All (λ n. n < 2 ^ 64) short
left_small long short cut all k d lt =
    let within : k < length long = (let few = cut.few in omega (arith, few, lt)) in
    subst (λ n. n < 2 ^ 64) (sym (get_or_default short k d 0 lt ∙ cut.same k)) (all k 0 within)

module _ (parts : GraphParts) (f : Function) (entry : ℕ) (bounds : Bounds) (g : GoalFormula) (model : List Bool) (graph : IsGraph parts) (own : slice_get parts.functions entry ≡ Some f) (arrays : f.arrays ≡ [])
    (exact : IsExactForLeaving parts f bounds g) (is_model : IsModel g.formula model) where
  abbrev found : Input
  found = input_from (assignment model) f.parameters g

  pub left : (input : Input) → input.words ≡ found.words → IsCut found.answers input.answers → IsLeft parts f bounds input
  left input words cut = record {
    leaves = leaves_still parts f bounds found input (sym words) cut.same (exact.sound (assignment model) is_model.1);
    words_fit = subst (AllZip IsValue f.parameters) (sym words) (words_fit (assignment model) f.parameters g.words exact.shape.words (parameter_kinds parts entry f graph own));
    few_answers =
        (let few = cut.few in
        let rows = length-map g.answers (number_in (assignment model)) in
        let count = row_count bounds.answers g.answers exact.shape.answers_are in
        omega (arith, few, rows, count));
    answers_fit = left_small found.answers input.answers cut (input_given (assignment model) f bounds.answers g arrays exact.shape).answers;
    ends = cut.ends;
  }
