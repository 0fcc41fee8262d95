-- The input of a least model is the least that hits the goal.
use Rattle.std.proofs.Common.{◌≡◌, ℕ, zero, suc, ◌<◌, Bool, true, false, List, [], ◌∷◌, ◌++◌, length, map, get_or, Option, Some, None, All, refl, sym, ap, subst, ◌∙◌}
use Rattle.std.specs.Prelude.{reverse, slice_get}
use Rattle.std.specs.List.{flat_map, list_all}
use Rattle.std.proofs.lemmas.List.{length-map}
use Rattle.std.proofs.lemmas.List.Concat.{flat_map-append}
use Rattle.std.proofs.lemmas.Option.{same_Some, slice_get-get_or, slice_get_within}
use Rattle.c_meaning.specs.declared.ends.Ends.{Ends}
use Rattle.c_meaning.specs.declared.input.Input.{Input}
use Rattle.c_values.specs.Kind.{IsKind}
use Rattle.c_values.specs.declared.kinds.Kind.{Kind}
use Rattle.cfa.specs.Graph.{IsGraph}
use Rattle.cfa.specs.declared.parts.Function.{Function}
use Rattle.cfa.specs.declared.parts.GraphParts.{GraphParts}
use Rattle.cfa.specs.declared.state.Predicates.{Predicates}
use Rattle.cnf.specs.Formulas.{Satisfies, is_true_literal}
use Rattle.goal_formula_laws.proofs.formula_laws.Orders.{first_bit_decides, lower_is_before}
use Rattle.goal_formula_laws.proofs.formula_laws.Units.{units_refuted}
use Rattle.goal_formula_laws.specs.formula_laws.Orders.{FirstDifferAt, IsBefore, bits_in_order}
use Rattle.goal_formula.proofs.InputWorlds.{input_given}
use Rattle.goal_formula.specs.Bits.{assignment, bit_in, input_from, number_in}
use Rattle.goal_formula.specs.Exact.{IsExact}
use Rattle.goal_formula.specs.declared.goal.GoalFormula.{GoalFormula}
use Rattle.goals.specs.GoalForm.{GoalForm}
use Rattle.goals.specs.declared.plan.Plan.{Plan}
use Rattle.measurer_hits.specs.hits.Inputs.{InputHitsWithin}
use Rattle.path_runner.specs.Masks.{number_of_bits}
use Rattle.unwinder_reach.specs.declared.reached.bounds.Bounds.{Bounds}
use Rattle.measurer_hits.proofs.run_laws.Taken.{fitted_words_alike}
use Rattle.unwinder.proofs.Made.{parameter_kinds}
use Rattle.unwinder.specs.Lists.{IsInputFor}
use Rattle.least_input.specs.Answers.{IsFoundLeast}
use Rattle.least_input.specs.Fixing.{AreFixed, InputBit, IsRefuted, parts_of, settings, variables_in_order}
use Rattle.least_input.specs.Order.{IsLower, numbers_of}
use Rattle.least_input.specs.Parts.{IsLowest, numbers_in}
use Rattle.least_input.specs.declared.least.Fixed.{Fixed}
use Rattle.least_input.proofs.Bits.{bits_are, in_order, settings_are, unset}
use Rattle.least_input.proofs.Numbers.{answers_count, below, numbers_are, same_fits}
use Rattle.least_input.proofs.Rows.{AllNumbers, mapped_rows, numbers_in_order, numbers_of_contains}
use Rattle.least_input.proofs.Settings.{part_there}

-- ---- rows as bits

numbers_as_bits : (value : ℕ → Bool) (rows : List (List (Option ℕ))) → map (number_in value) rows ≡ map number_of_bits (map (map (bit_in value)) rows)
numbers_as_bits value [] = refl
numbers_as_bits value (row ∷ rows) = ap (λ ns. number_in value row ∷ ns) (numbers_as_bits value rows)

rows_as_long : (value other : ℕ → Bool) (rows : List (List (Option ℕ))) → map length (map (map (bit_in value)) rows) ≡ map length (map (map (bit_in other)) rows)
rows_as_long value other [] = refl
rows_as_long value other (row ∷ rows) =
    let here = length-map row (bit_in value) ∙ sym (length-map row (bit_in other)) in
    let rest = rows_as_long value other rows in
    λ i. here i ∷ rest i

bits_ordered : (value : ℕ → Bool) (g : GoalFormula) → bits_in_order (map (map (bit_in value)) (g.words ++ g.answers)) ≡ map (bit_in value) (in_order g)
bits_ordered value g = sym (mapped_rows (bit_in value) (g.words ++ g.answers)) ∙ ap (map (bit_in value)) (flat_map-append reverse g.words g.answers)

-- where the numbers that one assignment gives are before those of another, their bits first differ so
first_bit : (other value : ℕ → Bool) (g : GoalFormula) → IsBefore (map (number_in other) (g.words ++ g.answers)) (map (number_in value) (g.words ++ g.answers))
    → (k : ℕ) × FirstDifferAt (map (bit_in other) (in_order g)) (map (bit_in value) (in_order g)) k
first_bit other value g h =
    let rows = g.words ++ g.answers in
    let left = map (map (bit_in other)) rows in
    let right = map (map (bit_in value)) rows in
    let by_left : IsBefore (map number_of_bits left) (map (number_in value) rows) = subst (λ ns. IsBefore ns (map (number_in value) rows)) (numbers_as_bits other rows) h in
    let by_both : IsBefore (map number_of_bits left) (map number_of_bits right) = subst (λ ns. IsBefore (map number_of_bits left) ns) (numbers_as_bits value rows) by_left in
    let found = (first_bit_decides left right (rows_as_long other value rows)).0 by_both in
    let turned : FirstDifferAt (map (bit_in other) (in_order g)) (bits_in_order right) found.0 = subst (λ bits. FirstDifferAt bits (bits_in_order right) found.0) (bits_ordered other g) found.1 in
    (found.0, subst (λ bits. FirstDifferAt (map (bit_in other) (in_order g)) bits found.0) (bits_ordered value g) turned)

-- ---- parts

mapped_at : {A B : Type 0} (f : A → B) (xs : List A) (k : ℕ) (y : B) → slice_get (map f xs) k ≡ Some y → (x : A) × (slice_get xs k ≡ Some x) × (f x ≡ y)
mapped_at f [] k y at = absurd cc
mapped_at f (x ∷ xs) zero y at = (x, refl, same_Some (f x) y at)
mapped_at f (x ∷ xs) (suc k) y at = mapped_at f xs k y at

all_at : {A : Type 0} (P : A → Type 0) (xs : List A) (k : ℕ) (x : A) → All P xs → slice_get xs k ≡ Some x → P x
all_at P xs k x all at =
    let lt = slice_get_within xs k x at in
    subst P (same_Some (get_or xs k x) x (sym (slice_get-get_or xs k x lt) ∙ at)) (all k x lt)

module _ (parts : GraphParts) (p : Predicates) (k : ℕ) (f : Function) (plan : Plan) (bounds : Bounds) (ends : Ends) (goal : GoalForm) (g : GoalFormula) (model : List Bool) (budget : ℕ) (fixed : List Fixed)
    (graph : IsGraph parts) (own : slice_get parts.functions k ≡ Some f) (arrays : f.arrays ≡ []) (exact : IsExact parts p f bounds ends plan goal g)
    (lowest : IsLowest g.formula budget (variables_in_order g) model fixed) where
  abbrev value : ℕ → Bool
  value = assignment model

  abbrev found : Input
  found = numbers_in value g

  kinds : All IsKind f.parameters
  kinds = parameter_kinds parts k f graph own

  given : IsInputFor f found
  given =
      let other = input_given value f bounds.answers g arrays exact.shape in
      let wide : length g.words ≡ length f.parameters = sym (length-map g.words length) ∙ ap length exact.shape.words ∙ length-map f.parameters (λ (kind : Kind). kind.width) in
      record { start = (length-map g.words (number_in value) ∙ wide, arrays); answers = other.answers }

  hits : InputHitsWithin parts f p plan ends bounds.turns bounds.frames bounds.answers goal found
  hits =
      let from = input_from value f.parameters g in
      let other = input_given value f bounds.answers g arrays exact.shape in
      fitted_words_alike bounds.turns bounds.frames bounds.answers parts k f p plan ends goal from found graph own other.start
      (same_fits value f.parameters g.words kinds) (λ n lt at input there. refl) (exact.sound value lowest.model_is.1)

  -- the variables of the input bits are not 0
  positive : AllNumbers (λ n. 0 < n) (in_order g)
  positive = numbers_in_order (λ n. 0 < n) g.words g.answers (numbers_of_contains (λ n. 0 < n) (flat_map (λ row. row) g.words ++ flat_map (λ row. row) g.answers) (λ n c. (exact.inputs_over n c).0))

  -- no assignment that satisfies the formula has the first bit in which it differs as 0
  none_lower : (other : ℕ → Bool) (at : ℕ) → FirstDifferAt (map (bit_in other) (in_order g)) (map (bit_in value) (in_order g)) at → Satisfies other g.formula → ⊥
  none_lower other at differ sat =
      let part = part_there value other [] (in_order g) at positive differ refl in
      let there : slice_get (map (λ (x : Fixed). x.units) fixed) part.at ≡ Some part.units = ap (λ ps. slice_get ps part.at) lowest.parts ∙ part.there in
      let it = mapped_at (λ (x : Fixed). x.units) fixed part.at part.units there in
      let refuted = all_at (IsRefuted g.formula budget) fixed part.at it.0 lowest.refuted it.1 in
      let holds : list_all (is_true_literal other) it.0.units ≡ true = ap (list_all (is_true_literal other)) it.2 ∙ part.holds in
      units_refuted other g.formula it.0.units it.0.derivation refuted.0.0 sat holds

  least : (other : Input) → IsInputFor f other → InputHitsWithin parts f p plan ends bounds.turns bounds.frames bounds.answers goal other → IsLower bounds.answers other found → ⊥
  least other other_given other_hits lower =
      let it = exact.complete other other_given other_hits in
      let less = below it.0 f.parameters bounds.answers g other exact.shape kinds other_given.start.0 it.1 in
      let before : IsBefore (map (number_in it.0) (g.words ++ g.answers)) (numbers_of bounds.answers found) = lower_is_before (map (number_in it.0) (g.words ++ g.answers)) (numbers_of bounds.answers other) (numbers_of bounds.answers found) less lower in
      let numbers = numbers_are value bounds.answers g exact.shape.answers_are in
      let first = first_bit it.0 value g (subst (λ ns. IsBefore (map (number_in it.0) (g.words ++ g.answers)) ns) numbers before) in
      none_lower it.0 first.0 first.1 it.2

  fixed_are : AreFixed g budget found fixed
  fixed_are = record {
    parts = lowest.parts ∙ ap parts_of (sym (ap settings (bits_are value g) ∙ settings_are value (in_order g)));
    refuted = lowest.refuted;
    unset = subst (All (λ (bit : InputBit). bit.0 ≡ None → bit.1 ≡ false)) (sym (bits_are value g)) (unset value (in_order g));
  }

  pub found_least : IsFoundLeast parts f p plan bounds ends goal budget found g fixed
  found_least = record {
    least = record { given = given; hits = hits; least = least };
    answers = answers_count value bounds.answers g exact.shape.answers_are;
    exact = exact;
    fixed_are = fixed_are;
  }
