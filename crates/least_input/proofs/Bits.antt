-- The bits of the input whose numbers an assignment gives, in the order in which they decide.
use Rattle.std.proofs.Common.{◌≡◌, ℕ, Bool, false, List, [], ◌∷◌, ◌++◌, length, map, Option, Some, None, All, refl, sym, ap, ◌∙◌}
use Rattle.std.specs.Prelude.{reverse}
use Rattle.std.specs.List.{filter_map, flat_map, zip}
use Rattle.std.proofs.lemmas.List.{length-map, map-append}
use Rattle.std.proofs.lemmas.List.Elements.{All-map}
use Rattle.goal_formula_laws.proofs.formula_laws.Rows.{low_bits_of_number}
use Rattle.goal_formula.specs.Bits.{bit_in, number_in}
use Rattle.goal_formula.specs.declared.goal.GoalFormula.{GoalFormula}
use Rattle.unwinder.specs.input_words.Worlds.{low_bits}
use Rattle.path_runner.specs.Masks.{number_of_bits}
use Rattle.least_input.specs.Fixing.{InputBit, bits_of, literal_of, row_bits, rows_bits, settings}
use Rattle.least_input.specs.Parts.{numbers_in, set_as}
use Rattle.least_input.proofs.Rows.{mapped_turned}

-- the bits of all rows, in the order in which they decide
abbrev pub in_order : GoalFormula → List (Option ℕ)
in_order g = flat_map reverse g.words ++ flat_map reverse g.answers

module _ (value : ℕ → Bool) where
  -- a bit with its value
  abbrev pub with_value : Option ℕ → InputBit
  with_value v = (v, bit_in value v)

  zipped : (row : List (Option ℕ)) → zip row (map (bit_in value) row) ≡ map with_value row
  zipped [] = refl
  zipped (v ∷ row) = ap (λ bits. with_value v ∷ bits) (zipped row)

  row_is : (row : List (Option ℕ)) → row_bits row (number_in value row) ≡ map with_value (reverse row)
  row_is row =
      let bits = map (bit_in value) row in
      let long : length row ≡ length bits = sym (length-map row (bit_in value)) in
      let own : low_bits (length row) (number_of_bits bits) ≡ bits = ap (λ n. low_bits n (number_of_bits bits)) long ∙ low_bits_of_number bits in
      ap (λ bs. reverse (zip row bs)) own ∙ ap reverse (zipped row) ∙ sym (mapped_turned with_value row)

  rows_are : (rows : List (List (Option ℕ))) → rows_bits rows (map (number_in value) rows) ≡ map with_value (flat_map reverse rows)
  rows_are [] = refl
  rows_are (row ∷ rows) =
      ap (λ bits. bits ++ rows_bits rows (map (number_in value) rows)) (row_is row)
      ∙ ap (λ bits. map with_value (reverse row) ++ bits) (rows_are rows)
      ∙ sym (map-append with_value (reverse row) (flat_map reverse rows))

  pub bits_are : (g : GoalFormula) → bits_of g (numbers_in value g) ≡ map with_value (in_order g)
  bits_are g =
      ap (λ bits. bits ++ rows_bits g.answers (map (number_in value) g.answers)) (rows_are g.words)
      ∙ ap (λ bits. map with_value (flat_map reverse g.words) ++ bits) (rows_are g.answers)
      ∙ sym (map-append with_value (flat_map reverse g.words) (flat_map reverse g.answers))

  pub settings_are : (vs : List (Option ℕ)) → settings (map with_value vs) ≡ set_as value (filter_map (λ v. v) vs)
  settings_are [] = refl
  settings_are (None ∷ vs) = settings_are vs
  settings_are (Some n ∷ vs) = ap (λ xs. literal_of (value n) n ∷ xs) (settings_are vs)

  pub unset : (vs : List (Option ℕ)) → All (λ (bit : InputBit). bit.0 ≡ None → bit.1 ≡ false) (map with_value vs)
  unset vs = All-map (λ (bit : InputBit). bit.0 ≡ None → bit.1 ≡ false) with_value vs (λ k d lt e. ap (bit_in value) e)
