-- The numbers of the bits of inputs.
use Rattle.std.proofs.Common.{◌≡◌, ℕ, zero, suc, ◌+◌, ◌%◌, ◌^◌, ◌≤◌, ◌<◌, Bool, true, false, List, [], ◌∷◌, ◌++◌, length, map, replicate, Option, Some, None, All, refl, sym, ap, subst, ◌∙◌, arith, length-append}
use Rattle.std.proofs.Math.Nat.{mod-eq_of_lt, mod-le}
use Rattle.std.specs.Prelude.{IsTrue}
use Rattle.std.specs.List.{AllZip, flat_map}
use Rattle.std.proofs.lemmas.List.{length-map, map-append}
use Rattle.std.proofs.lemmas.List.Elements.{All-head, All-map, All-tail}
use Rattle.c_meaning.specs.Starts.{fitted, fitted_words}
use Rattle.c_meaning.specs.declared.input.Input.{Input}
use Rattle.c_values.proofs.Bits.{width_below}
use Rattle.c_values.specs.Kind.{IsKind, fit, pattern_of, residue, wrapped}
use Rattle.c_values.specs.declared.kinds.Kind.{Kind}
use Rattle.circuit.specs.Truth.{World}
use Rattle.goal_formula_laws.proofs.formula_laws.Orders.{fewer_bits}
use Rattle.goal_formula_laws.proofs.formula_laws.Rows.{number_of_low_bits}
use Rattle.goal_formula.proofs.InputWorlds.{number_few}
use Rattle.goal_formula.specs.Bits.{Gives, IsShaped, bit_in, input_from, input_variables, number_in, words_in}
use Rattle.goal_formula.specs.declared.goal.GoalFormula.{GoalFormula}
use Rattle.unwinder.proofs.input_words.WorldLemmas.{answer_bits-cons, argument_bits-cons, length-argument_bits, length-low_bits, low_bits-fitted, total_width-cons}
use Rattle.unwinder.specs.input_words.Worlds.{answer_bits, argument_bits, low_bits, total_width, world_of}
use Rattle.measurer_hits.proofs.run_laws.Fitting.{fitted-fitted}
use Rattle.least_input.specs.Order.{filled, numbers_of}
use Rattle.least_input.specs.Parts.{numbers_in, without_sign}

-- ---- words without a sign

-- a number of so many bits is what a kind of them has of it
fitted_small : (kind : Kind) (n : ℕ) → n < 2 ^ kind.width → n < 2 ^ 64 → fitted (without_sign kind) n ≡ n
unfolding wrapped fit pattern_of residue
fitted_small kind n few small = ap (λ x. x % 2 ^ 64) (mod-eq_of_lt few) ∙ mod-eq_of_lt small

pub widths_same : (kinds : List Kind) → map (λ (kind : Kind). kind.width) (map without_sign kinds) ≡ map (λ (kind : Kind). kind.width) kinds
widths_same [] = refl
widths_same (kind ∷ kinds) = ap (λ ws. kind.width ∷ ws) (widths_same kinds)

pub without_sign_kinds : (kinds : List Kind) → All IsKind kinds → All IsKind (map without_sign kinds)
without_sign_kinds kinds h = All-map IsKind without_sign kinds (λ k d lt. h k d lt)

abbrev AreWide : List Kind → List (List (Option ℕ)) → Type 0
AreWide kinds rows = map length rows ≡ map (λ (kind : Kind). kind.width) kinds

first_wide : (kind : Kind) (kinds : List Kind) (row : List (Option ℕ)) (rows : List (List (Option ℕ))) → AreWide (kind ∷ kinds) (row ∷ rows) → length row ≡ kind.width
first_wide kind kinds row rows e = cc

rest_wide : (kind : Kind) (kinds : List Kind) (row : List (Option ℕ)) (rows : List (List (Option ℕ))) → AreWide (kind ∷ kinds) (row ∷ rows) → AreWide kinds rows
rest_wide kind kinds row rows e = cc

module _ (value : ℕ → Bool) where
  words_are : (kinds : List Kind) (rows : List (List (Option ℕ))) → AreWide kinds rows → All IsKind kinds → words_in value (map without_sign kinds) rows ≡ map (number_in value) rows
  words_are [] [] e h = refl
  words_are [] (row ∷ rows) e h = absurd cc
  words_are (kind ∷ kinds) [] e h = absurd cc
  words_are (kind ∷ kinds) (row ∷ rows) e h =
      let wide = first_wide kind kinds row rows e in
      let most = width_below kind (All-head IsKind kind kinds h) in
      let here = fitted_small kind (number_in value row) (number_few value row kind.width (omega (arith, wide))) (number_few value row 64 (omega (arith, wide, most))) in
      let rest = words_are kinds rows (rest_wide kind kinds row rows e) (All-tail IsKind kind kinds h) in
      λ i. here i ∷ rest i

  pub input_is : (kinds : List Kind) (g : GoalFormula) → AreWide kinds g.words → All IsKind kinds → input_from value (map without_sign kinds) g ≡ numbers_in value g
  input_is kinds g e h = let words = words_are kinds g.words e h in λ i. record { words = words i; answers = map (number_in value) g.answers }

  -- they are the same values of the parameters' kinds as the input's of an assignment
  pub same_fits : (kinds : List Kind) (rows : List (List (Option ℕ))) → All IsKind kinds → fitted_words (words_in value kinds rows) kinds ≡ fitted_words (map (number_in value) rows) kinds
  same_fits [] [] h = refl
  same_fits [] (row ∷ rows) h = refl
  same_fits (kind ∷ kinds) [] h = refl
  same_fits (kind ∷ kinds) (row ∷ rows) h =
      let here = fitted-fitted kind (number_in value row) (All-head IsKind kind kinds h) in
      let rest = same_fits kinds rows (All-tail IsKind kind kinds h) in
      λ i. here i ∷ rest i

-- ---- the numbers of an assignment are at most those of the input that it has the bits of

split_zip : {A B : Type 0} (R : A → B → Type 0) (xs ys : List A) (vs ws : List B) → length xs ≡ length vs → AllZip R (xs ++ ys) (vs ++ ws) → AllZip R xs vs × AllZip R ys ws
split_zip R [] ys [] ws e h = (tt, h)
split_zip R [] ys (v ∷ vs) ws e h = absurd (omega (arith, e))
split_zip R (x ∷ xs) ys [] ws e h = absurd (omega (arith, e))
split_zip R (x ∷ xs) ys (v ∷ vs) ws e h = let rest = split_zip R xs ys vs ws (omega (arith, e)) h.1 in ((h.0, rest.0), rest.1)

join_zip : {A B : Type 0} (R : A → B → Type 0) (xs ys : List A) (vs ws : List B) → AllZip R xs vs → AllZip R ys ws → AllZip R (xs ++ ys) (vs ++ ws)
join_zip R [] ys [] ws h k = k
join_zip R [] ys (v ∷ vs) ws h k = absurd h
join_zip R (x ∷ xs) ys [] ws h k = absurd h
join_zip R (x ∷ xs) ys (v ∷ vs) ws h k = (h.0, join_zip R xs ys vs ws h.1 k)

flat_long : (kinds : List Kind) (rows : List (List (Option ℕ))) → AreWide kinds rows → length (flat_map (λ row. row) rows) ≡ total_width kinds
flat_long [] [] e = refl
flat_long [] (row ∷ rows) e = absurd cc
flat_long (kind ∷ kinds) [] e = absurd cc
flat_long (kind ∷ kinds) (row ∷ rows) e =
    let wide = first_wide kind kinds row rows e in
    let rest = flat_long kinds rows (rest_wide kind kinds row rows e) in
    omega (arith, wide, rest, length-append row (flat_map (λ r. r) rows), total_width-cons kind kinds)

rows_long : (kinds : List Kind) (rows : List (List (Option ℕ))) (words : List ℕ) → AreWide kinds rows → length (flat_map (λ row. row) rows) ≡ length (argument_bits kinds words 0)
rows_long kinds rows words e = flat_long kinds rows e ∙ sym (length-argument_bits kinds words 0)

no_answers : (count at next : ℕ) → answer_bits count [] at ≡ answer_bits count [] next
no_answers zero at next = refl
no_answers (suc count) at next = ap (λ bits. low_bits 64 0 ++ bits) (no_answers count (at + 1) (next + 1))

module _ (value : ℕ → Bool) where
  abbrev HasBit : Option ℕ → Bool → Type 0
  HasBit v b = (n : ℕ) → v ≡ Some n → value n ≡ b

  fewer : (row : List (Option ℕ)) (w : World) → Gives value row w → AllZip (λ x y. IsTrue x → IsTrue y) (map (bit_in value) row) w
  fewer [] [] h = tt
  fewer [] (b ∷ w) h = absurd h
  fewer (v ∷ row) [] h = absurd h
  fewer (None ∷ row) (b ∷ w) h = (λ e. let own : false ≡ true = e in absurd cc, fewer row w h.1)
  fewer (Some n ∷ row) (b ∷ w) h = (λ e. sym (h.0 n refl) ∙ e, fewer row w h.1)

  row_below : (row : List (Option ℕ)) (width n : ℕ) → Gives value row (low_bits width n) → number_in value row ≤ n
  row_below row width n h =
      let few = fewer_bits (map (bit_in value) row) (low_bits width n) (fewer row (low_bits width n) h) in
      let left = number_of_low_bits width n in
      let less = mod-le n (2 ^ width) in
      omega (arith, few, left, less)

  abbrev AreBelow : List ℕ → List ℕ → Type 0
  AreBelow xs ys = AllZip (λ x y. x ≤ y) xs ys

  words_below : (kinds : List Kind) (rows : List (List (Option ℕ))) (words : List ℕ) → AreWide kinds rows → All IsKind kinds → length words ≡ length kinds
      → Gives value (flat_map (λ row. row) rows) (argument_bits kinds words 0) → AreBelow (map (number_in value) rows) words
  words_below [] [] [] e h long gives = tt
  words_below [] [] (w ∷ words) e h long gives = absurd (omega (arith, long))
  words_below [] (row ∷ rows) words e h long gives = absurd cc
  words_below (kind ∷ kinds) [] words e h long gives = absurd cc
  words_below (kind ∷ kinds) (row ∷ rows) [] e h long gives = absurd (omega (arith, long))
  words_below (kind ∷ kinds) (row ∷ rows) (w ∷ words) e h long gives =
      let own = low_bits-fitted kind w (All-head IsKind kind kinds h) in
      let bits : argument_bits (kind ∷ kinds) (w ∷ words) 0 ≡ low_bits kind.width w ++ argument_bits kinds words 0 = argument_bits-cons kind kinds w words ∙ ap (λ bs. bs ++ argument_bits kinds words 0) own in
      let here : Gives value (row ++ flat_map (λ r. r) rows) (low_bits kind.width w ++ argument_bits kinds words 0) = subst (Gives value (row ++ flat_map (λ r. r) rows)) bits gives in
      let wide = first_wide kind kinds row rows e in
      let both = split_zip HasBit row (flat_map (λ r. r) rows) (low_bits kind.width w) (argument_bits kinds words 0) (wide ∙ sym (length-low_bits kind.width w)) here in
      (row_below row kind.width w both.0, words_below kinds rows words (rest_wide kind kinds row rows e) (All-tail IsKind kind kinds h) (omega (arith, long)) both.1)

  answers_below : (count : ℕ) (rows : List (List (Option ℕ))) (answers : List ℕ) → map length rows ≡ replicate count 64
      → Gives value (flat_map (λ row. row) rows) (answer_bits count answers 0) → AreBelow (map (number_in value) rows) (filled count answers)
  answers_below zero [] answers e gives = tt
  answers_below zero (row ∷ rows) answers e gives = absurd cc
  answers_below (suc count) [] answers e gives = absurd cc
  answers_below (suc count) (row ∷ rows) [] e gives =
      let first : length row ≡ 64 = cc in
      let rest : map length rows ≡ replicate count 64 = cc in
      let bits : answer_bits (suc count) [] 0 ≡ low_bits 64 0 ++ answer_bits count [] 0 = ap (λ bs. low_bits 64 0 ++ bs) (no_answers count 1 0) in
      let here : Gives value (row ++ flat_map (λ r. r) rows) (low_bits 64 0 ++ answer_bits count [] 0) = subst (Gives value (row ++ flat_map (λ r. r) rows)) bits gives in
      let both = split_zip HasBit row (flat_map (λ r. r) rows) (low_bits 64 0) (answer_bits count [] 0) (first ∙ sym (length-low_bits 64 0)) here in
      (row_below row 64 0 both.0, answers_below count rows [] rest both.1)
  answers_below (suc count) (row ∷ rows) (a ∷ answers) e gives =
      let first : length row ≡ 64 = cc in
      let rest : map length rows ≡ replicate count 64 = cc in
      let here : Gives value (row ++ flat_map (λ r. r) rows) (low_bits 64 a ++ answer_bits count answers 0) = subst (Gives value (row ++ flat_map (λ r. r) rows)) (answer_bits-cons count a answers) gives in
      let both = split_zip HasBit row (flat_map (λ r. r) rows) (low_bits 64 a) (answer_bits count answers 0) (first ∙ sym (length-low_bits 64 a)) here in
      (row_below row 64 a both.0, answers_below count rows answers rest both.1)

  pub below : (f_parameters : List Kind) (count : ℕ) (g : GoalFormula) (x : Input) → IsShaped f_parameters count g → All IsKind f_parameters → length x.words ≡ length f_parameters
      → Gives value (input_variables g) (world_of f_parameters count x) → AreBelow (map (number_in value) (g.words ++ g.answers)) (numbers_of count x)
  below kinds count g x shape h long gives =
      let both = split_zip HasBit (flat_map (λ r. r) g.words) (flat_map (λ r. r) g.answers) (argument_bits kinds x.words 0) (answer_bits count x.answers 0) (rows_long kinds g.words x.words shape.words) gives in
      let words = words_below kinds g.words x.words shape.words h long both.0 in
      let answers = answers_below count g.answers x.answers shape.answers_are both.1 in
      subst (λ ns. AreBelow ns (numbers_of count x)) (sym (map-append (number_in value) g.words g.answers))
      (join_zip (λ x y. x ≤ y) (map (number_in value) g.words) (map (number_in value) g.answers) x.words (filled count x.answers) words answers)

-- ---- the numbers of the least input

filled_all : (count : ℕ) (ns : List ℕ) → length ns ≡ count → filled count ns ≡ ns
filled_all zero [] e = refl
filled_all zero (n ∷ ns) e = absurd (omega (arith, e))
filled_all (suc count) [] e = absurd (omega (arith, e))
filled_all (suc count) (n ∷ ns) e = ap (λ xs. n ∷ xs) (filled_all count ns (omega (arith, e)))

rows_count : (count : ℕ) (rows : List (List (Option ℕ))) → map length rows ≡ replicate count 64 → length rows ≡ count
rows_count zero [] e = refl
rows_count zero (row ∷ rows) e = absurd cc
rows_count (suc count) [] e = absurd cc
rows_count (suc count) (row ∷ rows) e = let rest : map length rows ≡ replicate count 64 = cc in ap suc (rows_count count rows rest)

pub answers_count : (value : ℕ → Bool) (count : ℕ) (g : GoalFormula) → map length g.answers ≡ replicate count 64 → length (map (number_in value) g.answers) ≡ count
answers_count value count g e = length-map g.answers (number_in value) ∙ rows_count count g.answers e

pub numbers_are : (value : ℕ → Bool) (count : ℕ) (g : GoalFormula) → map length g.answers ≡ replicate count 64 → numbers_of count (numbers_in value g) ≡ map (number_in value) (g.words ++ g.answers)
numbers_are value count g e =
    ap (λ ns. map (number_in value) g.words ++ ns) (filled_all count (map (number_in value) g.answers) (answers_count value count g e)) ∙ sym (map-append (number_in value) g.words g.answers)
