-- Texts that aren't refused have few inputs, each with as many words as there are parameters.
use Rattle.std.proofs.Common.{◌≡◌, ◌≤◌, ◌<◌, ℕ, zero, suc, ◌+◌, Bool, true, false, cond, List, [], ◌∷◌, ◌++◌, length, map, refl, sym, ◌∙◌, ap, arith, All}
use Rattle.std.specs.Prelude.{◌==◌, nat_le, Option, Some, None, Result, Ok, Err, ⊤}
use Rattle.std.specs.Option.{option_map_or}
use Rattle.std.proofs.lemmas.Bool.{eqb-true, leb-true}
use Rattle.std.proofs.lemmas.List.{length-map}
use Rattle.containers.specs.Lists.{all_there, before}
use Rattle.fq_core.specs.Word.{word_of_text}
use Rattle.serde_json.specs.Data.{Data, Items, item, no_items}
use Rattle.c_meaning.specs.declared.input.Input.{Input}
use Rattle.input_text.specs.declared.misfit.Misfit.{Misfit}
use Rattle.input_text.specs.declared.misfit.Misfit.TheVariants as misfit
use Rattle.input_text.specs.Inputs.{begins_array, inputs_of, inputs_of_array}
use Rattle.input_text.specs.Json.{answers_of, arguments_of, array_of, input_from, input_with, object_parts}
use Rattle.input_text.specs.Laws.{HasWords}
use Rattle.input_text.specs.Lines.{filled, input_of, line_input, line_parts, lines_of, misfit_in, texts_in, word_in, words_in}
use Rattle.input_text.specs.Outcome.{Outcome, after, most_inputs, numbered}

module _ (parameters : ℕ) where
  abbrev PartFits : Result Input Misfit → Type 0
  PartFits (Ok input) = HasWords parameters input
  PartFits (Err wrong) = ⊤

  abbrev AllFit : List (Result Input Misfit) → Type 0
  AllFit [] = ⊤
  AllFit (part ∷ parts) = PartFits part × AllFit parts

  all_with : (input : Input) (more : List Input) → HasWords parameters input → All (HasWords parameters) more → All (HasWords parameters) (input ∷ more)
  all_with input more here there zero d within = here
  all_with input more here there (suc k) d within = there k d (omega arith)

  -- these are few inputs, from a number on, and each fits
  abbrev Few : ℕ → List Input → Type 0
  Few n inputs = (length inputs + n ≤ 10001) × All (HasWords parameters) inputs

  one_more : (n : ℕ) (input : Input) (rest : Outcome) (inputs : List Input) → HasWords parameters input
      → ((more : List Input) → rest ≡ Ok more → Few (n + 1) more) → after (input ∷ []) rest ≡ Ok inputs → Few n inputs
  one_more n input (Err refusal) inputs here there is = cc
  one_more n input (Ok more) inputs here there is =
      let same : input ∷ more ≡ inputs = cc in
      let few = there more refl in
      rw (← same) (omega (arith, few.0), all_with input more here few.1)

  counted : (n : ℕ) (input : Input) (rest other : Outcome) (inputs : List Input) (room : Bool) → nat_le n most_inputs ≡ room → HasWords parameters input
      → ((more : List Input) → n + 1 ≤ 10001 → rest ≡ Ok more → Few (n + 1) more) → (other ≡ Ok inputs → ⊥)
      → cond room (after (input ∷ []) rest) other ≡ Ok inputs → Few n inputs
  counted n input rest other inputs false test here there not is = absurd (not is)
  counted n input rest other inputs true test here there not is =
      let low : n ≤ 10000 = leb-true n 10000 test in
      one_more n input rest inputs here (λ more same. there more (omega arith) same) is

  numbered_few : (n : ℕ) (parts : List (Result Input Misfit)) (inputs : List Input) → AllFit parts → n ≤ 10001 → numbered n parts ≡ Ok inputs → Few n inputs
  numbered_few n [] inputs fit low is =
      let none : [] ≡ inputs = cc in
      rw (← none) (omega arith, λ k d within. absurd (omega arith))
  numbered_few n (Err wrong ∷ parts) inputs fit low is = cc
  numbered_few n (Ok input ∷ parts) inputs fit low is =
      counted n input (numbered (n + 1) parts) _ inputs _ refl fit.0 (λ more low' same. numbered_few (n + 1) parts more fit.1 low' same) (λ refused. cc) is

  -- ---- lines

  before_length : {A : Type 0} (x : A) (rest : Option (List A)) (ys : List A) (count : ℕ) → ((zs : List A) → rest ≡ Some zs → length zs ≡ count)
      → before (Some x) rest ≡ Some ys → length ys ≡ suc count
  before_length x None ys count there is = cc
  before_length x (Some zs) ys count there is = let same : x ∷ zs ≡ ys = cc in rw (← same) (ap suc (there zs refl))

  all_there_length : {A : Type 0} (xs : List (Option A)) (ys : List A) → all_there xs ≡ Some ys → length ys ≡ length xs
  all_there_length [] ys is = let same : [] ≡ ys = cc in rw (← same) refl
  all_there_length (None ∷ xs) ys is = cc
  all_there_length (Some x ∷ xs) ys is = before_length x (all_there xs) ys (length xs) (λ zs same. all_there_length xs zs same) is

  words_fit : (texts : List (List ℕ)) (words : Option (List ℕ)) (wrong : Misfit) → words_in texts ≡ words → length texts ≡ parameters
      → PartFits (option_map_or (λ (ws : List ℕ). Ok (input_of ws)) words (Err wrong))
  words_fit texts None wrong is many = tt
  words_fit texts (Some words) wrong is many =
      let long = all_there_length (map (λ text. word_in (word_of_text text)) texts) words is in
      rw (length-map texts (λ text. word_in (word_of_text text))) at long ∙ many

  line_fits : (texts : List (List ℕ)) (same : Bool) → (length texts == parameters) ≡ same
      → PartFits (cond same (option_map_or (λ (ws : List ℕ). Ok (input_of ws)) (words_in texts) (Err (misfit_in texts))) (Err misfit.Shape))
  line_fits texts true is = words_fit texts _ _ refl (eqb-true (length texts) parameters is)
  line_fits texts false is = tt

  rows_fit : (rows : List (List (List ℕ))) → AllFit (map (line_input parameters) rows)
  rows_fit [] = tt
  rows_fit (texts ∷ rows) = (line_fits texts _ refl, rows_fit rows)

  -- ---- JSON

  counted_fits : (words answers : List ℕ) (same : Bool) → (length words == parameters) ≡ same
      → PartFits (cond same (Ok (input_with words answers)) (Err misfit.Shape))
  counted_fits words answers true is = eqb-true (length words) parameters is
  counted_fits words answers false is = tt

  input_fits : (words answers : Option (List ℕ)) → PartFits (input_from parameters words answers)
  input_fits None answers = tt
  input_fits (Some words) None = tt
  input_fits (Some words) (Some answers) = counted_fits words answers _ refl

  objects_fit : (items : Items) → AllFit (object_parts parameters items)
  objects_fit no_items = tt
  objects_fit (item d ds) = (input_fits (arguments_of d) (answers_of d), objects_fit ds)

  array_few : (items : Option Items) (inputs : List Input) → inputs_of_array parameters items ≡ Ok inputs → Few 1 inputs
  array_few None inputs is = cc
  array_few (Some items) inputs is = numbered_few 1 (object_parts parameters items) inputs (objects_fit items) (omega arith) is

  form_few : (bytes : List ℕ) (inputs : List Input) (form : Bool)
      → cond form (inputs_of_array parameters (array_of bytes)) (numbered 1 (line_parts parameters bytes)) ≡ Ok inputs → Few 1 inputs
  form_few bytes inputs true is = array_few (array_of bytes) inputs is
  form_few bytes inputs false is = numbered_few 1 (line_parts parameters bytes) inputs (rows_fit (filled (map texts_in (lines_of bytes)))) (omega arith) is

pub accepted_fit : (parameters : ℕ) (bytes : List ℕ) (inputs : List Input) → inputs_of parameters bytes ≡ Ok inputs
    → (length inputs ≤ most_inputs) × All (HasWords parameters) inputs
accepted_fit parameters bytes inputs is = let few = form_few parameters bytes inputs (begins_array bytes) is in (omega (arith, few.0), few.1)
