-- The inputs that are printed as JSON are read again.
use Rattle.std.proofs.Common.{◌≡◌, ℕ, suc, ◌+◌, ◌-◌, ◌<◌, ◌≤◌, ◌^◌, Bool, true, false, List, [], ◌∷◌, All, length, map, Option, Some, refl, sym, ap, subst, ⊎_elim, arith, negsuc}
use Rattle.std.specs.Prelude.{◌==◌, nat_le, slice_get, Ok}
use Rattle.std.specs.Option.{option_map_or}
use Rattle.std.specs.List.{AllZip}
use Rattle.std.proofs.lemmas.Bool.{eq-eqb, le-leb}
use Rattle.std.proofs.lemmas.Int.{ints}
use Rattle.std.proofs.lemmas.Slice.Zip.{AllZip-long}
use Rattle.c_meaning.specs.declared.input.Input.{Input}
use Rattle.c_values.proofs.Fitting.{twos_cases, value_parts}
use Rattle.c_values.specs.Kind.{IsValue, number_of, reading, twos_complement}
use Rattle.c_values.specs.declared.kinds.Kind.{Kind}
use Rattle.cfa.specs.declared.parts.Function.{Function}
use Rattle.cfa.specs.declared.parts.GraphParts.{GraphParts}
use Rattle.input_text.specs.Json.{object_input, object_parts, word_of, word_of_number, words_of_items}
use Rattle.input_text.specs.Outcome.{most_inputs, numbered}
use Rattle.input_text.specs.Printed.{answers_data, arguments_data, input_data, word_data}
use Rattle.path_runner.specs.Paths.{record_of}
use Rattle.report.specs.GeneratedJson.{inputs_data}
use Rattle.report.specs.Made.{parameter_kinds}
use Rattle.serde_json.specs.Find.{of_integer}
use Rattle.serde_json.specs.View.{items_of}
use Rattle.command.specs.Runs.{EntryFunction}
use Rattle.command_laws.specs.due_laws.Printed.{PrintedInputsAreRead}

-- ---- words

twos_read : (word : ℕ) → word < 2 ^ 64 → word_of_number (of_integer (twos_complement 64 word)) ≡ Some word
twos_read word h =
    ⊎_elim
    (λ c. rw c.1 refl)
    (λ c. let high = c.0 in
    let is : twos_complement 64 word ≡ negsuc (2 ^ 64 - 1 - word) = (let f = c.1 in omega (arith, ints)) in
    rw is (ap Some (omega (arith, ints))))
    (twos_cases 64 word)

reading_read : (signed : Bool) (word : ℕ) → word < 2 ^ 64 → word_of_number (of_integer (reading signed 64 word)) ≡ Some word
reading_read true word h = twos_read word h
reading_read false word h = refl

word_read : (kind : Kind) (word : ℕ) → IsValue kind word → word_of (word_data kind word) ≡ Some word
unfolding number_of
word_read kind word fits = reading_read kind.signed word (value_parts kind word fits).pattern

arguments_read : (kinds : List Kind) (words : List ℕ) → AllZip IsValue kinds words → words_of_items (items_of (arguments_data words kinds)) ≡ Some words
arguments_read [] [] fit = refl
arguments_read [] (w ∷ words) fit = absurd fit
arguments_read (k ∷ kinds) [] fit = absurd fit
arguments_read (k ∷ kinds) (w ∷ words) fit = rw (word_read k w fit.0, arguments_read kinds words fit.1) refl

answers_read : (taken : List (Kind × ℕ)) → All (λ (a : Kind × ℕ). IsValue a.0 a.1) taken → words_of_items (items_of (answers_data taken)) ≡ Some (map (λ (a : Kind × ℕ). a.1) taken)
answers_read [] fit = refl
answers_read (a ∷ taken) fit =
    let here = word_read a.0 a.1 (fit 0 a (omega arith)) in
    let rest = answers_read taken (λ n b l. fit (suc n) b (omega (arith, l))) in
    rw (here, rest) refl

-- ---- an input

input_read : (kinds : List Kind) (input : Input) (taken : List (Kind × ℕ)) → AllZip IsValue kinds input.words → All (λ (a : Kind × ℕ). IsValue a.0 a.1) taken
    → map (λ (a : Kind × ℕ). a.1) taken ≡ input.answers → object_input (length kinds) (input_data input kinds taken) ≡ Ok input
input_read kinds input taken words answers same =
    let long : (length input.words == length kinds) ≡ true = rw (AllZip-long IsValue kinds input.words words) (eq-eqb (length kinds) (length kinds) refl) in
    rw (arguments_read kinds input.words words, answers_read taken answers, long) (ap (λ (ns : List ℕ). Ok (record { words = input.words; answers = ns })) same)

-- ---- all of them

numbered_all : (number : ℕ) (inputs : List Input) → number + length inputs ≤ most_inputs + 1 → numbered number (map Ok inputs) ≡ Ok inputs
numbered_all number [] h = refl
numbered_all number (input ∷ inputs) h =
    let few : nat_le number most_inputs ≡ true = le-leb number most_inputs (omega (arith, h)) in
    rw (few, numbered_all (number + 1) inputs (omega (arith, h))) refl

-- an input, with the answers that its run takes, has values alone
record IsPrintable (kinds : List Kind) (input : Input) (taken : List (Kind × ℕ)) : Type 0 where
  words : AllZip IsValue kinds input.words
  values : All (λ (a : Kind × ℕ). IsValue a.0 a.1) taken
  answers : map (λ (a : Kind × ℕ). a.1) taken ≡ input.answers

abbrev ArePrintable : List Kind → List Input → List (List (Kind × ℕ)) → Type 0
ArePrintable kinds [] takens = Unit {0}
ArePrintable kinds (input ∷ inputs) [] = ⊥
ArePrintable kinds (input ∷ inputs) (taken ∷ takens) = IsPrintable kinds input taken × ArePrintable kinds inputs takens

parts_read : (kinds : List Kind) (inputs : List Input) (takens : List (List (Kind × ℕ))) → ArePrintable kinds inputs takens → object_parts (length kinds) (items_of (inputs_data kinds inputs takens)) ≡ map Ok inputs
parts_read kinds [] takens h = refl
parts_read kinds (input ∷ inputs) [] h = absurd h
parts_read kinds (input ∷ inputs) (taken ∷ takens) h =
    rw (input_read kinds input taken h.0.words h.0.values h.0.answers, parts_read kinds inputs takens h.1) refl

pub same_taken : (a b : List (Kind × ℕ)) → (let x : Option (List (Kind × ℕ)) = Some a in let y : Option (List (Kind × ℕ)) = Some b in x ≡ y) → a ≡ b
same_taken a b e = cc

are_printable : (kinds : List Kind) (inputs : List Input) (takens : List (List (Kind × ℕ))) → length takens ≡ length inputs
    → ((place : ℕ) (input : Input) → slice_get inputs place ≡ Some input → (taken : List (Kind × ℕ)) × (slice_get takens place ≡ Some taken) × IsPrintable kinds input taken) → ArePrintable kinds inputs takens
are_printable kinds [] takens long each = tt
are_printable kinds (input ∷ inputs) [] long each = absurd (omega (arith, long))
are_printable kinds (input ∷ inputs) (taken ∷ takens) long each =
    let here = each 0 input refl in (
      subst (λ (t : List (Kind × ℕ)). IsPrintable kinds input t) (sym (same_taken taken here.0 here.1)) here.2,
      are_printable kinds inputs takens (omega (arith, long)) (λ place other e. each (suc place) other e),
    )

pub own_kinds : (graph : GraphParts) (entry : EntryFunction) → slice_get graph.functions entry.number ≡ Some entry.function → parameter_kinds graph entry.number ≡ entry.function.parameters
own_kinds graph entry e = ap (λ (o : Option Function). option_map_or (λ (f : Function). f.parameters) o []) e

pub printed_inputs_are_read : PrintedInputsAreRead
printed_inputs_are_read graph entry p plan bounds ends budget made shown there generated few =
    let kinds = entry.function.parameters in
    let printable = are_printable kinds made.inputs made.taken generated.answered.taken_count (λ place input e.
    let measured = generated.answered.inputs place input e in
    let is = measured.is_made in
    ((record_of graph input p measured.run).taken, measured.taken, record { words = is.words_fit; values = is.answers_fit; answers = is.answers })) in
    rw (own_kinds graph entry there, parts_read kinds made.inputs made.taken printable) (numbered_all 1 made.inputs (omega (arith, few)))
