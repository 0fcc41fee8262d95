-- The lines of the inputs that were made.
use Rattle.std.proofs.Common.{◌≡◌, ℕ, ◌+◌, ◌<◌, ◌≤◌, ◌^◌, List, [], ◌∷◌, ◌++◌, All, length, refl, arith, length-append}
use Rattle.std.specs.Prelude.{codes}
use Rattle.std.specs.Fmt.{decimal}
use Rattle.std.specs.List.{AllZip, flat_map}
use Rattle.std.proofs.lemmas.List.Elements.{All-append, All-cons, All-head, All-nil, All-tail}
use Rattle.c_meaning.specs.declared.input.Input.{Input}
use Rattle.c_values.proofs.Fitting.{value_parts}
use Rattle.c_values.specs.Kind.{IsValue}
use Rattle.c_values.specs.declared.kinds.Kind.{Kind}
use Rattle.report.specs.Ends.{spaced_value}
use Rattle.report.specs.Made.{arguments_text, made_line, made_lines, made_text, taken_text}
use Rattle.trace_file.proofs.NumberLaws.{Lacks, decimal_lacks, lacks_by, value_written}
use Rattle.command_laws.specs.report_laws.Laws.{IsInLine, line_of_input}

-- what stands behind the word in the line of an input
abbrev behind_word : List Kind → ℕ → Input → List (Kind × ℕ) → List ℕ
behind_word kinds number input taken = codes " " ++ decimal number ++ made_text kinds input taken

abbrev pub behind_words : List Kind → ℕ → List Input → List (List (Kind × ℕ)) → List (List ℕ)
behind_words kinds number (input ∷ inputs) (taken ∷ rest) = behind_word kinds number input taken ∷ behind_words kinds (number + 1) inputs rest
behind_words kinds number [] rest = []
behind_words kinds number (input ∷ inputs) [] = []

one_line : (kinds : List Kind) (number : ℕ) (input : Input) (taken : List (Kind × ℕ)) → made_line kinds number input taken ≡ line_of_input (behind_word kinds number input taken)
one_line kinds number input taken = refl

pub lines_are : (kinds : List Kind) (number : ℕ) (inputs : List Input) (all : List (List (Kind × ℕ))) → made_lines kinds number inputs all ≡ flat_map line_of_input (behind_words kinds number inputs all)
lines_are kinds number [] all = refl
lines_are kinds number (input ∷ inputs) [] = refl
lines_are kinds number (input ∷ inputs) (taken ∷ rest) =
    let here = one_line kinds number input taken in
    let more = lines_are kinds (number + 1) inputs rest in
    λ i. here i ++ more i

-- ---- no byte of them ends a line

value_in_line : (kind : Kind) (word : ℕ) → IsValue kind word → IsInLine (spaced_value kind word)
value_in_line kind word is =
    let written = value_written kind word (value_parts kind word is).pattern in
    All-append (Lacks 10) (codes " ") _ (lacks_by 10 (codes " ") refl) (written.lacks 10 (omega arith))

arguments_in_line : (words : List ℕ) (kinds : List Kind) → AllZip IsValue kinds words → IsInLine (arguments_text words kinds)
arguments_in_line [] kinds fit = All-nil (Lacks 10)
arguments_in_line (word ∷ words) [] fit = All-nil (Lacks 10)
arguments_in_line (word ∷ words) (kind ∷ kinds) fit =
    All-append (Lacks 10) (spaced_value kind word) (arguments_text words kinds) (value_in_line kind word fit.0) (arguments_in_line words kinds fit.1)

abbrev pub IsAnswered : Kind × ℕ → Type 0
IsAnswered answer = IsValue answer.0 answer.1

answers_in_line : (taken : List (Kind × ℕ)) → All IsAnswered taken → IsInLine (flat_map (λ (answer : Kind × ℕ). spaced_value answer.0 answer.1) taken)
answers_in_line [] fit = All-nil (Lacks 10)
answers_in_line (answer ∷ taken) fit =
    All-append (Lacks 10) (spaced_value answer.0 answer.1) (flat_map (λ (answer : Kind × ℕ). spaced_value answer.0 answer.1) taken) (value_in_line answer.0 answer.1 (All-head IsAnswered answer taken fit))
    (answers_in_line taken (All-tail IsAnswered answer taken fit))

taken_in_line : (taken : List (Kind × ℕ)) → All IsAnswered taken → IsInLine (taken_text taken)
taken_in_line [] fit = All-nil (Lacks 10)
taken_in_line (answer ∷ taken) fit =
    All-append (Lacks 10) (codes " answers") (flat_map (λ (answer : Kind × ℕ). spaced_value answer.0 answer.1) (answer ∷ taken)) (lacks_by 10 (codes " answers") refl) (answers_in_line (answer ∷ taken) fit)

-- an input with values of its kinds, and answers that are values of theirs
pub record AreValues (kinds : List Kind) (input : Input) (taken : List (Kind × ℕ)) : Type 0 where
  pub words : AllZip IsValue kinds input.words
  pub answers : All IsAnswered taken

made_in_line : (kinds : List Kind) (input : Input) (taken : List (Kind × ℕ)) → AreValues kinds input taken → IsInLine (made_text kinds input taken)
made_in_line kinds input taken fit =
    All-append (Lacks 10) (codes " args") (arguments_text input.words kinds ++ taken_text taken) (lacks_by 10 (codes " args") refl)
    (All-append (Lacks 10) (arguments_text input.words kinds) (taken_text taken) (arguments_in_line input.words kinds fit.words) (taken_in_line taken fit.answers))

word_in_line : (kinds : List Kind) (number : ℕ) (input : Input) (taken : List (Kind × ℕ)) → number < 2 ^ 64 → AreValues kinds input taken → IsInLine (behind_word kinds number input taken)
word_in_line kinds number input taken small fit =
    let low : 10 < 45 = omega arith in
    All-append (Lacks 10) (codes " ") (decimal number ++ made_text kinds input taken) (lacks_by 10 (codes " ") refl)
    (All-append (Lacks 10) (decimal number) (made_text kinds input taken) (decimal_lacks 10 low number small) (made_in_line kinds input taken fit))

pub words_in_line : (kinds : List Kind) (number : ℕ) (inputs : List Input) (all : List (List (Kind × ℕ))) → number + length inputs < 2 ^ 64 → AllZip (AreValues kinds) inputs all
    → All IsInLine (behind_words kinds number inputs all)
words_in_line kinds number [] all small fit = All-nil IsInLine
words_in_line kinds number (input ∷ inputs) [] small fit = All-nil IsInLine
words_in_line kinds number (input ∷ inputs) (taken ∷ rest) small fit =
    All-cons IsInLine (behind_word kinds number input taken) (behind_words kinds (number + 1) inputs rest) (word_in_line kinds number input taken (omega (arith, small)) fit.0)
    (words_in_line kinds (number + 1) inputs rest (omega (arith, small)) fit.1)

-- ---- there are fewer of them than bytes

pub inputs_short : (kinds : List Kind) (number : ℕ) (inputs : List Input) (all : List (List (Kind × ℕ))) → length all ≡ length inputs → length inputs ≤ length (made_lines kinds number inputs all)
inputs_short kinds number [] all count = omega arith
inputs_short kinds number (input ∷ inputs) [] count = absurd (omega (arith, count))
inputs_short kinds number (input ∷ inputs) (taken ∷ rest) count =
    let more = inputs_short kinds (number + 1) inputs rest (omega (arith, count)) in
    let both = length-append (made_line kinds number input taken) (made_lines kinds (number + 1) inputs rest) in
    omega (arith, more, both)
