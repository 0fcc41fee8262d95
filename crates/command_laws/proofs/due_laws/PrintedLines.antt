-- The inputs that are printed as text are read again.
use Rattle.std.proofs.Common.{◌≡◌, ℕ, List, All, length, map, Some, sym, ap, subst, ◌∙◌}
use Rattle.c_values.specs.Kind.{IsValue}
use Rattle.c_values.specs.declared.kinds.Kind.{Kind}
use Rattle.input_text.specs.Lines.{line_input, texts_in}
use Rattle.report.specs.Made.{arguments_text}
use Rattle.command_laws.proofs.printed_laws.Numbers.{arguments_read, taken_read}
use Rattle.command_laws.proofs.due_laws.Printed.{own_kinds, same_taken}
use Rattle.command_laws.specs.due_laws.Printed.{PrintedLinesAreRead}

abbrev value_of : Kind × ℕ → ℕ
value_of answer = answer.1

abbrev IsAnswer : Kind × ℕ → Type 0
IsAnswer answer = IsValue answer.0 answer.1

pub printed_lines_are_read : PrintedLinesAreRead
printed_lines_are_read graph entry p plan bounds ends budget made shown place input taken there generated input_is taken_is =
    let measured = generated.answered.inputs place input input_is in
    let is = measured.is_made in
    let same = same_taken _ taken (sym measured.taken ∙ taken_is) in
    let kinds = own_kinds graph entry there in (
      ap (λ (ks : List Kind). line_input (length entry.function.parameters) (texts_in (arguments_text input.words ks))) kinds ∙ arguments_read entry.function.parameters input.words is.words_fit,
      taken_read taken (subst (λ (t : List (Kind × ℕ)). All IsAnswer t) same is.answers_fit)
          ∙ ap Some (ap (λ (t : List (Kind × ℕ)). map value_of t) (sym same) ∙ is.answers),
    )
