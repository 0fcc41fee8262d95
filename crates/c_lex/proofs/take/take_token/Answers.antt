use Rattle.std.proofs.Common.{ap, sym, ◌∙◌, subst, ℕ, List}
use Rattle.c_lex.specs.Constants.{token_kind}
use Rattle.fq_core.specs.Refusals.{refusal}
use Rattle.c_lex.specs.Lexed.{too_wide}
use Rattle.c_lex.specs.Taking.{TokenTaken}
use Rattle.c_lex.proofs.TakenLaws.{token_memory, plain_taken}
use Rattle.c_lex.proofs.take.take_token.Goals as goal

pub returns-in_default : goal.returns-in_default
returns-in_default c = rw (c.refusal.ensures ∙ ap (refusal 13) c.line_of_span.ensures) (too_wide (sym c.in_default.ensures))

pub returns-in_err-new : goal.returns-in_err-new
returns-in_err-new c = token_memory _ _ _ c.args.output.now c.args.output.now c.from_residual.result c.from_residual.ensures.1

pub returns-in-None : goal.returns-in-None
returns-in-None c =
    subst (λ (bytes : List ℕ). TokenTaken c.args.table.now.macros.items bytes c.args.span c.args.output.now c.take_plain.new.output c.take_plain.result) c.in_ok-new.ensures
    (plain_taken c.args.table.now.macros.items (record { kind = c.in-Some.kind; text = c.in_ok-new.field-0 }) c.args.span c.args.output.now c.take_plain.new.output
    (ap token_kind c.in_ok-new.ensures ∙ sym c.in-Some.ensures) (sym c.in-None.ensures) c.take_plain.result c.take_plain.ensures)
