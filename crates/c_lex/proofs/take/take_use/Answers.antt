use Rattle.std.proofs.Common.{ap, ◌∙◌}
use Rattle.fq_core.specs.Refusals.{refusal}
use Rattle.c_lex.proofs.TakingLaws.{found}
use Rattle.c_lex.proofs.TakenLaws.{token_memory, use_done, use_loops, use_passed}
use Rattle.c_lex.proofs.take.take_use.Goals as goal

pub returns-in_err-expand : goal.returns-in_err-expand
returns-in_err-expand c = token_memory _ _ _ c.args.output.now c.expand.new.output c.from_residual.result c.from_residual.ensures.1

pub returns-in_err-loops-in-Passed : goal.returns-in_err-loops-in-Passed
returns-in_err-loops-in-Passed c = token_memory _ _ _ c.args.output.now c.expand.new.output c.from_residual-in_err-loops-in-Passed.result c.from_residual-in_err-loops-in-Passed.ensures.1

pub returns-in-Done : goal.returns-in-Done
returns-in-Done c =
    use_done c.args.table.now.macros.items c.args.word.now c.args.span c.args.output.now c.expand.new.output c.requires.kind (rw c.in-Done.is at c.in_ok-expand.ensures)

pub returns-then-branch : goal.returns-then-branch
returns-then-branch c =
    rw (c.refusal.ensures ∙ ap (refusal 14) c.line_of_span.ensures) (use_loops c.args.table.now.macros.items c.args.word.now c.args.span c.args.output.now c.expand.new.output c.requires.kind c.args.index c.requires.index
    c.in_ok-loops-in-Passed.field-0 c.in_ok-loops-in-Passed.ensures c.if-branch.true)

pub returns-else-branch : goal.returns-else-branch
returns-else-branch c =
    rw c.past_limit.ensures (use_passed c.args.table.now.macros.items c.args.word.now c.args.span c.args.output.now c.expand.new.output c.requires.kind c.args.index c.requires.index
    c.in_ok-loops-in-Passed.field-0 c.in_ok-loops-in-Passed.ensures c.if-branch.false (rw c.in-Passed.is at c.in_ok-expand.ensures))

pub loops-requires-clause-index : goal.loops-requires-clause-index
loops-requires-clause-index c = (found c.args.table.now.macros.items c.args.word.now.text c.args.index c.requires.index).within
