use Rattle.std.proofs.Common.{ap, sym, ◌∙◌}
use Rattle.c_lex.specs.Pieces.{closing, closes}
use Rattle.std.proofs.lemmas.List.{take_rest}
use Rattle.c_lex.proofs.Loops.{goes_on_at, found_at, none_after, closing_here, closing_later, closing_nothing}
use Rattle.c_lex.proofs.piece.closing.Goals as goal

pub returns-then-closes : goal.returns-then-closes
returns-then-closes c = found_at closing c.args.text.now c.loop-i.i _ c.loop-i.invariant 2 c.loop-i-test.true (closing_here c.args.text.now c.loop-i.i c.loop-i-test.true (sym (ap closes (take_rest c.args.text.now c.loop-i.i)) ∙ sym c.closes.ensures ∙ c.if-closes.true))

pub loop-i-preserved : goal.loop-i-preserved
loop-i-preserved c = goes_on_at closing c.args.text.now c.loop-i.i _ c.loop-i.invariant closing c.loop-i-test.true (closing_later c.args.text.now c.loop-i.i c.loop-i-test.true (sym (ap closes (take_rest c.args.text.now c.loop-i.i)) ∙ sym c.closes.ensures ∙ c.if-closes.false))

pub returns : goal.returns
returns c = none_after closing c.args.text.now c.loop-i.i _ c.loop-i.invariant c.loop-i-test.false closing_nothing
