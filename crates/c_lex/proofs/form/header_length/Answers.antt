use Rattle.c_lex.specs.Scans.{header_length}
use Rattle.c_lex.proofs.Loops.{goes_on_at, found_at, none_at, none_after, header_end, header_break, header_more, header_nothing}
use Rattle.c_lex.proofs.form.header_length.Goals as goal

pub returns-then-byte-eq62 : goal.returns-then-byte-eq62
returns-then-byte-eq62 c = found_at header_length c.args.text.now c.loop-i.i _ c.loop-i.invariant 1 c.loop-i-test.true (header_end _ _ c.if-byte-eq62.true)

pub returns-then-byte-eq10 : goal.returns-then-byte-eq10
returns-then-byte-eq10 c = none_at header_length c.args.text.now c.loop-i.i _ c.loop-i.invariant c.loop-i-test.true (header_break _ _ c.if-byte-eq62.false c.if-byte-eq10.true)

pub loop-i-preserved : goal.loop-i-preserved
loop-i-preserved c = goes_on_at header_length c.args.text.now c.loop-i.i _ c.loop-i.invariant header_length c.loop-i-test.true (header_more _ _ c.if-byte-eq62.false c.if-byte-eq10.false)

pub returns : goal.returns
returns c = none_after header_length c.args.text.now c.loop-i.i _ c.loop-i.invariant c.loop-i-test.false header_nothing
