use Rattle.std.proofs.Common.{arith}
use Rattle.bit_words.proofs.Steps.{grows_then, grows_within}
use Rattle.sym_expr.proofs.PatternLemmas.{alike_none, alike_more, alike_all}
use Rattle.sym_expr.proofs.patterns.is_pattern.Goals as goal

pub loop-i-init : goal.loop-i-init
loop-i-init c = alike_none c.args.circuit.now c.args.word.now c.args.pattern

pub loop-i-preserved : goal.loop-i-preserved
loop-i-preserved c = alike_more c.in_ok-alike.alike _ c.has_bit-expected.result c.loop-i.invariant c.and_bit.ensures.grows (omega arith) (omega arith) c.requires.word c.in_ok-alike.ensures.wire c.has_bit-expected.ensures c.in_ok-alike.ensures.value

pub returns-in_err-alike-clause-grows : goal.returns-in_err-alike-clause-grows
returns-in_err-alike-clause-grows c = grows_within 128 (grows_then c.loop-i.invariant.grows c.and_bit.ensures.grows) (omega arith)

pub returns-clause-grows : goal.returns-clause-grows
returns-clause-grows c = grows_within 128 c.loop-i.invariant.grows (omega arith)

pub returns-clause-value : goal.returns-clause-value
returns-clause-value c = alike_all c.loop-i.invariant (omega arith) (omega arith)
