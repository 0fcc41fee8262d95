use Rattle.std.proofs.Common.{arith}
use Rattle.bit_words.proofs.Steps.{grows_then, grows_within}
use Rattle.bit_words.proofs.RowLemmas.{some_none, some_more}
use Rattle.bit_words.proofs.rows.some_bit.Goals as goal

pub loop-i-init : goal.loop-i-init
loop-i-init c = some_none c.args.circuit.now c.args.word.now c.args.from

pub returns-in_err-some-clause-grows : goal.returns-in_err-some-clause-grows
returns-in_err-some-clause-grows c = grows_within c.args.to (grows_then c.loop-i.invariant.grows c.either.ensures.grows) (omega arith)

pub loop-i-preserved : goal.loop-i-preserved
loop-i-preserved c = some_more c.in_ok-some.some _ c.loop-i.invariant c.either.ensures.grows (omega arith) (omega arith) (omega arith) c.requires.word c.in_ok-some.ensures.wire c.in_ok-some.ensures.value
