use Rattle.std.proofs.Common.{arith}
use Rattle.bit_words.proofs.Steps.{grows_then, grows_within}
use Rattle.patterns.specs.Letters.{form}
use Rattle.goal_formula.proofs.HitBits.{hit_ok}
use Rattle.goal_formula.proofs.hitting.hit.Goals as goal

pub returns-in_err-passing-clause-grows : goal.returns-in_err-passing-clause-grows
returns-in_err-passing-clause-grows c = grows_within _ (grows_then c.matched.ensures.grows c.passed.ensures.grows) (omega arith)

pub returns-in_err-end-clause-grows : goal.returns-in_err-end-clause-grows
returns-in_err-end-clause-grows c = grows_within _ (grows_then (grows_then c.matched.ensures.grows c.passed.ensures.grows) c.ended.ensures.grows) (omega arith)

pub returns-in_err-matches-clause-grows : goal.returns-in_err-matches-clause-grows
returns-in_err-matches-clause-grows c = grows_within _ (grows_then (grows_then (grows_then c.matched.ensures.grows c.passed.ensures.grows) c.ended.ensures.grows) c.both.ensures.grows) (omega arith)

pub returns-clause-grows : goal.returns-clause-grows
returns-clause-grows c = grows_within _ (grows_then (grows_then (grows_then (grows_then c.matched.ensures.grows c.passed.ensures.grows) c.ended.ensures.grows) c.both.ensures.grows) c.both-2.ensures.grows) (omega arith)

pub returns-clause-bit : goal.returns-clause-bit
returns-clause-bit c =
    hit_ok c.args.circuit.now c.matched.new.circuit c.passed.new.circuit c.ended.new.circuit c.both.new.circuit c.both-2.new.circuit _ _ _ _ _ c.args.entries.now c.args.plan.now (form c.args.pattern.now) c.in_ok-own.own c.in_ok-passing.passing c.in_ok-end.end c.in_ok-matches.matches
    c.requires.entries c.matched.ensures.grows c.passed.ensures.grows c.ended.ensures.grows c.both.ensures.grows c.both-2.ensures.grows
    c.in_ok-own.ensures.bit c.in_ok-passing.ensures.bit c.in_ok-end.ensures.wire c.in_ok-end.ensures.value c.in_ok-matches.ensures.wire c.in_ok-matches.ensures.value
    c.both-2.result c.both-2.ensures.wire c.both-2.ensures.value
