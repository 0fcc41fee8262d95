use Rattle.std.proofs.Common.{◌∙◌, ap, not, arith}
use Rattle.bit_words.proofs.Steps.{grows_then, grows_within}
use Rattle.goal_formula.proofs.Ends.{ends_held}
use Rattle.bounds_check.proofs.staying.none_ended.Goals as goal

pub returns-in_err-some-clause-grows : goal.returns-in_err-some-clause-grows
returns-in_err-some-clause-grows c = grows_within _ c.some_ended.ensures.grows (omega arith)

pub returns-in_err-none-clause-grows : goal.returns-in_err-none-clause-grows
returns-in_err-none-clause-grows c = grows_then c.some_ended.ensures.grows c.inverse.ensures.grows

pub returns-clause-grows : goal.returns-clause-grows
returns-clause-grows c = grows_then c.some_ended.ensures.grows c.inverse.ensures.grows

pub returns-clause-bit : goal.returns-clause-bit
returns-clause-bit c = record {
  wire = c.in_ok-none.ensures.wire;
  value = λ w. c.in_ok-none.ensures.value w ∙ ap not (c.in_ok-some.ensures.value w ∙ ends_held c.args.circuit.now w c.args.entries.now);
}
