use Rattle.std.proofs.Common.{◌∙◌}
use Rattle.std.proofs.lemmas.Result.{IfOk-weaker}
use Rattle.unwinder.proofs.Endings.{no_way, one_way_wire, two_ways}
use Rattle.unwinder.proofs.ending.some_way.Goals as goal

pub returns-in-empty-clause-value : goal.returns-in-empty-clause-value
returns-in-empty-clause-value c = no_way c.args.circuit.now c.args.ways.now c.in-empty.len_below

pub returns-in-len1-clause-wire : goal.returns-in-len1-clause-wire
returns-in-len1-clause-wire c = one_way_wire c.args.circuit.now c.args.ways.now _ c.requires.wires c.in-len1.len_at_least

pub returns-in-len2-up-clause-value : goal.returns-in-len2-up-clause-value
returns-in-len2-up-clause-value c = IfOk-weaker c.either.result _ _ (λ l is w. is w ∙ two_ways c.args.circuit.now c.args.ways.now _ c.in-len2-up.len_at_least c.requires.few w) c.either.ensures.value
