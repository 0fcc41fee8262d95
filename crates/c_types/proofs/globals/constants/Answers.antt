use Rattle.std.proofs.Common.{sym, ◌∙◌, ◌+◌, drop}
use Rattle.c_type_rules.specs.Rule.{after}
use Rattle.c_types.specs.Declarations.{constants_from}
use Rattle.c_types.proofs.GlobalLaws.{constants_end, constants_more}
use Rattle.c_types.proofs.globals.constants.Goals as goal

pub loop-one-preserved : goal.loop-one-preserved
loop-one-preserved c =
    (λ i. after (constants_from (c.in_ok-next.ensures.made i) (drop (c.loop-one.one-index + 1) c.args.list.now)) (c.in_ok-next.ensures.state i))
    ∙ sym (constants_more c.args.list.now c.loop-one.one-index c.loop-one.next c.loop-one.typer c.one-item.result c.loop-one-test.true c.one-item.is)
    ∙ c.loop-one.invariant

pub returns : goal.returns
returns c = sym (constants_end c.args.list.now c.loop-one.one-index c.loop-one.next c.loop-one.typer c.loop-one-test.false) ∙ c.loop-one.invariant
