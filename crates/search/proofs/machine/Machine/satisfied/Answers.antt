use Rattle.search.proofs.TurnLaws.{model_ends}
use Rattle.search.proofs.machine.Machine.satisfied.Goals as goal

pub returns : goal.returns
returns c =
    let values = rw c.deref.ensures.value at c.in_ok-values.ensures.values in
    rw c.from_vec.ensures (c.in_ok-values.ensures.length, model_ends c.args.formula.now c.args.self c.in_ok-values.values.items c.requires.at.held c.requires.ends values)
