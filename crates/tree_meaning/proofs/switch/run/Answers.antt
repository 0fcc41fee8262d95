use Rattle.std.proofs.Common.{◌≡◌, true, [], refl, rules}
use Rattle.std.proofs.lemmas.List.{nil_from_length}
use Rattle.tree_meaning.specs.Running.{is_on}
use Rattle.tree_meaning.proofs.SwitchSteps.{run_none}
use Rattle.tree_meaning.proofs.switch.run.Goals as goal

pub returns-in-None : goal.returns-in-None
returns-in-None c =
    let on : is_on c.args.machine.now.way ≡ true = search rules in
    run_none c.args.tasks.now [] c.args.machine.now c.args.groups on _ (nil_from_length c.args.groups.now c.in-None.ensures.cases) refl
