use Rattle.std.proofs.Common.{◌≡◌, true, [], refl, rules}
use Rattle.std.proofs.lemmas.List.{nil_from_length}
use Rattle.tree_meaning.specs.Running.{is_on}
use Rattle.tree_meaning.proofs.StatementSteps.{block_none}
use Rattle.tree_meaning.proofs.statements.block.Goals as goal

pub returns-in-None : goal.returns-in-None
returns-in-None c =
    let on : is_on c.args.machine.now.way ≡ true = search rules in
    block_none c.args.tasks.now [] c.args.machine.now c.args.list _ on (nil_from_length c.args.list.now c.in-None.ensures.cases) refl
