use Rattle.std.proofs.Common.{[], ◌∷◌}
use Rattle.command.proofs.GivesLaws.{same_open}
use Rattle.command.proofs.least.said_of.Goals as goal

pub returns-in_ok-shown-in-Open : goal.returns-in_ok-shown-in-Open
returns-in_ok-shown-in-Open g c =
    ((c.args.number, c.in-Open.formula, c.in-Open.history) ∷ [], rw c.in-Open.is (same_open _ _ _ c.in_ok-text-in-Open.ensures), c.in_ok-shown-in-Open.ensures.ok)
