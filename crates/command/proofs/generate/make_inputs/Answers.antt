use Rattle.command.proofs.GenerateLaws.{made_as}
use Rattle.command.proofs.generate.make_inputs.Goals as goal

pub returns : goal.returns
returns g c =
    made_as c.args.given.now c.args.budget _ c.generate.result c.generate.ensures.generated c.generate.ensures.enough c.generate.ensures.refused c.generate.ensures.unseen
