use Rattle.std.proofs.Common.{inr}
use Rattle.command.specs.Comparison.{IsCompared, IsJudged}
use Rattle.command.proofs.GivesLaws.{tells_map}
use Rattle.command.proofs.comparison.compared.Goals as goal

pub returns-in-None : goal.returns-in-None
returns-in-None c = λ names.
    tells_map (IsJudged c.args.text.items c.args.ours.now c.args.theirs.now.derivation)
    (IsCompared c.args.text.items c.args.theirs.now.formula c.args.ours.now c.args.theirs.now.derivation) names c.verdict.result
    (λ said told. inr (c.in-None.ensures, told)) (c.verdict.ensures names)
