use Rattle.std.proofs.Common.{subst, sym}
use Rattle.cfa.specs.States.{IsState}
use Rattle.c_meaning.specs.Steps.{IfMoved}
use Rattle.c_meaning.proofs.Next.{next_keeps}
use Rattle.c_meaning.proofs.stepping.step.Goals as goal

pub returns-clause-kept : goal.returns-clause-kept
returns-clause-kept c =
    subst (λ q. IfMoved q (IsState c.args.graph.now)) (sym c.in_ok-step.ensures) (next_keeps c.args.graph.now c.args.input.now c.args.state.now c.well_formed-2.ensures c.requires.state)
