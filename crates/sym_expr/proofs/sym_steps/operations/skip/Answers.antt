use Rattle.std.proofs.Common.{sym, subst}
use Rattle.std.proofs.lemmas.Result.{IfOk-weaker}
use Rattle.sym_expr.specs.sym_steps.Operated.{IsOperated}
use Rattle.sym_expr.proofs.sym_steps.StepLemmas.{skips}
use Rattle.sym_expr.proofs.sym_steps.operations.skip.Goals as goal

pub returns : goal.returns
returns c =
    let g = c.args.circuit.now in
    IfOk-weaker c.one_way.result _ _ (λ t is. subst (IsOperated c.args.graph.now g g c.args.answers.now c.args.state c.args.at c.args.edge.now) (sym is)
    (skips c.args.graph.now g c.args.state c.args.at c.args.edge.now c.well_formed-2.ensures c.requires.states c.requires.leaves c.args.answers.now c.requires.cells c.requires.skips)) c.one_way.ensures
