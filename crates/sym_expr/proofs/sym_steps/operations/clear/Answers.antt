use Rattle.std.proofs.Common.{ℕ, List, [], ap, sym, subst, ◌∙◌, arith}
use Rattle.std.proofs.lemmas.Result.{IfOk-weaker}
use Rattle.c_meaning.specs.Steps.{cleared}
use Rattle.sym_expr.specs.Stores.{cells_in}
use Rattle.sym_expr.specs.sym_steps.Operated.{IsOperated}
use Rattle.sym_expr.proofs.sym_steps.StepLemmas.{some_frames, clear_step, clear_within}
use Rattle.sym_expr.proofs.sym_steps.operations.clear.Goals as goal

pub running-requires : goal.running-requires
running-requires c = rw c.deref.ensures (some_frames c.args.graph.now c.args.circuit.now c.args.state c.well_formed-2.ensures c.requires.states)

pub with_zeros-requires : goal.with_zeros-requires
with_zeros-requires c =
    let within = clear_within c.args.graph.now c.args.circuit.now c.args.state c.args.at c.args.edge.now c.well_formed-2.ensures c.requires.states c.requires.leaves c.args.array c.args.count c.requires.clears in
    let first = rw (c.running.ensures, c.deref.ensures) at (c.array_start-first.ensures.place []) in
    omega arith

pub returns : goal.returns
returns c =
    let g = c.args.circuit.now in
    let first = λ (cells : List ℕ). rw (c.running.ensures, c.deref.ensures) at (c.array_start-first.ensures.place cells) in
    IfOk-weaker c.one_way.result _ _ (λ t is. subst (IsOperated c.args.graph.now g g c.args.answers.now c.args.state c.args.at c.args.edge.now) (sym is)
    (clear_step c.args.graph.now g c.args.state c.args.at c.args.edge.now c.well_formed-2.ensures c.requires.states c.requires.leaves c.args.answers.now c.in_ok-store.store.cells c.args.array c.args.count
    (c.in_ok-store.ensures.wires g c.requires.cells) c.requires.clears
    (λ w. let cells = cells_in g c.args.state.store.cells w in c.in_ok-store.ensures.cells g w ∙ ap (λ n. cleared cells n c.args.count) (first cells)))) c.one_way.ensures
