use Rattle.std.proofs.Common.{◌-◌, length, sym, ◌∙◌, ap}
use Rattle.std.specs.Prelude.{slice_get}
use Rattle.filters_paths.specs.Ground.{part_in}
use Rattle.filters_paths.proofs.Rows.{row_behind}
use Rattle.filters_paths.proofs.walk.Walk.next_edge.Goals as goal

pub returns-in-Some : goal.returns-in-Some
returns-in-Some c =
    let steps = c.args.self.now.steps.items in
    let last = sym (ap (λ xs. slice_get xs (length xs - 1)) c.deref.ensures.value) ∙ sym c.in-Some.ensures.value in
    let row = row_behind c.args.ground.now.graph.now (part_in c.args.ground.now) steps c.in-Some.step.now c.target_of-node.result last c.target_of-node.ensures.target in
    c.edge_at-in-Some.ensures ∙ ap (λ xs. slice_get xs c.args.self.now.place) (c.outgoing.ensures ∙ row)
