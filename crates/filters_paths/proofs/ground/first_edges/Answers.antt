use Rattle.std.proofs.Common.{◌∙◌, ◌++◌, ◌∷◌, [], ap, sym}
use Rattle.filters.specs.Parts.{part_of}
use Rattle.filters_paths.specs.Ground.{is_first}
use Rattle.filters_paths.proofs.BorderLaws.{first_passes, first_fails}
use Rattle.filters_paths.proofs.ground.first_edges.Goals as goal
use Rattle.filters_paths.proofs.ground.first_edges.Goals.{then-is_first+in_ok-push, else-is_first}

pub loop-edge-preserved : goal.loop-edge-preserved
loop-edge-preserved c =
    let test = is_first c.args.graph.now (part_of c.args.target.now) in
    elim c.if-is_first.branch [
      | then-is_first+in_ok-push w ↦
          ap (λ v. v.items) w.firsts-is ∙ w.in_ok-push.ensures.items ∙ ap (λ xs. xs ++ c.loop-edge.edge ∷ []) c.loop-edge.invariant
          ∙ sym (first_passes test c.loop-edge.edge (sym c.is_first.ensures ∙ w.if-is_first.true))
      | else-is_first w ↦
          ap (λ v. v.items) w.firsts-is ∙ c.loop-edge.invariant ∙ sym (first_fails test c.loop-edge.edge (sym c.is_first.ensures ∙ w.if-is_first.false))
    ]
