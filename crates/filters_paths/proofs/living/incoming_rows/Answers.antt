use Rattle.std.proofs.Common.{◌≡◌, ℕ, ◌+◌, ◌<◌, ◌++◌, ◌∷◌, [], List, Some, Contains, true, length, set, sym, ◌∙◌, ap, subst, arith}
use Rattle.std.specs.Prelude.{slice_get}
use Rattle.std.proofs.Math.ListN.{length-set}
use Rattle.std.proofs.lemmas.List.{get_or_read}
use Rattle.cfa.specs.declared.parts.Edge.{Edge}
use Rattle.filters.specs.Parts.{part_of}
use Rattle.filters_paths.specs.Spreading.{row_at}
use Rattle.filters_paths.proofs.SpreadLaws.{within_more, each_more, each_outside}
use Rattle.filters_paths.proofs.living.incoming_rows.Goals as goal
use Rattle.filters_paths.proofs.living.incoming_rows.Goals.{then-has_edge+in_ok-push, else-has_edge}

pub loop-edge-preserved : goal.loop-edge-preserved
loop-edge-preserved c =
    let parts = c.args.graph.now in
    let a = part_of c.args.target.now in
    let rows = c.loop-edge.rows.items in
    let edge = c.loop-edge.edge in
    let low : edge < length parts.edges = omega (arith, c.loop-edge-test.true, ap length c.edges.ensures) in
    let W : List (List ℕ) → Type 0 = λ xs. (n k : ℕ) → Contains (row_at xs n) k → k < length parts.edges in
    let E : List (List ℕ) → Type 0 = λ xs. (k : ℕ) (e : Edge) → k < edge + 1 → slice_get parts.edges k ≡ Some e → a.edge k ≡ true → Contains (row_at xs e.target) k in
    elim c.if-has_edge.branch [
      | then-has_edge+in_ok-push w ↦
          let node = w.target_of-node.result in
          let lt : node < length rows = omega (arith, w.target_of-node.ensures.node, c.loop-edge.invariant.size) in
          let is : c.if-has_edge.rows.items ≡ set rows node (row_at rows node ++ edge ∷ []) = ap (λ v. v.items) w.rows-is
          ∙ ap (set rows node) (w.in_ok-push.ensures.ok ∙ ap (λ xs. xs ++ edge ∷ []) (get_or_read rows node w.index_mut-row.result.now lt w.index_mut-row.ensures.value [])) in
          record {
            size = ap length is ∙ length-set rows node (row_at rows node ++ edge ∷ []) ∙ c.loop-edge.invariant.size;
            within = subst W (sym is) (within_more rows node edge lt (length parts.edges) low c.loop-edge.invariant.within);
            each = subst E (sym is) (each_more rows node edge lt parts a w.target_of-node.ensures.target c.loop-edge.invariant.each);
          }
      | else-has_edge w ↦
          let is : c.if-has_edge.rows.items ≡ rows = ap (λ v. v.items) w.rows-is in
          record {
            size = ap length is ∙ c.loop-edge.invariant.size;
            within = subst W (sym is) c.loop-edge.invariant.within;
            each = subst E (sym is) (each_outside parts a rows edge (sym c.has_edge.ensures ∙ w.if-has_edge.false) c.loop-edge.invariant.each);
          }
    ]
