use Rattle.std.proofs.Common.{◌≡◌, ◌+◌, ◌<◌, Bool, ℕ, List, false, take, length, sym, ◌∙◌, ap, subst, arith}
use Rattle.std.proofs.lemmas.List.{get_or_read}
use Rattle.filters_paths.specs.Spreading.{AreSpread}
use Rattle.filters_paths.proofs.SpreadLaws.{spread_marked, spread_new}
use Rattle.filters_paths.proofs.living.mark_sources.Goals as goal
use Rattle.filters_paths.proofs.living.mark_sources.Goals.{then-not-index+in_ok-push, else-not-index}

pub loop-edge-preserved : goal.loop-edge-preserved
loop-edge-preserved c =
    let parts = c.args.graph.now in
    let row = c.args.row.now in
    let i = c.loop-edge.edge-index in
    let source = c.source_of-source.result in
    let lt : source < length c.loop-edge.marks.items = omega (arith, c.source_of-source.ensures.node, c.loop-edge.invariant.size) in
    elim c.if-not-index.branch [
      | then-not-index+in_ok-push w ↦
          spread_new parts row i source c.args.marks.now.items c.loop-edge.marks.items c.if-not-index.marks.items c.args.waiting.now.items c.loop-edge.waiting.items c.if-not-index.waiting.items
          c.loop-edge-test.true c.source_of-source.ensures.source c.source_of-source.ensures.node (ap (λ v. v.items) w.marks-is) (ap (λ v. v.items) w.waiting-is ∙ w.in_ok-push.ensures.items) c.loop-edge.invariant
      | else-not-index w ↦
          let marks : c.if-not-index.marks.items ≡ c.loop-edge.marks.items = ap (λ v. v.items) w.marks-is in
          let waiting : c.if-not-index.waiting.items ≡ c.loop-edge.waiting.items = ap (λ v. v.items) w.waiting-is in
          let M : List Bool → Type 0 = λ xs. AreSpread parts (take (i + 1) row) c.args.marks.now.items c.args.waiting.now.items xs c.if-not-index.waiting.items in
          let W : List ℕ → Type 0 = λ xs. AreSpread parts (take (i + 1) row) c.args.marks.now.items c.args.waiting.now.items c.loop-edge.marks.items xs in
          subst M (sym marks) (subst W (sym waiting) (spread_marked parts row i source c.args.marks.now.items c.loop-edge.marks.items c.args.waiting.now.items c.loop-edge.waiting.items c.loop-edge-test.true c.source_of-source.ensures.source
          (sym (get_or_read c.loop-edge.marks.items source c.index.result.now lt c.index.ensures false) ∙ w.if-not-index.false) c.loop-edge.invariant))
    ]
