use Rattle.std.proofs.Common.{◌≡◌, ◌∙◌, ◌&&◌, ap, sym, IsTrue}
use Rattle.goals.specs.applied_clauses.Trees.{tree_of}
use Rattle.goals.specs.applied_clauses.Within.{tree_within}
use Rattle.filters.specs.Parts.{part_of}
use Rattle.fql_read.specs.Usable.{is_within}
use Rattle.goals.proofs.applied_clauses.Leaves.{anywhere_last, anywhere_there, both_there, edges_there, nodes_there, outcome_there, paths_there, within_arrow, within_dot, within_edges, within_nodes, within_plus}
use Rattle.goals.proofs.applied_clauses.applying.+apply_clause.Goals as goal

pub returns-in_ok-nodes_of-in-Nodes-clause-within : goal.returns-in_ok-nodes_of-in-Nodes-clause-within
returns-in_ok-nodes_of-in-Nodes-clause-within t c count h =
    let s = c.in-Nodes.split in
    let there = sym (within_nodes count s) ∙ sym (ap (is_within count) c.in-Nodes.is) ∙ h in
    ap (tree_within c.args.graph.now count) c.in_ok-nodes_of-in-Nodes.ensures ∙ nodes_there c.args.graph.now (part_of c.args.base.now) s.filter count s.predicates there

pub returns-in_ok-edges_of-in-Edges-clause-within : goal.returns-in_ok-edges_of-in-Edges-clause-within
returns-in_ok-edges_of-in-Edges-clause-within t c count h =
    let s = c.in-Edges.split in
    let there = sym (within_edges count s) ∙ sym (ap (is_within count) c.in-Edges.is) ∙ h in
    ap (tree_within c.args.graph.now count) c.in_ok-edges_of-in-Edges.ensures ∙ edges_there c.args.graph.now (part_of c.args.base.now) s.filter count s.predicates there

pub returns-in-Paths-clause-within : goal.returns-in-Paths-clause-within
returns-in-Paths-clause-within t c count h =
    outcome_there c.args.graph.now count _ c.paths_of.result (paths_there c.args.graph.now (part_of c.args.base.now) c.in-Paths.filter count c.in-Paths.k) c.paths_of.ensures

pub returns-in_ok-dot-in-Dot-clause-within : goal.returns-in_ok-dot-in-Dot-clause-within
returns-in_ok-dot-in-Dot-clause-within t c count h =
    let there = tree_within c.args.graph.now count in
    let within = is_within count in
    let joined : IsTrue (within c.in-Dot.first && within c.in-Dot.second) = sym (within_dot count c.in-Dot.first c.in-Dot.second) ∙ sym (ap within c.in-Dot.is) ∙ h in
    let first : within c.deref-in-Dot.result.now ≡ within c.in-Dot.first = cc in
    let second : within c.deref-in-Dot-2.result.now ≡ within c.in-Dot.second = cc in
    let both = both_there (there (tree_of c.in_ok-a-in-Dot.a)) (there (tree_of c.in_ok-b-in-Dot.b)) (within c.in-Dot.first) (within c.in-Dot.second) joined
    (λ k. c.in_ok-a-in-Dot.ensures.within count (first ∙ k)) (λ k. c.in_ok-b-in-Dot.ensures.within count (second ∙ k)) in
    ap there c.in_ok-dot-in-Dot.ensures ∙ both

pub returns-in_ok-plus-in-Plus-clause-within : goal.returns-in_ok-plus-in-Plus-clause-within
returns-in_ok-plus-in-Plus-clause-within t c count h =
    let there = tree_within c.args.graph.now count in
    let within = is_within count in
    let joined : IsTrue (within c.in-Plus.first && within c.in-Plus.second) = sym (within_plus count c.in-Plus.first c.in-Plus.second) ∙ sym (ap within c.in-Plus.is) ∙ h in
    let first : within c.deref-in-Plus.result.now ≡ within c.in-Plus.first = cc in
    let second : within c.deref-in-Plus-2.result.now ≡ within c.in-Plus.second = cc in
    let both = both_there (there (tree_of c.in_ok-a-in-Plus.a)) (there (tree_of c.in_ok-b-in-Plus.b)) (within c.in-Plus.first) (within c.in-Plus.second) joined
    (λ k. c.in_ok-a-in-Plus.ensures.within count (first ∙ k)) (λ k. c.in_ok-b-in-Plus.ensures.within count (second ∙ k)) in
    ap there c.in_ok-plus-in-Plus.ensures ∙ both

pub returns-in_ok-dot-in-Arrow-clause-within : goal.returns-in_ok-dot-in-Arrow-clause-within
returns-in_ok-dot-in-Arrow-clause-within t c count h =
    let there = tree_within c.args.graph.now count in
    let within = is_within count in
    let joined : IsTrue (within c.in-Arrow.first && within c.in-Arrow.second) = sym (within_arrow count c.in-Arrow.first c.in-Arrow.second) ∙ sym (ap within c.in-Arrow.is) ∙ h in
    let first : within c.deref-in-Arrow.result.now ≡ within c.in-Arrow.first = cc in
    let second : within c.deref-in-Arrow-2.result.now ≡ within c.in-Arrow.second = cc in
    let both = both_there (there (tree_of c.in_ok-a-in-Arrow.a)) (there (tree_of c.in_ok-b-in-Arrow.b)) (within c.in-Arrow.first) (within c.in-Arrow.second) joined
    (λ k. c.in_ok-a-in-Arrow.ensures.within count (first ∙ k)) (λ k. c.in_ok-b-in-Arrow.ensures.within count (second ∙ k)) in
    let left : there (tree_of c.in_ok-left-in-Arrow.left) ≡ there (tree_of c.in_ok-a-in-Arrow.a) = ap there c.in_ok-left-in-Arrow.ensures ∙ ap (λ between. there (tree_of c.in_ok-a-in-Arrow.a) && there between) c.in_ok-between-in-Arrow.ensures ∙ anywhere_last (there (tree_of c.in_ok-a-in-Arrow.a)) (anywhere_there c.args.graph.now (part_of c.args.base.now) count) in
    ap there c.in_ok-dot-in-Arrow.ensures ∙ ap (λ x. x && there (tree_of c.in_ok-b-in-Arrow.b)) left ∙ both
