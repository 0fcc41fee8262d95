use Rattle.std.proofs.Common.{false, ◌+◌, ◌-◌, ◌<◌, length, set, refl, sym, ◌∙◌, ap, arith, get_or-set_same, get_or-set_other}
use Rattle.std.proofs.Math.ListN.{length-set}
use Rattle.std.proofs.lemmas.List.{get_or_read}
use Rattle.filters_paths.proofs.SearchLaws.{keeps_search, reopened}
use Rattle.filters_paths.proofs.Walks.{at_lists, edge_within, lessened, restored, place_within, passed_used, stepped, stepped_to_end, stepped_on, passed_barren, use_fits}
use Rattle.filters_paths.specs.Searching.{is_way}
use Rattle.filters_paths.proofs.walk.Walk.follow.Goals as goal

pub target_of-node-requires : goal.target_of-node-requires
target_of-node-requires c = edge_within c.args.ground.now c.requires.ground c.args.self.now c.args.edge c.requires.edge

pub index-requires : goal.index-requires
index-requires c = omega (arith, edge_within c.args.ground.now c.requires.ground c.args.self.now c.args.edge c.requires.edge, c.requires.walk.uses.size, c.args.self.now.left.ok.0)

pub overflow_add-self : goal.overflow_add-self
overflow_add-self c = omega (arith, place_within c.args.ground.now c.requires.ground c.args.self.now c.args.edge c.requires.edge, c.requires.ground.few)

pub returns-then-index-eq0-clause-next : goal.returns-then-index-eq0-clause-next
returns-then-index-eq0-clause-next c =
    let w = c.args.self.now in
    let lt : c.args.edge < length w.left.items = omega (arith, edge_within c.args.ground.now c.requires.ground w c.args.edge c.requires.edge, c.requires.walk.uses.size) in
    passed_used c.args.ground.now c.requires.ground w (record w { place = w.place + 1 }) c.args.edge c.requires.walk c.requires.edge
    (sym (get_or_read w.left.items c.args.edge c.index.result.now lt c.index.ensures 0) ∙ c.if-index-eq0.true) refl refl

pub index_mut-requires : goal.index_mut-requires
index_mut-requires c = omega (arith, edge_within c.args.ground.now c.requires.ground c.args.self.now c.args.edge c.requires.edge, c.requires.walk.uses.size, c.args.self.now.left.ok.0)

pub overflow_sub-index_mut : goal.overflow_sub-index_mut
overflow_sub-index_mut c =
    let w = c.args.self.now in
    let lt : c.args.edge < length w.left.items = omega (arith, edge_within c.args.ground.now c.requires.ground w c.args.edge c.requires.edge, c.requires.walk.uses.size) in
    let first = get_or_read w.left.items c.args.edge c.index.result.now lt c.index.ensures 0 in
    let second = get_or_read w.left.items c.args.edge c.index_mut.result.now lt c.index_mut.ensures.value 0 in
    omega (arith, first, second, c.if-index-eq0.false)

pub returns-then-index-clause-walk : goal.returns-then-index-clause-walk
returns-then-index-clause-walk c =
    let w = c.args.self.now in
    let lt : c.args.edge < length w.left.items = omega (arith, edge_within c.args.ground.now c.requires.ground w c.args.edge c.requires.edge, c.requires.walk.uses.size) in
    let first = get_or_read w.left.items c.args.edge c.index.result.now lt c.index.ensures 0 in
    let second = get_or_read w.left.items c.args.edge c.index_mut.result.now lt c.index_mut.ensures.value 0 in
    let less = set w.left.items c.args.edge (c.index_mut.result.now - 1) in
    stepped c.args.ground.now c.requires.ground w _ c.args.edge (c.index_mut.result.now - 1) c.forget_route.new.self c.requires.walk c.requires.edge (omega (arith, first, c.if-index-eq0.false)) (ap (λ n. n - 1) second)
    c.in_ok-push.ensures.steps (ap (λ v. v.items) c.in_ok-push.ensures.rest.1) c.in_ok-push.ensures.rest.2
    (keeps_search c.args.ground.now.graph.now c.args.ground.now.ends.items less w.search c.forget_route.new.self (lessened c.args.ground.now c.requires.ground w c.args.edge (c.index_mut.result.now - 1) c.requires.walk c.requires.edge (omega (arith, first, c.if-index-eq0.false))) c.forget_route.ensures)

pub returns-then-index-clause-next : goal.returns-then-index-clause-next
returns-then-index-clause-next c =
    let w = c.args.self.now in
    let lt : c.args.edge < length w.left.items = omega (arith, edge_within c.args.ground.now c.requires.ground w c.args.edge c.requires.edge, c.requires.walk.uses.size) in
    let first = get_or_read w.left.items c.args.edge c.index.result.now lt c.index.ensures 0 in
    stepped_to_end c.args.ground.now c.requires.ground w c.push.new.self c.args.edge c.target_of-node.result c.requires.walk c.requires.edge (omega (arith, first, c.if-index-eq0.false)) c.in_ok-push.ensures.steps c.in_ok-push.ensures.rest.0
    c.target_of-node.ensures.target c.target_of-node.ensures.node
    (sym (get_or_read c.args.ground.now.ends.items c.target_of-node.result c.index-2.result.now (omega (arith, c.target_of-node.ensures.node, c.requires.ground.ends_size)) c.index-2.ensures false) ∙ c.if-index.true)

pub index_mut-requires-else-branch : goal.index_mut-requires-else-branch
index_mut-requires-else-branch c = omega (arith, edge_within c.args.ground.now c.requires.ground c.args.self.now c.args.edge c.requires.edge, c.requires.walk.uses.size, c.args.self.now.left.ok.0)

pub overflow_add-index_mut : goal.overflow_add-index_mut
overflow_add-index_mut c =
    let w = c.args.self.now in
    let lt : c.args.edge < length w.left.items = omega (arith, edge_within c.args.ground.now c.requires.ground w c.args.edge c.requires.edge, c.requires.walk.uses.size) in
    let long = length-set w.left.items c.args.edge (c.index_mut.result.now - 1) in
    let first = get_or_read w.left.items c.args.edge c.index.result.now lt c.index.ensures 0 in
    let second = get_or_read w.left.items c.args.edge c.index_mut.result.now lt c.index_mut.ensures.value 0 in
    let third = get_or_read (set w.left.items c.args.edge (c.index_mut.result.now - 1)) c.args.edge c.index_mut-else-branch.result.now (omega (arith, lt, long)) c.index_mut-else-branch.ensures.value 0 in
    let back = get_or-set_same w.left.items c.args.edge (c.index_mut.result.now - 1) 0 lt in
    omega (arith, first, second, third, back, c.if-index-eq0.false, use_fits c.args.ground.now c.requires.ground w c.args.edge c.requires.walk c.requires.edge, c.requires.ground.bound)

pub reaches_end-requires-clause-search : goal.reaches_end-requires-clause-search
reaches_end-requires-clause-search c =
    let w = c.args.self.now in
    let lt : c.args.edge < length w.left.items = omega (arith, edge_within c.args.ground.now c.requires.ground w c.args.edge c.requires.edge, c.requires.walk.uses.size) in
    let first = get_or_read w.left.items c.args.edge c.index.result.now lt c.index.ensures 0 in
    at_lists c.args.ground.now.graph.now c.args.ground.now.ends.items c.deref.result.now (set w.left.items c.args.edge (c.index_mut.result.now - 1)) c.deref-2.result.now w.search c.deref.ensures.value c.deref-2.ensures.value
    (lessened c.args.ground.now c.requires.ground w c.args.edge (c.index_mut.result.now - 1) c.requires.walk c.requires.edge (omega (arith, first, c.if-index-eq0.false)))

pub source_of-requires : goal.source_of-requires
source_of-requires c = edge_within c.args.ground.now c.requires.ground c.args.self.now c.args.edge c.requires.edge

pub returns-else-branch-clause-walk : goal.returns-else-branch-clause-walk
returns-else-branch-clause-walk c =
    let w = c.args.self.now in
    let u = c.index_mut.result.now - 1 in
    let v = c.index_mut-else-branch.result.now + 1 in
    let less = set w.left.items c.args.edge u in
    let lt : c.args.edge < length w.left.items = omega (arith, edge_within c.args.ground.now c.requires.ground w c.args.edge c.requires.edge, c.requires.walk.uses.size) in
    let long = length-set w.left.items c.args.edge u in
    let first = get_or_read w.left.items c.args.edge c.index.result.now lt c.index.ensures 0 in
    let second = get_or_read w.left.items c.args.edge c.index_mut.result.now lt c.index_mut.ensures.value 0 in
    let third = get_or_read less c.args.edge c.index_mut-else-branch.result.now (omega (arith, lt, long)) c.index_mut-else-branch.ensures.value 0 in
    let back = get_or-set_same w.left.items c.args.edge u 0 lt in
    restored c.args.ground.now c.requires.ground w _ c.args.edge u v c.requires.walk c.requires.edge (omega (arith, first, second, third, back, c.if-index-eq0.false)) refl refl
    (reopened c.args.ground.now.graph.now c.args.ground.now.ends.items less (set less c.args.edge v) c.reaches_end.new.self c.reopen.new.self c.args.edge c.source_of.result c.target_of-node.result
    (at_lists c.args.ground.now.graph.now c.deref.result.now c.args.ground.now.ends.items c.deref-2.result.now less c.reaches_end.new.self (sym c.deref.ensures.value) (sym c.deref-2.ensures.value) c.in_ok-reaches_end.ensures.search)
    c.reopen.ensures c.source_of.ensures.source c.target_of-node.ensures.target (λ j other more. let is = get_or-set_other less c.args.edge j v 0 other in omega arith))

pub overflow_add-self-else-branch : goal.overflow_add-self-else-branch
overflow_add-self-else-branch c = omega (arith, place_within c.args.ground.now c.requires.ground c.args.self.now c.args.edge c.requires.edge, c.requires.ground.few)

pub returns-in_ok-push-2-clause-walk : goal.returns-in_ok-push-2-clause-walk
returns-in_ok-push-2-clause-walk c =
    let w = c.args.self.now in
    let lt : c.args.edge < length w.left.items = omega (arith, edge_within c.args.ground.now c.requires.ground w c.args.edge c.requires.edge, c.requires.walk.uses.size) in
    let first = get_or_read w.left.items c.args.edge c.index.result.now lt c.index.ensures 0 in
    let second = get_or_read w.left.items c.args.edge c.index_mut.result.now lt c.index_mut.ensures.value 0 in
    let less = set w.left.items c.args.edge (c.index_mut.result.now - 1) in
    stepped c.args.ground.now c.requires.ground w _ c.args.edge (c.index_mut.result.now - 1) c.reaches_end.new.self c.requires.walk c.requires.edge (omega (arith, first, c.if-index-eq0.false)) (ap (λ n. n - 1) second)
    c.in_ok-push-2.ensures.steps (ap (λ v. v.items) c.in_ok-push-2.ensures.rest.1) c.in_ok-push-2.ensures.rest.2
    (at_lists c.args.ground.now.graph.now c.deref.result.now c.args.ground.now.ends.items c.deref-2.result.now less c.reaches_end.new.self (sym c.deref.ensures.value) (sym c.deref-2.ensures.value) c.in_ok-reaches_end.ensures.search)

pub returns-in_ok-push-2-clause-next : goal.returns-in_ok-push-2-clause-next
returns-in_ok-push-2-clause-next c =
    let w = c.args.self.now in
    stepped_on c.args.ground.now c.requires.ground w c.push-then-branch.new.self c.args.edge c.target_of-node.result c.requires.edge c.in_ok-push-2.ensures.steps c.in_ok-push-2.ensures.rest.0
    c.target_of-node.ensures.target c.target_of-node.ensures.node
    (sym (get_or_read c.args.ground.now.ends.items c.target_of-node.result c.index-2.result.now (omega (arith, c.target_of-node.ensures.node, c.requires.ground.ends_size)) c.index-2.ensures false) ∙ c.if-index.false)

pub returns-else-branch-clause-next : goal.returns-else-branch-clause-next
returns-else-branch-clause-next c =
    let w = c.args.self.now in
    let lt : c.args.edge < length w.left.items = omega (arith, edge_within c.args.ground.now c.requires.ground w c.args.edge c.requires.edge, c.requires.walk.uses.size) in
    let first = get_or_read w.left.items c.args.edge c.index.result.now lt c.index.ensures 0 in
    let second = get_or_read w.left.items c.args.edge c.index_mut.result.now lt c.index_mut.ensures.value 0 in
    passed_barren c.args.ground.now c.requires.ground w (record w { place = w.place + 1 }) c.args.edge (c.index_mut.result.now - 1) c.target_of-node.result (set w.left.items c.args.edge (c.index_mut.result.now - 1)) c.requires.walk c.requires.edge
    (omega (arith, first, c.if-index-eq0.false)) (ap (λ n. n - 1) second) refl c.target_of-node.ensures.target (λ way.
    ap (λ xs. is_way c.args.ground.now.graph.now xs (set w.left.items c.args.edge (c.index_mut.result.now - 1)) c.target_of-node.result way) (sym c.deref.ensures.value)
    ∙ ap (λ xs. is_way c.args.ground.now.graph.now c.deref.result.now xs c.target_of-node.result way) (sym c.deref-2.ensures.value) ∙ c.in_ok-reaches_end.ensures.none c.if-branch.false way) refl refl
