use Rattle.std.proofs.Common.{◌+◌, ◌<◌, length, set, refl, ap, arith, get_or-set_other}
use Rattle.std.proofs.lemmas.List.{get_or_read, nil_from_length}
use Rattle.filters_paths.proofs.SearchLaws.{keeps_search, reopened}
use Rattle.filters_paths.proofs.Walks.{last_within, last_place, use_low, walk_back, ahead_back, ahead_none}
use Rattle.filters_paths.proofs.walk.Walk.go_back.Goals as goal

pub source_of-source-requires : goal.source_of-source-requires
source_of-source-requires c = last_within c.args.ground.now c.requires.ground c.args.self.now (record c.args.self.now { steps = c.pop.new.self }) c.in-Some.step c.requires.walk c.in-Some.ensures.items

pub target_of-target-requires : goal.target_of-target-requires
target_of-target-requires c = last_within c.args.ground.now c.requires.ground c.args.self.now (record c.args.self.now { steps = c.pop.new.self }) c.in-Some.step c.requires.walk c.in-Some.ensures.items

pub index_mut-requires : goal.index_mut-requires
index_mut-requires c =
    let t = record c.args.self.now { steps = c.pop.new.self } in
    omega (arith, last_within c.args.ground.now c.requires.ground c.args.self.now t c.in-Some.step c.requires.walk c.in-Some.ensures.items, c.requires.walk.uses.size, c.args.self.now.left.ok.0)

pub overflow_add-index_mut : goal.overflow_add-index_mut
overflow_add-index_mut c =
    let w = c.args.self.now in
    let t = record w { steps = c.pop.new.self } in
    let lt : c.in-Some.step.edge < length w.left.items = omega (arith, last_within c.args.ground.now c.requires.ground w t c.in-Some.step c.requires.walk c.in-Some.ensures.items, c.requires.walk.uses.size) in
    let read = get_or_read w.left.items c.in-Some.step.edge c.index_mut.result.now lt c.index_mut.ensures.value 0 in
    omega (arith, read, use_low c.args.ground.now c.requires.ground w t c.in-Some.step c.requires.walk c.in-Some.ensures.items, c.requires.ground.bound)

pub overflow_add-self : goal.overflow_add-self
overflow_add-self c =
    let t = record c.args.self.now { steps = c.pop.new.self } in
    omega (arith, last_place c.args.ground.now c.requires.ground c.args.self.now t c.in-Some.step c.requires.walk c.in-Some.ensures.items, c.requires.ground.few)

pub returns-in-None-clause-next : goal.returns-in-None-clause-next
returns-in-None-clause-next c =
    let w = c.args.self.now in
    ahead_none c.args.ground.now c.requires.ground w (nil_from_length w.steps.items (omega (arith, c.in-None.ensures.cases.0, w.steps.ok.0))) c.requires.end

pub returns-in-Some-clause-walk : goal.returns-in-Some-clause-walk
returns-in-Some-clause-walk c =
    let w = c.args.self.now in
    let t = record w { steps = c.pop.new.self } in
    let lt : c.in-Some.step.edge < length w.left.items = omega (arith, last_within c.args.ground.now c.requires.ground w t c.in-Some.step c.requires.walk c.in-Some.ensures.items, c.requires.walk.uses.size) in
    walk_back c.args.ground.now c.requires.ground w _ c.in-Some.step c.requires.walk c.in-Some.ensures.items (c.index_mut.result.now + 1)
    (ap (λ n. n + 1) (get_or_read w.left.items c.in-Some.step.edge c.index_mut.result.now lt c.index_mut.ensures.value 0)) refl
    (reopened c.args.ground.now.graph.now c.args.ground.now.ends.items w.left.items (set w.left.items c.in-Some.step.edge (c.index_mut.result.now + 1)) c.forget_route.new.self c.reopen.new.self c.in-Some.step.edge c.source_of-source.result c.target_of-target.result
    (keeps_search c.args.ground.now.graph.now c.args.ground.now.ends.items w.left.items w.search c.forget_route.new.self c.requires.walk.search c.forget_route.ensures) c.reopen.ensures c.source_of-source.ensures.source c.target_of-target.ensures.target
    (λ j other more. let is = get_or-set_other w.left.items c.in-Some.step.edge j (c.index_mut.result.now + 1) 0 other in omega arith))

pub returns-in-Some-clause-next : goal.returns-in-Some-clause-next
returns-in-Some-clause-next c = ahead_back c.args.ground.now c.requires.ground c.args.self.now (record c.args.self.now { steps = c.pop.new.self; place = c.in-Some.step.place + 1 }) c.in-Some.step c.requires.walk c.in-Some.ensures.items c.requires.end refl
