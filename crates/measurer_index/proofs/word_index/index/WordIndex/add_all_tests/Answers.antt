use Rattle.std.proofs.Common.{◌≡◌, ◌+◌, ◌∙◌, length, ap, subst, sym, arith, eqb-true}
use Rattle.measurer_index.specs.word_index.Groups.{Continues, IsTest, Started}
use Rattle.measurer_index.specs.word_index.Numbers.{Adds}
use Rattle.measurer_index.specs.word_index.Tables.{root}
use Rattle.measurer_index.specs.word_index.Tests.{AreTestsAlong}
use Rattle.measurer_index.proofs.word_index.Begun.{no_tests}
use Rattle.measurer_index.proofs.word_index.Picked.{picked_all, picked_group, picked_none}
use Rattle.measurer_index.proofs.word_index.Steps.{adds_none, below_more, below_none}
use Rattle.measurer_index.proofs.word_index.index.WordIndex.add_all_tests.Goals as goal

pub returns-then-self : goal.returns-then-self
returns-then-self c = adds_none _ _ (λ n (at, (lt, h)). no_tests c.args.goals.now c.args.self.now.order c.args.self.now.absents c.args.path.now c.args.last at (sym c.requires.only_steps ∙ c.if-self.true) n h)

pub returns-then-is_empty : goal.returns-then-is_empty
returns-then-is_empty c =
    let along = subst (λ o. AreTestsAlong c.args.goals.now c.args.path.now o c.as_slice-order.result.now) c.deref.ensures
    (subst (AreTestsAlong c.args.goals.now c.args.path.now c.deref.result.now) (sym c.as_slice-order.ensures.value) c.in_ok-places.ensures)
    in
    picked_none c.args.goals.now c.args.self.now.order c.as_slice-order.result.now c.args.self.now.absents c.args.path.now c.args.last along (eqb-true _ 0 (sym c.is_empty.ensures ∙ c.if-is_empty.true)) _ _

pub add_tests-requires-clause-group : goal.add_tests-requires-clause-group
add_tests-requires-clause-group c =
    let along = subst (λ o. AreTestsAlong c.args.goals.now c.args.path.now o c.as_slice-order.result.now) c.deref.ensures
    (subst (AreTestsAlong c.args.goals.now c.args.path.now c.deref.result.now) (sym c.as_slice-order.ensures.value) c.in_ok-places.ensures)
    in
    picked_group c.args.goals.now c.args.self.now.order c.as_slice-order.result.now c.args.self.now.absents c.args.path.now c.args.last along c.requires.ordered.sorted c.requires.absents

pub loop-at-init : goal.loop-at-init
loop-at-init c = below_none _ _

pub loop-at-preserved : goal.loop-at-preserved
loop-at-preserved c =
    below_more (λ at n. Continues c.args.goals.now c.as_slice-order.result.now c.args.path.now c.args.last IsTest (root c.as_slice-order.result.now c.args.self.now.absents) at n) c.loop-at.at _ _ _ c.loop-at.invariant c.in_ok-add_tests.ensures

pub returns : goal.returns
returns c =
    let along = subst (λ o. AreTestsAlong c.args.goals.now c.args.path.now o c.as_slice-order.result.now) c.deref.ensures
    (subst (AreTestsAlong c.args.goals.now c.args.path.now c.deref.result.now) (sym c.as_slice-order.ensures.value) c.in_ok-places.ensures)
    in
    let nodes = c.nodes-at-end.ensures.path.nodes_fit in
    let size = ap length c.nodes-at-end.ensures.nodes in
    let past = c.loop-at-test.false in
    let end = c.loop-at.auto.at-end in
    let all : c.loop-at.at ≡ length c.args.path.now.edges + 1 = omega arith in
    picked_all c.args.goals.now c.args.self.now.order c.as_slice-order.result.now c.args.self.now.absents c.args.path.now c.args.last along (length c.args.path.now.edges + 1) _ _
    (subst (λ k. Adds (Started c.args.goals.now c.as_slice-order.result.now c.args.path.now c.args.last IsTest (root c.as_slice-order.result.now c.args.self.now.absents) k) c.args.numbers.now c.loop-at.numbers) all c.loop-at.invariant)
