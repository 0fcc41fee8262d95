use Rattle.std.proofs.Common.{◌≡◌, ◌≤◌, All, length, subst, sym, arith}
use Rattle.measurer_index.specs.word_index.Numbers.{Adds}
use Rattle.measurer_index.specs.word_index.Places.{AreEnough}
use Rattle.measurer_index.specs.word_index.Tables.{AreBegun}
use Rattle.measurer_index.proofs.word_index.Begun.{chosen}
use Rattle.measurer_index.proofs.word_index.Enough.{Walked, walked_all}
use Rattle.measurer_index.proofs.word_index.Steps.{Below, below_more, below_none}
use Rattle.measurer_index.proofs.word_index.index.WordIndex.add_steps.Goals as goal

pub loop-at-init : goal.loop-at-init
loop-at-init c = below_none _ _

pub add_step-requires-clause-at : goal.add_step-requires-clause-at
add_step-requires-clause-at c =
    let are = subst (λ o. AreBegun c.args.goals.now o c.args.self.now.absents c.args.edges c.table-groups.result.now) (sym c.deref.ensures)
    (subst (AreBegun c.args.goals.now c.args.self.now.order c.args.self.now.absents c.args.edges) (sym c.table-groups.ensures) (chosen c.args.goals.now c.args.self.now c.requires c.args.edges))
    in
    let enough = c.in_ok-places.ensures c.args.self.now.absents are in
    subst (All (λ at. at ≤ length c.args.path.now.edges)) (sym c.deref-at-items.ensures.value) enough.within c.loop-at.at-index 0 c.loop-at-test.true

pub loop-at-preserved : goal.loop-at-preserved
loop-at-preserved c = below_more (Walked c.args.goals.now c.args.self.now.order c.args.self.now.absents c.args.path.now c.args.last c.args.edges c.deref-at-items.result.now) c.loop-at.at-index _ _ _ c.loop-at.invariant c.in_ok-add_step.ensures

pub returns : goal.returns
returns c =
    let are = subst (λ o. AreBegun c.args.goals.now o c.args.self.now.absents c.args.edges c.table-groups.result.now) (sym c.deref.ensures)
    (subst (AreBegun c.args.goals.now c.args.self.now.order c.args.self.now.absents c.args.edges) (sym c.table-groups.ensures) (chosen c.args.goals.now c.args.self.now c.requires c.args.edges))
    in
    let enough = subst (λ o. AreEnough c.args.goals.now o c.args.self.now.absents c.args.path.now c.args.last c.args.edges c.deref-at-items.result.now) c.deref.ensures
    (subst (AreEnough c.args.goals.now c.deref.result.now c.args.self.now.absents c.args.path.now c.args.last c.args.edges) (sym c.deref-at-items.ensures.value) (c.in_ok-places.ensures c.args.self.now.absents are))
    in
    let all : c.loop-at.at-index ≡ length c.deref-at-items.result.now = omega (arith, c.loop-at-test.false, c.loop-at.auto) in
    walked_all c.args.goals.now c.args.self.now.order c.args.self.now.absents c.args.path.now c.args.last c.args.edges c.deref-at-items.result.now enough _ _
    (subst (λ k. Adds (Below (Walked c.args.goals.now c.args.self.now.order c.args.self.now.absents c.args.path.now c.args.last c.args.edges c.deref-at-items.result.now) k) c.args.numbers.now c.loop-at.numbers) all c.loop-at.invariant)
