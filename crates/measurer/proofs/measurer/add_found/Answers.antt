use Rattle.std.proofs.Common.{length, sym, subst}
use Rattle.measurer_index.specs.word_index.Numbers.{Adds}
use Rattle.measurer_index.specs.word_index.Tables.{IsIndexOf}
use Rattle.measurer_index.specs.word_index.Walks.{HasGoalWalk}
use Rattle.measurer_index.proofs.word_index.Steps.{adds_both, on_ok}
use Rattle.measurer.specs.Measured.{AreMatchers}
use Rattle.measurer.proofs.measurer.add_found.Goals as goal

pub add_walks-requires : goal.add_walks-requires
add_walks-requires c = subst (λ g. IsIndexOf g c.args.tables.now.index) (sym c.as_slice-goals.ensures) c.requires.index

pub returns : goal.returns
returns c =
    let walks = subst (λ g. Adds (HasGoalWalk g c.args.plan.now.first c.args.plan.now.last c.args.path.now) c.args.numbers.now c.add_walks.new.numbers) c.as_slice-goals.ensures c.in_ok-add_walks.ensures in
    let others = c.add_others.ensures c.args.plan.now.goals
    (subst (λ a. AreMatchers c.args.tables.now.sets c.args.plan.now.goals c.args.plan.now.first c.args.plan.now.last (length c.args.plan.now.goals) a) (sym c.as_slice-matchers.ensures) c.requires.matchers) in
    on_ok c.add_others.result _ _ (λ h. adds_both _ _ _ _ _ walks h) others
