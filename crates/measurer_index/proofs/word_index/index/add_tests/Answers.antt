use Rattle.std.proofs.Common.{◌^◌, ◌<◌, subst}
use Rattle.measurer_index.specs.word_index.Groups.{Continues, IsAbsentBelow, IsPredicateBelow}
use Rattle.measurer_index.specs.word_index.Numbers.{Adds}
use Rattle.measurer_index.proofs.word_index.Begun.{both_tests}
use Rattle.measurer_index.proofs.word_index.Steps.{on_ok}
use Rattle.measurer_index.proofs.word_index.index.add_tests.Goals as goal

pub returns : goal.returns
returns c =
    let small = subst (λ m. m < 2 ^ 64) c.mask_at-mask.ensures.mask c.mask_at-mask.ensures.small in
    let predicates = subst (λ g. Adds (Continues c.args.goals.now c.args.order.now c.args.path.now c.args.last (IsPredicateBelow 64) g c.args.at) c.args.numbers.now c.add_with_predicates.new.numbers) c.root-all.ensures c.in_ok-add_with_predicates.ensures in
    on_ok c.add_with_absents.result _ _
    (λ h. both_tests c.args.goals.now c.args.order.now c.args.absents c.args.path.now c.args.last c.args.at c.requires.group small _ _ _ predicates
    (subst (λ g. Adds (Continues c.args.goals.now c.args.order.now c.args.path.now c.args.last (IsAbsentBelow g.absents) g c.args.at) c.add_with_predicates.new.numbers c.add_with_absents.new.numbers) c.root-all.ensures h))
    c.add_with_absents.ensures
