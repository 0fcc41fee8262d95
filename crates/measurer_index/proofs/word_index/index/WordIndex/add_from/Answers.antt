use Rattle.std.proofs.Common.{◌∙◌, subst, sym}
use Rattle.measurer_index.specs.word_index.Groups.{Continues, IsGroup, IsTest}
use Rattle.measurer_index.specs.word_index.Numbers.{Adds}
use Rattle.measurer_index.specs.word_index.Tables.{root}
use Rattle.measurer_index.proofs.word_index.Begun.{all_parts, no_tests, root_group}
use Rattle.measurer_index.proofs.word_index.Steps.{adds_none, on_ok}
use Rattle.measurer_index.proofs.word_index.index.WordIndex.add_from.Goals as goal

pub returns-then-self : goal.returns-then-self
returns-then-self c =
    all_parts c.args.goals.now c.args.self.now.order c.args.self.now.absents c.args.path.now c.args.last c.args.at c.requires.index.ordered _ _ _ _ c.in_ok-add_node.ensures c.in_ok-add_edge.ensures
    (adds_none _ _ (no_tests c.args.goals.now c.args.self.now.order c.args.self.now.absents c.args.path.now c.args.last c.args.at (sym c.requires.index.only_steps ∙ c.if-self.true)))

pub add_tests-requires-clause-group : goal.add_tests-requires-clause-group
add_tests-requires-clause-group c =
    subst (λ o. IsGroup c.args.goals.now o (root o c.args.self.now.absents)) (sym c.as_slice-order.ensures) (root_group c.args.goals.now c.args.self.now.order c.args.self.now.absents c.requires.index.ordered.sorted c.requires.index.absents)

pub returns : goal.returns
returns c =
    on_ok c.add_tests.result _ _
    (λ h. all_parts c.args.goals.now c.args.self.now.order c.args.self.now.absents c.args.path.now c.args.last c.args.at c.requires.index.ordered _ _ _ _ c.in_ok-add_node.ensures c.in_ok-add_edge.ensures
    (subst (λ o. Adds (Continues c.args.goals.now o c.args.path.now c.args.last IsTest (root o c.args.self.now.absents) c.args.at) c.add_edge.new.numbers c.add_tests.new.numbers) c.as_slice-order.ensures h))
    c.add_tests.ensures
