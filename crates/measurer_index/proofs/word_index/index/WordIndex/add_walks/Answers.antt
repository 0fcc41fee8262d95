use Rattle.std.proofs.Common.{◌+◌, length, refl}
use Rattle.measurer_index.specs.word_index.Tables.{root}
use Rattle.measurer_index.proofs.word_index.Begun.{all_started}
use Rattle.measurer_index.proofs.word_index.Starts.{from_first, from_all}
use Rattle.measurer_index.proofs.word_index.Steps.{on_ok}
use Rattle.measurer_index.proofs.word_index.index.WordIndex.add_walks.Goals as goal

pub returns-then-first : goal.returns-then-first
returns-then-first c =
    on_ok c.add_from.result _ _
    (λ h. from_first c.args.goals.now c.args.self.now.order c.args.path.now c.args.first c.args.last _ refl refl refl c.requires.ordered c.requires.absents _ _ c.if-first.true h)
    c.add_from.ensures

pub returns : goal.returns
returns c =
    on_ok c.add_all_tests.result _ _
    (λ h. from_all c.args.goals.now c.args.self.now.order c.args.path.now c.args.first c.args.last (root c.args.self.now.order c.args.self.now.absents) refl refl refl c.requires.ordered c.requires.absents (length c.args.path.now.edges + 1) _ _ c.if-first.false refl
    (all_started c.args.goals.now c.args.self.now.order c.args.self.now.absents c.args.path.now c.args.last c.requires.ordered (length c.args.path.now.edges + 1) _ _ _ _ c.in_ok-add_steps.ensures c.in_ok-add_steps-2.ensures h))
    c.add_all_tests.ensures
