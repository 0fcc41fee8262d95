use Rattle.std.proofs.Common.{rules, ℕ, ◌<◌, ◌∙◌, length, ap, subst}
use Rattle.std.specs.Prelude.{slice_index}
use Rattle.std.specs.List.{filter}
use Rattle.std.proofs.lemmas.Fn.{filter_same}
use Rattle.measurer_index.specs.word_index.Tests.{AreBitsOf, may_go}
use Rattle.measurer_index.specs.word_index.Walks.{word_at}
use Rattle.measurer_index.proofs.word_index.Picked.{picked}
use Rattle.measurer_index.proofs.word_index.possible.tests_along.Goals as goal

pub returns : goal.returns
returns c = record {
  keeps = λ p. may_go c.set_somewhere-somewhere.result c.set_everywhere-everywhere.result (word_at c.args.goals.now p);
  filtered = filter_same _ (λ p. may_go c.set_somewhere-somewhere.result c.set_everywhere-everywhere.result (word_at c.args.goals.now p)) _ (λ x b f' k. search rules) _ _ c.retain.ensures.filtered
      ∙ ap (filter (λ p. may_go c.set_somewhere-somewhere.result c.set_everywhere-everywhere.result (word_at c.args.goals.now p))) c.in_ok-places.ensures.items;
  enough = λ place from to test h within.
      let somewhere = subst (λ masks. (at : ℕ) → at < length masks → AreBitsOf (slice_index masks at) c.set_somewhere-somewhere.result) c.masks.ensures.masks c.set_somewhere-somewhere.ensures in
      let everywhere = subst (λ masks. (at : ℕ) → at < length masks → AreBitsOf c.set_everywhere-everywhere.result (slice_index masks at)) c.masks-2.ensures.masks c.set_everywhere-everywhere.ensures in
      picked c.args.path.now c.masks.ensures.path c.set_somewhere-somewhere.result c.set_everywhere-everywhere.result somewhere everywhere (word_at c.args.goals.now place) from to test h within;
}
