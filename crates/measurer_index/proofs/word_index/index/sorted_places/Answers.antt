use Rattle.std.proofs.Common.{◌≡◌, true, rules}
use Rattle.std.proofs.lemmas.List.Sorted.{All-permutation, Contains-permutation}
use Rattle.measurer_index.specs.word_index.Walks.{is_plain, word_at}
use Rattle.measurer_index.proofs.word_index.Starts.{sorted_words}
use Rattle.measurer_index.proofs.word_index.index.sorted_places.Goals as goal

pub returns : goal.returns
returns c =
    let moved = c.sort_unstable_by.ensures.permutation in
    record {
      sorted = sorted_words c.args.goals.now _ c.sort_unstable_by.ensures.sorted (λ a r f' k. search rules);
      plain = λ r lt. All-permutation (λ p. is_plain (word_at c.args.goals.now p) ≡ true) _ _ moved c.in_ok-places.ensures.plain r 0 lt;
      all = λ g h. Contains-permutation _ _ g moved (c.in_ok-places.ensures.every g h);
    }
