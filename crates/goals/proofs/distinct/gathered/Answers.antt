use Rattle.std.proofs.Common.{ap, map, ◌∙◌}
use Rattle.goals.proofs.Same.{word_inserted, word_items}
use Rattle.goals.proofs.distinct.gathered.Goals as goal

pub loop-word-preserved : goal.loop-word-preserved
loop-word-preserved c = ap (map word_items) c.in_ok-insert.ensures.keys ∙ word_inserted c.loop-word.set.keys c.into_vec.result c.in-Some.word c.loop-word.yielded c.into_vec.ensures c.loop-word.invariant
