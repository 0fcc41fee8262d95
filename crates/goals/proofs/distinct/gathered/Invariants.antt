use Rattle.std.proofs.Common.{◌≡◌, [], map}
use Rattle.goals.specs.Words.{same_word}
use Rattle.indexmap.specs.IndexSet.{insert_all}
use Rattle.goals.proofs.distinct.gathered.Given as goal

abbrev pub invariant-loop-word : goal.invariant-loop-word
invariant-loop-word l = map (λ v. v.items) l.set.keys ≡ insert_all same_word [] l.yielded
