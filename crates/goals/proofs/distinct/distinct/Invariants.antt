use Rattle.std.proofs.Common.{◌≡◌, ◌++◌, map}
use Rattle.goals.proofs.distinct.distinct.Given as goal

abbrev pub invariant-loop-word : goal.invariant-loop-word
invariant-loop-word l = l.different ++ map (λ v. v.items) l.word-iterator ≡ map (λ v. v.items) l.initial.word-iterator
