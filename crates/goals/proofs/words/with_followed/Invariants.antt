use Rattle.std.proofs.Common.{◌≡◌, ◌++◌, map, take}
use Rattle.goals.proofs.words.with_followed.Given as goal

abbrev pub invariant-loop-other : goal.invariant-loop-other
invariant-loop-other l = l.words ≡ l.initial.words ++ map (λ other. l.word ++ other) (take l.other-index l.others)
