use Rattle.std.proofs.Common.{◌≡◌, take}
use Rattle.goals.specs.Words.{product}
use Rattle.goals.proofs.words.product.Given as goal

abbrev pub invariant-loop-word : goal.invariant-loop-word
invariant-loop-word l = l.words ≡ product (take l.word-index l.firsts) l.others
