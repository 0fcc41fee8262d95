use Rattle.std.proofs.Common.{◌≡◌, fold, map, take}
use Rattle.patterns.specs.declared.pattern.Pattern.TheVariants.{Dot}
use Rattle.goals.specs.Forms.{letter_pattern}
use Rattle.goals.proofs.forms.word_pattern.Given as goal

abbrev pub invariant-loop-own : goal.invariant-loop-own
invariant-loop-own l = l.pattern ≡ fold Dot l.initial.pattern (map (letter_pattern l.quotes) (take l.own-index l.others))
