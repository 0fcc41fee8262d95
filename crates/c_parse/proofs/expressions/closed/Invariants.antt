use Rattle.std.proofs.Common.{◌≡◌, length}
use Rattle.c_parse.specs.Choices.{closed}
use Rattle.c_parse.proofs.expressions.closed.Given as goal

abbrev pub invariant-choices : goal.invariant-choices
invariant-choices l = closed l.outer.items l.tree ≡ closed l.initial.outer.items l.initial.tree

abbrev pub decreases-choices : goal.decreases-choices
decreases-choices l = length l.outer.items
