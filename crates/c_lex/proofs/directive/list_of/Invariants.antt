use Rattle.std.proofs.Common.{◌≡◌, take, map}
use Rattle.std.specs.Prelude.{Some}
use Rattle.containers.specs.Lists.{all_there}
use Rattle.c_lex.specs.Directives.{replacement_at}
use Rattle.c_lex.proofs.directive.list_of.Given as goal

abbrev pub invariant-loop-piece : goal.invariant-loop-piece
invariant-loop-piece l = all_there (map (replacement_at l.line) (take l.piece-index l.pieces)) ≡ Some l.list
