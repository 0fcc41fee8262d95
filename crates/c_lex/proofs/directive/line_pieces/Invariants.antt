use Rattle.std.proofs.Common.{◌≤◌, ◌-◌, length}
use Rattle.c_lex.proofs.LineLaws.{LineSoFar}
use Rattle.c_lex.proofs.directive.line_pieces.Given as goal

abbrev pub invariant-pieces : goal.invariant-pieces
invariant-pieces l = record {
  within : l.at ≤ length l.line;
  so_far : LineSoFar l.line l.at l.pieces.items;
}

abbrev pub decreases-pieces : goal.decreases-pieces
decreases-pieces l = length l.line - l.at
