use Rattle.std.proofs.Common.{All, take}
use Rattle.search_checked.specs.Laws.{HasClause}
use Rattle.search_checked.proofs.rising.lines_rise.Given as goal

abbrev pub invariant-loop-line : goal.invariant-loop-line
invariant-loop-line l = All HasClause (take l.line-index l.lines)
