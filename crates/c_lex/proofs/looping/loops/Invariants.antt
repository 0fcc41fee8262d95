use Rattle.std.proofs.Common.{◌≡◌, length, reverse}
use Rattle.c_lex.specs.Searching.{Searched, left}
use Rattle.c_lex.proofs.looping.loops.Given as goal

abbrev pub invariant-turns : goal.invariant-turns
invariant-turns l = record {
  lengths : length l.marks.items ≡ length l.table.macros.items;
  searched : Searched l.table.macros.items l.index l.marks.items (reverse l.frames.items);
}

abbrev pub decreases-turns : goal.decreases-turns
decreases-turns l = left l.table.macros.items l.marks.items (reverse l.frames.items)
