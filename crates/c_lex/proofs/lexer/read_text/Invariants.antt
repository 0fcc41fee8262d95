use Rattle.std.proofs.Common.{◌≡◌, ◌≤◌, ◌+◌, ◌-◌, length}
use Rattle.c_lex.specs.Places.{position_at}
use Rattle.c_lex.specs.Table.{IsIndexed}
use Rattle.c_lex.specs.Taking.{IsAllowed}
use Rattle.c_lex.proofs.LexerLaws.{ReadSoFar}
use Rattle.c_lex.proofs.lexer.read_text.Given as goal

abbrev pub invariant-pieces : goal.invariant-pieces
invariant-pieces l = record {
  within : l.at ≤ length l.text;
  indexed : IsIndexed l.table;
  allowed : IsAllowed l.output;
  position : l.position ≡ position_at l.text l.at;
  line : l.position.line ≤ l.at + 1;
  column : l.position.column ≤ l.at + 1;
  so_far : ReadSoFar l.fn.file l.text l.at l.begins_line l.table.macros.items l.fn.output l.output;
}

abbrev pub decreases-pieces : goal.decreases-pieces
decreases-pieces l = length l.text - l.at
