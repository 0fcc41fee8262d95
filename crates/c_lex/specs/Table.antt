-- The table of a text's macros, with the indexes of their names. Nothing that is promised speaks of this.
use Rattle.std.specs.Prelude.{◌≡◌, ℕ, List}
use Rattle.std.specs.Ordering.{nat_cmp}
use Rattle.std.specs.Cmp.Lexicographic.{slice_cmp}
use Rattle.std.specs.BTreeMap.{get}
use Rattle.c_lex.specs.declared.table.Table.{Table}
use Rattle.c_lex.specs.Macros.{index_of}

-- each name is found at its index
abbrev pub IsIndexed : Table → Type 0
IsIndexed table = (name : List ℕ) → get (slice_cmp nat_cmp) table.indexes name ≡ index_of table.macros.items name
