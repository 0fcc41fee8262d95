-- Kinds of statements.
use Rattle.std.specs.Prelude.{ℕ, Bool, ◌==◌}
use Rattle.fq_core.specs.declared.statement_kind.StatementKind.{StatementKind}
use Rattle.fq_core.specs.declared.statement_kind.StatementKind.TheVariants as kinds

-- a number for each kind
abbrev pub kind_number : StatementKind → ℕ
kind_number kinds.If = 0
kind_number kinds.For = 1
kind_number kinds.While = 2
kind_number kinds.Do = 3
kind_number kinds.Switch = 4
kind_number kinds.Assign = 5
kind_number kinds.Call = 6
kind_number kinds.Return = 7
kind_number kinds.Decl = 8
kind_number kinds.Assert = 9
kind_number kinds.Assume = 10
kind_number kinds.Jump = 11
kind_number kinds.Label = 12
kind_number kinds.Empty = 13

-- two kinds are one
abbrev pub same_kind : StatementKind → StatementKind → Bool
same_kind a b = kind_number a == kind_number b
