use Rattle.std.proofs.Common.{map, drop}
use Rattle.c_type_rules.specs.Expressions.{piece}
use Rattle.c_type_rules.proofs.ExpressionLaws.{Left}
use Rattle.c_type_rules.proofs.typer.Typer.+typing.Given as goal

abbrev pub invariant-arguments-loop-i : goal.invariant-arguments-loop-i
invariant-arguments-loop-i l = Left l.parameters (map piece l.trees) l.initial.self l.i (map piece (drop l.i l.trees)) l.given l.self
