use Rattle.std.proofs.Common.{[], drop}
use Rattle.c_type_rules.specs.Rule.{alone_in}
use Rattle.c_type_rules.proofs.RuleLaws.{Left}
use Rattle.c_types.specs.Declarations.{first_value}
use Rattle.c_types.proofs.globals.first_values.Given as goal

abbrev pub invariant-loop-tree : goal.invariant-loop-tree
invariant-loop-tree l = Left (λ t. alone_in (first_value l.kind t)) [] l.trees l.initial.typer (drop l.tree-index l.trees) l.list l.typer
