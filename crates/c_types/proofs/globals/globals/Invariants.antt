use Rattle.std.proofs.Common.{drop}
use Rattle.c_type_rules.specs.Rule.{alone_in}
use Rattle.c_type_rules.proofs.RuleLaws.{Left}
use Rattle.c_types.specs.Declarations.{global_rule}
use Rattle.c_types.proofs.globals.globals.Given as goal

abbrev pub invariant-loop-declarator : goal.invariant-loop-declarator
invariant-loop-declarator l = Left (λ d. alone_in (global_rule l.kind d)) l.initial.out l.list l.initial.typer (drop l.declarator-index l.list) l.out l.typer
