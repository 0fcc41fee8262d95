use Rattle.std.proofs.Common.{drop}
use Rattle.c_type_rules.specs.Rule.{alone_in}
use Rattle.c_type_rules.proofs.RuleLaws.{Left}
use Rattle.c_types.specs.Declarations.{local_rule}
use Rattle.c_types.proofs.declarations.locals.Given as goal

abbrev pub invariant-loop-declarator : goal.invariant-loop-declarator
invariant-loop-declarator l = Left (λ d. alone_in (local_rule l.span l.kind d)) l.initial.out l.list l.initial.typer (drop l.declarator-index l.list) l.out l.typer
