use Rattle.std.proofs.Common.{[], drop}
use Rattle.c_parse.specs.declared.statement.CaseLabel.{CaseLabel}
use Rattle.c_type_rules.specs.Rule.{alone_in}
use Rattle.c_type_rules.proofs.RuleLaws.{Left}
use Rattle.c_types.specs.Statements.{case_rule}
use Rattle.c_types.proofs.switches.cases.Given as goal

abbrev pub invariant-loop-label : goal.invariant-loop-label
invariant-loop-label l = Left (λ (c : CaseLabel). alone_in (case_rule l.kind c.span c.value)) [] l.labels l.initial.typer (drop l.label-index l.labels) l.list l.typer
