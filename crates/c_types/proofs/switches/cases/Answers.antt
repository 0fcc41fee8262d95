use Rattle.std.proofs.Common.{[]}
use Rattle.c_parse.specs.declared.statement.CaseLabel.{CaseLabel}
use Rattle.c_type_rules.specs.Rule.{alone_in}
use Rattle.c_type_rules.proofs.RuleLaws.{left_one, left_made, left_after}
use Rattle.c_types.specs.Statements.{case_rule, cases_rule}
use Rattle.c_types.proofs.switches.cases.Goals as goal

pub loop-label-preserved : goal.loop-label-preserved
loop-label-preserved c =
    left_one (λ (l : CaseLabel). case_rule c.args.kind l.span l.value) [] c.args.labels.now c.args.typer.now c.loop-label.label-index c.label-item.result
    c.in_ok-one_case.field-0 c.loop-label.list c.push.new.self c.loop-label.typer c.one_case.new.typer
    c.loop-label-test.true c.label-item.is c.in_ok-one_case.ensures.made c.in_ok-push.ensures.ok c.in_ok-one_case.ensures.state c.loop-label.invariant

pub returns-clause-made : goal.returns-clause-made
unfolding cases_rule
returns-clause-made c = left_made (λ (l : CaseLabel). alone_in (case_rule c.args.kind l.span l.value)) [] c.args.labels.now c.args.typer.now c.loop-label.label-index c.loop-label.list c.loop-label.typer c.loop-label-test.false c.loop-label.invariant

pub returns-clause-state : goal.returns-clause-state
unfolding cases_rule
returns-clause-state c = left_after (λ (l : CaseLabel). alone_in (case_rule c.args.kind l.span l.value)) [] c.args.labels.now c.args.typer.now c.loop-label.label-index c.loop-label.list c.loop-label.typer c.loop-label-test.false c.loop-label.invariant
