use Rattle.c_type_rules.specs.Rule.{alone_in}
use Rattle.c_type_rules.proofs.RuleLaws.{left_one, left_made, left_after}
use Rattle.c_types.specs.Declarations.{local_rule, locals_rule}
use Rattle.c_types.proofs.declarations.locals.Goals as goal

pub loop-declarator-preserved : goal.loop-declarator-preserved
loop-declarator-preserved c =
    left_one (local_rule c.args.span c.args.kind) c.args.out.now c.args.list.now c.args.typer.now c.loop-declarator.declarator-index c.declarator-item.result
    c.in_ok-local.field-0 c.loop-declarator.out c.push.new.self c.loop-declarator.typer c.local.new.typer
    c.loop-declarator-test.true c.declarator-item.is c.in_ok-local.ensures.made c.in_ok-push.ensures.ok c.in_ok-local.ensures.state c.loop-declarator.invariant

pub returns-clause-made : goal.returns-clause-made
unfolding locals_rule
returns-clause-made c = left_made (λ d. alone_in (local_rule c.args.span c.args.kind d)) c.args.out.now c.args.list.now c.args.typer.now c.loop-declarator.declarator-index c.loop-declarator.out c.loop-declarator.typer c.loop-declarator-test.false c.loop-declarator.invariant

pub returns-clause-state : goal.returns-clause-state
unfolding locals_rule
returns-clause-state c = left_after (λ d. alone_in (local_rule c.args.span c.args.kind d)) c.args.out.now c.args.list.now c.args.typer.now c.loop-declarator.declarator-index c.loop-declarator.out c.loop-declarator.typer c.loop-declarator-test.false c.loop-declarator.invariant
