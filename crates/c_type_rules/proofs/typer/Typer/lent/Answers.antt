use Rattle.std.proofs.Common.{sym, ap, ◌∙◌}
use Rattle.c_type_rules.specs.Rule.{made_by}
use Rattle.c_type_rules.specs.Expressions.{joined, lent}
use Rattle.c_type_rules.proofs.ExpressionLaws.{value_joins, other_joins}
use Rattle.c_type_rules.proofs.typer.Typer.lent.Goals as goal

pub returns-in-Value-clause-made : goal.returns-in-Value-clause-made
returns-in-Value-clause-made c =
    sym (ap (λ sort. joined c.args.given.now (made_by (lent c.args.span c.args.kind c.args.length sort) c.args.self.now)) c.in-Value.is
    ∙ value_joins c.args.span c.args.kind c.args.length c.args.self.now c.args.given.now c.in-Value._value)

pub returns-in-Other-clause-made : goal.returns-in-Other-clause-made
returns-in-Other-clause-made c =
    sym (ap (λ sort. joined c.args.given.now (made_by (lent c.args.span c.args.kind c.args.length sort) c.args.self.now)) c.in-Other.is
    ∙ other_joins c.args.span c.args.kind c.args.length c.args.self.now c.args.given.now)
