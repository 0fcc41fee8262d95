use Rattle.std.proofs.Common.{Some, ap, sym, ◌∙◌}
use Rattle.c_types.specs.Scoped.{expression_in}
use Rattle.predicates.proofs.Narrowed.{is_meaning}
use Rattle.predicates.proofs.typing.meaning_of.Goals as goal

pub returns : goal.returns
returns c =
    is_meaning c.args.tree.now c.args.row.now _
    (ap (λ s. expression_in s c.args.tree.now) (sym c.in_ok-scope.ensures) ∙ sym c.in_ok-type_expression.ensures ∙ c.in-Some.is ∙ ap Some (sym c.in_ok-new-in-Some.ensures))

pub returns-in-None : goal.returns-in-None
returns-in-None c = is_meaning c.args.tree.now c.args.row.now _ (ap (λ s. expression_in s c.args.tree.now) (sym c.in_ok-scope.ensures) ∙ sym c.in_ok-type_expression.ensures ∙ c.in-None.is)
