use Rattle.std.proofs.Common.{◌≡◌, sym, ap, ◌∙◌, arith, List, [], ◌∷◌, ◌++◌}
use Rattle.c_parse.specs.declared.expressions.OpenChoice.{OpenChoice}
use Rattle.c_parse.specs.declared.expr.ExprTree.{ExprTree}
use Rattle.c_parse.specs.Choices.{closed}
use Rattle.c_parse.proofs.Choices.{closed_last, closed_none}
use Rattle.c_parse.proofs.expressions.closed.Goals as goal

pub choices-preserved : goal.choices-preserved
choices-preserved c =
    let popped : c.choices.outer.items ≡ c.pop.new.self.items ++ c.in-Some.field-0 ∷ [] = c.in-Some.ensures.items in
    ap (λ (t : ExprTree). closed c.pop.new.self.items t) c.in_ok-tree.ensures ∙ sym (closed_last c.pop.new.self.items c.in-Some.field-0 c.choices.tree)
    ∙ ap (λ (cs : List OpenChoice). closed cs c.choices.tree) (sym popped) ∙ c.choices.invariant

pub returns : goal.returns
returns c = sym (closed_none c.choices.outer.items c.choices.tree (omega (arith, c.choices.outer.ok.0, c.in_default.ensures.cases.0))) ∙ c.choices.invariant
