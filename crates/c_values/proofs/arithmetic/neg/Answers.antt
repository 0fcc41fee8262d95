use Rattle.std.proofs.Common.{◌∙◌, ap, sym, subst}
use Rattle.c_values.specs.Kind.{IsValue, number_of}
use Rattle.c_values.proofs.Sums.{kind_of, negative_of-machine, IsValue-negative_of, number_of-negative_of}
use Rattle.c_values.proofs.arithmetic.neg.Goals as goal

pub fit-requires : goal.fit-requires
fit-requires c = kind_of c.args.kind c.args.a c.requires

pub returns-clause-value : goal.returns-clause-value
returns-clause-value c = c.fit.ensures ∙ negative_of-machine c.args.kind c.args.a c.requires

pub returns-clause-of_kind : goal.returns-clause-of_kind
returns-clause-of_kind c =
    subst (IsValue c.args.kind) (sym (returns-clause-value c))
    (IsValue-negative_of c.args.kind c.args.a (kind_of c.args.kind c.args.a c.requires))

pub returns-clause-number : goal.returns-clause-number
returns-clause-number c =
    ap (number_of c.args.kind) (returns-clause-value c)
    ∙ number_of-negative_of c.args.kind c.args.a (kind_of c.args.kind c.args.a c.requires)
