use Rattle.std.proofs.Common.{◌∙◌, ap, sym, subst}
use Rattle.std.specs.Int.{bit_at}
use Rattle.c_values.specs.Kind.{IsValue}
use Rattle.c_values.proofs.Fitting.{value_parts}
use Rattle.c_values.proofs.Sums.{kind_of}
use Rattle.c_values.proofs.Bits.{complement_of-machine, IsValue-complement_of, bit_at-complement_of}
use Rattle.c_values.proofs.bitwise.not.Goals as goal

pub fit-requires : goal.fit-requires
fit-requires c = kind_of c.args.kind c.args.a c.requires

pub returns-clause-value : goal.returns-clause-value
returns-clause-value c = c.fit.ensures ∙ complement_of-machine c.args.kind c.args.a

pub returns-clause-of_kind : goal.returns-clause-of_kind
returns-clause-of_kind c =
    subst (IsValue c.args.kind) (sym (returns-clause-value c))
    (IsValue-complement_of c.args.kind c.args.a (kind_of c.args.kind c.args.a c.requires))

pub returns-clause-bits : goal.returns-clause-bits
returns-clause-bits c i below =
    ap (λ x. bit_at x i) (returns-clause-value c)
    ∙ bit_at-complement_of c.args.kind c.args.a i (kind_of c.args.kind c.args.a c.requires)
    (value_parts c.args.kind c.args.a c.requires).pattern below
