use Rattle.std.proofs.Common.{◌∙◌, ap, sym, subst}
use Rattle.c_values.specs.Kind.{IsValue, number_of}
use Rattle.c_values.proofs.Fitting.{value_parts, converted-is, IsValue-converted, number_of-converted}
use Rattle.c_values.proofs.conversions.convert.Goals as goal

pub returns-clause-value : goal.returns-clause-value
returns-clause-value c = c.fit.ensures ∙ converted-is c.args.from c.args.to c.args.value c.requires.target (value_parts c.args.from c.args.value c.requires.operand).pattern

pub returns-clause-of_kind : goal.returns-clause-of_kind
returns-clause-of_kind c = subst (IsValue c.args.to) (sym (returns-clause-value c)) (IsValue-converted c.args.from c.args.to c.args.value c.requires.target)

pub returns-clause-number : goal.returns-clause-number
returns-clause-number c = ap (number_of c.args.to) (returns-clause-value c) ∙ number_of-converted c.args.from c.args.to c.args.value c.requires.target
