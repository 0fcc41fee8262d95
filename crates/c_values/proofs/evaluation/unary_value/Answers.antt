use Rattle.c_values.proofs.Fitting.{IsValue-zero}
use Rattle.c_values.proofs.Sums.{kind_of}
use Rattle.c_values.proofs.evaluation.unary_value.Goals as goal

pub equal-requires-clause-right : goal.equal-requires-clause-right
equal-requires-clause-right c = IsValue-zero c.args.kind (kind_of c.args.kind c.args.a c.requires)
