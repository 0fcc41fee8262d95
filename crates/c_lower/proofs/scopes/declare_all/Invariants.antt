use Rattle.std.proofs.Common.{◌≡◌, ◌++◌, map, take}
use Rattle.c_lower_rules.specs.graph_of.Statements.{declared_by}
use Rattle.c_lower_rules.specs.graph_of.Table.{piece}
use Rattle.c_lower.specs.Forms.{has_any}
use Rattle.c_lower.proofs.scopes.declare_all.Given as goal

abbrev pub invariant-loop-statement : goal.invariant-loop-statement
invariant-loop-statement l = record {
  sees : l.sees.variables ≡ declared_by (map piece (take l.statement-index l.list)) ++ l.around.sees.variables;
  fresh : l.fresh ≡ has_any (declared_by (map piece (take l.statement-index l.list)));
}
