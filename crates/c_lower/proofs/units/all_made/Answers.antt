use Rattle.std.proofs.Common.{map, arith}
use Rattle.std.proofs.lemmas.Result.{err_from_is_err_and}
use Rattle.c_typed_trees.specs.declared.unit.Global.{Global}
use Rattle.c_lower_rules.specs.graph_of.GraphOf.{made}
use Rattle.c_lower.proofs.UnitLaws.{unit_made, unit_stops, unit_over}
use Rattle.c_lower.proofs.units.all_made.Goals as goal

pub returns-clause-ok : goal.returns-clause-ok
returns-clause-ok c =
    unit_made (map (λ (g : Global). g.variable) c.args.globals.now) c.in_ok-variables.variables c.args.functions.now c.in_ok-parts.parts c.in_ok-variables.ensures c.in_ok-parts.ensures.made c.bodies.new.parts c.in_ok-bodies.ensures.made

pub returns-in_err-bodies-clause-err : goal.returns-in_err-bodies-clause-err
returns-in_err-bodies-clause-err c =
    let p = err_from_is_err_and c.from_residual-in_err-bodies.result c.from_residual-in_err-bodies.ensures.1 in
    rw (p.1, p.2)
    (unit_stops (map (λ (g : Global). g.variable) c.args.globals.now) c.in_ok-variables.variables c.args.functions.now c.in_ok-parts.parts c.in_ok-variables.ensures c.in_ok-parts.ensures.made c.in_err-bodies.field-0.0 c.in_err-bodies.ensures.err)

pub returns-then-len-gt-MOST_EDGES-clause-err : goal.returns-then-len-gt-MOST_EDGES-clause-err
returns-then-len-gt-MOST_EDGES-clause-err c =
    let e = unit_made (map (λ (g : Global). g.variable) c.args.globals.now) c.in_ok-variables.variables c.args.functions.now c.in_ok-parts.parts c.in_ok-variables.ensures c.in_ok-parts.ensures.made c.bodies.new.parts c.in_ok-bodies.ensures.made in
    unit_over (made (map (λ (g : Global). g.variable) c.args.globals.now) c.args.functions.now) c.bodies.new.parts e (omega arith)
