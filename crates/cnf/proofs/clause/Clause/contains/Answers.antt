use Rattle.std.proofs.Common.{sym, ◌∙◌}
use Rattle.std.proofs.lemmas.Int.{to_z-of_z}
use Rattle.cnf.proofs.ClauseLaws.{literal_in_clause, on_true}
use Rattle.cnf.proofs.clause.Clause.contains.Goals as goal

pub returns-clause-literal : goal.returns-clause-literal
returns-clause-literal c =
    let fits = c.ranges.literal in
    let is = simp to_z-of_z at c.holds.ensures in
    on_true c.holds.result _ (λ e. literal_in_clause 0 _ _ c.literals.ensures.clause (sym is ∙ e))
