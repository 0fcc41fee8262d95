use Rattle.std.proofs.Common.{false, true, ◌≡◌}
use Rattle.std.proofs.lemmas.Int.{to_z-of_z}
use Rattle.cnf.specs.literal_marks.Marks.{marked}
use Rattle.cnf.proofs.literal_marks.PivotLaws.{no_pivot}
use Rattle.cnf.proofs.literal_marks.resolving.resolve_marked.Goals as goal

pub returns-then-not-is_literal-clause-value : goal.returns-then-not-is_literal-clause-value
returns-then-not-is_literal-clause-value c =
    let fits = c.ranges.pivot in
    let tells = simp to_z-of_z at c.if-not-is_literal.ensures in
    no_pivot (marked c.args.places.now c.args.marks.now) c.args.pivot c.args.antecedent.now (rw c.literals-literals.ensures.value at c.literals-literals.ensures.clause)
    (λ yes. let no : false ≡ true = tells.1 yes in absurd cc)
