use Rattle.std.proofs.Common.{sym, rules, SFits, w32}
use Rattle.std.proofs.lemmas.Int.{to_z-of_z}
use Rattle.derivation_check.proofs.NumbersLaws.{places_by_last}
use Rattle.derivation_check.proofs.table.size_for_clause.Goals as goal

pub returns-in-Some : goal.returns-in-Some
returns-in-Some c =
    let fits : SFits w32 c.in-Some.literal.now = search rules in
    let key = simp to_z-of_z at c.literal_key.ensures.value in
    rw (key, ← c.literals.ensures.value) (places_by_last 0 _ _ c.literals.ensures.clause (sym c.in-Some.ensures.value))
