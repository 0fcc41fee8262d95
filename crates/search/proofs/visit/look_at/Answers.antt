use Rattle.std.proofs.Common.{sym, refl}
use Rattle.std.proofs.lemmas.Int.{to_z-of_z}
use Rattle.cnf.specs.Clauses.{IsLiteral}
use Rattle.cnf.proofs.ClauseLaws.{literal_in_clause}
use Rattle.cnf.specs.literal_marks.Marks.{marked}
use Rattle.cnf.specs.declared.literal_marks.places.Places.TheVariants.{ByKey}
use Rattle.search.proofs.LookLaws.{all_but_one, all_false, satisfied_by}
use Rattle.search.proofs.visit.look_at.Goals as goal

pub returns-then-is_marked : goal.returns-then-is_marked
returns-then-is_marked c =
    satisfied_by (marked ByKey c.args.values.now) c.args.clause.now c.args.partner c.requires.literal (rw (to_z-of_z _ _ c.ranges.partner) at (sym c.if-is_marked.ensures))

pub is_false-requires : goal.is_false-requires
is_false-requires c =
    let own : IsLiteral c.args.partner = literal_in_clause 0 c.args.clause.now c.args.partner (rw c.literals.ensures.value at c.literals.ensures.clause) c.requires.literal in
    rw (to_z-of_z _ _ c.ranges.partner) own

pub returns-in-None : goal.returns-in-None
returns-in-None c =
    let others = rw (c.literals.ensures.value, to_z-of_z _ _ c.ranges.partner) at c.in-None.ensures.none in
    all_false (marked ByKey c.args.values.now) c.args.clause.now c.args.partner others (rw (to_z-of_z _ _ c.ranges.partner) at (sym c.if-is_false.ensures))

pub returns-in-None-2 : goal.returns-in-None-2
returns-in-None-2 c =
    let clause = rw c.literals.ensures.value at c.literals.ensures.clause in
    let own : IsLiteral c.args.partner = literal_in_clause 0 c.args.clause.now c.args.partner clause c.requires.literal in
    let others = rw (c.literals.ensures.value, to_z-of_z _ _ c.ranges.partner) at c.in-None-2.ensures.none in
    let negative = rw (to_z-of_z _ _ c.ranges.partner) at (sym c.if-is_false.ensures) in
    let positive = rw (to_z-of_z _ _ c.ranges.partner) at (sym c.if-is_marked.ensures) in
    rw (to_z-of_z _ _ c.ranges.partner) (refl, all_but_one (marked ByKey c.args.values.now) c.args.clause.now c.args.partner clause c.requires.literal others negative positive, own)
