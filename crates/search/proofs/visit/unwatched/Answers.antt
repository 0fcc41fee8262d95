use Rattle.std.proofs.Common.{sym, get_or, pos, ap, of_z, w32}
use Rattle.std.proofs.lemmas.Int.{to_z-of_z}
use Rattle.cnf.proofs.ClauseLaws.{literals_of_clause}
use Rattle.cnf.proofs.literal_marks.PlacesLaws.{literal_fits}
use Rattle.search.proofs.LookLaws.{has_at, other_test}
use Rattle.search.proofs.visit.unwatched.Goals as goal

pub is_false-requires : goal.is_false-requires
is_false-requires c =
    let own = literals_of_clause 0 _ c.requires c.loop-literal.literal-index (pos 0) c.loop-literal-test.true in
    rw (to_z-of_z _ _ (literal_fits _ own.1)) own

pub returns-then-not-is_false-clause-some : goal.returns-then-not-is_false-clause-some
returns-then-not-is_false-clause-some c =
    let own = literals_of_clause 0 _ c.requires c.loop-literal.literal-index (pos 0) c.loop-literal-test.true in
    let free = rw (to_z-of_z _ _ (literal_fits _ own.1)) at (sym c.if-not-is_false.ensures) in
    rw (to_z-of_z _ _ (literal_fits _ own.1))
    (has_at c.args.clause.now c.loop-literal.literal-index c.loop-literal-test.true, free, other_test (get_or c.args.clause.now c.loop-literal.literal-index (pos 0)) c.args.partner (λ e. c.if-literal-partner.true (ap (of_z w32) e)), own)
