use Rattle.std.proofs.Common.{arith, rules, SFits, w32}
use Rattle.std.proofs.lemmas.Int.{to_z-of_z}
use Rattle.cnf.proofs.ClauseLaws.{rises, grown_by, grown_same}
use Rattle.cnf.proofs.clause.clause_of_keys.Goals as goal
use Rattle.cnf.proofs.clause.clause_of_keys.Goals.{then-key-last+in_ok-push, else-key-last}

pub loop-key-preserved : goal.loop-key-preserved
loop-key-preserved c =
    let key = c.requires.keys c.loop-key.key-index 0 c.loop-key-test.true in
    elim c.if-key-last.branch [
      | then-key-last+in_ok-push w ↦
          let fits : SFits w32 w.literal_of_key.result = search rules in
          let pushed = simp to_z-of_z at w.in_ok-push.ensures.ok in
          rw (w.last-is, w.literals-is, pushed)
          (grown_by _ _ _ _ _ c.loop-key-test.true key.1 w.if-key-last.true w.literal_of_key.ensures c.loop-key.invariant)
      | else-key-last w ↦
          rw (w.last-is, w.literals-is)
          (grown_same _ _ _ _ c.loop-key-test.true (omega (arith, key.0)) c.requires.sorted w.if-key-last.false c.loop-key.invariant)
    ]

pub invariant_of-result : goal.invariant_of-result
invariant_of-result c = rises 0 _ _ c.loop-key.invariant.rising

pub returns-clause-clause : goal.returns-clause-clause
returns-clause-clause c = rises 0 _ _ c.loop-key.invariant.rising
