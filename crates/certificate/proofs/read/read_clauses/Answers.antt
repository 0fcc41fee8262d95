use Rattle.std.proofs.Common.{arith, length-append}
use Rattle.cnf.specs.Dimacs.{clause_text}
use Rattle.certificate.proofs.ClauseLaws.{clauses_over_more, text_more}
use Rattle.certificate.proofs.read.read_clauses.Goals as goal

pub loop-at-preserved : goal.loop-at-preserved
loop-at-preserved c =
    let before = c.loop-at.invariant in
    let read = rw c.in-Some.is at c.in_ok-clause.ensures in
    let pushed = c.in_ok-push-in-Some.ensures.ok in
    record {
      number = rw pushed (simp length-append (omega (arith, before.number)));
      over = rw pushed (clauses_over_more c.args.variables _ _ before.over read.0);
      text_is = rw pushed (text_more clause_text _ _ _ _ _ before.text_is read.1);
    }
