use Rattle.std.proofs.Common.{arith, length-append}
use Rattle.certificate.specs.Certificates.{line_text}
use Rattle.certificate.proofs.ClauseLaws.{lines_over_more, text_more}
use Rattle.certificate.proofs.read.read_lines.Goals as goal

pub loop-at-preserved : goal.loop-at-preserved
loop-at-preserved c =
    let before = c.loop-at.invariant in
    let read = rw c.in-Some.is at c.in_ok-line.ensures in
    let pushed = c.in_ok-push-in-Some.ensures.ok in
    record {
      number = rw pushed (simp length-append (omega (arith, before.number)));
      over = rw pushed (lines_over_more c.args.variables _ _ before.over read.0);
      text_is = rw pushed (text_more line_text _ _ _ _ _ before.text_is read.1);
    }
