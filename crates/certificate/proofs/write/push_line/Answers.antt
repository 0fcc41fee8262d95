use Rattle.certificate.proofs.ReadLaws.{line_pushed}
use Rattle.certificate.proofs.write.push_line.Goals as goal

pub returns : goal.returns
returns c =
    rw (c.in_ok-push-3.ensures.items, c.in_ok-push_steps.ensures, c.in_ok-push-2.ensures.items, c.in_ok-push_number.ensures, c.in_ok-push.ensures.items, c.in_ok-push_clause.ensures, c.as_slice.ensures)
    (line_pushed c.args.text.now.items c.args.line.now)
