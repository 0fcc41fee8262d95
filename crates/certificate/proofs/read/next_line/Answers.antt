use Rattle.std.proofs.Common.{◌≡◌}
use Rattle.certificate.specs.Certificates.{numbers_of_line}
use Rattle.certificate.proofs.RowLaws.{not_a_row, same_row}
use Rattle.certificate.proofs.ClauseLaws.{small_line}
use Rattle.certificate.proofs.read.next_line.Goals as goal

pub returns-then-not-branch : goal.returns-then-not-branch
returns-then-not-branch c = λ x more over e.
    let none = rw c.if-not-branch.true at c.in_ok-read_row.ensures in
    not_a_row _ _ _ more (numbers_of_line x) c.in-Some.ensures.0 c.in-Some.ensures.1 none (small_line c.args.variables x c.requires over) e

pub returns-in-None : goal.returns-in-None
returns-in-None c = λ x more over e.
    let row = rw c.if-not-branch.false at c.in_ok-read_row.ensures in
    let bad = rw (c.in-None.is, c.deref.ensures.value) at c.in_ok-line.ensures in
    let all : c.read_row.new.numbers.items ≡ (numbers_of_line x) = same_row _ _ _ more _ (numbers_of_line x) c.in-Some.ensures.0 c.in-Some.ensures.1 row.0 row.1 (small_line c.args.variables x c.requires over) e in
    bad x over all
