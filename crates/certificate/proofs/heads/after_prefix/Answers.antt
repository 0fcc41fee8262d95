use Rattle.std.proofs.Common.{◌≡◌, true, false}
use Rattle.certificate.proofs.HeadLaws.{not_front}
use Rattle.certificate.proofs.heads.after_prefix.Goals as goal

pub returns-else-is_same : goal.returns-else-is_same
returns-else-is_same c = λ more e.
    not_front _ _ _ more c.split_at.ensures.front
    (λ same. let yes_it_is : false ≡ true = c.if-is_same.ensures.1 same in absurd cc)
    e
