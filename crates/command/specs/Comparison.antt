-- What is said of a certificate whose formula is made anew: the formulas are compared, and the derivation is looked at.
use Rattle.std.specs.Prelude.{◌≡◌, ◌⊎◌, ◌-◌, ℕ, ℤ, List, [], ◌++◌, codes, slice_get, Option, None, Some}
use Rattle.std.specs.Fmt.{decimal}
use Rattle.fq_core.specs.declared.refusal.Place.TheVariants as place
use Rattle.certificate.specs.Differences.{IsFirstDifference}
use Rattle.certificate.specs.declared.difference.Difference.{Difference}
use Rattle.certificate.specs.declared.difference.Difference.TheVariants.{Variables, ClauseAt}
use Rattle.cnf.specs.Dimacs.{clause_text}
use Rattle.cnf.specs.declared.derivation.Derivation.{Derivation}
use Rattle.cnf.specs.declared.formula.Formula.{Formula}
use Rattle.derivation_check.specs.Verdicts.{IsVerdict}
use Rattle.derivation_check.specs.declared.verdict.Verdict.{Verdict}
use Rattle.derivation_check.specs.declared.verdict.Verdict.TheVariants.{Yes, BadStep, NoEmptyClause}
use Rattle.command.specs.declared.status.Status.TheVariants as status
use Rattle.command.specs.Refusal.{said_by}
use Rattle.command.specs.Said.{Said, answered, refused}
use Rattle.command.specs.Stages.{nowhere}

-- ---- another formula than the one that is made anew

abbrev pub clause_or_none : Option (List ℤ) → List ℕ
clause_or_none None = codes "none"
clause_or_none (Some clause) = clause_text clause

-- the two numbers of variables, or the first clauses that differ, with their number
abbrev pub difference_text : Formula → Formula → Difference → List ℕ
difference_text theirs ours (Variables t o) = codes "variables " ++ decimal t ++ codes " " ++ decimal o
difference_text theirs ours (ClauseAt index) =
    codes "clause " ++ decimal index ++ codes " " ++ clause_or_none (slice_get theirs.clauses (index - 1))
    ++ codes " " ++ clause_or_none (slice_get ours.clauses (index - 1))

abbrev pub difference_line : Formula → Formula → Difference → List ℕ
difference_line theirs ours d = codes "error 91 OtherFormula " ++ difference_text theirs ours d ++ codes "\n"

abbrev pub other_formula : Formula → Formula → Difference → Said
other_formula theirs ours d = refused (Some status.CertificateRejected) (difference_line theirs ours d)

-- ---- the same formula

-- what is said of the verdict on the derivation: this text where it shows that nothing satisfies the formula
abbrev pub said_of_verdict : List ℕ → Verdict → Said
said_of_verdict text Yes = answered text
said_of_verdict text (BadStep line) = said_by [] (record { code = 92; place = place.Line line })
said_of_verdict text NoEmptyClause = nowhere 93

-- the verdict on a derivation is said, with this text where it shows that nothing satisfies the formula
abbrev pub IsJudged : List ℕ → Formula → Derivation → Said → Type 0
IsJudged text formula derivation said = (verdict : Verdict) × IsVerdict formula derivation verdict × (said ≡ said_of_verdict text verdict)

-- The certificate's formula differs from ours, and what differs first is said; or it is ours, and the verdict on the derivation is
-- said.
abbrev pub IsCompared : List ℕ → Formula → Formula → Derivation → Said → Type 0
IsCompared text theirs ours derivation said =
    ((d : Difference) × IsFirstDifference theirs ours (Some d) × (said ≡ other_formula theirs ours d))
    ⊎ ((theirs ≡ ours) × IsJudged text ours derivation said)
