-- What is due of checking a certificate that bounds suffice.
use Rattle.std.specs.Prelude.{◌⊎◌}
use Rattle.fq_core.specs.declared.refusal.Fault.TheVariants as fault
use Rattle.fq_core.specs.declared.refusal.Refusal.{Refusal}
use Rattle.bounds_check.specs.Leaving.{IsForLeaving}
use Rattle.bounds_check.specs.Sufficing.{IsWithinLimits}
use Rattle.cfa.specs.declared.parts.GraphParts.{GraphParts}
use Rattle.cnf.specs.declared.derivation.Derivation.{Derivation}
use Rattle.cnf.specs.declared.formula.Formula.{Formula}
use Rattle.report.specs.Suffice.{suffice_text}
use Rattle.unwinder.specs.Unwinding.{IsUnwindFault}
use Rattle.command_words.specs.Request.{CheckingBounds}
use Rattle.command.specs.Comparison.{IsCompared}
use Rattle.command.specs.Ranges.{within}
use Rattle.command.specs.Reads.{Reads}
use Rattle.command.specs.Runs.{EntryFunction, no_predicates}
use Rattle.command.specs.Said.{Said}
use Rattle.command.specs.Stages.{OfCertificate, OfEntry, Says}

-- The certificate is compared with the formula that is made anew, whose models are the inputs that leave the bounds; or codes 80
-- and 81 are those of the unwinding.
abbrev pub IsCheckedBounds : CheckingBounds → GraphParts → EntryFunction → Formula → Derivation → Said → Type 0
IsCheckedBounds m graph entry theirs derivation said =
    Says m.sources (λ (refusal : Refusal). IsUnwindFault graph no_predicates (within m.bounds) entry.function (fault.Refused refusal)) said
    ⊎ (IsWithinLimits graph entry.function (within m.bounds)
    × ((ours : Formula) × IsForLeaving graph entry.function (within m.bounds) ours
    × IsCompared (suffice_text (within m.bounds)) theirs ours derivation said))

-- what is due of `check-bounds`, by the sources' automaton
abbrev pub IsDueOfCheckBounds : Reads → CheckingBounds → GraphParts → Said → Type 0
IsDueOfCheckBounds r m graph said =
    OfEntry graph m.entry (λ entry. OfCertificate r m.sources m.certificate (IsCheckedBounds m graph entry)) said
