-- What is due of asking whether bounds suffice.
use Rattle.std.specs.Prelude.{◌≡◌, ◌⊎◌, ℕ, List, [], ◌∷◌, length, Some}
use Rattle.fq_core.specs.declared.refusal.Fault.TheVariants as fault
use Rattle.fq_core.specs.declared.refusal.Refusal.{Refusal}
use Rattle.c_values.specs.declared.kinds.Kind.{Kind}
use Rattle.cfa.specs.declared.parts.GraphParts.{GraphParts}
use Rattle.certificate.specs.Certificates.{certificate_text}
use Rattle.cnf.specs.declared.derivation.Derivation.{Derivation}
use Rattle.cnf.specs.declared.formula.Formula.{Formula}
use Rattle.bounds_check.specs.Sufficing.{IsOpenWhereShort, IsSuffice, IsWithinLimits}
use Rattle.bounds_check.specs.declared.suffice.Suffice.{Suffice}
use Rattle.bounds_check.specs.declared.suffice.Suffice.TheVariants.{Left, Open, Yes}
use Rattle.input_text.specs.Laws.{HasWords}
use Rattle.unwinder_reach.specs.declared.reached.bounds.Bounds.{Bounds}
use Rattle.report.specs.Suffice.{left_text, open_bounds_text, suffice_text}
use Rattle.unwinder.specs.Unwinding.{IsUnwindFault}
use Rattle.command_words.specs.Reading.{Text}
use Rattle.command_words.specs.Request.{Sufficing}
use Rattle.command.specs.declared.status.Status.TheVariants as status
use Rattle.command.specs.declared.bounds.Form.{Form}
use Rattle.command.specs.declared.bounds.Form.TheVariants.{Certificate, Line}
use Rattle.command.specs.Ranges.{within}
use Rattle.command.specs.Runs.{EntryFunction, no_predicates}
use Rattle.command.specs.Said.{Said, answered}
use Rattle.command.specs.Stages.{OfEntry, Says}

-- an input that leaves has a word for each of these kinds
abbrev pub HasInputFor : List Kind → Suffice → Type 0
HasInputFor kinds (Yes formula derivation) = Unit {0}
HasInputFor kinds (Left input) = HasWords (length kinds) input
HasInputFor kinds (Open formula history) = Unit {0}

-- what is written where no input leaves the bounds: the line that they suffice, or the certificate of the formula and its derivation
abbrev pub sufficient_text : Form → Bounds → Formula → Derivation → List ℕ
sufficient_text Line bounds formula derivation = suffice_text bounds
sufficient_text Certificate bounds formula derivation = certificate_text formula derivation

module _ (form : Form) (graph : GraphParts) (entry : EntryFunction) (bounds : Bounds) where
  -- What is said of what is found: no input leaves the bounds; this input does; or it stays open, and the watch is shown, as
  -- number 0, the formula of the inputs that leave and the history of its search.
  abbrev pub said_of_bounds : Suffice → Said
  said_of_bounds (Yes formula derivation) = answered (sufficient_text form bounds formula derivation)
  said_of_bounds (Left input) = answered (left_text graph entry.number input)
  said_of_bounds (Open formula history) =
      record { status = Some status.DoneOpen; out = open_bounds_text; err = []; shown = (0, formula, history) ∷ [] }

  abbrev pub IsSaidOfBounds : Suffice → Said → Type 0
  IsSaidOfBounds suffice said = said ≡ said_of_bounds suffice

  -- It is found whether the bounds suffice (`IsSuffice` says what each answer means), open only where the budget falls short,
  -- and that is said; or codes 80 and 81 are those of the unwinding.
  abbrev pub IsAskedOfBounds : List Text → ℕ → Said → Type 0
  IsAskedOfBounds names budget said =
      Says names (λ (refusal : Refusal). IsUnwindFault graph no_predicates bounds entry.function (fault.Refused refusal)) said
      ⊎ (IsWithinLimits graph entry.function bounds
      × ((suffice : Suffice) × IsSuffice graph entry.function bounds budget suffice × IsOpenWhereShort graph entry.function bounds budget suffice
      × (said ≡ said_of_bounds suffice)))

-- what is due of `bounds`, which writes a line, and of `prove-bounds`, which writes a certificate, by the sources' automaton
abbrev pub IsDueOfBounds : Form → Sufficing → GraphParts → Said → Type 0
IsDueOfBounds form m graph said = OfEntry graph m.entry (λ entry. IsAskedOfBounds form graph entry (within m.bounds) m.sources m.budget) said
