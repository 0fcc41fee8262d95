-- What is due of proving that no input covers a goal, or of what stands in the place of a proof.
use Rattle.std.specs.Prelude.{◌≡◌, ◌⊎◌, ℕ, List, [], ◌∷◌, Some}
use Rattle.cfa.specs.declared.parts.GraphParts.{GraphParts}
use Rattle.cfa.specs.declared.state.Predicates.{Predicates}
use Rattle.c_meaning.specs.Runs.{Run}
use Rattle.c_meaning.specs.declared.ends.Ends.{Ends}
use Rattle.certificate.specs.Certificates.{certificate_text}
use Rattle.goals.specs.GoalForm.{GoalForm}
use Rattle.goals.specs.declared.plan.Plan.{Plan}
use Rattle.measurer_hits.specs.hits.Hits.{Hits}
use Rattle.path_runner.specs.Paths.{record_of}
use Rattle.unwinder_reach.specs.declared.reached.bounds.Bounds.{Bounds}
use Rattle.report.specs.Generated.{proved_text, undecided_text}
use Rattle.suite.specs.Made.{IsDecided, IsMade, IsOpenWhereShort}
use Rattle.suite.specs.declared.decided.Decided.{Decided}
use Rattle.suite.specs.declared.decided.Decided.TheVariants.{Covered, Refuted, Undecided}
use Rattle.command_words.specs.Reading.{Text}
use Rattle.command_words.specs.Request.{Proving}
use Rattle.command.specs.declared.status.Status.TheVariants as status
use Rattle.suite.specs.OneGoal.{IsGoalRefused, IsGoalWithin}
use Rattle.command.specs.Ranges.{within}
use Rattle.command.specs.Runs.{EntryFunction}
use Rattle.command.specs.Said.{Said, answered}
use Rattle.command.specs.Stages.{OfEntry, OfGoal, OfQuery, Says}

module _ (graph : GraphParts) (entry : EntryFunction) (p : Predicates) (plan : Plan) (bounds : Bounds) (ends : Ends) (number : ℕ) (goal : GoalForm) where
  -- What is said of what is found of a goal: its certificate; the input that covers it, with the answers that its run reads; or
  -- that it stays undecided, and the watch is shown its formula and the history of its search.
  abbrev pub IsSaidOf : Decided → Said → Type 0
  IsSaidOf (Covered input) said =
      (run : Run) × IsMade graph entry.function p bounds ends input run × Hits plan ends goal (record_of graph input p run)
      × (said ≡ answered (proved_text graph entry.number number input (record_of graph input p run).taken))
  IsSaidOf (Refuted formula derivation) said = said ≡ answered (certificate_text formula.formula derivation)
  IsSaidOf (Undecided formula history) said =
      said ≡ record { status = Some status.DoneOpen; out = undecided_text number; err = []; shown = (number, formula.formula, history) ∷ [] }

  -- The goal is decided (`IsDecided` says what each answer means), open only where the budget falls short, and that is said; or it
  -- has no formula.
  abbrev pub IsProved : List Text → ℕ → Said → Type 0
  IsProved names budget said =
      Says names (IsGoalRefused graph entry.function p plan bounds goal) said
      ⊎ (IsGoalWithin graph entry.function p plan bounds goal
      × ((decided : Decided) × IsDecided graph entry.function p plan bounds ends goal budget decided
      × IsOpenWhereShort graph entry.function p plan bounds goal budget decided × IsSaidOf decided said))

-- what is due of `prove`, by the sources' automaton
abbrev pub IsDueOfProve : Proving → GraphParts → Said → Type 0
IsDueOfProve m graph said =
    OfEntry graph m.entry (λ entry. OfQuery m.sources graph m.query (λ p plan. OfGoal plan m.goal (λ goal.
    IsProved graph entry p plan (within m.bounds) m.ends m.goal goal m.sources m.budget))) said
