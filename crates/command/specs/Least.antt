-- What is due of finding the least input of a goal.
use Rattle.std.specs.Prelude.{◌≡◌, ◌⊎◌, ℕ, List, [], ◌∷◌, Some}
use Rattle.cfa.specs.declared.parts.GraphParts.{GraphParts}
use Rattle.cfa.specs.declared.state.Predicates.{Predicates}
use Rattle.c_meaning.specs.declared.ends.Ends.{Ends}
use Rattle.goals.specs.GoalForm.{GoalForm}
use Rattle.goals.specs.declared.plan.Plan.{Plan}
use Rattle.least_input.specs.Answers.{IsAnswered, IsOpenWhereShort}
use Rattle.least_input.specs.declared.least.Least.{Least}
use Rattle.least_input.specs.declared.least.Least.TheVariants.{Found, Refuted, Open}
use Rattle.unwinder_reach.specs.declared.reached.bounds.Bounds.{Bounds}
use Rattle.report.specs.Generated.{refuted_text}
use Rattle.report.specs.Least.{least_text, open_text}
use Rattle.command_words.specs.Reading.{Text}
use Rattle.command_words.specs.Request.{Proving}
use Rattle.command.specs.declared.status.Status.TheVariants as status
use Rattle.suite.specs.OneGoal.{IsGoalRefused, IsGoalWithin}
use Rattle.command.specs.Ranges.{within}
use Rattle.command.specs.Runs.{EntryFunction}
use Rattle.command.specs.Said.{Said, answered}
use Rattle.command.specs.Stages.{OfEntry, OfGoal, OfQuery, Says}

-- What is said of what is found of a goal of this number: its least input; that it is refuted; or that it stays open, and the
-- watch is shown the formula, with unit clauses on input bits, and the history of its search.
abbrev pub said_of_least : ℕ → Bounds → Ends → Least → Said
said_of_least number bounds ends (Found input formula fixed) = answered (least_text number input)
said_of_least number bounds ends (Refuted formula derivation) = answered (refuted_text number bounds ends)
said_of_least number bounds ends (Open formula history) =
    record { status = Some status.DoneOpen; out = open_text number; err = []; shown = (number, formula, history) ∷ [] }

abbrev pub IsSaidOfLeast : ℕ → Bounds → Ends → Least → Said → Type 0
IsSaidOfLeast number bounds ends least said = said ≡ said_of_least number bounds ends least

module _ (graph : GraphParts) (entry : EntryFunction) (p : Predicates) (plan : Plan) (bounds : Bounds) (ends : Ends) (number : ℕ) (goal : GoalForm) where
  -- The least input of the goal is found (`IsAnswered` says what each answer means), open only where the budget falls short,
  -- and that is said; or the goal has no formula.
  abbrev pub IsLowered : List Text → ℕ → Said → Type 0
  IsLowered names budget said =
      Says names (IsGoalRefused graph entry.function p plan bounds goal) said
      ⊎ (IsGoalWithin graph entry.function p plan bounds goal
      × ((least : Least) × IsAnswered graph entry.function p plan bounds ends goal budget least × IsOpenWhereShort graph entry.function p plan bounds goal budget least
      × (said ≡ said_of_least number bounds ends least)))

-- what is due of `least`, by the sources' automaton
abbrev pub IsDueOfLeast : Proving → GraphParts → Said → Type 0
IsDueOfLeast m graph said =
    OfEntry graph m.entry (λ entry. OfQuery m.sources graph m.query (λ p plan. OfGoal plan m.goal (λ goal.
    IsLowered graph entry p plan (within m.bounds) m.ends m.goal goal m.sources m.budget))) said
