-- The stages of a command: what leads to what is due.
use Rattle.std.proofs.Common.{◌≡◌, ℕ, ◌-◌, ◌<◌, ◌≤◌, List, [], length, Some, None, slice_get, refl, sym, subst, inl, inr, arith}
use Rattle.std.proofs.lemmas.Option.{slice_get_cases, slice_get_past}
use Rattle.fq_core.specs.declared.refusal.Place.TheVariants as place
use Rattle.fq_core.specs.declared.refusal.Refusal.{Refusal}
use Rattle.cfa.specs.declared.parts.GraphParts.{GraphParts}
use Rattle.goals.specs.GoalForm.{GoalForm}
use Rattle.goals.specs.declared.plan.Plan.{Plan}
use Rattle.command_words.specs.Reading.{Text}
use Rattle.command.specs.Refusal.{said_by}
use Rattle.command.specs.Runs.{EntryFunction, entry_of}
use Rattle.command.specs.Said.{Said}
use Rattle.command.specs.Stages.{OfEntry, OfGoal, no_such_entry, no_such_goal}

module _ (graph : GraphParts) (name : Text) (Then : EntryFunction → Said → Type 0) where
  pub entry_none : entry_of graph name ≡ None → OfEntry graph name Then no_such_entry
  entry_none none = rw none refl

  pub entry_some : (entry : EntryFunction) → entry_of graph name ≡ Some entry → (said : Said) → Then entry said → OfEntry graph name Then said
  entry_some entry some said due = rw some due

pub said_line : (names : List Text) (line : ℕ) → said_by names (record { code = 92; place = place.Line line }) ≡ said_by [] (record { code = 92; place = place.Line line })
unfolding said_by
said_line names line = refl

said_no_goal : (names : List Text) → said_by names (record { code = 74; place = place.QueryWhole }) ≡ no_such_goal
unfolding said_by
said_no_goal names = refl

-- the refusal of a goal's number is due, whatever the names of the sources
pub due_no_goal : (names : List Text) (x : Refusal) (P : Said → Type 0) → x ≡ record { code = 74; place = place.QueryWhole } → P no_such_goal → P (said_by names x)
due_no_goal names x P is due = subst (λ (y : Refusal). P (said_by names y)) (sym is) (subst P (sym (said_no_goal names)) due)

module _ (plan : Plan) (number : ℕ) (Then : GoalForm → Said → Type 0) where
  pub goal_none : length plan.goals < number → OfGoal plan number Then no_such_goal
  goal_none past = rw (slice_get_past plan.goals (number - 1) (omega (arith, past))) refl

  pub goal_some : (goal : GoalForm) → slice_get plan.goals (number - 1) ≡ Some goal → (said : Said) → Then goal said → OfGoal plan number Then said
  goal_some goal some said due = rw some due

  module _ (some : 1 ≤ number) (there : number ≤ length plan.goals) where
    abbrev Found : Type 0
    Found = (goal : GoalForm) × (slice_get plan.goals (number - 1) ≡ Some goal)

    -- the goal of a number that isn't above theirs
    pub goal_found : Found
    goal_found = elim (slice_get_cases plan.goals (number - 1)).1 as (λ _. Found) [
      | inl found ↦ (found.0, found.2)
      | inr past ↦ absurd (omega (arith, past.0, some, there))
    ]
