-- What is due of checking a certificate of a goal.
use Rattle.std.specs.Prelude.{◌⊎◌, ℕ, List}
use Rattle.cfa.specs.declared.parts.GraphParts.{GraphParts}
use Rattle.cfa.specs.declared.state.Predicates.{Predicates}
use Rattle.cnf.specs.declared.derivation.Derivation.{Derivation}
use Rattle.cnf.specs.declared.formula.Formula.{Formula}
use Rattle.goal_formula.specs.Exact.{IsExact}
use Rattle.goal_formula.specs.declared.goal.GoalFormula.{GoalFormula}
use Rattle.goals.specs.GoalForm.{GoalForm}
use Rattle.goals.specs.declared.plan.Plan.{Plan}
use Rattle.c_meaning.specs.declared.ends.Ends.{Ends}
use Rattle.unwinder_reach.specs.declared.reached.bounds.Bounds.{Bounds}
use Rattle.report.specs.Generated.{refuted_text}
use Rattle.command_words.specs.Reading.{Text}
use Rattle.command_words.specs.Request.{Checking}
use Rattle.command.specs.Comparison.{IsCompared}
use Rattle.suite.specs.OneGoal.{IsGoalRefused, IsGoalWithin}
use Rattle.command.specs.Ranges.{within}
use Rattle.command.specs.Reads.{Reads}
use Rattle.command.specs.Runs.{EntryFunction}
use Rattle.command.specs.Said.{Said}
use Rattle.command.specs.Stages.{OfCertificate, OfEntry, OfGoal, OfQuery, Says}

-- the line of a goal that the certificate refutes
abbrev pub accepted_text : Checking → List ℕ
accepted_text m = refuted_text m.goal (within m.bounds) m.ends

-- The certificate is compared with the formula that is made anew, which is exact for the goal; or the goal has none.
module _ (names : List Text) (graph : GraphParts) (entry : EntryFunction) (p : Predicates) (plan : Plan) (bounds : Bounds) (ends : Ends) (number : ℕ) (goal : GoalForm) where
  abbrev pub IsCheckedAt : Formula → Derivation → Said → Type 0
  IsCheckedAt theirs derivation said =
      Says names (IsGoalRefused graph entry.function p plan bounds goal) said
      ⊎ (IsGoalWithin graph entry.function p plan bounds goal
      × ((ours : GoalFormula) × IsExact graph p entry.function bounds ends plan goal ours
      × IsCompared (refuted_text number bounds ends) theirs ours.formula derivation said))

-- the same within the bounds of the words
abbrev pub IsChecked : Checking → GraphParts → EntryFunction → Predicates → Plan → GoalForm → Formula → Derivation → Said → Type 0
IsChecked m graph entry p plan goal theirs derivation said =
    IsCheckedAt m.sources graph entry p plan (within m.bounds) m.ends m.goal goal theirs derivation said

-- what is due of `check`, by the sources' automaton
abbrev pub IsDueOfCheck : Reads → Checking → GraphParts → Said → Type 0
IsDueOfCheck r m graph said =
    OfEntry graph m.entry (λ entry. OfQuery m.sources graph m.query (λ p plan. OfGoal plan m.goal (λ goal.
    OfCertificate r m.sources m.certificate (IsChecked m graph entry p plan goal)))) said
