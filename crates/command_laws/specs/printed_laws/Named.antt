-- What a printed line speaks of: an entry of the sources, or a goal of the query over their automaton.
use Rattle.std.specs.Prelude.{◌≡◌, ◌-◌, ℕ, List, ◌++◌, Some, codes, slice_get}
use Rattle.std.specs.Fmt.{decimal}
use Rattle.cfa.specs.declared.parts.GraphParts.{GraphParts}
use Rattle.cfa.specs.declared.state.Predicates.{Predicates}
use Rattle.goals.specs.GoalForm.{GoalForm}
use Rattle.goals.specs.declared.plan.Plan.{Plan}
use Rattle.command_words.specs.Reading.{Text}
use Rattle.command.specs.Queries.{IsPlanned}
use Rattle.command.specs.Reads.{Reads}
use Rattle.command.specs.Runs.{EntryFunction, entry_of}
use Rattle.command.specs.Said.{Said}
use Rattle.command.specs.Sources.{HaveAutomaton}

-- what is written begins with these bytes
pub record Begins (said : Said) (start : List ℕ) : Type 0 where
  pub rest : List ℕ
  pub is : said.out ≡ start ++ rest

-- what is written begins with `goal`, the goal's number and these bytes
pub record BeginsOfGoal (said : Said) (number : ℕ) (start : List ℕ) : Type 0 where
  pub rest : List ℕ
  pub is : said.out ≡ codes "goal " ++ decimal number ++ (start ++ rest)

-- the sources have an automaton, in which the entry of this name is a function at which a run can begin
pub record NamedEntry (r : Reads) (sources : List Text) (name : Text) : Type 0 where
  pub graph : GraphParts
  pub automaton : HaveAutomaton r.holds sources graph
  pub entry : EntryFunction
  pub entry_is : entry_of graph name ≡ Some entry

-- the same, and the query has a goal of this number, from 1, over the automaton
pub record NamedGoal (r : Reads) (sources : List Text) (name query : Text) (number : ℕ) : Type 0 where
  pub graph : GraphParts
  pub automaton : HaveAutomaton r.holds sources graph
  pub entry : EntryFunction
  pub entry_is : entry_of graph name ≡ Some entry
  pub predicates : Predicates
  pub plan : Plan
  pub planned : IsPlanned graph query predicates plan
  pub goal : GoalForm
  pub goal_is : slice_get plan.goals (number - 1) ≡ Some goal
