-- A goal that no run hits.
use Rattle.std.specs.Prelude.{ℕ, List}
use Rattle.c_meaning.specs.declared.ends.Ends.{Ends}
use Rattle.c_meaning.specs.declared.input.Input.{Input}
use Rattle.measurer_hits.specs.hits.Inputs.{InputHits}
use Rattle.unwinder.specs.Lists.{IsInputFor}
use Rattle.command_words.specs.Reading.{Text}
use Rattle.command.specs.Reads.{Reads}
use Rattle.command_laws.specs.printed_laws.Named.{NamedGoal}

-- The sources have an automaton, and the query this goal over it, and no input at all has a run from the entry, of whatever length, that
-- hits the goal.
pub record IsUnreachable (r : Reads) (sources : List Text) (name query : Text) (number : ℕ) (ends : Ends) : Type 0 where
  pub of : NamedGoal r sources name query number
  pub none : (input : Input) → IsInputFor of.entry.function input → ¬ InputHits of.graph of.entry.function of.predicates of.plan ends of.goal input
