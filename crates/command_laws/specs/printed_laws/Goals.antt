-- What the printed lines of `least`, `prove` and `check` say of a goal: from the bytes back to their meaning.
use Rattle.std.specs.Prelude.{◌≡◌, ℕ, List, length, Ok, Some, codes}
use Rattle.std.specs.List.{flat_map}
use Rattle.c_meaning.specs.Runs.{Run}
use Rattle.c_meaning.specs.declared.ends.Ends.{Ends}
use Rattle.c_meaning.specs.declared.input.Input.{Input}
use Rattle.c_values.specs.declared.kinds.Kind.{Kind}
use Rattle.measurer_hits.specs.hits.Hits.{Hits}
use Rattle.input_text.specs.Lines.{input_of, line_input, texts_in, words_in}
use Rattle.least_input.specs.Least.{IsLeast}
use Rattle.path_runner.specs.Paths.{record_of}
use Rattle.unwinder_reach.specs.declared.reached.bounds.Bounds.{Bounds}
use Rattle.report.specs.Ends.{spaced_value}
use Rattle.report.specs.Generated.{proved_text, refuted_text}
use Rattle.report.specs.Least.{least_text, numbers_text, without_last_zeros}
use Rattle.report.specs.Made.{arguments_text, parameter_kinds}
use Rattle.suite.specs.Made.{IsMade, NoneHits}
use Rattle.command_words.specs.Reading.{Text}
use Rattle.command_words.specs.Request as asks
use Rattle.command_words.specs.Request.{Checking, Proving}
use Rattle.command.specs.Due.{IsDueOf}
use Rattle.command.specs.Ranges.{within}
use Rattle.command.specs.Reads.{Reads}
use Rattle.command.specs.Said.{Said, answered}
use Rattle.command_laws.specs.printed_laws.Named.{BeginsOfGoal, NamedGoal}

-- The line of an input is said, with status 0. Its words and its answers, but for zeros at the end of these, read as those of a line of
-- inputs are, are the input's own. It is the least input that has a run within the bounds which hits the goal, and it has as many
-- answers as the bounds allow.
pub record SaysLeast (r : Reads) (m : Proving) (said : Said) : Type 0 where
  pub of : NamedGoal r m.sources m.entry m.query m.goal
  pub input : Input
  pub printed : said ≡ answered (least_text m.goal input)
  pub arguments_read : line_input (length of.entry.function.parameters) (texts_in (numbers_text input.words)) ≡ Ok (input_of input.words)
  pub answers_read : words_in (texts_in (numbers_text (without_last_zeros input.answers))) ≡ Some (without_last_zeros input.answers)
  pub answers_count : length input.answers ≡ (within m.bounds).answers
  pub least : IsLeast of.graph of.entry.function of.predicates of.plan (within m.bounds) m.ends of.goal input

-- The line of an input is said, with status 0. Its arguments and answers, read as those of a line of inputs are, are the input's own. Its
-- run is within the bounds and hits the goal, and takes exactly these answers.
pub record SaysCovered (r : Reads) (m : Proving) (said : Said) : Type 0 where
  pub of : NamedGoal r m.sources m.entry m.query m.goal
  pub input : Input
  pub run : Run
  pub made : IsMade of.graph of.entry.function of.predicates (within m.bounds) m.ends input run
  pub hits : Hits of.plan m.ends of.goal (record_of of.graph input of.predicates run)
  pub printed : said ≡ answered (proved_text of.graph of.entry.number m.goal input (record_of of.graph input of.predicates run).taken)
  pub arguments_read : line_input (length of.entry.function.parameters) (texts_in (arguments_text input.words (parameter_kinds of.graph of.entry.number))) ≡ Ok (input_of input.words)
  pub answers_read : words_in (texts_in (flat_map (λ (answer : Kind × ℕ). spaced_value answer.0 answer.1) (record_of of.graph input of.predicates run).taken)) ≡ Some input.answers

-- The line that the goal is refuted is said, with status 0, and no input at all has a run within these bounds that hits it.
pub record SaysRefuted (r : Reads) (sources : List Text) (name query : Text) (number : ℕ) (bounds : Bounds) (ends : Ends) (said : Said) : Type 0 where
  pub of : NamedGoal r sources name query number
  pub printed : said ≡ answered (refuted_text number bounds ends)
  pub none : NoneHits of.graph of.entry.function of.predicates of.plan bounds ends of.goal

-- What is due of `least` and says `least` of the goal says its least input, what is due of `prove` and says `covered` an input that covers
-- it, and what is due of `least` or `check` and says `refuted` that no input does.
pub record GoalLinesAreTrue : Type 0 where
  pub least : (r : Reads) (m : Proving) (said : Said) → IsDueOf r (asks.least m) said → BeginsOfGoal said m.goal (codes " least") → SaysLeast r m said
  pub covered : (r : Reads) (m : Proving) (said : Said) → IsDueOf r (asks.prove m) said → BeginsOfGoal said m.goal (codes " covered") → SaysCovered r m said
  pub refuted : (r : Reads) (m : Proving) (said : Said) → IsDueOf r (asks.least m) said → BeginsOfGoal said m.goal (codes " refuted")
      → SaysRefuted r m.sources m.entry m.query m.goal (within m.bounds) m.ends said
  pub checked : (r : Reads) (m : Checking) (said : Said) → IsDueOf r (asks.check m) said → BeginsOfGoal said m.goal (codes " refuted")
      → SaysRefuted r m.sources m.entry m.query m.goal (within m.bounds) m.ends said
