-- What the printed lines of `bounds`, `prove-bounds` and `check-bounds` say: from the bytes back to their meaning.
use Rattle.std.specs.Prelude.{◌≡◌, ◌⊎◌, List, length, Ok, Some, codes}
use Rattle.std.specs.List.{flat_map}
use Rattle.bounds_check.specs.Leaving.{NoneLeaves}
use Rattle.bounds_check.specs.Sufficing.{IsLeft}
use Rattle.c_meaning.specs.declared.input.Input.{Input}
use Rattle.input_text.specs.Lines.{input_of, line_input, texts_in, words_in}
use Rattle.unwinder_reach.specs.declared.reached.bounds.Bounds.{Bounds}
use Rattle.report.specs.Ends.{spaced_value}
use Rattle.report.specs.Made.{arguments_text, parameter_kinds}
use Rattle.report.specs.Suffice.{left_text, long, suffice_text}
use Rattle.command_words.specs.Reading.{Text}
use Rattle.command_words.specs.Request as asks
use Rattle.command_words.specs.Request.{CheckingBounds, Sufficing}
use Rattle.command.specs.Due.{IsDueOf}
use Rattle.command.specs.Ranges.{within}
use Rattle.command.specs.Reads.{Reads}
use Rattle.command.specs.Said.{Said, answered}
use Rattle.command_laws.specs.printed_laws.Named.{Begins, NamedEntry}

-- The line that these bounds suffice is said, with status 0, and no input at all has a run from the entry that leaves them.
pub record SaysSuffice (r : Reads) (sources : List Text) (name : Text) (bounds : Bounds) (said : Said) : Type 0 where
  pub of : NamedEntry r sources name
  pub printed : said ≡ answered (suffice_text bounds)
  pub none : NoneLeaves of.graph of.entry.function bounds

-- The line of an input is said, with status 0. Its arguments and its answers, read as those of a line of inputs are, are the input's
-- own, and the input leaves these bounds.
pub record SaysLeft (r : Reads) (sources : List Text) (name : Text) (bounds : Bounds) (said : Said) : Type 0 where
  pub of : NamedEntry r sources name
  pub input : Input
  pub printed : said ≡ answered (left_text of.graph of.entry.number input)
  pub arguments_read : line_input (length of.entry.function.parameters) (texts_in (arguments_text input.words (parameter_kinds of.graph of.entry.number))) ≡ Ok (input_of input.words)
  pub answers_read : words_in (texts_in (flat_map (spaced_value long) input.answers)) ≡ Some input.answers
  pub left : IsLeft of.graph of.entry.function bounds input

-- What is due of `bounds`, or of `check-bounds`, and begins with `bounds suffice` says that no input leaves the bounds that were asked
-- for. What is due of `bounds` or `prove-bounds` and begins with `bounds left` says of an input that it does.
pub record BoundsLinesAreTrue : Type 0 where
  pub suffice : (r : Reads) (m : Sufficing) (said : Said) → IsDueOf r (asks.suffice m) said → Begins said (codes "bounds suffice") → SaysSuffice r m.sources m.entry (within m.bounds) said
  pub checked : (r : Reads) (m : CheckingBounds) (said : Said) → IsDueOf r (asks.check_bounds m) said → Begins said (codes "bounds suffice") → SaysSuffice r m.sources m.entry (within m.bounds) said
  pub left : (r : Reads) (m : Sufficing) (said : Said) → IsDueOf r (asks.suffice m) said ⊎ IsDueOf r (asks.prove_bounds m) said → Begins said (codes "bounds left")
      → SaysLeft r m.sources m.entry (within m.bounds) said
