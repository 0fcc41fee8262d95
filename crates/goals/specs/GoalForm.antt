-- Goals as plain data.
use Rattle.std.specs.Prelude.{◌≡◌, List}
use Rattle.goals.specs.Words.{Word}
use Rattle.goals.specs.Forms.{Pattern, word_pattern}

-- a word, and its pattern
pub record GoalForm : Type 0 where
  pub word : Word
  pub pattern : Pattern

-- its pattern is that of its word, where the quoted letters have some patterns
abbrev pub HasItsPattern : GoalForm → Type 0
HasItsPattern goal = (quotes : List Pattern) × (goal.pattern ≡ word_pattern quotes goal.word)
