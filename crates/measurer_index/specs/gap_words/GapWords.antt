-- What contracts see of a gap word.
use Rattle.std.specs.Prelude.{ℕ, List}
use Rattle.patterns.specs.Match.{Form}
use Rattle.patterns.specs.declared.letter.Letter.{Letter}
use Rattle.measurer_index.specs.gap_words.Walks.{IsWordOf}
use Rattle.measurer_index.specs.declared.gap_words.gap_word.GapWord.{GapWord}

-- it goes along a path where the pattern matches, where these are the sets of its gaps
abbrev pub IsGapWordOf : List (List ℕ) → Form Letter → GapWord → Type 0
IsGapWordOf sets pattern word = IsWordOf sets pattern word.pieces.items
