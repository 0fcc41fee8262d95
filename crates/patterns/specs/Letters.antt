-- A pattern as plain data, and how many letters it has.
use Rattle.std.specs.Prelude.{ℕ, ◌+◌, ◌*◌, Option, Some, None}
use Rattle.patterns.specs.Match.{Form, nothing, letter, dot, either, repeat}
use Rattle.patterns.specs.declared.pattern.Pattern.{Pattern, fold-Pattern}
use Rattle.patterns.specs.declared.pattern.Pattern.TheOpen.{Pattern-F}

-- how often the letters of what is repeated are counted
abbrev pub times : ℕ → Option ℕ → ℕ
times least None = least + 1
times least (Some most) = most

-- how many letters a pattern has, repetitions unrolled
abbrev pub letter_count : {L : Type 0} → Form L → ℕ
letter_count nothing = 0
letter_count (letter l) = 1
letter_count (dot a b) = letter_count a + letter_count b
letter_count (either a b) = letter_count a + letter_count b
letter_count (repeat a least most) = letter_count a * times least most

abbrev pub form_step : {L : Type 0} → Pattern-F L (Form L) → Form L
form_step Pattern-F.Nothing = nothing
form_step (Pattern-F.Letter a) = letter a
form_step (Pattern-F.Dot a b) = dot a b
form_step (Pattern-F.Either a b) = either a b
form_step (Pattern-F.Repeat body least most) = repeat body least most

-- the pattern as plain data
unfoldable pub form : {L : Type 0} → Pattern L → Form L
form {L} = fold-Pattern L (Form L) form_step
