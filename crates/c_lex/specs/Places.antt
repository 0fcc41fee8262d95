-- Positions in a text: lines and columns from 1, bytes from 0. Only a line feed ends a line. What `tokens` promises
-- rests on this module.
use Rattle.std.specs.Prelude.{ℕ, ◌+◌, ◌==◌, if◌then◌else◌, List, take, fold}
use Rattle.fq_core.specs.declared.span.Span.{Span}
use Rattle.c_lex.specs.declared.position.Position.{Position}

abbrev pub first_position : Position
first_position = record { line = 1; column = 1 }

-- the position after a byte
abbrev pub after_byte : Position → ℕ → Position
after_byte p b = if b == 10 then record { line = p.line + 1; column = 1 } else record { line = p.line; column = p.column + 1 }

abbrev pub after_bytes : Position → List ℕ → Position
after_bytes p bytes = fold after_byte p bytes

-- the position of a byte of a text
unfoldable pub position_at : List ℕ → ℕ → Position
position_at text at = after_bytes first_position (take at text)

-- the span of n bytes of a text from a byte on
unfoldable pub span_of : (file : ℕ) → List ℕ → ℕ → ℕ → Span
span_of file text at n =
    record { file = file; line = (position_at text at).line; column = (position_at text at).column; start = at; end = at + n }
