-- Numbers as they are counted: all above the limit of the size sum are one.
use Rattle.std.specs.Prelude.{ℕ, min}

-- a number, or 1 above the limit of the size sum where it passes that
unfoldable pub capped : ℕ → ℕ
capped n = min n 4194305
