-- What a log tells.
use Rattle.std.specs.Prelude.{ℕ, List, map}

-- the bytes of a log, which has one an entry
abbrev pub bytes_of : List (ℕ × Unit {0}) → List ℕ
bytes_of = map (λ (entry : ℕ × Unit {0}). entry.0)
