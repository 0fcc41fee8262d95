-- The limits, counted from token to token.
-- Only proofs rest on this: no public contract speaks of it.
use Rattle.std.specs.Prelude.{ℕ, List, [], ◌∷◌, Option, Some, None}
use Rattle.c_parse.specs.declared.sign.Terminal.{Terminal}
use Rattle.c_parse.specs.Limits.{with_bracket, in_row, passed_by}

abbrev pub or_scan : Option ℕ → Option ℕ → Option ℕ
or_scan None rest = rest
or_scan (Some n) rest = Some n

abbrev pub scan : (brackets row : ℕ) → List Terminal → Option ℕ
scan b r [] = None
scan b r (t ∷ ts) = or_scan (passed_by (with_bracket b t) (in_row r t)) (scan (with_bracket b t) (in_row r t) ts)
