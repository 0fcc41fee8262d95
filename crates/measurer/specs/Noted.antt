-- The first run that hits a goal, after one more run.
use Rattle.std.specs.Prelude.{ℕ, Bool, true, false, Option, Some, None}

-- an earlier one stays, and else it is the new one, if that hits the goal
abbrev pub noted : Bool → ℕ → Option ℕ → Option ℕ
noted hit number (Some n) = Some n
noted true number None = Some number
noted false number None = None
