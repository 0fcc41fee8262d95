-- How many wires a step uses.
use Rattle.std.specs.Prelude.{ℕ, ◌+◌, ◌*◌}

-- the most wires that a step uses where what leaves the state weighs so much
abbrev pub most_step_wires : ℕ → ℕ
most_step_wires weight = 32 * weight + 68
