-- What makes a kind's numbers natural, so that they are compared bit by bit.
use Rattle.std.specs.Prelude.{ℕ, ◌-◌, ◌^◌, if◌then◌else◌}
use Rattle.c_values.specs.declared.kinds.Kind.{Kind}

-- a number with a sign and this bias is at least 0, and its bits are those of its pattern but for the highest
abbrev pub bias_of : Kind → ℕ
bias_of kind = if kind.signed then 2 ^ (kind.width - 1) else 0
