-- How often a file may be handed over.
use Rattle.std.specs.Prelude.{ℕ, ◌+◌, ◌-◌, ◌^◌, Option, None, Some, min, nat_eq, if◌then◌else◌}
use Rattle.fq_io_recorded.specs.declared.handed.Handed.{Handed}

-- once more, unless its bytes went already; a number stays at its greatest value
abbrev pub more_times : ℕ → ℕ
more_times times = if nat_eq times 0 then 0 else min (times + 1) (2 ^ 64 - 1)

-- where it is wanted once more: once, where it wasn't there before
abbrev pub times_with_one : Option Handed → ℕ
times_with_one None = 1
times_with_one (Some file) = more_times file.times
