-- What a read of a file gives that was read before.
use Rattle.std.specs.Prelude.{◌≡◌, ℕ, List, Option, Some, None, Ok, Err, Result, Vec, length, nat_eq, nat_le, if◌then◌else◌, ⊤}
use Rattle.std.specs.declared.alloc.Global.{Global}
use Rattle.fq_io.specs.declared.files.FileFault.{FileFault}
use Rattle.fq_io.specs.declared.files.FileFault.TheVariants as fault
use Rattle.fq_io_recorded.specs.declared.handed.Handed.{Handed}
use Rattle.fq_io_recorded.specs.declared.handed.Text.{Text}
use Rattle.fq_io_recorded.specs.declared.handed.Text.TheVariants.{Longer, Whole}

pub data Answer : Type 0 where
  gives : List ℕ → Answer
  is_too_long : Answer
  fails : Answer

-- of what was read, up to a limit
abbrev pub answer_within : ℕ → Text → Answer
answer_within limit (Whole bytes) = if nat_le (length bytes.items) limit then gives bytes.items else is_too_long
answer_within limit (Longer most) = if nat_le limit most then is_too_long else fails

-- of the file that is found, if one is
abbrev pub answer_of : ℕ → Option Handed → Answer
answer_of limit None = fails
answer_of limit (Some file) = if nat_eq file.times 0 then fails else answer_within limit file.text

-- the result is this answer, or want of memory
abbrev pub IsAnswer : Result (Vec ℕ Global) FileFault → Answer → Type 0
IsAnswer (Err fault.Memory) answer = ⊤
IsAnswer (Ok given) (gives bytes) = given.items ≡ bytes
IsAnswer (Err fault.TooLong) is_too_long = ⊤
IsAnswer (Err fault.Failed) fails = ⊤
IsAnswer _ _ = ⊥
