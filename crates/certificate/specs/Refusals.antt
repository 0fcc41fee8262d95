-- The refusal of bytes that are no certificate.
use Rattle.std.specs.Prelude.{◌≡◌, ℕ, ◌+◌, ◌<◌, ◌^◌, List}
use Rattle.fq_core.specs.declared.refusal.Fault.{Fault}
use Rattle.fq_core.specs.declared.refusal.Fault.TheVariants as fault
use Rattle.fq_core.specs.declared.refusal.Place.TheVariants as place
use Rattle.fq_core.specs.declared.refusal.Refusal.{Refusal}
use Rattle.certificate.specs.declared.stop.Stop.{Stop}
use Rattle.certificate.specs.declared.stop.Stop.TheVariants as stop
use Rattle.certificate.specs.Certificates.{IsFirstBadLine}

-- code 90 at a line
abbrev pub bad_line : ℕ → Fault
bad_line line = fault.Refused (record { code = 90; place = place.Line line })

-- a refusal with code 90 at the first line that isn't allowed
pub record IsRefusedAtLine (bytes : List ℕ) (refusal : Refusal) : Type 0 where
  pub line : ℕ
  pub is : fault.Refused refusal ≡ bad_line line
  pub first : IsFirstBadLine bytes line

-- that, or want of memory
abbrev pub IsRefusal : List ℕ → Fault → Type 0
IsRefusal bytes (fault.Refused refusal) = IsRefusedAtLine bytes refusal
IsRefusal bytes fault.Memory = Unit {0}

-- the refusal where the reading stopped in a part that begins at a line
abbrev pub fault_of_stop : ℕ → Stop → Fault
fault_of_stop line (stop.BadLine at) = bad_line (at + line)
fault_of_stop line stop.Memory = fault.Memory

-- its number is one of 32 bits
abbrev pub IsStopBelow : ℕ → Stop → Type 0
IsStopBelow line (stop.BadLine at) = at + line < 2 ^ 32
IsStopBelow line stop.Memory = Unit {0}
