-- Answers that are refusals, and answers but for want of memory.
use Rattle.std.specs.Prelude.{◌≡◌, ℕ, ⊤, Result, Ok, Err}
use Rattle.fq_core.specs.declared.refusal.Place.{Place}
use Rattle.fq_core.specs.declared.refusal.Refusal.{Refusal}
use Rattle.fq_core.specs.declared.refusal.Fault.{Fault}
use Rattle.fq_core.specs.declared.refusal.Fault.TheVariants as fault

-- the refusal of a code and a place
abbrev pub refusal : ℕ → Place → Fault
refusal code p = fault.Refused (record { code = code; place = p })

-- the call answers this, unless memory ran out
abbrev pub IsUnlessMemory : {X : Type 0} → Result X Fault → Result X Fault → Type 0
IsUnlessMemory (Ok x) answer = answer ≡ Ok x
IsUnlessMemory (Err fault.Memory) answer = Unit {0}
IsUnlessMemory (Err (fault.Refused r)) answer = answer ≡ Err (fault.Refused r)

-- a fact about the refusal, where a call answers one
abbrev pub IfRefused : Fault → (Refusal → Type 0) → Type 0
IfRefused (fault.Refused r) P = P r
IfRefused fault.Memory P = ⊤
