-- How often a file may be handed over.
use Rattle.std.proofs.Common.{◌≡◌, ℕ, ◌<◌, ◌+◌, ◌-◌, ◌^◌, Bool, true, false, refl, arith}
use Rattle.std.specs.Prelude.{min, nat_eq, if◌then◌else◌}
use Rattle.std.proofs.lemmas.Bool.{eqb-false}
use Rattle.fq_io_recorded.specs.Times.{more_times}

-- what may be handed over once more might be handed over before
pub once_more : (n : ℕ) → 0 < more_times n → 0 < n
once_more n some = by _ refl some
  where
    by : (b : Bool) → nat_eq n 0 ≡ b → 0 < (if b then 0 else min (n + 1) (2 ^ 64 - 1)) → 0 < n
    by true is h = omega arith
    by false is h = let apart = eqb-false n 0 is in omega (arith, apart)
