-- One step of a chain.
use Rattle.std.proofs.Common.{◌≡◌, ℕ, suc, ◌<◌, Bool, List, ◌∷◌, length, None, get_or, drop, drop-cons}
use Rattle.std.specs.Prelude.{ℤ, pos}
use Rattle.cnf.specs.Checks.{resolved}

-- a step that can't be taken ends the chain
pub step_refused : (earlier : List (List ℤ)) (set : ℤ → Bool) (steps : List (ℕ × ℤ)) (i : ℕ) → i < length steps
    → ((rest : List (ℕ × ℤ)) → resolved earlier set (((get_or steps i (0, pos 0)).0, (get_or steps i (0, pos 0)).1) ∷ rest) ≡ None) → resolved earlier set (drop i steps) ≡ None
step_refused earlier set steps i h refused = rw (drop-cons steps i (0, pos 0) h) (refused (drop (suc i) steps))
