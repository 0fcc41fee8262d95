-- What follows from the definitions, for those who rest on it.
-- Public contracts rest on this.
use Rattle.std.specs.Prelude.{◌≡◌, ◌⊎◌, ℕ}
use Rattle.fq_core.specs.declared.refusal.Place.{Place}

-- there is an answer or a refusal with a code and a place, and only one of all these
pub record HasOneOutcome {X : Type 0} (Is : X → Type 0) (IsRefused : ℕ → Place → Type 0) : Type 0 where
  pub some : ((x : X) × Is x) ⊎ ((code : ℕ) × ((p : Place) × IsRefused code p))
  pub one_answer : (x y : X) → Is x → Is y → x ≡ y
  pub one_refusal : (code other : ℕ) (p q : Place) → IsRefused code p → IsRefused other q → (code ≡ other) × (p ≡ q)
  pub not_both : (x : X) (code : ℕ) (p : Place) → Is x → IsRefused code p → ⊥
