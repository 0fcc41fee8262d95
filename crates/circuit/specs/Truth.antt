-- Worlds, and what a change of a truth leaves as it was.
use Rattle.std.specs.Prelude.{◌≡◌, ℕ, ◌<◌, ◌≤◌, ◌^◌, Bool, true, false, List}
use Rattle.std.proofs.Common.{◌∙◌, refl, arith}

-- a list of truth values
abbrev pub World : Type 0
World = List Bool

-- each bit of the old truth is one of the new truth, and holds in the same worlds
pub record Extends {T B : Type 0} (is_bit : T → B → Type 0) (holds : T → B → World → Bool) (old new : T) : Type 0 where
  pub bit : (b : B) → is_bit old b → is_bit new b
  pub same : (b : B) → is_bit old b → (w : World) → holds new b w ≡ holds old b w

-- a gate may be made: wires aren't counted, or fewer than 2^30 are used
abbrev pub HasRoom : Bool → ℕ → Type 0
HasRoom false used = Unit {0}
HasRoom true used = used < 2 ^ 30

pub room_less : (counts : Bool) (m n : ℕ) → HasRoom counts n → m ≤ n → HasRoom counts m
room_less false m n h le = tt
room_less true m n h le = omega arith

module _ {T B : Type 0} {is_bit : T → B → Type 0} {holds : T → B → World → Bool} where
  pub extends_self : (t : T) → Extends is_bit holds t t
  extends_self t = record { bit = λ b h. h; same = λ b h w. refl }

  pub extends_again : {a b c : T} → Extends is_bit holds a b → Extends is_bit holds b c → Extends is_bit holds a c
  extends_again f g = record { bit = λ x h. g.bit x (f.bit x h); same = λ x h w. g.same x (f.bit x h) w ∙ f.same x h w }
