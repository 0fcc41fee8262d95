-- Rows of bits, and what they hold after more gates.
use Rattle.std.specs.Prelude.{◌≡◌, Bool, List, [], ◌∷◌, map, All}
use Rattle.std.proofs.Common.{refl, suc, arith}
use Rattle.circuit.specs.Truth.{World, Extends}

-- what the bits hold in a world
abbrev pub at : {T B : Type 0} → (T → B → World → Bool) → T → List B → World → List Bool
at holds t bs w = map (λ b. holds t b w) bs

module _ {T B : Type 0} {is_bit : T → B → Type 0} {holds : T → B → World → Bool} where
  -- older bits are bits still
  pub bits_stay : {old new : T} (bs : List B) → Extends is_bit holds old new → All (is_bit old) bs → All (is_bit new) bs
  bits_stay bs e h = λ k d lt. e.bit _ (h k d lt)

  -- older bits hold as before
  pub at_same : {old new : T} (bs : List B) (w : World) → Extends is_bit holds old new → All (is_bit old) bs → at holds new bs w ≡ at holds old bs w
  at_same [] w e h = refl
  at_same (b ∷ bs) w e h = λ i. e.same b (h 0 b (omega arith)) w i ∷ at_same bs w e (λ k d lt. h (suc k) d (omega arith)) i
