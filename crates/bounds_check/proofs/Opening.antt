-- Entries that hold and have ended.
use Rattle.std.proofs.Common.{◌≡◌, Bool, true, false, not, ◌||◌, List, [], ◌∷◌, refl}
use Rattle.std.specs.Prelude.{All}
use Rattle.std.specs.List.{list_any}
use Rattle.std.proofs.lemmas.List.Elements.{All-cons, All-head, All-nil, All-tail}

pub not_true : (b : Bool) → not b ≡ true → b ≡ false
not_true true e = absurd cc
not_true false e = refl

or_left : (a b : Bool) → (a || b) ≡ false → a ≡ false
or_left true b e = absurd cc
or_left false b e = refl

or_right : (a b : Bool) → (a || b) ≡ false → b ≡ false
or_right true b e = absurd cc
or_right false b e = e

or_none : (a b : Bool) → a ≡ false → b ≡ false → (a || b) ≡ false
or_none true b e h = absurd cc
or_none false b e h = h

module _ {X : Type 0} (p : X → Bool) where
  abbrev Fails : X → Type 0
  Fails x = p x ≡ false

  pub none_passes : (xs : List X) → list_any p xs ≡ false → All Fails xs
  none_passes [] e = All-nil Fails
  none_passes (x ∷ xs) e = All-cons Fails x xs (or_left (p x) (list_any p xs) e) (none_passes xs (or_right (p x) (list_any p xs) e))

  pub all_fail : (xs : List X) → All Fails xs → list_any p xs ≡ false
  all_fail [] h = refl
  all_fail (x ∷ xs) h = or_none (p x) (list_any p xs) (All-head Fails x xs h) (all_fail xs (All-tail Fails x xs h))
