-- The order of decisions lists each open variable.
use Rattle.std.proofs.Common.{◌≡◌, ◌⊎◌, ℕ, zero, suc, ◌-◌, Bool, true, false, ◌||◌, eqb, List, [], ◌∷◌, length, take, drop, refl, sym, ◌∙◌, ap, arith, Option, None, Some}
use mathlib.Core.Logic.{inl, inr}
use Rattle.std.specs.Prelude.{ℤ, pos, negsuc, neg_ℤ, not, ◌&&◌, ◌==◌, slice_get, IfSome}
use Rattle.std.specs.Int.RustNames.{unsigned_abs}
use Rattle.std.specs.List.{IsDistinct}
use Rattle.std.specs.Option.{is_some}
use Rattle.std.proofs.lemmas.Bool.Decides.{Decides-eqb}
use Rattle.std.proofs.lemmas.List.{length-drop, take_all}
use Rattle.search.specs.declared.trail.Entry.{Entry}
use Rattle.search.specs.Machine.{IsOver, is_open, is_true}
use Rattle.search.specs.Orders.{AreListed}
use Rattle.search.specs.Trails.{places}
use Rattle.search.specs.Watching.{is_among}
use Rattle.search.proofs.CutLaws.{cut_true}

pub among_at : (xs : List ℕ) (i v : ℕ) → slice_get xs i ≡ Some v → is_among v xs ≡ true
among_at [] i v h = absurd cc
among_at (x ∷ xs) zero v h = let same : x ≡ v = cc in rw same (front (v == v) _ ((Decides-eqb v v).1 refl))
  where
    front : (a b : Bool) → a ≡ true → (a || b) ≡ true
    front true b g = refl
    front false b g = absurd cc
among_at (x ∷ xs) (suc i) v h = later (x == v) _ (among_at xs i v h)
  where
    later : (a b : Bool) → b ≡ true → (a || b) ≡ true
    later true b g = refl
    later false b g = g

pub is_there : (xs : List ℕ) (v : ℕ) (found : Option ℕ) → IfSome found (λ at. slice_get xs at ≡ Some v) → is_some found ≡ true → is_among v xs ≡ true
is_there xs v None h e = absurd cc
is_there xs v (Some at) h e = among_at xs at v h

pub same_variable : (x : ℤ) → unsigned_abs (neg_ℤ x) ≡ unsigned_abs x
same_variable (pos zero) = refl
same_variable (pos (suc n)) = refl
same_variable (negsuc n) = refl

both_free : (a b : Bool) → not (a || b) ≡ true → (a ≡ false) × (b ≡ false)
both_free true b h = absurd cc
both_free false true h = absurd cc
both_free false false h = (refl, refl)

either : (a b : Bool) → not (a || b) ≡ false → (a ≡ true) ⊎ (b ≡ true)
either true b h = inl refl
either false true h = inr refl
either false false h = absurd cc

-- one more entry
pub listed_more : (n : ℕ) (trail more : List Entry) (heap : List ℕ) → ((x : ℤ) → is_true more x ≡ false → is_true trail x ≡ false) → AreListed n trail heap → AreListed n more heap
listed_more n trail more heap less listed x over free =
    let own = both_free (is_true more x) (is_true more (neg_ℤ x)) free in
    listed x over (rw (less x own.0, less (neg_ℤ x) own.1) refl)

-- the literals behind a cut are listed again
pub listed_cut : (n : ℕ) (trail : List Entry) (cut : ℕ) (old new : List ℕ) → IsDistinct eqb (places trail) → ((v : ℕ) → is_among v old ≡ true → is_among v new ≡ true)
    → ((x : ℤ) → is_true (drop cut trail) x ≡ true → is_among (unsigned_abs x) new ≡ true) → AreListed n trail old → AreListed n (take cut trail) new
listed_cut n trail cut old new distinct keeps again listed x over free = by_open (is_open (is_true trail) x) refl
  where
    own : (is_true (take cut trail) x ≡ false) × (is_true (take cut trail) (neg_ℤ x) ≡ false)
    own = both_free _ _ free

    dropped : (a b c : Bool) → (a && not b) ≡ c → a ≡ true → c ≡ false → b ≡ true
    dropped true true c e f g = refl
    dropped true false c e f g = let no : true ≡ false = e ∙ g in absurd cc
    dropped false b c e f g = absurd cc

    by_open : (b : Bool) → is_open (is_true trail) x ≡ b → is_among (unsigned_abs x) new ≡ true
    by_open true e = keeps (unsigned_abs x) (listed x over e)
    by_open false e = by_side (either (is_true trail x) (is_true trail (neg_ℤ x)) e)
      where
        by_side : (is_true trail x ≡ true) ⊎ (is_true trail (neg_ℤ x) ≡ true) → is_among (unsigned_abs x) new ≡ true
        by_side (inl h) = again x (dropped _ _ _ (cut_true trail cut x distinct) h own.0)
        by_side (inr h) = rw (← same_variable x) (again (neg_ℤ x) (dropped _ _ _ (cut_true trail cut (neg_ℤ x) distinct) h own.1))

pub listed_behind : (n : ℕ) (trail : List Entry) (cut : ℕ) (old new : List ℕ) → IsDistinct eqb (places trail) → ((v : ℕ) → is_among v old ≡ true → is_among v new ≡ true)
    → ((x : ℤ) → is_true (take (length trail - cut) (drop cut trail)) x ≡ true → is_among (unsigned_abs x) new ≡ true) → AreListed n trail old → AreListed n (take cut trail) new
listed_behind n trail cut old new distinct keeps again =
    listed_cut n trail cut old new distinct keeps
    (λ x h. again x (ap (λ t. is_true t x) (take_all (length trail - cut) (drop cut trail) (omega (arith, length-drop cut trail))) ∙ h))

-- one that isn't open is taken away
pub listed_without : (n : ℕ) (trail : List Entry) (old new : List ℕ) (first : ℕ) → slice_get old 0 ≡ Some first
    → ((x : ℤ) → IsOver n x → unsigned_abs x ≡ first → is_open (is_true trail) x ≡ false)
    → ((v : ℕ) → is_among v old ≡ true → (slice_get old 0 ≡ Some v) ⊎ (is_among v new ≡ true)) → AreListed n trail old → AreListed n trail new
listed_without n trail old new first head known rest listed x over free = by_side (rest (unsigned_abs x) (listed x over free))
  where
    by_side : (slice_get old 0 ≡ Some (unsigned_abs x)) ⊎ (is_among (unsigned_abs x) new ≡ true) → is_among (unsigned_abs x) new ≡ true
    by_side (inr h) = h
    by_side (inl h) =
        let one : Some (unsigned_abs x) ≡ Some first = sym h ∙ head in
        let same : unsigned_abs x ≡ first = cc in
        let no : true ≡ false = sym free ∙ known x over same in
        absurd cc

pub listed_none : (n : ℕ) (trail : List Entry) (heap : List ℕ) → heap ≡ [] → AreListed n trail heap → (x : ℤ) → IsOver n x → is_open (is_true trail) x ≡ false
listed_none n trail heap none listed x over = by_open (is_open (is_true trail) x) refl
  where
    by_open : (b : Bool) → is_open (is_true trail) x ≡ b → is_open (is_true trail) x ≡ false
    by_open false e = e
    by_open true e = let yes : is_among (unsigned_abs x) [] ≡ true = ap (is_among (unsigned_abs x)) (sym none) ∙ listed x over e in absurd cc
