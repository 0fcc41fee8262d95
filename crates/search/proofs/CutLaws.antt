-- The trail cut, and the table of its literals.
use Rattle.std.proofs.Common.{◌≡◌, ℕ, zero, suc, ◌+◌, ◌-◌, ◌≤◌, Bool, true, false, ◌||◌, eqb, List, [], ◌∷◌, ◌++◌, length, take, drop, refl, sym, ◌∙◌, ap, arith, Some}
use Rattle.std.specs.Prelude.{ℤ, not, ◌&&◌, slice_get}
use Rattle.std.specs.List.{AllByRecursion, IsDistinct}
use Rattle.std.specs.Ordering.{int_eq}
use Rattle.std.proofs.lemmas.Bool.Decides.{Decides-eqb}
use Rattle.std.proofs.lemmas.List.{length-drop, take_all}
use Rattle.std.proofs.lemmas.Map.Keys.{IsDistinct-head, IsDistinct-tail}
use Rattle.cnf.proofs.ClauseLaws.{same_literal}
use Rattle.cnf.proofs.literal_marks.MarksLaws.{int_eq-sym}
use Rattle.search.specs.declared.trail.Entry.{Entry}
use Rattle.search.specs.Machine.{is_true}
use Rattle.search.specs.Trails.{place, places}
use Rattle.search.proofs.BackLaws.{or_behind, true_next}

differ : (b : Bool) → b ≡ true → b ≡ false → ⊥
differ b e f = let no : true ≡ false = sym e ∙ f in absurd cc

-- a variable that no entry is of has no literal on the trail
pub absent : (trail : List Entry) (p : ℕ) (x : ℤ) → AllByRecursion (λ q. eqb p q ≡ false) (places trail) → place x ≡ p → is_true trail x ≡ true → ⊥
absent [] p x a at h = absurd cc
absent (e ∷ trail) p x a at h = by_test (int_eq e.literal x) refl h (absent trail p x a.1 at)
  where
    by_test : (b : Bool) → int_eq e.literal x ≡ b → (b || is_true trail x) ≡ true → (is_true trail x ≡ true → ⊥) → ⊥
    by_test true f g rest = differ (eqb p (place e.literal)) ((Decides-eqb p (place e.literal)).1 (sym at ∙ ap place (sym (same_literal e.literal x f)))) a.0
    by_test false f g rest = rest g

dropped_true : (trail : List Entry) (cut : ℕ) (x : ℤ) → is_true (drop cut trail) x ≡ true → is_true trail x ≡ true
dropped_true trail zero x h = h
dropped_true [] (suc cut) x h = h
dropped_true (e ∷ trail) (suc cut) x h = or_behind (int_eq e.literal x) _ (dropped_true trail cut x h)

-- the literals that stand before a cut are those that don't stand behind it
pub cut_true : (trail : List Entry) (cut : ℕ) (x : ℤ) → IsDistinct eqb (places trail) → (is_true trail x && not (is_true (drop cut trail) x)) ≡ is_true (take cut trail) x
cut_true trail zero x is = own (is_true trail x)
  where
    own : (b : Bool) → (b && not b) ≡ false
    own true = refl
    own false = refl
cut_true [] (suc cut) x is = refl
cut_true (e ∷ trail) (suc cut) x is = by_test (int_eq e.literal x) refl (cut_true trail cut x (IsDistinct-tail eqb (place e.literal) (places trail) is))
  where
    by_test : (b : Bool) → int_eq e.literal x ≡ b → (is_true trail x && not (is_true (drop cut trail) x)) ≡ is_true (take cut trail) x
        → ((b || is_true trail x) && not (is_true (drop cut trail) x)) ≡ (b || is_true (take cut trail) x)
    by_test false f rest = rest
    by_test true f rest = by_dropped (is_true (drop cut trail) x) refl
      where
        by_dropped : (b : Bool) → is_true (drop cut trail) x ≡ b → not b ≡ true
        by_dropped false g = refl
        by_dropped true g = absurd (absent trail (place e.literal) x (IsDistinct-head eqb (place e.literal) (places trail) is) (ap place (sym (same_literal e.literal x f))) (dropped_true trail cut x g))

-- one entry's mark more taken away
pub unmarked_next : (first now next : Bool) (trail : List Entry) (i : ℕ) (e : Entry) (x : ℤ) → slice_get trail i ≡ Some e → now ≡ (first && not (is_true (take i trail) x)) → next ≡ (now && not (int_eq x e.literal))
    → next ≡ (first && not (is_true (take (i + 1) trail) x))
unmarked_next first now next trail i e x at is gives =
    gives ∙ rw (is, int_eq-sym x e.literal) (both first (is_true (take i trail) x) (int_eq e.literal x) ∙ ap (λ b. first && not b) (sym (true_next trail i e x at)))
  where
    both : (a b c : Bool) → ((a && not b) && not c) ≡ (a && not (b || c))
    both true true c = refl
    both true false c = refl
    both false b c = refl

pub unmarked_none : (b : Bool) → b ≡ (b && true)
unmarked_none true = refl
unmarked_none false = refl

pub unmarked_all : (first now : Bool) (trail : List Entry) (i : ℕ) (x : ℤ) → length trail ≤ i → now ≡ (first && not (is_true (take i trail) x)) → now ≡ (first && not (is_true trail x))
unmarked_all first now trail i x h is = is ∙ ap (λ t. first && not (is_true t x)) (take_all i trail h)

pub take_whole : {X : Type 0} (ys zs : List X) (n : ℕ) → length ys ≡ n → take n (ys ++ zs) ≡ ys
take_whole [] zs zero h = refl
take_whole [] zs (suc n) h = absurd cc
take_whole (y ∷ ys) zs zero h = absurd cc
take_whole (y ∷ ys) zs (suc n) h = ap (λ xs. y ∷ xs) (take_whole ys zs n (omega (arith, h)))

pub cut_values : (trail : List Entry) (cut : ℕ) (x : ℤ) (value : Bool) → IsDistinct eqb (places trail) → value ≡ is_true trail x
    → (value && not (is_true (take (length trail - cut) (drop cut trail)) x)) ≡ is_true (take cut trail) x
cut_values trail cut x value is own =
    rw own (ap (λ t. is_true trail x && not (is_true t x)) (take_all (length trail - cut) (drop cut trail) (omega (arith, length-drop cut trail))) ∙ cut_true trail cut x is)
