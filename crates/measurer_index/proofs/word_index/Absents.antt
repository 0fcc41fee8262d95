-- Numbers above those of the absent predicates of words.
use Rattle.std.proofs.Common.{◌≡◌, ℕ, zero, suc, ◌+◌, ◌≤◌, ◌<◌, inl, inr, List, [], ◌∷◌, length, get_or, Some, refl, sym, ◌∙◌, ap, subst, arith}
use Rattle.std.specs.Prelude.{slice_get}
use Rattle.std.proofs.lemmas.Bool.{cases_lt}
use Rattle.goals.specs.GoalForm.{GoalForm}
use Rattle.goals.specs.Words.{Word}
use Rattle.goals.specs.declared.goal_letter.GoalLetter.{GoalLetter}
use Rattle.goals.specs.declared.goal_letter.GoalLetter.TheVariants.{Absent}
use Rattle.measurer_index.specs.word_index.Order.{AreAbsentsBelow}
use Rattle.measurer_index.specs.word_index.Walks.{word_of, word_at}

item_is : {X : Type 0} (xs : List X) (i : ℕ) (x d : X) → slice_get xs i ≡ Some x → get_or xs i d ≡ x
item_is [] i x d e = absurd cc
item_is (y ∷ xs) zero x d e = cc
item_is (y ∷ xs) (suc i) x d e = item_is xs i x d e

item_there : {X : Type 0} (xs : List X) (i : ℕ) (x : X) → x ≡ get_or xs i x → i < length xs → slice_get xs i ≡ Some x
item_there [] i x e lt = absurd (omega arith)
item_there (y ∷ xs) zero x e lt = ap Some (sym e)
item_there (y ∷ xs) (suc i) x e lt = item_there xs i x e (omega arith)

there_below : {X : Type 0} (xs : List X) (i : ℕ) (x : X) → slice_get xs i ≡ Some x → i < length xs
there_below [] i x e = absurd cc
there_below (y ∷ xs) zero x e = omega arith
there_below (y ∷ xs) (suc i) x e = let rest = there_below xs i x e in omega arith

-- one more letter
pub more_letters : (w : Word) (i : ℕ) (l : GoalLetter) (below above : ℕ) → ((d p : ℕ) → d < i → slice_get w d ≡ Some (Absent p) → p < below) → below ≤ above
    → ((p : ℕ) → get_or w i l ≡ Absent p → p < above) → (d p : ℕ) → d < i + 1 → slice_get w d ≡ Some (Absent p) → p < above
more_letters w i l below above old le here d p small e = elim (cases_lt d i) [
  | inl lt ↦ let own = old d p lt e in omega arith
  | inr ge ↦ let same : d ≡ i = omega arith in here p (item_is w i (Absent p) l (subst (λ k. slice_get w k ≡ Some (Absent p)) same e))
]

pub all_letters : (w : Word) (i bound : ℕ) → length w ≤ i → ((d p : ℕ) → d < i → slice_get w d ≡ Some (Absent p) → p < bound) → (d p : ℕ) → slice_get w d ≡ Some (Absent p) → p < bound
all_letters w i bound past old d p e = let lt = there_below w d (Absent p) e in old d p (omega arith) e

-- one more goal
pub more_goals : (goals : List GoalForm) (i : ℕ) (goal : GoalForm) (word : Word) (below above : ℕ) → goal ≡ get_or goals i goal → i < length goals → word ≡ goal.word
    → ((g d p : ℕ) → g < i → slice_get (word_at goals g) d ≡ Some (Absent p) → p < below) → below ≤ above
    → ((d p : ℕ) → slice_get word d ≡ Some (Absent p) → p < above) → (g d p : ℕ) → g < i + 1 → slice_get (word_at goals g) d ≡ Some (Absent p) → p < above
more_goals goals i goal word below above is lt same old le here g d p small e = elim (cases_lt g i) [
  | inl less ↦ let own = old g d p less e in omega arith
  | inr ge ↦
      let at : g ≡ i = omega arith in
      let own : word_at goals g ≡ word = ap (word_at goals) at ∙ ap word_of (item_there goals i goal is lt) ∙ sym same in
      here d p (subst (λ w. slice_get w d ≡ Some (Absent p)) own e)
]

no_word : (goals : List GoalForm) (g : ℕ) → length goals ≤ g → word_at goals g ≡ []
no_word [] g le = refl
no_word (x ∷ xs) zero le = absurd (omega arith)
no_word (x ∷ xs) (suc g) le = no_word xs g (omega arith)

nothing : (d : ℕ) (l : GoalLetter) → slice_get [] d ≡ Some l → ⊥
nothing zero l e = cc
nothing (suc d) l e = cc

pub all_goals : (goals : List GoalForm) (i bound : ℕ) → length goals ≤ i → ((g d p : ℕ) → g < i → slice_get (word_at goals g) d ≡ Some (Absent p) → p < bound) → AreAbsentsBelow goals bound
all_goals goals i bound past old g d p e = elim (cases_lt g i) [
  | inl lt ↦ old g d p lt e
  | inr ge ↦ absurd (nothing d (Absent p) (subst (λ w. slice_get w d ≡ Some (Absent p)) (no_word goals g (omega arith)) e))
]
