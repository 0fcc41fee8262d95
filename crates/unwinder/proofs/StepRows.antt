-- The steps of a pair: each edge is there once.
use Rattle.std.proofs.Common.{◌≡◌, ◌⊎◌, ℕ, zero, suc, ◌+◌, ◌-◌, ◌<◌, List, [], ◌∷◌, length, Some, refl, sym, ap, subst, ◌∙◌, inl, inr, ⊎_elim, arith}
use Rattle.std.specs.Prelude.{slice_get, slice_index}
use Rattle.std.specs.List.Sorted.{IsStrictlyIncreasing}
use Rattle.std.proofs.lemmas.Bool.{cases_eq, cases_lt}
use Rattle.std.proofs.lemmas.List.{length-map}
use Rattle.std.proofs.lemmas.Option.{slice_get_within}
use Rattle.unwinder_reach.specs.declared.reached.step.Step.{Step}
use Rattle.unwinder_reach.specs.reached.Reaching.{edges_of}

edge_at : (steps : List Step) (i : ℕ) (s : Step) → slice_get steps i ≡ Some s → slice_index (edges_of steps) i ≡ s.edge
edge_at [] i s e = absurd cc
edge_at (t ∷ steps) zero s e = let same : t ≡ s = cc in ap (λ (q : Step). q.edge) same
edge_at (t ∷ steps) (suc i) s e = edge_at steps i s e

rising_after : (xs : List ℕ) → IsStrictlyIncreasing xs → (i d : ℕ) → i + d + 1 < length xs → slice_index xs i < slice_index xs (i + d + 1)
rising_after xs h i zero lt =
    let place : i + 0 + 1 ≡ i + 1 = omega arith in
    subst (λ k. slice_index xs i < slice_index xs k) (sym place) (h i (omega arith))
rising_after xs h i (suc d) lt =
    let place : i + suc d + 1 ≡ i + d + 1 + 1 = omega arith in
    let before = rising_after xs h i d (omega arith) in
    let more = h (i + d + 1) (omega arith) in
    subst (λ k. slice_index xs i < slice_index xs k) (sym place) (omega (arith, before, more))

rising_less : (xs : List ℕ) → IsStrictlyIncreasing xs → (i j : ℕ) → i < j → j < length xs → slice_index xs i < slice_index xs j
rising_less xs h i j lt within =
    let place : i + (j - (i + 1)) + 1 ≡ j = omega arith in
    subst (λ k. slice_index xs i < slice_index xs k) place (rising_after xs h i (j - (i + 1)) (omega arith))

-- two steps along one edge are one
pub one_step : (steps : List Step) → IsStrictlyIncreasing (edges_of steps) → (i j : ℕ) (s t : Step) → slice_get steps i ≡ Some s → slice_get steps j ≡ Some t → s.edge ≡ t.edge → i ≡ j
one_step steps h i j s t a b same =
    let long = length-map steps (λ (q : Step). q.edge) in
    let first = slice_get_within steps i s a in
    let second = slice_get_within steps j t b in
    let one = edge_at steps i s a in
    let other = edge_at steps j t b in
    ⊎_elim
    (λ lt. let less = rising_less (edges_of steps) h i j lt (omega arith) in absurd (omega (arith, less, one, other, same)))
    (λ ge. ⊎_elim
    (λ lt. let less = rising_less (edges_of steps) h j i lt (omega arith) in absurd (omega (arith, less, one, other, same)))
    (λ le. omega arith)
    (cases_lt j i))
    (cases_lt i j)

-- a step along an edge, or that there is none
abbrev pub HasStep : List Step → ℕ → Type 0
HasStep steps at = (m : ℕ) × (s : Step) × (slice_get steps m ≡ Some s) × (s.edge ≡ at)

pub find_step : (steps : List Step) (at : ℕ) → HasStep steps at ⊎ ((m : ℕ) (s : Step) → slice_get steps m ≡ Some s → s.edge ≡ at → ⊥)
find_step [] at = inr (λ m s e is. absurd cc)
find_step (t ∷ steps) at =
    ⊎_elim
    (λ here. inl (0, t, refl, here))
    (λ not_here. ⊎_elim (λ h. inl (suc h.0, h.1, h.2, h.3)) (λ none. inr (neither not_here none)) (find_step steps at))
    (cases_eq t.edge at)
  where
    neither : (t.edge ≡ at → ⊥) → ((m : ℕ) (s : Step) → slice_get steps m ≡ Some s → s.edge ≡ at → ⊥) → (m : ℕ) (s : Step) → slice_get (t ∷ steps) m ≡ Some s → s.edge ≡ at → ⊥
    neither not_here none zero s e is = let same : t ≡ s = cc in not_here (ap (λ (q : Step). q.edge) same ∙ is)
    neither not_here none (suc m) s e is = none m s e is
