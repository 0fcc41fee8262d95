-- How arrivals are put into the rows of an agenda, one for each of some steps.
use Rattle.std.specs.Prelude.{◌≡◌, ◌⊎◌, ℕ, ◌+◌, ◌-◌, ◌≤◌, ◌==◌, count_by, List, length, Some, slice_get, sum_by}
use Rattle.std.proofs.Common.{drop}
use Rattle.unwinder_reach.specs.declared.reached.step.Step.{Step}
use Rattle.unwinder.specs.declared.arrival.Arrival.{Arrival}

-- the arrivals of the steps from a number on were put into rows
pub record PutFrom (old new : List (List Arrival)) (steps : List Step) (onward : List Arrival) (i : ℕ) : Type 0 where
  pub rows : length new ≡ length old
  pub number : ℕ → ℕ
  pub kept : (j l : ℕ) (row : List Arrival) (a : Arrival) → slice_get old j ≡ Some row → slice_get row l ≡ Some a → (more : List Arrival) × (slice_get new j ≡ Some more) × (slice_get more l ≡ Some a)
  pub put : (m : ℕ) (s : Step) (a : Arrival) → i ≤ m → slice_get steps m ≡ Some s → slice_get onward m ≡ Some a → (more : List Arrival) × (slice_get new s.to ≡ Some more) × (slice_get more (number m) ≡ Some a)
  pub only : (j l : ℕ) (more : List Arrival) (a : Arrival) → slice_get new j ≡ Some more → slice_get more l ≡ Some a
      → ((row : List Arrival) × (slice_get old j ≡ Some row) × (slice_get row l ≡ Some a)) ⊎ ((m : ℕ) × (s : Step) × (slice_get steps m ≡ Some s) × (slice_get onward m ≡ Some a) × (j ≡ s.to) × (l ≡ number m) × (i ≤ m))

-- how many more there are: in each row, and in all
pub record PutCounts (old new : List (List Arrival)) (steps : List Step) (onward : List Arrival) (i : ℕ) : Type 0 where
  pub few : (j : ℕ) (row more : List Arrival) → slice_get old j ≡ Some row → slice_get new j ≡ Some more → length more ≤ length row + count_by (λ (s : Step). s.to == j) (drop i steps)
  pub total : sum_by (λ (r : List Arrival). length r) new ≡ sum_by (λ (r : List Arrival). length r) old + (length onward - i)
