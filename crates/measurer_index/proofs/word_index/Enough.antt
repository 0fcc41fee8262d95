-- Places of a path from which enough words are walked.
use Rattle.std.proofs.Common.{◌≡◌, ℕ, zero, suc, ◌+◌, ◌≤◌, ◌<◌, ◌⊎◌, inl, inr, Bool, true, false, List, [], ◌∷◌, ◌++◌, length, drop, get_or, set, replicate, All, Some, None, refl, sym, ◌∙◌, ap, subst, arith}
use Rattle.std.specs.Prelude.{slice_get, slice_index}
use Rattle.std.specs.List.{Contains}
use Rattle.std.proofs.lemmas.Bool.{cases_lt, false≢true}
use Rattle.std.proofs.lemmas.List.{get_or-set_other, get_or-set_same, get_or_default, length-set}
use Rattle.std.proofs.Math.ListN.{length-replicate}
use Rattle.std.proofs.lemmas.List.Elements.{All-push, Contains-append_left, Contains-push}
use Rattle.patterns.specs.declared.path_view.PathView.{PathView}
use Rattle.patterns.specs.Paths.{IsPath}
use Rattle.goals.specs.GoalForm.{GoalForm}
use Rattle.measurer_index.specs.word_index.Numbers.{Adds}
use Rattle.measurer_index.specs.word_index.Order.{ranked}
use Rattle.measurer_index.specs.word_index.Walks.{Goes}
use Rattle.measurer_index.specs.word_index.Groups.{Continues, GoesOn, Started}
use Rattle.measurer_index.specs.word_index.Tables.{AreBegun, IsStep, root, step, steps}
use Rattle.measurer_index.specs.word_index.Places.{AreEnough, IsOnce}
use Rattle.measurer_index.specs.declared.word_index.group.Group.{Group}
use Rattle.measurer_index.proofs.word_index.Going.{before_letter, ends_here, first_goes, walks_forward}
use Rattle.measurer_index.proofs.word_index.Steps.{Below, adds_same}

-- ---- the states behind edges, and at nodes

abbrev behind : Bool → ℕ → ℕ
behind true at = suc at
behind false at = at

step_gone : (path : PathView) (edges : Bool) (at to number : ℕ) → Goes path (step edges number) at to → (to ≡ behind edges at) × (slice_index (steps edges path) at ≡ number)
step_gone path true at to number h = h
step_gone path false at to number h = h

step_goes : (path : PathView) (edges : Bool) (at number : ℕ) → slice_index (steps edges path) at ≡ number → Goes path (step edges number) at (behind edges at)
step_goes path true at number e = (refl, e)
step_goes path false at number e = (refl, e)

behind_within : (path : PathView) → IsPath path → (edges : Bool) (at : ℕ) → at < length (steps edges path) → behind edges at ≤ length path.edges
behind_within path is true at lt = omega arith
behind_within path is false at lt = omega (arith, is.nodes_fit)

within_behind : (path : PathView) → IsPath path → (edges : Bool) (at : ℕ) → behind edges at ≤ length path.edges → at < length (steps edges path)
within_behind path is true at le = omega arith
within_behind path is false at le = omega (arith, is.nodes_fit)

state_within : (path : PathView) → IsPath path → (edges : Bool) (at : ℕ) → at < length (steps edges path) → at ≤ length path.edges
state_within path is true at lt = omega arith
state_within path is false at lt = omega (arith, is.nodes_fit)

-- ---- the places that a loop has chosen so far

-- of the numbers up to some place, those in the table have their place among the chosen ones, or a mark, which stands for
-- an earlier place with that number, where once is enough
pub record Chosen (Once : ℕ → Type 0) (numbers : List ℕ) (size count : ℕ) (done : List Bool) (places : List ℕ) : Type 0 where
  pub marks : length done ≡ size
  pub within : All (λ at. at < length numbers) places
  pub seen : (at : ℕ) → at < count → slice_index numbers at < size → Contains places at ⊎ (get_or done (slice_index numbers at) false ≡ true)
  pub marked : (m : ℕ) → get_or done m false ≡ true → Once m × ((place : ℕ) × (Contains places place × (slice_index numbers place ≡ m)))

-- none at first
pub chosen_none : (Once : ℕ → Type 0) (numbers : List ℕ) (size count : ℕ) (done : List Bool) (places : List ℕ) → count ≡ size → done ≡ replicate count false → places ≡ [] → Chosen Once numbers size 0 done places
chosen_none Once numbers size count done places same marks none = record {
  marks = ap length marks ∙ length-replicate count false ∙ same;
  within = λ k d lt. absurd (let empty = ap length none in omega arith);
  seen = λ at lt small. absurd (omega arith);
  marked = λ m h. absurd (false≢true (sym (unmarked count m) ∙ ap (λ xs. get_or xs m false) (sym marks) ∙ h));
}
  where
    unmarked : (n m : ℕ) → get_or (replicate n false) m false ≡ false
    unmarked zero m = refl
    unmarked (suc n) zero = refl
    unmarked (suc n) (suc m) = unmarked n m

module _ (Once : ℕ → Type 0) (numbers : List ℕ) (size count : ℕ) (done : List Bool) (places : List ℕ) (chosen : Chosen Once numbers size count done places) where
  -- a number past the table, or with a mark
  pub chosen_skipped : (slice_index numbers count < size → get_or done (slice_index numbers count) false ≡ true) → Chosen Once numbers size (count + 1) done places
  chosen_skipped skipped = record { marks = chosen.marks; within = chosen.within; seen = seen; marked = chosen.marked }
    where
      seen : (at : ℕ) → at < count + 1 → slice_index numbers at < size → Contains places at ⊎ (get_or done (slice_index numbers at) false ≡ true)
      seen at lt small = elim (cases_lt at count) [
        | inl below ↦ chosen.seen at below small
        | inr above ↦ let e : count ≡ at = omega arith in inr (subst (λ k. slice_index numbers k < size → get_or done (slice_index numbers k) false ≡ true) e skipped small)
      ]

  -- a number without one, whose place is chosen
  pub chosen_more : (mark : Bool) → count < length numbers → slice_index numbers count < size → get_or done (slice_index numbers count) false ≡ false → (mark ≡ true → Once (slice_index numbers count))
      → Chosen Once numbers size (count + 1) (set done (slice_index numbers count) mark) (places ++ count ∷ [])
  chosen_more mark within small unmarked once = record {
    marks = length-set done (slice_index numbers count) mark ∙ chosen.marks;
    within = All-push (λ at. at < length numbers) places count chosen.within within;
    seen = seen;
    marked = marked;
  }
    where
      now : List Bool
      now = set done (slice_index numbers count) mark

      seen : (at : ℕ) → at < count + 1 → slice_index numbers at < size → Contains (places ++ count ∷ []) at ⊎ (get_or now (slice_index numbers at) false ≡ true)
      seen at lt small = elim (cases_lt at count) [
        | inl below ↦ elim (chosen.seen at below small) [
          | inl there ↦ inl (Contains-append_left places (count ∷ []) at there)
          | inr old ↦ inr (get_or-set_other done (slice_index numbers count) (slice_index numbers at) mark false (λ e. false≢true (sym unmarked ∙ ap (λ m. get_or done m false) (sym e) ∙ old)) ∙ old)
        ]
        | inr above ↦ let e : at ≡ count = omega arith in inl (subst (λ k. Contains (places ++ count ∷ []) k) (sym e) (Contains-push places count))
      ]

      marked : (m : ℕ) → get_or now m false ≡ true → Once m × ((place : ℕ) × (Contains (places ++ count ∷ []) place × (slice_index numbers place ≡ m)))
      marked m h = by_number (cases_lt m (slice_index numbers count)) (cases_lt (slice_index numbers count) m)
        where
          other : (m ≡ slice_index numbers count → ⊥) → Once m × ((place : ℕ) × (Contains (places ++ count ∷ []) place × (slice_index numbers place ≡ m)))
          other apart =
              let old = chosen.marked m (sym (get_or-set_other done (slice_index numbers count) m mark false apart) ∙ h) in
              (old.0, (old.1.0, (Contains-append_left places (count ∷ []) old.1.0 old.1.1.0, old.1.1.1)))

          by_number : (m < slice_index numbers count ⊎ slice_index numbers count ≤ m) → (slice_index numbers count < m ⊎ m ≤ slice_index numbers count) → Once m × ((place : ℕ) × (Contains (places ++ count ∷ []) place × (slice_index numbers place ≡ m)))
          by_number (inl lt) b = other (λ e. absurd (omega arith))
          by_number (inr a) (inl lt) = other (λ e. absurd (omega arith))
          by_number (inr a) (inr b) =
              let e : slice_index numbers count ≡ m = omega arith in
              let here : mark ≡ true = sym (get_or-set_same done (slice_index numbers count) mark false (omega (arith, chosen.marks))) ∙ ap (λ k. get_or now k false) e ∙ h in
              (subst Once e (once here), (count, (Contains-push places count, e)))

-- ---- enough places

module _ (goals : List GoalForm) (order : List ℕ) (absents : ℕ) (path : PathView) (last edges : Bool) (groups : List Group) (are : AreBegun goals order absents edges groups) (is : IsPath path) where
  abbrev Begins : ℕ → ℕ → Type 0
  Begins at n = Continues goals order path last (IsStep edges) (root order absents) at n

  abbrev numbers : List ℕ
  numbers = steps edges path

  -- the word begins with the step of its state
  begins_at : (at n : ℕ) (c : Begins at n) → (slice_get (ranked goals order c.rank) 0 ≡ Some (step edges (slice_index numbers at))) × (at < length numbers)
  begins_at at n c =
      let head = c.head in
      let f = first_goes path last (ranked goals order c.rank) 0 at (step edges head.0) head.1 c.goes in
      let gone = step_gone path edges at f.0 head.0 f.1.0 in
      let rest = f.1.1 in
      let forward = walks_forward path (drop 1 (ranked goals order c.rank)) f.0 rest.to rest.walks in
      let within = rest.within in
      let e = gone.0 in
      (head.1 ∙ ap (λ k. Some (step edges k)) (sym gone.1), within_behind path is edges at (omega arith))

  in_table : (at n : ℕ) → Begins at n → slice_index numbers at < length groups
  in_table at n c = are.all (slice_index order c.rank) (slice_index numbers at) (begins_at at n c).0

  again : (at place n : ℕ) → IsOnce goals order last groups (slice_index numbers at) → slice_index numbers place ≡ slice_index numbers at → place < length numbers → Begins at n → Begins place n
  again at place n once same there c =
      let g = once.1.0 in
      let b = begins_at at n c in
      let narrowed = are.at (slice_index numbers at) g once.1.1.0 in
      let inside = narrowed.all_with_letter c.rank c.from c.below b.0 in
      let ended : slice_get (ranked goals order c.rank) 1 ≡ None = ap (slice_get (ranked goals order c.rank)) (sym narrowed.deeper) ∙ once.1.1.1 narrowed.group c.rank inside.0 inside.1 in
      let rest : GoesOn path last (drop 1 (ranked goals order c.rank)) (behind edges place) = ends_here path last (ranked goals order c.rank) 1 (behind edges place) ended (behind_within path is edges place there) (λ e. absurd (false≢true (sym once.0 ∙ e))) in
      record {
        rank = c.rank;
        from = c.from;
        below = c.below;
        is = c.is;
        head = c.head;
        goes = before_letter path last (ranked goals order c.rank) 0 place (step edges (slice_index numbers at)) (behind edges place) b.0 (step_goes path edges place (slice_index numbers at) same) rest;
      }

  -- once the loop has seen all numbers
  pub chosen_all : (count : ℕ) (done : List Bool) (places : List ℕ) → Chosen (IsOnce goals order last groups) numbers (length groups) count done places → length numbers ≤ count → AreEnough goals order absents path last edges places
  chosen_all count done places chosen past = record {
    within = λ k d lt. state_within path is edges _ (chosen.within k d lt);
    enough = λ at n c. elim (chosen.seen at (let b = (begins_at at n c).1 in omega arith) (in_table at n c)) [
      | inl there ↦ (at, (there, c))
      | inr mark ↦
          let m = chosen.marked (slice_index numbers at) mark in
          let found = m.1.1.0 in
          let within : m.1.0 < length numbers = subst (λ k. k < length numbers) found.2 (chosen.within found.0 m.1.0 found.1) in
          (m.1.0, (found, again at m.1.0 n m.0 m.1.1.1 within c))
    ];
  }

-- ---- walks from all of these places

module _ (goals : List GoalForm) (order : List ℕ) (absents : ℕ) (path : PathView) (last edges : Bool) (places : List ℕ) where
  abbrev pub Walked : ℕ → ℕ → Type 0
  Walked k n = Continues goals order path last (IsStep edges) (root order absents) (slice_index places k) n

  pub walked_all : AreEnough goals order absents path last edges places → (xs ys : List ℕ) → Adds (Below Walked (length places)) xs ys → Adds (Started goals order path last (IsStep edges) (root order absents) (length path.edges + 1)) xs ys
  walked_all are xs ys h = adds_same _ (Started goals order path last (IsStep edges) (root order absents) (length path.edges + 1)) xs ys to from h
    where
      to : (n : ℕ) → Below Walked (length places) n → Started goals order path last (IsStep edges) (root order absents) (length path.edges + 1) n
      to n (k, (lt, c)) = let within = are.within k 0 lt in (slice_index places k, (omega arith, c))

      from : (n : ℕ) → Started goals order path last (IsStep edges) (root order absents) (length path.edges + 1) n → Below Walked (length places) n
      from n (at, (lt, c)) =
          let e = are.enough at n c in
          let found = e.1.0 in
          let same : slice_index places found.0 ≡ e.0 = get_or_default places found.0 0 e.0 found.1 ∙ found.2 in
          (found.0, (found.1, subst (λ k. Continues goals order path last (IsStep edges) (root order absents) k n) (sym same) e.1.1))
