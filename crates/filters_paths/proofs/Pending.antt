-- What a depth-first walk over prefixes has still to list.
use Rattle.std.proofs.Common.{◌≡◌, ℕ, ◌+◌, ◌≤◌, ◌<◌, List, [], ◌∷◌, ◌++◌, length, get_or, drop, sym, ◌∙◌, ap}
use Rattle.std.proofs.lemmas.List.{append-nil, append_assoc, drop_more, drop_all, map_push}
use Rattle.std.specs.List.{flat_map}
use Rattle.filters_paths.specs.declared.walk.Step.{Step}
use Rattle.filters_paths.specs.Walking.{edges_of, from_place, later, remaining}

module _ (below : List ℕ → List (List ℕ)) (row : List ℕ → List ℕ) where
  from_place_more : (p : List ℕ) (place e : ℕ) → place < length (row p) → get_or (row p) place 0 ≡ e → from_place below row p place ≡ below (p ++ e ∷ []) ++ from_place below row p (place + 1)
  unfolding from_place
  from_place_more p place e lt is =
      ap (flat_map (λ x. below (p ++ x ∷ []))) (drop_more (row p) place 0 lt) ∙ ap (λ x. below (p ++ x ∷ []) ++ flat_map (λ y. below (p ++ y ∷ [])) (drop (place + 1) (row p))) is

  from_place_all : (p : List ℕ) (place : ℕ) → length (row p) ≤ place → from_place below row p place ≡ []
  unfolding from_place
  from_place_all p place ge = ap (flat_map (λ x. below (p ++ x ∷ []))) (drop_all place (row p) ge)

  later_push : (p : List ℕ) (steps : List Step) (s : Step) → later below row p (steps ++ s ∷ []) ≡ from_place below row (p ++ edges_of steps) (s.place + 1) ++ later below row p steps
  unfolding later
  later_push p [] s = ap (λ q. from_place below row q (s.place + 1)) (sym (append-nil p)) ∙ sym (append-nil _)
  later_push p (t ∷ steps) s =
      ap (λ xs. xs ++ from_place below row p (t.place + 1)) (later_push (p ++ t.edge ∷ []) steps s)
      ∙ append_assoc (from_place below row ((p ++ t.edge ∷ []) ++ edges_of steps) (s.place + 1)) (later below row (p ++ t.edge ∷ []) steps) (from_place below row p (t.place + 1))
      ∙ ap (λ q. from_place below row q (s.place + 1) ++ (later below row (p ++ t.edge ∷ []) steps ++ from_place below row p (t.place + 1))) (append_assoc p (t.edge ∷ []) (edges_of steps))

  -- a number behind which nothing is
  pub passed_over : (steps : List Step) (place e : ℕ) → place < length (row (edges_of steps)) → get_or (row (edges_of steps)) place 0 ≡ e → below (edges_of steps ++ e ∷ []) ≡ []
      → remaining below row steps place ≡ remaining below row steps (place + 1)
  unfolding remaining
  passed_over steps place e lt is none =
      ap (λ xs. xs ++ later below row [] steps) (from_place_more (edges_of steps) place e lt is ∙ ap (λ xs. xs ++ from_place below row (edges_of steps) (place + 1)) none)

  -- a step forward: the prefix itself, and then what goes on after it
  pub forward : (steps : List Step) (s : Step) (itself : List (List ℕ)) → s.place < length (row (edges_of steps)) → get_or (row (edges_of steps)) s.place 0 ≡ s.edge
      → below (edges_of steps ++ s.edge ∷ []) ≡ itself ++ from_place below row (edges_of steps ++ s.edge ∷ []) 0
      → remaining below row steps s.place ≡ itself ++ remaining below row (steps ++ s ∷ []) 0
  unfolding remaining
  forward steps s itself lt is behind =
      let p = edges_of steps in
      let q = p ++ s.edge ∷ [] in
      ap (λ xs. xs ++ later below row [] steps) (from_place_more p s.place s.edge lt is ∙ ap (λ xs. xs ++ from_place below row p (s.place + 1)) behind)
      ∙ append_assoc (itself ++ from_place below row q 0) (from_place below row p (s.place + 1)) (later below row [] steps)
      ∙ append_assoc itself (from_place below row q 0) (from_place below row p (s.place + 1) ++ later below row [] steps)
      ∙ ap (λ xs. itself ++ (from_place below row q 0 ++ xs)) (sym (later_push [] steps s))
      ∙ ap (λ r. itself ++ (from_place below row r 0 ++ later below row [] (steps ++ s ∷ []))) (sym (map_push (λ (t : Step). t.edge) steps s))

  -- a step back, at the end of a row
  pub backward : (steps : List Step) (s : Step) (place : ℕ) → length (row (edges_of (steps ++ s ∷ []))) ≤ place → remaining below row (steps ++ s ∷ []) place ≡ remaining below row steps (s.place + 1)
  unfolding remaining
  backward steps s place ge = ap (λ xs. xs ++ later below row [] (steps ++ s ∷ [])) (from_place_all (edges_of (steps ++ s ∷ [])) place ge) ∙ later_push [] steps s

  pub nothing_left : (place : ℕ) → length (row []) ≤ place → remaining below row [] place ≡ []
  unfolding remaining later
  nothing_left place ge = ap (λ xs. xs ++ []) (from_place_all [] place ge)
