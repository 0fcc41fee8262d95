-- Rows of variables, in the order in which their bits decide.
use Rattle.std.proofs.Common.{◌≡◌, ℕ, suc, ◌+◌, ◌-◌, ◌<◌, ◌≤◌, List, [], ◌∷◌, ◌++◌, length, map, take, drop, get_or, append_assoc, Option, Some, None, refl, sym, ap, subst, ◌∙◌, arith, All}
use Rattle.std.specs.Prelude.{reverse}
use Rattle.std.specs.List.{Contains, filter_map, flat_map}
use Rattle.std.proofs.lemmas.Grind.{reverse_onto}
use Rattle.std.proofs.lemmas.List.{drop_more, flat_map_more, get_or_default, map-append, take_more}
use Rattle.std.proofs.lemmas.List.Elements.{All-cons, All-nil, filter_map-append}

-- each of the numbers that are there is so
abbrev pub AllNumbers : (ℕ → Type 0) → List (Option ℕ) → Type 0
AllNumbers P [] = Unit {0}
AllNumbers P (None ∷ vs) = AllNumbers P vs
AllNumbers P (Some n ∷ vs) = P n × AllNumbers P vs

module _ (P : ℕ → Type 0) where
  pub numbers_of_contains : (vs : List (Option ℕ)) → ((n : ℕ) → Contains vs (Some n) → P n) → AllNumbers P vs
  numbers_of_contains [] h = tt
  numbers_of_contains (None ∷ vs) h = numbers_of_contains vs (λ n c. h n (suc c.0, omega (arith, c.1), c.2))
  numbers_of_contains (Some n ∷ vs) h = (h n (0, omega arith, refl), numbers_of_contains vs (λ m c. h m (suc c.0, omega (arith, c.1), c.2)))

  join_numbers : (xs ys : List (Option ℕ)) → AllNumbers P xs → AllNumbers P ys → AllNumbers P (xs ++ ys)
  join_numbers [] ys h k = k
  join_numbers (None ∷ xs) ys h k = join_numbers xs ys h k
  join_numbers (Some n ∷ xs) ys h k = (h.0, join_numbers xs ys h.1 k)

  split_numbers : (xs ys : List (Option ℕ)) → AllNumbers P (xs ++ ys) → AllNumbers P xs × AllNumbers P ys
  split_numbers [] ys h = (tt, h)
  split_numbers (None ∷ xs) ys h = split_numbers xs ys h
  split_numbers (Some n ∷ xs) ys h = let rest = split_numbers xs ys h.1 in ((h.0, rest.0), rest.1)

  turned_numbers : (row : List (Option ℕ)) → AllNumbers P row → AllNumbers P (reverse row)
  turned_numbers [] h = tt
  turned_numbers (None ∷ row) h = subst (AllNumbers P) (sym (reverse_onto row None [])) (join_numbers (reverse row) (None ∷ []) (turned_numbers row h) tt)
  turned_numbers (Some n ∷ row) h = subst (AllNumbers P) (sym (reverse_onto row (Some n) [])) (join_numbers (reverse row) (Some n ∷ []) (turned_numbers row h.1) (h.0, tt))

  turned_rows : (rows : List (List (Option ℕ))) → AllNumbers P (flat_map (λ row. row) rows) → AllNumbers P (flat_map reverse rows)
  turned_rows [] h = tt
  turned_rows (row ∷ rows) h =
      let both = split_numbers row (flat_map (λ r. r) rows) h in
      join_numbers (reverse row) (flat_map reverse rows) (turned_numbers row both.0) (turned_rows rows both.1)

  -- what is so of each number of the rows is so of each in the order in which they decide
  pub numbers_in_order : (words answers : List (List (Option ℕ))) → AllNumbers P (flat_map (λ row. row) words ++ flat_map (λ row. row) answers)
      → AllNumbers P (flat_map reverse words ++ flat_map reverse answers)
  numbers_in_order words answers h =
      let both = split_numbers (flat_map (λ r. r) words) (flat_map (λ r. r) answers) h in
      join_numbers (flat_map reverse words) (flat_map reverse answers) (turned_rows words both.0) (turned_rows answers both.1)

  pub listed_numbers : (vs : List (Option ℕ)) → AllNumbers P vs → All P (filter_map (λ v. v) vs)
  listed_numbers [] h = All-nil P
  listed_numbers (None ∷ vs) h = listed_numbers vs h
  listed_numbers (Some n ∷ vs) h = All-cons P n (filter_map (λ v. v) vs) h.0 (listed_numbers vs h.1)

-- ---- what a function gives of the items of rows

pub mapped_turned : {X Y : Type 0} (f : X → Y) (row : List X) → map f (reverse row) ≡ reverse (map f row)
mapped_turned f [] = refl
mapped_turned f (x ∷ row) =
    ap (map f) (reverse_onto row x []) ∙ map-append f (reverse row) (x ∷ []) ∙ ap (λ xs. xs ++ f x ∷ []) (mapped_turned f row) ∙ sym (reverse_onto (map f row) (f x) [])

pub mapped_rows : {X Y : Type 0} (f : X → Y) (rows : List (List X)) → map f (flat_map reverse rows) ≡ flat_map reverse (map (map f) rows)
mapped_rows f [] = refl
mapped_rows f (row ∷ rows) =
    map-append f (reverse row) (flat_map reverse rows) ∙ ap (λ xs. xs ++ map f (flat_map reverse rows)) (mapped_turned f row) ∙ ap (λ xs. reverse (map f row) ++ xs) (mapped_rows f rows)

-- ---- the variables of rows

-- one more bit of a row, from its last on
pub row_more : (row : List (Option ℕ)) (place : ℕ) → place < length row → filter_map (λ v. v) (reverse (drop place row)) ≡ filter_map (λ v. v) (reverse (drop (place + 1) row)) ++ filter_map (λ v. v) (get_or row place None ∷ [])
row_more row place lt =
    let rest = drop (place + 1) row in
    let v = get_or row place None in
    ap (λ (vs : List (Option ℕ)). filter_map (λ v. v) (reverse vs)) (drop_more row place None lt) ∙ ap (filter_map (λ v. v)) (reverse_onto rest v []) ∙ filter_map-append (λ v. v) (reverse rest) (v ∷ [])

-- one more row
pub rows_more : (front : List ℕ) (rows : List (List (Option ℕ))) (i : ℕ) (row : List (Option ℕ)) → i < length rows → row ≡ get_or rows i row
    → (front ++ filter_map (λ v. v) (flat_map reverse (take i rows))) ++ filter_map (λ v. v) (reverse row) ≡ front ++ filter_map (λ v. v) (flat_map reverse (take (i + 1) rows))
rows_more front rows i row lt is =
    let before = flat_map reverse (take i rows) in
    let next : take (i + 1) rows ≡ take i rows ++ row ∷ [] = take_more rows i row lt ∙ ap (λ r. take i rows ++ r ∷ []) (sym is) in
    append_assoc front (filter_map (λ v. v) before) (filter_map (λ v. v) (reverse row))
    ∙ ap (λ xs. front ++ xs) (sym (filter_map-append (λ v. v) before (reverse row)) ∙ ap (filter_map (λ v. v)) (flat_map_more reverse [] (take i rows) row ∙ ap (flat_map reverse) (sym next)))

-- one more place of a row was read
pub row_step : (front old new : List ℕ) (row : List (Option ℕ)) (place : ℕ) (d v : Option ℕ) → 0 < place → place ≤ length row → get_or row (place - 1) d ≡ v
    → old ≡ front ++ filter_map (λ v. v) (reverse (drop place row)) → new ≡ old ++ filter_map (λ v. v) (v ∷ []) → new ≡ front ++ filter_map (λ v. v) (reverse (drop (place - 1) row))
row_step front old new row place d v some le read before pushed =
    let lt : place - 1 < length row = omega (arith, some, le) in
    let same : place - 1 + 1 ≡ place = omega (arith, some) in
    let item : get_or row (place - 1) None ≡ v = get_or_default row (place - 1) None d lt ∙ read in
    let own : filter_map (λ v. v) (reverse (drop (place - 1) row)) ≡ filter_map (λ v. v) (reverse (drop place row)) ++ filter_map (λ v. v) (v ∷ []) =
    row_more row (place - 1) lt ∙ (λ i. filter_map (λ v. v) (reverse (drop (same i) row)) ++ filter_map (λ v. v) (item i ∷ [])) in
    pushed ∙ ap (λ xs. xs ++ filter_map (λ v. v) (v ∷ [])) before ∙ append_assoc front (filter_map (λ v. v) (reverse (drop place row))) (filter_map (λ v. v) (v ∷ [])) ∙ ap (λ xs. front ++ xs) (sym own)
