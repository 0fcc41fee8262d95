-- How words go on along a path.
use Rattle.std.proofs.Common.{◌≡◌, ℕ, zero, suc, ◌+◌, ◌≤◌, ◌<◌, ◌↔◌, cond, List, [], ◌∷◌, ◌++◌, length, get_or, take, drop, refl, sym, subst, arith}
use Rattle.std.specs.Prelude.{count_by}
use Rattle.std.proofs.lemmas.List.{drop_more, drop_all, take_more}
use Rattle.std.proofs.lemmas.List.Sums.{sum_by-cons}
use Rattle.measurer_index.specs.gap_words.Placed.{Placed}
use Rattle.measurer_index.specs.gap_words.Walks.{Goes, Walks}
use Rattle.measurer_index.specs.gap_words.Parts.{IsLetter, AreLetters, is_edge}
use Rattle.measurer_index.specs.declared.gap_words.piece.Piece.{Piece}
use Rattle.measurer_index.specs.declared.gap_words.piece.Piece.TheVariants.{Edge, Node, Predicate, Absent, Gap}
use Rattle.measurer_index.specs.declared.gap_words.piece.Span.{Span}

-- ---- rows of letters

pub letter_at : (w : List Piece) → AreLetters w → (i : ℕ) (d : Piece) → i < length w → IsLetter (get_or w i d)
letter_at [] h i d lt = absurd (omega arith)
letter_at (q ∷ w) h zero d lt = h.0
letter_at (q ∷ w) h (suc i) d lt = letter_at w h.1 i d (omega arith)

pub not_gap : (p : Piece) → ((span : Span) → p ≡ Gap span → ⊥) → IsLetter p
not_gap (Edge e) h = tt
not_gap (Node n) h = tt
not_gap (Predicate n) h = tt
not_gap (Absent n) h = tt
not_gap (Gap b) h = h b refl

append_letters : (u w : List Piece) → AreLetters u → AreLetters w → AreLetters (u ++ w)
append_letters [] w h g = g
append_letters (p ∷ u) w h g = (h.0, append_letters u w h.1 g)

pub more_letters : (w : List Piece) (i : ℕ) (d : Piece) → i < length w → IsLetter (get_or w i d) → AreLetters (take i w) → AreLetters (take (i + 1) w)
more_letters w i d lt l h = subst AreLetters (sym (take_more w i d lt)) (append_letters (take i w) (get_or w i d ∷ []) h (l, tt))

module _ (path : Placed) where
  goes_forward : (p : Piece) (i j : ℕ) → Goes path p i j → i ≤ j
  goes_forward (Edge e) i j h = let a = h.0 in omega arith
  goes_forward (Node n) i j h = let a = h.0 in omega arith
  goes_forward (Predicate n) i j h = let a = h.0 in omega arith
  goes_forward (Absent n) i j h = let a = h.0 in omega arith
  goes_forward (Gap b) i j h = let a = h.0 in omega arith

  pub walks_forward : (w : List Piece) (i j : ℕ) → Walks path w i j → i ≤ j
  walks_forward [] i j h = omega arith
  walks_forward (p ∷ w) i j (m, (g, h)) = let a = goes_forward p i m g in let b = walks_forward w m j h in omega arith

  -- a letter that begins no earlier ends no earlier
  in_step : (p : Piece) → IsLetter p → (i k j l : ℕ) → i ≤ k → Goes path p i j → Goes path p k l → j ≤ l
  in_step (Edge e) t i k j l le g h = let a = g.0 in let b = h.0 in omega arith
  in_step (Node n) t i k j l le g h = let a = g.0 in let b = h.0 in omega arith
  in_step (Predicate n) t i k j l le g h = let a = g.0 in let b = h.0 in omega arith
  in_step (Absent n) t i k j l le g h = let a = g.0 in let b = h.0 in omega arith
  in_step (Gap b) t i k j l le g h = absurd t

  pub walks_in_step : (w : List Piece) → AreLetters w → (i k j l : ℕ) → i ≤ k → Walks path w i j → Walks path w k l → j ≤ l
  walks_in_step [] t i k j l le g h = omega arith
  walks_in_step (p ∷ w) t i k j l le (m, (g, u)) (n, (h, v)) = walks_in_step w t.1 m n j l (in_step p t.0 i k m n le g h) u v

  pub walks_append : (u w : List Piece) (i j : ℕ) → Walks path (u ++ w) i j ↔ ((m : ℕ) × (Walks path u i m × Walks path w m j))
  walks_append [] w i j = (λ h. (i, (refl, h)), λ (m, (e, h)). subst (λ x. Walks path w x j) e h)
  walks_append (p ∷ u) w i j = (
    λ (m, (g, h)). let r = (walks_append u w m j).0 h in (r.0, ((m, (g, r.1.0)), r.1.1)),
    λ (n, ((m, (g, h)), k)). (m, (g, (walks_append u w m j).1 (n, (h, k)))),
  )

  letter_length : (p : Piece) → IsLetter p → (i j : ℕ) → Goes path p i j → j ≡ i + cond (is_edge p) 1 0
  letter_length (Edge e) t i j h = let a = h.0 in omega arith
  letter_length (Node n) t i j h = let a = h.0 in omega arith
  letter_length (Predicate n) t i j h = let a = h.0 in omega arith
  letter_length (Absent n) t i j h = let a = h.0 in omega arith
  letter_length (Gap b) t i j h = absurd t

  -- a row of letters goes over so many edges as it has
  pub walks_length : (w : List Piece) → AreLetters w → (i j : ℕ) → Walks path w i j → j ≡ i + count_by is_edge w
  walks_length [] t i j h = let e : j ≡ i = h in let z : count_by is_edge [] ≡ 0 = refl in omega arith
  walks_length (p ∷ w) t i j (m, (g, h)) =
      let a = letter_length p t.0 i m g in
      let b = walks_length w t.1 m j h in
      let c : count_by is_edge (p ∷ w) ≡ cond (is_edge p) 1 0 + count_by is_edge w = sum_by-cons (λ x. cond (is_edge x) 1 0) p w in
      omega arith

  -- ---- a row of letters, one after the other

  -- the row goes from the start where what is left of it goes from a state
  pub record IsAt (w : List Piece) (start i at : ℕ) : Type 0 where
    pub to : (j : ℕ) → Walks path w start j → Walks path (drop i w) at j
    pub back : (j : ℕ) → Walks path (drop i w) at j → Walks path w start j

  pub at_first : (w : List Piece) (start : ℕ) → IsAt w start 0 start
  at_first w start = record { to = λ j h. h; back = λ j h. h }

  pub at_next : (w : List Piece) (start i at next : ℕ) (d : Piece) → i < length w → IsLetter (get_or w i d) → Goes path (get_or w i d) at next → IsAt w start i at → IsAt w start (i + 1) next
  at_next w start i at next d lt t goes h =
      let p = get_or w i d in
      let e = drop_more w i d lt in
      record {
        to = λ j g.
            let r : Walks path (p ∷ drop (i + 1) w) at j = subst (λ x. Walks path x at j) e (h.to j g) in
            let a = in_step p t at at r.0 next (omega arith) r.1.0 goes in
            let b = in_step p t at at next r.0 (omega arith) goes r.1.0 in
            let same : r.0 ≡ next = omega arith in
            subst (λ m. Walks path (drop (i + 1) w) m j) same r.1.1;
        back = λ j g. h.back j (subst (λ x. Walks path x at j) (sym e) (next, (goes, g)));
      }

  pub at_none : (w : List Piece) (start i at : ℕ) (d : Piece) → i < length w → ((j : ℕ) → j ≤ length path.edges → Goes path (get_or w i d) at j → ⊥) → IsAt w start i at
      → (j : ℕ) → j ≤ length path.edges → Walks path w start j → ⊥
  at_none w start i at d lt none h j le g =
      let r : Walks path (get_or w i d ∷ drop (i + 1) w) at j = subst (λ x. Walks path x at j) (drop_more w i d lt) (h.to j g) in
      let a = walks_forward (drop (i + 1) w) r.0 j r.1.1 in
      none r.0 (omega arith) r.1.0

  pub at_end : (w : List Piece) (start i at : ℕ) → length w ≤ i → IsAt w start i at → Walks path w start at
  at_end w start i at le h = h.back at (subst (λ x. Walks path x at at) (sym (drop_all i w le)) refl)
