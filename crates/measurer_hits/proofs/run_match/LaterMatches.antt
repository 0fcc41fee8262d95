-- A segment of the path from a state on matches exactly where the same segment of the whole path does.
use Rattle.std.proofs.Common.{◌≡◌, ℕ, zero, suc, ◌+◌, ◌-◌, ◌≤◌, inl, inr, Bool, true, false, length, sym, ◌∙◌, ap, subst, arith}
use Rattle.std.specs.Prelude.{slice_index}
use Rattle.std.proofs.lemmas.Bool.{false≢true}
use Rattle.std.proofs.lemmas.List.{get_or-drop, length-drop}
use Rattle.patterns.specs.Match.{Step, Form, nothing, letter, dot, either, repeat, Turns, Match}
use Rattle.patterns.specs.Paths.{step_of, edge_in, state_in}
use Rattle.patterns.specs.declared.letter.Letter.{Letter}
use Rattle.patterns.specs.declared.path_view.PathView.{PathView}
use Rattle.patterns.specs.Segments.{HasSegment}
use Rattle.measurer_hits.specs.run_match.Later.{path_from}
use Rattle.measurer_hits.proofs.run_match.Matches.{forward, turns_forward}

-- the first list of steps tells of each state what the second one tells of the state that is so many later, and so it does of
-- the edge into each state but the first
pub record IsLater {L : Type 0} (start : ℕ) (p q : ℕ → Step L) : Type 0 where
  pub states : (k : ℕ) (l : L) → (p k).state l ≡ (q (k + start)).state l
  pub edges : (k : ℕ) (l : L) → (p (suc k)).edge l ≡ (q (suc (k + start))).edge l

turns_later : (One Other : ℕ → ℕ → Type 0) (start : ℕ) → ((i j : ℕ) → One i j → Other (i + start) (j + start)) → (c i j : ℕ) → Turns One c i j → Turns Other c (i + start) (j + start)
turns_later One Other start to zero i j h = ap (λ n. n + start) h
turns_later One Other start to (suc c) i j (m, (g, h)) = (m + start, (turns_later One Other start to c i m g, to m j h))

turns_earlier : (One Other : ℕ → ℕ → Type 0) (start : ℕ) → ((i j : ℕ) → One i j → i ≤ j) → ((i j : ℕ) → start ≤ i → One i j → Other (i - start) (j - start)) → (c i j : ℕ) → start ≤ i → Turns One c i j
    → Turns Other c (i - start) (j - start)
turns_earlier One Other start f to zero i j le h = ap (λ n. n - start) h
turns_earlier One Other start f to (suc c) i j le (m, (g, h)) =
    let a = turns_forward One f c i m g in
    let b : start ≤ m = omega arith in
    (m - start, (turns_earlier One Other start f to c i m le g, to m j b h))

module _ {L : Type 0} (start : ℕ) (p q : ℕ → Step L) (same : IsLater start p q) where
  -- a match on the later steps is one on all steps
  pub match_later : (f : Form L) (i j : ℕ) → Match p f i j → Match q f (i + start) (j + start)
  match_later nothing i j h = absurd h
  match_later (letter l) i j (inl h) = inl (ap (λ n. n + start) h.0, sym (same.states j l) ∙ h.1)
  match_later (letter l) i j (inr h) =
      let e = h.0 in
      let k : j + start ≡ suc (i + start) = omega arith in
      let told : (p (suc i)).edge l ≡ true = subst (λ n. (p n).edge l ≡ true) e h.1 in
      inr (k, subst (λ n. (q n).edge l ≡ true) (sym k) (sym (same.edges i l) ∙ told))
  match_later (dot a b) i j (m, (g, h)) = (m + start, (match_later a i m g, match_later b m j h))
  match_later (either a b) i j (inl h) = inl (match_later a i j h)
  match_later (either a b) i j (inr h) = inr (match_later b i j h)
  match_later (repeat a least most) i j (c, (l, (u, h))) = (c, (l, (u, turns_later (Match p a) (Match q a) start (match_later a) c i j h)))

  -- a match on all steps that begins no earlier than the later steps is one on these
  pub match_earlier : (f : Form L) (i j : ℕ) → start ≤ i → Match q f i j → Match p f (i - start) (j - start)
  match_earlier nothing i j le h = absurd h
  match_earlier (letter l) i j le (inl h) =
      let e = h.0 in
      let k : j - start + start ≡ j = omega arith in
      inl (ap (λ n. n - start) e, same.states (j - start) l ∙ subst (λ n. (q n).state l ≡ true) (sym k) h.1)
  match_earlier (letter l) i j le (inr h) =
      let e = h.0 in
      let k : j - start ≡ suc (i - start) = omega arith in
      let m : suc (i - start + start) ≡ j = omega arith in
      inr (k, subst (λ n. (p n).edge l ≡ true) (sym k) (same.edges (i - start) l ∙ subst (λ n. (q n).edge l ≡ true) (sym m) h.1))
  match_earlier (dot a b) i j le (m, (g, h)) =
      let x = forward q a i m g in
      let y : start ≤ m = omega arith in
      (m - start, (match_earlier a i m le g, match_earlier b m j y h))
  match_earlier (either a b) i j le (inl h) = inl (match_earlier a i j le h)
  match_earlier (either a b) i j le (inr h) = inr (match_earlier b i j le h)
  match_earlier (repeat a least most) i j le (c, (l, (u, h))) = (c, (l, (u, turns_earlier (Match q a) (Match p a) start (forward q a) (match_earlier a) c i j le h)))

module _ (start : ℕ) (path : PathView) where
  steps_later : IsLater start (step_of (path_from start path)) (step_of path)
  steps_later = record {
    states = λ k l.
        let e : start + k ≡ k + start = omega arith in
        ap (λ n. state_in n (slice_index (path_from start path).masks k) l) (get_or-drop start path.nodes k 0 ∙ ap (slice_index path.nodes) e)
        ∙ ap (λ n. state_in (slice_index path.nodes (k + start)) n l) (get_or-drop start path.masks k 0 ∙ ap (slice_index path.masks) e);
    edges = λ k l.
        let a : suc k - 1 ≡ k = omega arith in
        let b : start + k ≡ suc (k + start) - 1 = omega arith in
        ap (λ n. edge_in n l) (ap (slice_index (path_from start path).edges) a ∙ (get_or-drop start path.edges k 0 ∙ ap (slice_index path.edges) b));
  }

  -- matches of the path from a state on are those of the whole path that begin no earlier
  pub later_match : (pattern : Form Letter) (i j : ℕ) → Match (step_of (path_from start path)) pattern i j → Match (step_of path) pattern (i + start) (j + start)
  later_match = match_later start (step_of (path_from start path)) (step_of path) steps_later

  pub match_of_later : (pattern : Form Letter) (i j : ℕ) → start ≤ i → Match (step_of path) pattern i j → Match (step_of (path_from start path)) pattern (i - start) (j - start)
  match_of_later = match_earlier start (step_of (path_from start path)) (step_of path) steps_later

  pub edges_later : length (path_from start path).edges ≡ length path.edges - start
  edges_later = length-drop start path.edges

  module _ (le : start ≤ length path.edges) (last : Bool) (pattern : Form Letter) where
    -- what the path from a state on has a segment of, the path has
    pub later_segment : HasSegment false last pattern (path_from start path) → HasSegment false last pattern path
    later_segment s =
        let size = edges_later in
        let forward = s.forward in
        let within = s.within in
        record {
          from = s.from + start;
          to = s.to + start;
          forward = omega arith;
          within = omega arith;
          at_first = λ e. absurd (false≢true e);
          at_last = λ e. let end = s.at_last e in omega arith;
          matches = later_match pattern s.from s.to s.matches;
        }

    -- a segment that begins no earlier is one of the path from that state on
    pub segment_of_later : (s : HasSegment false last pattern path) → start ≤ s.from → HasSegment false last pattern (path_from start path)
    segment_of_later s above =
        let size = edges_later in
        let forward = s.forward in
        let within = s.within in
        record {
          from = s.from - start;
          to = s.to - start;
          forward = omega arith;
          within = omega arith;
          at_first = λ e. absurd (false≢true e);
          at_last = λ e. let end = s.at_last e in omega arith;
          matches = match_of_later pattern s.from s.to above s.matches;
        }
