-- A word without quoted letters goes along a path exactly where its pattern matches.
use Rattle.std.proofs.Common.{◌≡◌, ℕ, ◌-◌, ◌↔◌, ◌==◌, ◌||◌, inl, inr, Bool, true, false, not, List, [], ◌∷◌, fold, map, refl, sym, ◌∙◌, ap, subst, arith, eqb-true, eq-eqb}
use Rattle.std.specs.Prelude.{slice_index}
use Rattle.std.proofs.lemmas.Bool.{false≢true}
use Rattle.patterns.specs.Letters.{form}
use Rattle.patterns.specs.Match.{Match, LetterMatch}
use Rattle.patterns.specs.Match as plain
use Rattle.patterns.specs.Paths.{step_of}
use Rattle.patterns.specs.declared.path_view.PathView.{PathView}
use Rattle.patterns.specs.declared.letter.Letter.TheVariants as letter
use Rattle.patterns.specs.declared.pattern.Pattern.TheVariants as pattern
use Rattle.patterns.proofs.Forms.{form_letter, form_dot}
use Rattle.goals.specs.Forms.{Pattern, letter_pattern, word_pattern}
use Rattle.goals.specs.Words.{Word}
use Rattle.goals.specs.declared.goal_letter.GoalLetter.{GoalLetter}
use Rattle.goals.specs.declared.goal_letter.GoalLetter.TheVariants.{Node, Edge, Predicate, Absent, Quoted}
use Rattle.patterns.specs.Segments.{HasSegment}
use Rattle.measurer_hits.proofs.run_match.Matches.{forward}
use Rattle.measurer_index.specs.word_index.Walks.{Goes, Walks, HasWalk, is_unquoted, is_plain}

or_false : (b : Bool) → (b || false) ≡ b
or_false true = refl
or_false false = refl

not_true : (b : Bool) → not b ≡ true → b ≡ false
not_true true h = sym h
not_true false h = refl

-- a list of one number
one_member : (n x : ℕ) → ((n == x) || false) ≡ true → x ≡ n
one_member n x h = sym (eqb-true n x (sym (or_false (n == x)) ∙ h))

member_one : (n x : ℕ) → x ≡ n → ((n == x) || false) ≡ true
member_one n x h = or_false (n == x) ∙ eq-eqb n x (sym h)

module _ (qs : List Pattern) (path : PathView) where
  node_walk : (n i j : ℕ) → LetterMatch (step_of path) (letter.Nodes (n ∷ [])) i j ↔ Goes path (Node n) i j
  node_walk n i j = (
    λ h. elim h [
      | inl x ↦ (sym x.0, ap (slice_index path.nodes) x.0 ∙ one_member n (slice_index path.nodes j) x.1)
      | inr x ↦ absurd (false≢true x.1)
    ],
    λ (e, s). inl (sym e, member_one n (slice_index path.nodes j) (ap (slice_index path.nodes) e ∙ s)),
  )

  pub edge_walk : (n i j : ℕ) → LetterMatch (step_of path) (letter.Edges (n ∷ [])) i j ↔ Goes path (Edge n) i j
  edge_walk n i j = (
    λ h. elim h [
      | inl x ↦ absurd (false≢true x.1)
      | inr x ↦ let e = x.0 in let k : i ≡ j - 1 = omega arith in (x.0, ap (slice_index path.edges) k ∙ one_member n (slice_index path.edges (j - 1)) x.1)
    ],
    λ (e, s). inr (e, member_one n (slice_index path.edges (j - 1)) (let k : j - 1 ≡ i = omega arith in ap (slice_index path.edges) k ∙ s)),
  )

  predicate_walk : (p i j : ℕ) → LetterMatch (step_of path) (letter.Predicate p) i j ↔ Goes path (Predicate p) i j
  predicate_walk p i j = (
    λ h. elim h [
      | inl x ↦ (sym x.0, subst (λ k. (step_of path k).state (letter.Predicate p) ≡ true) (sym x.0) x.1)
      | inr x ↦ absurd (false≢true x.1)
    ],
    λ (e, s). inl (sym e, subst (λ k. (step_of path k).state (letter.Predicate p) ≡ true) (sym e) s),
  )

  absent_walk : (p i j : ℕ) → LetterMatch (step_of path) (letter.Absent p) i j ↔ Goes path (Absent p) i j
  absent_walk p i j = (
    λ h. elim h [
      | inl x ↦ (sym x.0, not_true _ (subst (λ k. (step_of path k).state (letter.Absent p) ≡ true) (sym x.0) x.1))
      | inr x ↦ absurd (false≢true x.1)
    ],
    λ (e, s). inl (sym e, subst (λ k. (step_of path k).state (letter.Absent p) ≡ true) (sym e) (ap not s)),
  )

  -- one letter
  letter_walk : (l : GoalLetter) (w : Word) (i j : ℕ) → is_unquoted (l ∷ w) ≡ true → Match (step_of path) (form (letter_pattern qs l)) i j ↔ Goes path l i j
  letter_walk (Node n) w i j u = subst (λ f. Match (step_of path) f i j ↔ Goes path (Node n) i j) (sym (form_letter (letter.Nodes (n ∷ [])))) (node_walk n i j)
  letter_walk (Edge n) w i j u = subst (λ f. Match (step_of path) f i j ↔ Goes path (Edge n) i j) (sym (form_letter (letter.Edges (n ∷ [])))) (edge_walk n i j)
  letter_walk (Predicate p) w i j u = subst (λ f. Match (step_of path) f i j ↔ Goes path (Predicate p) i j) (sym (form_letter (letter.Predicate p))) (predicate_walk p i j)
  letter_walk (Absent p) w i j u = subst (λ f. Match (step_of path) f i j ↔ Goes path (Absent p) i j) (sym (form_letter (letter.Absent p))) (absent_walk p i j)
  letter_walk (Quoted q) w i j u = absurd (false≢true u)

  rest_unquoted : (l : GoalLetter) (w : Word) → is_unquoted (l ∷ w) ≡ true → is_unquoted w ≡ true
  rest_unquoted (Node n) w u = u
  rest_unquoted (Edge n) w u = u
  rest_unquoted (Predicate p) w u = u
  rest_unquoted (Absent p) w u = u
  rest_unquoted (Quoted q) w u = absurd (false≢true u)

  -- a pattern and then the letters of a word
  dots_walk : (w : Word) (p : Pattern) (i j : ℕ) → is_unquoted w ≡ true
      → Match (step_of path) (form (fold pattern.Dot p (map (letter_pattern qs) w))) i j ↔ ((m : ℕ) × (Match (step_of path) (form p) i m × Walks path w m j))
  dots_walk [] p i j u = (
    λ h. (j, (h, refl)),
    λ (m, (h, e)). subst (λ k. Match (step_of path) (form p) i k) (sym e) h,
  )
  dots_walk (l ∷ w) p i j u =
      let ih = dots_walk w (pattern.Dot p (letter_pattern qs l)) i j (rest_unquoted l w u) in
      let F : plain.Form _ = plain.dot (form p) (form (letter_pattern qs l)) in (
        λ h. let r = ih.0 h in
            let two : Match (step_of path) F i r.0 = subst (λ f. Match (step_of path) f i r.0) (form_dot p (letter_pattern qs l)) r.1.0 in
            (two.0, (two.1.0, (r.0, ((letter_walk l w two.0 r.0 u).0 two.1.1, r.1.1)))),
        λ (m, (h, (k, (g, rest)))).
            let two : Match (step_of path) F i k = (m, (h, (letter_walk l w m k u).1 g)) in
            ih.1 (k, (subst (λ f. Match (step_of path) f i k) (sym (form_dot p (letter_pattern qs l))) two, rest)),
      )

  -- a word with letters and no quoted ones
  pub word_walk : (w : Word) (i j : ℕ) → is_plain w ≡ true → Match (step_of path) (form (word_pattern qs w)) i j ↔ Walks path w i j
  word_walk [] i j u = absurd (false≢true u)
  word_walk (l ∷ w) i j u =
      let d = dots_walk w (letter_pattern qs l) i j (rest_unquoted l w u) in (
        λ h. let r = d.0 h in (r.0, ((letter_walk l w i r.0 u).0 r.1.0, r.1.1)),
        λ (m, (g, rest)). d.1 (m, ((letter_walk l w i m u).1 g, rest)),
      )

  -- the word goes along the path exactly where the path has a match of its pattern
  pub walk_is_segment : (first last : Bool) (w : Word) → is_plain w ≡ true → HasWalk first last w path ↔ HasSegment first last (form (word_pattern qs w)) path
  walk_is_segment first last w u = (
    λ h. let m = (word_walk w h.from h.to u).1 h.walks in
        record { from = h.from; to = h.to; forward = forward (step_of path) (form (word_pattern qs w)) h.from h.to m; within = h.within; at_first = h.at_first; at_last = h.at_last; matches = m },
    λ h. record { from = h.from; to = h.to; within = h.within; at_first = h.at_first; at_last = h.at_last; walks = (word_walk w h.from h.to u).0 h.matches },
  )
