-- The pieces of patterns.
use Rattle.std.proofs.Common.{◌≡◌, ℕ, zero, suc, ◌+◌, ◌-◌, ◌==◌, ◌||◌, ◌↔◌, inl, inr, Bool, true, false, not, List, [], ◌∷◌, ◌++◌, Option, Result, Ok, Err, IfOk, IfSome, refl, sym, ◌∙◌, ap, subst, arith, eqb-true, eq-eqb, append_assoc}
use Rattle.std.specs.Prelude.{slice_index, slice_index_or}
use Rattle.std.specs.List.{list_any}
use Rattle.std.proofs.lemmas.Bool.{cases_lt, false≢true}
use Rattle.patterns.specs.Match.{AtMost, LetterMatch, Match, Turns, Form}
use Rattle.patterns.specs.Match as plain
use Rattle.patterns.specs.Letters.{form}
use Rattle.patterns.specs.Paths.{step_of}
use Rattle.patterns.specs.declared.pattern.Pattern as declared
use Rattle.patterns.specs.declared.pattern.Pattern.TheVariants as pattern
use Rattle.patterns.proofs.Forms.{form_letter, form_dot, form_repeat}
use Rattle.patterns.specs.declared.letter.Letter.{Letter}
use Rattle.patterns.specs.declared.letter.Letter.TheVariants as letter
use Rattle.patterns.specs.declared.path_view.PathView.{PathView}
use Rattle.measurer_index.specs.gap_words.Placed.{with_sets}
use Rattle.measurer_index.specs.gap_words.Walks.{AreIn, Goes}
use Rattle.measurer_index.specs.gap_words.Parts.{IsAppended, IsPieceOf}
use Rattle.measurer_index.specs.declared.gap_words.piece.Piece.{Piece}
use Rattle.measurer_index.specs.declared.gap_words.piece.Piece.TheVariants.{Edge, Node, Predicate, Absent, Gap}
use Rattle.measurer_index.specs.declared.gap_words.piece.Span.{Span}
use Rattle.measurer_index.proofs.gap_words.Going.{walks_append}

or_false : (b : Bool) → (b || false) ≡ b
or_false true = refl
or_false false = refl

not_true : (b : Bool) → not b ≡ true → b ≡ false
not_true true h = sym h
not_true false h = refl

-- a list of one number
one_member : (n x : ℕ) → ((n == x) || false) ≡ true → x ≡ n
one_member n x h = sym (eqb-true n x (sym (or_false (n == x)) ∙ h))

member_one : (n x : ℕ) → x ≡ n → ((n == x) || false) ≡ true
member_one n x h = or_false (n == x) ∙ eq-eqb n x (sym h)

-- what a piece alone does
piece_of : (sets : List (List ℕ)) (pattern : Form Letter) (piece : Piece) → ((path : PathView) (i j : ℕ) → Match (step_of path) pattern i j ↔ Goes (with_sets sets path) piece i j) → IsPieceOf sets pattern piece
piece_of sets pattern piece h path i j = (
  λ m. (j, ((h path i j).0 m, refl)),
  λ (m, (g, e)). (h path i j).1 (subst (λ k. Goes (with_sets sets path) piece i k) (sym e) g),
)

pub node_piece : (sets : List (List ℕ)) (n : ℕ) → IsPieceOf sets (plain.letter (letter.Nodes (n ∷ []))) (Node n)
node_piece sets n = piece_of sets (plain.letter (letter.Nodes (n ∷ []))) (Node n) (λ path i j. (
  λ h. elim h [
    | inl x ↦ (sym x.0, ap (slice_index path.nodes) x.0 ∙ one_member n (slice_index path.nodes j) x.1)
    | inr x ↦ absurd (false≢true x.1)
  ],
  λ (e, s). inl (sym e, member_one n (slice_index path.nodes j) (ap (slice_index path.nodes) e ∙ s)),
))

pub edge_piece : (sets : List (List ℕ)) (n : ℕ) → IsPieceOf sets (plain.letter (letter.Edges (n ∷ []))) (Edge n)
edge_piece sets n = piece_of sets (plain.letter (letter.Edges (n ∷ []))) (Edge n) (λ path i j. (
  λ h. elim h [
    | inl x ↦ absurd (false≢true x.1)
    | inr x ↦ let e = x.0 in let k : i ≡ j - 1 = omega arith in (x.0, ap (slice_index path.edges) k ∙ one_member n (slice_index path.edges (j - 1)) x.1)
  ],
  λ (e, s). inr (e, member_one n (slice_index path.edges (j - 1)) (let k : j - 1 ≡ i = omega arith in ap (slice_index path.edges) k ∙ s)),
))

pub predicate_piece : (sets : List (List ℕ)) (p : ℕ) → IsPieceOf sets (plain.letter (letter.Predicate p)) (Predicate p)
predicate_piece sets p = piece_of sets (plain.letter (letter.Predicate p)) (Predicate p) (λ path i j. (
  λ h. elim h [
    | inl x ↦ (sym x.0, subst (λ k. (step_of path k).state (letter.Predicate p) ≡ true) (sym x.0) x.1)
    | inr x ↦ absurd (false≢true x.1)
  ],
  λ (e, s). inl (sym e, subst (λ k. (step_of path k).state (letter.Predicate p) ≡ true) (sym e) s),
))

pub absent_piece : (sets : List (List ℕ)) (p : ℕ) → IsPieceOf sets (plain.letter (letter.Absent p)) (Absent p)
absent_piece sets p = piece_of sets (plain.letter (letter.Absent p)) (Absent p) (λ path i j. (
  λ h. elim h [
    | inl x ↦ (sym x.0, not_true _ (subst (λ k. (step_of path k).state (letter.Absent p) ≡ true) (sym x.0) x.1))
    | inr x ↦ absurd (false≢true x.1)
  ],
  λ (e, s). inl (sym e, subst (λ k. (step_of path k).state (letter.Absent p) ≡ true) (sym e) (ap not s)),
))

-- ---- gaps

-- a number of edges of a set are a segment whose edges are in the set
module _ (set : List ℕ) (path : PathView) where
  over_turns : (c i j : ℕ) → Turns (LetterMatch (step_of path) (letter.Edges set)) c i j → (j ≡ i + c) × AreIn set path.edges i j
  over_turns zero i j h = (omega arith, λ k from below. absurd (omega arith))
  over_turns (suc c) i j (m, (t, inl x)) = absurd (false≢true x.1)
  over_turns (suc c) i j (m, (t, inr x)) =
      let r = over_turns c i m t in
      let is = r.0 in
      let next = x.0 in (
        omega arith,
        λ k from below. elim (cases_lt k m) [
          | inl early ↦ r.1 k from early
          | inr late ↦
              let e : j - 1 ≡ k = omega arith in
              subst (λ y. list_any (λ member. member == slice_index path.edges y) set ≡ true) e x.1
        ],
      )

  turns_over : (c i j : ℕ) → j ≡ i + c → AreIn set path.edges i j → Turns (LetterMatch (step_of path) (letter.Edges set)) c i j
  turns_over zero i j is h = omega arith
  turns_over (suc c) i j is h =
      let e : j - 1 ≡ i + c = omega arith in
      let here = subst (λ y. list_any (λ member. member == slice_index path.edges y) set ≡ true) (sym e) (h (i + c) (omega arith) (omega arith)) in
      (i + c, (turns_over c i (i + c) refl (λ k from below. h k from (omega arith)), inr (omega arith, here)))

pub gap_piece : (sets : List (List ℕ)) (set : List ℕ) (span : Span) → slice_index_or sets span.set [] ≡ set → IsPieceOf sets (plain.repeat (plain.letter (letter.Edges set)) span.least span.most) (Gap span)
gap_piece sets set span is = piece_of sets (plain.repeat (plain.letter (letter.Edges set)) span.least span.most) (Gap span) (λ path i j. (
  λ (c, (least, (most, t))).
      let r = over_turns set path c i j t in
      let size = r.0 in
      let count : c ≡ j - i = omega arith in
      (omega arith, (subst (λ n. AtMost n span.most) count most, subst (λ s. AreIn s path.edges i j) (sym is) r.1)),
  λ (least, (most, h)). (j - i, (omega arith, (most, turns_over set path (j - i) i j (omega arith) (subst (λ s. AreIn s path.edges i j) is h)))),
))

-- ---- rows of pieces

pub one_appended : (sets : List (List ℕ)) (pattern : Form Letter) (piece : Piece) (old new : List Piece) → IsPieceOf sets pattern piece → new ≡ old ++ piece ∷ [] → IsAppended sets pattern old new
one_appended sets pattern piece old new of is = record { word = piece ∷ []; is = is; of = of }

pub both_appended : (sets : List (List ℕ)) (a b : Form Letter) (old middle new : List Piece) → IsAppended sets a old middle → IsAppended sets b middle new → IsAppended sets (plain.dot a b) old new
both_appended sets a b old middle new g h = record {
  word = g.word ++ h.word;
  is = h.is ∙ ap (λ xs. xs ++ h.word) g.is ∙ append_assoc old g.word h.word;
  of = λ path i j. let both = walks_append (with_sets sets path) g.word h.word i j in (
    λ (m, (x, y)). both.1 (m, ((g.of path i m).0 x, (h.of path m j).0 y)),
    λ w. let r = both.0 w in (r.0, ((g.of path i r.0).1 r.1.0, (h.of path r.0 j).1 r.1.1)),
  );
}

-- ---- by the cases of a pattern

pub of_letter : {E : Type 0} (sets : List (List ℕ)) (p : declared.Pattern Letter) (l : Letter) → p ≡ pattern.Letter l → (old new : List Piece) (r : Result Bool E) → IfOk r (λ b. b ≡ true → IsAppended sets (plain.letter l) old new) → IfOk r (λ b. b ≡ true → IsAppended sets (form p) old new)
of_letter sets p l is old new r h = subst (λ f. IfOk r (λ b. b ≡ true → IsAppended sets f old new)) (sym (ap form is ∙ form_letter l)) h

pub of_gap : {E : Type 0} (sets : List (List ℕ)) (p a x : declared.Pattern Letter) (least : ℕ) (most : Option ℕ) → p ≡ pattern.Repeat a least most → x ≡ a → (old new : List Piece) (r : Result Bool E)
    → IfOk r (λ b. b ≡ true → IsAppended sets (plain.repeat (form x) least most) old new) → IfOk r (λ b. b ≡ true → IsAppended sets (form p) old new)
of_gap sets p a x least most is same old new r h =
    let e : form p ≡ plain.repeat (form x) least most = ap form is ∙ form_repeat a least most ∙ (λ i. plain.repeat (form (sym same i)) least most) in
    subst (λ f. IfOk r (λ b. b ≡ true → IsAppended sets f old new)) (sym e) h

pub of_dot : {E : Type 0} (sets : List (List ℕ)) (p a b x y : declared.Pattern Letter) → p ≡ pattern.Dot a b → x ≡ a → y ≡ b → (old middle new : List Piece) → IsAppended sets (form x) old middle → (r : Result Bool E)
    → IfOk r (λ t. t ≡ true → IsAppended sets (form y) middle new) → IfOk r (λ t. t ≡ true → IsAppended sets (form p) old new)
of_dot sets p a b x y is ex ey old middle new g (Ok t) h =
    let e : form p ≡ plain.dot (form x) (form y) = ap form is ∙ form_dot a b ∙ (λ i. plain.dot (form (sym ex i)) (form (sym ey i))) in
    λ s. subst (λ f. IsAppended sets f old new) (sym e) (both_appended sets (form x) (form y) old middle new g (h s))
of_dot sets p a b x y is ex ey old middle new g (Err t) h = tt

-- the gap that any number of matches of a pattern are
pub gap_of : (sets : List (List ℕ)) (body : declared.Pattern Letter) (l : Letter) (least : ℕ) (most : Option ℕ) → body ≡ pattern.Letter l → (o : Option Piece) → IfSome o (λ piece. IsPieceOf sets (plain.repeat (plain.letter l) least most) piece) → IfSome o (λ piece. IsPieceOf sets (plain.repeat (form body) least most) piece)
gap_of sets body l least most is o h = subst (λ f. IfSome o (λ piece. IsPieceOf sets (plain.repeat f least most) piece)) (sym (ap form is ∙ form_letter l)) h
