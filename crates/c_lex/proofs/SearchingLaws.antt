-- The search for a word that is met within its own replacement.
use Rattle.std.proofs.Common.{◌≡◌, inl, inr, ℕ, zero, suc, ◌+◌, ◌<◌, ◌≤◌, true, false, List, [], ◌∷◌, ◌++◌, length, take, drop, reverse, refl, arith, ap, sym, ◌∙◌, subst}
use Rattle.std.proofs.Math.Numerals.{add-one}
use Rattle.std.specs.Prelude.{Some, None, Ok, slice_get, slice_set, replicate}
use Rattle.std.proofs.lemmas.Bool.{cases_eq}
use Rattle.std.proofs.lemmas.List.{get_or-set_other, get_or-set_same, reverse-append}
use Rattle.c_lex.specs.declared.expand.Frame.{Frame}
use Rattle.c_lex.specs.declared.looping.Mark.{Mark}
use Rattle.c_lex.specs.declared.looping.Mark.TheVariants as mark
use Rattle.c_lex.specs.declared.macros.Replacement.{Replacement}
use Rattle.c_lex.specs.declared.macros.Macro.{Macro}
use Rattle.c_lex.specs.Expanding.{unread_of}
use Rattle.c_lex.specs.Macros.{index_of, list_at, Meets, here, later, Ends}
use Rattle.c_lex.specs.Searching.{mark_at, read_of, HasFrame, Awaits, AreOpened, Searched, untried, TurnTaken}
use Rattle.c_lex.proofs.ExpandingLaws.{drop_get}
use Rattle.c_lex.proofs.LoopingLaws.{ends_none, ends_both, ends_plain, ends_word, meets_through, meets_within}

-- ---- lists

take_all : (xs : List Replacement) (i : ℕ) → None ≡ slice_get xs i → take i xs ≡ xs
take_all [] zero h = refl
take_all [] (suc i) h = refl
take_all (x ∷ xs) zero h = cc
take_all (x ∷ xs) (suc i) h = ap (λ ys. x ∷ ys) (take_all xs i h)

take_more : (xs : List Replacement) (i : ℕ) (r : Replacement) → Some r ≡ slice_get xs i → take (suc i) xs ≡ take i xs ++ r ∷ []
take_more [] i r h = cc
take_more (x ∷ xs) zero r h = let e : r ≡ x = cc in rw e refl
take_more (x ∷ xs) (suc i) r h = ap (λ ys. x ∷ ys) (take_more xs i r h)

pub reverse_push : (xs ys : List Frame) (f : Frame) → ys ≡ xs ++ f ∷ [] → reverse ys ≡ f ∷ reverse xs
reverse_push xs ys f e = ap reverse e ∙ reverse-append xs (f ∷ [])

-- the word at an index of a list is met
meets_at : (table : List Macro) (rs : List Replacement) (i : ℕ) (r : Replacement) (p : ℕ) → Some r ≡ slice_get rs i → index_of table r.text ≡ Some p → Meets table rs p
meets_at table [] i r p h e = cc
meets_at table (x ∷ xs) zero r p h e = let s : r ≡ x = cc in here (rw (← s) e)
meets_at table (x ∷ xs) (suc i) r p h e = later (meets_at table xs i r p h e)

-- ---- marks

mark_other : (marks now : List Mark) (i k : ℕ) (m : Mark) → now ≡ slice_set marks i m → (k ≡ i → ⊥) → mark_at now k ≡ mark_at marks k
mark_other marks now i k m e other = ap (λ xs. mark_at xs k) e ∙ get_or-set_other marks i k m mark.New other

mark_same : (marks now : List Mark) (i k : ℕ) (m : Mark) → now ≡ slice_set marks i m → i < length marks → k ≡ i → mark_at now k ≡ m
mark_same marks now i k m e lt same = ap (λ xs. mark_at xs k) e ∙ ap (λ j. mark_at (slice_set marks i m) j) same ∙ get_or-set_same marks i m mark.New lt

done_set : (table : List Macro) (marks : List Mark) (i : ℕ) → untried table (slice_set marks i mark.Done) ≤ untried table marks
done_set [] marks i = omega arith
done_set (m ∷ ms) [] zero = omega arith
done_set (m ∷ ms) [] (suc i) = omega arith
done_set (m ∷ ms) (mark.New ∷ marks) zero = omega arith
done_set (m ∷ ms) (mark.Open ∷ marks) zero = omega arith
done_set (m ∷ ms) (mark.Done ∷ marks) zero = omega arith
done_set (m ∷ ms) (mark.New ∷ marks) (suc i) = let h = done_set ms marks i in omega arith
done_set (m ∷ ms) (mark.Open ∷ marks) (suc i) = done_set ms marks i
done_set (m ∷ ms) (mark.Done ∷ marks) (suc i) = done_set ms marks i

open_set : (table : List Macro) (marks : List Mark) (i : ℕ) → i < length table → i < length marks → mark_at marks i ≡ mark.New → untried table marks ≡ suc (length (list_at table i)) + untried table (slice_set marks i mark.Open)
unfolding list_at
open_set [] marks i a b e = absurd (omega arith)
open_set (m ∷ ms) [] i a b e = absurd (omega arith)
open_set (m ∷ ms) (mark.New ∷ marks) zero a b e = refl
open_set (m ∷ ms) (mark.Open ∷ marks) zero a b e = cc
open_set (m ∷ ms) (mark.Done ∷ marks) zero a b e = cc
open_set (m ∷ ms) (mark.New ∷ marks) (suc i) a b e = let h = open_set ms marks i (omega arith) (omega arith) e in omega arith
open_set (m ∷ ms) (mark.Open ∷ marks) (suc i) a b e = open_set ms marks i (omega arith) (omega arith) e
open_set (m ∷ ms) (mark.Done ∷ marks) (suc i) a b e = open_set ms marks i (omega arith) (omega arith) e

-- ---- what the frames meet

module _ (table : List Macro) where
  from_root : (fs : List Frame) (root p q : ℕ) → Awaits table root p fs → Meets table (list_at table p) q → Meets table (list_at table root) q
  from_root [] root p q w m = subst (λ (j : ℕ). Meets table (list_at table j) q) w m
  from_root (f ∷ fs) root p q w m = from_root fs root f.index q w.2 (meets_through w.0 q m)

  from_frame : (fs : List Frame) (root p i q : ℕ) → HasFrame fs i → Awaits table root p fs → Meets table (list_at table p) q → Meets table (list_at table i) q
  from_frame [] root p i q h w m = absurd h
  from_frame (f ∷ fs) root p i q (inl e) w m = subst (λ (j : ℕ). Meets table (list_at table j) q) e (meets_through w.0 q m)
  from_frame (f ∷ fs) root p i q (inr h) w m = from_frame fs root f.index i q h w.2 (meets_through w.0 q m)

  place_by : (fs : List Frame) (root p : ℕ) → root < length table → Awaits table root p fs → p < length table
  place_by [] root p lt w = rw w lt
  place_by (f ∷ fs) root p lt w = meets_within w.0

  pub index_within : (root : ℕ) (marks : List Mark) (f : Frame) (fs : List Frame) → root < length table → Searched table root marks (f ∷ fs) → f.index < length table
  index_within root marks f fs lt s = let r = s.reads in place_by fs root f.index lt r.1

  -- the macro of the last frame is done
  closed : (fs : List Frame) (root p : ℕ) → Ends table (list_at table p) → Awaits table root p fs → AreOpened table root fs
  closed [] root p d w = subst (λ (j : ℕ). Ends table (list_at table j)) w d
  closed (f ∷ fs) root p d w = (w.1 d, w.2)

-- ---- turns

module _ (table shown : List Macro) (marks : List Mark) (f : Frame) (fs : List Frame) (same : shown ≡ table) where
  module _ (now : List Mark) (lt : f.index < length marks) (set : now ≡ slice_set marks f.index mark.Done) (past : None ≡ slice_get (list_at shown f.index) f.at) where
    list_ends : Ends table (read_of table f) → Ends table (list_at table f.index)
    list_ends d = rw (take_all (list_at table f.index) f.at (rw same at past)) at d

    closes : (root : ℕ) → Searched table root marks (f ∷ fs) → Searched table root now fs
    closes root s = record {
      done = λ i e. elim (cases_eq i f.index) [
        | inl is ↦ subst (λ (j : ℕ). Ends table (list_at table j)) (sym is) (list_ends s.reads.0)
        | inr other ↦ s.done i (sym (mark_other marks now f.index i mark.Done set other) ∙ e)
      ];
      open_frame = λ i e. elim (cases_eq i f.index) [
        | inl is ↦ let d = mark_same marks now f.index i mark.Done set lt is in cc
        | inr other ↦ elim (s.open_frame i (sym (mark_other marks now f.index i mark.Done set other) ∙ e)) [
          | inl is ↦ absurd (other (sym is))
          | inr h ↦ h
        ]
      ];
      reads = closed table fs root f.index (list_ends s.reads.0) s.reads.1;
    }

    pub turn_closes : TurnTaken table marks (f ∷ fs) now fs (Ok false)
    turn_closes = let h : untried table now ≤ untried table marks = rw set (done_set table marks f.index) in (closes, omega arith)

  module _ (r : Replacement) (next : Some r ≡ slice_get (list_at shown f.index) f.at) where
    abbrev moved : Frame
    moved = record { index = f.index; at = f.at + 1 }

    read_more : Ends table (r ∷ []) → Ends table (read_of table f) → Ends table (read_of table moved)
    read_more d e =
        let k : take (f.at + 1) (list_at table f.index) ≡ take f.at (list_at table f.index) ++ r ∷ [] = ap (λ n. take n (list_at table f.index)) (add-one f.at) ∙ take_more (list_at table f.index) f.at r (rw same at next) in
        rw k (ends_both table (take f.at (list_at table f.index)) (r ∷ []) e d)

    one_less : length (unread_of table f) ≡ suc (length (unread_of table moved))
    one_less =
        ap length (drop_get Replacement (list_at table f.index) f.at r (rw same at next)) ∙ ap (λ n. suc (length (drop n (list_at table f.index)))) (sym (add-one f.at))

    passes : ((root : ℕ) → Searched table root marks (f ∷ fs) → Ends table (r ∷ [])) → TurnTaken table marks (f ∷ fs) marks (moved ∷ fs) (Ok false)
    passes d = (λ root s. record { done = s.done; open_frame = s.open_frame; reads = (read_more (d root s) s.reads.0, s.reads.1) }, omega (arith, one_less))

    pub turn_plain : None ≡ index_of table r.text → TurnTaken table marks (f ∷ fs) marks (moved ∷ fs) (Ok false)
    turn_plain e = passes (λ root s. ends_plain table r (sym e))

    module _ (p : ℕ) (named : Some p ≡ index_of table r.text) where
      met : Meets table (list_at table f.index) p
      met = meets_at table (list_at table f.index) f.at r p (rw same at next) (sym named)

      pub turn_done : mark_at marks p ≡ mark.Done → TurnTaken table marks (f ∷ fs) marks (moved ∷ fs) (Ok false)
      turn_done e = passes (λ root s. ends_word table r p (sym named) (s.done p e))

      in_itself : (root : ℕ) → HasFrame (f ∷ fs) p → Awaits table root f.index fs → Meets table (list_at table p) p
      in_itself root (inl e) w = subst (λ (j : ℕ). Meets table (list_at table j) p) e met
      in_itself root (inr h) w = from_frame table fs root f.index p p h w met

      pub turn_loops : (now : List Mark) (above : List Frame) → mark_at marks p ≡ mark.Open → TurnTaken table marks (f ∷ fs) now above (Ok true)
      turn_loops now above e = λ root s. (p, from_root table fs root f.index p s.reads.1 met, in_itself root (s.open_frame p e) s.reads.1)

      module _ (now : List Mark) (lengths : length marks ≡ length table) (set : now ≡ slice_set marks p mark.Open) (new : mark_at marks p ≡ mark.New) where
        abbrev opened : Frame
        opened = record { index = p; at = 0 }

        in_marks : p < length marks
        in_marks = omega (arith, meets_within met)

        opens : (root : ℕ) → Searched table root marks (f ∷ fs) → Searched table root now (opened ∷ moved ∷ fs)
        opens root s = record {
          done = λ i e. elim (cases_eq i p) [
            | inl is ↦ let d = mark_same marks now p i mark.Open set in_marks is in cc
            | inr other ↦ s.done i (sym (mark_other marks now p i mark.Open set other) ∙ e)
          ];
          open_frame = λ i e. elim (cases_eq i p) [
            | inl is ↦ inl (sym is)
            | inr other ↦ inr (s.open_frame i (sym (mark_other marks now p i mark.Open set other) ∙ e))
          ];
          reads = (ends_none table, (met, λ d. read_more (ends_word table r p (sym named) d) s.reads.0, s.reads.1));
        }

        pub turn_opens : TurnTaken table marks (f ∷ fs) now (opened ∷ moved ∷ fs) (Ok false)
        turn_opens =
            let h : untried table marks ≡ suc (length (list_at table p)) + untried table now = rw set (open_set table marks p (meets_within met) in_marks new) in
            (opens, omega (arith, one_less))

-- ---- the search

none_at : (n k : ℕ) → mark_at (replicate n mark.New) k ≡ mark.New
none_at zero k = refl
none_at (suc n) zero = refl
none_at (suc n) (suc k) = none_at n k

pub begins : (table : List Macro) (root n : ℕ) (marks : List Mark) (frames : List Frame) → root < length marks → marks ≡ replicate n mark.New → frames ≡ record { index = root; at = 0 } ∷ []
    → Searched table root (slice_set marks root mark.Open) (reverse frames)
begins table root n marks frames lt new only = rw only (record {
  done = λ i e. elim (cases_eq i root) [
    | inl is ↦ let d = mark_same marks (slice_set marks root mark.Open) root i mark.Open refl lt is in cc
    | inr other ↦ let d = mark_other marks (slice_set marks root mark.Open) root i mark.Open refl other ∙ ap (λ xs. mark_at xs i) new ∙ none_at n i in cc
  ];
  open_frame = λ i e. elim (cases_eq i root) [
    | inl is ↦ inl (sym is)
    | inr other ↦ let d = mark_other marks (slice_set marks root mark.Open) root i mark.Open refl other ∙ ap (λ xs. mark_at xs i) new ∙ none_at n i in cc
  ];
  reads = (ends_none table, refl);
})

pub popped : (table : List Macro) (root : ℕ) (marks : List Mark) (frames fs : List Frame) (f : Frame) → frames ≡ fs ++ f ∷ [] → Searched table root marks (reverse frames) → Searched table root marks (f ∷ reverse fs)
popped table root marks frames fs f e s = rw (reverse_push fs frames f e) at s
