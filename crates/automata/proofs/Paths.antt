-- One more step of a path, in one world.
use Rattle.std.proofs.Common.{◌≡◌, ℕ, suc, ◌+◌, ◌<◌, inl, inr, ◌↔◌, Bool, true, false, ◌||◌, not, if◌then◌else◌, List, [], ◌∷◌, ◌++◌, length, refl, sym, ◌∙◌, ap, subst, arith, length-append, add-zero, zero-add}
use Rattle.std.proofs.lemmas.Bool.{or_cases, false≢true, cases_lt}
use Rattle.patterns.specs.Match.{Step}
use Rattle.automata.specs.Tree.{Tree, leaves, Sized, Good, Ends, marks_after}
use Rattle.automata.specs.Reach.{numbered, Has, MayBegin, MayEnd, Accepts, StandsFor, ends_now, hit_after, steps_after}
use Rattle.automata.proofs.Ends.{ends_is, good_step, marks_stay, good_at_first, AllNo}

module _ {L : Type 0} (letters : List L) where
  -- a path that has one more step has those before it
  pub has_more : (path : ℕ → Step ℕ) (n : ℕ) (steps : List (Step L)) (s : Step L) → Has letters path n (steps ++ s ∷ []) → Has letters path n steps × (path (n + length steps) ≡ numbered letters s)
  has_more path n [] s h = (tt, ap path (add-zero n) ∙ h.0)
  has_more path n (x ∷ steps) s h = let r = has_more path (suc n) steps s h.1 in
      let e : n + suc (length steps) ≡ suc n + length steps = omega arith in
      ((h.0, r.0), ap path e ∙ r.1)

  longer : (steps : List (Step L)) (s : Step L) → length (steps ++ s ∷ []) ≡ suc (length steps)
  longer steps s = omega (arith, length-append steps (s ∷ []))

  accepts_now : (path : ℕ → Step ℕ) (t : Tree) (first last : Bool) (n : ℕ) (hit end : Bool) → (hit ≡ true) ↔ Accepts path t first last n → (end ≡ true) ↔ Ends path t (MayBegin first) n
      → (hit_after last hit end ≡ true) ↔ Accepts path t first last (suc n)
  accepts_now path t first true n hit end old now =
      (λ e. (n, (refl, now.0 e)), λ (j, (e, h)). let k : j ≡ n = omega arith in now.1 (subst (Ends path t (MayBegin first)) k h))
  accepts_now path t first false n hit end old now = (
    λ e. elim (or_cases _ _ e) [ inl x ↦ let r = old.0 x in let le = r.1.0 in (r.0, (omega arith, r.1.1)) | inr x ↦ (n, (omega arith, now.0 x)) ],
    λ (j, (le, h)). elim (cases_lt j n) [
      | inl below ↦ or_left _ _ (old.1 (j, (omega arith, h)))
      | inr above ↦ let k : j ≡ n = omega arith in or_right hit _ (now.1 (subst (Ends path t (MayBegin first)) k h))
    ],
  )
    where
      or_left : (x y : Bool) → x ≡ true → (x || y) ≡ true
      or_left true y h = refl
      or_left false y h = absurd (false≢true h)

      or_right : (x y : Bool) → y ≡ true → (x || y) ≡ true
      or_right true y h = refl
      or_right false y h = h

  module _ (t : Tree) (first last : Bool) (sized : Sized t) (steps : List (Step L)) (s : Step L) (begin : Bool) (marks : List Bool) (hit : Bool)
      (here : (begin ≡ true) ↔ MayBegin first (length steps)) (stands : StandsFor letters t first last marks hit steps) where
    pub stands_more : StandsFor letters t first last (marks_after (numbered letters s) true t begin marks) (hit_after last hit (ends_now (numbered letters s) t begin marks)) (steps ++ s ∷ [])
    stands_more = record {
      marked = λ path has. let r = has_more path 0 steps s has in
          let e : path (length steps) ≡ numbered letters s = ap path (sym (zero-add (length steps))) ∙ r.1 in
          let g = good_step path t (MayBegin first) (length steps) begin marks sized (stands.marked path r.0) here in
          let h : Good path t (MayBegin first) (length (steps ++ s ∷ [])) (marks_after (path (length steps)) true t begin marks) =
          subst (λ n. Good path t (MayBegin first) n (marks_after (path (length steps)) true t begin marks)) (sym (longer steps s)) g in
          subst (λ x. Good path t (MayBegin first) (length (steps ++ s ∷ [])) (marks_after x true t begin marks)) e h;
      found = λ path has. let r = has_more path 0 steps s has in
          let e : path (length steps) ≡ numbered letters s = ap path (sym (zero-add (length steps))) ∙ r.1 in
          let now = ends_is path t (MayBegin first) (length steps) begin marks (stands.marked path r.0) here in
          let now' : (ends_now (numbered letters s) t begin marks ≡ true) ↔ Ends path t (MayBegin first) (length steps) =
          subst (λ x. (ends_now x t begin marks ≡ true) ↔ Ends path t (MayBegin first) (length steps)) e now in
          let a = accepts_now path t first last (length steps) hit (ends_now (numbered letters s) t begin marks) (stands.found path r.0) now' in
          subst (λ n. (hit_after last hit (ends_now (numbered letters s) t begin marks) ≡ true) ↔ Accepts path t first last n) (sym (longer steps s)) a;
    }

    -- where the guard holds there is one more step, and elsewhere nothing changes
    pub stands_after : (guard : Bool) → length marks ≡ leaves t
        → StandsFor letters t first last (marks_after (numbered letters s) guard t begin marks)
        (if guard then hit_after last hit (ends_now (numbered letters s) t begin marks) else hit) (steps_after guard steps s)
    stands_after true e = stands_more
    stands_after false e = subst (λ ms. StandsFor letters t first last ms hit steps) (sym (marks_stay (numbered letters s) t begin marks sized e)) stands

  -- before the first state
  pub stands_at_first : (t : Tree) (first last : Bool) (marks : List Bool) → AllNo marks → StandsFor letters t first last marks false []
  stands_at_first t first last marks unset = record {
    marked = λ path has. good_at_first path t (MayBegin first) marks unset;
    found = λ path has. (λ e. absurd (false≢true e), λ (j, (e, h)). none last j e);
  }
    where
      none : (last : Bool) (j : ℕ) {A : Type 0} → MayEnd last 0 j → A
      none true j e = absurd (omega arith)
      none false j e = absurd (omega arith)

pub may_begin_first : (first : Bool) → (true ≡ true) ↔ MayBegin first 0
may_begin_first true = (λ e. refl, λ e. refl)
may_begin_first false = (λ e. tt, λ e. refl)

pub may_begin_later : (first : Bool) (n : ℕ) → 0 < n → (not first ≡ true) ↔ MayBegin first n
may_begin_later true n lt = (λ e. absurd (false≢true e), λ e. absurd (omega arith))
may_begin_later false n lt = (λ e. tt, λ e. refl)
