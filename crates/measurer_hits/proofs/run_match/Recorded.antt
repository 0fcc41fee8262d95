-- The steps of a recorded path, as a list.
use Rattle.std.proofs.Common.{◌≡◌, ℕ, zero, suc, ◌+◌, ◌≤◌, ◌<◌, ◌↔◌, inl, inr, Bool, true, false, List, [], ◌∷◌, ◌++◌, length, refl, sym, ◌∙◌, ap, subst, arith, length-append, append-nil, append_assoc}
use Rattle.std.proofs.lemmas.Bool.{cases_lt}
use Rattle.patterns.specs.Match.{Step, Form}
use Rattle.patterns.specs.Paths.{step_of}
use Rattle.patterns.specs.declared.letter.Letter.{Letter}
use Rattle.patterns.specs.declared.path_view.PathView.{PathView}
use Rattle.automata.specs.Reach.{MayBegin, MayEnd}
use Rattle.automata.specs.Standing.{step_at, HasMatch}
use Rattle.patterns.specs.Segments.{HasSegment}
use Rattle.measurer_hits.proofs.run_match.Matches.{forward, same_so_far}

-- the steps of the first states
abbrev pub steps_to : {L : Type 0} → (ℕ → Step L) → ℕ → List (Step L)
steps_to path zero = []
steps_to path (suc n) = steps_to path n ++ path n ∷ []

pub length-steps_to : {L : Type 0} (path : ℕ → Step L) (n : ℕ) → length (steps_to path n) ≡ n
length-steps_to path zero = refl
length-steps_to path (suc n) = let r = length-steps_to path n in omega (arith, length-append (steps_to path n) (path n ∷ []))

at_append : {L : Type 0} (xs : List (Step L)) (s : Step L) (k : ℕ) → k < length xs → step_at (xs ++ s ∷ []) k ≡ step_at xs k
at_append [] s k lt = absurd (omega arith)
at_append (x ∷ xs) s zero lt = refl
at_append (x ∷ xs) s (suc k) lt = at_append xs s k (omega arith)

at_end : {L : Type 0} (xs : List (Step L)) (s : Step L) (k : ℕ) → k ≡ length xs → step_at (xs ++ s ∷ []) k ≡ s
at_end [] s zero e = refl
at_end [] s (suc k) e = absurd (omega arith)
at_end (x ∷ xs) s zero e = absurd (omega arith)
at_end (x ∷ xs) s (suc k) e = at_end xs s k (omega arith)

pub at-steps_to : {L : Type 0} (path : ℕ → Step L) (n k : ℕ) → k < n → step_at (steps_to path n) k ≡ path k
at-steps_to path zero k lt = absurd (omega arith)
at-steps_to path (suc n) k lt =
    let size = length-steps_to path n in
    elim (cases_lt k n) [
      | inl below ↦ at_append (steps_to path n) (path n) k (omega arith) ∙ at-steps_to path n k below
      | inr above ↦ let e : k ≡ n = omega arith in at_end (steps_to path n) (path n) k (omega arith) ∙ ap path (sym e)
    ]

module _ (pattern : Form Letter) (path : PathView) where
  steps : List (Step Letter)
  steps = steps_to (step_of path) (suc (length path.edges))

  may_begin : (first : Bool) (i : ℕ) → MayBegin first i ↔ (first ≡ true → i ≡ 0)
  may_begin true i = (λ h e. h, λ h. h refl)
  may_begin false i = (λ h e. absurd (cc), λ h. tt)

  may_end : (last : Bool) (j : ℕ) → MayEnd last (suc (length path.edges)) j ↔ ((j ≤ length path.edges) × (last ≡ true → j ≡ length path.edges))
  may_end true j = (λ h. (omega arith, λ e. omega arith), λ h. let k = h.1 refl in omega arith)
  may_end false j = (λ h. (omega arith, λ e. absurd (cc)), λ h. let k = h.0 in omega arith)

  -- among all steps of the path some segment matches exactly where the path has one
  pub segments : (first last : Bool) → HasMatch pattern first last (steps_to (step_of path) (suc (length path.edges))) ↔ HasSegment first last pattern path
  segments first last = (
    λ (j, (end, (i, (begin, h)))).
        let size = length-steps_to (step_of path) (suc (length path.edges)) in
        let end' : MayEnd last (suc (length path.edges)) j = subst (λ n. MayEnd last n j) size end in
        let e = (may_end last j).0 end' in
        let within : j ≤ length path.edges = e.0 in
        record {
          from = i;
          to = j;
          forward = forward (step_at (steps_to (step_of path) (suc (length path.edges)))) pattern i j h;
          within = within;
          at_first = (may_begin first i).0 begin;
          at_last = e.1;
          matches = same_so_far _ (step_of path) j (λ k le. at-steps_to (step_of path) (suc (length path.edges)) k (omega arith)) pattern i j (omega arith) h;
        },
    λ s.
        let size = length-steps_to (step_of path) (suc (length path.edges)) in
        let within = s.within in
        let end : MayEnd last (suc (length path.edges)) s.to = (may_end last s.to).1 (within, s.at_last) in
        let end' : MayEnd last (length (steps_to (step_of path) (suc (length path.edges)))) s.to = subst (λ n. MayEnd last n s.to) (sym size) end in
        (s.to, (end', (s.from, ((may_begin first s.from).1 s.at_first, same_so_far (step_of path) _ s.to (λ k le. sym (at-steps_to (step_of path) (suc (length path.edges)) k (omega arith))) pattern s.from s.to (omega arith) s.matches)))),
  )

-- the steps of more states go on from those of fewer
pub steps_go_on : {L : Type 0} (path : ℕ → Step L) (m k n : ℕ) → n ≡ m + k → (more : List (Step L)) × (steps_to path n ≡ steps_to path m ++ more)
steps_go_on path m zero n e = let f : n ≡ m = omega arith in ([], ap (steps_to path) f ∙ sym (append-nil (steps_to path m)))
steps_go_on path m (suc k) n e =
    let f : n ≡ suc (m + k) = omega arith in
    let r = steps_go_on path m k (m + k) refl in
    (r.0 ++ path (m + k) ∷ [], ap (steps_to path) f ∙ ap (λ xs. xs ++ path (m + k) ∷ []) r.1 ∙ append_assoc (steps_to path m) r.0 (path (m + k) ∷ []))
