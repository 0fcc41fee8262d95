-- An automaton that is taken along a recorded path.
use Rattle.std.proofs.Common.{◌≡◌, ℕ, suc, ◌+◌, ◌-◌, ◌≤◌, ◌↔◌, Bool, true, List, [], ◌∷◌, ◌++◌, length, Result, Ok, Err, IfOk, sym, ap, subst, arith}
use Rattle.std.specs.Prelude.{slice_index}
use Rattle.circuit.specs.Truth.{World}
use Rattle.circuit.specs.declared.plain.Plain.{Plain}
use Rattle.patterns.specs.Match.{Step, Form}
use Rattle.patterns.specs.Paths.{step_of, edge_in, state_in}
use Rattle.patterns.specs.declared.letter.Letter.{Letter}
use Rattle.patterns.specs.declared.path_view.PathView.{PathView}
use Rattle.automata.specs.Standing.{Stands, HasMatch}
use Rattle.automata.specs.declared.nfa.Nfa.{Nfa}
use Rattle.automata.specs.declared.reach_bits.ReachBits.{ReachBits}
use Rattle.patterns.specs.Segments.{HasSegment}
use Rattle.measurer_hits.specs.declared.run_match.recorded_step.RecordedStep.{RecordedStep}
use Rattle.measurer_hits.proofs.run_match.Recorded.{steps_to, segments, steps_go_on}

-- what a recorded step tells
abbrev pub told_by : RecordedStep → Step Letter
told_by s = record { edge = λ l. edge_in s.edge l; state = λ l. state_in s.node s.mask l }

-- what is recorded at a state of a path
abbrev pub recorded_at : PathView → ℕ → RecordedStep
recorded_at path at = record { edge = slice_index path.edges (at - 1); node = slice_index path.nodes at; mask = slice_index path.masks at }

-- in each world the reach stands for these steps
abbrev pub StandsFor : Plain → Nfa Letter → ReachBits Bool → List (Step Letter) → Type 0
StandsFor truth nfa reach steps = Stands {T = Plain} {B = Bool} (λ t b w. b) truth nfa reach (λ w. steps)

module _ (truth : Plain) (nfa : Nfa Letter) (reach : ReachBits Bool) (path : PathView) (s : RecordedStep) where
  pub first_stands : s ≡ recorded_at path 0 → StandsFor truth nfa reach (told_by s ∷ []) → StandsFor truth nfa reach (steps_to (step_of path) 1)
  first_stands e h = subst (λ x. StandsFor truth nfa reach (x ∷ [])) (ap told_by e) h

  pub more_stands : (at : ℕ) → s ≡ recorded_at path at → StandsFor truth nfa reach (steps_to (step_of path) at ++ told_by s ∷ []) → StandsFor truth nfa reach (steps_to (step_of path) (at + 1))
  more_stands at e h =
      let f : suc at ≡ at + 1 = omega arith in
      subst (λ n. StandsFor truth nfa reach (steps_to (step_of path) n)) f (subst (λ x. StandsFor truth nfa reach (steps_to (step_of path) at ++ x ∷ [])) (ap told_by e) h)

module _ (pattern : Form Letter) (first last : Bool) (path : PathView) where
  -- what every longer list of steps has, the path has
  pub settled : (at : ℕ) → at ≤ length path.edges → ((more : List (Step Letter)) → HasMatch pattern first last (steps_to (step_of path) at ++ more)) → HasSegment first last pattern path
  settled at le h =
      let r = steps_go_on (step_of path) at (suc (length path.edges) - at) (suc (length path.edges)) (omega arith) in
      (segments pattern path first last).0 (subst (HasMatch pattern first last) (sym r.1) (h r.0))

  pub all_taken : {E : Type 0} (r : Result Bool E) (n : ℕ) → n ≡ length path.edges + 1 → IfOk r (λ b. World → (b ≡ true) ↔ HasMatch pattern first last (steps_to (step_of path) n)) → IfOk r (λ b. (b ≡ true) ↔ HasSegment first last pattern path)
  all_taken (Ok b) n e h =
      let f : n ≡ suc (length path.edges) = omega arith in
      let m : (b ≡ true) ↔ HasMatch pattern first last (steps_to (step_of path) (suc (length path.edges))) = subst (λ k. (b ≡ true) ↔ HasMatch pattern first last (steps_to (step_of path) k)) f (h []) in
      let s = segments pattern path first last in
      (λ x. s.0 (m.0 x), λ x. m.1 (s.1 x))
  all_taken (Err e) n k h = tt
