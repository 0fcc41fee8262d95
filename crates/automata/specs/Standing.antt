-- What it means that a reach stands for a path in each world.
use Rattle.std.specs.Prelude.{◌≡◌, ℕ, zero, suc, ◌+◌, ◌<◌, ◌↔◌, Bool, true, false, List, [], ◌∷◌, length, All, IsNone}
use Rattle.patterns.specs.Match.{Step, Form, Match}
use Rattle.patterns.specs.declared.letter.Letter.{Letter}
use Rattle.circuit.specs.Truth.{World}
use Rattle.automata.specs.Tree.{leaves}
use Rattle.automata.specs.Tree as tree
use Rattle.automata.specs.Passing.{Silent}
use Rattle.automata.specs.Values.{at, step_gates}
use Rattle.automata.specs.Views.{view}
use Rattle.automata.specs.Reach.{numbered, MayBegin, MayEnd, StandsFor}
use Rattle.automata.specs.declared.nfa.Nfa.{Nfa}
use Rattle.automata.specs.declared.reach_bits.ReachBits.{ReachBits}

-- the most gates of one call
abbrev pub gates_of : {L : Type 0} → Nfa L → ℕ
gates_of nfa = step_gates (view nfa.node) + 1

-- the automaton is that of this pattern with these anchors
pub record IsOf (nfa : Nfa Letter) (pattern : Form Letter) (first last : Bool) : Type 0 where
  pub at_first : nfa.first ≡ first
  pub at_last : nfa.last ≡ last
  pub match : (path : ℕ → Step Letter) (i j : ℕ) → tree.Match (λ k. numbered nfa.letters (path k)) (view nfa.node) i j ↔ Match path pattern i j

-- the bits of a reach that isn't spent are bits of this truth, as many as the automaton needs. Where it names no live leaf none may begin
pub record Ready {T B : Type 0} (is_bit : T → B → Type 0) (holds : T → B → World → Bool) (t : T) (nfa : Nfa Letter) (reach : ReachBits B) : Type 0 where
  pub marks_fit : length reach.marks.items ≡ leaves (view nfa.node)
  pub mark_bits : All (is_bit t) reach.marks.items
  pub idle : IsNone reach.live → Silent holds t reach.marks.items
  pub hit_bit : is_bit t reach.hit

-- a gate found no memory in an earlier call
abbrev pub IsSpent : {B : Type 0} → ReachBits B → Type 0
IsSpent reach = reach.spent ≡ true

-- the reach was begun with this automaton and this truth. It is spent only where gates may find no memory
pub record IsReach {T B : Type 0} (is_bit : T → B → Type 0) (holds : T → B → World → Bool) (may_lack_memory : Bool) (t : T) (nfa : Nfa Letter) (reach : ReachBits B) : Type 0 where
  pub ready : reach.spent ≡ false → Ready is_bit holds t nfa reach
  pub why_spent : reach.spent ≡ true → may_lack_memory ≡ true

-- in each world the reach stands for that world's path, a list of steps
pub record Stands {T B : Type 0} (holds : T → B → World → Bool) (t : T) (nfa : Nfa Letter) (reach : ReachBits B) (path : World → List (Step Letter)) : Type 0 where
  pub begun : (w : World) → 0 < length (path w)
  pub says : (w : World) → StandsFor nfa.letters (view nfa.node) nfa.first nfa.last (at holds t reach.marks.items w) (holds t reach.hit w) (path w)

-- the step at a place of a list, or one that tells nothing past its end
abbrev pub step_at : {L : Type 0} → List (Step L) → ℕ → Step L
step_at [] k = record { edge = λ l. false; state = λ l. false }
step_at (s ∷ steps) zero = s
step_at (s ∷ steps) (suc k) = step_at steps k

-- some segment of the path that the anchors allow matches
abbrev pub HasMatch : {L : Type 0} → Form L → Bool → Bool → List (Step L) → Type 0
HasMatch pattern first last steps = (j : ℕ) × (MayEnd last (length steps) j × ((i : ℕ) × (MayBegin first i × Match (step_at steps) pattern i j)))
