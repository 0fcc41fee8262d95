-- One pass over a part of an automaton, over any truth.
use Rattle.std.specs.Prelude.{◌≡◌, ℕ, ◌&&◌, Bool, List, All}
use Rattle.patterns.specs.Match.{Step}
use Rattle.circuit.specs.Truth.{World}
use Rattle.circuit.specs.Bits.{at}
use Rattle.automata.specs.Tree.{Tree, AllNo, alone, marks_after, marks_with}
use Rattle.automata.specs.Reach.{ends_now}

-- no leaf may begin, in any world
abbrev pub Silent : {T B : Type 0} → (T → B → World → Bool) → T → List B → Type 0
Silent holds t ms = (w : World) → AllNo (at holds t ms w)

-- the step was taken over the part where the guard holds: the end is where a match ends at the newest state
pub record Passed {T B : Type 0} (is_bit : T → B → Type 0) (holds : T → B → World → Bool) (old new : T) (s : World → Step ℕ) (tree : Tree)
    (guard begin : B) (before : List B) (end : B) (after : List B) : Type 0 where
  pub mark_bits : All (is_bit new) after
  pub end_bit : is_bit new end
  pub end_is : (w : World) → holds new end w ≡ ends_now (s w) tree (holds old begin w) (at holds old before w)
  pub marks_are : (w : World) → at holds new after w ≡ marks_after (s w) (holds old guard w) tree (holds old begin w) (at holds old before w)

-- the part may begin besides where the second bit holds: the end is where it matches the newest state alone then
pub record Entered {T B : Type 0} (is_bit : T → B → Type 0) (holds : T → B → World → Bool) (old new : T) (s : World → Step ℕ) (tree : Tree)
    (guard begin : B) (before : List B) (end : B) (after : List B) : Type 0 where
  pub mark_bits : All (is_bit new) after
  pub end_bit : is_bit new end
  pub end_is : (w : World) → holds new end w ≡ (holds old begin w && alone (s w) tree)
  pub marks_are : (w : World) → at holds new after w ≡ marks_with (s w) (holds old guard w) tree (holds old begin w) (at holds old before w)
