-- One step of an automaton: what the new bits say, in terms of the truth before.
use Rattle.std.proofs.Common.{◌≡◌, ℕ, Bool, if◌then◌else◌, List, ◌∙◌}
use Rattle.patterns.specs.Match.{Step}
use Rattle.circuit.specs.Truth.{World, Extends}
use Rattle.circuit.specs.Bits.{at, at_same}
use Rattle.automata.specs.Tree.{Tree, marks_after}
use Rattle.automata.specs.Reach.{ends_now, hit_after}
use Rattle.automata.specs.Passing.{Passed}

module _ {T B : Type 0} {is_bit : T → B → Type 0} {holds : T → B → World → Bool} {t0 t1 t2 : T} (e1 : Extends is_bit holds t0 t1) (e2 : Extends is_bit holds t1 t2)
    (s : World → Step ℕ) (tree : Tree) (taken begin end : B) (ms ns : List B) (p : Passed is_bit holds t0 t1 s tree taken begin ms end ns) where
  pub marks_stand : (w : World) → at holds t2 ns w ≡ marks_after (s w) (holds t0 taken w) tree (holds t0 begin w) (at holds t0 ms w)
  marks_stand w = at_same ns w e2 p.mark_bits ∙ p.marks_are w

  pub hit_stands : (last : Bool) (hit new : B) → is_bit t0 taken → is_bit t0 hit
      → ((w : World) → holds t2 new w ≡ (if holds t1 taken w then hit_after last (holds t1 hit w) (holds t1 end w) else holds t1 hit w))
      → (w : World) → holds t2 new w ≡ (if holds t0 taken w then hit_after last (holds t0 hit w) (ends_now (s w) tree (holds t0 begin w) (at holds t0 ms w)) else holds t0 hit w)
  hit_stands last hit new tb hb nv w = nv w ∙ (λ i. if e1.same taken tb w i then hit_after last (e1.same hit hb w i) (p.end_is w i) else e1.same hit hb w i)
