-- A reach after more gates.
use Rattle.std.proofs.Common.{◌≡◌, true, false, Bool, List, All, refl, sym, subst}
use Rattle.patterns.specs.Match.{Step}
use Rattle.patterns.specs.declared.letter.Letter.{Letter}
use Rattle.circuit.specs.Truth.{World, Extends}
use Rattle.automata.specs.Tree.{AllNo}
use Rattle.automata.specs.Values.{at}
use Rattle.automata.specs.Views.{view}
use Rattle.automata.specs.Passing.{Silent}
use Rattle.automata.specs.Reach.{StandsFor}
use Rattle.automata.specs.Standing.{Ready, IsReach, IsSpent, Stands}
use Rattle.automata.specs.declared.nfa.Nfa.{Nfa}
use Rattle.automata.specs.declared.reach_bits.ReachBits.{ReachBits}
use Rattle.circuit.specs.Bits.{at_same, bits_stay}

-- where no leaf may begin none may begin later
pub silent_still : {T B : Type 0} {is_bit : T → B → Type 0} {holds : T → B → World → Bool} {old new : T} → Extends is_bit holds old new → (ms : List B) → All (is_bit old) ms → Silent holds old ms → Silent holds new ms
silent_still e ms bits quiet w = subst AllNo (sym (at_same ms w e bits)) (quiet w)

module _ {T B : Type 0} {is_bit : T → B → Type 0} {holds : T → B → World → Bool} {old new : T} (e : Extends is_bit holds old new) (nfa : Nfa Letter) (reach : ReachBits B) where
  still_ready : Ready is_bit holds old nfa reach → Ready is_bit holds new nfa reach
  still_ready ready = record {
    marks_fit = ready.marks_fit;
    mark_bits = bits_stay reach.marks.items e ready.mark_bits;
    idle = λ known. silent_still e reach.marks.items ready.mark_bits (ready.idle known);
    hit_bit = e.bit reach.hit ready.hit_bit;
  }

  pub still_reach : {may_lack_memory : Bool} → IsReach is_bit holds may_lack_memory old nfa reach → IsReach is_bit holds may_lack_memory new nfa reach
  still_reach h = record {
    ready = λ unspent. still_ready (h.ready unspent);
    why_spent = h.why_spent;
  }

  stands_if_ready : (path : World → List (Step Letter)) → Ready is_bit holds old nfa reach → Stands holds old nfa reach path → Stands holds new nfa reach path
  stands_if_ready path ready h = record {
    begun = h.begun;
    says = λ w.
        subst (λ ms. StandsFor nfa.letters (view nfa.node) nfa.first nfa.last ms (holds new reach.hit w) (path w)) (sym (at_same reach.marks.items w e ready.mark_bits))
        (subst (λ b. StandsFor nfa.letters (view nfa.node) nfa.first nfa.last (at holds old reach.marks.items w) b (path w)) (sym (e.same reach.hit ready.hit_bit w)) (h.says w));
  }

  unspent : (b : Bool) → (b ≡ true → ⊥) → b ≡ false
  unspent true h = absurd (h refl)
  unspent false h = refl

  pub still_stands : {may_lack_memory : Bool} (path : World → List (Step Letter)) → IsReach is_bit holds may_lack_memory old nfa reach → (IsSpent reach → ⊥) → Stands holds old nfa reach path → Stands holds new nfa reach path
  still_stands path h open_ stands = stands_if_ready path (h.ready (unspent reach.spent open_)) stands
