-- What the proofs of passes share.
use Rattle.automata.specs.Guards.{IsGuard}
use Rattle.automata.specs.declared.guard.Guard.{Guard}
use Rattle.std.proofs.Common.{not, Bool, sym, ◌∙◌, ap}
use Rattle.circuit.specs.Truth.{World, Extends}
pub use Rattle.circuit.specs.Truth.{room_less}
pub use Rattle.circuit.specs.Bits.{bits_stay, at_same}
use Rattle.automata.specs.declared.node.Node.{the_lemmas}

module _ {T B : Type 0} {is_bit : T → B → Type 0} {holds : T → B → World → Bool} where
  -- an older guard is a guard still
  pub guard_stays : {old new : T} (guard : Guard B) → Extends is_bit holds old new → IsGuard is_bit holds old guard → IsGuard is_bit holds new guard
  guard_stays guard e h = record {
    taken = e.bit guard.taken h.taken;
    skipped = e.bit guard.skipped h.skipped;
    opposite = λ w. e.same guard.skipped h.skipped w ∙ h.opposite w ∙ ap not (sym (e.same guard.taken h.taken w));
  }

pub ruleset pass_laws = (room_less, guard_stays)

pub ruleset walk_laws = (the_lemmas, room_less, guard_stays)

pub ruleset up_laws = (the_lemmas, room_less)
