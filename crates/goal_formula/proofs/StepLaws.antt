-- What entries tell, and after more gates.
use Rattle.std.proofs.Common.{◌≡◌, ℕ, ◌+◌, ◌≤◌, not, List, length, map, refl, sym, ap, subst, ◌∙◌}
use Rattle.std.specs.Prelude.{All}
use Rattle.std.proofs.lemmas.List.Elements.{All-map}
use Rattle.circuit.proofs.Gates.{lit_not}
use Rattle.bit_words.specs.Words.{Grows}
use Rattle.circuit.specs.Bits.{bits_stay}
use Rattle.circuit.specs.Growth.{GrowsTo, same_inputs}
use Rattle.circuit.specs.Sharing.{inverse}
use Rattle.circuit.specs.Truth.{World, Extends}
use Rattle.circuit.specs.Wires.{IsWire, held, lit_holds}
use Rattle.circuit.specs.declared.lit.Gate.{Gate}
use Rattle.circuit.specs.declared.lit.Lit.{Lit}
use Rattle.patterns.specs.Match.{Step}
use Rattle.patterns.specs.declared.letter.Letter.{Letter}
use Rattle.unwinder.specs.declared.unwound.Entry.{Entry}
use Rattle.goal_formula.specs.Steps.{AreWires, HasWires, tells_edge, entry_step, tells_state, told_still}

pub inverse_holds : (gates : List Gate) (l : Lit) (w : World) → lit_holds gates (inverse l) w ≡ not (lit_holds gates l w)
inverse_holds gates l w = lit_not (held gates w) l (not l.negated) refl

inverses : (gates : List Gate) (ls : List Lit) → All (IsWire gates) ls → All (IsWire gates) (map inverse ls)
inverses gates ls h = All-map (IsWire gates) inverse ls h

-- the literals of an entry's predicates, and what negates them
pub both_wires : (gates : List Gate) (e : Entry) (held absent : List Lit) → HasWires gates e → held ≡ e.predicates → absent ≡ map inverse e.predicates → AreWires gates held absent
both_wires gates e held absent h p q = record {
  truths = subst (All (IsWire gates)) (sym p) h.truths;
  falsehoods = subst (All (IsWire gates)) (sym q) (inverses gates e.predicates h.truths);
}

-- an entry tells the same after more gates
pub step_still : (old new : List Gate) (w : World) (e : Entry) → Extends IsWire lit_holds old new → HasWires old e → entry_step new w e ≡ entry_step old w e
step_still old new w e more h =
    let wires : AreWires old e.predicates (map inverse e.predicates) = record { truths = h.truths; falsehoods = inverses old e.predicates h.truths } in
    λ i. record { edge = λ l. tells_edge e.edge l; state = λ l. told_still old new e.node e.predicates (map inverse e.predicates) w l more wires i }

pub wires_still : (old new : List Gate) (e : Entry) → Extends IsWire lit_holds old new → HasWires old e → HasWires new e
wires_still old new e more h = record {
  guard = more.bit e.guard h.guard;
  ended = more.bit e.ended h.ended;
  truths = bits_stay e.predicates more h.truths;
}

-- what is told by literals that are read from an entry
pub told_entry : (gates : List Gate) (w : World) (e : Entry) (held absent : List Lit) → held ≡ e.predicates → absent ≡ map inverse e.predicates
    → let read : Step Letter = record { edge = λ l. tells_edge e.edge l; state = λ l. tells_state gates e.node held absent w l } in read ≡ entry_step gates w e
told_entry gates w e held absent p q = λ i. record { edge = λ l. tells_edge e.edge l; state = λ l. tells_state gates e.node (p i) (q i) w l }

-- and by literals over a circuit that is the same
pub read_entry : (old mid : List Gate) (w : World) (e : Entry) (held absent : List Lit) → mid ≡ old → held ≡ e.predicates → absent ≡ map inverse e.predicates
    → let read : Step Letter = record { edge = λ l. tells_edge e.edge l; state = λ l. tells_state mid e.node held absent w l } in read ≡ entry_step old w e
read_entry old mid w e held absent same p q = told_entry mid w e held absent p q ∙ ap (λ gates. entry_step gates w e) same

-- a circuit that is the same grows so
pub grows_from : (old mid new : List Gate) (most : ℕ) → mid ≡ old → GrowsTo mid new → Extends IsWire lit_holds mid new → length new ≤ length mid + most → Grows old new most
grows_from old mid new most same grown older used = subst (λ gates. Grows gates new most) same (record { grown = grown; older = older; used = used; inputs = same_inputs grown })
