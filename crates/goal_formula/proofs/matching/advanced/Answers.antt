use Rattle.std.proofs.Common.{sym, ap, subst, map, List, OnOk, ◌∙◌}
use Rattle.automata.specs.Reach.{steps_after}
use Rattle.automata.specs.Standing.{Stands, gates_of}
use Rattle.circuit.specs.Sharing.{inverse}
use Rattle.circuit.specs.Truth.{World}
use Rattle.circuit.specs.Wires.{lit_holds}
use Rattle.circuit.specs.declared.lit.Gate.{Gate}
use Rattle.circuit.specs.declared.lit.Lit.{Lit}
use Rattle.patterns.specs.Match.{Step}
use Rattle.patterns.specs.declared.letter.Letter.{Letter}
use Rattle.goal_formula.specs.Steps.{HasWires}
use Rattle.goal_formula.proofs.StepLaws.{both_wires, grows_from, read_entry}
use Rattle.goal_formula.proofs.matching.advanced.Goals as goal

pub advance-requires-clause-fits : goal.advance-requires-clause-fits
advance-requires-clause-fits c =
    let made = c.in_ok-absent.ensures in
    both_wires c.negations.new.circuit c.args.entry.now c.as_slice.result.now c.as_slice-2.result.now
    (subst (λ gates. HasWires gates c.args.entry.now) (sym made.same) c.requires.entry)
    c.as_slice.ensures
    (c.as_slice-2.ensures.value ∙ made.literals ∙ ap (map inverse) c.deref.ensures)

pub returns-clause-grows : goal.returns-clause-grows
returns-clause-grows c = grows_from c.args.circuit.now c.negations.new.circuit c.advance.new.truth (gates_of c.args.nfa.now) c.in_ok-absent.ensures.same c.advance.ensures.grown c.advance.ensures.older c.advance.ensures.used

pub returns-clause-stands : goal.returns-clause-stands
returns-clause-stands c = λ path before.
    let made = c.in_ok-absent.ensures in
    subst (λ (next : World → List (Step Letter)). OnOk c.advance.result (Stands {T = List Gate} {B = Lit} lit_holds c.advance.new.truth c.args.nfa.now c.advance.new.reach next))
    (λ i w. steps_after (lit_holds (made.same i) c.args.entry.now.guard w) (path w) (read_entry c.args.circuit.now c.negations.new.circuit w c.args.entry.now c.as_slice.result.now c.as_slice-2.result.now made.same c.as_slice.ensures (c.as_slice-2.ensures.value ∙ made.literals ∙ ap (map inverse) c.deref.ensures) i))
    (c.advance.ensures.stands path (subst (λ gates. Stands {T = List Gate} {B = Lit} lit_holds gates c.args.nfa.now c.args.reach.now path) (sym made.same) before))
