use Rattle.std.proofs.Common.{sym, ap, subst, map, List, IfOk, ◌∷◌, [], ◌∙◌}
use Rattle.automata.specs.Standing.{Stands, gates_of}
use Rattle.circuit.specs.Sharing.{inverse}
use Rattle.circuit.specs.Truth.{World}
use Rattle.circuit.specs.Wires.{lit_holds}
use Rattle.circuit.specs.declared.lit.Gate.{Gate}
use Rattle.circuit.specs.declared.lit.Lit.{Lit}
use Rattle.patterns.specs.Match.{Step}
use Rattle.patterns.specs.declared.letter.Letter.{Letter}
use Rattle.goal_formula.specs.Steps.{HasWires}
use Rattle.goal_formula.proofs.StepLaws.{both_wires, grows_from, read_entry}
use Rattle.goal_formula.proofs.matching.begun.Goals as goal

pub begin-requires-clause-fits : goal.begin-requires-clause-fits
begin-requires-clause-fits c =
    let made = c.in_ok-absent.ensures in
    both_wires c.negations.new.circuit c.args.entry.now c.as_slice.result.now c.as_slice-2.result.now
    (subst (λ gates. HasWires gates c.args.entry.now) (sym made.same) c.requires.entry)
    c.as_slice.ensures
    (c.as_slice-2.ensures.value ∙ made.literals ∙ ap (map inverse) c.deref.ensures)

pub returns-clause-grows : goal.returns-clause-grows
returns-clause-grows c = grows_from c.args.circuit.now c.negations.new.circuit c.begin.new.truth (gates_of c.args.nfa.now) c.in_ok-absent.ensures.same c.begin.ensures.grown c.begin.ensures.older c.begin.ensures.used

pub returns-clause-stands : goal.returns-clause-stands
returns-clause-stands c =
    let made = c.in_ok-absent.ensures in
    subst (λ (path : World → List (Step Letter)). IfOk c.begin.result (λ reach. Stands {T = List Gate} {B = Lit} lit_holds c.begin.new.truth c.args.nfa.now reach path))
    (λ i w. read_entry c.args.circuit.now c.negations.new.circuit w c.args.entry.now c.as_slice.result.now c.as_slice-2.result.now made.same c.as_slice.ensures (c.as_slice-2.ensures.value ∙ made.literals ∙ ap (map inverse) c.deref.ensures) i ∷ [])
    c.begin.ensures.stands
