use Rattle.std.proofs.Common.{length, sym, subst}
use Rattle.cnf.specs.Checks.{clauses_before}
use Rattle.search_lemmas.specs.Holding.{IsKnown}
use Rattle.search_lemmas.specs.Known.{AreKnown}
use Rattle.search_lemmas.proofs.Names.{some_is}
use Rattle.search_lemmas.proofs.learning.taught.Goals as goal

pub returns : goal.returns
returns c =
    let gates = c.args.held.now.circuit.now in
    let wires = c.in_ok-wires.wires.items in
    let r = c.args.refutation.now in
    let clauses = r.formula.now.clauses in
    let before = clauses_before r.formula.now r.derivation.now (length r.derivation.now.lines) in
    let base = subst (λ ws. AreKnown gates ws clauses c.in_ok-marks.marks.items) c.deref-2.ensures.value c.in_ok-marks.ensures.known in
    let lines = c.in_ok-mark_lines.ensures gates wires base in
    let shown = subst (AreKnown gates wires before) (sym c.deref-3.ensures.value) lines in
    let part = some_is (IsKnown gates wires) c.in_ok-part.field-0 c.in-Some-2.part c.in-Some-2.is (c.in_ok-part.ensures gates wires shown) in
    c.over_wires.ensures gates (subst (λ ws. IsKnown gates ws c.in-Some-2.part) (sym c.deref-4.ensures.value) part)
