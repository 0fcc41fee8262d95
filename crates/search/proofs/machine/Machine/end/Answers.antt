use Rattle.std.proofs.Common.{◌≡◌, [], refl}
use Rattle.cnf.specs.Checks.{IsRight}
use Rattle.search.specs.Machine.{EndsAsModel, clauses_of}
use Rattle.search.specs.Nexts.{IsNext, state_of}
use Rattle.search.specs.Steps.{moves_of}
use Rattle.search.proofs.TurnLaws.{model_ends, refuted_ends, spent_ends}
use Rattle.search.proofs.machine.Machine.end.Goals as goal

pub returns-in_ok-values-in-Model : goal.returns-in_ok-values-in-Model
returns-in_ok-values-in-Model c =
    let is : EndsAsModel c.args.formula.now (state_of c.args.self.trail.items c.args.self.learned) = rw (c.in-Model.is, c.deref.ensures.value) at c.in_ok-next.ensures in
    let values = rw c.deref-in-Model.ensures.value at c.in_ok-values-in-Model.ensures.values in
    rw c.from_vec.ensures (c.in_ok-values-in-Model.ensures.length, model_ends c.args.formula.now c.args.self c.in_ok-values-in-Model.values.items c.requires.at.held is values)

pub returns-in_ok-refutation-in-Refuted : goal.returns-in_ok-refutation-in-Refuted
returns-in_ok-refutation-in-Refuted c =
    let is : IsRight (clauses_of c.args.formula.now (state_of c.args.self.trail.items c.args.self.learned)) c.in-Refuted.line × (c.in-Refuted.line.clause ≡ []) =
    rw c.in-Refuted.is at c.in_ok-next.ensures in
    refuted_ends c.args.formula.now c.args.self c.in-Refuted.line c.in_ok-refutation-in-Refuted.field-0 c.requires.at is.0 is.1 c.in_ok-refutation-in-Refuted.ensures

pub returns-in_default : goal.returns-in_default
returns-in_default c =
    let is : IsNext c.args.formula.now (state_of c.args.self.trail.items c.args.self.learned) c.in_ok-next.next = rw c.deref.ensures.value at c.in_ok-next.ensures in
    let m = c.args.self in
    (c.requires.at.jumps, spent_ends c.args.formula.now m c.in_ok-next.next (moves_of m.moves.items m.learned.lines) c.requires.at is c.in_default.not-Model c.in_default.not-Refuted refl)
