use Rattle.std.proofs.Common.{inl, inr, refl}
use Rattle.std.proofs.lemmas.Result.{err_from_is_err_and}
use Rattle.command_words.specs.Request.{measuring}
use Rattle.command.specs.Due.{IsDueOfMeasure}
use Rattle.command.specs.Stages.{OfSources}
use Rattle.command.proofs.AtEntry.{MeasureThen}
use Rattle.command.proofs.CallLaws.{at_plan, not_given, not_planned, refused_at, refused_at_plan}
use Rattle.command.proofs.DueLaws.{at_graph, inputs_since, refused_since}
use Rattle.command.proofs.GivesLaws.{tells_refused}
use Rattle.command.proofs.ReadsLaws.{refused_map}
use Rattle.command.proofs.measure.measure.Goals as goal

pub returns-in_err-automaton : goal.returns-in_err-automaton
returns-in_err-automaton g c =
    let m = measuring c.args.request.now in
    let p = err_from_is_err_and c.from_residual.result c.from_residual.ensures.1 in
    rw (p.1, p.2) (tells_refused (OfSources _ m.sources (IsDueOfMeasure _ m)) m.sources c.in_err-automaton.field-0.0
    (not_given _ m.sources (IsDueOfMeasure _ m) c.in_err-automaton.field-0.0 (rw c.deref.ensures.value at c.in_err-automaton.ensures.answer)))

pub returns-in_err-planned : goal.returns-in_err-planned
returns-in_err-planned g c =
    let m = measuring c.args.request.now in
    let have = rw c.deref.ensures.value at c.in_ok-automaton.ensures.answer in
    let p = err_from_is_err_and c.from_residual-in_err-planned.result c.from_residual-in_err-planned.ensures.1 in
    rw (p.1, p.2) (tells_refused (OfSources _ m.sources (IsDueOfMeasure _ m)) m.sources c.in_err-planned.field-0.0
    (refused_at _ m.sources (IsDueOfMeasure _ m) c.in_ok-automaton.automaton.graph have c.in_err-planned.field-0.0
    (not_planned m.sources c.in_ok-automaton.automaton.graph m.entry m.query (MeasureThen _ m) c.in_err-planned.field-0.0 (rw c.as_bytes.ensures.value at c.in_err-planned.ensures))))

pub returns-in_err-inputs : goal.returns-in_err-inputs
returns-in_err-inputs g c =
    let m = measuring c.args.request.now in
    let have = rw c.deref.ensures.value at c.in_ok-automaton.ensures.answer in
    let is = rw c.as_bytes.ensures.value at c.in_ok-planned.ensures in
    let cause = c.in_err-inputs.ensures.answer in
    let p = err_from_is_err_and c.from_residual-in_err-inputs.result c.from_residual-in_err-inputs.ensures.1 in
    rw (p.1, p.2) (tells_refused (OfSources _ m.sources (IsDueOfMeasure _ m)) m.sources c.in_err-inputs.field-0.0
    (refused_at _ m.sources (IsDueOfMeasure _ m) c.in_ok-automaton.automaton.graph have c.in_err-inputs.field-0.0
    (refused_at_plan m.sources c.in_ok-automaton.automaton.graph m.entry m.query (MeasureThen _ m) c.in_ok-planned.planned is c.in_err-inputs.field-0.0
    (refused_map c.in_err-inputs.field-0.0 cause (λ x why. inl (x, refused_since _ _ _ _ _ _ _ _ _ c.in_ok-automaton.ensures.same_files c.in_ok-automaton.ensures.no_fault c.in_ok-automaton.ensures.received _ _ x why, refl))))))

pub report-requires-clause-few : goal.report-requires-clause-few
report-requires-clause-few g c = rw c.deref-2.ensures.value c.in_ok-inputs.ensures.few

pub report-requires-clause-start : goal.report-requires-clause-start
report-requires-clause-start g c = rw c.deref-2.ensures.value c.in_ok-inputs.ensures.start

pub returns : goal.returns
returns g c =
    let m = measuring c.args.request.now in
    let have = rw c.deref.ensures.value at c.in_ok-automaton.ensures.answer in
    let is = rw c.as_bytes.ensures.value at c.in_ok-planned.ensures in
    let given = inputs_since _ _ _ _ _ _ _ _ _ c.in_ok-automaton.ensures.same_files c.in_ok-automaton.ensures.no_fault c.in_ok-automaton.ensures.received _ _ _ c.in_ok-inputs.ensures.answer in
    let measured = rw c.deref-2.ensures.value at c.in_ok-text.ensures in
    at_graph _ m.sources (IsDueOfMeasure _ m) c.in_ok-automaton.automaton.graph _ have
    (at_plan m.sources c.in_ok-automaton.automaton.graph m.entry m.query (MeasureThen _ m) c.in_ok-planned.planned is _ (inr (c.in_ok-inputs.inputs.items, given, measured)))
