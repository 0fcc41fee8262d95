use Rattle.std.proofs.Common.{List, inl, inr, refl, subst}
use Rattle.std.proofs.lemmas.Result.{err_from_is_err_and}
use Rattle.command_words.specs.Request.{running}
use Rattle.c_meaning.specs.declared.input.Input.{Input}
use Rattle.command.specs.Entries.{seen}
use Rattle.command.specs.Replies.{Tells}
use Rattle.command.specs.RunList.{IsRecorded}
use Rattle.command.specs.Due.{IsDueOfRuns}
use Rattle.command.specs.Stages.{OfSources}
use Rattle.command.proofs.AtEntry.{RunsThen}
use Rattle.command.proofs.CallLaws.{at_entry, no_entry, not_given, refused_at, refused_at_entry}
use Rattle.command.proofs.DueLaws.{at_graph, inputs_since, refused_since}
use Rattle.command.proofs.GivesLaws.{tells_map, tells_refused}
use Rattle.command.proofs.ReadsLaws.{refused_map}
use Rattle.command.proofs.runs.runs.Goals as goal

pub returns-in_err-automaton : goal.returns-in_err-automaton
returns-in_err-automaton g c =
    let m = running c.args.request.now in
    let p = err_from_is_err_and c.from_residual.result c.from_residual.ensures.1 in
    rw (p.1, p.2) (tells_refused (OfSources _ m.sources (IsDueOfRuns _ m)) m.sources c.in_err-automaton.field-0.0
    (not_given _ m.sources (IsDueOfRuns _ m) c.in_err-automaton.field-0.0 (rw c.deref.ensures.value at c.in_err-automaton.ensures.answer)))

pub returns-in_err-entry : goal.returns-in_err-entry
returns-in_err-entry g c =
    let m = running c.args.request.now in
    let have = rw c.deref.ensures.value at c.in_ok-automaton.ensures.answer in
    let p = err_from_is_err_and c.from_residual-in_err-entry.result c.from_residual-in_err-entry.ensures.1 in
    rw (p.1, p.2) (tells_refused (OfSources _ m.sources (IsDueOfRuns _ m)) m.sources c.in_err-entry.field-0.0
    (refused_at _ m.sources (IsDueOfRuns _ m) c.in_ok-automaton.automaton.graph have c.in_err-entry.field-0.0
    (no_entry c.in_ok-automaton.automaton.graph m.entry (RunsThen _ m c.in_ok-automaton.automaton.graph) m.sources c.in_err-entry.field-0.0 c.in_err-entry.ensures)))

pub returns-in_err-inputs : goal.returns-in_err-inputs
returns-in_err-inputs g c =
    let m = running c.args.request.now in
    let have = rw c.deref.ensures.value at c.in_ok-automaton.ensures.answer in
    let cause = c.in_err-inputs.ensures.answer in
    let p = err_from_is_err_and c.from_residual-in_err-inputs.result c.from_residual-in_err-inputs.ensures.1 in
    rw (p.1, p.2) (tells_refused (OfSources _ m.sources (IsDueOfRuns _ m)) m.sources c.in_err-inputs.field-0.0
    (refused_at _ m.sources (IsDueOfRuns _ m) c.in_ok-automaton.automaton.graph have c.in_err-inputs.field-0.0
    (refused_at_entry c.in_ok-automaton.automaton.graph m.entry (RunsThen _ m) c.in_ok-entry.entry c.in_ok-entry.ensures m.sources c.in_err-inputs.field-0.0
    (refused_map c.in_err-inputs.field-0.0 cause (λ x why. inl (x, refused_since _ _ _ _ _ _ _ _ _ c.in_ok-automaton.ensures.same_files c.in_ok-automaton.ensures.no_fault c.in_ok-automaton.ensures.received _ _ x why, refl))))))

pub invariant_of-starts : goal.invariant_of-starts
invariant_of-starts g c = record { can_start = rw c.deref-2.ensures.value c.in_ok-inputs.ensures.start }

pub returns : goal.returns
returns g c =
    let m = running c.args.request.now in
    let have = rw c.deref.ensures.value at c.in_ok-automaton.ensures.answer in
    let given = inputs_since _ _ _ _ _ _ _ _ _ c.in_ok-automaton.ensures.same_files c.in_ok-automaton.ensures.no_fault c.in_ok-automaton.ensures.received _ _ _ c.in_ok-inputs.ensures.answer in
    let e = c.in_ok-entry.entry in
    let done : Tells (IsRecorded e.graph.now (seen e) m.steps c.in_ok-inputs.inputs.items) m.sources c.list.result =
    subst (λ (given : List Input). Tells (IsRecorded e.graph.now (seen e) m.steps given) m.sources c.list.result) c.deref-2.ensures.value (c.list.ensures m.sources) in
    tells_map (IsRecorded e.graph.now (seen e) m.steps c.in_ok-inputs.inputs.items) (OfSources _ m.sources (IsDueOfRuns _ m)) m.sources c.list.result
    (λ said due. at_graph _ m.sources (IsDueOfRuns _ m) c.in_ok-automaton.automaton.graph said have
    (at_entry c.in_ok-automaton.automaton.graph m.entry (RunsThen _ m) e c.in_ok-entry.ensures said (inr (c.in_ok-inputs.inputs.items, given, due)))) done
