use Rattle.std.proofs.Common.{inl, inr, refl, subst}
use Rattle.std.proofs.lemmas.Result.{err_from_is_err_and}
use Rattle.bounds_check.specs.Leaving.{IsForLeaving}
use Rattle.bounds_check.specs.Sufficing.{IsWithinLimits}
use Rattle.unwinder_reach.specs.declared.reached.bounds.Bounds.{Bounds}
use Rattle.unwinder.specs.Unwinding.{IsUnwindFault}
use Rattle.command_words.specs.Request.{checking_bounds}
use Rattle.report.specs.Suffice.{suffice_text}
use Rattle.command.specs.CheckBounds.{IsDueOfCheckBounds}
use Rattle.command.specs.Comparison.{IsCompared}
use Rattle.command.specs.Ranges.{within}
use Rattle.command.specs.Runs.{no_predicates}
use Rattle.command.specs.Stages.{OfSources}
use Rattle.command.proofs.AtEntry.{CheckBoundsThen}
use Rattle.command.proofs.BoundsLaws.{bounds_refused, few_clauses}
use Rattle.command.proofs.CallLaws.{at_entry, no_entry, not_given, refused_at, refused_at_entry}
use Rattle.command.proofs.DueLaws.{at_graph, certificate_refused_since, certificate_since}
use Rattle.command.proofs.GivesLaws.{tells_map, tells_refused}
use Rattle.command.proofs.ReadsLaws.{refused_map}
use Rattle.command.proofs.check_bounds.check_bounds.Goals as goal

pub returns-in_err-automaton : goal.returns-in_err-automaton
returns-in_err-automaton g c =
    let m = checking_bounds c.args.request.now in
    let p = err_from_is_err_and c.from_residual.result c.from_residual.ensures.1 in
    rw (p.1, p.2) (tells_refused (OfSources _ m.sources (IsDueOfCheckBounds _ m)) m.sources c.in_err-automaton.field-0.0
    (not_given _ m.sources (IsDueOfCheckBounds _ m) c.in_err-automaton.field-0.0 (rw c.deref.ensures.value at c.in_err-automaton.ensures.answer)))

pub returns-in_err-entry : goal.returns-in_err-entry
returns-in_err-entry g c =
    let m = checking_bounds c.args.request.now in
    let have = rw c.deref.ensures.value at c.in_ok-automaton.ensures.answer in
    let p = err_from_is_err_and c.from_residual-in_err-entry.result c.from_residual-in_err-entry.ensures.1 in
    rw (p.1, p.2) (tells_refused (OfSources _ m.sources (IsDueOfCheckBounds _ m)) m.sources c.in_err-entry.field-0.0
    (refused_at _ m.sources (IsDueOfCheckBounds _ m) c.in_ok-automaton.automaton.graph have c.in_err-entry.field-0.0
    (no_entry c.in_ok-automaton.automaton.graph m.entry (CheckBoundsThen _ m c.in_ok-automaton.automaton.graph) m.sources c.in_err-entry.field-0.0 c.in_err-entry.ensures)))

pub returns-in_err-theirs : goal.returns-in_err-theirs
returns-in_err-theirs g c =
    let m = checking_bounds c.args.request.now in
    let have = rw c.deref.ensures.value at c.in_ok-automaton.ensures.answer in
    let cause = c.in_err-theirs.ensures in
    let p = err_from_is_err_and c.from_residual-in_err-theirs.result c.from_residual-in_err-theirs.ensures.1 in
    rw (p.1, p.2) (tells_refused (OfSources _ m.sources (IsDueOfCheckBounds _ m)) m.sources c.in_err-theirs.field-0.0
    (refused_at _ m.sources (IsDueOfCheckBounds _ m) c.in_ok-automaton.automaton.graph have c.in_err-theirs.field-0.0
    (refused_at_entry c.in_ok-automaton.automaton.graph m.entry (CheckBoundsThen _ m) c.in_ok-entry.entry c.in_ok-entry.ensures m.sources c.in_err-theirs.field-0.0
    (refused_map c.in_err-theirs.field-0.0 cause (λ x why. inl (x, certificate_refused_since _ _ _ _ _ _ _ _ _ c.in_ok-automaton.ensures.same_files c.in_ok-automaton.ensures.no_fault c.in_ok-automaton.ensures.received _ x why, refl))))))

pub returns-in_err-ours : goal.returns-in_err-ours
returns-in_err-ours g c =
    let m = checking_bounds c.args.request.now in
    let have = rw c.deref.ensures.value at c.in_ok-automaton.ensures.answer in
    let e = c.in_ok-entry.entry in
    let theirs = certificate_since _ _ _ _ _ _ _ _ _ c.in_ok-automaton.ensures.same_files c.in_ok-automaton.ensures.no_fault c.in_ok-automaton.ensures.received _ _ _ c.in_ok-theirs.ensures in
    let why =
    subst (λ (b : Bounds). IsUnwindFault e.graph.now no_predicates b e.function.now c.in_err-ours.field-0.0) c.within-bounds.ensures c.in_err-ours.ensures.refused in
    let p = err_from_is_err_and c.from_residual-in_err-ours.result c.from_residual-in_err-ours.ensures.1 in
    rw (p.1, p.2) (tells_refused (OfSources _ m.sources (IsDueOfCheckBounds _ m)) m.sources c.in_err-ours.field-0.0
    (refused_at _ m.sources (IsDueOfCheckBounds _ m) c.in_ok-automaton.automaton.graph have c.in_err-ours.field-0.0
    (refused_at_entry c.in_ok-automaton.automaton.graph m.entry (CheckBoundsThen _ m) e c.in_ok-entry.ensures m.sources c.in_err-ours.field-0.0
    (refused_map c.in_err-ours.field-0.0 (bounds_refused e.graph.now e.function.now (within m.bounds) c.in_err-ours.field-0.0 why)
    (λ x cause. inr (c.in_ok-theirs.theirs.formula, (c.in_ok-theirs.theirs.derivation, theirs, inl (x, cause, refl))))))))

pub compared-requires : goal.compared-requires
compared-requires g c =
    let e = c.in_ok-entry.entry in
    few_clauses e.graph.now e.function.now c.within-bounds.result c.in_ok-ours.ours c.in_ok-ours.ensures.exact c.in_ok-ours.ensures.small

pub returns : goal.returns
returns g c =
    let m = checking_bounds c.args.request.now in
    let have = rw c.deref.ensures.value at c.in_ok-automaton.ensures.answer in
    let e = c.in_ok-entry.entry in
    let theirs = certificate_since _ _ _ _ _ _ _ _ _ c.in_ok-automaton.ensures.same_files c.in_ok-automaton.ensures.no_fault c.in_ok-automaton.ensures.received _ _ _ c.in_ok-theirs.ensures in
    let exact = subst (λ (b : Bounds). IsForLeaving e.graph.now e.function.now b c.in_ok-ours.ours) c.within-bounds.ensures c.in_ok-ours.ensures.exact in
    let limits = subst (IsWithinLimits e.graph.now e.function.now) c.within-bounds.ensures c.in_ok-ours.ensures.limits in
    tells_map (IsCompared (suffice_text (within m.bounds)) c.in_ok-theirs.theirs.formula c.in_ok-ours.ours c.in_ok-theirs.theirs.derivation)
    (OfSources _ m.sources (IsDueOfCheckBounds _ m)) m.sources c.compared.result
    (λ said due. at_graph _ m.sources (IsDueOfCheckBounds _ m) c.in_ok-automaton.automaton.graph said have
    (at_entry c.in_ok-automaton.automaton.graph m.entry (CheckBoundsThen _ m) e c.in_ok-entry.ensures said
    (inr (c.in_ok-theirs.theirs.formula, (c.in_ok-theirs.theirs.derivation, theirs, inr (limits, (c.in_ok-ours.ours, exact, due)))))))
    (rw c.within-bounds.ensures at (rw c.in_ok-text.ensures at (c.compared.ensures m.sources)))
