use Rattle.std.proofs.Common.{inl, inr, refl, subst}
use Rattle.std.proofs.lemmas.Result.{err_from_is_err_and}
use Rattle.bounds_check.specs.Sufficing.{IsOpenWhereShort, IsSuffice, IsWithinLimits}
use Rattle.unwinder_reach.specs.declared.reached.bounds.Bounds.{Bounds}
use Rattle.unwinder.specs.Unwinding.{IsUnwindFault}
use Rattle.command_words.specs.Request.{sufficing}
use Rattle.command.specs.Bounds.{IsDueOfBounds}
use Rattle.command.specs.Ranges.{within}
use Rattle.command.specs.Runs.{no_predicates}
use Rattle.command.specs.Stages.{OfSources}
use Rattle.command.proofs.AtEntry.{BoundsThen}
use Rattle.command.proofs.BoundsLaws.{bounds_refused, input_for}
use Rattle.command.proofs.CallLaws.{at_entry, no_entry, not_given, refused_at, refused_at_entry}
use Rattle.command.proofs.DueLaws.{at_graph}
use Rattle.command.proofs.GivesLaws.{gives_refused}
use Rattle.command.proofs.ReadsLaws.{refused_map}
use Rattle.command.proofs.bounds.bounds.Goals as goal

pub returns-in_err-automaton : goal.returns-in_err-automaton
returns-in_err-automaton g c =
    let m = sufficing c.args.request.now in
    let p = err_from_is_err_and c.from_residual.result c.from_residual.ensures.1 in
    rw (p.1, p.2) (gives_refused (OfSources _ m.sources (IsDueOfBounds c.args.form m)) m.sources _ c.in_err-automaton.field-0.0
    (not_given _ m.sources (IsDueOfBounds c.args.form m) c.in_err-automaton.field-0.0 (rw c.deref.ensures.value at c.in_err-automaton.ensures.answer)) refl)

pub returns-in_err-entry : goal.returns-in_err-entry
returns-in_err-entry g c =
    let m = sufficing c.args.request.now in
    let have = rw c.deref.ensures.value at c.in_ok-automaton.ensures.answer in
    let p = err_from_is_err_and c.from_residual-in_err-entry.result c.from_residual-in_err-entry.ensures.1 in
    rw (p.1, p.2) (gives_refused (OfSources _ m.sources (IsDueOfBounds c.args.form m)) m.sources _ c.in_err-entry.field-0.0
    (refused_at _ m.sources (IsDueOfBounds c.args.form m) c.in_ok-automaton.automaton.graph have c.in_err-entry.field-0.0
    (no_entry c.in_ok-automaton.automaton.graph m.entry (BoundsThen c.args.form m c.in_ok-automaton.automaton.graph) m.sources c.in_err-entry.field-0.0 c.in_err-entry.ensures)) refl)

pub returns-in_err-suffice : goal.returns-in_err-suffice
returns-in_err-suffice g c =
    let m = sufficing c.args.request.now in
    let have = rw c.deref.ensures.value at c.in_ok-automaton.ensures.answer in
    let e = c.in_ok-entry.entry in
    let why =
    subst (λ (b : Bounds). IsUnwindFault e.graph.now no_predicates b e.function.now c.in_err-suffice.field-0.0) c.within-bounds.ensures c.in_err-suffice.ensures.refused in
    let p = err_from_is_err_and c.from_residual-in_err-suffice.result c.from_residual-in_err-suffice.ensures.1 in
    rw (p.1, p.2) (gives_refused (OfSources _ m.sources (IsDueOfBounds c.args.form m)) m.sources _ c.in_err-suffice.field-0.0
    (refused_at _ m.sources (IsDueOfBounds c.args.form m) c.in_ok-automaton.automaton.graph have c.in_err-suffice.field-0.0
    (refused_at_entry c.in_ok-automaton.automaton.graph m.entry (BoundsThen c.args.form m) e c.in_ok-entry.ensures m.sources c.in_err-suffice.field-0.0
    (refused_map c.in_err-suffice.field-0.0 (bounds_refused e.graph.now e.function.now (within m.bounds) c.in_err-suffice.field-0.0 why) (λ x cause. inl (x, cause, refl))))) refl)

pub said_of-requires : goal.said_of-requires
said_of-requires g c =
    let e = c.in_ok-entry.entry in
    input_for e.graph.now e.function.now c.within-bounds.result _ c.in_ok-suffice.suffice c.in_ok-suffice.ensures.suffice e.number e.there

pub returns : goal.returns
returns g c =
    let m = sufficing c.args.request.now in
    let have = rw c.deref.ensures.value at c.in_ok-automaton.ensures.answer in
    let e = c.in_ok-entry.entry in
    let suffice = subst (λ (b : Bounds). IsSuffice e.graph.now e.function.now b m.budget c.in_ok-suffice.suffice) c.within-bounds.ensures c.in_ok-suffice.ensures.suffice in
    let enough = subst (λ (b : Bounds). IsOpenWhereShort e.graph.now e.function.now b m.budget c.in_ok-suffice.suffice) c.within-bounds.ensures c.in_ok-suffice.ensures.enough in
    let limits = subst (IsWithinLimits e.graph.now e.function.now) c.within-bounds.ensures c.in_ok-suffice.ensures.limits in
    let given = rw c.within-bounds.ensures at c.in_ok-reply.ensures in (
      given.0,
      at_graph _ m.sources (IsDueOfBounds c.args.form m) c.in_ok-automaton.automaton.graph _ have
          (at_entry c.in_ok-automaton.automaton.graph m.entry (BoundsThen c.args.form m) e c.in_ok-entry.ensures _ (inr (limits, (c.in_ok-suffice.suffice, suffice, enough, given.1)))),
      given.2,
    )
