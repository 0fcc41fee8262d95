use Rattle.command.proofs.AtEntry.{CheckAt, CheckThen, CheckedAt}
use Rattle.command.proofs.CallLaws.{at_plan, not_given, not_planned, refused_at, refused_at_plan}
use Rattle.command.proofs.DueLaws.{at_graph, certificate_refused_since, certificate_since}
use Rattle.command.proofs.GivesLaws.{tells_map, tells_refused}
use Rattle.command.proofs.ReadsLaws.{refused_map}
use Rattle.command.proofs.StageLaws.{due_no_goal, goal_found, goal_none, goal_some}
use Rattle.command.specs.Check.{IsDueOfCheck}
use Rattle.command.specs.Entries.{seen}
use Rattle.command.specs.Stages.{OfGoal, OfSources}
use Rattle.unwinder_reach.specs.declared.reached.bounds.Bounds.{Bounds}
use Rattle.command.specs.Reads.{reads}
use Rattle.command.specs.Refusal.{said_by}
use Rattle.command_words.specs.Request.{checking}
use Rattle.std.proofs.Common.{subst, inl, inr, refl, arith}
use Rattle.std.proofs.lemmas.Result.{err_from_is_err_and}
use Rattle.command.proofs.check.check.Goals as goal

pub returns-in_err-automaton : goal.returns-in_err-automaton
returns-in_err-automaton g c =
    let m = checking c.args.request.now in
    let p = err_from_is_err_and c.from_residual.result c.from_residual.ensures.1 in
    rw (p.1, p.2) (tells_refused (OfSources _ m.sources (IsDueOfCheck _ m)) m.sources c.in_err-automaton.field-0.0
    (not_given _ m.sources (IsDueOfCheck _ m) c.in_err-automaton.field-0.0 (rw c.deref.ensures.value at c.in_err-automaton.ensures.answer)))

pub returns-in_err-planned : goal.returns-in_err-planned
returns-in_err-planned g c =
    let m = checking c.args.request.now in
    let have = rw c.deref.ensures.value at c.in_ok-automaton.ensures.answer in
    let p = err_from_is_err_and c.from_residual-in_err-planned.result c.from_residual-in_err-planned.ensures.1 in
    rw (p.1, p.2) (tells_refused (OfSources _ m.sources (IsDueOfCheck _ m)) m.sources c.in_err-planned.field-0.0
    (refused_at _ m.sources (IsDueOfCheck _ m) c.in_ok-automaton.automaton.graph have c.in_err-planned.field-0.0
    (not_planned m.sources c.in_ok-automaton.automaton.graph m.entry m.query (CheckThen _ m) c.in_err-planned.field-0.0 (rw c.as_bytes.ensures.value at c.in_err-planned.ensures))))

pub returns-then-request-len : goal.returns-then-request-len
returns-then-request-len g c =
    let m = checking c.args.request.now in
    let have = rw c.deref.ensures.value at c.in_ok-automaton.ensures.answer in
    let is = rw c.as_bytes.ensures.value at c.in_ok-planned.ensures in
    let pl = c.in_ok-planned.planned in
    let r = reads g.F.Files c.args.files.now c.automaton.new.files in
    at_graph r m.sources (IsDueOfCheck r m) c.in_ok-automaton.automaton.graph _ have
    (at_plan m.sources c.in_ok-automaton.automaton.graph m.entry m.query (CheckThen r m) pl is _
    (due_no_goal _ _ (OfGoal pl.plan m.goal (CheckAt r m pl.entry.graph.now (seen pl.entry) pl.predicates pl.plan)) c.no_such_goal.ensures (goal_none pl.plan m.goal (CheckAt r m pl.entry.graph.now (seen pl.entry) pl.predicates pl.plan) (omega arith))))

pub returns-in_err-theirs : goal.returns-in_err-theirs
returns-in_err-theirs g c =
    let m = checking c.args.request.now in
    let have = rw c.deref.ensures.value at c.in_ok-automaton.ensures.answer in
    let is = rw c.as_bytes.ensures.value at c.in_ok-planned.ensures in
    let pl = c.in_ok-planned.planned in
    let r = reads g.F.Files c.args.files.now c.read_certificate_file.new.files in
    let found = goal_found pl.plan m.goal (λ _ _. ⊥) c.requires.1 (omega arith) in
    let p = err_from_is_err_and c.from_residual-in_err-theirs.result c.from_residual-in_err-theirs.ensures.1 in
    rw (p.1, p.2) (tells_refused (OfSources r m.sources (IsDueOfCheck r m)) m.sources c.in_err-theirs.field-0.0
    (refused_at r m.sources (IsDueOfCheck r m) c.in_ok-automaton.automaton.graph have c.in_err-theirs.field-0.0
    (refused_at_plan m.sources c.in_ok-automaton.automaton.graph m.entry m.query (CheckThen r m) pl is c.in_err-theirs.field-0.0
    (refused_map c.in_err-theirs.field-0.0 c.in_err-theirs.ensures (λ x why.
    goal_some pl.plan m.goal (CheckAt r m pl.entry.graph.now (seen pl.entry) pl.predicates pl.plan) found.0 found.1 (said_by m.sources x)
    (inl (x, certificate_refused_since _ _ _ _ _ _ _ _ _ c.in_ok-automaton.ensures.same_files c.in_ok-automaton.ensures.no_fault c.in_ok-automaton.ensures.received _ x why, refl)))))))

pub returns : goal.returns
returns g c =
    let m = checking c.args.request.now in
    let have = rw c.deref.ensures.value at c.in_ok-automaton.ensures.answer in
    let is = rw c.as_bytes.ensures.value at c.in_ok-planned.ensures in
    let pl = c.in_ok-planned.planned in
    let r = reads g.F.Files c.args.files.now c.read_certificate_file.new.files in
    let found = goal_found pl.plan m.goal (λ _ _. ⊥) c.requires.1 (omega arith) in
    let held = c.in_ok-theirs.theirs in
    let theirs = certificate_since _ _ _ _ _ _ _ _ _ c.in_ok-automaton.ensures.same_files c.in_ok-automaton.ensures.no_fault c.in_ok-automaton.ensures.received _ held.formula held.derivation c.in_ok-theirs.ensures in
    tells_map (CheckedAt m pl.entry.graph.now (seen pl.entry) pl.predicates pl.plan c.within.result found.0 held.formula held.derivation)
    (OfSources r m.sources (IsDueOfCheck r m)) m.sources c.checked.result
    (λ said due. at_graph r m.sources (IsDueOfCheck r m) c.in_ok-automaton.automaton.graph said have
    (at_plan m.sources c.in_ok-automaton.automaton.graph m.entry m.query (CheckThen r m) pl is said
    (goal_some pl.plan m.goal (CheckAt r m pl.entry.graph.now (seen pl.entry) pl.predicates pl.plan) found.0 found.1 said (inr (
      held.formula,
      (
        held.derivation,
        theirs,
        subst (λ (b : Bounds). CheckedAt m pl.entry.graph.now (seen pl.entry) pl.predicates pl.plan b found.0 held.formula held.derivation said) c.within.ensures due,
      ),
    )))))
    (c.checked.ensures m.sources found.0 found.1)
