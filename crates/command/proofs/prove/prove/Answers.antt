use Rattle.command.proofs.AtEntry.{ProveAt, ProveThen}
use Rattle.command.proofs.CallLaws.{at_plan, not_given, not_planned, refused_at}
use Rattle.command.proofs.DueLaws.{at_graph}
use Rattle.command.proofs.GivesLaws.{gives_map, gives_refused}
use Rattle.command.proofs.StageLaws.{due_no_goal, goal_found, goal_none, goal_some}
use Rattle.command.specs.Entries.{seen}
use Rattle.command.specs.Prove.{IsDueOfProve}
use Rattle.command.specs.Ranges.{within}
use Rattle.command.specs.Stages.{OfGoal, OfSources}
use Rattle.unwinder_reach.specs.declared.reached.bounds.Bounds.{Bounds}
use Rattle.command_words.specs.Request.{proving}
use Rattle.std.proofs.Common.{subst, refl, arith}
use Rattle.std.proofs.lemmas.Result.{err_from_is_err_and}
use Rattle.command.proofs.prove.prove.Goals as goal

pub returns-in_err-automaton : goal.returns-in_err-automaton
returns-in_err-automaton g c =
    let m = proving c.args.request.now in
    let p = err_from_is_err_and c.from_residual.result c.from_residual.ensures.1 in
    rw (p.1, p.2) (gives_refused (OfSources _ m.sources (IsDueOfProve m)) m.sources _ c.in_err-automaton.field-0.0
    (not_given _ m.sources (IsDueOfProve m) c.in_err-automaton.field-0.0 (rw c.deref.ensures.value at c.in_err-automaton.ensures.answer)) refl)

pub returns-in_err-planned : goal.returns-in_err-planned
returns-in_err-planned g c =
    let m = proving c.args.request.now in
    let have = rw c.deref.ensures.value at c.in_ok-automaton.ensures.answer in
    let p = err_from_is_err_and c.from_residual-in_err-planned.result c.from_residual-in_err-planned.ensures.1 in
    rw (p.1, p.2) (gives_refused (OfSources _ m.sources (IsDueOfProve m)) m.sources _ c.in_err-planned.field-0.0
    (refused_at _ m.sources (IsDueOfProve m) c.in_ok-automaton.automaton.graph have c.in_err-planned.field-0.0
    (not_planned m.sources c.in_ok-automaton.automaton.graph m.entry m.query (ProveThen m) c.in_err-planned.field-0.0 (rw c.as_bytes.ensures.value at c.in_err-planned.ensures))) refl)

pub returns-then-request-len : goal.returns-then-request-len
returns-then-request-len g c =
    let m = proving c.args.request.now in
    let have = rw c.deref.ensures.value at c.in_ok-automaton.ensures.answer in
    let is = rw c.as_bytes.ensures.value at c.in_ok-planned.ensures in
    let pl = c.in_ok-planned.planned in (
      at_graph _ m.sources (IsDueOfProve m) c.in_ok-automaton.automaton.graph _ have
          (at_plan m.sources c.in_ok-automaton.automaton.graph m.entry m.query (ProveThen m) pl is _
          (due_no_goal _ _ (OfGoal pl.plan m.goal (ProveAt m pl.entry.graph.now (seen pl.entry) pl.predicates pl.plan (within m.bounds))) c.no_such_goal.ensures (goal_none pl.plan m.goal (ProveAt m pl.entry.graph.now (seen pl.entry) pl.predicates pl.plan (within m.bounds)) (omega arith)))),
      refl,
    )

pub returns : goal.returns
returns g c =
    let m = proving c.args.request.now in
    let have = rw c.deref.ensures.value at c.in_ok-automaton.ensures.answer in
    let is = rw c.as_bytes.ensures.value at c.in_ok-planned.ensures in
    let pl = c.in_ok-planned.planned in
    let found = goal_found pl.plan m.goal (λ _ _. ⊥) c.requires.1 (omega arith) in
    gives_map (ProveAt m pl.entry.graph.now (seen pl.entry) pl.predicates pl.plan c.within.result found.0) (OfSources _ m.sources (IsDueOfProve m)) m.sources _ c.proof.result
    (λ said due. at_graph _ m.sources (IsDueOfProve m) c.in_ok-automaton.automaton.graph said have
    (at_plan m.sources c.in_ok-automaton.automaton.graph m.entry m.query (ProveThen m) pl is said
    (goal_some pl.plan m.goal (ProveAt m pl.entry.graph.now (seen pl.entry) pl.predicates pl.plan (within m.bounds)) found.0 found.1 said
    (subst (λ (b : Bounds). ProveAt m pl.entry.graph.now (seen pl.entry) pl.predicates pl.plan b found.0 said) c.within.ensures due))))
    (c.proof.ensures m.sources found.0 found.1)
