use Rattle.command.proofs.AtEntry.{GenerateAt, GenerateThen}
use Rattle.command.proofs.CallLaws.{at_plan, not_given, not_planned, refused_at}
use Rattle.command.proofs.DueLaws.{at_graph}
use Rattle.command.proofs.GivesLaws.{gives_map, gives_refused}
use Rattle.command.specs.Entries.{seen}
use Rattle.command.specs.Generate.{IsDueOfGenerate}
use Rattle.command.specs.Stages.{OfSources}
use Rattle.unwinder_reach.specs.declared.reached.bounds.Bounds.{Bounds}
use Rattle.command_words.specs.Request.{generating}
use Rattle.std.proofs.Common.{subst, refl}
use Rattle.std.proofs.lemmas.Result.{err_from_is_err_and}
use Rattle.command.proofs.generate.generate.Goals as goal

pub returns-in_err-automaton : goal.returns-in_err-automaton
returns-in_err-automaton g c =
    let m = generating c.args.request.now in
    let p = err_from_is_err_and c.from_residual.result c.from_residual.ensures.1 in
    rw (p.1, p.2) (gives_refused (OfSources _ m.sources (IsDueOfGenerate m)) m.sources _ c.in_err-automaton.field-0.0
    (not_given _ m.sources (IsDueOfGenerate m) c.in_err-automaton.field-0.0 (rw c.deref.ensures.value at c.in_err-automaton.ensures.answer)) refl)

pub returns-in_err-planned : goal.returns-in_err-planned
returns-in_err-planned g c =
    let m = generating c.args.request.now in
    let have = rw c.deref.ensures.value at c.in_ok-automaton.ensures.answer in
    let p = err_from_is_err_and c.from_residual-in_err-planned.result c.from_residual-in_err-planned.ensures.1 in
    rw (p.1, p.2) (gives_refused (OfSources _ m.sources (IsDueOfGenerate m)) m.sources _ c.in_err-planned.field-0.0
    (refused_at _ m.sources (IsDueOfGenerate m) c.in_ok-automaton.automaton.graph have c.in_err-planned.field-0.0
    (not_planned m.sources c.in_ok-automaton.automaton.graph m.entry m.query (GenerateThen m) c.in_err-planned.field-0.0 (rw c.as_bytes.ensures.value at c.in_err-planned.ensures))) refl)

pub returns : goal.returns
returns g c =
    let m = generating c.args.request.now in
    let have = rw c.deref.ensures.value at c.in_ok-automaton.ensures.answer in
    let is = rw c.as_bytes.ensures.value at c.in_ok-planned.ensures in
    let pl = c.in_ok-planned.planned in
    gives_map (GenerateAt m c.within.result pl.entry.graph.now (seen pl.entry) pl.predicates pl.plan) (OfSources _ m.sources (IsDueOfGenerate m)) m.sources _ c.generation.result
    (λ said due. at_graph _ m.sources (IsDueOfGenerate m) c.in_ok-automaton.automaton.graph said have
    (at_plan m.sources c.in_ok-automaton.automaton.graph m.entry m.query (GenerateThen m) pl is said
    (subst (λ (b : Bounds). GenerateAt m b pl.entry.graph.now (seen pl.entry) pl.predicates pl.plan said) c.within.ensures due)))
    (c.generation.ensures m.sources)
