use Rattle.std.proofs.Common.{inl, inr, refl, ap}
use Rattle.std.proofs.lemmas.Result.{err_from_is_err_and}
use Rattle.command_words.specs.Request.{listing}
use Rattle.command.specs.Due.{IsDueOfGoals}
use Rattle.command.specs.Said.{answered}
use Rattle.command.specs.Stages.{OfSources}
use Rattle.command.proofs.CallLaws.{not_given, refused_at}
use Rattle.command.proofs.DueLaws.{at_graph}
use Rattle.command.proofs.GivesLaws.{tells_refused}
use Rattle.command.proofs.ReadsLaws.{refused_map}
use Rattle.command.proofs.goal_list.goals.Goals as goal

pub returns-in_err-automaton : goal.returns-in_err-automaton
returns-in_err-automaton g c =
    let m = listing c.args.request.now in
    let p = err_from_is_err_and c.from_residual.result c.from_residual.ensures.1 in
    rw (p.1, p.2) (tells_refused (OfSources _ m.sources (IsDueOfGoals m)) m.sources c.in_err-automaton.field-0.0
    (not_given _ m.sources (IsDueOfGoals m) c.in_err-automaton.field-0.0 (rw c.deref.ensures.value at c.in_err-automaton.ensures.answer)))

pub returns-in_err-made : goal.returns-in_err-made
returns-in_err-made g c =
    let m = listing c.args.request.now in
    let have = rw c.deref.ensures.value at c.in_ok-automaton.ensures.answer in
    let p = err_from_is_err_and c.from_residual-in_err-made.result c.from_residual-in_err-made.ensures.1 in
    rw (p.1, p.2) (tells_refused (OfSources _ m.sources (IsDueOfGoals m)) m.sources c.in_err-made.field-0.0
    (refused_at _ m.sources (IsDueOfGoals m) c.in_ok-automaton.automaton.graph have c.in_err-made.field-0.0
    (refused_map c.in_err-made.field-0.0 (rw c.as_bytes.ensures.value at c.in_err-made.ensures.answer) (λ x why. inl (x, why, refl)))))

pub returns : goal.returns
returns g c =
    let m = listing c.args.request.now in
    let have = rw c.deref.ensures.value at c.in_ok-automaton.ensures.answer in
    at_graph _ m.sources (IsDueOfGoals m) c.in_ok-automaton.automaton.graph _ have
    (inr (c.in_ok-made.made.0, (c.in_ok-made.made.1, rw c.as_bytes.ensures.value at c.in_ok-made.ensures.answer, ap answered c.in_ok-text.ensures)))
