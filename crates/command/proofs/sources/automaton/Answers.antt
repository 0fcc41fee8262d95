use Rattle.std.proofs.Common.{◌≡◌, length, arith, ap, ◌∙◌, inl, inr}
use Rattle.std.proofs.lemmas.Result.{err_from_is_err_and}
use Rattle.std.proofs.lemmas.List.{length-map}
use Rattle.command.proofs.ReadsLaws.{refused_map, zip_length, zip_short}
use Rattle.command.proofs.TreesLaws.{text_refused}
use Rattle.command.proofs.sources.automaton.Goals as goal

pub automaton_of_texts-requires-clause-files : goal.automaton_of_texts-requires-clause-files
automaton_of_texts-requires-clause-files g c =
    let long : length c.deref.result.now ≡ length c.args.names.now =
    ap length c.deref.ensures.value ∙ zip_length _ _ _ c.in_ok-texts.ensures.read ∙ length-map c.args.names.now _ in
    omega (arith, long, c.requires)

pub automaton_of_texts-requires-clause-sizes : goal.automaton_of_texts-requires-clause-sizes
automaton_of_texts-requires-clause-sizes g c = rw c.deref.ensures.value (zip_short _ _ _ c.in_ok-texts.ensures.read)

pub returns-in_err-texts-clause-answer : goal.returns-in_err-texts-clause-answer
returns-in_err-texts-clause-answer g c =
    let p = err_from_is_err_and c.from_residual.result c.from_residual.ensures.1 in
    rw (p.1, p.2) (refused_map c.in_err-texts.field-0.0 c.in_err-texts.ensures.unread (λ x up. inl up))

pub returns-in_err-graph-clause-answer : goal.returns-in_err-graph-clause-answer
returns-in_err-graph-clause-answer g c =
    let p = err_from_is_err_and c.from_residual-in_err-graph.result c.from_residual-in_err-graph.ensures.1 in
    let refused = rw c.deref.ensures.value at c.in_err-graph.ensures.refused in
    rw (p.1, p.2) (refused_map c.in_err-graph.field-0.0 (text_refused _ _ c.in_err-graph.field-0.0 refused)
    (λ x why. inr (record { texts = c.in_ok-texts.texts.items; read = c.in_ok-texts.ensures.read; cause = why })))

pub returns-clause-answer : goal.returns-clause-answer
returns-clause-answer g c =
    record { texts = c.in_ok-texts.texts.items; read = c.in_ok-texts.ensures.read; automaton = rw c.deref.ensures.value at c.in_ok-graph.ensures.accepted }
