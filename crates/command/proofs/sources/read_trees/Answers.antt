use Rattle.std.proofs.Common.{◌≡◌, length, arith, ap, ◌∙◌, inl}
use Rattle.std.proofs.lemmas.Result.{err_from_is_err_and}
use Rattle.std.proofs.lemmas.List.{length-map}
use Rattle.command.proofs.ReadsLaws.{refused_map, zip_length, zip_short}
use Rattle.command.proofs.TreesLaws.{trees_as}
use Rattle.command.proofs.sources.read_trees.Goals as goal

pub trees_of_texts-requires-clause-files : goal.trees_of_texts-requires-clause-files
trees_of_texts-requires-clause-files g c =
    let long : length c.deref.result.now ≡ length c.args.names.now =
    ap length c.deref.ensures.value ∙ zip_length _ _ _ c.in_ok-texts.ensures.read ∙ length-map c.args.names.now _ in
    omega (arith, long, c.requires)

pub trees_of_texts-requires-clause-sizes : goal.trees_of_texts-requires-clause-sizes
trees_of_texts-requires-clause-sizes g c = rw c.deref.ensures.value (zip_short _ _ _ c.in_ok-texts.ensures.read)

pub returns-in_err-texts-clause-answer : goal.returns-in_err-texts-clause-answer
returns-in_err-texts-clause-answer g c =
    let p = err_from_is_err_and c.from_residual.result c.from_residual.ensures.1 in
    rw (p.1, p.2) (refused_map c.in_err-texts.field-0.0 c.in_err-texts.ensures.unread (λ x up. inl up))

pub returns-clause-answer : goal.returns-clause-answer
returns-clause-answer g c =
    trees_as _ _ c.in_ok-texts.texts.items c.in_ok-texts.ensures.read c.trees_of_texts.result (rw c.deref.ensures.value at c.trees_of_texts.ensures.answer)
