use Rattle.std.proofs.Common.{◌≡◌, get_or, set, sym, ap, ◌∙◌}
use Rattle.std.proofs.lemmas.List.{set-get_or}
use Rattle.std.proofs.lemmas.Option.{get_or_from_slice_get}
use Rattle.sym_expr.proofs.store.SymStore.set.Goals as goal

pub returns-then-is_same_word : goal.returns-then-is_same_word
returns-then-is_same_word c =
    let cells = c.args.self.now.cells in
    let x = c.at.result.now in
    let same : x ≡ c.args.word.now = c.is_same_word.ensures c.if-is_same_word.true in
    let here : get_or cells c.args.cell x ≡ x = get_or_from_slice_get cells c.args.cell x x c.at.ensures in
    sym (ap (λ y. set cells c.args.cell y) (sym (here ∙ same)) ∙ set-get_or cells c.args.cell x)
