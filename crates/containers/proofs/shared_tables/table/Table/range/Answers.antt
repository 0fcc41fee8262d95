use Rattle.std.proofs.Common.{◌≡◌, ◌+◌, ◌<◌, ◌++◌, ◌∷◌, [], length, get_or, take, drop, sym, ap, ◌∙◌, length-drop, arith}
use Rattle.std.proofs.lemmas.List.{get_or-drop, take_more}
use Rattle.std.proofs.lemmas.Option.{get_or_from_slice_get}
use Rattle.containers.proofs.shared_tables.table.Table.range.Goals as goal

pub loop-k-preserved : goal.loop-k-preserved
loop-k-preserved g c =
    let k = c.loop-k.k in
    let first = c.args.first in
    let all = c.args.self.now in
    let x = c.at.result.now in
    let within : k < length (drop first all) = omega (arith, length-drop first all) in
    let here : get_or (drop first all) k x ≡ x = get_or-drop first all k x ∙ get_or_from_slice_get all (first + k) x x c.at.ensures in
    c.in_ok-push.ensures.items ∙ ap (λ xs. xs ++ x ∷ []) c.loop-k.invariant ∙ ap (λ y. take k (drop first all) ++ y ∷ []) (sym here) ∙ sym (take_more (drop first all) k x within)
