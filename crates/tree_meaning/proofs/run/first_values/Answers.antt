use Rattle.std.proofs.Common.{◌≡◌, ◌<◌, List, length, get_or, subst}
use Rattle.c_typed_trees.specs.declared.unit.Global.{Global}
use Rattle.tree_meaning.proofs.Beginnings.{values_next}
use Rattle.tree_meaning.proofs.run.first_values.Goals as goal

pub loop-global-preserved : goal.loop-global-preserved
loop-global-preserved c =
    let gs = c.args.typed.now.globals in
    let i = c.loop-global.global-index in
    let g = c.global-item.result in
    let same : c.as_slice-global-items.result.now ≡ gs = c.as_slice-global-items.ensures in
    let lt : i < length gs = subst (λ (xs : List Global). i < length xs) same c.loop-global-test.true in
    let is : g ≡ get_or gs i g = subst (λ (xs : List Global). g ≡ get_or xs i g) same c.global-item.is in
    let next = values_next gs i g lt is in
    cc (c.in_ok-extend_from_slice.ensures.items, c.deref.ensures)
