use Rattle.std.proofs.Common.{◌≡◌, IfOk, subst}
use Rattle.filters.specs.Parts.{Part, marked}
use Rattle.filters.proofs.PartsLaws.{without_is}
use Rattle.filters.proofs.kept.without.Goals as goal

pub returns-clause-kept : goal.returns-clause-kept
returns-clause-kept c =
    let P : Part → Type 0 = λ x. IfOk c.with_ends.result (λ m. marked m ≡ x) in
    subst P (without_is c.args.graph.now c.args.a.now c.args.b.now _ _ _ _ c.deref-3.ensures.value c.deref.ensures.value c.deref-2.ensures.value c.in_ok-edges.ensures.each) c.with_ends.ensures.kept
