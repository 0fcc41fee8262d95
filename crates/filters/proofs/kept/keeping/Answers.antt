use Rattle.std.proofs.Common.{◌≡◌, IfOk, subst}
use Rattle.fql_read.specs.declared.filter.FilterForm.{out-FilterForm}
use Rattle.filters.specs.Parts.{Part, marked}
use Rattle.filters.specs.Properties.{has_property}
use Rattle.filters.proofs.PartsLaws.{keeping_is}
use Rattle.filters.proofs.kept.keeping.Goals as goal

pub returns-clause-kept : goal.returns-clause-kept
returns-clause-kept c =
    let P : Part → Type 0 = λ x. IfOk c.with_ends.result (λ m. marked m ≡ x) in
    subst P (keeping_is c.args.graph.now (has_property c.args.graph.now (out-FilterForm c.args.form.now)) c.args.base.now _ _ _ c.deref-2.ensures.value c.deref.ensures.value c.in_ok-edges.ensures.each) c.with_ends.ensures.kept
