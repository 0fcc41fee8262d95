use Rattle.std.proofs.Common.{◌≡◌, Some, option_copied, sym, ap, subst, ◌∙◌, slice_get}
use Rattle.tree_meaning.specs.Running.{FitUnit}
use Rattle.tree_meaning.proofs.StatementFits.{answer_kind}
use Rattle.tree_meaning.proofs.calls.answered.Goals as goal

pub fitted-requires : goal.fitted-requires
fitted-requires c =
    let found : slice_get c.unit.result.now.inputs c.args.input ≡ Some c.in-Some.function.now = sym c.get.ensures ∙ ap option_copied c.in-Some.is in
    answer_kind c.unit.result.now c.args.input c.in-Some.function.now found (subst FitUnit (sym c.unit.ensures.unit) c.unit.ensures.fits)
