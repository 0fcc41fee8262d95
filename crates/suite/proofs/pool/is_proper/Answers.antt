use Rattle.std.proofs.Common.{List, Bool, ℕ, sym, subst, ◌∙◌}
use Rattle.std.specs.Prelude.{IsTrue}
use Rattle.std.proofs.lemmas.Result.{IfOk-weaker}
use Rattle.suite.specs.candidates.Within.{AreEdgesWithin}
use Rattle.path_runner.specs.Counted.{counts_end}
use Rattle.suite.specs.Inside.{IsProper}
use Rattle.suite.proofs.pool.is_proper.Goals as goal

pub returns : goal.returns
returns c =
    let g = c.args.given.now in
    let Within : List ℕ → Type 0 = AreEdgesWithin g.planned.entry.graph.now g.bounds g.planned.entry.function.now in
    let counted : IsTrue (counts_end g.ends c.args.path.now.end) = sym c.is_counted.ensures ∙ c.if-not-is_counted.false in
    let Has : Bool → Type 0 = λ within. IsTrue within → Within c.as_slice.result.now in
    let Gives : Bool → Type 0 = λ proper. IsTrue proper → IsProper g c.args.path.now in
    let gives : (b : Bool) → Has b → Gives b = λ b h yes. (counted, subst Within c.as_slice.ensures (h yes)) in
    IfOk-weaker c.is_within.result Has Gives gives c.is_within.ensures
