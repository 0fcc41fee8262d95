use Rattle.std.proofs.Common.{sym, ◌∙◌, arith}
use Rattle.std.proofs.lemmas.Int.{to_z-of_z}
use Rattle.search_lemmas.proofs.GateLaws.{whole_clause_at}
use Rattle.search_lemmas.proofs.gates.is_whole.Goals as goal

pub returns-then-is_inverse : goal.returns-then-is_inverse
returns-then-is_inverse c = λ yes.
    let is = sym (to_z-of_z _ _ c.ranges.whole) ∙ c.is_signed.ensures c.if-not-is_signed.false in
    whole_clause_at c.args.circuit.now c.args.first c.args.second c.args.whole c.unsigned_abs-wire.result c.in-And.left c.in-And.right (omega arith) is
    c.in-And.ensures.value c.in-And.ensures.parts c.in-And.ensures.reduced
    (sym (to_z-of_z _ _ c.ranges.first) ∙ c.is_inverse.ensures c.if-is_inverse.true)
    (sym (to_z-of_z _ _ c.ranges.second) ∙ c.is_inverse-then-is_inverse.ensures yes)
