use Rattle.std.proofs.Common.{sym, ◌∙◌, inl, inr, arith}
use Rattle.std.proofs.lemmas.Int.{to_z-of_z}
use Rattle.search_lemmas.proofs.GateLaws.{part_clause}
use Rattle.search_lemmas.proofs.gates.is_part.Goals as goal

pub returns-then-is_literal : goal.returns-then-is_literal
returns-then-is_literal c = λ yes.
    let is = sym (to_z-of_z _ _ c.ranges.whole) ∙ c.is_signed.ensures c.if-not-is_signed.false in
    part_clause c.args.circuit.now c.args.part c.args.whole c.unsigned_abs-wire.result c.in-And.left c.in-And.right (omega arith) is
    c.in-And.ensures.value c.in-And.ensures.parts c.in-And.ensures.reduced (inl (sym (to_z-of_z _ _ c.ranges.part) ∙ c.is_literal.ensures yes))

pub returns-else-is_literal : goal.returns-else-is_literal
returns-else-is_literal c = λ yes.
    let is = sym (to_z-of_z _ _ c.ranges.whole) ∙ c.is_signed.ensures c.if-not-is_signed.false in
    part_clause c.args.circuit.now c.args.part c.args.whole c.unsigned_abs-wire.result c.in-And.left c.in-And.right (omega arith) is
    c.in-And.ensures.value c.in-And.ensures.parts c.in-And.ensures.reduced (inr (sym (to_z-of_z _ _ c.ranges.part) ∙ c.is_literal-else-is_literal.ensures yes))
