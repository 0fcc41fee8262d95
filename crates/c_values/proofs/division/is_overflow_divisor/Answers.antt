use Rattle.std.proofs.Common.{◌∙◌, sym, ◌-◌, ◌*◌, ◌%◌, ◌^◌, arith}
use Rattle.std.specs.Prelude.{◌==◌}
use Rattle.c_values.specs.Operations.{is_overflow_divisor, IsOverflowDivisor}
use Rattle.c_values.proofs.Fitting.{value_parts}
use Rattle.c_values.proofs.Bits.{width_below, width_some}
use Rattle.c_values.proofs.Machine.{told}
use Rattle.c_values.proofs.Quotients.{overflow_divisor-machine, is_overflow_divisor-tells, join_last, join_first, join_second}
use Rattle.c_values.proofs.division.is_overflow_divisor.Goals as goal
use Rattle.c_values.proofs.division.is_overflow_divisor.Goals.{then-kind, else-kind}

pub overflow_sub-kind : goal.overflow_sub-kind
overflow_sub-kind c = width_some c.args.kind (value_parts c.args.kind c.args.a c.requires.left).of_kind

pub overflow_shl-kind : goal.overflow_shl-kind
overflow_shl-kind c =
    let k = (value_parts c.args.kind c.args.a c.requires.left).of_kind in
    let low = width_some c.args.kind k in
    let high = width_below c.args.kind k in
    omega arith

pub returns-then-a-kind-clause-value : goal.returns-then-a-kind-clause-value
returns-then-a-kind-clause-value c =
    let known = overflow_divisor-machine c.args.kind c.args.a c.args.b c.requires.left c.requires.right in
    elim c.if-kind.branch [
      | then-kind w ↦ join_last c.args.kind.signed (c.args.a == ((2 ^ 64 - 1) * 2 ^ (c.args.kind.width - 1) % 2 ^ 64)) (c.args.b == (2 ^ 64 - 1)) (is_overflow_divisor c.args.kind c.args.a c.args.b)
          known w.if-kind.true (sym w.value-is ∙ c.if-a-kind.true)
      | else-kind w ↦ (let e = w.value-is in let f = c.if-a-kind.true in cc)
    ]

pub returns-else-a-kind-clause-value : goal.returns-else-a-kind-clause-value
returns-else-a-kind-clause-value c =
    let known = overflow_divisor-machine c.args.kind c.args.a c.args.b c.requires.left c.requires.right in
    c.if-a-kind.false ∙ elim c.if-kind.branch [
      | then-kind w ↦ join_second c.args.kind.signed (c.args.a == ((2 ^ 64 - 1) * 2 ^ (c.args.kind.width - 1) % 2 ^ 64)) (c.args.b == (2 ^ 64 - 1)) (is_overflow_divisor c.args.kind c.args.a c.args.b)
          known w.if-kind.true (sym w.value-is ∙ c.if-a-kind.false)
      | else-kind w ↦ join_first c.args.kind.signed (c.args.a == ((2 ^ 64 - 1) * 2 ^ (c.args.kind.width - 1) % 2 ^ 64)) (c.args.b == (2 ^ 64 - 1)) (is_overflow_divisor c.args.kind c.args.a c.args.b)
          known w.if-kind.false
    ]

pub returns-then-a-kind-clause-number : goal.returns-then-a-kind-clause-number
returns-then-a-kind-clause-number c =
    told (IsOverflowDivisor c.args.kind c.args.a c.args.b) _ (is_overflow_divisor c.args.kind c.args.a c.args.b)
    (returns-then-a-kind-clause-value c) (is_overflow_divisor-tells c.args.kind c.args.a c.args.b)

pub returns-else-a-kind-clause-number : goal.returns-else-a-kind-clause-number
returns-else-a-kind-clause-number c =
    told (IsOverflowDivisor c.args.kind c.args.a c.args.b) _ (is_overflow_divisor c.args.kind c.args.a c.args.b)
    (returns-else-a-kind-clause-value c) (is_overflow_divisor-tells c.args.kind c.args.a c.args.b)
