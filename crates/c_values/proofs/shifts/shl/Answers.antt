use Rattle.std.proofs.Common.{◌≡◌, ◌∙◌, ap, sym, subst, pos, Some, ◌*◌, ◌%◌, ◌^◌, arith}
use Rattle.std.specs.Prelude.{◌*ℤ◌}
use Rattle.c_values.specs.Kind.{IsValue, number_of, wrapped}
use Rattle.c_values.proofs.Fitting.{IsValue-wrapped, number_of-wrapped}
use Rattle.c_values.proofs.Bits.{width_below}
use Rattle.c_values.proofs.Sums.{kind_of, wrapped-from, pattern_of-scaled}
use Rattle.c_values.proofs.Quotients.{amount_below, left_shift_of-some, left_shift_of-none}
use Rattle.c_values.proofs.shifts.shl.Goals as goal

pub is_shift_amount-requires-clause-shifted : goal.is_shift_amount-requires-clause-shifted
is_shift_amount-requires-clause-shifted c = kind_of c.args.kind c.args.a c.requires.left

pub overflow_shl-a : goal.overflow_shl-a
overflow_shl-a c =
    let k = kind_of c.args.kind c.args.a c.requires.left in
    let wide = width_below c.args.kind k in
    let below = amount_below c.args.kind c.args.amount_kind c.args.amount k c.ranges.amount.fits (sym c.if-is_shift_amount.ensures.value) in
    omega arith

pub fit-requires : goal.fit-requires
fit-requires c = kind_of c.args.kind c.args.a c.requires.left

is : (c : goal.After-fit) → c.fit.result ≡ wrapped c.args.kind (number_of c.args.kind c.args.a *ℤ pos (2 ^ c.args.amount))
is c =
    c.fit.ensures
    ∙ wrapped-from c.args.kind (number_of c.args.kind c.args.a *ℤ pos (2 ^ c.args.amount)) (c.args.a * 2 ^ c.args.amount % 2 ^ 64)
    (kind_of c.args.kind c.args.a c.requires.left)
    (pattern_of-scaled c.args.kind c.args.a (2 ^ c.args.amount) c.ranges.a.fits)

pub returns-then-is_shift_amount-clause-value : goal.returns-then-is_shift_amount-clause-value
returns-then-is_shift_amount-clause-value c =
    ap Some (is c) ∙ left_shift_of-some c.args.kind c.args.a c.args.amount_kind c.args.amount (sym c.if-is_shift_amount.ensures.value)

pub returns-then-is_shift_amount-clause-of_kind : goal.returns-then-is_shift_amount-clause-of_kind
returns-then-is_shift_amount-clause-of_kind c =
    subst (IsValue c.args.kind) (sym (is c))
    (IsValue-wrapped c.args.kind (number_of c.args.kind c.args.a *ℤ pos (2 ^ c.args.amount)) (kind_of c.args.kind c.args.a c.requires.left))

pub returns-then-is_shift_amount-clause-number : goal.returns-then-is_shift_amount-clause-number
returns-then-is_shift_amount-clause-number c =
    ap (number_of c.args.kind) (is c)
    ∙ number_of-wrapped c.args.kind (number_of c.args.kind c.args.a *ℤ pos (2 ^ c.args.amount)) (kind_of c.args.kind c.args.a c.requires.left)

pub returns-else-is_shift_amount-clause-value : goal.returns-else-is_shift_amount-clause-value
returns-else-is_shift_amount-clause-value c =
    left_shift_of-none c.args.kind c.args.a c.args.amount_kind c.args.amount (sym c.if-is_shift_amount.ensures.value)
