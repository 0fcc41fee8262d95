use Rattle.std.proofs.Common.{◌≡◌}
use Rattle.c_lex.proofs.Numbers.{bits_of, in_range, in_wide_range, signed_bits, unsigned_bits}
use Rattle.c_lex.proofs.constant.holds.Goals as goal
use Rattle.c_lex.proofs.constant.holds.Goals.{then-kind, else-kind}

pub returns-in-Some : goal.returns-in-Some
returns-in-Some c =
    let same : c.if-kind.bits ≡ bits_of c.args.kind.signed c.args.kind.width = elim c.if-kind.branch [
      | then-kind w ↦ signed_bits c.args.kind c.if-kind.bits _ w.if-kind.true w.bits-is w.saturating_sub-bits.ensures
      | else-kind w ↦ unsigned_bits c.args.kind c.if-kind.bits w.if-kind.false w.bits-is
    ] in
    in_range c.args.kind c.args.value c.if-kind.bits same c.in-Some.limit c.in-Some.ensures.1

pub returns-in-None : goal.returns-in-None
returns-in-None c =
    let same : c.if-kind.bits ≡ bits_of c.args.kind.signed c.args.kind.width = elim c.if-kind.branch [
      | then-kind w ↦ signed_bits c.args.kind c.if-kind.bits _ w.if-kind.true w.bits-is w.saturating_sub-bits.ensures
      | else-kind w ↦ unsigned_bits c.args.kind c.if-kind.bits w.if-kind.false w.bits-is
    ] in
    in_wide_range c.args.kind c.args.value c.if-kind.bits same c.ranges.value.fits c.in-None.ensures
