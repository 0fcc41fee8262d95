use Rattle.std.proofs.Common.{◌≡◌, cond, sym, ap, ◌∙◌, arith}
use Rattle.std.specs.Int.{bit_at}
use Rattle.std.proofs.lemmas.Nat.Bits.{shr_and_one, bit_at-lt}
use Rattle.bit_words.proofs.Values.{yes_holds, no_holds}
use Rattle.bit_words.proofs.words.constant_bit.Goals as goal

pub returns-then-value-place-eq1-clause-value : goal.returns-then-value-place-eq1-clause-value
returns-then-value-place-eq1-clause-value c = λ gates w.
    let bit = shr_and_one c.args.value c.args.place in
    let is : bit_at c.args.value c.args.place ≡ 1 = omega arith in
    ap (λ b. cond b 1 0) (yes_holds gates w) ∙ sym is

pub returns-else-value-place-eq1-clause-value : goal.returns-else-value-place-eq1-clause-value
returns-else-value-place-eq1-clause-value c = λ gates w.
    let bit = shr_and_one c.args.value c.args.place in
    let small = bit_at-lt c.args.value c.args.place in
    let is : bit_at c.args.value c.args.place ≡ 0 = omega arith in
    ap (λ b. cond b 1 0) (no_holds gates w) ∙ sym is
