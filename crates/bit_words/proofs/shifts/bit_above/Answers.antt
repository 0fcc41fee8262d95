use Rattle.std.proofs.Common.{false, cond, sym, ap, ◌∙◌, arith}
use Rattle.bit_words.specs.Words.{bit_of}
use Rattle.bit_words.proofs.Digits.{lit_at}
use Rattle.bit_words.proofs.Values.{no_holds}
use Rattle.bit_words.proofs.shifts.bit_above.Goals as goal

pub returns-then-place-lt64-clause-low : goal.returns-then-place-lt64-clause-low
returns-then-place-lt64-clause-low c = λ h gates w. lit_at gates c.args.word.now w c.args.place _ (omega arith)

pub returns-then-kind-clause-high : goal.returns-then-kind-clause-high
returns-then-kind-clause-high c = λ h gates w.
    lit_at gates c.args.word.now w 63 _ (omega arith)
    ∙ ap (λ s. cond s (bit_of gates c.args.word.now w 63) false) (sym c.if-kind.true)

pub returns-else-kind-clause-high : goal.returns-else-kind-clause-high
returns-else-kind-clause-high c = λ h gates w.
    no_holds gates w ∙ ap (λ s. cond s (bit_of gates c.args.word.now w 63) false) (sym c.if-kind.false)
