use Rattle.std.proofs.Common.{◌-◌, false, cond, sym, ap, ◌∙◌, arith}
use Rattle.c_values.proofs.Bits.{width_below, width_some}
use Rattle.bit_words.specs.Words.{bit_of}
use Rattle.bit_words.proofs.Digits.{lit_at}
use Rattle.bit_words.proofs.Values.{no_holds}
use Rattle.bit_words.proofs.words.extension.Goals as goal

pub returns-then-kind-clause-value : goal.returns-then-kind-clause-value
returns-then-kind-clause-value c = λ gates w.
    let small = width_below c.args.kind c.requires in
    let some = width_some c.args.kind c.requires in
    lit_at gates c.args.word.now w (c.args.kind.width - 1) _ (omega arith)
    ∙ ap (λ s. cond s (bit_of gates c.args.word.now w (c.args.kind.width - 1)) false) (sym c.if-kind.true)

pub returns-else-kind-clause-value : goal.returns-else-kind-clause-value
returns-else-kind-clause-value c = λ gates w.
    no_holds gates w ∙ ap (λ s. cond s (bit_of gates c.args.word.now w (c.args.kind.width - 1)) false) (sym c.if-kind.false)
