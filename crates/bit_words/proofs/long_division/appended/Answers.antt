use Rattle.std.proofs.Common.{◌≡◌, ◌+◌, ◌-◌, ◌∙◌, ap, arith}
use Rattle.std.proofs.lemmas.List.Elements.{All-set}
use Rattle.circuit.specs.Wires.{IsWire}
use Rattle.bit_words.specs.Words.{bit_of}
use Rattle.bit_words.proofs.Digits.{bit_of-set_same, bit_of-set_other}
use Rattle.bit_words.proofs.long_division.appended.Goals as goal

pub returns-clause-wires : goal.returns-clause-wires
returns-clause-wires c = λ gates h l. All-set (IsWire gates) c.raised-bits.result 0 c.args.lowest l (c.raised-bits.ensures.wires gates h)

pub returns-clause-low : goal.returns-clause-low
returns-clause-low c = λ gates w. bit_of-set_same gates c.raised-bits.result w 0 c.args.lowest (omega arith)

pub returns-clause-high : goal.returns-clause-high
returns-clause-high c = λ gates w k lt.
    let e : k + 1 - 1 ≡ k = omega arith in
    bit_of-set_other gates c.raised-bits.result w 0 (k + 1) c.args.lowest (omega arith) (omega arith) ∙ c.raised-bits.ensures.high gates w (k + 1) (omega arith) (omega arith) ∙ ap (bit_of gates c.args.word.now w) e
