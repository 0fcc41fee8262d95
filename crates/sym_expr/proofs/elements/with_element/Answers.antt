use Rattle.std.proofs.Common.{◌≡◌, ◌==◌, ◌||◌, cond, arith}
use Rattle.circuit.specs.Truth.{World}
use Rattle.circuit.specs.Wires.{lit_holds}
use Rattle.bit_words.specs.Words.{word_value}
use Rattle.bit_words.proofs.Steps.{grows_then, grows_within, still}
use Rattle.bit_words.proofs.Digits.{all_still}
use Rattle.sym_expr.proofs.ElementLemmas.{with_word, with_named, with_one}
use Rattle.sym_expr.proofs.elements.with_element.Goals as goal

pub choose-requires-clause-left : goal.choose-requires-clause-left
choose-requires-clause-left c = all_still c.is_pattern.ensures.grows c.args.element.now c.requires.element

pub choose-requires-clause-right : goal.choose-requires-clause-right
choose-requires-clause-right c = all_still c.is_pattern.ensures.grows c.args.before.now.0 c.requires.before

pub either-requires-clause-left : goal.either-requires-clause-left
either-requires-clause-left c = still c.choose.ensures.grows c.in_ok-here.here c.in_ok-here.ensures.wire

pub either-requires-clause-right : goal.either-requires-clause-right
either-requires-clause-right c = still (grows_then c.is_pattern.ensures.grows c.choose.ensures.grows) c.args.before.now.1 c.requires.wire

pub returns-in_err-word-clause-grows : goal.returns-in_err-word-clause-grows
returns-in_err-word-clause-grows c = grows_within 385 (grows_then c.is_pattern.ensures.grows c.choose.ensures.grows) (omega arith)

pub returns-in_err-named-clause-grows : goal.returns-in_err-named-clause-grows
returns-in_err-named-clause-grows c = grows_within 385 (grows_then (grows_then c.is_pattern.ensures.grows c.choose.ensures.grows) c.either.ensures.grows) (omega arith)

pub returns-clause-grows : goal.returns-clause-grows
returns-clause-grows c = grows_within 385 (grows_then (grows_then c.is_pattern.ensures.grows c.choose.ensures.grows) c.either.ensures.grows) (omega arith)

pub returns-clause-wires : goal.returns-clause-wires
returns-clause-wires c = (all_still c.either.ensures.grows c.in_ok-word.word c.in_ok-word.ensures.wires, c.in_ok-named.ensures.wire)

worth : (c : goal.In_ok-named) (w : World)
    → word_value c.either.new.circuit c.in_ok-word.word w ≡ cond (word_value c.args.circuit.now c.args.index.now w == c.args.place) (word_value c.args.circuit.now c.args.element.now w) (word_value c.args.circuit.now c.args.before.now.0 w)
worth c w =
    with_word c.in_ok-here.here c.args.element.now c.in_ok-word.word c.args.before.now (word_value c.args.circuit.now c.args.index.now w == c.args.place) w
    c.is_pattern.ensures.grows c.choose.ensures.grows c.either.ensures.grows
    c.requires.element c.requires.before c.in_ok-word.ensures.wires (c.in_ok-here.ensures.value w) (c.in_ok-word.ensures.value w)

held : (c : goal.In_ok-named) (w : World) → lit_holds c.either.new.circuit c.in_ok-named.named w ≡ ((word_value c.args.circuit.now c.args.index.now w == c.args.place) || lit_holds c.args.circuit.now c.args.before.now.1 w)
held c w =
    with_named c.either.new.circuit c.in_ok-here.here c.in_ok-named.named c.args.before.now.1 (word_value c.args.circuit.now c.args.index.now w == c.args.place) w
    c.is_pattern.ensures.grows c.choose.ensures.grows c.in_ok-here.ensures.wire c.requires.wire (c.in_ok-here.ensures.value w) (c.in_ok-named.ensures.value w)

pub returns-clause-chosen : goal.returns-clause-chosen
returns-clause-chosen c = worth c

pub returns-clause-named : goal.returns-clause-named
returns-clause-named c = held c

pub returns-clause-value : goal.returns-clause-value
returns-clause-value c = λ w.
    with_one c.either.new.circuit c.in_ok-named.named c.in_ok-word.word (word_value c.args.circuit.now c.args.index.now w == c.args.place) (lit_holds c.args.circuit.now c.args.before.now.1 w)
    (word_value c.args.circuit.now c.args.element.now w) (word_value c.args.circuit.now c.args.before.now.0 w) w (worth c w) (held c w)
