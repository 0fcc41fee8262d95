use Rattle.std.proofs.Common.{arith}
use Rattle.bit_words.proofs.Steps.{grows_then, grows_within}
use Rattle.sym_expr.proofs.sym_steps.EffectLemmas.{item_at, words_none, words_more, words_weigh}
use Rattle.sym_expr.proofs.sym_steps.effects.translate_all.Goals as goal

pub loop-word-init : goal.loop-word-init
loop-word-init c = rw c.new-values.ensures (words_none c.args.circuit.now c.args.store.now.cells c.args.frame.now c.args.words.now)

pub translate-requires-clause-fits : goal.translate-requires-clause-fits
translate-requires-clause-fits c = c.requires.fits c.loop-word.word-index c.word-item.result (item_at c.args.words.now c.loop-word.word-index c.word-item.result (omega arith) c.word-item.is)

pub returns-in_err-value-clause-grows : goal.returns-in_err-value-clause-grows
returns-in_err-value-clause-grows c = grows_within _ (grows_then c.loop-word.invariant.grows c.translate.ensures.grows) (omega (arith, words_weigh c.args.words.now c.loop-word.word-index c.word-item.result (item_at c.args.words.now c.loop-word.word-index c.word-item.result (omega arith) c.word-item.is)))

pub returns-in_err-push-clause-grows : goal.returns-in_err-push-clause-grows
returns-in_err-push-clause-grows c = grows_within _ (grows_then c.loop-word.invariant.grows c.translate.ensures.grows) (omega (arith, words_weigh c.args.words.now c.loop-word.word-index c.word-item.result (item_at c.args.words.now c.loop-word.word-index c.word-item.result (omega arith) c.word-item.is)))

pub both_hold-requires-clause-room : goal.both_hold-requires-clause-room
both_hold-requires-clause-room c =
    let before = c.loop-word.invariant.grows in
    let grown = c.translate.ensures.grows in
    omega (arith, before.used, grown.used, words_weigh c.args.words.now c.loop-word.word-index c.word-item.result (item_at c.args.words.now c.loop-word.word-index c.word-item.result (omega arith) c.word-item.is))

pub returns-in_err-fine-clause-grows : goal.returns-in_err-fine-clause-grows
returns-in_err-fine-clause-grows c = grows_within _ (grows_then (grows_then c.loop-word.invariant.grows c.translate.ensures.grows) c.both_hold.ensures.grows) (omega (arith, words_weigh c.args.words.now c.loop-word.word-index c.word-item.result (item_at c.args.words.now c.loop-word.word-index c.word-item.result (omega arith) c.word-item.is)))

pub loop-word-preserved : goal.loop-word-preserved
loop-word-preserved c =
    rw c.in_ok-push.ensures.ok (words_more c.word-item.result c.in_ok-value.value c.in_ok-value.has_value c.in_ok-fine.fine (item_at c.args.words.now c.loop-word.word-index c.word-item.result (omega arith) c.word-item.is) c.requires.cells c.loop-word.invariant
    c.translate.ensures.grows c.in_ok-value.ensures.sure c.both_hold.ensures.grows c.both_hold.ensures.sure c.in_ok-value.ensures.word.wires c.in_ok-fine.ensures.wire
    c.in_ok-value.ensures.value c.in_ok-fine.ensures.value)
