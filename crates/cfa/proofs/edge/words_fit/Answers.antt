use Rattle.std.proofs.Common.{sym, ◌∙◌, arith}
use Rattle.std.proofs.lemmas.List.{get_or_default}
use Rattle.cfa.specs.Graph.{word_fits}
use Rattle.cfa.proofs.Matched.{matched-apart, matched-end, matched_fails, matched_goes}
use Rattle.cfa.proofs.edge.words_fit.Goals as goal

pub returns-then-words-kinds : goal.returns-then-words-kinds
returns-then-words-kinds c = sym (matched-apart (word_fits c.args.room.now) c.args.words.now c.args.kinds.now c.if-words-kinds.true)

pub returns-then-not-word_fits : goal.returns-then-not-word_fits
returns-then-not-word_fits c =
    let words = c.args.words.now in
    let kinds = c.args.kinds.now in
    let i = c.loop-i.i in
    let within = c.loop-i-test.true in
    let long = c.loop-i.invariant.long in
    matched_fails (word_fits c.args.room.now) words kinds i _ _ _ _ long within
    c.index-words-i.is (get_or_default kinds i _ _ (omega arith)) c.word_fits.ensures c.loop-i.invariant.rest c.if-not-word_fits.true

pub loop-i-preserved : goal.loop-i-preserved
loop-i-preserved c =
    let words = c.args.words.now in
    let kinds = c.args.kinds.now in
    let i = c.loop-i.i in
    let within = c.loop-i-test.true in
    let long = c.loop-i.invariant.long in
    record {
      long = long;
      rest = matched_goes (word_fits c.args.room.now) words kinds i _ _ _ _ long within
          c.index-words-i.is (get_or_default kinds i _ _ (omega arith)) c.word_fits.ensures c.loop-i.invariant.rest c.if-not-word_fits.false;
    }

pub returns : goal.returns
returns c =
    sym (matched-end (word_fits c.args.room.now) c.args.words.now c.args.kinds.now c.loop-i.i (omega arith) (omega (arith, c.loop-i.invariant.long)))
    ∙ c.loop-i.invariant.rest
