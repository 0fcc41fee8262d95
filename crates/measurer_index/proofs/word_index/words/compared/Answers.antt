use Rattle.std.proofs.Common.{◌<◌, ◌≤◌, length, sym, ◌∙◌, arith}
use Rattle.measurer_index.proofs.word_index.Keys.{lower_at, higher_at, equal_at, shorter, both_end}
use Rattle.measurer_index.proofs.word_index.words.compared.Goals as goal

pub returns-then-own-other : goal.returns-then-own-other
returns-then-own-other c =
    let a = c.key_in-own.ensures in
    let b = c.key_in-other.ensures in
    let lt = c.if-own-other.true in
    sym (c.loop-at.invariant ∙ lower_at c.args.a.now c.args.b.now c.loop-at.at c.loop-at-test.true (omega arith))

pub returns-then-other-own : goal.returns-then-other-own
returns-then-other-own c =
    let a = c.key_in-own.ensures in
    let b = c.key_in-other.ensures in
    let lt = c.if-other-own.true in
    sym (c.loop-at.invariant ∙ higher_at c.args.a.now c.args.b.now c.loop-at.at c.loop-at-test.true (omega arith))

pub loop-at-preserved : goal.loop-at-preserved
loop-at-preserved c =
    let a = c.key_in-own.ensures in
    let b = c.key_in-other.ensures in
    let x = c.if-own-other.false in
    let y = c.if-other-own.false in
    c.loop-at.invariant ∙ equal_at c.args.a.now c.args.b.now c.loop-at.at c.loop-at-test.true (omega arith)

pub returns-then-a-b : goal.returns-then-a-b
returns-then-a-b c =
    let past = c.loop-at-test.false in
    let more = c.if-a-b.true in
    let lt : c.loop-at.at < length c.args.b.now = omega arith in
    sym (c.loop-at.invariant ∙ shorter c.args.a.now c.args.b.now c.loop-at.at past lt)

pub returns : goal.returns
returns c =
    let past = c.loop-at-test.false in
    let end = c.loop-at.auto.at-end in
    let no = c.if-a-b.false in
    let le : length c.args.b.now ≤ c.loop-at.at = omega arith in
    sym (c.loop-at.invariant ∙ both_end c.args.a.now c.args.b.now c.loop-at.at past le)
