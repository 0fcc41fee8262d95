use Rattle.std.proofs.Common.{◌≡◌, ◌+◌, length, sym, subst, arith}
use Rattle.measurer_index.specs.word_index.Numbers.{Adds}
use Rattle.measurer.proofs.Matchers.{MatchedBefore, get_some, accepted_more, refused_more, all_matched}
use Rattle.measurer.proofs.others.add_matched.Goals as goal
use Rattle.measurer.proofs.others.add_matched.Goals.{then-branch+in_ok-add, else-branch}

pub loop-own-preserved : goal.loop-own-preserved
loop-own-preserved c = λ goals made.
    let e = get_some c.args.matchers.now c.loop-own.own-index c.own-item.result c.loop-own-test.true c.own-item.is in
    let inv = c.loop-own.invariant goals made in
    elim c.if-branch.branch [
      | then-branch+in_ok-add w ↦ subst (Adds (MatchedBefore goals c.args.first c.args.last c.args.path.now c.args.matchers.now (c.loop-own.own-index + 1)) c.args.numbers.now) (sym w.numbers-is)
          (accepted_more c.args.row.now.sets goals c.args.first c.args.last c.args.path.now c.args.matchers.now made c.loop-own.own-index c.own-item.result c.in_ok-has_own_match.field-0 e c.in_ok-has_own_match.ensures w.if-branch.true _ _ _ inv w.in_ok-add.ensures)
      | else-branch w ↦ subst (Adds (MatchedBefore goals c.args.first c.args.last c.args.path.now c.args.matchers.now (c.loop-own.own-index + 1)) c.args.numbers.now) (sym w.numbers-is)
          (refused_more c.args.row.now.sets goals c.args.first c.args.last c.args.path.now c.args.matchers.now made c.loop-own.own-index c.own-item.result c.in_ok-has_own_match.field-0 e c.in_ok-has_own_match.ensures w.if-branch.false _ _ inv)
    ]

pub returns : goal.returns
returns c = λ goals made.
    let past = c.loop-own-test.false in
    let end = c.loop-own.auto.own-index-end in
    let size : c.loop-own.own-index ≡ length c.args.matchers.now = omega arith in
    all_matched c.args.row.now.sets goals c.args.first c.args.last c.args.path.now c.args.matchers.now made c.loop-own.own-index _ _ size (c.loop-own.invariant goals made)
