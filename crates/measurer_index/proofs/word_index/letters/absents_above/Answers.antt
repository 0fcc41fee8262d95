use Rattle.std.proofs.Common.{arith}
use Rattle.measurer_index.proofs.word_index.Absents.{more_letters, all_letters}
use Rattle.measurer_index.proofs.word_index.letters.absents_above.Goals as goal

pub loop-letter-preserved : goal.loop-letter-preserved
loop-letter-preserved c =
    let own = c.in_ok-above.ensures in
    let inv = c.loop-letter.invariant in
    let from = own.from in
    let was = inv.from in
    record {
      from = omega arith;
      absents = more_letters c.args.word.now c.loop-letter.letter-index _ c.loop-letter.above c.in_ok-above.above inv.absents from own.absent;
    }

pub returns-clause-absents : goal.returns-clause-absents
returns-clause-absents c = all_letters c.args.word.now c.loop-letter.letter-index c.loop-letter.above c.loop-letter-test.false c.loop-letter.invariant.absents
