use Rattle.std.proofs.Common.{arith}
use Rattle.measurer_index.proofs.gap_words.Starts.{start_here, none_past, none_more}
use Rattle.measurer_index.proofs.gap_words.parts.first_start.Goals as goal

pub returns-in-Some-end_of : goal.returns-in-Some-end_of
returns-in-Some-end_of c = start_here c.args.path.now c.args.part.now c.args.start c.loop-at.from c.in-Some.at c.in-Some-end_of.field-0 c.loop-at.invariant.after c.loop-at.invariant.none c.in-Some.ensures c.in-Some-end_of.ensures

pub returns-in-None : goal.returns-in-None
returns-in-None c = none_past c.args.path.now c.args.part.now c.args.start c.loop-at.from c.in-Some.at c.loop-at.invariant.none c.in-Some.ensures c.in-None.ensures (omega arith)

pub loop-at-preserved : goal.loop-at-preserved
loop-at-preserved c =
    let after = c.loop-at.invariant.after in
    let ahead = c.in-Some.ensures.0 in
    record {
      after = omega arith;
      none = none_more c.args.path.now c.args.part.now c.args.start c.loop-at.from c.in-Some.at c.loop-at.invariant.none c.in-Some.ensures c.in-None.ensures;
    }
