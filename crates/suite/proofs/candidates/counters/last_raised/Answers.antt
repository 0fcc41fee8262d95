use Rattle.std.proofs.Common.{◌≡◌, ◌+◌, ◌-◌, length, arith}
use Rattle.unwinder_reach.proofs.reached.Counters.{raised_set}
use Rattle.suite.proofs.candidates.counters.last_raised.Goals as goal

pub returns : goal.returns
returns c =
    let l : c.len-length.result - 1 + 1 ≡ length c.args.counters.items = omega arith in
    raised_set c.args.counters.items (c.len-length.result - 1) c.index-last.result.now c.index-last.result.now l c.index-last.ensures
