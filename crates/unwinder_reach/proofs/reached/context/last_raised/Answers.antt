use Rattle.std.proofs.Common.{◌≡◌, ◌+◌, ◌-◌, length, arith, subst}
use Rattle.std.specs.Prelude.{Contains}
use Rattle.cfa.specs.Contexts.{last_raised}
use Rattle.unwinder_reach.proofs.reached.Counters.{raised_set, raised_has}
use Rattle.unwinder_reach.proofs.reached.context.last_raised.Goals as goal

pub returns-then-last : goal.returns-then-last
returns-then-last c =
    let l : c.len-length.result - 1 + 1 ≡ length c.args.counters.items = omega arith in
    subst (λ v. Contains (last_raised c.args.counters.items) (v + 1)) c.if-last.true
    (raised_has c.args.counters.items (c.len-length.result - 1) c.index-last.result.now c.index-last.result.now l c.index-last.ensures)

pub returns : goal.returns
returns c =
    let l : c.len-length.result - 1 + 1 ≡ length c.args.counters.items = omega arith in
    raised_set c.args.counters.items (c.len-length.result - 1) c.index-last.result.now c.index-last.result.now l c.index-last.ensures
