use Rattle.std.proofs.Common.{◌≡◌, ◌-◌, get_or, arith, length-set}
use Rattle.std.proofs.lemmas.List.{get_or_read}
use Rattle.measurer_index.proofs.occurrences.Chains.{one_first, one_next, first_read}
use Rattle.measurer_index.proofs.occurrences.tables.chains_of.Goals as goal

pub loop-place-preserved : goal.loop-place-preserved
loop-place-preserved c =
    let within = c.loop-place.auto.place in
    let above = c.loop-place-test.true in
    let room = c.loop-place.invariant.room (c.loop-place.place - 1) (omega arith) in
    let number = get_or c.args.numbers.now (c.loop-place.place - 1) 0 in
    let read : c.index.result.now ≡ get_or c.loop-place.firsts.items number 0 = get_or_read c.loop-place.firsts.items number c.index.result.now room c.index.ensures 0 in
    let found = first_read c.args.numbers.now c.loop-place.firsts.items c.loop-place.place number c.index.result.now room read c.loop-place.invariant.firsts in
    record {
      room = λ k lt. simp length-set (c.loop-place.invariant.room k lt);
      size = simp length-set c.loop-place.invariant.size;
      firsts = one_first c.args.numbers.now c.loop-place.firsts.items c.loop-place.place above within room c.loop-place.invariant.firsts;
      next = one_next c.args.numbers.now c.loop-place.next.items c.loop-place.place c.index.result.now above within c.loop-place.invariant.size found.0 found.1 c.loop-place.invariant.next;
    }
