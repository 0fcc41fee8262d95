use Rattle.std.proofs.Common.{sym, subst, arith}
use Rattle.std.specs.Prelude.{slice_index}
use Rattle.measurer_index.proofs.occurrences.Groups.{IsChainTo, chain_next, chain_ends}
use Rattle.measurer_index.proofs.occurrences.tables.add_chain.Goals as goal

pub loop-place-preserved : goal.loop-place-preserved
loop-place-preserved c = λ x first.
    let next = c.requires.next c.loop-place.place (omega arith) c.loop-place-test.true in
    subst (λ ys. IsChainTo c.args.numbers.now x c.args.places.now.items ys (slice_index c.args.next.now c.loop-place.place)) (sym c.in_ok-push.ensures.items)
    (chain_next c.args.numbers.now x c.args.places.now.items c.loop-place.places.items c.loop-place.place (slice_index c.args.next.now c.loop-place.place) c.loop-place-test.true next.1 (c.loop-place.invariant x first))

pub returns : goal.returns
returns c = λ x first. chain_ends c.args.numbers.now x c.args.places.now.items c.loop-place.places.items c.loop-place.place c.loop-place-test.false (c.loop-place.invariant x first)
