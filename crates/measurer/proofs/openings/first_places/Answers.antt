use Rattle.std.proofs.Common.{◌-◌, refl, arith, length-set}
use Rattle.measurer.proofs.FirstPlaces.{none_noted, one_noted, all_noted}
use Rattle.measurer.proofs.openings.first_places.Goals as goal

pub loop-place-init : goal.loop-place-init
loop-place-init c = record {
  room = λ k lt. let h = c.above.ensures k lt in let n = c.in_ok-places.ensures.len in omega arith;
  firsts = none_noted c.args.edges.now c.in_ok-places.places.items _ c.above.result refl (c.in_ok-places.ensures.items_if_clones_equal (λ y same. same));
}

pub loop-place-preserved : goal.loop-place-preserved
loop-place-preserved c =
    let within = c.loop-place.auto.place in
    let above = c.loop-place-test.true in
    let room = c.loop-place.invariant.room (c.loop-place.place - 1) (omega arith) in
    record {
      room = λ k lt. simp length-set (c.loop-place.invariant.room k lt);
      firsts = one_noted c.args.edges.now c.loop-place.places.items c.loop-place.place above within room c.loop-place.invariant.firsts;
    }

pub returns : goal.returns
returns c = all_noted c.args.edges.now c.loop-place.places.items c.loop-place.place c.loop-place-test.false c.loop-place.invariant.firsts
