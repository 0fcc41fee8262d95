use Rattle.std.proofs.Common.{◌≡◌, Some, ap, arith, length, subst, sym, ◌∙◌}
use Rattle.std.specs.Prelude.{slice_get}
use Rattle.cfa.proofs.Eaches.{element_at}
use Rattle.unwinder.specs.Progress.{Unwinds}
use Rattle.unwinder.proofs.UnwindLaws.{can_take, element_there, goes_on}
use Rattle.unwinder.proofs.unwinding.all_taken.Goals as goal

pub bounds-deref-place-in-loop-place : goal.bounds-deref-place-in-loop-place
bounds-deref-place-in-loop-place c =
    let f = element_at c.args.graph.now.functions c.args.entry c.requires.entry in
    let rows = (c.requires.can f.0 f.1).reached.rows in
    omega (arith, rows, ap length c.deref-in-loop-place.ensures, c.len-place-end.ensures, c.loop-place-test.true)

pub take_place-requires : goal.take_place-requires
take_place-requires c =
    let f = element_at c.args.graph.now.functions c.args.entry c.requires.entry in
    let can = c.requires.can f.0 f.1 in
    let u = c.loop-place.invariant f.0 f.1 in
    let pair_is = element_there c.args.reached.now.pairs c.deref.result.now c.loop-place.place c.index-deref-place.result c.deref.ensures (omega (arith, c.len-place-end.ensures, c.loop-place-test.true)) c.index-deref-place.is in
    let rows = can.reached.rows in
    let row_is = element_there c.args.reached.now.steps c.deref-in-loop-place.result.now c.loop-place.place c.index-deref-place-in-loop-place.result c.deref-in-loop-place.ensures (omega (arith, rows, c.len-place-end.ensures, c.loop-place-test.true)) c.index-deref-place-in-loop-place.is in
    let ways_are : slice_get c.args.reached.now.steps c.loop-place.place ≡ Some c.as_slice-steps.result.now = row_is ∙ ap Some (sym c.as_slice-steps.ensures) in
    can_take c.args.graph.now c.args.predicates.now f.0 c.args.entry c.args.bounds c.args.ends c.args.reached.now.pairs c.args.reached.now.steps c.args.answers.now c.args.circuit.now c.loop-place.place c.loop-place.circuit c.loop-place.entries.items c.loop-place.agenda.items c.index-deref-place.result c.as_slice-steps.result.now c.well_formed-2.ensures can pair_is ways_are u c.requires.predicates

pub loop-place-preserved : goal.loop-place-preserved
loop-place-preserved c = λ g own.
    let can = c.requires.can g own in
    let u = c.loop-place.invariant g own in
    let pair_is = element_there c.args.reached.now.pairs c.deref.result.now c.loop-place.place c.index-deref-place.result c.deref.ensures (omega (arith, c.len-place-end.ensures, c.loop-place-test.true)) c.index-deref-place.is in
    let rows = can.reached.rows in
    let row_is = element_there c.args.reached.now.steps c.deref-in-loop-place.result.now c.loop-place.place c.index-deref-place-in-loop-place.result c.deref-in-loop-place.ensures (omega (arith, rows, c.len-place-end.ensures, c.loop-place-test.true)) c.index-deref-place-in-loop-place.is in
    let ways_are : slice_get c.args.reached.now.steps c.loop-place.place ≡ Some c.as_slice-steps.result.now = row_is ∙ ap Some (sym c.as_slice-steps.ensures) in
    goes_on c.args.graph.now c.args.predicates.now g c.args.entry c.args.bounds c.args.ends c.args.reached.now.pairs c.args.reached.now.steps c.args.answers.now c.args.circuit.now c.loop-place.place c.loop-place.circuit c.loop-place.entries.items c.loop-place.agenda.items c.index-deref-place.result c.as_slice-steps.result.now c.well_formed-2.ensures can pair_is ways_are u c.take_place.new.circuit c.take_place.new.entries.items c.take_place.new.agenda.items c.in_ok-take_place.ensures

pub returns : goal.returns
returns c = λ g own.
    let u = c.loop-place.invariant g own in
    let few = c.loop-place.auto.place-end in
    let all : c.loop-place.place ≡ length c.args.reached.now.pairs = omega (arith, few, c.len-place-end.ensures, c.loop-place-test.false) in
    (c.loop-place.agenda.items, subst (λ n. Unwinds c.args.graph.now c.args.predicates.now g c.args.entry c.args.bounds c.args.ends c.args.reached.now.pairs c.args.reached.now.steps c.args.circuit.now n c.loop-place.circuit c.loop-place.entries.items c.loop-place.agenda.items) all u)
