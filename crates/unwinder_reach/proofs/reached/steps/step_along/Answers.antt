use Rattle.std.proofs.Common.{◌<◌, length, None, Some, refl, sym, ap, ◌∙◌, subst, arith}
use Rattle.std.specs.Prelude.{Contains}
use Rattle.std.proofs.lemmas.Option.{same_Some, slice_get_within}
use Rattle.cfa.proofs.Eaches.{read_at}
use Rattle.unwinder_reach.specs.reached.Searching.{IsNextAlong}
use Rattle.unwinder_reach.proofs.reached.StepLaws.{place_has, place_number, place_step}
use Rattle.unwinder_reach.proofs.reached.steps.step_along.Goals as goal

pub unreachable-requires : goal.unreachable-requires
unreachable-requires c =
    let inside : c.args.from < length c.args.places.now.pairs.items = omega arith in
    let there = read_at c.args.places.now.pairs.items c.args.places.now.pairs.items refl c.args.from c.index-pair.result.now inside c.index-pair.ensures in
    let long = c.requires.places.numbers.long in
    let within : c.args.from < length c.args.places.now.numbers.items = omega arith in
    let beside = read_at c.args.places.now.numbers.items c.args.places.now.numbers.items refl c.args.from c.index-number.result.now within c.index-number.ensures in
    let own = place_number c.args.graph.now c.args.bounds.now c.args.table.now c.args.places.now c.args.from c.index-pair.result.now c.index-number.result.now c.requires.places there beside in
    let is = rw c.in-Some.is at c.in_ok-numbered_along.ensures.next in
    let numbers = rw c.in-Some.is at c.in_ok-numbered_along.ensures.number in
    let number = numbers own in
    c.in-None-number_of.ensures
    (subst (Contains c.args.places.now.keys) (sym c.in_ok-key-in-Some.ensures)
    (place_has c.args.graph.now c.args.bounds.now c.args.table.now c.numbered_along.new.table c.args.places.now c.args.from c.args.at c.index-pair.result.now c.in-Some.next c.in-Some.number c.requires.places c.in_ok-numbered_along.ensures.extends there is number))

pub overflow_cast-result : goal.overflow_cast-result
overflow_cast-result c =
    let within = slice_get_within c.args.places.now.keys c.in-Some-number_of.to c.in_ok-key-in-Some.key.items c.in-Some-number_of.ensures in
    let few = c.requires.places.few in
    omega arith

pub returns-in-None-clause-step : goal.returns-in-None-clause-step
returns-in-None-clause-step c p own =
    let inside : c.args.from < length c.args.places.now.pairs.items = omega arith in
    let there = read_at c.args.places.now.pairs.items c.args.places.now.pairs.items refl c.args.from c.index-pair.result.now inside c.index-pair.ensures in
    let same = same_Some c.index-pair.result.now p (sym there ∙ own) in
    let none = rw c.in-None.is at c.in_ok-numbered_along.ensures.next in
    subst (λ r. IsNextAlong c.args.graph.now c.args.bounds.now c.args.at r None) same none

pub returns-in-Some-number_of-clause-step : goal.returns-in-Some-number_of-clause-step
returns-in-Some-number_of-clause-step c p mine =
    let inside : c.args.from < length c.args.places.now.pairs.items = omega arith in
    let there = read_at c.args.places.now.pairs.items c.args.places.now.pairs.items refl c.args.from c.index-pair.result.now inside c.index-pair.ensures in
    let long = c.requires.places.numbers.long in
    let within : c.args.from < length c.args.places.now.numbers.items = omega arith in
    let beside = read_at c.args.places.now.numbers.items c.args.places.now.numbers.items refl c.args.from c.index-number.result.now within c.index-number.ensures in
    let own = place_number c.args.graph.now c.args.bounds.now c.args.table.now c.args.places.now c.args.from c.index-pair.result.now c.index-number.result.now c.requires.places there beside in
    let is = rw c.in-Some.is at c.in_ok-numbered_along.ensures.next in
    let numbers = rw c.in-Some.is at c.in_ok-numbered_along.ensures.number in
    let number = numbers own in
    let same = same_Some c.index-pair.result.now p (sym there ∙ mine) in
    place_step c.args.graph.now c.args.bounds.now c.args.table.now c.numbered_along.new.table c.args.places.now c.args.from c.args.at c.in-Some-number_of.to p c.in-Some.next c.in-Some.number c.requires.places c.in_ok-numbered_along.ensures.extends
    (subst (λ r. IsNextAlong c.args.graph.now c.args.bounds.now c.args.at r (Some c.in-Some.next)) same is) number (c.in-Some-number_of.ensures ∙ ap Some c.in_ok-key-in-Some.ensures)
