use Rattle.std.proofs.Common.{List, ℕ, ◌+◌, ◌≤◌, ap, arith, get_or, length, length-append, subst, ◌∙◌, ◌≡◌, ◌<◌, ◌∷◌, [], Some}
use Rattle.std.specs.Prelude.{slice_get}
use Rattle.std.proofs.lemmas.Option.{slice_get-get_or}
use Rattle.unwinder_reach.specs.declared.reached.step.Step.{Step}
use Rattle.unwinder.proofs.AgendaLaws.{put_begins, put_goes_on}
use Rattle.unwinder.proofs.agenda.put_all.Goals as goal

abbrev none : Step
none = record { edge = 0; to = 0 }

pub loop-arrival-init : goal.loop-arrival-init
loop-arrival-init c = put_begins c.args.agenda.now.items c.args.steps.now c.args.onward

-- the step of the arrival that is taken off
step_there : (steps : List Step) (at : ℕ) (left before : ℕ) (onward : ℕ) → onward ≡ length steps → before ≤ onward → before ≡ left + 1 → at ≡ left → slice_get steps left ≡ Some (get_or steps at none)
step_there steps at left before onward same few long is =
    let lt : at < length steps = omega (arith, same, few, long, is) in
    subst (λ n. slice_get steps n ≡ Some (get_or steps at none)) is (slice_get-get_or steps at none lt)

pub put-requires : goal.put-requires
put-requires c =
    let long = ap length c.in-Some.ensures ∙ length-append c.pop.new.self (c.in-Some.arrival ∷ []) in
    let there = step_there c.args.steps.now c.len.result (length c.pop.new.self) (length c.loop-arrival.left) (length c.args.onward) c.requires.same c.loop-arrival.invariant.few long c.len.ensures in
    let within = c.requires.places (length c.pop.new.self) (get_or c.args.steps.now c.len.result none) there in
    let rows = c.loop-arrival.invariant.put.rows in
    omega (arith, within, rows)

pub loop-arrival-preserved : goal.loop-arrival-preserved
loop-arrival-preserved c =
    let long = ap length c.in-Some.ensures ∙ length-append c.pop.new.self (c.in-Some.arrival ∷ []) in
    let there = step_there c.args.steps.now c.len.result (length c.pop.new.self) (length c.loop-arrival.left) (length c.args.onward) c.requires.same c.loop-arrival.invariant.few long c.len.ensures in
    put_goes_on c.args.agenda.now.items c.loop-arrival.agenda.items c.put.new.agenda.items c.args.steps.now c.args.onward c.loop-arrival.left c.pop.new.self (get_or c.args.steps.now c.len.result none) c.in-Some.arrival c.loop-arrival.invariant c.requires.same c.requires.places c.in-Some.ensures there c.in_ok-put.ensures
