use Rattle.std.proofs.Common.{◌≡◌, ◌+◌, ◌<◌, ◌≤◌, true, false, length, get_or, set, sym, subst, arith}
use Rattle.std.specs.Prelude.{slice_index}
use Rattle.measurer_index.specs.word_index.Places.{IsOnce}
use Rattle.measurer_index.proofs.word_index.Enough.{Chosen, chosen_all, chosen_more, chosen_none, chosen_skipped}
use Rattle.measurer_index.proofs.word_index.places.step_places.Goals as goal

pub loop-at-init : goal.loop-at-init
loop-at-init c = chosen_none _ _ _ _ _ _ c.len.ensures (c.in_ok-done.ensures.items_if_clones_equal (λ y same. same)) c.new-places.ensures.items

pub loop-at-preserved-then-not-is_open : goal.loop-at-preserved-then-not-is_open
loop-at-preserved-then-not-is_open c =
    chosen_skipped _ _ _ c.loop-at.at _ _ c.loop-at.invariant
    (λ small. subst (λ xs. slice_index c.steps-number-items.result.now c.loop-at.at < length xs → get_or xs (slice_index c.steps-number-items.result.now c.loop-at.at) false ≡ true) c.deref.ensures.value (c.is_open.ensures.done c.if-not-is_open.true) (omega (arith, small, c.loop-at.invariant.marks)))

pub loop-at-preserved : goal.loop-at-preserved
loop-at-preserved c =
    let marks = c.loop-at.invariant.marks in
    let table = subst (λ xs. slice_index c.steps-number-items.result.now c.loop-at.at < length xs) c.deref.ensures.value (c.is_open.ensures.table c.if-not-is_open.false) in
    let small : slice_index c.steps-number-items.result.now c.loop-at.at < length c.args.groups.now = omega (arith, table, marks) in
    let open_ = subst (λ xs. get_or xs (slice_index c.steps-number-items.result.now c.loop-at.at) false ≡ false) c.deref.ensures.value (c.is_open.ensures.open c.if-not-is_open.false) in
    subst (λ ds. Chosen (IsOnce c.args.goals.now c.args.order.now c.args.last c.args.groups.now) c.steps-number-items.result.now (length c.args.groups.now) (c.loop-at.at + 1) ds c.push.new.self.items) (sym c.mark.ensures)
    (subst (λ ps. Chosen (IsOnce c.args.goals.now c.args.order.now c.args.last c.args.groups.now) c.steps-number-items.result.now (length c.args.groups.now) (c.loop-at.at + 1) (set c.loop-at.done.items (slice_index c.steps-number-items.result.now c.loop-at.at) c.is_once-once.result) ps) (sym c.in_ok-push.ensures.items)
    (chosen_more (IsOnce c.args.goals.now c.args.order.now c.args.last c.args.groups.now) c.steps-number-items.result.now (length c.args.groups.now) c.loop-at.at c.loop-at.done.items c.loop-at.places.items c.loop-at.invariant c.is_once-once.result c.loop-at-test.true small open_ c.is_once-once.ensures))

pub returns : goal.returns
returns c = λ absents are. chosen_all c.args.goals.now c.args.order.now absents c.args.path.now c.args.last c.args.edges c.args.groups.now are c.steps-number-items.ensures.path c.loop-at.at _ _
    (subst (λ xs. Chosen (IsOnce c.args.goals.now c.args.order.now c.args.last c.args.groups.now) xs (length c.args.groups.now) c.loop-at.at c.loop-at.done.items c.loop-at.places.items) c.steps-number-items.ensures.steps c.loop-at.invariant)
    (subst (λ xs. length xs ≤ c.loop-at.at) c.steps-number-items.ensures.steps c.loop-at-test.false)
