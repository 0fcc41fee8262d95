use Rattle.std.proofs.Common.{◌≡◌, ◌+◌, ◌^◌, ◌<◌, ◌≤◌, ◌==◌, length, sym, ◌∙◌, ap, subst, arith}
use Rattle.std.specs.Int.{bit_at}
use Rattle.goals.specs.declared.goal_letter.GoalLetter.TheVariants.{Absent, Predicate}
use Rattle.measurer_index.specs.word_index.Groups.{Continues, IsAbsentBelow, IsPredicateBelow}
use Rattle.measurer_index.specs.word_index.Numbers.{Adds}
use Rattle.measurer_index.proofs.word_index.Steps.{on_ok, with_staying, with_none, predicate_absent, predicate_there, letter_more, none_hold, none_stay, staying, ended_and_staying, narrowed_past, same_more, same_last, same_done}
use Rattle.measurer_index.proofs.word_index.walk.+walk.Goals as goal

pub add_with-returns-in_ok-add_walks : goal.add_with-returns-in_ok-add_walks
add_with-returns-in_ok-add_walks t c = with_staying _ _ _ _ _ _ _ _ c.in_ok-narrow.ensures c.requires.stays _ _ c.in_ok-add_walks.ensures

pub add_with-returns-else-narrow : goal.add_with-returns-else-narrow
add_with-returns-else-narrow t c = with_none _ _ _ c.args.last _ c.args.at _ _ c.in_ok-narrow.ensures c.requires.stays c.args.numbers.now c.if-narrow.false

pub add_with_predicate-returns-then-not-has_bit : goal.add_with_predicate-returns-then-not-has_bit
add_with_predicate-returns-then-not-has_bit t c =
    predicate_absent c.args.goals.now c.args.order.now c.args.path.now c.args.last c.args.group c.args.at c.args.number c.args.numbers.now c.has_bit.result
    (c.has_bit.ensures ∙ ap (λ m. bit_at m c.args.number == 1) c.mask_at.ensures.mask) c.if-not-has_bit.true

pub add_with_predicates-returns-then-mask_at-eq0 : goal.add_with_predicates-returns-then-mask_at-eq0
add_with_predicates-returns-then-mask_at-eq0 t c =
    none_hold c.args.goals.now c.args.order.now c.args.path.now c.args.last c.args.group c.args.at 64 c.args.numbers.now (sym c.mask_at.ensures.mask ∙ c.if-mask_at-eq0.true)

pub add_with_predicates-loop-number-preserved : goal.add_with_predicates-loop-number-preserved
add_with_predicates-loop-number-preserved t c =
    letter_more c.args.goals.now c.args.order.now c.args.path.now c.args.last c.args.group c.args.at Predicate c.loop-number.number _ _ _ c.loop-number.invariant c.in_ok-add_with_predicate.ensures

pub add_with_predicates-returns : goal.add_with_predicates-returns
add_with_predicates-returns t c =
    let e : c.loop-number.number ≡ 64 = omega arith in
    subst (λ n. Adds (Continues c.args.goals.now c.args.order.now c.args.path.now c.args.last (IsPredicateBelow n) c.args.group c.args.at) c.args.numbers.now c.loop-number.numbers) e c.loop-number.invariant

pub add_with_absent-returns-then-has_bit : goal.add_with_absent-returns-then-has_bit
add_with_absent-returns-then-has_bit t c =
    predicate_there c.args.goals.now c.args.order.now c.args.path.now c.args.last c.args.group c.args.at c.args.number c.args.numbers.now c.has_bit.result
    (c.has_bit.ensures ∙ ap (λ m. bit_at m c.args.number == 1) c.mask_at.ensures.mask) c.if-has_bit.true

pub add_with_absents-loop-number-preserved : goal.add_with_absents-loop-number-preserved
add_with_absents-loop-number-preserved t c =
    letter_more c.args.goals.now c.args.order.now c.args.path.now c.args.last c.args.group c.args.at Absent c.loop-number.number _ _ _ c.loop-number.invariant c.in_ok-add_with_absent.ensures

pub add_with_absents-returns : goal.add_with_absents-returns
add_with_absents-returns t c =
    let e : c.loop-number.number ≡ c.args.group.absents = omega arith in
    subst (λ n. Adds (Continues c.args.goals.now c.args.order.now c.args.path.now c.args.last (IsAbsentBelow n) c.args.group c.args.at) c.args.numbers.now c.loop-number.numbers) e c.loop-number.invariant

pub add_staying-returns : goal.add_staying-returns
add_staying-returns t c =
    let small = subst (λ m. m < 2 ^ 64) c.mask_at-mask.ensures.mask c.mask_at-mask.ensures.small in
    on_ok c.add_with_absents.result _ _
    (λ h. staying c.args.goals.now c.args.order.now c.args.path.now c.args.last c.args.group c.args.at small c.requires.group c.node_letter-node.result c.node_letter-node.ensures _ _ _ _ c.in_ok-add_with.ensures c.in_ok-add_with_predicates.ensures h)
    c.add_with_absents.ensures

pub add_staying-returns-then-group : goal.add_staying-returns-then-group
add_staying-returns-then-group t c = none_stay c.args.goals.now c.args.order.now c.args.path.now c.args.last c.args.group c.args.at c.args.numbers.now c.if-group.true

pub add_walks-returns-then-at-edges : goal.add_walks-returns-then-at-edges
add_walks-returns-then-at-edges t c =
    let size = ap length c.edges.ensures.edges in
    let past = c.if-at-edges.true in
    let le : length c.args.path.now.edges ≤ c.loop-group.at = omega arith in
    same_last c.args.goals.now c.args.order.now c.args.path.now c.args.last c.args.group c.args.at c.args.numbers.now c.loop-group.group c.loop-group.at _ _ c.loop-group.invariant.same (ended_and_staying c.args.goals.now c.args.order.now c.args.path.now c.args.last c.loop-group.group c.loop-group.at _ c.past_ends-rest.ensures _ _ _ (c.in_ok-add_ends.ensures c.args.goals.now c.past_ends-rest.ensures) c.in_ok-add_staying.ensures) le

pub add_walks-loop-group-preserved : goal.add_walks-loop-group-preserved
add_walks-loop-group-preserved t c =
    let size = ap length c.edges.ensures.edges in
    let before = c.if-at-edges.false in
    let deep = c.in_ok-group.ensures.deeper in
    let was = c.loop-group.invariant.deeper in
    let within : c.loop-group.at + 1 ≤ length c.args.path.now.edges = omega arith in
    let deeper : c.args.group.depth ≤ c.in_ok-group.group.depth = omega arith in
    record {
      is_group = c.in_ok-group.ensures.group;
      within = within;
      deeper = deeper;
      same = same_more c.args.goals.now c.args.order.now c.args.path.now c.args.last c.args.group c.args.at c.args.numbers.now c.loop-group.group c.in_ok-group.group c.loop-group.at c.edge_letter-edge.result _ _ c.loop-group.invariant.same (ended_and_staying c.args.goals.now c.args.order.now c.args.path.now c.args.last c.loop-group.group c.loop-group.at _ c.past_ends-rest.ensures _ _ _ (c.in_ok-add_ends.ensures c.args.goals.now c.past_ends-rest.ensures) c.in_ok-add_staying.ensures) c.edge_letter-edge.ensures (narrowed_past c.args.goals.now c.args.order.now c.args.path.now c.args.last c.loop-group.group c.loop-group.at _ c.past_ends-rest.ensures _ _ c.in_ok-group.ensures);
    }

pub add_walks-returns : goal.add_walks-returns
add_walks-returns t c =
    same_done c.args.goals.now c.args.order.now c.args.path.now c.args.last c.args.group c.args.at c.args.numbers.now c.loop-group.group c.loop-group.at c.loop-group.numbers c.loop-group.invariant.same c.loop-group-test.false
