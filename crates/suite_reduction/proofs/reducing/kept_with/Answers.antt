use Rattle.std.proofs.Common.{◌≡◌, true, ◌+◌, ◌-◌, ◌<◌, length, sym, ◌∙◌, arith}
use Rattle.std.proofs.Math.Seq.{take-append_seam}
use Rattle.suite_reduction.specs.Marks.{are_goals}
use Rattle.suite_reduction.proofs.MarksLaws.{first_hits-none, list_all-get_or}
use Rattle.suite_reduction.proofs.SuiteLaws.{kept_at, kept_before, list_added, none_at_end, number_added}
use Rattle.suite_reduction.proofs.reducing.kept_with.Goals as goal

pub loop-place-init : goal.loop-place-init
loop-place-init c = record {
  numbers = c.new-kept.ensures.items ∙ (none_at_end c.args.hits.now.lists.now 0).0;
  later =
      c.in_ok-later.ensures.items_if_clones_equal (λ y same. same) ∙ first_hits-none (length c.args.firsts.now)
      ∙ (none_at_end c.args.hits.now.lists.now (length c.args.firsts.now)).1;
  same_length = c.in_ok-later.ensures.len;
  few = omega (arith, c.new-kept.ensures.len);
}

pub loop-place-preserved : goal.loop-place-preserved
loop-place-preserved c =
    let is = c.as_slice-goals.ensures in
    let within : c.loop-place.place - 1 < length c.args.hits.now.lists.now = omega (arith, c.loop-place-test.true, c.loop-place.auto.place) in
    let goals : are_goals (length c.args.firsts.now) c.as_slice-goals.result.now ≡ true =
    rw is (list_all-get_or _ c.args.hits.now.lists.now _ _ c.requires.goals within) in
    let before = kept_before _ _ _ _ _ _ _ c.loop-place-test.true c.loop-place.auto.place is goals c.requires.firsts
    (c.deref.ensures.value ∙ c.loop-place.invariant.later) c.is_redundant.ensures in
    let same = rw c.if-not-is_redundant.false at before in
    record {
      numbers = rw same c.loop-place.invariant.numbers;
      later = rw same c.loop-place.invariant.later;
      same_length = c.loop-place.invariant.same_length;
      few = omega (arith, c.loop-place.invariant.few);
    }

pub loop-place-preserved-in-Continue-branch-2 : goal.loop-place-preserved-in-Continue-branch-2
loop-place-preserved-in-Continue-branch-2 c =
    let is = c.as_slice-goals.ensures in
    let within : c.loop-place.place - 1 < length c.args.hits.now.lists.now = omega (arith, c.loop-place-test.true, c.loop-place.auto.place) in
    let goals : are_goals (length c.args.firsts.now) c.as_slice-goals.result.now ≡ true =
    rw is (list_all-get_or _ c.args.hits.now.lists.now _ _ c.requires.goals within) in
    let before = kept_before _ _ _ _ _ _ _ c.loop-place-test.true c.loop-place.auto.place is goals c.requires.firsts
    (c.deref.ensures.value ∙ c.loop-place.invariant.later) c.is_redundant.ensures in
    let kept = rw c.if-not-is_redundant.true at before in
    let long : c.loop-place.later.len ≡ length c.mark.new.firsts = sym c.deref_mut.ensures.len ∙ sym c.mark.auto.firsts in
    record {
      numbers = rw (kept, c.in_ok-push.ensures.items) (number_added (kept_at c.args.hits.now.lists.now c.loop-place.place) _ (c.loop-place.place - 1 + 1) c.as_slice-goals.result.now c.loop-place.invariant.numbers);
      later =
          rw (kept, long, take-append_seam) (list_added (kept_at c.args.hits.now.lists.now c.loop-place.place) c.loop-place.kept.items (c.loop-place.place - 1 + 1) c.as_slice-goals.result.now _ _ _ _ c.loop-place.invariant.numbers
          (omega (arith, c.len.ensures)) (c.deref_mut.ensures.value ∙ c.loop-place.invariant.later) c.mark.ensures);
      same_length = c.loop-place.invariant.same_length;
      few = omega (arith, c.in_ok-push.ensures.len, c.loop-place.invariant.few, c.loop-place-test.true);
    }
