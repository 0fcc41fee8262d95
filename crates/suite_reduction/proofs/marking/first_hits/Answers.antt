use Rattle.std.proofs.Common.{◌≡◌, length, sym, ◌∙◌}
use Rattle.std.proofs.Math.Seq.{take-append_seam}
use Rattle.suite_reduction.proofs.MarksLaws.{first_hits-more, first_hits-none}
use Rattle.suite_reduction.proofs.marking.first_hits.Goals as goal

pub loop-place-init : goal.loop-place-init
loop-place-init c = record {
  same_length = c.in_ok-firsts.ensures.len;
  so_far = rw (c.in_ok-firsts.ensures.items_if_clones_equal (λ y same. same)) (first_hits-none c.args.count);
}

pub loop-place-preserved : goal.loop-place-preserved
loop-place-preserved c =
    let long : c.loop-place.firsts.len ≡ length c.mark.new.firsts = sym c.deref_mut.ensures.len ∙ sym c.mark.auto.firsts in
    record {
      same_length = c.loop-place.invariant.same_length;
      so_far =
          rw (long, take-append_seam) (first_hits-more _ _ _ _ c.as_slice.result.now _ _ c.loop-place-test.true
          (c.as_slice.ensures ∙ c.goals-item.is) (c.deref_mut.ensures.value ∙ c.loop-place.invariant.so_far) c.mark.ensures);
    }
