use Rattle.std.proofs.Common.{◌≡◌, ◌-◌, length, Some, sym}
use Rattle.std.specs.Prelude.{slice_get}
use Rattle.bounds_check.proofs.Cutting.{popped, so_far_more}
use Rattle.bounds_check.proofs.leaving.without_last_zeros.Goals as goal

pub loop-kept-preserved : goal.loop-kept-preserved
loop-kept-preserved c =
    let items = c.loop-kept.kept.items in
    let at : slice_get items (length items - 1) ≡ Some 0 = rw (c.deref.ensures.value, c.in-Some-eq0.field-0-test) at (sym c.in-Some-eq0.ensures.value) in
    so_far_more c.args.numbers items c.pop.new.self.items (popped items c.pop.new.self.items c.pop.result at c.pop.ensures.items (rw c.loop-kept.kept.ok.0 at (c.pop.ensures.value 0))) c.loop-kept.invariant
