use Rattle.std.proofs.Common.{◌≡◌, ◌∙◌, ◌++◌, length, take, drop, arith}
use Rattle.search.proofs.CutLaws.{cut_values, take_whole}
use Rattle.search.proofs.machine.Machine.cut_before.Goals as goal

pub returns-clause-values : goal.returns-clause-values
returns-clause-values c =
    let before = c.deref_mut.ensures.len in
    let kept = c.unmark_entries.auto.values in
    let same : take c.args.self.now.values.len (c.unmark_entries.new.values ++ drop (length c.unmark_entries.new.values) c.args.self.now.values.items) ≡ c.unmark_entries.new.values =
    take_whole c.unmark_entries.new.values _ c.args.self.now.values.len (omega (arith, before, kept)) in
    let gives = rw (c.deref.ensures.value, c.deref_mut.ensures.value) at c.unmark_entries.ensures in
    λ x. rw same (gives x ∙ cut_values c.args.self.now.trail.items c.args.cut x _ c.requires.distinct (c.requires.values x))
