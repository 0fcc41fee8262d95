use Rattle.std.proofs.Common.{rules, SFits, w32, get_or}
use Rattle.std.proofs.lemmas.Int.{to_z-of_z}
use Rattle.std.specs.Prelude.{pos}
use Rattle.cnf.proofs.literal_marks.MarksLaws.{others_more, found_here, not_found_here}
use Rattle.cnf.proofs.literal_marks.marks.mark_others.Goals as goal
use Rattle.cnf.proofs.literal_marks.marks.mark_others.Goals.{then-mark_other, else-mark_other}

pub loop-literal-preserved : goal.loop-literal-preserved
loop-literal-preserved c =
    let skipped_fits = c.ranges.skipped in
    let literal_fits : SFits w32 (get_or c.args.literals.now c.loop-literal.literal-index (pos 0)) = search rules in
    let is = simp to_z-of_z at c.mark_other.ensures.found in
    let step = simp to_z-of_z at c.mark_other.ensures.marks in
    let before = simp to_z-of_z at c.loop-literal.invariant.marks in
    let found_before = simp to_z-of_z at c.loop-literal.invariant.found in
    let h = c.loop-literal-test.true in
    record {
      found = elim c.if-mark_other.branch [
        | then-mark_other w ↦ rw w.found-is (simp to_z-of_z (found_here _ _ _ _ _ h is found_before w.if-mark_other.true))
        | else-mark_other w ↦ rw w.found-is (simp to_z-of_z (not_found_here _ _ _ _ _ h is found_before w.if-mark_other.false))
      ];
      marks = simp to_z-of_z (others_more _ _ _ _ _ _ _ h before step);
    }
