use Rattle.std.proofs.Common.{rules, SFits, w64}
use Rattle.std.proofs.lemmas.Int.{to_z-of_z}
use Rattle.certificate.proofs.RowLaws.{row_stops, row_goes, row_ends, small_more}
use Rattle.certificate.proofs.row.read_row.Goals as goal

pub returns-in-None : goal.returns-in-None
returns-in-None c =
    row_stops _ _ _ _ _ c.loop-word.invariant.small c.loop-word.invariant.text c.in-Some.ensures.0 c.in-Some.ensures.1 c.in-None.ensures

pub loop-word-preserved : goal.loop-word-preserved
loop-word-preserved c =
    let fits : SFits w64 c.in-Some-integer_of.number = search rules in
    let pushed = simp to_z-of_z at c.in_ok-push-in-Some-integer_of.ensures.items in
    let number = c.in-Some-integer_of.ensures in
    record {
      small = rw pushed (small_more _ _ c.loop-word.invariant.small number.0);
      text = rw pushed (row_goes _ _ _ _ _ _ c.loop-word.invariant.text c.in-Some.ensures.0 number.1);
    }

pub returns : goal.returns
returns c = row_ends _ _ _ _ c.loop-word.invariant.small c.loop-word.invariant.text c.in_default.ensures c.is_zero.ensures
