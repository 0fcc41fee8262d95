use Rattle.std.proofs.Common.{◌≡◌, ◌+◌, ◌<◌, ◌^◌, length}
use Rattle.cnf.specs.Checks.{clauses_before}
use Rattle.cnf.specs.literal_marks.Marks.{marked}
use Rattle.cnf.specs.declared.literal_marks.places.Places.TheVariants.{ByKey}
use Rattle.search.proofs.ScanLaws.{IsScanOf}
use Rattle.search.proofs.scan.look_through.Given as goal

abbrev pub invariant-loop-place : goal.invariant-loop-place
invariant-loop-place l = record {
  lines : l.lines ≡ length l.learned.lines;
  count : l.count ≡ length l.formula.clauses + length l.learned.lines;
  small : l.count < 2 ^ 32;
  found : IsScanOf (marked ByKey l.values) (clauses_before l.formula l.learned (length l.learned.lines)) l.place l.found;
}
