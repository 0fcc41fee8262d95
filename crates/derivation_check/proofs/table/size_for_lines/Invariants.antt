use Rattle.std.proofs.Common.{◌≡◌, true, take}
use Rattle.std.specs.List.{list_all}
use Rattle.cnf.specs.literal_marks.Marks.{has_places}
use Rattle.cnf.specs.declared.literal_marks.places.Places.TheVariants.{ByKey}
use Rattle.derivation_check.proofs.table.size_for_lines.Given as goal

abbrev pub invariant-loop-line : goal.invariant-loop-line
invariant-loop-line l = list_all (λ line. has_places ByKey l.size line.clause) (take l.line-index l.lines) ≡ true
