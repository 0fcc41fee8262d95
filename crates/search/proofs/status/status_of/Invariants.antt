use Rattle.std.proofs.Common.{◌≡◌, take, option_to_list}
use Rattle.cnf.specs.literal_marks.Marks.{marked}
use Rattle.cnf.specs.declared.literal_marks.places.Places.TheVariants.{ByKey}
use Rattle.search.specs.Machine.{remaining}
use Rattle.search.proofs.status.status_of.Given as goal

abbrev pub invariant-loop-literal : goal.invariant-loop-literal
invariant-loop-literal l = record {
  left : remaining (marked ByKey l.values) (take l.literal-index l.literal-items) ≡ option_to_list l.left;
  items : l.literal-items ≡ l.clause;
}
