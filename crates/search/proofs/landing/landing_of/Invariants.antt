use Rattle.std.proofs.Common.{◌-◌}
use Rattle.cnf.specs.literal_marks.Marks.{marked}
use Rattle.cnf.specs.declared.literal_marks.places.Places.TheVariants.{ByKey}
use Rattle.search.proofs.LandingLaws.{IsLandingSo}
use Rattle.search.proofs.landing.landing_of.Given as goal

abbrev pub invariant-loop-back : goal.invariant-loop-back
invariant-loop-back l = record {
  so : IsLandingSo l.trail (marked ByKey l.marks) l.literal l.place (l.place - l.back) l.cut;
}
