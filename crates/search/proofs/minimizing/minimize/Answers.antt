use Rattle.std.proofs.Common.{◌∙◌, arith, refl}
use Rattle.cnf.specs.literal_marks.Marks.{marked}
use Rattle.cnf.specs.declared.literal_marks.places.Places.TheVariants.{ByKey}
use Rattle.search.specs.declared.chain.Chain.{Chain}
use Rattle.search.specs.Sound.{all_clauses}
use Rattle.search.proofs.MinimizingLaws.{minimized_going, thinned_then}
use Rattle.search.proofs.minimizing.minimize.Goals as goal

pub loop-place-preserved : goal.loop-place-preserved
loop-place-preserved c = record {
  size = c.drop_implied.ensures.size ∙ c.loop-place.invariant.size;
  thinned =
      thinned_then (all_clauses c.args.formula.now c.args.learned.now) c.args.trail.now (marked ByKey c.args.marks.now) (marked ByKey c.loop-place.marks) (marked ByKey c.drop_implied.new.marks) c.args.chain.now c.loop-place.chain c.drop_implied.new.chain
      c.loop-place.invariant.thinned c.in_ok-drop_implied.ensures.thinned;
}

pub returns-clause-back : goal.returns-clause-back
returns-clause-back c = λ first b.
    let thinned = c.loop-place.invariant.thinned in
    let inside = c.requires.going.gathered.inside in
    rw thinned.low (thinned.back first _ (omega (arith, inside)) b)

pub returns-clause-going : goal.returns-clause-going
returns-clause-going c =
    let mid = c.loop-place.chain in
    let after : Chain = record { start = mid.start; found = c.in_ok-chain.field-0; low = mid.low; steps = mid.steps; seen = mid.seen } in
    minimized_going c.args.formula.now.variables (all_clauses c.args.formula.now c.args.learned.now) c.args.trail.now c.requires.sound.kept (marked ByKey c.args.marks.now) (marked ByKey c.loop-place.marks) c.args.chain.now mid after
    c.requires.going c.loop-place.invariant.thinned refl refl (rw c.deref-2.ensures.value at c.in_ok-chain.ensures)
