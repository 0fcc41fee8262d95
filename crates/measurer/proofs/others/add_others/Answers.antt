use Rattle.std.proofs.Common.{sym, subst}
use Rattle.measurer.specs.Openings.{AreFirstPlaces}
use Rattle.measurer.proofs.Matchers.{no_others}
use Rattle.measurer.proofs.others.add_others.Goals as goal

pub add_matched-requires-clause-places : goal.add_matched-requires-clause-places
add_matched-requires-clause-places c =
    let made = subst (λ p. AreFirstPlaces c.edges-edges.result.now p) (sym c.deref.ensures.value) c.in_ok-places.ensures in
    subst (λ e. AreFirstPlaces e c.deref.result.now) c.edges-edges.ensures.edges made

pub returns-then-count-eq0 : goal.returns-then-count-eq0
returns-then-count-eq0 c = λ goals made. no_others c.args.sets.now goals c.args.first c.args.last c.args.path.now c.args.matchers.now made c.args.numbers.now c.if-count-eq0.true
