use Rattle.std.proofs.Common.{sym, ◌∙◌, arith}
use Rattle.std.proofs.lemmas.List.{get_or_default}
use Rattle.cfa.specs.Rules.{array_fits}
use Rattle.cfa.proofs.Matched.{matched-apart, matched-end, matched_fails, matched_goes}
use Rattle.cfa.proofs.edge.arrays_fit.Goals as goal

pub returns-then-places-lengths : goal.returns-then-places-lengths
returns-then-places-lengths c = sym (matched-apart (array_fits c.args.room.now) c.args.places.now c.args.lengths.now c.if-places-lengths.true)

pub returns-then-not-array_fits : goal.returns-then-not-array_fits
returns-then-not-array_fits c =
    let places = c.args.places.now in
    let lengths = c.args.lengths.now in
    let i = c.loop-i.i in
    let within = c.loop-i-test.true in
    let long = c.loop-i.invariant.long in
    matched_fails (array_fits c.args.room.now) places lengths i _ _ _ _ long within
    (get_or_default places i _ _ within) (get_or_default lengths i _ _ (omega arith)) c.array_fits.ensures c.loop-i.invariant.rest c.if-not-array_fits.true

pub loop-i-preserved : goal.loop-i-preserved
loop-i-preserved c =
    let places = c.args.places.now in
    let lengths = c.args.lengths.now in
    let i = c.loop-i.i in
    let within = c.loop-i-test.true in
    let long = c.loop-i.invariant.long in
    record {
      long = long;
      rest = matched_goes (array_fits c.args.room.now) places lengths i _ _ _ _ long within
          (get_or_default places i _ _ within) (get_or_default lengths i _ _ (omega arith)) c.array_fits.ensures c.loop-i.invariant.rest c.if-not-array_fits.false;
    }

pub returns : goal.returns
returns c =
    sym (matched-end (array_fits c.args.room.now) c.args.places.now c.args.lengths.now c.loop-i.i (omega arith) (omega (arith, c.loop-i.invariant.long)))
    ∙ c.loop-i.invariant.rest
