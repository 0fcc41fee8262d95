use Rattle.std.proofs.Common.{arith}
use Rattle.std.specs.Prelude.{slice_index_or}
use Rattle.std.proofs.lemmas.Option.{slice_get-get_or}
use Rattle.cfa.specs.declared.expr.ArrayPlace.TheVariants as array
use Rattle.c_meaning.proofs.Elements.{array_within}
use Rattle.c_meaning.proofs.words.starts_of.Goals as goal

pub array_start-requires : goal.array_start-requires
array_start-requires c =
    let at = c.loop-array.array-index in
    c.requires.fits at (slice_index_or c.args.arrays.now at (array.Global 0)) (slice_get-get_or c.args.arrays.now at (array.Global 0) c.loop-array-test.true)

pub overflow_cast-array_start : goal.overflow_cast-array_start
overflow_cast-array_start c =
    let at = c.loop-array.array-index in
    let this = slice_index_or c.args.arrays.now at (array.Global 0) in
    let fit = c.requires.fits at this (slice_get-get_or c.args.arrays.now at (array.Global 0) c.loop-array-test.true) in
    let within = array_within c.args.store.now this fit.0 c.requires.room fit.1 in
    omega (arith, within, c.array_start.ensures, c.requires.room.few)
