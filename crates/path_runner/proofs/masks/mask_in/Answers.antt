use Rattle.std.proofs.Common.{◌<◌, ◌^◌, sym, subst, map, drop, arith, length-drop}
use Rattle.std.proofs.lemmas.List.{length-map}
use Rattle.path_runner.specs.Masks.{holds}
use Rattle.path_runner.proofs.Bits.{bits_few}
use Rattle.path_runner.proofs.masks.mask_in.Goals as goal

pub with_bit-mask-requires : goal.with_bit-mask-requires
with_bit-mask-requires c =
    let rest = drop c.loop-at.at c.args.rows.now in
    let test = holds c.args.scope c.args.state.now in
    let long = length-map rest test in
    let left = length-drop c.loop-at.at c.args.rows.now in
    subst (λ m. m < 2 ^ 63) (sym c.loop-at.invariant.so_far) (bits_few (map test rest) 63 (omega arith))
