use Rattle.std.proofs.Common.{◌≡◌, ◌∙◌, ◌-◌, ◌<◌, Bool, List, Some, ap, arith, get_or, length, subst, true, false}
use Rattle.std.specs.Prelude.{slice_get}
use Rattle.std.proofs.lemmas.Option.{slice_get-get_or}
use Rattle.suite.proofs.pool.Pool.is_refuted.Goals as goal

pub returns : goal.returns
returns c = λ yes parts f p plan bounds ends g pool there.
    let place = c.args.goal - 1 in
    let read = c.as_slice-refuted.result.now in
    let past = c.if-place-refuted.false in
    let same = c.saturating_sub-place.ensures in
    let within : place < length read = omega (arith, past, same) in
    let noted : get_or read place false ≡ true = subst (λ k. get_or read k false ≡ true) same yes in
    let at : slice_get read place ≡ Some true = slice_get-get_or read place false within ∙ ap Some noted in
    pool.refuted place g there (subst (λ (xs : List Bool). slice_get xs place ≡ Some true) c.as_slice-refuted.ensures.value at)
