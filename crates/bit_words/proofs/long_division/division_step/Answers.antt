use Rattle.std.proofs.Common.{◌≡◌, ◌+◌, ◌-◌, ◌*◌, ◌^◌, ◌<◌, ◌||◌, cond, sym, ap, ◌∙◌, arith}
use Rattle.circuit.specs.Truth.{World}
use Rattle.circuit.specs.Wires.{lit_holds}
use Rattle.bit_words.specs.Words.{low_value, place_value, bit_of}
use Rattle.bit_words.proofs.Steps.{grows_then, grows_within, same}
use Rattle.bit_words.proofs.Digits.{all_still, low_value-later, low_value-lt, lit_at, bit_of-later}
use Rattle.bit_words.proofs.Moved.{low_value-chosen}
use Rattle.bit_words.proofs.DivisionLemmas.{low_value-appended, step_value, StepValue, place_small}
use Rattle.bit_words.proofs.long_division.division_step.Goals as goal

-- whether the rest is less than the divisor, by the bit over the width and the difference's carry
before_bit : (c : goal.In_ok-rest) (w : World) → lit_holds c.either.new.circuit c.in_ok-bit.bit w ≡ (bit_of c.args.circuit.now c.args.rest.now w (c.args.width - 1) || lit_holds c.difference.new.circuit c.in_ok-less.fits w)
before_bit c w =
    let old = c.args.circuit.now in
    let mid = c.difference.new.circuit in
    let over = lit_at mid c.args.rest.now w (c.args.width - 1) _ (omega arith) ∙ bit_of-later c.difference.ensures.grows c.args.rest.now c.requires.rest w (c.args.width - 1) in
    c.in_ok-bit.ensures.value w ∙ ap (λ t. t || lit_holds mid c.in_ok-less.fits w) over

bit_is : (c : goal.In_ok-rest) (w : World) → lit_holds c.row.new.circuit c.in_ok-bit.bit w ≡ (bit_of c.args.circuit.now c.args.rest.now w (c.args.width - 1) || lit_holds c.difference.new.circuit c.in_ok-less.fits w)
bit_is c w = same c.row.ensures.grows c.in_ok-bit.bit c.in_ok-bit.ensures.wire w ∙ before_bit c w

step_is : (c : goal.In_ok-rest) (w : World) → low_value c.args.width c.args.circuit.now c.args.rest.now w < low_value c.args.width c.args.circuit.now c.args.b.now w
    → StepValue (low_value c.args.width c.args.circuit.now c.args.rest.now w) (place_value 0 (lit_holds c.args.circuit.now c.args.next w)) (low_value c.args.width c.args.circuit.now c.args.b.now w)
    (low_value c.args.width c.row.new.circuit c.in_ok-rest.rest w) (2 ^ c.args.width) (bit_of c.args.circuit.now c.args.rest.now w (c.args.width - 1) || lit_holds c.difference.new.circuit c.in_ok-less.fits w)
step_is c w h =
    let n = c.args.width in
    let old = c.args.circuit.now in
    let mid = c.difference.new.circuit in
    let doubled = c.appended-doubled.result in
    let less = c.in_ok-less.less in
    let over = bit_of old c.args.rest.now w (n - 1) in
    let d = low_value n old doubled w in
    let l = low_value n mid less w in
    let twice = low_value-appended n old c.args.rest.now doubled w c.requires.some c.requires.width (c.appended-doubled.ensures.high old w) in
    let lowest = ap (place_value 0) (c.appended-doubled.ensures.low old w) in
    let kept_less = low_value-later c.either.ensures.grows n less c.in_ok-less.ensures.wires.0 w in
    let kept_doubled = low_value-later (grows_then c.difference.ensures.grows c.either.ensures.grows) n doubled (c.appended-doubled.ensures.wires old c.requires.rest c.requires.next) w in
    let chosen : low_value n c.row.new.circuit c.in_ok-rest.rest w ≡ cond (over || lit_holds mid c.in_ok-less.fits w) l d =
    low_value-chosen n c.row.new.circuit c.either.new.circuit _ c.in_ok-rest.rest less doubled w (c.in_ok-rest.ensures.bits w)
    ∙ ap (λ t. cond t (low_value n c.either.new.circuit less w) (low_value n c.either.new.circuit doubled w)) (before_bit c w)
    ∙ ap (λ x. cond (over || lit_holds mid c.in_ok-less.fits w) x (low_value n c.either.new.circuit doubled w)) kept_less
    ∙ ap (λ x. cond (over || lit_holds mid c.in_ok-less.fits w) l x) kept_doubled in
    step_value (low_value n old c.args.rest.now w) (place_value 0 (lit_holds old c.args.next w)) (low_value n old c.args.b.now w) d l (low_value n c.row.new.circuit c.in_ok-rest.rest w) (2 ^ n) over (lit_holds mid c.in_ok-less.fits w)
    h (place_small (lit_holds old c.args.next w)) (low_value-lt n old doubled w) (low_value-lt n mid less w) (twice ∙ ap (λ x. 2 * low_value n old c.args.rest.now w + x) lowest) (c.in_ok-less.ensures.value w) (low_value-lt n old c.args.b.now w) chosen

pub returns-in_err-less-clause-grows : goal.returns-in_err-less-clause-grows
returns-in_err-less-clause-grows c = grows_within _ c.difference.ensures.grows (omega arith)

pub returns-in_err-bit-clause-grows : goal.returns-in_err-bit-clause-grows
returns-in_err-bit-clause-grows c = grows_within _ (grows_then c.difference.ensures.grows c.either.ensures.grows) (omega arith)

pub returns-in_err-rest-clause-grows : goal.returns-in_err-rest-clause-grows
returns-in_err-rest-clause-grows c = grows_within _ (grows_then (grows_then c.difference.ensures.grows c.either.ensures.grows) c.row.ensures.grows) (omega arith)

pub returns-clause-grows : goal.returns-clause-grows
returns-clause-grows c = grows_within _ (grows_then (grows_then c.difference.ensures.grows c.either.ensures.grows) c.row.ensures.grows) (omega arith)

pub returns-clause-value : goal.returns-clause-value
returns-clause-value c = λ w h. (step_is c w h).value ∙ ap (λ t. place_value 0 t * low_value c.args.width c.args.circuit.now c.args.b.now w + low_value c.args.width c.row.new.circuit c.in_ok-rest.rest w) (sym (bit_is c w))

pub returns-clause-smaller : goal.returns-clause-smaller
returns-clause-smaller c = λ w h. (step_is c w h).smaller

pub row-requires-clause-right : goal.row-requires-clause-right
row-requires-clause-right c = all_still (grows_then c.difference.ensures.grows c.either.ensures.grows) c.appended-doubled.result (c.appended-doubled.ensures.wires c.args.circuit.now c.requires.rest c.requires.next)
