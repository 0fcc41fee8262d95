use Rattle.std.proofs.Common.{◌≡◌, ℕ, ◌/◌, ◌%◌, ◌<◌, ap, ◌∙◌, arith}
use Rattle.circuit.specs.Truth.{World}
use Rattle.std.specs.Prelude.{unsigned_abs}
use Rattle.c_values.specs.Kind.{number_of}
use Rattle.bit_words.specs.Words.{word_value, low_value}
use Rattle.bit_words.proofs.Steps.{grows_then, grows_within}
use Rattle.bit_words.proofs.Digits.{low_value-later}
use Rattle.bit_words.proofs.Values.{width_of_word, least_width, word_later, word_value-later}
use Rattle.bit_words.proofs.QuotientLemmas.{divided_by}
use Rattle.bit_words.proofs.division.divided.Goals as goal

pub long_division-requires-clause-some : goal.long_division-requires-clause-some
long_division-requires-clause-some c = omega (arith, least_width c.requires.left)

pub long_division-requires-clause-width : goal.long_division-requires-clause-width
long_division-requires-clause-width c = width_of_word c.requires.left

pub magnitude-requires-2-clause-operand : goal.magnitude-requires-2-clause-operand
magnitude-requires-2-clause-operand c = word_later c.magnitude.ensures.grows c.args.kind c.args.b.now c.requires.right

pub returns-in_err-left-clause-grows : goal.returns-in_err-left-clause-grows
returns-in_err-left-clause-grows c = grows_within _ c.magnitude.ensures.grows (omega arith)

pub returns-in_err-right-clause-grows : goal.returns-in_err-right-clause-grows
returns-in_err-right-clause-grows c = grows_within _ (grows_then c.magnitude.ensures.grows c.magnitude-2.ensures.grows) (omega arith)

pub returns-in_err-quotient-clause-grows : goal.returns-in_err-quotient-clause-grows
returns-in_err-quotient-clause-grows c = grows_within _ (grows_then (grows_then c.magnitude.ensures.grows c.magnitude-2.ensures.grows) c.long_division.ensures.grows) (omega arith)

pub returns : goal.returns
returns c =
    let kind = c.args.kind in
    let old = c.args.circuit.now in
    let second = c.magnitude-2.new.circuit in
    let last = c.long_division.new.circuit in
    let size : ℕ → ℕ = λ v. unsigned_abs (number_of kind v) in
    let x : World → ℕ = λ w. size (word_value old c.args.a.now w) in
    let y : World → ℕ = λ w. size (word_value old c.args.b.now w) in
    let q : World → ℕ = λ w. low_value kind.width last c.in_ok-quotient.quotient w in
    let r : World → ℕ = λ w. low_value kind.width last c.in_ok-quotient.remainder w in
    let left : (w : World) → low_value kind.width second c.in_ok-left.left w ≡ x w =
    λ w. low_value-later c.magnitude-2.ensures.grows kind.width c.in_ok-left.left c.in_ok-left.ensures.wires w ∙ c.in_ok-left.ensures.value w in
    let right : (w : World) → low_value kind.width second c.in_ok-right.right w ≡ y w =
    λ w. c.in_ok-right.ensures.value w ∙ ap size (word_value-later c.magnitude.ensures.grows c.args.b.now c.requires.right.wires w) in
    let parts : (w : World) → 0 < y w → (q w ≡ x w / y w) × (r w ≡ x w % y w) =
    λ w h. divided_by (x w) (y w) (q w) (r w) (low_value kind.width second c.in_ok-left.left w) (low_value kind.width second c.in_ok-right.right w)
    (left w) (right w) h (c.in_ok-quotient.ensures.value w) (c.in_ok-quotient.ensures.smaller w) in
    record {
      grows = grows_within _ (grows_then (grows_then c.magnitude.ensures.grows c.magnitude-2.ensures.grows) c.long_division.ensures.grows) (omega arith);
      wires = c.in_ok-quotient.ensures.wires;
      quotient = λ w h. (parts w h).0;
      remainder = λ w h. (parts w h).1;
    }
