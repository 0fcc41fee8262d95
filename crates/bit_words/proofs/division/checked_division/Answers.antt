use Rattle.std.proofs.Common.{◌≡◌, ℕ, ◌/◌, ◌%◌, ◌<◌, true, sym, ap, ◌∙◌, subst, arith}
use Rattle.std.specs.Prelude.{unsigned_abs}
use Rattle.circuit.specs.Truth.{World}
use Rattle.c_values.specs.Kind.{number_of}
use Rattle.c_values.specs.Operations.{has_quotient}
use Rattle.bit_words.specs.Words.{word_value}
use Rattle.bit_words.proofs.Steps.{grows_then, grows_within, same, still}
use Rattle.bit_words.proofs.Values.{word_later, word_value-later}
use Rattle.bit_words.proofs.QuotientLemmas.{positive}
use Rattle.bit_words.proofs.division.checked_division.Goals as goal

pub divided-requires-clause-left : goal.divided-requires-clause-left
divided-requires-clause-left c = word_later c.quotient_exists.ensures.grows c.args.kind c.args.a.now c.requires.left

pub divided-requires-clause-right : goal.divided-requires-clause-right
divided-requires-clause-right c = word_later c.quotient_exists.ensures.grows c.args.kind c.args.b.now c.requires.right

pub returns-in_err-exists-clause-grows : goal.returns-in_err-exists-clause-grows
returns-in_err-exists-clause-grows c = grows_within _ c.quotient_exists.ensures.grows (omega arith)

pub returns-in_err-quotient-clause-grows : goal.returns-in_err-quotient-clause-grows
returns-in_err-quotient-clause-grows c = grows_within _ (grows_then c.quotient_exists.ensures.grows c.divided.ensures.grows) (omega arith)

pub returns : goal.returns
returns c =
    let kind = c.args.kind in
    let grown = c.quotient_exists.ensures.grows in
    let first = c.quotient_exists.new.circuit in
    let exists = c.in_ok-exists.exists in
    let a = word_value-later grown c.args.a.now c.requires.left.wires in
    let b = word_value-later grown c.args.b.now c.requires.right.wires in
    let size : ℕ → ℕ = λ v. unsigned_abs (number_of kind v) in
    let some : (w : World) → has_quotient kind (word_value c.args.circuit.now c.args.a.now w) (word_value c.args.circuit.now c.args.b.now w) ≡ true → 0 < size (word_value first c.args.b.now w) =
    λ w e. subst (λ v. 0 < size v) (sym (b w)) (positive kind _ _ (c.requires.left.values w) (c.requires.right.values w) e) in
    record {
      grows = grows_within _ (grows_then grown c.divided.ensures.grows) (omega arith);
      wires = (c.in_ok-quotient.ensures.wires.0, c.in_ok-quotient.ensures.wires.1, still c.divided.ensures.grows exists c.in_ok-exists.ensures.wire);
      exists = λ w. same c.divided.ensures.grows exists c.in_ok-exists.ensures.wire w ∙ c.in_ok-exists.ensures.value w;
      quotient = λ w e. c.in_ok-quotient.ensures.quotient w (some w e)
          ∙ ap (λ v. size v / size (word_value first c.args.b.now w)) (a w) ∙ ap (λ v. size (word_value c.args.circuit.now c.args.a.now w) / size v) (b w);
      remainder = λ w e. c.in_ok-quotient.ensures.remainder w (some w e)
          ∙ ap (λ v. size v % size (word_value first c.args.b.now w)) (a w) ∙ ap (λ v. size (word_value c.args.circuit.now c.args.a.now w) % size v) (b w);
    }
