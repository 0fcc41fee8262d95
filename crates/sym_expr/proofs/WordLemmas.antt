-- Words of tests, and words whose literal always holds.
use Rattle.std.proofs.Common.{◌≡◌, ℕ, ◌^◌, ◌<◌, Bool, false, cond, List, Some, None, sym, subst, ◌∙◌, ap, ⊎_elim, bit_and, ◌/◌, arith}
use Rattle.std.specs.Prelude.{All, ◌==◌}
use Rattle.std.specs.Int.{bit_at}
use Rattle.std.proofs.lemmas.Bool.Decides.{eqb_tells}
use Rattle.std.proofs.lemmas.Nat.Bits.{shr_and_one, bit_at-lt}
use Rattle.circuit.specs.Truth.{World}
use Rattle.circuit.specs.Wires.{IsWire}
use Rattle.circuit.specs.declared.lit.Lit.{Lit}
use Rattle.circuit.specs.declared.lit.Gate.{Gate}
use Rattle.c_values.specs.declared.kinds.Kind.{Kind}
use Rattle.c_values.specs.Kind.{IsValue, int}
use Rattle.c_values.specs.Operations.{is_equal, truth_of}
use Rattle.c_values.proofs.Fitting.{IsValue-truth_of}
use Rattle.c_values.proofs.Machine.{machine_equal}
use Rattle.bit_words.specs.Words.{IsWord, word_value}
use Rattle.bit_words.proofs.Digits.{word_value-lt}
use Rattle.bit_words.proofs.Values.{yes_holds}
use Rattle.sym_expr.specs.Stores.{outcome_in}

-- what a test gives is a word of int
pub test_is_word : (gates : List Gate) (word : List Lit) (test : World → Bool) → All (IsWire gates) word → ((w : World) → word_value gates word w ≡ truth_of (test w)) → IsWord gates int word
test_is_word gates word test h is = record {
  wires = h;
  values = λ w. subst (IsValue int) (sym (is w)) (IsValue-truth_of (test w));
}

-- a pattern of 64 bits is 0 exactly where it is a zero of its kind
pub zero_test : (gates : List Gate) (word : List Lit) (kind : Kind) (w : World) (t : Bool) → t ≡ (word_value gates word w == 0) → t ≡ is_equal kind (word_value gates word w) 0
zero_test gates word kind w t e = e ∙ machine_equal kind (word_value gates word w) 0 (word_value-lt gates word w) (omega arith)

-- a bit of a number, as the machine tells it
pub bit_test : (n i : ℕ) → cond (bit_and (n / 2 ^ i) 1 == 1) 1 0 ≡ bit_at n i
bit_test n i = by_test (bit_at n i) (bit_and (n / 2 ^ i) 1) (bit_at-lt n i) (shr_and_one n i)
  where
    by_test : (b v : ℕ) → b < 2 → v ≡ b → cond (v == 1) 1 0 ≡ b
    by_test b v small e = ⊎_elim
        (λ yes. ap (λ t. cond t 1 0) yes.0 ∙ sym yes.1 ∙ e)
        (λ no. ap (λ t. cond t 1 0) no.0 ∙ (let n = no.1 in let zero : 0 ≡ b = omega arith in zero))
        (eqb_tells v 1)

-- beside the literal that always holds a word has a value
pub sure_outcome : (gates : List Gate) (word : List Lit) (w : World) → outcome_in gates (word, record { wire = 0; negated = false }) w ≡ Some (word_value gates word w)
sure_outcome gates word w = ap (λ t. cond t (Some (word_value gates word w)) None) (yes_holds gates w)
