-- Words of inputs: what they are in worlds.
use Rattle.std.proofs.Common.{◌≡◌, ℕ, zero, suc, ◌+◌, ◌-◌, ◌/◌, ◌%◌, ◌^◌, ◌<◌, ◌≤◌, false, cond, List, length, get_or, take, pos, refl, sym, subst, ap, ◌∙◌, arith}
use Rattle.std.specs.Prelude.{◌==◌, All, slice_get}
use Rattle.std.specs.Int.{bit_at}
use Rattle.std.proofs.lemmas.List.{get_or-take, length-take}
use Rattle.std.proofs.lemmas.Nat.{pow_pos, shr_split}
use Rattle.std.proofs.lemmas.Nat.Bits.{bit_at-lt, bit_at_cat_low, same_from_bits_below}
use Rattle.std.proofs.lemmas.Option.{get_or_from_slice_get}
use Rattle.circuit.specs.Sharing.{lit_of, no_lit}
use Rattle.circuit.specs.Truth.{World}
use Rattle.circuit.specs.Wires.{IsWire, lit_holds}
use Rattle.circuit.specs.declared.lit.Gate.{Gate}
use Rattle.circuit.specs.declared.lit.Lit.{Lit}
use Rattle.c_values.specs.declared.kinds.Kind.{Kind}
use Rattle.c_values.specs.Kind.{IsKind, wrapped}
use Rattle.c_values.proofs.Bits.{width_below}
use Rattle.c_meaning.proofs.Slices.{slice_get_taken}
use Rattle.bit_words.specs.Words.{IsWord, bit_of, low_value, word_value}
use Rattle.bit_words.proofs.Digits.{bit_at-low_value, bit_of-lit, low_value-lt, low_value-mod}
use Rattle.bit_words.proofs.Values.{wrapped-same}
use Rattle.unwinder.specs.input_words.Inputs.{AreInputs, IsInput}
use Rattle.unwinder.specs.input_words.Parts.{HasInputs, IsInputWord, input_gates}
use Rattle.unwinder.proofs.input_words.GateLemmas.{gate_is, input_holds}

digit_is : (x : ℕ) → x < 2 → cond (x == 1) 1 0 ≡ x
digit_is zero h = refl
digit_is (suc zero) h = refl
digit_is (suc (suc x)) h = absurd (omega arith)

bit_at-low : (n x k : ℕ) → k < n → bit_at (x % 2 ^ n) k ≡ bit_at x k
bit_at-low n x k h = sym (ap (λ y. bit_at y k) (sym (shr_split x n)) ∙ bit_at_cat_low (x / 2 ^ n) n (x % 2 ^ n) k h)

-- a word of which the lowest bits are those of a number
same_low_bits : (width : ℕ) (gates : List Gate) (word : List Lit) (w : World) (v : ℕ) → width ≤ 64 → ((k : ℕ) → k < width → bit_of gates word w k ≡ (bit_at v k == 1)) → word_value gates word w % 2 ^ width ≡ v % 2 ^ width
same_low_bits width gates word w v small bits =
    let power = pow_pos width in
    let below : v % 2 ^ width < 2 ^ width = omega arith in
    sym (low_value-mod width gates word w small)
    ∙ same_from_bits_below width (low_value width gates word w) (v % 2 ^ width) (low_value-lt width gates word w) below (λ k lt.
    bit_at-low_value width gates word w k lt
    ∙ ap (λ b. cond b 1 0) (bits k lt)
    ∙ digit_is (bit_at v k) (bit_at-lt v k)
    ∙ sym (bit_at-low width v k lt))

-- what a kind has of new inputs
pub input_word_is : (first : ℕ) (kind : Kind) (bits result : List Lit) → IsKind kind → HasInputs first kind.width bits → take kind.width result ≡ take kind.width bits
    → ((gates : List Gate) → All (IsWire gates) bits → IsWord gates kind result)
    → ((gates : List Gate) (w : World) → word_value gates result w ≡ wrapped kind (pos (word_value gates bits w)))
    → IsInputWord first kind result
input_word_is first kind bits result is h same word value =
    let small = width_below kind is in
    let long = h.size in
    record {
      enough = omega (arith, ap length same, length-take kind.width result, length-take kind.width bits);
      own = λ k lt d. sym (get_or-take kind.width result k d lt) ∙ ap (λ xs. get_or xs k d) same ∙ get_or-take kind.width bits k d lt ∙ h.own k lt d;
      of_kind = λ gates there. word gates (h.wires gates there);
      value = λ gates w v holds. value gates w ∙ wrapped-same kind (word_value gates bits w) v (same_low_bits kind.width gates bits w v small (λ k lt.
          bit_of-lit gates bits w k no_lit (omega arith)
          ∙ ap (λ l. lit_holds gates l w) (h.own k lt no_lit)
          ∙ holds k lt));
    }

-- over the circuit of inputs alone its bits are inputs
pub are_inputs : (n first : ℕ) (kind : Kind) (word : List Lit) → IsInputWord first kind word → kind.width ≤ 64 → first + kind.width ≤ n → AreInputs (input_gates n) first kind.width word
are_inputs n first kind word h small within =
    record {
      bits = λ k l here.
          let at = slice_get_taken kind.width word k l here in
          let is : l ≡ lit_of (first + k + 1) = sym (get_or_from_slice_get word k l l at.1) ∙ h.own k at.0 l in
          input_at (first + k) l is (omega arith);
      enough = h.enough;
    }
  where
    input_at : (number : ℕ) (l : Lit) → l ≡ lit_of (number + 1) → number < n → IsInput (input_gates n) number l
    input_at number l is lt =
        let back : number + 1 - 1 ≡ number = omega arith in
        let P : Lit → Type 0 = λ x. IsInput (input_gates n) number x in
        subst P (sym is) (record {
          positive = refl;
          gate = ap (slice_get (input_gates n)) back ∙ gate_is n number lt;
          above = omega arith;
        })

-- in a world that has a number's bits at the place of its inputs it is what the kind has of that number
pub word_in_world : (n first : ℕ) (kind : Kind) (word : List Lit) (w : World) (v : ℕ) → IsInputWord first kind word → first + kind.width ≤ n → ((k : ℕ) → k < kind.width → get_or w (first + k) false ≡ (bit_at v k == 1)) → word_value (input_gates n) word w ≡ wrapped kind (pos v)
word_in_world n first kind word w v h within bits = h.value (input_gates n) w v (λ k lt. input_holds n (first + k) w (omega arith) ∙ bits k lt)
