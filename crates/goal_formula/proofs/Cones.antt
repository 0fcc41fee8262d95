-- The variables of a cone: each is an input's or a gate's, and those of the inputs determine the others.
use Rattle.std.proofs.Common.{◌≡◌, ◌⊎◌, ℕ, zero, suc, ◌+◌, ◌≤◌, ◌<◌, ◌^◌, ◌↔◌, Bool, List, [], ◌∷◌, length, take, get_or, map, Option, Some, None, refl, sym, ap, subst, ◌∙◌, inl, inr, ⊎_elim, arith}
use Rattle.std.specs.Prelude.{IsSome, slice_get}
use Rattle.std.specs.List.{Contains, filter_map, flat_map, list_all, range_with_len}
use Rattle.std.specs.Option.{is_some}
use Rattle.std.proofs.lemmas.Bool.{cases_lt}
use Rattle.std.proofs.lemmas.List.{append-nil}
use Rattle.std.proofs.lemmas.Option.{get_or_from_slice_get, same_Some, slice_get-get_or, slice_get_within}
use Rattle.circuit.specs.Sharing.{yes_lit}
use Rattle.circuit.specs.Truth.{World}
use Rattle.circuit.specs.Wires.{HasNumber, InputsAreNumbered, IsCircuit, PartsLieBelow, PartsUpTo, input_count}
use Rattle.circuit.specs.declared.lit.Gate.{Gate}
use Rattle.circuit.specs.declared.lit.Gate.TheVariants.{Input, And}
use Rattle.circuit.specs.declared.lit.Lit.{Lit}
use Rattle.clause_form.proofs.ClauseLaws as laws
use Rattle.clause_form.proofs.NumberLaws.{numbers_rise, wire_number}
use Rattle.clause_form.proofs.WorldLaws.{get_within}
use Rattle.clause_form.specs.Cone.{IsInCone, left, right}
use Rattle.clause_form.specs.Encoding.{cone_clauses, variable_of, wire_clauses}
use Rattle.clause_form.specs.Parts.{AreVariables, IsGateAt}
use Rattle.clause_form.specs.Worlds.{AgreesOnInputs, AgreesOnWires}
use Rattle.cnf.specs.Formulas.{is_true_clause}
use Rattle.goal_formula.specs.Bits.{bit_in}
use Rattle.goal_formula.specs.Forms.{AgreesWithGates, IsOfGate}
use Rattle.goal_formula.specs.Parts.{AreInputVariables}
use Rattle.goal_formula.proofs.InputBits.{gives_other, gives_own, inputs_given, wire_of}

-- ---- gates that are a circuit's, one by one

below_each : (below : ℕ) (gates : List Gate) → ((k : ℕ) (g : Gate) → slice_get gates k ≡ Some g → PartsUpTo (k + below) g) → PartsLieBelow below gates
below_each below [] h = tt
below_each below (g ∷ gates) h =
    let here : 0 + below ≡ below = omega arith in
    (subst (λ n. PartsUpTo n g) here (h 0 g refl), below_each (suc below) gates (λ k x at. let next : suc k + below ≡ k + suc below = omega arith in subst (λ n. PartsUpTo n x) next (h (suc k) x at)))

numbered_each : (below : ℕ) (gates : List Gate) → ((k : ℕ) (g : Gate) → slice_get gates k ≡ Some g → HasNumber (input_count (take k gates) + below) g) → InputsAreNumbered below gates
numbered_each below [] h = tt
numbered_each below (Input number ∷ gates) h =
    let here : 0 + below ≡ below = omega arith in (
      subst (λ n. HasNumber n (Input number)) here (h 0 (Input number) refl),
      numbered_each (1 + below) gates (λ k x at. let next : 1 + input_count (take k gates) + below ≡ input_count (take k gates) + (1 + below) = omega arith in subst (λ n. HasNumber n x) next (h (suc k) x at)),
    )
numbered_each below (And a b ∷ gates) h =
    (tt, numbered_each (0 + below) gates (λ k x at. let next : input_count (take k gates) + below ≡ input_count (take k gates) + (0 + below) = omega arith in subst (λ n. HasNumber n x) next (h (suc k) x at)))

pub circuit_of : (gates : List Gate) → length gates ≤ 2 ^ 30 → ((k : ℕ) (g : Gate) → slice_get gates k ≡ Some g → IsGateAt gates k g) → IsCircuit gates
circuit_of gates few h = record {
  few = few;
  below = below_each 0 gates (λ k g at. let same : k ≡ k + 0 = omega arith in subst (λ n. PartsUpTo n g) same ((h k g at).parts));
  numbered = numbered_each 0 gates (λ k g at. let same : input_count (take k gates) ≡ input_count (take k gates) + 0 = omega arith in subst (λ n. HasNumber n g) same ((h k g at).number));
  reduced = λ k d lt. (h k (get_or gates k d) (slice_get-get_or gates k d lt)).reduced;
}

-- ---- the variables

module _ (gates : List Gate) (root : Lit) (variable bits : List (Option ℕ)) (count : ℕ) (inputs : AreInputVariables gates variable (length gates) bits) (size : length variable ≡ length gates)
    (cone : (wire : ℕ) → 0 < wire → IsSome (variable_of variable wire) ↔ IsInCone gates root wire) (numbers : filter_map (λ v. v) variable ≡ range_with_len 1 count) where
  pub made : (k : ℕ) (g : Gate) → slice_get gates k ≡ Some g → IsGateAt gates k g
  made k g at = inputs.made k g (slice_get_within gates k g at) at

  variables : AreVariables gates variable count
  variables = record {
    size = size;
    numbers = numbers;
    left = λ k a b some at.
        let low = (made k (And a b) at).reduced.0 in
        (cone a.wire low).1 (left (suc k) a b ((cone (suc k) (omega arith)).0 some) at);
    right = λ k a b some at.
        let reduced = (made k (And a b) at).reduced in
        (cone b.wire (omega (arith, reduced.0, reduced.1))).1 (right (suc k) a b ((cone (suc k) (omega arith)).0 some) at);
    gate = λ k g some at. made k g at;
  }

  -- the clauses of the gates determine the wires from the inputs
  agreed : (value : ℕ → Bool) (w : World) → AgreesWithGates gates variable value → AgreesOnInputs gates variable value w → AgreesOnWires gates variable value w
  agreed value w agrees given =
      let none : cone_clauses gates variable yes_lit ≡ flat_map (wire_clauses gates variable) (range_with_len 1 (length gates)) = append-nil (flat_map (wire_clauses gates variable) (range_with_len 1 (length gates))) in
      laws.determined gates variable count variables value w yes_lit (ap (list_all (is_true_clause value)) none ∙ agrees) given

  pub same_values : (value other : ℕ → Bool) → AgreesWithGates gates variable value → AgreesWithGates gates variable other → ((m : ℕ) → Contains bits (Some m) → value m ≡ other m) → (n : ℕ) → 0 < n → n ≤ count → value n ≡ other n
  same_values value other own next agree n low high =
      let w = map (bit_in value) bits in
      let first = agreed value w own (inputs_given gates variable bits inputs value w (gives_own value bits)) in
      let second = agreed other w next (inputs_given gates variable bits inputs other w (gives_other value other bits agree)) in
      let wire = wire_of variable count n numbers low high in
      first wire.0 n wire.1 ∙ sym (second wire.0 n wire.1)

  -- ---- each is an input's or a gate's

  is_in : (k : ℕ) (v : Option ℕ) → slice_get bits k ≡ Some v → Contains bits v
  is_in k v at = (k, slice_get_within bits k v at, get_or_from_slice_get bits k v v at)

  within : (vs : List (Option ℕ)) (k n : ℕ) → get_or vs k None ≡ Some n → k < length vs
  within [] k n e = cc
  within (v ∷ vs) zero n e = omega arith
  within (v ∷ vs) (suc k) n e = let r = within vs k n e in omega arith

  of_gate : (k n : ℕ) (g : Gate) → variable_of variable (suc k) ≡ Some n → slice_get gates k ≡ Some g → Contains bits (Some n) ⊎ IsOfGate gates root variable n
  of_gate k n (Input number) there at =
      let own = inputs.all k number (slice_get_within gates k (Input number) at) at in
      inl (is_in number (Some n) (own ∙ ap Some there))
  of_gate k n (And a b) there at =
      inr (record { wire = suc k; left = a; right = b; gate = at; inside = (cone (suc k) (omega arith)).0 (ap is_some there); number = there })

  of_wire : (wire n : ℕ) → variable_of variable wire ≡ Some n → Contains bits (Some n) ⊎ IsOfGate gates root variable n
  of_wire zero n there = absurd cc
  of_wire (suc k) n there =
      let lt = within variable k n there in
      let found = get_within gates k (omega (arith, lt, size)) in
      of_gate k n found.0 there found.1

  pub of_each : (n : ℕ) → 0 < n → n ≤ count → Contains bits (Some n) ⊎ IsOfGate gates root variable n
  of_each n low high = let wire = wire_of variable count n numbers low high in of_wire wire.0 n wire.1

  -- ---- the inputs' own

  pub inputs_over : (n : ℕ) → Contains bits (Some n) → (0 < n) × (n ≤ count)
  inputs_over n has =
      let at : slice_get bits has.0 ≡ Some (Some n) = slice_get-get_or bits has.0 (Some n) has.1 ∙ ap Some has.2 in
      let own = inputs.each has.0 (Some n) at in
      let number = wire_number variable count (suc own.0) n numbers own.2 in
      (omega (arith, number.0), omega (arith, number.1))

  pub inputs_apart : (i j n : ℕ) → slice_get bits i ≡ Some (Some n) → slice_get bits j ≡ Some (Some n) → i ≡ j
  inputs_apart i j n p q =
      let one = inputs.each i (Some n) p in
      let other = inputs.each j (Some n) q in
      let same : one.0 ≡ other.0 = ⊎_elim
      (λ lt. absurd (let rise = numbers_rise variable 1 count one.0 other.0 n n numbers lt one.2 other.2 in omega (arith, rise)))
      (λ ge. ⊎_elim
      (λ lt. absurd (let rise = numbers_rise variable 1 count other.0 one.0 n n numbers lt other.2 one.2 in omega (arith, rise)))
      (λ le. omega (arith, ge, le))
      (cases_lt other.0 one.0))
      (cases_lt one.0 other.0) in
      let gates_same : Input i ≡ Input j = same_Some (Input i) (Input j) (sym one.1 ∙ ap (slice_get gates) same ∙ other.1) in
      cc
