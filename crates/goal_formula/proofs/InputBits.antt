-- The variables of a circuit's inputs.
use Rattle.std.proofs.Common.{◌≡◌, ◌⊎◌, ℕ, zero, suc, ◌+◌, ◌≤◌, ◌<◌, Bool, false, List, [], ◌∷◌, ◌++◌, length, take, map, get_or, Option, Some, None, refl, sym, ap, subst, ◌∙◌, inl, inr, ⊎_elim, arith, length-append}
use Rattle.std.specs.Prelude.{slice_get}
use Rattle.std.specs.List.{AllZip, Contains, filter_map, range_with_len}
use Rattle.std.proofs.lemmas.Bool.{cases_lt}
use Rattle.std.proofs.lemmas.List.{length-map, length-take-le, take_all, take_more}
use Rattle.std.proofs.lemmas.Option.{get_or_from_slice_get, same_Some, slice_get_within}
use Rattle.circuit.proofs.Gates.{input_count_more, input_count_same}
use Rattle.circuit.specs.Truth.{World}
use Rattle.circuit.specs.Wires.{input_count}
use Rattle.circuit.specs.declared.lit.Gate.{Gate}
use Rattle.circuit.specs.declared.lit.Gate.TheVariants.{Input, And}
use Rattle.circuit.specs.declared.lit.Lit.{Lit}
use Rattle.clause_form.proofs.WorldLaws.{held_on}
use Rattle.clause_form.specs.Encoding.{variable_of}
use Rattle.clause_form.specs.Parts.{IsGateAt}
use Rattle.clause_form.specs.Worlds.{AgreesOnInputs, AgreesOnWires}
use Rattle.goal_formula.specs.Bits.{Gives, bit_in}
use Rattle.goal_formula.specs.Forms.{variables_of_inputs}
use Rattle.goal_formula.specs.Parts.{AreInputVariables}

-- ---- lists

got_old : {X : Type 0} (xs : List X) (y : X) (k : ℕ) (x : X) → slice_get xs k ≡ Some x → slice_get (xs ++ y ∷ []) k ≡ Some x
got_old [] y k x e = absurd cc
got_old (z ∷ xs) y zero x e = e
got_old (z ∷ xs) y (suc k) x e = got_old xs y k x e

got_new : {X : Type 0} (xs : List X) (y : X) (k : ℕ) → k ≡ length xs → slice_get (xs ++ y ∷ []) k ≡ Some y
got_new [] y zero e = refl
got_new [] y (suc k) e = absurd (omega arith)
got_new (z ∷ xs) y zero e = absurd (omega arith)
got_new (z ∷ xs) y (suc k) e = got_new xs y k (omega arith)

-- an element is an old one, or the new one at the end
record IsNew {X : Type 0} (xs : List X) (y : X) (k : ℕ) (x : X) : Type 0 where
  at : k ≡ length xs
  is : x ≡ y

got : {X : Type 0} (xs : List X) (y : X) (k : ℕ) (x : X) → slice_get (xs ++ y ∷ []) k ≡ Some x → (slice_get xs k ≡ Some x) ⊎ IsNew xs y k x
got [] y zero x e = inr (record { at = refl; is = sym (same_Some y x e) })
got [] y (suc k) x e = absurd cc
got (z ∷ xs) y zero x e = inl e
got (z ∷ xs) y (suc k) x e = ⊎_elim (λ old. inl old) (λ new. let at = new.at in inr (record { at = omega arith; is = new.is })) (got xs y k x e)

zip_right : {A B : Type 0} (R : A → B → Type 0) (xs : List A) (ys : List B) → AllZip R xs ys → (k : ℕ) (x : A) → slice_get xs k ≡ Some x → (y : B) × (slice_get ys k ≡ Some y) × R x y
zip_right R [] ys h k x e = absurd cc
zip_right R (a ∷ xs) [] h k x e = absurd h
zip_right R (a ∷ xs) (b ∷ ys) h zero x e = let same : a ≡ x = same_Some a x e in (b, refl, subst (λ q. R q b) same h.0)
zip_right R (a ∷ xs) (b ∷ ys) h (suc k) x e = zip_right R xs ys h.1 k x e

zip_each : {A B : Type 0} (R : A → B → Type 0) (xs : List A) (ys : List B) → length xs ≡ length ys → ((k : ℕ) (x : A) (y : B) → slice_get xs k ≡ Some x → slice_get ys k ≡ Some y → R x y) → AllZip R xs ys
zip_each R [] [] e h = tt
zip_each R [] (y ∷ ys) e h = absurd (omega (arith, e))
zip_each R (x ∷ xs) [] e h = absurd (omega (arith, e))
zip_each R (x ∷ xs) (y ∷ ys) e h = (h 0 x y refl refl, zip_each R xs ys (omega (arith, e)) (λ k a b p q. h (suc k) a b p q))

-- ---- one gate more

listed_more : (gates : List Gate) (variable : List (Option ℕ)) (v : Option ℕ) (number : ℕ) → length gates ≡ length variable → variables_of_inputs (gates ++ Input number ∷ []) (variable ++ v ∷ []) ≡ variables_of_inputs gates variable ++ v ∷ []
listed_more [] [] v number e = refl
listed_more [] (x ∷ variable) v number e = absurd (omega (arith, e))
listed_more (g ∷ gates) [] v number e = absurd (omega (arith, e))
listed_more (Input n ∷ gates) (x ∷ variable) v number e = ap (λ xs. x ∷ xs) (listed_more gates variable v number (omega (arith, e)))
listed_more (And a b ∷ gates) (x ∷ variable) v number e = listed_more gates variable v number (omega (arith, e))

listed_same : (gates : List Gate) (variable : List (Option ℕ)) (v : Option ℕ) (a b : Lit) → length gates ≡ length variable → variables_of_inputs (gates ++ And a b ∷ []) (variable ++ v ∷ []) ≡ variables_of_inputs gates variable
listed_same [] [] v a b e = refl
listed_same [] (x ∷ variable) v a b e = absurd (omega (arith, e))
listed_same (g ∷ gates) [] v a b e = absurd (omega (arith, e))
listed_same (Input n ∷ gates) (x ∷ variable) v a b e = ap (λ xs. x ∷ xs) (listed_same gates variable v a b (omega (arith, e)))
listed_same (And c d ∷ gates) (x ∷ variable) v a b e = listed_same gates variable v a b (omega (arith, e))

-- ---- one place after another

module _ (gates : List Gate) (variable : List (Option ℕ)) where
  pub inputs_none : AreInputVariables gates variable 0 []
  inputs_none = record {
    size = refl;
    each = λ number v e. absurd cc;
    all = λ place number lt e. absurd (omega arith);
    listed = refl;
    made = λ place g lt e. absurd (omega arith);
  }

  module _ (place : ℕ) (bits : List (Option ℕ)) (long : length variable ≡ length gates) (h : AreInputVariables gates variable place bits) where
    next_gates : (g : Gate) → slice_get gates place ≡ Some g → take (place + 1) gates ≡ take place gates ++ g ∷ []
    next_gates g there = take_more gates place g (slice_get_within gates place g there) ∙ ap (λ x. take place gates ++ x ∷ []) (get_or_from_slice_get gates place g g there)

    next_variables : (g : Gate) → slice_get gates place ≡ Some g → take (place + 1) variable ≡ take place variable ++ get_or variable place None ∷ []
    next_variables g there = let lt = slice_get_within gates place g there in take_more variable place None (omega (arith, lt, long))

    same_size : (g : Gate) → slice_get gates place ≡ Some g → length (take place gates) ≡ length (take place variable)
    same_size g there =
        let lt = slice_get_within gates place g there in
        length-take-le place gates (omega (arith, lt)) ∙ sym (length-take-le place variable (omega (arith, lt, long)))

    made_more : (g : Gate) → slice_get gates place ≡ Some g → IsGateAt gates place g → (q : ℕ) (x : Gate) → q < place + 1 → slice_get gates q ≡ Some x → IsGateAt gates q x
    made_more g there own q x lt e =
        ⊎_elim
        (λ below. h.made q x below e)
        (λ above.
        let here : q ≡ place = omega arith in
        let same : g ≡ x = same_Some g x (sym there ∙ ap (slice_get gates) (sym here) ∙ e) in
        subst (λ n. IsGateAt gates n x) (sym here) (subst (IsGateAt gates place) same own))
        (cases_lt q place)

    pub inputs_more : (number : ℕ) (v : Option ℕ) → slice_get gates place ≡ Some (Input number) → IsGateAt gates place (Input number) → v ≡ get_or variable place None → AreInputVariables gates variable (place + 1) (bits ++ v ∷ [])
    inputs_more number v there own is =
        let size = h.size in
        let numbered : number ≡ input_count (take place gates) = own.number in
        let at : number ≡ length bits = numbered ∙ sym size in
        record {
          size = (let more = input_count_more (take place gates) number in let long = length-append bits (v ∷ []) in let count = ap input_count (next_gates (Input number) there) in omega arith);
          each = λ n x e. ⊎_elim
              (λ old. h.each n x old)
              (λ new. (place, there ∙ ap (λ k. Some (Input k)) (at ∙ sym new.at), sym is ∙ sym new.is))
              (got bits v n x e);
          all = λ q n lt e. ⊎_elim
              (λ below. got_old bits v n (get_or variable q None) (h.all q n below e))
              (λ above.
              let here : q ≡ place = omega arith in
              let same : Input number ≡ Input n = same_Some (Input number) (Input n) (sym there ∙ ap (slice_get gates) (sym here) ∙ e) in
              let own : number ≡ n = cc in
              got_new bits v n (sym own ∙ at) ∙ ap Some (is ∙ ap (λ k. get_or variable k None) (sym here)))
              (cases_lt q place);
          listed =
              ap (λ xs. xs ++ v ∷ []) h.listed
              ∙ ap (λ x. variables_of_inputs (take place gates) (take place variable) ++ x ∷ []) is
              ∙ sym (listed_more (take place gates) (take place variable) (get_or variable place None) number (same_size (Input number) there))
              ∙ (λ i. variables_of_inputs (sym (next_gates (Input number) there) i) (sym (next_variables (Input number) there) i));
          made = made_more (Input number) there own;
        }

    pub inputs_other : (a b : Lit) → slice_get gates place ≡ Some (And a b) → IsGateAt gates place (And a b) → AreInputVariables gates variable (place + 1) bits
    inputs_other a b there own = record {
      size = h.size ∙ sym (input_count_same (take place gates) a b) ∙ ap input_count (sym (next_gates (And a b) there));
      each = h.each;
      all = λ q n lt e. ⊎_elim
          (λ below. h.all q n below e)
          (λ above.
          let here : q ≡ place = omega arith in
          let same : And a b ≡ Input n = same_Some (And a b) (Input n) (sym there ∙ ap (slice_get gates) (sym here) ∙ e) in
          absurd cc)
          (cases_lt q place);
      listed =
          h.listed
          ∙ sym (listed_same (take place gates) (take place variable) (get_or variable place None) a b (same_size (And a b) there))
          ∙ (λ i. variables_of_inputs (sym (next_gates (And a b) there) i) (sym (next_variables (And a b) there) i));
      made = made_more (And a b) there own;
    }

-- ---- all places

module _ (gates : List Gate) (variable bits : List (Option ℕ)) (h : AreInputVariables gates variable (length gates) bits) where
  pub count_is : length bits ≡ input_count gates
  count_is = h.size ∙ ap input_count (take_all (length gates) gates (omega arith))

  pub listed_all : length variable ≡ length gates → bits ≡ variables_of_inputs gates variable
  listed_all long = h.listed ∙ (λ i. variables_of_inputs (take_all (length gates) gates (omega arith) i) (take_all (length gates) variable (omega (arith, long)) i))

  -- what an assignment gives the bits it gives the circuit's inputs
  pub inputs_given : (value : ℕ → Bool) (w : World) → Gives value bits w → AgreesOnInputs gates variable value w
  inputs_given value w gives zero number n g v = absurd cc
  inputs_given value w gives (suc place) number n g v =
      let own = h.all place number (slice_get_within gates place (Input number) g) g in
      let z = zip_right (λ (x : Option ℕ) (b : Bool). (m : ℕ) → x ≡ Some m → value m ≡ b) bits w gives number (get_or variable place None) own in
      z.2 n v ∙ sym (get_or_from_slice_get w number z.0 false z.1)

  -- an assignment that gives each wire what it holds gives the bits what the world has
  pub bits_given : (value : ℕ → Bool) (w : World) → length w ≡ length bits → AgreesOnWires gates variable value w → Gives value bits w
  bits_given value w long agrees =
      zip_each (λ (x : Option ℕ) (b : Bool). (m : ℕ) → x ≡ Some m → value m ≡ b) bits w (sym long)
      (λ k x b e g m is.
      let own = h.each k x e in
      agrees (suc own.0) m (own.2 ∙ is) ∙ held_on gates own.0 w (Input k) own.1 tt ∙ get_or_from_slice_get w k b false g)

-- ---- the world of an assignment

pub gives_own : (value : ℕ → Bool) (bits : List (Option ℕ)) → Gives value bits (map (bit_in value) bits)
gives_own value [] = tt
gives_own value (v ∷ bits) = (λ n is. sym (ap (bit_in value) is), gives_own value bits)

-- another assignment that agrees with it on the bits gives the same
pub gives_other : (value other : ℕ → Bool) (bits : List (Option ℕ)) → ((n : ℕ) → Contains bits (Some n) → value n ≡ other n) → Gives other bits (map (bit_in value) bits)
gives_other value other bits same =
    zip_each (λ (x : Option ℕ) (b : Bool). (m : ℕ) → x ≡ Some m → other m ≡ b) bits (map (bit_in value) bits) (sym (length-map bits (bit_in value)))
    (λ k x b e g m is.
    let lt = slice_get_within bits k x e in
    let has : Contains bits (Some m) = (k, lt, get_or_from_slice_get bits k x (Some m) e ∙ is) in
    let own : b ≡ bit_in value x = sym (get_or_from_slice_get (map (bit_in value) bits) k b false g) ∙ at_map bits k x e in
    sym (same m has) ∙ sym (own ∙ ap (bit_in value) is))
  where
    at_map : (xs : List (Option ℕ)) (k : ℕ) (x : Option ℕ) → slice_get xs k ≡ Some x → get_or (map (bit_in value) xs) k false ≡ bit_in value x
    at_map [] k x e = absurd cc
    at_map (y ∷ xs) zero x e = ap (bit_in value) (same_Some y x e)
    at_map (y ∷ xs) (suc k) x e = at_map xs k x e

-- ---- each variable is that of a wire

found : (vs : List (Option ℕ)) (a count n : ℕ) → filter_map (λ v. v) vs ≡ range_with_len a count → a ≤ n → n < a + count → (place : ℕ) × (get_or vs place None ≡ Some n)
found [] a zero n e low high = absurd (omega arith)
found [] a (suc count) n e low high = absurd cc
found (None ∷ vs) a count n e low high = let r = found vs a count n e low high in (suc r.0, r.1)
found (Some x ∷ vs) a zero n e low high = absurd (omega arith)
found (Some x ∷ vs) a (suc count) n e low high =
    let first : x ≡ a = cc in
    let rest : filter_map (λ v. v) vs ≡ range_with_len (a + 1) count = cc in
    ⊎_elim
    (λ above. let r = found vs (a + 1) count n rest (omega arith) (omega arith) in (suc r.0, r.1))
    (λ here. let same : a ≡ n = omega arith in (zero, ap Some (first ∙ same)))
    (cases_lt a n)

pub wire_of : (variable : List (Option ℕ)) (count n : ℕ) → filter_map (λ v. v) variable ≡ range_with_len 1 count → 0 < n → n ≤ count → (wire : ℕ) × (variable_of variable wire ≡ Some n)
wire_of variable count n numbers low high = let r = found variable 1 count n numbers (omega arith) (omega arith) in (suc r.0, r.1)
