-- What a conjunction answers, and what its literal holds.
use Rattle.std.proofs.Common.{◌≡◌, ℕ, ◌+◌, ◌<◌, ◌≤◌, ◌^◌, Bool, true, false, not, ◌&&◌, ◌||◌, if◌then◌else◌, eqb, ltb, List, [], ◌∷◌, ◌++◌, length, get_or, take, drop, Option, Some, None, Result, Ok, Err, OnErr, is_some, unwrap_or, refl, sym, ap, subst, ◌∙◌, arith, length-append}
use Rattle.std.specs.Bool.{beq}
use Rattle.std.specs.List.{All, list_any, position_or_len}
use Rattle.std.specs.Option.{option_map, option_or}
use Rattle.std.proofs.lemmas.Bool.{eq-eqb, false≢true}
use Rattle.std.proofs.lemmas.Bool.Decides.{Decides-ltb, nat_tests}
use Rattle.std.proofs.lemmas.List.{take-append-drop, length-take-le}
use Rattle.std.proofs.lemmas.List.Sums.{passes_at_first}
use Rattle.indexmap.specs.IndexSet.{insert_key}
use Rattle.circuit.specs.Truth.{World, Extends, extends_self}
use Rattle.circuit.specs.Growth.{GrowsTo, grows_by, grows_to_self}
use Rattle.circuit.specs.declared.lit.Lit.{Lit}
use Rattle.circuit.specs.declared.lit.Gate.{Gate}
use Rattle.circuit.specs.declared.lit.Gate.TheVariants.{Input, And}
use Rattle.circuit.specs.Wires.{gate_value, held, lit_holds, IsWire, input_count, PartsUpTo, HasNumber, InputsAreNumbered, IsReduced, IsCircuit}
use Rattle.circuit.specs.Sharing.{same_lit, inverse, yes_lit, no_lit, lit_of, joins, folded, shared, known_and, and_gate, gates_with_and, and_lit}
use Rattle.circuit.proofs.Gates.{constant_wire, lit_not, held_next, extend_by, length-held_from, index_last, gates_extend, newest, input_count_same, input_count_more, circuit_more, gate_at}
use Rattle.circuit.proofs.GateEquality.{gate_eq, same_is, same_gate, joins_is, found_within, not_found, position_found, position_not_found, same_place, same_any, below_false}

-- after a conjunction: the literal holds where both parts do, and no gate is made where one stands
pub record IsConjunction (old : List Gate) (a b : Lit) (new : List Gate) (c : Lit) : Type 0 where
  pub literal : c ≡ and_lit old a b
  pub gates : new ≡ gates_with_and old a b
  pub grown : GrowsTo old new
  pub older : Extends IsWire lit_holds old new
  pub used : length new ≤ length old + 1
  pub bit : IsWire new c
  pub value : (w : World) → lit_holds new c w ≡ (lit_holds old a w && lit_holds old b w)
  pub inputs : input_count new ≡ input_count old

-- ---- a conjunction that is folded

module _ (gates : List Gate) (w : World) where
  yes_holds : lit_holds gates yes_lit w ≡ true
  yes_holds = constant_wire gates w

  no_holds : lit_holds gates no_lit w ≡ false
  no_holds = ap not (constant_wire gates w)

  inverse_holds : (l : Lit) → lit_holds gates (inverse l) w ≡ not (lit_holds gates l w)
  inverse_holds l = lit_not (held gates w) l (not l.negated) refl

and_false : (x : Bool) → (x && false) ≡ false
and_false true = refl
and_false false = refl

and_true : (x : Bool) → (x && true) ≡ x
and_true true = refl
and_true false = refl

and_self : (x : Bool) → (x && x) ≡ x
and_self true = refl
and_self false = refl

and_not : (x : Bool) → (not x && x) ≡ false
and_not true = refl
and_not false = refl

-- the tests in their order
abbrev chosen : Bool → Bool → Bool → Bool → Bool → Bool → Lit → Lit → Option Lit
chosen x y z u v e a b = if x || (y || z) then Some no_lit else if u then Some b else if v || e then Some a else None

pub record Folds (gates : List Gate) (a b c : Lit) : Type 0 where
  pub wire : IsWire gates a → IsWire gates b → IsWire gates c
  pub value : (w : World) → lit_holds gates c w ≡ (lit_holds gates a w && lit_holds gates b w)

module _ (gates : List Gate) (a b : Lit) where
  to_no : ((w : World) → (lit_holds gates a w && lit_holds gates b w) ≡ false) → Folds gates a b no_lit
  to_no h = record { wire = λ p q. omega arith; value = λ w. no_holds gates w ∙ sym (h w) }

  folds : (x y z u v e : Bool) (c : Lit) → (x ≡ true → a ≡ no_lit) → (y ≡ true → b ≡ no_lit) → (z ≡ true → a ≡ inverse b) → (u ≡ true → a ≡ yes_lit) → (v ≡ true → b ≡ yes_lit) → (e ≡ true → a ≡ b)
      → chosen x y z u v e a b ≡ Some c → Folds gates a b c
  folds true y z u v e c ha hb hz hu hv he h =
      subst (Folds gates a b) (cc h) (to_no (λ w. ap (λ l. lit_holds gates l w && lit_holds gates b w) (ha refl) ∙ ap (λ t. t && lit_holds gates b w) (no_holds gates w)))
  folds false true z u v e c ha hb hz hu hv he h =
      subst (Folds gates a b) (cc h) (to_no (λ w. ap (λ l. lit_holds gates a w && lit_holds gates l w) (hb refl) ∙ ap (λ t. lit_holds gates a w && t) (no_holds gates w) ∙ and_false (lit_holds gates a w)))
  folds false false true u v e c ha hb hz hu hv he h =
      subst (Folds gates a b) (cc h) (to_no (λ w. ap (λ l. lit_holds gates l w && lit_holds gates b w) (hz refl) ∙ ap (λ t. t && lit_holds gates b w) (inverse_holds gates w b) ∙ and_not (lit_holds gates b w)))
  folds false false false true v e c ha hb hz hu hv he h =
      subst (Folds gates a b) (cc h) (record {
        wire = λ p q. q;
        value = λ w. sym (ap (λ l. lit_holds gates l w && lit_holds gates b w) (hu refl) ∙ ap (λ t. t && lit_holds gates b w) (yes_holds gates w));
      })
  folds false false false false true e c ha hb hz hu hv he h =
      subst (Folds gates a b) (cc h) (record {
        wire = λ p q. p;
        value = λ w. sym (ap (λ l. lit_holds gates a w && lit_holds gates l w) (hv refl) ∙ ap (λ t. lit_holds gates a w && t) (yes_holds gates w) ∙ and_true (lit_holds gates a w));
      })
  folds false false false false false true c ha hb hz hu hv he h =
      subst (Folds gates a b) (cc h) (record {
        wire = λ p q. p;
        value = λ w. sym (ap (λ l. lit_holds gates a w && lit_holds gates l w) (sym (he refl)) ∙ and_self (lit_holds gates a w));
      })
  folds false false false false false false c ha hb hz hu hv he h = absurd (cc h)

  pub folded_holds : (c : Lit) → folded a b ≡ Some c → Folds gates a b c
  folded_holds c = folds (same_lit a no_lit) (same_lit b no_lit) (same_lit a (inverse b)) (same_lit a yes_lit) (same_lit b yes_lit) (same_lit a b) c
      (same_is a no_lit) (same_is b no_lit) (same_is a (inverse b)) (same_is a yes_lit) (same_is b yes_lit) (same_is a b)

  -- where a literal is known the gates stay
  module _ (c : Lit) (known : known_and gates a b ≡ Some c) where
    known_lit : c ≡ and_lit gates a b
    unfolding and_lit
    known_lit = sym (ap (λ o. unwrap_or o (lit_of (length gates + 1))) known)

    known_gates : gates ≡ gates_with_and gates a b
    unfolding gates_with_and
    known_gates = sym (ap (λ o. if is_some o then gates else gates ++ and_gate a b ∷ []) known)

    known_is : IsWire gates c → ((w : World) → lit_holds gates c w ≡ (lit_holds gates a w && lit_holds gates b w)) → IsConjunction gates a b gates c
    known_is wire value = record {
      literal = known_lit;
      gates = known_gates;
      grown = grows_to_self gates;
      older = extends_self gates;
      used = omega arith;
      bit = wire;
      value = value;
      inputs = refl;
    }

  pub folded_is : (c : Lit) → folded a b ≡ Some c → IsWire gates a → IsWire gates b → IsConjunction gates a b gates c
  unfolding known_and
  folded_is c h p q =
      let f = folded_holds c h in
      known_is c (ap (λ o. option_or o (shared gates a b)) h) (f.wire p q) f.value

-- ---- a conjunction that isn't folded

record Apart (a b : Lit) : Type 0 where
  pub left : 0 < a.wire
  pub right : 0 < b.wire
  pub wires : a.wire ≡ b.wire → ⊥

differ : (t n m : Bool) → (t && beq n m) ≡ false → (t && beq n (not m)) ≡ false → t ≡ false
differ false n m e f = refl
differ true true true e f = e
differ true true false e f = f
differ true false true e f = f
differ true false false e f = e

other_wire : (m n : ℕ) → eqb m n ≡ false → m ≡ n → ⊥
other_wire m n e f = false≢true (sym e ∙ eq-eqb m n f)

apart_if : (x y z u v e : Bool) (a b : Lit) → chosen x y z u v e a b ≡ None → same_lit a no_lit ≡ x → same_lit b no_lit ≡ y → same_lit a (inverse b) ≡ z → same_lit a yes_lit ≡ u → same_lit b yes_lit ≡ v → same_lit a b ≡ e → Apart a b
apart_if true y z u v e a b h hx hy hz hu hv he = absurd (cc h)
apart_if false true z u v e a b h hx hy hz hu hv he = absurd (cc h)
apart_if false false true u v e a b h hx hy hz hu hv he = absurd (cc h)
apart_if false false false true v e a b h hx hy hz hu hv he = absurd (cc h)
apart_if false false false false true e a b h hx hy hz hu hv he = absurd (cc h)
apart_if false false false false false true a b h hx hy hz hu hv he = absurd (cc h)
apart_if false false false false false false a b h hx hy hz hu hv he =
    let p = other_wire a.wire 0 (differ (eqb a.wire 0) a.negated true hx hu) in
    let q = other_wire b.wire 0 (differ (eqb b.wire 0) b.negated true hy hv) in
    record {
      left = omega arith;
      right = omega arith;
      wires = other_wire a.wire b.wire (differ (eqb a.wire b.wire) a.negated b.negated he hz);
    }

apart : (a b : Lit) → folded a b ≡ None → Apart a b
apart a b h = apart_if (same_lit a no_lit) (same_lit b no_lit) (same_lit a (inverse b)) (same_lit a yes_lit) (same_lit b yes_lit) (same_lit a b) a b h refl refl refl refl refl refl

-- the wire of a gate that stands holds what the gate does
module _ (gates : List Gate) (k : ℕ) (within : k < length gates) where
  front : (n : ℕ) → Extends IsWire lit_holds (take n gates) gates
  front n = subst (Extends IsWire lit_holds (take n gates)) (take-append-drop n gates) (extend_by (take n gates) (drop n gates))

  pub gate_holds : (l r : Lit) (w : World) → l.wire ≤ k → r.wire ≤ k → get_or gates k (And l r) ≡ And l r → lit_holds gates (lit_of (k + 1)) w ≡ (lit_holds gates l w && lit_holds gates r w)
  gate_holds l r w small_l small_r at =
      let below = take k gates in
      let size : length (take k gates) ≡ k = length-take-le k gates (omega arith) in
      let more : length (take (k + 1) gates) ≡ k + 1 = length-take-le (k + 1) gates (omega arith) in
      let wires : length (held (take k gates) w) ≡ k + 1 = omega (arith, length-held_from (true ∷ []) (take k gates) w) in
      let step = held_next gates k (And l r) w within in
      let last = ap (λ xs. get_or xs (k + 1) false) step ∙ index_last (held below w) (gate_value (held below w) w (get_or gates k (And l r))) (k + 1) (sym wires) in
      (front (k + 1)).same (lit_of (k + 1)) (omega arith) w ∙ last ∙ ap (gate_value (held below w) w) at
      ∙ (λ i. sym ((front k).same l (omega arith) w) i && sym ((front k).same r (omega arith) w) i)

and_order : (x y : Bool) → (x && y) ≡ (y && x)
and_order true true = refl
and_order true false = refl
and_order false true = refl
and_order false false = refl

-- the gate of two literals on different wires
gate_of_two : (P : Gate → Type 0) (a b : Lit) → (a.wire ≡ b.wire → ⊥) → (a.wire < b.wire → P (And a b)) → (b.wire < a.wire → P (And b a)) → P (and_gate a b)
gate_of_two P a b apart_ f g = by (ltb a.wire b.wire) refl
  where
    by : (t : Bool) → ltb a.wire b.wire ≡ t → P (if t then And a b else And b a)
    by true e = f ((Decides-ltb a.wire b.wire).0 e)
    by false e = let le = below_false a.wire b.wire e in g (omega arith)

-- the gates and the literal after a look-up of the gate of two literals
pub record IsInserted (old : List Gate) (a b : Lit) (new : List Gate) (place : ℕ) : Type 0 where
  pub conjunction : IsConjunction old a b new (lit_of (place + 1))
  pub circuit : IsCircuit new

module _ (old : List Gate) (a b : Lit) (h : IsCircuit old) (room : length old < 2 ^ 30) (left : IsWire old a) (right : IsWire old b) (open_ : folded a b ≡ None) where
  let_apart : Apart a b
  let_apart = apart a b open_

  agree : All (λ g. gate_eq (and_gate a b) g ≡ joins a b g) old
  agree = λ k d lt. joins_is a b (get_or old k d) let_apart.wires (h.reduced k d lt)

  found : (place : ℕ) → list_any (gate_eq (and_gate a b)) old ≡ true → place ≡ position_or_len (gate_eq (and_gate a b)) old → IsConjunction old a b old (lit_of (place + 1))
  unfolding known_and
  found place any is =
      let within : place < length old = subst (λ k. k < length old) (sym is) (found_within (gate_eq (and_gate a b)) old any) in
      let there = position_found (joins a b) old (sym (same_any (gate_eq (and_gate a b)) (joins a b) old agree) ∙ any) in
      let same = sym (same_place (gate_eq (and_gate a b)) (joins a b) old agree) ∙ sym is in
      let known : known_and old a b ≡ Some (lit_of (place + 1)) = (λ i. option_or (open_ i) (option_map (λ k. lit_of (k + 1)) ((there ∙ ap Some same) i))) in
      let at : (d : Gate) → and_gate a b ≡ get_or old place d = λ d. same_gate (and_gate a b) (get_or old place d)
      (subst (λ k. gate_eq (and_gate a b) (get_or old k d) ≡ true) (sym is) (passes_at_first (gate_eq (and_gate a b)) old d (subst (λ k. k < length old) is within))) in
      let parts : (d : Gate) → PartsUpTo place (get_or old place d) = λ d. (gate_at old place d h within).parts in
      known_is old a b (lit_of (place + 1)) known (omega arith) (λ w.
      gate_of_two (λ g. ((d : Gate) → g ≡ get_or old place d) → lit_holds old (lit_of (place + 1)) w ≡ (lit_holds old a w && lit_holds old b w)) a b let_apart.wires
      (λ lt eq. let p = subst (PartsUpTo place) (sym (eq (And a b))) (parts (And a b)) in gate_holds old place within a b w p.0 p.1 (sym (eq (And a b))))
      (λ lt eq. let p = subst (PartsUpTo place) (sym (eq (And b a))) (parts (And b a)) in gate_holds old place within b a w p.0 p.1 (sym (eq (And b a))) ∙ and_order (lit_holds old b w) (lit_holds old a w))
      at)

  unknown : list_any (gate_eq (and_gate a b)) old ≡ false → known_and old a b ≡ None
  unfolding known_and
  unknown none =
      let away = position_not_found (joins a b) old (sym (same_any (gate_eq (and_gate a b)) (joins a b) old agree) ∙ none) in
      λ i. option_or (open_ i) (option_map (λ k. lit_of (k + 1)) (away i))

  new_lit : known_and old a b ≡ None → lit_of (length old + 1) ≡ and_lit old a b
  unfolding and_lit
  new_lit none = sym (ap (λ o. unwrap_or o (lit_of (length old + 1))) none)

  new_gates : known_and old a b ≡ None → old ++ and_gate a b ∷ [] ≡ gates_with_and old a b
  unfolding gates_with_and
  new_gates none = sym (ap (λ o. if is_some o then old else old ++ and_gate a b ∷ []) none)

  added : list_any (gate_eq (and_gate a b)) old ≡ false → IsConjunction old a b (old ++ and_gate a b ∷ []) (lit_of (length old + 1))
  added none = record {
    literal = new_lit (unknown none);
    gates = new_gates (unknown none);
    grown = grows_by old (and_gate a b ∷ []) (gate_of_two (λ g. input_count (g ∷ []) ≡ 0) a b let_apart.wires (λ lt. refl) (λ lt. refl));
    older = gates_extend old (and_gate a b);
    used = omega (arith, length-append old (and_gate a b ∷ []));
    bit = omega (arith, length-append old (and_gate a b ∷ []));
    value = λ w. newest old (and_gate a b) (length old + 1) w (omega arith)
        ∙ gate_of_two (λ g. gate_value (held old w) w g ≡ (lit_holds old a w && lit_holds old b w)) a b let_apart.wires (λ lt. refl) (λ lt. and_order (lit_holds old b w) (lit_holds old a w));
    inputs = gate_of_two (λ g. input_count (old ++ g ∷ []) ≡ input_count old) a b let_apart.wires (λ lt. input_count_same old a b) (λ lt. input_count_same old b a);
  }

  circuit_added : IsCircuit (old ++ and_gate a b ∷ [])
  circuit_added = circuit_more old (and_gate a b) h room
      (gate_of_two (PartsUpTo (length old)) a b let_apart.wires (λ lt. (left, right)) (λ lt. (right, left)))
      (gate_of_two (HasNumber (input_count old)) a b let_apart.wires (λ lt. tt) (λ lt. tt))
      (gate_of_two IsReduced a b let_apart.wires (λ lt. (let_apart.left, lt)) (λ lt. (let_apart.right, lt)))

  pub inserted : (new : List Gate) (place : ℕ) → new ≡ insert_key gate_eq old (and_gate a b) → place ≡ position_or_len (gate_eq (and_gate a b)) old → IsInserted old a b new place
  inserted new place made is = by (list_any (gate_eq (and_gate a b)) old) refl
    where
      by : (t : Bool) → list_any (gate_eq (and_gate a b)) old ≡ t → IsInserted old a b new place
      by true e =
          let same : old ≡ new = sym (made ∙ ap (λ t. if t then old else old ++ and_gate a b ∷ []) e) in
          subst (λ gates. IsInserted old a b gates place) same (record { conjunction = found place e is; circuit = h })
      by false e =
          let same : old ++ and_gate a b ∷ [] ≡ new = sym (made ∙ ap (λ t. if t then old else old ++ and_gate a b ∷ []) e) in
          let last : length old ≡ place = sym (is ∙ not_found (gate_eq (and_gate a b)) old e) in
          subst (λ gates. IsInserted old a b gates place) same
          (subst (λ k. IsInserted old a b (old ++ and_gate a b ∷ []) k) last (record { conjunction = added e; circuit = circuit_added }))

  -- a gate is lacking only where none is known
  pub refused : list_any (gate_eq (and_gate a b)) old ≡ false → known_and old a b ≡ None
  refused = unknown

-- what holds anyway holds on an error
pub on_err : {T E : Type 0} {P : Type 0} (r : Result T E) → P → OnErr r P
on_err (Ok x) p = tt
on_err (Err e) p = p

-- ---- inputs

no_such_input : (below : ℕ) (gates : List Gate) (n : ℕ) → input_count gates + below ≤ n → InputsAreNumbered below gates → list_any (gate_eq (Input n)) gates ≡ false
no_such_input below [] n le h = refl
no_such_input below (Input m ∷ gates) n le h =
    let number : m ≡ below = h.0 in
    let here : eqb n m ≡ false = grind (arith, nat_tests) in
    let rest = no_such_input (1 + below) gates n (omega arith) h.1 in
    ap (λ t. t || list_any (gate_eq (Input n)) gates) here ∙ rest
no_such_input below (And left right ∷ gates) n le h = no_such_input (0 + below) gates n (omega arith) h.1

-- the gates after a new input
pub record IsWithInput (old new : List Gate) : Type 0 where
  pub gates : new ≡ old ++ Input (input_count old) ∷ []
  pub older : Extends IsWire lit_holds old new
  pub used : length new ≡ length old + 1
  pub value : (w : World) → lit_holds new (lit_of (length new)) w ≡ get_or w (input_count old) false
  pub count : input_count new ≡ input_count old + 1
  pub circuit : IsCircuit new

pub with_input : (old new : List Gate) (number : ℕ) → IsCircuit old → length old < 2 ^ 30 → number ≡ input_count old → new ≡ insert_key gate_eq old (Input number) → IsWithInput old new
with_input old new number h room is made =
    let none = no_such_input 0 old (input_count old) (omega arith) h.numbered in
    let one : old ++ Input (input_count old) ∷ [] ≡ new = sym (made ∙ ap (λ n. insert_key gate_eq old (Input n)) is ∙ ap (λ t. if t then old else old ++ Input (input_count old) ∷ []) none) in
    subst (IsWithInput old) one (record {
      gates = refl;
      older = gates_extend old (Input (input_count old));
      used = length-append old (Input (input_count old) ∷ []);
      value = λ w. newest old (Input (input_count old)) (length (old ++ Input (input_count old) ∷ [])) w (omega (arith, length-append old (Input (input_count old) ∷ [])));
      count = input_count_more old (input_count old);
      circuit = circuit_more old (Input (input_count old)) h room tt refl tt;
    })
