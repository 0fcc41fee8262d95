-- The clauses of a cone, wire by wire, and what assignments that satisfy them have to do with worlds.
use Rattle.std.proofs.Common.{◌≡◌, ℕ, zero, suc, ◌+◌, ◌*◌, ◌≤◌, ◌<◌, ◌^◌, Bool, true, false, not, ◌&&◌, ◌||◌, if◌then◌else◌, List, [], ◌∷◌, ◌++◌, length, get_or, refl, sym, ◌∙◌, ap, subst, arith, length-append}
use Rattle.std.specs.Prelude.{ℤ, pos, neg_ℤ, Option, None, Some, slice_get, IsSomeAnd}
use Rattle.std.specs.List.{filter_map, flat_map, list_all, range_with_len}
use Rattle.std.specs.Option.{is_some, option_map_or}
use Rattle.std.specs.Bool.{beq}
use Rattle.std.proofs.lemmas.List.Folds.{list_all-append}
use Rattle.circuit.specs.Truth.{World}
use Rattle.circuit.specs.declared.lit.Lit.{Lit}
use Rattle.circuit.specs.declared.lit.Gate.{Gate}
use Rattle.circuit.specs.declared.lit.Gate.TheVariants.{Input, And}
use Rattle.circuit.specs.Sharing.{lit_of}
use Rattle.circuit.specs.Wires.{held, lit_holds}
use Rattle.circuit.proofs.Gates.{constant_wire}
use Rattle.cnf.specs.Clauses.{IsClause, literal_key}
use Rattle.cnf.specs.Formulas.{is_true_clause, is_true_literal}
use Rattle.clause_form.specs.Encoding.{cone_clauses, disjunction, gate_clauses, is_over, literal_of, variable_of, wire_clauses}
use Rattle.clause_form.specs.Worlds.{AgreesOnInputs, AgreesOnWires, assignment_of, world_of}
use Rattle.clause_form.specs.Parts.{AreVariables, HasRootVariable, conjunction_clauses, variable_count}
use Rattle.clause_form.proofs.NumberLaws.{and_first, and_rest, few_each, length-filter_map, length-range, list_all-flat_map, range_all, range_each, wire_number, wires_rise}
use Rattle.clause_form.proofs.TruthLaws.{beq_same, conjunction_truth, disjunction_is, flipped, gate_clauses_are, key_within, literal_is, over, rising_three, rising_two, same_beq, signed, truth_of}
use Rattle.clause_form.proofs.WorldLaws.{assigned, get_within, held_on, world_at}

some_is : {A : Type 0} (o : Option A) → is_some o ≡ true → (x : A) × (o ≡ Some x)
some_is None h = cc
some_is (Some x) h = (x, refl)

is_there : {A : Type 0} (o : Option A) (x : A) → o ≡ Some x → is_some o ≡ true
is_there o x e = ap is_some e

-- ---- one wire

-- the variables of a gate and of its parts
pub record GateNumbers (variable : List (Option ℕ)) (count n : ℕ) (a b : Lit) : Type 0 where
  pub left : ℕ
  pub right : ℕ
  pub left_is : variable_of variable a.wire ≡ Some left
  pub right_is : variable_of variable b.wire ≡ Some right
  pub low : 0 < left
  pub rise : left < right
  pub below : right < n
  pub high : n ≤ count
  pub left_wire : 0 < a.wire
  pub right_wire : 0 < b.wire

pub record GateFacts (variable : List (Option ℕ)) (n : ℕ) (a b : Lit) : Type 0 where
  pub known_left : IsSomeAnd (variable_of variable a.wire) (λ m. m < 2 ^ 31)
  pub known_right : IsSomeAnd (variable_of variable b.wire) (λ m. m < 2 ^ 31)
  pub small : n < 2 ^ 31
  pub implies_left : IsClause (literal_of variable a ∷ neg_ℤ (pos n) ∷ [])
  pub implies_right : IsClause (literal_of variable b ∷ neg_ℤ (pos n) ∷ [])
  pub implied : IsClause (neg_ℤ (literal_of variable a) ∷ neg_ℤ (literal_of variable b) ∷ pos n ∷ [])

module _ (gates : List Gate) (variable : List (Option ℕ)) (count : ℕ) (are : AreVariables gates variable count) where
  pub gate_numbers : (k n : ℕ) (a b : Lit) → variable_of variable (suc k) ≡ Some n → slice_get gates k ≡ Some (And a b) → GateNumbers variable count n a b
  gate_numbers k n a b there at =
      let some = is_there (variable_of variable (suc k)) n there in
      let x = some_is (variable_of variable a.wire) (are.left k a b some at) in
      let y = some_is (variable_of variable b.wire) (are.right k a b some at) in
      let g = are.gate k (And a b) some at in
      let low = wire_number variable count a.wire x.0 are.numbers x.1 in
      let high = wire_number variable count (suc k) n are.numbers there in
      record {
        left = x.0;
        right = y.0;
        left_is = x.1;
        right_is = y.1;
        low = omega (arith, low.0);
        rise = wires_rise variable count a.wire b.wire x.0 y.0 are.numbers g.reduced.1 x.1 y.1;
        below = wires_rise variable count b.wire (suc k) y.0 n are.numbers (omega (arith, g.parts.1)) y.1 there;
        high = omega (arith, high.1);
        left_wire = g.reduced.0;
        right_wire = omega (arith, g.reduced.0, g.reduced.1);
      }

  pub no_variable : (k : ℕ) → variable_of variable (suc k) ≡ None → wire_clauses gates variable (suc k) ≡ []
  no_variable k there = rw there refl

  pub input_wire : (k number : ℕ) → slice_get gates k ≡ Some (Input number) → wire_clauses gates variable (suc k) ≡ []
  input_wire k number at = rw at (either (is_some (variable_of variable (suc k))))
    where
      nothing : List (List ℤ)
      nothing = []

      either : (b : Bool) → (if b then nothing else nothing) ≡ nothing
      either true = refl
      either false = refl

  pub gate_wire : (k n : ℕ) (a b : Lit) → variable_of variable (suc k) ≡ Some n → slice_get gates k ≡ Some (And a b)
      → wire_clauses gates variable (suc k) ≡ conjunction_clauses (literal_of variable (lit_of (suc k))) (literal_of variable a) (literal_of variable b)
  gate_wire k n a b there at =
      let g = gate_numbers k n a b there at in
      ap (λ x. if x then option_map_or (gate_clauses variable (suc k)) (slice_get gates k) [] else []) (is_there (variable_of variable (suc k)) n there)
      ∙ ap (λ o. option_map_or (gate_clauses variable (suc k)) o []) at
      ∙ gate_clauses_are variable (suc k) a b (omega arith) g.left_wire g.right_wire

  pub how_many : variable_count variable ≡ count
  how_many = ap length are.numbers ∙ length-range 1 count

  pub few_variables : count ≤ length gates
  few_variables = let e = how_many in let f = length-filter_map variable in let s = are.size in omega arith

  -- what the code of a gate's clauses asks
  pub gate_facts : (k n : ℕ) (a b : Lit) → length gates ≤ 2 ^ 30 → variable_of variable (suc k) ≡ Some n → slice_get gates k ≡ Some (And a b) → GateFacts variable n a b
  gate_facts k n a b few there at =
      let g = gate_numbers k n a b there at in
      let low = g.low in
      let rise = g.rise in
      let below = g.below in
      let high = g.high in
      let all = few_variables in
      let x = literal_is variable a g.left g.left_is in
      let y = literal_is variable b g.right g.right_is in
      let known : Option ℕ → Type 0 = λ o. IsSomeAnd o (λ m. m < 2 ^ 31) in
      record {
        known_left = subst known (sym g.left_is) (omega arith);
        known_right = subst known (sym g.right_is) (omega arith);
        small = omega arith;
        implies_left = subst (λ z. IsClause (z ∷ neg_ℤ (pos n) ∷ [])) (sym x) (rising_two a.negated true g.left n low (omega arith) (omega arith));
        implies_right = subst (λ z. IsClause (z ∷ neg_ℤ (pos n) ∷ [])) (sym y) (rising_two b.negated true g.right n (omega arith) below (omega arith));
        implied =
            subst (λ z. IsClause (z ∷ neg_ℤ (literal_of variable b) ∷ pos n ∷ [])) (sym (ap neg_ℤ x ∙ flipped a.negated g.left))
            (subst (λ z. IsClause (signed (not a.negated) g.left ∷ z ∷ pos n ∷ [])) (sym (ap neg_ℤ y ∙ flipped b.negated g.right))
            (rising_three (not a.negated) (not b.negated) false g.left g.right n low rise below (omega arith)));
      }

  pub gate_clauses_of : (k wire n : ℕ) (a b : Lit) → wire ≡ suc k → variable_of variable (suc k) ≡ Some n → slice_get gates k ≡ Some (And a b)
      → wire_clauses gates variable wire ≡ conjunction_clauses (pos n) (literal_of variable a) (literal_of variable b)
  gate_clauses_of k wire n a b e there at =
      subst (λ w. wire_clauses gates variable w ≡ conjunction_clauses (pos n) (literal_of variable a) (literal_of variable b)) (sym e)
      (gate_wire k n a b there at ∙ ap (λ x. conjunction_clauses x (literal_of variable a) (literal_of variable b)) (literal_is variable (lit_of (suc k)) n there))

  pub key_positive : (l : Lit) (n : ℕ) → 0 < n → variable_of variable l.wire ≡ Some n → 0 < literal_key (literal_of variable l)
  key_positive l n lt there =
      let e = literal_is variable l n there in
      let k = key_within l.negated n lt in
      subst (λ x. 0 < literal_key x) (sym e) (omega arith)

  wire_within : (k n : ℕ) → variable_of variable (suc k) ≡ Some n → k < length gates
  wire_within k n there = let lt = within variable k n there in let e = are.size in omega arith
    where
      within : (vs : List (Option ℕ)) (k n : ℕ) → get_or vs k None ≡ Some n → k < length vs
      within [] k n e = cc
      within (v ∷ vs) zero n e = omega arith
      within (v ∷ vs) (suc k) n e = let r = within vs k n e in omega arith

  -- a fact about a wire's clauses, by what the wire is
  by_wire : (k : ℕ) (P : List (List ℤ) → Type 0) → P []
      → ((n : ℕ) (a b : Lit) → variable_of variable (suc k) ≡ Some n → slice_get gates k ≡ Some (And a b)
      → P (conjunction_clauses (literal_of variable (lit_of (suc k))) (literal_of variable a) (literal_of variable b)))
      → P (wire_clauses gates variable (suc k))
  by_wire k P none gate = by_variable (variable_of variable (suc k)) refl
    where
      by_gate : (n : ℕ) (g : Gate) → variable_of variable (suc k) ≡ Some n → slice_get gates k ≡ Some g → P (wire_clauses gates variable (suc k))
      by_gate n (Input number) there at = subst P (sym (input_wire k number at)) none
      by_gate n (And a b) there at = subst P (sym (gate_wire k n a b there at)) (gate n a b there at)

      by_variable : (o : Option ℕ) → variable_of variable (suc k) ≡ o → P (wire_clauses gates variable (suc k))
      by_variable None there = subst P (sym (no_variable k there)) none
      by_variable (Some n) there = let found = get_within gates k (wire_within k n there) in by_gate n found.0 there found.1

  -- a test of all clauses, wire by wire, and of what says the root
  all_wires : (p : List ℤ → Bool) (root : Lit) → ((k : ℕ) → list_all p (wire_clauses gates variable (suc k)) ≡ true) → list_all p (disjunction variable (root ∷ [])) ≡ true
      → list_all p (cone_clauses gates variable root) ≡ true
  all_wires p root wires last =
      let each : (x : ℕ) → 1 ≤ x → x < 1 + length gates → list_all p (wire_clauses gates variable x) ≡ true = wire_by wires in
      list_all-append p (flat_map (wire_clauses gates variable) (range_with_len 1 (length gates))) (disjunction variable (root ∷ []))
      ∙ ap (λ b. b && list_all p (disjunction variable (root ∷ []))) (list_all-flat_map p (wire_clauses gates variable) (range_with_len 1 (length gates)) ∙ range_all (λ x. list_all p (wire_clauses gates variable x)) 1 (length gates) each)
      ∙ last
    where
      wire_by : ((k : ℕ) → list_all p (wire_clauses gates variable (suc k)) ≡ true) → (x : ℕ) → 1 ≤ x → x < 1 + length gates → list_all p (wire_clauses gates variable x) ≡ true
      wire_by h zero low high = absurd (omega arith)
      wire_by h (suc k) low high = h k

  each_wire : (p : List ℤ → Bool) (root : Lit) → list_all p (cone_clauses gates variable root) ≡ true → (k : ℕ) → k < length gates → list_all p (wire_clauses gates variable (suc k)) ≡ true
  each_wire p root h k lt =
      let both = sym (list_all-append p (flat_map (wire_clauses gates variable) (range_with_len 1 (length gates))) (disjunction variable (root ∷ []))) ∙ h in
      let flat = and_first (list_all p (flat_map (wire_clauses gates variable) (range_with_len 1 (length gates)))) (list_all p (disjunction variable (root ∷ []))) both in
      range_each (λ x. list_all p (wire_clauses gates variable x)) 1 (length gates) (suc k) (sym (list_all-flat_map p (wire_clauses gates variable) (range_with_len 1 (length gates))) ∙ flat) (omega arith) (omega arith)

  last_clause : (p : List ℤ → Bool) (root : Lit) → list_all p (cone_clauses gates variable root) ≡ true → list_all p (disjunction variable (root ∷ [])) ≡ true
  last_clause p root h =
      let both = sym (list_all-append p (flat_map (wire_clauses gates variable) (range_with_len 1 (length gates))) (disjunction variable (root ∷ []))) ∙ h in
      and_rest (list_all p (flat_map (wire_clauses gates variable) (range_with_len 1 (length gates)))) (list_all p (disjunction variable (root ∷ []))) both

  -- ---- an assignment and a world

  module _ (value : ℕ → Bool) (world : World) where
    -- a literal is true where it holds, if its wire's variable is what the wire holds
    lit_truth : (l : Lit) (n : ℕ) → 0 < n → variable_of variable l.wire ≡ Some n → value n ≡ get_or (held gates world) l.wire false → is_true_literal value (literal_of variable l) ≡ lit_holds gates l world
    lit_truth l n lt there same =
        ap (is_true_literal value) (literal_is variable l n there) ∙ truth_of value l.negated n lt ∙ ap (λ b. if l.negated then not b else b) same

    -- the clauses of a gate are true where its variable is what the gate holds, if those of its parts are so
    gate_truth : (k n : ℕ) (a b : Lit) (g : GateNumbers variable count n a b) → variable_of variable (suc k) ≡ Some n
        → value g.left ≡ get_or (held gates world) a.wire false → value g.right ≡ get_or (held gates world) b.wire false
        → list_all (is_true_clause value) (conjunction_clauses (literal_of variable (lit_of (suc k))) (literal_of variable a) (literal_of variable b))
        ≡ beq (value n) (lit_holds gates a world && lit_holds gates b world)
    gate_truth k n a b g there left right =
        let low = g.low in
        let rise = g.rise in
        let below = g.below in
        let own : is_true_literal value (literal_of variable (lit_of (suc k))) ≡ value n = ap (is_true_literal value) (literal_is variable (lit_of (suc k)) n there) ∙ truth_of value false n (omega arith) in
        conjunction_truth value (literal_of variable (lit_of (suc k))) (literal_of variable a) (literal_of variable b) (key_positive (lit_of (suc k)) n (omega arith) there) (key_positive a g.left (omega arith) g.left_is)
        (key_positive b g.right (omega arith) g.right_is)
        ∙ ap (λ x. beq x (is_true_literal value (literal_of variable a) && is_true_literal value (literal_of variable b))) own
        ∙ ap (λ x. beq (value n) (x && is_true_literal value (literal_of variable b))) (lit_truth a g.left (omega arith) g.left_is left)
        ∙ ap (λ x. beq (value n) (lit_holds gates a world && x)) (lit_truth b g.right (omega arith) g.right_is right)

    holds_gate : (k n : ℕ) (a b : Lit) → variable_of variable (suc k) ≡ Some n → slice_get gates k ≡ Some (And a b) → get_or (held gates world) (suc k) false ≡ (lit_holds gates a world && lit_holds gates b world)
    holds_gate k n a b there at = let g = are.gate k (And a b) (is_there (variable_of variable (suc k)) n there) at in held_on gates k world (And a b) at g.parts

    -- what says the root is true where it holds
    module _ (root : Lit) (same : (n : ℕ) → variable_of variable root.wire ≡ Some n → value n ≡ get_or (held gates world) root.wire false) where
      other_root : 0 < root.wire → (n : ℕ) → 0 < n → variable_of variable root.wire ≡ Some n → list_all (is_true_clause value) (disjunction variable (root ∷ [])) ≡ lit_holds gates root world
      other_root lt n low there = ap (list_all (is_true_clause value)) (disjunction_is variable (root ∷ []) (lt, tt)) ∙ alone (is_true_literal value (literal_of variable root)) ∙ lit_truth root n low there (same n there)
        where
          alone : (b : Bool) → ((b || false) && true) ≡ b
          alone true = refl
          alone false = refl

    constant_root : (negated : Bool) → list_all (is_true_clause value) (disjunction variable (record { wire = 0; negated = negated } ∷ [])) ≡ lit_holds gates (record { wire = 0; negated = negated }) world
    constant_root true = ap not (sym (constant_wire gates world))
    constant_root false = sym (constant_wire gates world)

    root_by : (wire : ℕ) (negated : Bool) → HasRootVariable variable (record { wire = wire; negated = negated }) → ((n : ℕ) → variable_of variable wire ≡ Some n → value n ≡ get_or (held gates world) wire false)
        → list_all (is_true_clause value) (disjunction variable (record { wire = wire; negated = negated } ∷ [])) ≡ lit_holds gates (record { wire = wire; negated = negated }) world
    root_by zero negated has same = constant_root negated
    root_by (suc k) negated has same = by_variable (variable_of variable (suc k)) refl
      where
        by_variable : (o : Option ℕ) → variable_of variable (suc k) ≡ o → list_all (is_true_clause value) (disjunction variable (record { wire = suc k; negated = negated } ∷ [])) ≡ lit_holds gates (record { wire = suc k; negated = negated }) world
        by_variable None there = absurd (let P : Option ℕ → Type 0 = λ o. IsSomeAnd o (λ n. (0 < n) × (n < 2 ^ 31)) in subst P there (has (omega arith)))
        by_variable (Some n) there =
            let P : Option ℕ → Type 0 = λ o. IsSomeAnd o (λ n. (0 < n) × (n < 2 ^ 31)) in
            let low = subst P there (has (omega arith)) in
            other_root (record { wire = suc k; negated = negated }) same (omega arith) n low.0 there

    root_truth : (root : Lit) → HasRootVariable variable root → ((n : ℕ) → variable_of variable root.wire ≡ Some n → value n ≡ get_or (held gates world) root.wire false)
        → list_all (is_true_clause value) (disjunction variable (root ∷ [])) ≡ lit_holds gates root world
    root_truth root has same = root_by root.wire root.negated has same

    -- ---- what the inputs determine

    module _ (root : Lit) (true_all : list_all (is_true_clause value) (cone_clauses gates variable root) ≡ true) (inputs : AgreesOnInputs gates variable value world) where
      one_more : (k : ℕ) → ((wire n : ℕ) → wire ≤ k → variable_of variable wire ≡ Some n → value n ≡ get_or (held gates world) wire false)
          → (n : ℕ) (g : Gate) → variable_of variable (suc k) ≡ Some n → slice_get gates k ≡ Some g → value n ≡ get_or (held gates world) (suc k) false
      one_more k below n (Input number) there at =
          let g = are.gate k (Input number) (is_there (variable_of variable (suc k)) n there) at in
          inputs (suc k) number n at there ∙ sym (held_on gates k world (Input number) at g.parts)
      one_more k below n (And a b) there at =
          let g = gate_numbers k n a b there at in
          let facts = are.gate k (And a b) (is_there (variable_of variable (suc k)) n there) at in
          let left = below a.wire g.left facts.parts.0 g.left_is in
          let right = below b.wire g.right facts.parts.1 g.right_is in
          let clauses = ap (list_all (is_true_clause value)) (sym (gate_wire k n a b there at)) ∙ each_wire (is_true_clause value) root true_all k (wire_within k n there) in
          same_beq (value n) (lit_holds gates a world && lit_holds gates b world) (sym (gate_truth k n a b g there left right) ∙ clauses) ∙ sym (holds_gate k n a b there at)

      up_to : (bound wire n : ℕ) → wire ≤ bound → variable_of variable wire ≡ Some n → value n ≡ get_or (held gates world) wire false
      up_to bound zero n le there = cc
      up_to zero (suc k) n le there = absurd (omega arith)
      up_to (suc bound) (suc k) n le there =
          let found = get_within gates k (wire_within k n there) in
          one_more k (λ wire m small is. up_to bound wire m (omega arith) is) n found.0 there found.1

      pub determined : AgreesOnWires gates variable value world
      determined wire n there = up_to wire wire n (omega arith) there

      pub sound : HasRootVariable variable root → lit_holds gates root world ≡ true
      sound has = sym (root_truth root has (λ n there. determined root.wire n there)) ∙ last_clause (is_true_clause value) root true_all

    pub complete : (root : Lit) → HasRootVariable variable root → lit_holds gates root world ≡ true → AgreesOnWires gates variable value world → list_all (is_true_clause value) (cone_clauses gates variable root) ≡ true
    complete root has holds wires =
        all_wires (is_true_clause value) root
        (λ k. by_wire k (λ cs. list_all (is_true_clause value) cs ≡ true) refl (λ n a b there at.
        let g = gate_numbers k n a b there at in
        gate_truth k n a b g there (wires a.wire g.left g.left_is) (wires b.wire g.right g.right_is)
        ∙ beq_same (value n) (lit_holds gates a world && lit_holds gates b world) (wires (suc k) n there ∙ holds_gate k n a b there at)))
        (root_truth root has (λ n there. wires root.wire n there) ∙ holds)

  pub own_world : (value : ℕ → Bool) → AgreesOnInputs gates variable value (world_of gates variable value)
  own_world value zero number n at there = cc
  own_world value (suc k) number n at there =
      let g = are.gate k (Input number) (is_there (variable_of variable (suc k)) n there) at in
      sym (world_at gates variable value k number number n at g.number there)

  pub own_assignment : (world : World) → AgreesOnWires gates variable (assignment_of gates variable world) world
  own_assignment world zero n there = cc
  own_assignment world (suc k) n there = assigned gates variable count k n world are.numbers are.size there

  -- ---- how large it is

  literal_over : (l : Lit) (n : ℕ) → 0 < n → n ≤ count → variable_of variable l.wire ≡ Some n → (is_over count (literal_of variable l) ≡ true) × (is_over count (neg_ℤ (literal_of variable l)) ≡ true)
  literal_over l n low high there =
      let e = literal_is variable l n there in
      (ap (is_over count) e ∙ over count l.negated n low high, ap (λ x. is_over count (neg_ℤ x)) e ∙ ap (is_over count) (flipped l.negated n) ∙ over count (not l.negated) n low high)

  three_over : (q : ℤ → Bool) (g a b : ℤ) → q g ≡ true → q (neg_ℤ g) ≡ true → q a ≡ true → q (neg_ℤ a) ≡ true → q b ≡ true → q (neg_ℤ b) ≡ true → list_all (list_all q) (conjunction_clauses g a b) ≡ true
  three_over q g a b x x' y y' z z' = rw (x, x', y, y', z, z') refl

  root_over : (wire : ℕ) (negated : Bool) → HasRootVariable variable (record { wire = wire; negated = negated }) → list_all (list_all (is_over count)) (disjunction variable (record { wire = wire; negated = negated } ∷ [])) ≡ true
  root_over zero true has = refl
  root_over zero false has = refl
  root_over (suc k) negated has = by_variable (variable_of variable (suc k)) refl
    where
      by_variable : (o : Option ℕ) → variable_of variable (suc k) ≡ o → list_all (list_all (is_over count)) (disjunction variable (record { wire = suc k; negated = negated } ∷ [])) ≡ true
      by_variable None there = absurd (let P : Option ℕ → Type 0 = λ o. IsSomeAnd o (λ n. (0 < n) × (n < 2 ^ 31)) in subst P there (has (omega arith)))
      by_variable (Some n) there =
          let w = wire_number variable count (suc k) n are.numbers there in
          let o = literal_over (record { wire = suc k; negated = negated }) n (omega (arith, w.0)) (omega (arith, w.1)) there in
          ap (list_all (list_all (is_over count))) (disjunction_is variable (record { wire = suc k; negated = negated } ∷ []) (omega arith, tt)) ∙ rw o.0 refl

  pub all_over : (root : Lit) → HasRootVariable variable root → list_all (list_all (is_over count)) (cone_clauses gates variable root) ≡ true
  all_over root has =
      all_wires (list_all (is_over count)) root
      (λ k. by_wire k (λ cs. list_all (list_all (is_over count)) cs ≡ true) refl (λ n a b there at.
      let g = gate_numbers k n a b there at in
      let low = g.low in
      let rise = g.rise in
      let below = g.below in
      let high = g.high in
      let x = literal_over (lit_of (suc k)) n (omega arith) (omega arith) there in
      let y = literal_over a g.left (omega arith) (omega arith) g.left_is in
      let z = literal_over b g.right (omega arith) (omega arith) g.right_is in
      three_over (is_over count) (literal_of variable (lit_of (suc k))) (literal_of variable a) (literal_of variable b) x.0 x.1 y.0 y.1 z.0 z.1))
      (root_over root.wire root.negated has)

  pub few_clauses : (root : Lit) → length (cone_clauses gates variable root) ≤ 3 * count + 1
  few_clauses root =
      let f = wire_clauses gates variable in
      let gates_few : length (flat_map f (range_with_len 1 (length variable))) ≤ 3 * length (filter_map (λ v. v) variable) =
      few_each f variable 1 (λ k none. let e : suc k ≡ 1 + k = omega arith in subst (λ w. length (f w) ≡ 0) e (ap length (no_variable k none)))
      (λ k. let e : suc k ≡ 1 + k = omega arith in subst (λ w. length (f w) ≤ 3) e (by_wire k (λ cs. length cs ≤ 3) (omega arith) (λ n a b there at. omega arith))) in
      let moved : length (flat_map f (range_with_len 1 (length gates))) ≤ 3 * length (filter_map (λ v. v) variable) = subst (λ n. length (flat_map f (range_with_len 1 n)) ≤ 3 * length (filter_map (λ v. v) variable)) are.size gates_few in
      let e = how_many in
      let last = one_at_most root.wire root.negated in
      omega (arith, length-append (flat_map f (range_with_len 1 (length gates))) (disjunction variable (root ∷ [])))
    where
      either : (b : Bool) (c : List ℤ) → length (if b then [] else c ∷ []) ≤ 1
      either true c = omega arith
      either false c = omega arith

      one_at_most : (wire : ℕ) (negated : Bool) → length (disjunction variable (record { wire = wire; negated = negated } ∷ [])) ≤ 1
      one_at_most wire negated = either _ _

-- the clauses of the gates, and then that of the root
pub whole : (gates : List Gate) (root : Lit) (u v variable : List (Option ℕ)) (old new : List (List ℤ)) → u ≡ variable → v ≡ variable → old ≡ flat_map (wire_clauses gates u) (range_with_len 1 (length gates))
    → new ≡ old ++ disjunction v (root ∷ []) → new ≡ cone_clauses gates variable root
whole gates root u v variable old new e f g h =
    h ∙ ap (λ cs. cs ++ disjunction v (root ∷ [])) (g ∙ ap (λ x. flat_map (wire_clauses gates x) (range_with_len 1 (length gates))) e)
    ∙ ap (λ x. flat_map (wire_clauses gates variable) (range_with_len 1 (length gates)) ++ disjunction x (root ∷ [])) f
