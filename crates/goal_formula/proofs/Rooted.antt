-- The clause form of a literal, with the variables of the input bits.
use Rattle.std.proofs.Common.{◌≡◌, ℕ, ◌+◌, ◌-◌, ◌*◌, ◌^◌, ◌≤◌, ◌<◌, ◌↔◌, Bool, true, List, [], ◌∷◌, ◌++◌, length, take, drop, map, get_or, replicate, Option, Some, refl, sym, ap, subst, ◌∙◌, inl, inr, ⊎_elim, arith}
use Rattle.std.specs.Prelude.{IsSome, slice_get}
use Rattle.std.specs.List.{Contains, filter_map, flat_map, list_all, range_with_len}
use Rattle.std.proofs.lemmas.List.{append-nil, drop-drop, length-drop, length-take-le, map-append, replicate_more, take-append-drop, take_all, take_more}
use Rattle.std.proofs.lemmas.Grind.{flat_map-append}
use Rattle.std.proofs.lemmas.List.Sums.{sum_by_more}
use Rattle.std.proofs.Math.Seq.{take-add}
use Rattle.c_values.specs.declared.kinds.Kind.{Kind}
use Rattle.circuit.specs.Truth.{World}
use Rattle.circuit.specs.Wires.{IsWire, input_count, lit_holds}
use Rattle.circuit.specs.declared.lit.Gate.{Gate}
use Rattle.circuit.specs.declared.lit.Lit.{Lit}
use Rattle.clause_form.specs.Cone.{IsInCone}
use Rattle.clause_form.specs.Encoding.{cone_clauses, is_over, variable_of}
use Rattle.clause_form.specs.Worlds.{AgreesOnInputs, AgreesOnWires, assignment_of, world_of}
use Rattle.cnf.specs.Formulas.{Satisfies}
use Rattle.unwinder.specs.input_words.Worlds.{total_width, world_length}
use Rattle.goal_formula.specs.Bits.{Gives, IsShaped, input_variables}
use Rattle.goal_formula.specs.Forms.{IsConeForm, IsFormulaOf}
use Rattle.goal_formula.specs.Parts.{AreInputVariables}
use Rattle.goal_formula.specs.declared.goal.GoalFormula.{GoalFormula}
use Rattle.goal_formula.proofs.Cones.{circuit_of, inputs_apart, inputs_over, made, of_each, same_values}
use Rattle.goal_formula.proofs.InputBits.{bits_given, count_is, inputs_given, listed_all}

-- ---- rows

-- the rows of the parameters before one
pub record AreWordRows (bits : List (Option ℕ)) (parameters : List Kind) (i : ℕ) (rows : List (List (Option ℕ))) (from : ℕ) : Type 0 where
  pub widths : map length rows ≡ map (λ (kind : Kind). kind.width) (take i parameters)
  pub bits_are : flat_map (λ row. row) rows ≡ take from bits
  pub place : from ≡ total_width (take i parameters)

-- rows of 64 bits
pub record AreAnswerRows (bits : List (Option ℕ)) (from i : ℕ) (rows : List (List (Option ℕ))) : Type 0 where
  pub widths : map length rows ≡ replicate i 64
  pub bits_are : flat_map (λ row. row) rows ≡ take (64 * i) (drop from bits)

-- one row more
rows_more : (bits : List (Option ℕ)) (rows : List (List (Option ℕ))) (row : List (Option ℕ)) (from width : ℕ) → flat_map (λ r. r) rows ≡ take from bits → row ≡ take width (drop from bits) → flat_map (λ r. r) (rows ++ row ∷ []) ≡ take (from + width) bits
rows_more bits rows row from width before is =
    flat_map-append (λ r. r) rows (row ∷ [])
    ∙ ap (λ r. flat_map (λ x. x) rows ++ r) (append-nil row)
    ∙ ap (λ xs. xs ++ row) before
    ∙ ap (λ xs. take from bits ++ xs) is
    ∙ sym (take-add from width bits)

row_long : (bits row : List (Option ℕ)) (from width : ℕ) → row ≡ take width (drop from bits) → from + width ≤ length bits → length row ≡ width
row_long bits row from width is room = ap length is ∙ length-take-le width (drop from bits) (omega (arith, length-drop from bits))

pub word_rows_none : (bits : List (Option ℕ)) (parameters : List Kind) → AreWordRows bits parameters 0 [] 0
word_rows_none bits parameters = record { widths = refl; bits_are = refl; place = refl }

pub word_rows_more : (bits : List (Option ℕ)) (parameters : List Kind) (i from : ℕ) (rows : List (List (Option ℕ))) (row : List (Option ℕ)) (kind : Kind) → i < length parameters → kind ≡ get_or parameters i kind → from + kind.width ≤ length bits → row ≡ take kind.width (drop from bits)
    → AreWordRows bits parameters i rows from → AreWordRows bits parameters (i + 1) (rows ++ row ∷ []) (from + kind.width)
word_rows_more bits parameters i from rows row kind lt read room is h =
    let long = row_long bits row from kind.width is room in
    let taken : take (i + 1) parameters ≡ take i parameters ++ kind ∷ [] = take_more parameters i kind lt ∙ ap (λ k. take i parameters ++ k ∷ []) (sym read) in
    let sum = sum_by_more (λ (k : Kind). k.width) parameters i kind lt in
    let width = ap (λ (k : Kind). k.width) read in
    let place = h.place in
    record {
      widths =
          map-append length rows (row ∷ [])
          ∙ ap (λ ws. ws ++ length row ∷ []) h.widths
          ∙ ap (λ n. map (λ (k : Kind). k.width) (take i parameters) ++ n ∷ []) long
          ∙ sym (map-append (λ (k : Kind). k.width) (take i parameters) (kind ∷ []))
          ∙ ap (map (λ (k : Kind). k.width)) (sym taken);
      bits_are = rows_more bits rows row from kind.width h.bits_are is;
      place = omega (arith, sum, width, place);
    }

pub answer_rows_none : (bits : List (Option ℕ)) (from : ℕ) → AreAnswerRows bits from 0 []
answer_rows_none bits from = record { widths = refl; bits_are = refl }

pub answer_rows_more : (bits : List (Option ℕ)) (from i at : ℕ) (rows : List (List (Option ℕ))) (row : List (Option ℕ)) → at ≡ from + 64 * i → at + 64 ≤ length bits → row ≡ take 64 (drop at bits)
    → AreAnswerRows bits from i rows → AreAnswerRows bits from (i + 1) (rows ++ row ∷ [])
answer_rows_more bits from i at rows row place room is h =
    let long = row_long bits row at 64 is room in
    let next : 64 * i + 64 ≡ 64 * (i + 1) = omega arith in
    let here : row ≡ take 64 (drop (64 * i) (drop from bits)) = is ∙ ap (λ n. take 64 (drop n bits)) place ∙ ap (take 64) (sym (drop-drop (64 * i) from bits)) in
    record {
      widths = map-append length rows (row ∷ []) ∙ ap (λ ws. ws ++ length row ∷ []) h.widths ∙ ap (λ n. replicate i 64 ++ n ∷ []) long ∙ replicate_more i 64;
      bits_are = rows_more (drop from bits) rows row (64 * i) 64 h.bits_are here ∙ ap (λ n. take n (drop from bits)) next;
    }

-- all rows are all bits
pub all_rows : (bits : List (Option ℕ)) (words answers : List (List (Option ℕ))) (width count from : ℕ) → length bits ≡ width + 64 * count → from ≡ length bits - 64 * count → flat_map (λ r. r) words ≡ take width bits → flat_map (λ r. r) answers ≡ take (64 * count) (drop from bits)
    → flat_map (λ r. r) words ++ flat_map (λ r. r) answers ≡ bits
all_rows bits words answers width count from long at front back =
    let place : from ≡ width = omega arith in
    let rest : take (64 * count) (drop width bits) ≡ drop width bits = take_all (64 * count) (drop width bits) (omega (arith, length-drop width bits)) in
    ap (λ xs. xs ++ flat_map (λ r. r) answers) front
    ∙ ap (λ xs. take width bits ++ xs) (back ∙ ap (λ n. take (64 * count) (drop n bits)) place ∙ rest)
    ∙ take-append-drop width bits

-- ---- the formula

module _ (gates : List Gate) (root : Lit) (parameters : List Kind) (answers : ℕ) (variable bits : List (Option ℕ)) (g : GoalFormula)
    (inputs : AreInputVariables gates variable (length gates) bits) (all : input_variables g ≡ bits) (shape : IsShaped parameters answers g) (count : input_count gates ≡ world_length parameters answers)
    (size : length variable ≡ length gates) (cone : (wire : ℕ) → 0 < wire → IsSome (variable_of variable wire) ↔ IsInCone gates root wire)
    (numbers : filter_map (λ v. v) variable ≡ range_with_len 1 g.formula.variables)
    (listed : g.variable ≡ variable)
    (world : (value : ℕ → Bool) → AgreesOnInputs gates variable value (world_of gates variable value))
    (determined : (value : ℕ → Bool) (w : World) → Satisfies value g.formula → AgreesOnInputs gates variable value w → AgreesOnWires gates variable value w)
    (sound : (value : ℕ → Bool) (w : World) → Satisfies value g.formula → AgreesOnInputs gates variable value w → lit_holds gates root w ≡ true)
    (assigned : (w : World) → AgreesOnWires gates variable (assignment_of gates variable w) w)
    (complete : (value : ℕ → Bool) (w : World) → lit_holds gates root w ≡ true → AgreesOnWires gates variable value w → Satisfies value g.formula) where
  abbrev GivesAll : (ℕ → Bool) → World → Type 0
  GivesAll value w = Gives value (input_variables g) w

  to_bits : (value : ℕ → Bool) (w : World) → GivesAll value w → Gives value bits w
  to_bits value w h = subst (λ vs. Gives value vs w) all h

  from_bits : (value : ℕ → Bool) (w : World) → Gives value bits w → GivesAll value w
  from_bits value w h = subst (λ vs. Gives value vs w) (sym all) h

  has_bits : (n : ℕ) → Contains bits (Some n) → Contains (input_variables g) (Some n)
  has_bits n has = subst (λ vs. Contains vs (Some n)) (sym all) has

  cone_form : IsWire gates root → length gates ≤ 2 ^ 30 → g.formula.clauses ≡ cone_clauses gates variable root → IsConeForm gates root variable g
  cone_form wire few clauses = record {
    circuit = circuit_of gates few (made gates root variable bits g.formula.variables inputs size cone numbers);
    root_wire = wire;
    wires = size;
    cone = cone;
    numbers = numbers;
    clauses = clauses;
    inputs = all ∙ listed_all gates variable bits inputs size;
    each = λ n low high. ⊎_elim (λ has. inl (has_bits n has)) (λ gate. inr gate) (of_each gates root variable bits g.formula.variables inputs size cone numbers n low high);
    determined = λ value other own next agree. same_values gates root variable bits g.formula.variables inputs size cone numbers value other own next (λ m has. agree m (has_bits m has));
  }

  pub rooted : IsWire gates root → length gates ≤ 2 ^ 30 → g.formula.clauses ≡ cone_clauses gates variable root → g.formula.variables ≤ length gates → list_all (list_all (is_over g.formula.variables)) g.formula.clauses ≡ true
      → length g.formula.clauses ≤ 3 * g.formula.variables + 1 → IsFormulaOf gates root parameters answers g
  rooted wire few clauses few_variables over few_clauses = record {
    shape = shape;
    sound = λ value w own gives. sound value w own (inputs_given gates variable bits inputs value w (to_bits value w gives));
    complete = λ w long holds.
        let value = assignment_of gates variable w in
        let size : length w ≡ length bits = long ∙ sym count ∙ sym (count_is gates variable bits inputs) in
        (value, from_bits value w (bits_given gates variable bits inputs value w size (assigned w)), complete value w holds (assigned w));
    worlds = λ value own.
        let w = world_of gates variable value in
        (w, λ at n low has. determined value w own (world value) at n (subst (λ (vs : List (Option ℕ)). variable_of vs at ≡ Some n) listed has));
    variable = variable;
    form = cone_form wire few clauses;
    inputs_over = λ n has. inputs_over gates root variable bits g.formula.variables inputs size cone numbers n (subst (λ vs. Contains vs (Some n)) all has);
    inputs_apart = λ i j n p q. inputs_apart gates root variable bits g.formula.variables inputs size cone numbers i j n (ap (λ vs. slice_get vs i) (sym all) ∙ p) (ap (λ vs. slice_get vs j) (sym all) ∙ q);
    few_variables = few_variables;
    over = over;
    few_clauses = few_clauses;
  }
