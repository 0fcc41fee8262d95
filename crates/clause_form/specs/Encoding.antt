-- The clauses of a circuit's cone (Tseitin 1968, "On the complexity of derivation in propositional calculus").
use Rattle.std.specs.Prelude.{ℕ, zero, suc, ◌+◌, ◌*◌, ◌==◌, nat_lt, ℤ, pos, neg_ℤ, Bool, not, ◌&&◌, if◌then◌else◌, List, [], ◌∷◌, ◌++◌, length, map, filter, slice_index_or, Option, None, unwrap_or}
use Rattle.std.specs.List.{list_any, flat_map, range_with_len}
use Rattle.std.specs.Option.{is_some, option_map_or}
use Rattle.circuit.specs.declared.lit.Lit.{Lit}
use Rattle.circuit.specs.declared.lit.Gate.{Gate}
use Rattle.circuit.specs.declared.lit.Gate.TheVariants.{Input, And}
use Rattle.circuit.specs.Sharing.{inverse, lit_of}
use Rattle.cnf.specs.Clauses.{literal_key}
use Rattle.clause_form.specs.Cone.{gate_on}

-- the variable of a wire, where `variable` lists those of the wires from 1 on; the constant has none
abbrev pub variable_of : List (Option ℕ) → ℕ → Option ℕ
variable_of variable zero = None
variable_of variable (suc place) = slice_index_or variable place None

-- the literal of the formula for one of the circuit: the variable of its wire, with its sign
abbrev pub literal_of : List (Option ℕ) → Lit → ℤ
literal_of variable l =
    if l.negated
    then neg_ℤ (pos (unwrap_or (variable_of variable l.wire) 0))
    else pos (unwrap_or (variable_of variable l.wire) 0)

abbrev pub is_yes : Lit → Bool
is_yes l = (l.wire == 0) && not l.negated

abbrev pub is_no : Lit → Bool
is_no l = (l.wire == 0) && l.negated

-- what says that one of these holds: nothing where one is yes, and else one clause, of those that aren't no
abbrev pub disjunction : List (Option ℕ) → List Lit → List (List ℤ)
disjunction variable lits =
    if list_any is_yes lits then []
    else map (literal_of variable) (filter (λ l. not (is_no l)) lits) ∷ []

-- what says that a wire holds exactly where both parts of its gate do: it implies either, and both imply it
abbrev pub gate_clauses : List (Option ℕ) → ℕ → Gate → List (List ℤ)
gate_clauses variable wire (Input number) = []
gate_clauses variable wire (And a b) =
    disjunction variable (a ∷ inverse (lit_of wire) ∷ [])
    ++ disjunction variable (b ∷ inverse (lit_of wire) ∷ [])
    ++ disjunction variable (inverse a ∷ inverse b ∷ lit_of wire ∷ [])

-- the clauses of a wire's gate, where the wire has a variable
abbrev pub wire_clauses : List Gate → List (Option ℕ) → ℕ → List (List ℤ)
wire_clauses gates variable wire =
    if is_some (variable_of variable wire) then option_map_or (gate_clauses variable wire) (gate_on gates wire) [] else []

-- the clauses of all wires, from 1 on, and then what says that the root holds
abbrev pub cone_clauses : List Gate → List (Option ℕ) → Lit → List (List ℤ)
cone_clauses gates variable root =
    flat_map (wire_clauses gates variable) (range_with_len 1 (length gates)) ++ disjunction variable (root ∷ [])

-- whether a literal is one of the variables from 1 to this number
abbrev pub is_over : ℕ → ℤ → Bool
is_over variables x = nat_lt 1 (literal_key x) && nat_lt (literal_key x) (2 * variables + 2)
