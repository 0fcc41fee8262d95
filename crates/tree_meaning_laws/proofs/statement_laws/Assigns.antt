-- Statements that put values into cells, and those that test one.
use Rattle.std.proofs.Common.{◌≡◌, ℕ, ◌+◌, ◌<◌, ◌≤◌, Bool, true, false, List, [], ◌∷◌, ◌++◌, Option, Some, None, Result, Ok, Err, refl, sym, ap, subst, ◌∙◌, arith, pos}
use Rattle.std.specs.Prelude.{IsTrue, ◌||◌, ◌==◌, not, if◌then◌else◌, slice_get, slice_index, slice_set, ok_or}
use Rattle.std.proofs.lemmas.List.{length-set}
use Rattle.c_values.specs.Kind.{IsKind, IsValue, wrapped, converted}
use Rattle.c_values.specs.Operations.{binary_kind, binary_value, is_shift}
use Rattle.c_values.specs.declared.kinds.Kind.{Kind}
use Rattle.c_values.specs.declared.operators.BinaryOp.{BinaryOp}
use Rattle.c_values.proofs.Consequences.{binary_values_are_values}
use Rattle.c_values.proofs.Fitting.{IsValue-wrapped, IsValue-converted}
use Rattle.cfa.specs.Kinds.{same_kind}
use Rattle.cfa.specs.declared.expr.CellPlace.{CellPlace}
use Rattle.cfa.specs.declared.expr.CellPlace.TheVariants as place
use Rattle.cfa.specs.declared.expr.Expr.{Expr}
use Rattle.cfa.specs.declared.expr.Expr.TheVariants as expr
use Rattle.cfa.specs.declared.parts.Edge.{Edge}
use Rattle.cfa.specs.declared.parts.Operation.{Operation}
use Rattle.cfa.specs.declared.parts.Operation.TheVariants.{Assign, Assert, Assume}
use Rattle.cfa.specs.declared.parts.Variable.{Variable}
use Rattle.cfa.specs.declared.state.Frame.{Frame}
use Rattle.cfa.specs.declared.state.State.{State}
use Rattle.cfa.specs.declared.state.Trap.{Trap}
use Rattle.cfa.specs.declared.state.Trap.TheVariants as trap
use Rattle.cfa.specs.Graph.{is_return, is_guard}
use Rattle.cfa.specs.States.{value_in}
use Rattle.cfa.specs.Values.{valued, value_of, cell_of, after_value, operator_outcome, operator_trap}
use Rattle.c_meaning.specs.declared.stepped.Stepped.{Stepped}
use Rattle.c_meaning.specs.declared.stepped.Stepped.TheVariants.{Trapped, Blocked}
use Rattle.c_meaning.specs.Runs.{state_moved}
use Rattle.c_meaning.specs.Steps.{next, operated, unless_trapped, unless_zero, cell_in, moved}
use Rattle.c_typed_trees.specs.Fitting.{operands_meet}
use Rattle.c_lower_rules.specs.declared.graph_of.parts.Around.{Around}
use Rattle.c_lower_rules.specs.declared.graph_of.parts.Operand.{Operand}
use Rattle.c_lower_rules.specs.declared.graph_of.parts.Target.{Target}
use Rattle.c_lower_rules.specs.graph_of.Builder.{◌then◌, ending}
use Rattle.c_lower_rules.specs.graph_of.Edges.{step, edge_of}
use Rattle.c_lower_rules.specs.graph_of.Expressions.{Value, Spot, spot_cell}
use Rattle.c_lower_rules.specs.graph_of.Statements.{assign_row, combined as graph_combined, converted_to, reads_in_place, return_row, test_row}
use Rattle.tree_meaning.specs.declared.way.Way.{Way}
use Rattle.tree_meaning.specs.declared.way.Way.TheVariants.{GoesOn, Returns}
use Rattle.tree_meaning.specs.Outcomes.{Store, End, TrapEnd, BlockedEnd, Gives, ◌andthen◌, unless_trap, is_true}
use Rattle.tree_meaning.specs.Activations.{read, stored}
use Rattle.tree_meaning.specs.Expressions.{Meant, Placed, evaluate, operated as tree_operated}
use Rattle.tree_meaning.specs.Statements.{combined, assign, unless_false, assert, assume, return_value}
use Rattle.tree_meaning.proofs.ValueKinds.{same_kind_is}
use Rattle.tree_meaning_laws.specs.expression_laws.Sits.{Sits}
use Rattle.tree_meaning_laws.specs.expression_laws.Follows.{Follows, ended}
use Rattle.tree_meaning_laws.specs.expression_laws.Contexts.{Context, IsContext, Held, Related, Proper, Clear, parts_of, own_frame, own_activation}
use Rattle.tree_meaning_laws.specs.expression_laws.Flows.{Ended, Flows, HasRest, NamesCell, Does}
use Rattle.tree_meaning_laws.proofs.expression_laws.Sits.{all_sit}
use Rattle.tree_meaning_laws.proofs.expression_laws.Going.{next_one}
use Rattle.tree_meaning_laws.proofs.expression_laws.Follows.{follows_then}
use Rattle.tree_meaning_laws.proofs.expression_laws.Cells.{Drops, agree_less, related_less, agree_set, good, frame_is, drops_after, proper_after, clear_after}
use Rattle.tree_meaning_laws.proofs.expression_laws.Flows.{nil_behind, value_then, evaluate_then}
use Rattle.tree_meaning_laws.proofs.expression_laws.Values.{load_value, convert_value, binary_is, local_cell}
use Rattle.tree_meaning_laws.specs.statement_laws.Simulates.{Arrives, Simulates}
use Rattle.tree_meaning_laws.proofs.statement_laws.Cells.{free_of, same_converted}

-- ---- what `op=` puts into a place

-- the operator's kind is a kind, and its operands are of the kinds that it takes
abbrev pub OperatorFits : Option (BinaryOp × Kind) → Kind → Type 0
OperatorFits None kind = Unit {0}
OperatorFits (Some op) kind = IsKind op.1 × IsTrue (operands_meet op.0 op.1 kind)

-- a conversion that is left out between equal kinds
converted_value : (ys : List ℕ) (frame : Frame) (own kind : Kind) (e : Expr) (r : Result ℕ Trap) → (valued ys frame e).kind ≡ own → value_of ys frame e ≡ r → ((v : ℕ) → r ≡ Ok v → IsValue own v)
    → (value_of ys frame (converted_to own kind e) ≡ after_value r (λ v. Ok (converted own kind v))) × ((valued ys frame (converted_to own kind e)).kind ≡ kind)
converted_value ys frame own kind e r is given values = by (same_kind own kind) refl
  where
    kept : (r : Result ℕ Trap) → ((v : ℕ) → r ≡ Ok v → IsValue own v) → r ≡ after_value r (λ v. Ok (converted own own v))
    kept (Ok v) h = ap Ok (sym (same_converted own v (h v refl)))
    kept (Err t) h = refl

    by : (b : Bool) → same_kind own kind ≡ b → (value_of ys frame (if b then e else expr.Convert e kind) ≡ after_value r (λ v. Ok (converted own kind v))) × ((valued ys frame (if b then e else expr.Convert e kind)).kind ≡ kind)
    by true same = let equal = same_kind_is own kind same in (given ∙ kept r values ∙ ap (λ k. after_value r (λ v. Ok (converted own k v))) equal, is ∙ equal)
    by false same = (
      ap (λ q. q.value) (convert_value ys frame e kind) ∙ ap (λ q. after_value q (λ v. Ok (converted (valued ys frame e).kind kind v))) given ∙ ap (λ k. after_value r (λ v. Ok (converted k kind v))) is,
      ap (λ q. q.kind) (convert_value ys frame e kind),
    )

-- a value is put as it is
as_it_is : (r : Result ℕ Trap) → r ≡ after_value r (λ v. Ok v)
as_it_is (Ok v) = refl
as_it_is (Err t) = refl

meets : (op : BinaryOp) (left right : Kind) → IsTrue (operands_meet op left right) → is_shift op ≡ false → right ≡ left
meets op left right h e = same_kind_is right left (by (is_shift op) h e)
  where
    by : (s : Bool) → IsTrue (s || same_kind right left) → s ≡ false → IsTrue (same_kind right left)
    by true h e = absurd cc
    by false h e = h

outcome_is : (o : Option ℕ) (t : Trap) (v : ℕ) → ok_or o t ≡ Ok v → o ≡ Some v
outcome_is (Some m) t v e = cc
outcome_is None t v e = absurd cc

-- with an operator
module _ (xs ys : List ℕ) (frame : Frame) (own : Kind) (op : BinaryOp) (op_kind kind : Kind) (q : CellPlace) (e : Expr) (cell : ℕ) (r : Result ℕ Trap) (k : IsKind own) (of_kind : IsKind op_kind) (fits : IsTrue (operands_meet op op_kind kind))
    (named : cell_of ys frame q ≡ Ok cell) (same : slice_index xs cell ≡ slice_index ys cell) (given : value_of ys frame e ≡ r) (is : (valued ys frame e).kind ≡ kind) (values : (v : ℕ) → r ≡ Ok v → IsValue kind v) where
  abbrev old : ℕ
  old = read xs own cell

  abbrev first : Expr
  first = converted_to own op_kind (expr.Load q own)

  abbrev whole : Expr
  whole = expr.Binary op first e op_kind

  abbrev work : ℕ → Result ℕ Trap
  work v = tree_operated op op_kind kind (converted own op_kind old) v

  loaded : value_of ys frame (expr.Load q own) ≡ Ok old
  loaded = ap (λ v. v.value) (load_value ys frame q own) ∙ ap (λ o. after_value o (λ j. Ok (wrapped own (pos (slice_index ys j))))) named ∙ ap (λ w. Ok (wrapped own (pos w))) (sym same)

  first_is : value_of ys frame first ≡ Ok (converted own op_kind old)
  first_is = (converted_value ys frame own op_kind (expr.Load q own) (Ok old) (ap (λ v. v.kind) (load_value ys frame q own)) loaded (λ v e. subst (IsValue own) (let same' : old ≡ v = cc in same') (IsValue-wrapped own (pos (slice_index xs cell)) k))).0

  value : value_of ys frame whole ≡ after_value r work
  value = ap (λ v. v.value) (binary_is ys frame op first e op_kind)
      ∙ ap (λ o. after_value o (λ a. after_value (value_of ys frame e) (λ b. operator_outcome ys frame op op_kind (valued ys frame e).kind a b))) first_is
      ∙ ap (λ o. after_value o (λ b. operator_outcome ys frame op op_kind (valued ys frame e).kind (converted own op_kind old) b)) given
      ∙ ap (λ j. after_value r (λ b. operator_outcome ys frame op op_kind j (converted own op_kind old) b)) is

  known : (r : Result ℕ Trap) → ((v : ℕ) → r ≡ Ok v → IsValue kind v) → (w : ℕ) → after_value r work ≡ Ok w → IsValue (binary_kind op op_kind) w
  known (Err t) h w e = absurd cc
  known (Ok v) h w e =
      binary_values_are_values op op_kind kind (converted own op_kind old) v w (IsValue-converted own op_kind old of_kind) (h v refl) (meets op op_kind kind fits)
      (outcome_is (binary_value op op_kind kind (converted own op_kind old) v) (operator_trap op op_kind v) w e)

  joined : (r : Result ℕ Trap) → after_value (after_value r work) (λ v. Ok (converted (binary_kind op op_kind) own v)) ≡ after_value r (combined own (Some (op, op_kind)) kind xs cell)
  joined (Ok v) = refl
  joined (Err t) = refl

  operated_is : value_of ys frame (converted_to (binary_kind op op_kind) own whole) ≡ after_value r (combined own (Some (op, op_kind)) kind xs cell)
  operated_is = (converted_value ys frame (binary_kind op op_kind) own whole (after_value r work) (ap (λ v. v.kind) (binary_is ys frame op first e op_kind)) value (known r values)).0 ∙ joined r

combined_is : (xs ys : List ℕ) (frame : Frame) (own : Kind) (op : Option (BinaryOp × Kind)) (kind : Kind) (q : CellPlace) (e : Expr) (cell : ℕ) (r : Result ℕ Trap) → IsKind own → OperatorFits op kind
    → cell_of ys frame q ≡ Ok cell → slice_index xs cell ≡ slice_index ys cell → value_of ys frame e ≡ r → (valued ys frame e).kind ≡ kind → ((v : ℕ) → r ≡ Ok v → IsValue kind v)
    → value_of ys frame (graph_combined own op q e) ≡ after_value r (combined own op kind xs cell)
combined_is xs ys frame own None kind q e cell r k fits named same given is values = given ∙ as_it_is r
combined_is xs ys frame own (Some op) kind q e cell r k fits named same given is values = operated_is xs ys frame own op.0 op.1 kind q e cell r k fits.0 fits.1 named same given is values

module _ (c : Context) (ok : IsContext c) where
  -- ---- along an edge that assigns

  pub assigned : (ho held : Held) (at : ℕ) (way : Way) (e : Edge) (q : CellPlace) (value : Expr) (s : Store) (st : State) (rp : Result ℕ Trap) (rv : ℕ → Result ℕ Trap) → Drops held ho → Proper c held
      → slice_get (parts_of c).edges at ≡ Some e → e.operation ≡ Assign q value → Related c held e.source s st
      → cell_in st q ≡ rp → ((cell : ℕ) → rp ≡ Ok cell → IsTrue (c.keeps cell) × (value_in st value ≡ rv cell))
      → (Reach : Way → Store → State → Type 0) → ((s' : Store) (to : State) → Related c ho e.target s' to → Reach way s' to)
      → Follows (parts_of c) c.input st s.turns s.turns Reach (unless_trap rp (λ cell. unless_trap (rv cell) (λ v. Gives way (stored s cell v))))
  assigned ho held at way e q value s st rp rv d proper there is h p known Reach reach = by rp known goes
    where
      goes : next (parts_of c) c.input st ≡ unless_trapped rp (λ cell. unless_trapped (value_in st value) (λ v. moved at e st (slice_set st.cells cell v)))
      goes = next_one (parts_of c) (good c) c.input st at e there (ap is_return is) (ap is_guard is) (sym h.node) ∙ ap (operated (parts_of c) c.input st at e) is
          ∙ ap (λ r. unless_trapped r (λ cell. unless_trapped (value_in st value) (λ v. moved at e st (slice_set st.cells cell v)))) p

      put_in : (cell : ℕ) (r : Result ℕ Trap) → IsTrue (c.keeps cell) → next (parts_of c) c.input st ≡ unless_trapped r (λ v. moved at e st (slice_set st.cells cell v)) → Follows (parts_of c) c.input st s.turns s.turns Reach (unless_trap r (λ v. Gives way (stored s cell v)))
      put_in cell (Err t) kept goes = record { moves = 0; to = st; path = refl; stops = goes }
      put_in cell (Ok v) kept goes =
          let to : State = record st { node = e.target; cells = slice_set st.cells cell v } in
          let stands : Related c held e.target (stored s cell v) to = record {
            node = refl;
            frames = h.frames;
            size = length-set st.cells cell v ∙ h.size;
            cells = agree_set c.keeps held s.cells st.cells cell v h.cells (free_of c held proper cell kept);
            answers = h.answers;
          } in
          record { moves = 1; to = to; path = ap state_moved goes; there = reach (stored s cell v) to (related_less c held ho e.target (stored s cell v) to d stands); enough = omega arith; few = omega arith }

      by : (rp : Result ℕ Trap) → ((cell : ℕ) → rp ≡ Ok cell → IsTrue (c.keeps cell) × (value_in st value ≡ rv cell)) → next (parts_of c) c.input st ≡ unless_trapped rp (λ cell. unless_trapped (value_in st value) (λ v. moved at e st (slice_set st.cells cell v)))
          → Follows (parts_of c) c.input st s.turns s.turns Reach (unless_trap rp (λ cell. unless_trap (rv cell) (λ v. Gives way (stored s cell v))))
      by (Err t) known goes = record { moves = 0; to = st; path = refl; stops = goes }
      by (Ok cell) known goes = let K = known cell refl in put_in cell (rv cell) K.0 (goes ∙ ap (λ r. unless_trapped r (λ v. moved at e st (slice_set st.cells cell v))) K.1)

  -- an expression, and then its value is put into a cell
  pub put_does : (ho : Held) (low high : ℕ) (m : Meant) (x : Value) (q : CellPlace) (cell : ℕ) (way : Way) (writes : List (List ℕ)) → Proper c ho → Clear c ho low high → Does c ho low high m x
      → ((st : State) (held : Held) (node : ℕ) (s : Store) → Related c held node s st → cell_in st q ≡ Ok cell) → IsTrue (c.keeps cell)
      → (u : Around) (z a n e k : ℕ) → Sits (parts_of c) (ending (x.pure u) (λ v b. step u (Assign q v.value) writes v.reads b z) a n e k) n e k
      → (s : Store) (st : State) → Related c ho a s st → (Reach : Way → Store → State → Type 0) → ((s' : Store) (to : State) → Related c ho z s' to → Reach way s' to)
      → Follows (parts_of c) c.input st s.turns s.turns Reach (evaluate m s andthen λ v s'. Gives way (stored s' cell v))
  put_does ho low high m x q cell way writes proper clear hx names kept u z a n e k sits s st at Reach reach =
      subst (Follows (parts_of c) c.input st s.turns s.turns Reach) (sym (evaluate_then m s (λ v s'. Gives way (stored s' cell v))))
      (value_then c ho low high m (x.pure u) (λ v b. step u (Assign q v.value) writes v.reads b z) Reach (λ v s'. Gives way (stored s' cell v)) proper clear (hx.pure u)
      (λ held d pr out o b n e k sits s st at r given.
      assigned ho held e way _ q o.value s st (Ok cell) (λ j. r) d pr sits.edges.0 refl at (names st held b s at) (λ j is. (subst (λ i. IsTrue (c.keeps i)) (same cell j is) kept, given)) Reach reach) a n e k sits s st at)
    where
      same : (i j : ℕ) → (let r : Result ℕ Trap = Ok i in r) ≡ Ok j → i ≡ j
      same i j is = cc

  -- `return` with a value
  pub return_value_does : (ho : Held) (low high : ℕ) (m : Meant) (x : Value) → Proper c ho → Clear c ho low high → Does c ho low high m x → IsTrue (c.keeps (own_frame c).base) → Simulates c ho (return_value (own_activation c) (Some m)) (return_row (Some x))
  return_value_does ho low high m x proper clear hx kept u a z n e k sits s st at =
      put_does ho low high m x (place.Local 0) (own_frame c).base Returns [] proper clear hx (λ st held node s h. ap (λ f. cell_of st.cells f (place.Local 0)) (frame_is c held node s st h) ∙ local_cell st.cells (own_frame c) 0 ∙ ap Ok (let e : (own_frame c).base + 0 ≡ (own_frame c).base = omega arith in e)) kept
      u u.exit a n e k sits s st at (Arrives c ho u z) (λ s' to h. h)

  -- ---- assertions and assumptions

  tested : (ho held : Held) (at z : ℕ) (e : Edge) (stopped : Stepped) (end : End) (s : Store) (st : State) (r : Result ℕ Trap) → Drops held ho → stopped ≡ ended end → e.target ≡ z → Related c held e.source s st
      → next (parts_of c) c.input st ≡ unless_trapped r (unless_zero stopped (moved at e st st.cells)) → (u : Around)
      → Follows (parts_of c) c.input st s.turns s.turns (Arrives c ho u z) (unless_trap r (λ v. unless_false end (is_true v) s))
  tested ho held at z e stopped end s st (Err t) d is target h goes u = record { moves = 0; to = st; path = refl; stops = goes }
  tested ho held at z e stopped end s st (Ok v) d is target h goes u = by (v == 0) goes
    where
      by : (b : Bool) → next (parts_of c) c.input st ≡ (if b then stopped else moved at e st st.cells) → Follows (parts_of c) c.input st s.turns s.turns (Arrives c ho u z) (unless_false end (not b) s)
      by true goes = record { moves = 0; to = st; path = refl; stops = goes ∙ is }
      by false goes =
          let to : State = record st { node = e.target; cells = st.cells } in
          record { moves = 1; to = to; path = ap state_moved goes; there = related_less c held ho z s to d (record { node = target; frames = h.frames; size = h.size; cells = h.cells; answers = h.answers }); enough = omega arith; few = omega arith }

  test_does : (ho : Held) (low high : ℕ) (m : Meant) (x : Value) (op : Expr → Operation) (stopped : Stepped) (end : End) → Proper c ho → Clear c ho low high → Does c ho low high m x → stopped ≡ ended end
      → ((v : Expr) → is_return (op v) ≡ false) → ((v : Expr) → is_guard (op v) ≡ false) → ((st : State) (at : ℕ) (e : Edge) (v : Expr) → operated (parts_of c) c.input st at e (op v) ≡ unless_trapped (value_in st v) (unless_zero stopped (moved at e st st.cells)))
      → Simulates c ho (λ s. evaluate m s andthen λ v s'. unless_false end (is_true v) s') (test_row op x)
  test_does ho low high m x op stopped end proper clear hx is plain one works u a z n e k sits s st at =
      subst (Follows (parts_of c) c.input st s.turns s.turns (Arrives c ho u z)) (sym (evaluate_then m s (λ v s'. unless_false end (is_true v) s')))
      (value_then c ho low high m (x.pure u) (λ v b. step u (op v.value) [] v.reads b z) (Arrives c ho u z) (λ v s'. unless_false end (is_true v) s') proper clear (hx.pure u)
      (λ held d pr out o b n e k sits s st at r given.
      tested ho held e z (edge_of u (op o.value) [] o.reads b z) stopped end s st r d is refl at
      (next_one (parts_of c) (good c) c.input st e _ sits.edges.0 (plain o.value) (one o.value) (sym at.node) ∙ works st e (edge_of u (op o.value) [] o.reads b z) o.value ∙ ap (λ q. unless_trapped q (unless_zero stopped (moved e (edge_of u (op o.value) [] o.reads b z) st st.cells))) given) u) a n e k sits s st at)

  pub assert_does : (ho : Held) (low high : ℕ) (m : Meant) (x : Value) → Proper c ho → Clear c ho low high → Does c ho low high m x → Simulates c ho (assert m) (test_row Assert x)
  assert_does ho low high m x proper clear hx = test_does ho low high m x Assert (Trapped trap.Assert) (TrapEnd trap.Assert) proper clear hx refl (λ v. refl) (λ v. refl) (λ st at e v. refl)

  pub assume_does : (ho : Held) (low high : ℕ) (m : Meant) (x : Value) → Proper c ho → Clear c ho low high → Does c ho low high m x → Simulates c ho (assume m) (test_row Assume x)
  assume_does ho low high m x proper clear hx = test_does ho low high m x Assume Blocked BlockedEnd proper clear hx refl (λ v. refl) (λ v. refl) (λ st at e v. refl)

  -- ---- assignments

  pub assign_does : (ho : Held) (low mid high : ℕ) (own : Placed) (op : Option (BinaryOp × Kind)) (m : Meant) (p : Spot) (x : Value) → low ≤ mid → mid ≤ high → Proper c ho → Clear c ho low high
      → ((u : Around) → Flows c ho low mid own.parts own.first (NamesCell c own.cell) (spot_cell p u))
      → ((held : Held) → Proper c held → Clear c held mid high → Does c held mid high m x)
      → p.variable ≡ own.variable → IsKind own.variable.kind → OperatorFits op m.kind → ((vs cells : List ℕ) (v : ℕ) → m.rest vs cells ≡ Ok v → IsValue m.kind v)
      → Simulates c ho (assign own op m) (assign_row p op x)
  assign_does ho low mid high own op m p x before behind proper clear hp hx var kind fits values u a z n e k sits s st at =
      let S = all_sit (parts_of c) _ n e k sits in
      let T = all_sit (parts_of c) _ _ _ _ S.0 in
      let U = all_sit (parts_of c) _ _ _ _ T.1.0 in
      let y = spot_cell p u a n e k in
      follows_then (parts_of c) c.input (Ended c ho low mid own.parts (NamesCell c own.cell) [] y.end y.gives) (Arrives c ho u z) st s.turns s.turns (own.first [] s) _ (hp u [] a n e k T.0 s st at)
      (λ is s1 to E few.
      let low' = λ (i : ℕ) (j : low ≤ i) (q : i < mid). clear i j (omega (arith, q, behind)) in
      let pr = proper_after c ho E.held low mid proper low' E.outside in
      let own' = clear_after c ho E.held low mid proper low' E.outside high (λ i j q. clear i (omega (arith, j, before)) q) in
      let X = hx E.held pr own' in
      follows_then (parts_of c) c.input (Ended c E.held mid high m.parts (HasRest c m.kind m.rest) [] _ _) (Arrives c ho u z) to s1.turns s1.turns (m.first [] s1) _ (X.pure u [] y.end _ _ _ U.0 s1 to E.related)
      (λ vs s2 too F few'.
      let d = drops_after c E.held F.held mid high pr own' F.outside in
      let d' = drops_after c ho E.held low mid proper low' E.outside in
      let p' = proper_after c E.held F.held mid high pr own' F.outside in
      behind_both u z _ _ _ _ S.1.0 E.held F.held E.news F.news is vs s2 too d d' p' E.are F.are E.means F.means F.related))
    where
      behind_both : (u : Around) (z b n e k : ℕ) {t : Target} {o : Operand} → Sits (parts_of c) (step u (Assign t.place (graph_combined p.variable.kind op t.place o.value)) (p.variable.name ∷ []) (reads_in_place p.variable op t.reads ++ o.reads) b z n e k) n e k
          → (held held' : Held) (news news' is vs : List ℕ) (s : Store) (st : State) → Drops held' held → Drops held ho → Proper c held' → is ≡ [] ++ news → vs ≡ [] ++ news'
          → NamesCell c own.cell held news t → HasRest c m.kind m.rest held' news' o → Related c held' b s st
          → Follows (parts_of c) c.input st s.turns s.turns (Arrives c ho u z) (unless_trap (own.cell is s.cells) (λ cell. unless_trap (after_value (m.rest vs s.cells) (combined own.variable.kind op m.kind s.cells cell)) (λ v. Gives GoesOn (stored s cell v))))
      behind_both u z b n e k {t} {o} sits held held' news news' is vs s st d d' proper are are' names has at =
          let frame = frame_is c held' b s st at in
          let own_agree = agree_less c.keeps held' held s.cells st.cells d at.cells in
          let is_is : news ++ [] ≡ is = nil_behind news ∙ sym are in
          let vs_is : news' ++ [] ≡ vs = nil_behind news' ∙ sym are' in
          let cell : cell_in st t.place ≡ own.cell is s.cells = ap (λ f. cell_of st.cells f t.place) frame ∙ names.cell [] s.cells st.cells own_agree ∙ ap (λ ns. own.cell ns s.cells) is_is in
          let value : value_of st.cells (own_frame c) o.value ≡ m.rest vs s.cells = has.value [] s.cells st.cells at.cells ∙ ap (λ ns. m.rest ns s.cells) vs_is in
          assigned ho held' e GoesOn _ t.place _ s st (own.cell is s.cells) (λ j. after_value (m.rest vs s.cells) (combined own.variable.kind op m.kind s.cells j)) (λ i v q. d i v (d' i v q)) proper sits.edges.0 refl at cell
          (λ j known.
          let kept = names.kept [] s.cells j (ap (λ ns. own.cell ns s.cells) is_is ∙ known) in
          let named = names.cell [] s.cells st.cells own_agree ∙ ap (λ ns. own.cell ns s.cells) is_is ∙ known in (
            kept,
            ap (λ f. value_of st.cells f (graph_combined p.variable.kind op t.place o.value)) frame ∙ ap (λ (x : Variable). value_of st.cells (own_frame c) (graph_combined x.kind op t.place o.value)) var
                ∙ combined_is s.cells st.cells (own_frame c) own.variable.kind op m.kind t.place o.value j (m.rest vs s.cells) kind fits named (at.cells.same j kept) value (has.kinds st.cells) (values vs s.cells),
          ))
          (Arrives c ho u z) (λ s' to h. h)
