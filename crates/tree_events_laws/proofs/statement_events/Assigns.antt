-- Statements that put values into cells, and those that test one, tell that they are done.
use Rattle.std.proofs.Common.{◌≡◌, ℕ, ◌+◌, ◌<◌, ◌≤◌, Bool, true, false, List, [], ◌∷◌, ◌++◌, Option, Some, None, Result, Ok, Err, refl, sym, ap, subst, ◌∙◌, arith, pos, rules}
use Rattle.std.specs.Prelude.{IsTrue, ◌||◌, ◌==◌, not, if◌then◌else◌, slice_get, slice_index, slice_set, ok_or}
use Rattle.std.proofs.lemmas.List.{append-nil, length-set}
use Rattle.fq_core.specs.declared.span.Span.{Span}
use Rattle.fq_core.specs.declared.statement_kind.StatementKind.{StatementKind}
use Rattle.fq_core.specs.declared.statement_kind.StatementKind.TheVariants as kinds
use Rattle.c_values.specs.Kind.{IsKind, IsValue, wrapped, converted}
use Rattle.c_values.specs.Operations.{binary_kind, binary_value, is_shift}
use Rattle.c_values.specs.declared.kinds.Kind.{Kind}
use Rattle.c_values.specs.declared.operators.BinaryOp.{BinaryOp}
use Rattle.c_values.proofs.Consequences.{binary_values_are_values}
use Rattle.c_values.proofs.Fitting.{IsValue-wrapped, IsValue-converted}
use Rattle.cfa.specs.Kinds.{same_kind}
use Rattle.cfa.specs.declared.expr.CellPlace.{CellPlace, the_lemmas as place_lemmas}
use Rattle.cfa.specs.declared.expr.CellPlace.TheVariants as place
use Rattle.cfa.specs.declared.expr.Expr.{Expr}
use Rattle.cfa.specs.declared.expr.Expr.TheVariants as expr
use Rattle.cfa.specs.declared.parts.Edge.{Edge}
use Rattle.cfa.specs.declared.parts.Operation.{Operation}
use Rattle.cfa.specs.declared.parts.Operation.TheVariants.{Assign, Assert, Assume}
use Rattle.cfa.specs.declared.parts.Variable.{Variable}
use Rattle.cfa.specs.declared.state.Frame.{Frame}
use Rattle.cfa.specs.declared.state.State.{State}
use Rattle.cfa.specs.declared.state.Trap.{Trap}
use Rattle.cfa.specs.declared.state.Trap.TheVariants as trap
use Rattle.cfa.specs.Graph.{is_return, is_guard}
use Rattle.cfa.specs.States.{value_in}
use Rattle.cfa.specs.Values.{valued, value_of, cell_of, after_value, operator_outcome, operator_trap}
use Rattle.c_meaning.specs.declared.stepped.Stepped.{Stepped}
use Rattle.c_meaning.specs.declared.stepped.Stepped.TheVariants.{Trapped, Blocked}
use Rattle.c_meaning.specs.Runs.{state_moved}
use Rattle.c_meaning.specs.Steps.{next, operated, unless_trapped, unless_zero, cell_in, moved}
use Rattle.c_typed_trees.specs.Fitting.{operands_meet}
use Rattle.c_lower_rules.specs.declared.graph_of.parts.Around.{Around}
use Rattle.c_lower_rules.specs.declared.graph_of.parts.Operand.{Operand}
use Rattle.c_lower_rules.specs.declared.graph_of.parts.Target.{Target}
use Rattle.c_lower_rules.specs.graph_of.Builder.{◌then◌, ending}
use Rattle.c_lower_rules.specs.graph_of.Edges.{step, stated, edge_of}
use Rattle.c_lower_rules.specs.graph_of.Expressions.{Value, Spot, spot_cell}
use Rattle.c_lower_rules.specs.graph_of.Statements.{assign_row, combined as graph_combined, converted_to, reads_in_place, return_row, test_row}
use Rattle.tree_events.specs.declared.edge_events.event.Event.{Event}
use Rattle.tree_events.specs.declared.edge_events.event.What.TheVariants.{Did, Valued}
use Rattle.tree_events.specs.edge_events.Told.{is_result, told}
use Rattle.tree_meaning.specs.declared.way.Way.{Way}
use Rattle.tree_meaning.specs.declared.way.Way.TheVariants.{GoesOn, Returns}
use Rattle.tree_meaning.specs.Outcomes.{Store, End, TrapEnd, BlockedEnd, is_true}
use Rattle.tree_meaning.specs.Activations.{read, stored}
use Rattle.tree_meaning.specs.Expressions.{operated as tree_operated}
use Rattle.tree_meaning.specs.Statements.{combined}
use Rattle.tree_meaning.proofs.ValueKinds.{same_kind_is}
use Rattle.tree_events.specs.Outcomes.{gives, behind, ◌thence◌, unless_trap, At, at_hand, happens, did}
use Rattle.tree_events.specs.Expressions.{Telling, Placing, evaluate}
use Rattle.tree_events.specs.Statements.{putting, assign, unless_false, assert, assume, return_value}
use Rattle.tree_meaning_laws.specs.expression_laws.Sits.{Sits}
use Rattle.tree_meaning_laws.specs.expression_laws.Follows.{ended}
use Rattle.tree_meaning_laws.specs.expression_laws.Contexts.{Context, IsContext, Held, Related, Proper, Clear, parts_of, own_frame, own_activation}
use Rattle.tree_meaning_laws.specs.expression_laws.Flows.{Ended, HasRest, NamesCell}
use Rattle.tree_meaning_laws.proofs.expression_laws.Sits.{all_sit}
use Rattle.tree_meaning_laws.proofs.expression_laws.Going.{next_one}
use Rattle.tree_meaning_laws.proofs.expression_laws.Cells.{Drops, agree_less, related_less, agree_set, good, frame_is, drops_after, proper_after, clear_after}
use Rattle.tree_meaning_laws.proofs.expression_laws.Flows.{nil_behind}
use Rattle.tree_meaning_laws.proofs.expression_laws.Values.{load_value, convert_value, binary_is, local_cell}
use Rattle.tree_meaning_laws.specs.statement_laws.Simulates.{Arrives}
use Rattle.tree_meaning_laws.proofs.statement_laws.Cells.{free_of, same_converted}
use Rattle.tree_meaning_laws.proofs.statement_laws.Assigns.{OperatorFits}
use Rattle.tree_events_laws.specs.expression_events.Follows.{Follows}
use Rattle.tree_events_laws.specs.expression_events.Flows.{at_of, Flows, Does}
use Rattle.tree_events_laws.proofs.expression_events.Follows.{evaluated_then, tells_one, follows_then}
use Rattle.tree_events_laws.proofs.expression_events.Flows.{value_then}
use Rattle.tree_events_laws.specs.statement_events.Simulates.{Simulates}

-- ---- what `op=` puts into a place

-- a conversion that is left out between equal kinds
converted_value : (ys : List ℕ) (frame : Frame) (own kind : Kind) (e : Expr) (r : Result ℕ Trap) → (valued ys frame e).kind ≡ own → value_of ys frame e ≡ r → ((v : ℕ) → r ≡ Ok v → IsValue own v)
    → (value_of ys frame (converted_to own kind e) ≡ after_value r (λ v. Ok (converted own kind v))) × ((valued ys frame (converted_to own kind e)).kind ≡ kind)
converted_value ys frame own kind e r is given values = by (same_kind own kind) refl
  where
    kept : (r : Result ℕ Trap) → ((v : ℕ) → r ≡ Ok v → IsValue own v) → r ≡ after_value r (λ v. Ok (converted own own v))
    kept (Ok v) h = ap Ok (sym (same_converted own v (h v refl)))
    kept (Err t) h = refl

    by : (b : Bool) → same_kind own kind ≡ b → (value_of ys frame (if b then e else expr.Convert e kind) ≡ after_value r (λ v. Ok (converted own kind v))) × ((valued ys frame (if b then e else expr.Convert e kind)).kind ≡ kind)
    by true same = let equal = same_kind_is own kind same in (given ∙ kept r values ∙ ap (λ k. after_value r (λ v. Ok (converted own k v))) equal, is ∙ equal)
    by false same = (
      ap (λ q. q.value) (convert_value ys frame e kind) ∙ ap (λ q. after_value q (λ v. Ok (converted (valued ys frame e).kind kind v))) given ∙ ap (λ k. after_value r (λ v. Ok (converted k kind v))) is,
      ap (λ q. q.kind) (convert_value ys frame e kind),
    )

-- a value is put as it is
as_it_is : (r : Result ℕ Trap) → r ≡ after_value r (λ v. Ok v)
as_it_is (Ok v) = refl
as_it_is (Err t) = refl

meets : (op : BinaryOp) (left right : Kind) → IsTrue (operands_meet op left right) → is_shift op ≡ false → right ≡ left
meets op left right h e = same_kind_is right left (by (is_shift op) h e)
  where
    by : (s : Bool) → IsTrue (s || same_kind right left) → s ≡ false → IsTrue (same_kind right left)
    by true h e = absurd cc
    by false h e = h

outcome_is : (o : Option ℕ) (t : Trap) (v : ℕ) → ok_or o t ≡ Ok v → o ≡ Some v
outcome_is (Some m) t v e = cc
outcome_is None t v e = absurd cc

-- with an operator
module _ (xs ys : List ℕ) (frame : Frame) (own : Kind) (op : BinaryOp) (op_kind kind : Kind) (q : CellPlace) (e : Expr) (cell : ℕ) (r : Result ℕ Trap) (k : IsKind own) (of_kind : IsKind op_kind) (fits : IsTrue (operands_meet op op_kind kind))
    (named : cell_of ys frame q ≡ Ok cell) (same : slice_index xs cell ≡ slice_index ys cell) (given : value_of ys frame e ≡ r) (is : (valued ys frame e).kind ≡ kind) (values : (v : ℕ) → r ≡ Ok v → IsValue kind v) where
  abbrev old : ℕ
  old = read xs own cell

  abbrev first : Expr
  first = converted_to own op_kind (expr.Load q own)

  abbrev whole : Expr
  whole = expr.Binary op first e op_kind

  abbrev work : ℕ → Result ℕ Trap
  work v = tree_operated op op_kind kind (converted own op_kind old) v

  loaded : value_of ys frame (expr.Load q own) ≡ Ok old
  loaded = ap (λ v. v.value) (load_value ys frame q own) ∙ ap (λ o. after_value o (λ j. Ok (wrapped own (pos (slice_index ys j))))) named ∙ ap (λ w. Ok (wrapped own (pos w))) (sym same)

  first_is : value_of ys frame first ≡ Ok (converted own op_kind old)
  first_is = (converted_value ys frame own op_kind (expr.Load q own) (Ok old) (ap (λ v. v.kind) (load_value ys frame q own)) loaded (λ v e. subst (IsValue own) (let same' : old ≡ v = cc in same') (IsValue-wrapped own (pos (slice_index xs cell)) k))).0

  value : value_of ys frame whole ≡ after_value r work
  value = ap (λ v. v.value) (binary_is ys frame op first e op_kind)
      ∙ ap (λ o. after_value o (λ a. after_value (value_of ys frame e) (λ b. operator_outcome ys frame op op_kind (valued ys frame e).kind a b))) first_is
      ∙ ap (λ o. after_value o (λ b. operator_outcome ys frame op op_kind (valued ys frame e).kind (converted own op_kind old) b)) given
      ∙ ap (λ j. after_value r (λ b. operator_outcome ys frame op op_kind j (converted own op_kind old) b)) is

  known : (r : Result ℕ Trap) → ((v : ℕ) → r ≡ Ok v → IsValue kind v) → (w : ℕ) → after_value r work ≡ Ok w → IsValue (binary_kind op op_kind) w
  known (Err t) h w e = absurd cc
  known (Ok v) h w e =
      binary_values_are_values op op_kind kind (converted own op_kind old) v w (IsValue-converted own op_kind old of_kind) (h v refl) (meets op op_kind kind fits)
      (outcome_is (binary_value op op_kind kind (converted own op_kind old) v) (operator_trap op op_kind v) w e)

  joined : (r : Result ℕ Trap) → after_value (after_value r work) (λ v. Ok (converted (binary_kind op op_kind) own v)) ≡ after_value r (combined own (Some (op, op_kind)) kind xs cell)
  joined (Ok v) = refl
  joined (Err t) = refl

  operated_is : value_of ys frame (converted_to (binary_kind op op_kind) own whole) ≡ after_value r (combined own (Some (op, op_kind)) kind xs cell)
  operated_is = (converted_value ys frame (binary_kind op op_kind) own whole (after_value r work) (ap (λ v. v.kind) (binary_is ys frame op first e op_kind)) value (known r values)).0 ∙ joined r

combined_is : (xs ys : List ℕ) (frame : Frame) (own : Kind) (op : Option (BinaryOp × Kind)) (kind : Kind) (q : CellPlace) (e : Expr) (cell : ℕ) (r : Result ℕ Trap) → IsKind own → OperatorFits op kind
    → cell_of ys frame q ≡ Ok cell → slice_index xs cell ≡ slice_index ys cell → value_of ys frame e ≡ r → (valued ys frame e).kind ≡ kind → ((v : ℕ) → r ≡ Ok v → IsValue kind v)
    → value_of ys frame (graph_combined own op q e) ≡ after_value r (combined own op kind xs cell)
combined_is xs ys frame own None kind q e cell r k fits named same given is values = given ∙ as_it_is r
combined_is xs ys frame own (Some op) kind q e cell r k fits named same given is values = operated_is xs ys frame own op.0 op.1 kind q e cell r k fits.0 fits.1 named same given is values

module _ (c : Context) (ok : IsContext c) where
  -- ---- along an edge that assigns

  pub assigned : (ho held : Held) (at : ℕ) (way : Way) (e : Edge) (q : CellPlace) (value : Expr) (es : List Event) (s : Store) (st : State) (rp : Result ℕ Trap) (rv : ℕ → Result ℕ Trap) → Drops held ho → Proper c held
      → slice_get (parts_of c).edges at ≡ Some e → e.operation ≡ Assign q value → told e ≡ es → Related c held e.source s st
      → cell_in st q ≡ rp → ((cell : ℕ) → rp ≡ Ok cell → IsTrue (c.keeps cell) × (value_in st value ≡ rv cell))
      → (Reach : Way → Store → State → Type 0) → ((s' : Store) (to : State) → Related c ho e.target s' to → Reach way s' to)
      → Follows (parts_of c) c.input st s.turns s.turns Reach (unless_trap rp (λ cell. unless_trap (rv cell) (λ v. behind es (gives way (stored s cell v)))))
  assigned ho held at way e q value es s st rp rv d proper there is tell h p known Reach reach = by rp known goes
    where
      goes : next (parts_of c) c.input st ≡ unless_trapped rp (λ cell. unless_trapped (value_in st value) (λ v. moved at e st (slice_set st.cells cell v)))
      goes = next_one (parts_of c) (good c) c.input st at e there (ap is_return is) (ap is_guard is) (sym h.node) ∙ ap (operated (parts_of c) c.input st at e) is
          ∙ ap (λ r. unless_trapped r (λ cell. unless_trapped (value_in st value) (λ v. moved at e st (slice_set st.cells cell v)))) p

      put_in : (cell : ℕ) (r : Result ℕ Trap) → IsTrue (c.keeps cell) → next (parts_of c) c.input st ≡ unless_trapped r (λ v. moved at e st (slice_set st.cells cell v)) → Follows (parts_of c) c.input st s.turns s.turns Reach (unless_trap r (λ v. behind es (gives way (stored s cell v))))
      put_in cell (Err t) kept goes = record { moves = 0; to = st; path = refl; tell = refl; stops = goes }
      put_in cell (Ok v) kept goes =
          let to : State = record st { node = e.target; cells = slice_set st.cells cell v } in
          let stands : Related c held e.target (stored s cell v) to = record {
            node = refl;
            frames = h.frames;
            size = length-set st.cells cell v ∙ h.size;
            cells = agree_set c.keeps held s.cells st.cells cell v h.cells (free_of c held proper cell kept);
            answers = h.answers;
          } in
          record {
            moves = 1;
            to = to;
            path = ap state_moved goes;
            tell = tells_one (parts_of c) c.input at e st to goes there ∙ tell ∙ sym (append-nil es);
            there = reach (stored s cell v) to (related_less c held ho e.target (stored s cell v) to d stands);
            enough = omega arith;
            few = omega arith;
          }

      by : (rp : Result ℕ Trap) → ((cell : ℕ) → rp ≡ Ok cell → IsTrue (c.keeps cell) × (value_in st value ≡ rv cell)) → next (parts_of c) c.input st ≡ unless_trapped rp (λ cell. unless_trapped (value_in st value) (λ v. moved at e st (slice_set st.cells cell v)))
          → Follows (parts_of c) c.input st s.turns s.turns Reach (unless_trap rp (λ cell. unless_trap (rv cell) (λ v. behind es (gives way (stored s cell v)))))
      by (Err t) known goes = record { moves = 0; to = st; path = refl; tell = refl; stops = goes }
      by (Ok cell) known goes = let K = known cell refl in put_in cell (rv cell) K.0 (goes ∙ ap (λ r. unless_trapped r (λ v. moved at e st (slice_set st.cells cell v))) K.1)

  -- an expression, and then its value is put into a cell
  pub put_does : (ho : Held) (low high : ℕ) (m : At → Telling) (x : Value) (q : CellPlace) (cell : ℕ) (way : Way) (writes : List (List ℕ)) → Proper c ho → Clear c ho low high → Does c ho low high m x
      → ((st : State) (held : Held) (node : ℕ) (s : Store) → Related c held node s st → cell_in st q ≡ Ok cell) → IsTrue (c.keeps cell)
      → (u : Around) (es : List Event) (z a n e k : ℕ) → ((value : Expr) (reads : List (List ℕ)) (b : ℕ) → told (edge_of u (Assign q value) writes reads b z) ≡ es)
      → Sits (parts_of c) (ending (x.pure u) (λ v b. step u (Assign q v.value) writes v.reads b z) a n e k) n e k
      → (s : Store) (st : State) → Related c ho a s st → (Reach : Way → Store → State → Type 0) → ((s' : Store) (to : State) → Related c ho z s' to → Reach way s' to)
      → Follows (parts_of c) c.input st s.turns s.turns Reach (evaluate (m (at_of u)) s thence λ v s'. behind es (gives way (stored s' cell v)))
  put_does ho low high m x q cell way writes proper clear hx names kept u es z a n e k tell sits s st at Reach reach =
      let own = m (at_of u) in
      subst (Follows (parts_of c) c.input st s.turns s.turns Reach) (sym (evaluated_then own.first own.rest s (λ v s'. behind es (gives way (stored s' cell v)))))
      (value_then c ho low high own.parts own.kind own.first own.rest (x.pure u) (λ v b. step u (Assign q v.value) writes v.reads b z) Reach (λ v s'. behind es (gives way (stored s' cell v))) proper clear (hx.pure u)
      (λ held d pr out o b n e k sits s st at r given.
      assigned ho held e way _ q o.value es s st (Ok cell) (λ j. r) d pr sits.edges.0 refl (tell o.value o.reads b) at (names st held b s at) (λ j is. (subst (λ i. IsTrue (c.keeps i)) (same cell j is) kept, given)) Reach reach) a n e k sits s st at)
    where
      same : (i j : ℕ) → (let r : Result ℕ Trap = Ok i in r) ≡ Ok j → i ≡ j
      same i j is = cc

  result_is : is_result (place.Local 0) ≡ true
  result_is = search (rules, place_lemmas)

  result_tells : (u : Around) (span : Span) (value : Expr) (reads : List (List ℕ)) (b z : ℕ) → told (edge_of (stated u span kinds.Return) (Assign (place.Local 0) value) [] reads b z) ≡ did (at_hand span kinds.Return)
  unfolding told
  result_tells u span value reads b z = ap (λ (q : Bool). happens (at_hand span kinds.Return) (if q then Did None else Valued)) result_is

  -- `return` with a value
  pub return_value_does : (span : Span) (ho : Held) (low high : ℕ) (m : At → Telling) (x : Value) → Proper c ho → Clear c ho low high → Does c ho low high m x → IsTrue (c.keeps (own_frame c).base)
      → Simulates c ho (return_value (at_hand span kinds.Return) (own_activation c) (Some (m (at_hand span kinds.Return)))) (λ u. return_row (Some x) (stated u span kinds.Return))
  return_value_does span ho low high m x proper clear hx kept u a z n e k sits less s st at =
      put_does ho low high m x (place.Local 0) (own_frame c).base Returns [] proper clear hx (λ st held node s h. ap (λ f. cell_of st.cells f (place.Local 0)) (frame_is c held node s st h) ∙ local_cell st.cells (own_frame c) 0 ∙ ap Ok (let e : (own_frame c).base + 0 ≡ (own_frame c).base = omega arith in e)) kept
      (stated u span kinds.Return) (did (at_hand span kinds.Return)) u.exit a n e k (λ value reads b. result_tells u span value reads b u.exit) sits s st at (Arrives c ho u z) (λ s' to h. h)

  -- ---- assertions and assumptions

  tested : (ho held : Held) (own : At) (at z : ℕ) (e : Edge) (stopped : Stepped) (end : End) (s : Store) (st : State) (r : Result ℕ Trap) → Drops held ho → stopped ≡ ended end → e.target ≡ z → Related c held e.source s st
      → slice_get (parts_of c).edges at ≡ Some e → told e ≡ did own
      → next (parts_of c) c.input st ≡ unless_trapped r (unless_zero stopped (moved at e st st.cells)) → (u : Around)
      → Follows (parts_of c) c.input st s.turns s.turns (Arrives c ho u z) (unless_trap r (λ v. unless_false own end (is_true v) s))
  tested ho held own at z e stopped end s st (Err t) d is target h there tell goes u = record { moves = 0; to = st; path = refl; tell = refl; stops = goes }
  tested ho held own at z e stopped end s st (Ok v) d is target h there tell goes u = by (v == 0) goes
    where
      by : (b : Bool) → next (parts_of c) c.input st ≡ (if b then stopped else moved at e st st.cells) → Follows (parts_of c) c.input st s.turns s.turns (Arrives c ho u z) (unless_false own end (not b) s)
      by true goes = record { moves = 0; to = st; path = refl; tell = refl; stops = goes ∙ is }
      by false goes =
          let to : State = record st { node = e.target; cells = st.cells } in
          record {
            moves = 1;
            to = to;
            path = ap state_moved goes;
            tell = tells_one (parts_of c) c.input at e st to goes there ∙ tell;
            there = related_less c held ho z s to d (record { node = target; frames = h.frames; size = h.size; cells = h.cells; answers = h.answers });
            enough = omega arith;
            few = omega arith;
          }

  test_does : (kind : StatementKind) (span : Span) (ho : Held) (low high : ℕ) (m : At → Telling) (x : Value) (op : Expr → Operation) (stopped : Stepped) (end : End) → Proper c ho → Clear c ho low high → Does c ho low high m x → stopped ≡ ended end
      → ((v : Expr) → is_return (op v) ≡ false) → ((v : Expr) → is_guard (op v) ≡ false) → ((st : State) (at : ℕ) (e : Edge) (v : Expr) → operated (parts_of c) c.input st at e (op v) ≡ unless_trapped (value_in st v) (unless_zero stopped (moved at e st st.cells)))
      → ((u : Around) (v : Expr) (reads : List (List ℕ)) (b z : ℕ) → told (edge_of u (op v) [] reads b z) ≡ did (at_of u))
      → Simulates c ho (λ s. evaluate (m (at_hand span kind)) s thence λ v s'. unless_false (at_hand span kind) end (is_true v) s') (λ u. test_row op x (stated u span kind))
  test_does kind span ho low high m x op stopped end proper clear hx is plain one works tell u a z n e k sits less s st at =
      let w = stated u span kind in
      let here = at_hand span kind in
      let own = m here in
      subst (Follows (parts_of c) c.input st s.turns s.turns (Arrives c ho u z)) (sym (evaluated_then own.first own.rest s (λ v s'. unless_false here end (is_true v) s')))
      (value_then c ho low high own.parts own.kind own.first own.rest (x.pure w) (λ v b. step w (op v.value) [] v.reads b z) (Arrives c ho u z) (λ v s'. unless_false here end (is_true v) s') proper clear (hx.pure w)
      (λ held d pr out o b n e k sits s st at r given.
      tested ho held here e z (edge_of w (op o.value) [] o.reads b z) stopped end s st r d is refl at sits.edges.0 (tell w o.value o.reads b z)
      (next_one (parts_of c) (good c) c.input st e _ sits.edges.0 (plain o.value) (one o.value) (sym at.node) ∙ works st e (edge_of w (op o.value) [] o.reads b z) o.value ∙ ap (λ q. unless_trapped q (unless_zero stopped (moved e (edge_of w (op o.value) [] o.reads b z) st st.cells))) given) u) a n e k sits s st at)

  assert_tells : (u : Around) (v : Expr) (reads : List (List ℕ)) (b z : ℕ) → told (edge_of u (Assert v) [] reads b z) ≡ did (at_of u)
  unfolding told
  assert_tells u v reads b z = refl

  assume_tells : (u : Around) (v : Expr) (reads : List (List ℕ)) (b z : ℕ) → told (edge_of u (Assume v) [] reads b z) ≡ did (at_of u)
  unfolding told
  assume_tells u v reads b z = refl

  pub assert_does : (span : Span) (ho : Held) (low high : ℕ) (m : At → Telling) (x : Value) → Proper c ho → Clear c ho low high → Does c ho low high m x → Simulates c ho (assert (at_hand span kinds.Assert) (m (at_hand span kinds.Assert))) (λ u. test_row Assert x (stated u span kinds.Assert))
  assert_does span ho low high m x proper clear hx = test_does kinds.Assert span ho low high m x Assert (Trapped trap.Assert) (TrapEnd trap.Assert) proper clear hx refl (λ v. refl) (λ v. refl) (λ st at e v. refl) assert_tells

  pub assume_does : (span : Span) (ho : Held) (low high : ℕ) (m : At → Telling) (x : Value) → Proper c ho → Clear c ho low high → Does c ho low high m x → Simulates c ho (assume (at_hand span kinds.Assume) (m (at_hand span kinds.Assume))) (λ u. test_row Assume x (stated u span kinds.Assume))
  assume_does span ho low high m x proper clear hx = test_does kinds.Assume span ho low high m x Assume Blocked BlockedEnd proper clear hx refl (λ v. refl) (λ v. refl) (λ st at e v. refl) assume_tells

  -- ---- assignments

  pub name_tells : (u : Around) (q : CellPlace) (value : Expr) (name : List ℕ) (reads : List (List ℕ)) (b z : ℕ) → told (edge_of u (Assign q value) (name ∷ []) reads b z) ≡ happens (at_of u) (Did (Some name))
  unfolding told
  name_tells u q value name reads b z = refl

  pub assign_does : (span : Span) (ho : Held) (low mid high : ℕ) (own : At → Placing) (op : Option (BinaryOp × Kind)) (m : At → Telling) (p : Spot) (x : Value) → low ≤ mid → mid ≤ high → Proper c ho → Clear c ho low high
      → ((u : Around) → Flows c ho low mid (own (at_of u)).parts (own (at_of u)).first (NamesCell c (own (at_of u)).cell) (spot_cell p u))
      → ((held : Held) → Proper c held → Clear c held mid high → Does c held mid high m x)
      → ((at : At) → p.variable ≡ (own at).variable) → ((at : At) → IsKind (own at).variable.kind) → ((at : At) → OperatorFits op (m at).kind) → ((at : At) (vs cells : List ℕ) (v : ℕ) → (m at).rest vs cells ≡ Ok v → IsValue (m at).kind v)
      → Simulates c ho (assign (at_hand span kinds.Assign) (own (at_hand span kinds.Assign)) op (m (at_hand span kinds.Assign))) (λ u. assign_row p op x (stated u span kinds.Assign))
  assign_does span ho low mid high own_at op m_at p x before after proper clear hp hx var_at kind_at fits_at values_at u a z n e k sits less s st at =
      let w = stated u span kinds.Assign in
      let here = at_hand span kinds.Assign in
      let own = own_at here in
      let m = m_at here in
      let S = all_sit (parts_of c) _ n e k sits in
      let T = all_sit (parts_of c) _ _ _ _ S.0 in
      let U = all_sit (parts_of c) _ _ _ _ T.1.0 in
      let y = spot_cell p w a n e k in
      follows_then (parts_of c) c.input (Ended c ho low mid own.parts (NamesCell c own.cell) [] y.end y.gives) (Arrives c ho u z) st s.turns s.turns (own.first [] s) _ (hp w [] a n e k T.0 s st at)
      (λ is s1 to E few.
      let low' = λ (i : ℕ) (j : low ≤ i) (q : i < mid). clear i j (omega (arith, q, after)) in
      let pr = proper_after c ho E.held low mid proper low' E.outside in
      let own' = clear_after c ho E.held low mid proper low' E.outside high (λ i j q. clear i (omega (arith, j, before)) q) in
      let X = hx E.held pr own' in
      follows_then (parts_of c) c.input (Ended c E.held mid high m.parts (HasRest c m.kind m.rest) [] _ _) (Arrives c ho u z) to s1.turns s1.turns (m.first [] s1) _ (X.pure w [] y.end _ _ _ U.0 s1 to E.related)
      (λ vs s2 too F few'.
      let d = drops_after c E.held F.held mid high pr own' F.outside in
      let d' = drops_after c ho E.held low mid proper low' E.outside in
      let p' = proper_after c E.held F.held mid high pr own' F.outside in
      behind_both own m (var_at here) (kind_at here) (fits_at here) (values_at here) u z _ _ _ _ S.1.0 E.held F.held E.news F.news is vs s2 too d d' p' E.are F.are E.means F.means F.related))
    where
      behind_both : (own : Placing) (m : Telling) → p.variable ≡ own.variable → IsKind own.variable.kind → OperatorFits op m.kind → ((vs cells : List ℕ) (v : ℕ) → m.rest vs cells ≡ Ok v → IsValue m.kind v) → (u : Around) (z b n e k : ℕ) {t : Target} {o : Operand} → Sits (parts_of c) (step (stated u span kinds.Assign) (Assign t.place (graph_combined p.variable.kind op t.place o.value)) (p.variable.name ∷ []) (reads_in_place p.variable op t.reads ++ o.reads) b z n e k) n e k
          → (held held' : Held) (news news' is vs : List ℕ) (s : Store) (st : State) → Drops held' held → Drops held ho → Proper c held' → is ≡ [] ++ news → vs ≡ [] ++ news'
          → NamesCell c own.cell held news t → HasRest c m.kind m.rest held' news' o → Related c held' b s st
          → Follows (parts_of c) c.input st s.turns s.turns (Arrives c ho u z) (unless_trap (own.cell is s.cells) (λ cell. unless_trap (after_value (m.rest vs s.cells) (combined own.variable.kind op m.kind s.cells cell)) (λ v. putting (at_hand span kinds.Assign) own.variable cell v s)))
      behind_both own m var kind fits values u z b n e k {t} {o} sits held held' news news' is vs s st d d' proper are are' names has at =
          let frame = frame_is c held' b s st at in
          let own_agree = agree_less c.keeps held' held s.cells st.cells d at.cells in
          let is_is : news ++ [] ≡ is = nil_behind news ∙ sym are in
          let vs_is : news' ++ [] ≡ vs = nil_behind news' ∙ sym are' in
          let cell : cell_in st t.place ≡ own.cell is s.cells = ap (λ f. cell_of st.cells f t.place) frame ∙ names.cell [] s.cells st.cells own_agree ∙ ap (λ ns. own.cell ns s.cells) is_is in
          let value : value_of st.cells (own_frame c) o.value ≡ m.rest vs s.cells = has.value [] s.cells st.cells at.cells ∙ ap (λ ns. m.rest ns s.cells) vs_is in
          assigned ho held' e GoesOn _ t.place _ (happens (at_hand span kinds.Assign) (Did (Some own.variable.name))) s st (own.cell is s.cells) (λ j. after_value (m.rest vs s.cells) (combined own.variable.kind op m.kind s.cells j)) (λ i v q. d i v (d' i v q)) proper sits.edges.0 refl (name_tells (stated u span kinds.Assign) t.place _ p.variable.name _ b z ∙ ap (λ (x : Variable). happens (at_hand span kinds.Assign) (Did (Some x.name))) var) at cell
          (λ j known.
          let kept = names.kept [] s.cells j (ap (λ ns. own.cell ns s.cells) is_is ∙ known) in
          let named = names.cell [] s.cells st.cells own_agree ∙ ap (λ ns. own.cell ns s.cells) is_is ∙ known in (
            kept,
            ap (λ f. value_of st.cells f (graph_combined p.variable.kind op t.place o.value)) frame ∙ ap (λ (x : Variable). value_of st.cells (own_frame c) (graph_combined x.kind op t.place o.value)) var
                ∙ combined_is s.cells st.cells (own_frame c) own.variable.kind op m.kind t.place o.value j (m.rest vs s.cells) kind fits named (at.cells.same j kept) value (has.kinds st.cells) (values vs s.cells),
          ))
          (Arrives c ho u z) (λ s' to h. h)
