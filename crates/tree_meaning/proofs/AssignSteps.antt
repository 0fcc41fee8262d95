-- The steps of assignments.
use Rattle.std.proofs.Common.{◌≡◌, ℕ, List, Option, Some, None, Result, Ok, Err, false, refl, sym, ap, subst, ◌∙◌, rules}
use Rattle.std.specs.Prelude.{slice_index, IsTrue, IfSome}
use Rattle.std.specs.Option.{option_map}
use Rattle.c_values.specs.Kind.{IsKind, is_kind}
use Rattle.c_values.specs.Operations.{is_shift}
use Rattle.c_values.specs.declared.kinds.Kind.{Kind}
use Rattle.c_values.specs.declared.operators.BinaryOp.{BinaryOp}
use Rattle.c_values.proofs.Fitting.{and_left, and_right}
use Rattle.cfa.specs.Values.{after_value}
use Rattle.cfa.specs.declared.parts.Variable.{Variable}
use Rattle.cfa.specs.declared.state.Trap.{Trap}
use Rattle.c_typed_trees.specs.Fitting as fitting
use Rattle.c_typed_trees.specs.Fitting.{Nameable, Fit, expression_fit, place_fits, operator_fits}
use Rattle.c_typed_trees.specs.declared.expression.TypedExpr.{TypedExpr}
use Rattle.c_typed_trees.specs.declared.expression.TypedExprForm.{the_lemmas}
use Rattle.c_typed_trees.specs.declared.expression.TypedPlace.{TypedPlace, out-TypedPlace}
use Rattle.tree_meaning.specs.declared.activation.Activation.{Activation}
use Rattle.tree_meaning.specs.declared.machine.Machine.{Machine}
use Rattle.tree_meaning.specs.declared.stop.Stop.{Stop}
use Rattle.tree_meaning.specs.declared.stop.Stop.TheVariants as stop
use Rattle.tree_meaning.specs.declared.task.Assignment.{Assignment}
use Rattle.tree_meaning.specs.declared.task.AssignStage.TheVariants as assigning
use Rattle.tree_meaning.specs.declared.task.Task.{Task}
use Rattle.tree_meaning.specs.declared.task.Task.TheVariants.{Statement}
use Rattle.tree_meaning.specs.declared.task.StatementTask.TheVariants as statement
use Rattle.tree_meaning.specs.declared.task.ValueTask.TheVariants as value
use Rattle.tree_meaning.specs.declared.way.Way.{Way}
use Rattle.tree_meaning.specs.declared.way.Way.TheVariants.{GoesOn}
use Rattle.tree_meaning.specs.Outcomes.{Store, Done, Gives, ◌andthen◌, unless_trap}
use Rattle.tree_meaning.specs.Activations.{stored}
use Rattle.tree_meaning.specs.Expressions.{Meant, placed_at}
use Rattle.tree_meaning.specs.Running.{Scene, meant_in, placed_in, assigned, combined_with, FitExpression, FitAssign}
use Rattle.tree_meaning.specs.Statements.{combined}
use Rattle.tree_meaning.specs.Stopping.{IsStop}
use Rattle.tree_meaning.specs.Tasks.{Cont, without_values, with_way_and_outer, value_does, statement_does, behind, Leads, Stops}
use Rattle.tree_meaning.proofs.Fits.{fit_kind}
use Rattle.tree_meaning.proofs.Forms.{place_in, own_kind}
use Rattle.tree_meaning.proofs.Rows.{memory_laws}
use Rattle.tree_meaning.proofs.Then.{then_stops}
use Rattle.tree_meaning.proofs.ValueKinds.{meet_is}

variable_at : (a : Activation) (v : Variable) (o : Option Meant) → (placed_at a v o).variable ≡ v
variable_at a v None = refl
variable_at a v (Some i) = refl

combined_is : (own : Kind) (op : Option (BinaryOp × Kind)) (kind : Kind) (cells : List ℕ) (cell v : ℕ) → combined own op kind cells cell v ≡ combined_with own op kind (slice_index cells cell) v
combined_is own None kind cells cell v = refl
combined_is own (Some op) kind cells cell v = refl

module _ (c : Scene) (p : TypedPlace) (op : Option (BinaryOp × Kind)) (x : TypedExpr) (is vs : List ℕ) (s : Store) where
  abbrev whole : Done Way
  whole = assigned (placed_in c p) op (meant_in c x) is vs s

  abbrev own_of : Kind
  own_of = (placed_in c p).variable.kind

  own_is : own_of ≡ (out-TypedPlace p).variable.kind
  own_is = ap (λ q. q.variable.kind) (place_in c p) ∙ ap (λ (v : Variable). v.kind) (variable_at c.activation (out-TypedPlace p).variable (option_map (meant_in c) (out-TypedPlace p).index))

  pub cell_traps : (trap : Trap) (st : Stop) → (placed_in c p).cell is s.cells ≡ Err trap → st ≡ stop.Trapped trap → IsStop st whole
  cell_traps trap st e h = subst (λ t. IsStop t whole) (sym h) (ap (λ r. unless_trap r (λ cell. unless_trap (after_value ((meant_in c x).rest vs s.cells) (combined own_of op (meant_in c x).kind s.cells cell)) (λ v. Gives GoesOn (stored s cell v)))) e)

  module _ (cell : ℕ) (at : (placed_in c p).cell is s.cells ≡ Ok cell) where
    abbrev put : Result ℕ Trap → Done Way
    put r = unless_trap r (λ v. Gives GoesOn (stored s cell v))

    by_cell : whole ≡ put (after_value ((meant_in c x).rest vs s.cells) (combined own_of op (meant_in c x).kind s.cells cell))
    by_cell = ap (λ r. unless_trap r (λ n. unless_trap (after_value ((meant_in c x).rest vs s.cells) (combined own_of op (meant_in c x).kind s.cells n)) (λ v. Gives GoesOn (stored s n v)))) at

    pub value_traps : (trap : Trap) (st : Stop) → (meant_in c x).rest vs s.cells ≡ Err trap → st ≡ stop.Trapped trap → IsStop st whole
    value_traps trap st e h = subst (λ t. IsStop t whole) (sym h) (by_cell ∙ ap (λ r. put (after_value r (combined own_of op (meant_in c x).kind s.cells cell))) e)

    module _ (v held : ℕ) (own kind : Kind) (made : Result ℕ Trap) (e : (meant_in c x).rest vs s.cells ≡ Ok v) (o : own ≡ (out-TypedPlace p).variable.kind) (n : kind ≡ x.kind) (h : held ≡ slice_index s.cells cell) (fits : FitExpression x) (m : made ≡ combined_with own op kind held v) where
      by_value : whole ≡ put made
      by_value =
          by_cell ∙ ap (λ r. put (after_value r (combined own_of op (meant_in c x).kind s.cells cell))) e
          ∙ ap put (combined_is own_of op (meant_in c x).kind s.cells cell v)
          ∙ ap (λ q. put (combined_with q op (meant_in c x).kind (slice_index s.cells cell) v)) (own_is ∙ sym o)
          ∙ ap (λ q. put (combined_with own op q (slice_index s.cells cell) v)) (own_kind c x fits ∙ sym n)
          ∙ ap (λ q. put (combined_with own op kind q v)) (sym h) ∙ ap put (sym m)

      pub assigned_made : (w : ℕ) (s' : Store) → made ≡ Ok w → s' ≡ stored s cell w → whole ≡ Gives GoesOn s'
      assigned_made w s' f g = by_value ∙ ap put f ∙ ap (Gives GoesOn) (sym g)

      pub made_traps : (trap : Trap) (st : Stop) → made ≡ Err trap → st ≡ stop.Trapped trap → IsStop st whole
      made_traps trap st f g = subst (λ t. IsStop t whole) (sym g) (by_value ∙ ap put f)

-- ---- the tasks

module _ (old new : List Task) (m : Machine) (x : Assignment) (outer : List ℕ) where
  abbrev k : Cont
  k = behind old

  abbrev leaves : Way → Store → Done Way
  leaves way s = k (with_way_and_outer m outer way s)

  pub assign_value : (mid : List Task) (index : List ℕ) (m1 : Machine) → index ≡ m.values → m1 ≡ without_values m → behind new ≡ value_does (value.First x.value) (behind mid)
      → behind mid ≡ statement_does (statement.Assign x (assigning.Put index) outer) k → Leads (Statement (statement.Assign x assigning.Value outer)) old m new m1
  unfolding statement_does value_does
  assign_value mid index m1 e i h g =
      record {
        same =
            (λ j. value_does (value.First x.value) (statement_does (statement.Assign x (assigning.Put (sym e j)) outer) k) (without_values m))
            ∙ (λ j. value_does (value.First x.value) (sym g j) (sym i j)) ∙ (λ j. sym h j m1);
      }

  module _ (index : List ℕ) where
    abbrev done : Done Way
    done = assigned (placed_in m.scene x.place.now) x.operator (meant_in m.scene x.value.now) index m.values m.store

    pub assign_put : (way : Way) (s : Store) (m1 : Machine) → done ≡ Gives way s → m1 ≡ with_way_and_outer m outer way s → Leads (Statement (statement.Assign x (assigning.Put index) outer)) old m old m1
    unfolding statement_does
    assign_put way s m1 e h = record { same = ap (λ (d : Done Way). d andthen leaves) e ∙ ap k (sym h) }

    pub assign_stops : (st : Stop) → IsStop st done → Stops (Statement (statement.Assign x (assigning.Put index) outer)) old m st
    unfolding statement_does
    assign_stops st h = record { is = then_stops leaves st done h }

-- ---- parts that fit

variable_kind : (n : Nameable) (v : Variable) (o : Option Fit) → IsTrue (fitting.indexed n v o) → IsKind v.kind
variable_kind n v None h = and_left _ _ (and_left _ _ (and_left _ _ h))
variable_kind n v (Some i) h = and_left _ _ (and_left _ _ (and_left _ _ h))

abbrev fit_of : Nameable → Option TypedExpr → Option Fit
fit_of n None = None
fit_of n (Some x) = Some (expression_fit n x)

place_kind : (n : Nameable) (p : TypedPlace) → IsTrue (place_fits n p) → IsKind (out-TypedPlace p).variable.kind
unfolding place_fits expression_fit
place_kind n p h =
    let all : place_fits n p ≡ fitting.indexed n (out-TypedPlace p).variable (fit_of n (out-TypedPlace p).index) = search (rules, the_lemmas) in
    variable_kind n (out-TypedPlace p).variable (fit_of n (out-TypedPlace p).index) (subst IsTrue all h)

operator_kind : (n : Nameable) (op : Option (BinaryOp × Kind)) (x : TypedExpr) → IsTrue (operator_fits n op x) → IfSome op (λ (q : BinaryOp × Kind). IsKind q.1 × (is_shift q.0 ≡ false → x.kind ≡ q.1))
operator_kind n None x h = tt
operator_kind n (Some op) x h = (and_left (is_kind op.1) _ h, λ s. sym (fit_kind n x) ∙ meet_is op.0 op.1 (expression_fit n x).kind (and_right (is_kind op.1) _ h) s)

pub assign_own_kind : (p : TypedPlace) (op : Option (BinaryOp × Kind)) (x : TypedExpr) → FitAssign p op x → IsKind (out-TypedPlace p).variable.kind
assign_own_kind p op x f = place_kind f.names p f.place

pub assign_operator_kind : (p : TypedPlace) (op : Option (BinaryOp × Kind)) (x : TypedExpr) → FitAssign p op x → IfSome op (λ (q : BinaryOp × Kind). IsKind q.1 × (is_shift q.0 ≡ false → x.kind ≡ q.1))
assign_operator_kind p op x f = operator_kind f.names op x f.operator

pub assign_value_fits : (p : TypedPlace) (op : Option (BinaryOp × Kind)) (x : TypedExpr) → FitAssign p op x → FitExpression x
assign_value_fits p op x f = record { names = f.names; fits = f.value }

pub ruleset assigned_laws = (cell_traps, value_traps, assigned_made, made_traps)

pub ruleset assign_laws = (assign_value, assign_put, assign_stops, assign_value_fits, memory_laws)
