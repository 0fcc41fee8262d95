-- The steps of calls.
use Rattle.std.proofs.Common.{◌≡◌, ℕ, List, [], map, Some, None, sym, ap, subst, ◌∙◌}
use Rattle.std.specs.Prelude.{slice_get, slice_index}
use Rattle.std.specs.Borrow.{Bor}
use Rattle.c_typed_trees.specs.declared.expression.Callee.TheVariants.{Defined, Input}
use Rattle.c_typed_trees.specs.declared.expression.TypedCall.{TypedCall, out-TypedCall}
use Rattle.c_typed_trees.specs.declared.expression.TypedExpr.{TypedExpr}
use Rattle.c_typed_trees.specs.declared.statement.TypedStatement.{TypedStatement}
use Rattle.c_typed_trees.specs.declared.unit.TypedFunction.{TypedFunction}
use Rattle.tree_meaning.specs.declared.activation.Activation.{Activation}
use Rattle.tree_meaning.specs.declared.machine.Machine.{Machine}
use Rattle.tree_meaning.specs.declared.stop.Stop.{Stop}
use Rattle.tree_meaning.specs.declared.stop.Stop.TheVariants as stop
use Rattle.tree_meaning.specs.declared.task.Task.{Task}
use Rattle.tree_meaning.specs.declared.task.Task.TheVariants.{Value}
use Rattle.tree_meaning.specs.declared.task.StatementTask.TheVariants as statement
use Rattle.tree_meaning.specs.declared.task.ValueTask.TheVariants as value
use Rattle.tree_meaning.specs.declared.way.Way.{Way}
use Rattle.tree_meaning.specs.declared.way.Way.TheVariants.{GoesOn}
use Rattle.tree_meaning.specs.Outcomes.{Store, Done, Gives, ◌andthen◌, Evaluation}
use Rattle.tree_meaning.specs.Activations.{first_cells, with_activation, without_activation}
use Rattle.tree_meaning.specs.Calls.{answer, first_parts}
use Rattle.tree_meaning.specs.Running.{Scene, meant_in, does_in, call_in, run_in, begun, FitCall, FitExpressions}
use Rattle.tree_meaning.specs.Statements.{block}
use Rattle.tree_meaning.specs.Stopping.{IsStop}
use Rattle.tree_meaning.specs.Tasks.{Cont, with_value, with_outer, without_values, inner, runs, call_begun, value_does, statement_does, behind, Leads, Stops}
use Rattle.tree_meaning.proofs.Rows.{memory_laws}
use Rattle.tree_meaning.proofs.StatementFits.{words_fit}
use Rattle.tree_meaning.proofs.CallRuns.{input_is, defined_is, run_none, run_some, result_of}
use Rattle.tree_meaning.proofs.Then.{then_then, then_stops, same_stop}

module _ (old new : List Task) (m : Machine) (q : Bor TypedCall) where
  abbrev k : Cont
  k = behind old

  abbrev goes : ℕ → Store → Done Way
  goes v s = k (with_value m v s)

  -- ---- the value of a call

  pub input_gives : (number v : ℕ) (s : Store) (m1 : Machine) → (out-TypedCall q.now).callee ≡ Input number → answer (slice_get m.scene.unit.inputs number) m.store ≡ Gives v s → m1 ≡ with_value m v s → Leads (Value (value.Call q)) old m old m1
  unfolding value_does
  input_gives number v s m1 e h i = record { same = ap (λ (d : Done ℕ). d andthen goes) (input_is m.scene q.now number m.store e ∙ h) ∙ ap k (sym i) }

  pub input_stops : (number : ℕ) (st : Stop) → (out-TypedCall q.now).callee ≡ Input number → IsStop st (answer (slice_get m.scene.unit.inputs number) m.store) → Stops (Value (value.Call q)) old m st
  unfolding value_does
  input_stops number st e h = record { is = then_stops goes st (call_in m.scene q.now m.store) (same_stop st _ _ (input_is m.scene q.now number m.store e) h) }

  pub defined_goes : (callee : ℕ) (outer : List ℕ) (ws : Bor (List TypedExpr)) (mid : List Task) (m1 : Machine) → (out-TypedCall q.now).callee ≡ Defined callee → outer ≡ m.values → m1 ≡ without_values m → ws.now ≡ (out-TypedCall q.now).words
      → behind new ≡ value_does (value.Firsts ws) (behind mid) → behind mid ≡ value_does (value.Begin q callee outer) k → Leads (Value (value.Call q)) old m new m1
  unfolding value_does
  defined_goes callee outer ws mid m1 e o i w h g =
      let words = (out-TypedCall q.now).words in
      record {
        same =
            ap (λ (d : Done ℕ). d andthen goes) (defined_is m.scene q.now callee m.store e)
            ∙ then_then goes (first_parts (map (meant_in m.scene) words) [] m.store) (λ vs s. call_begun m.scene q.now callee vs s)
            ∙ ap (λ l. first_parts (map (meant_in m.scene) l) [] m.store andthen λ vs s. call_begun m.scene q.now callee vs s andthen goes) (sym w)
            ∙ ap (λ o'. value_does (value.Firsts ws) (value_does (value.Begin q callee o') k) (without_values m)) (sym o)
            ∙ (λ j. value_does (value.Firsts ws) (sym g j) (sym i j)) ∙ (λ j. sym h j m1);
      }

  -- ---- a call behind the first parts of its words

  module _ (callee : ℕ) (outer : List ℕ) where
    abbrev comes_back : ℕ → Store → Done Way
    comes_back v s = k (with_outer m outer v s)

    abbrev begins : (Activation → List ℕ → Evaluation) → Done ℕ
    begins run = begun m.scene (map (meant_in m.scene) (out-TypedCall q.now).words) (out-TypedCall q.now).arrays m.values run m.store

    pub begin_stops : (st : Stop) → ((run : Activation → List ℕ → Evaluation) → IsStop st (begins run)) → Stops (Value (value.Begin q callee outer)) old m st
    unfolding value_does
    begin_stops st h = record { is = then_stops comes_back st (begins (runs m.scene callee)) (h (runs m.scene callee)) }

    module _ (a : Activation) (words : List ℕ) (s : Store) (h : (run : Activation → List ℕ → Evaluation) → begins run ≡ run a words s) where
      pub begin_none : (st : Stop) → slice_get m.scene.unit.functions callee ≡ None → st ≡ stop.Blocked → Stops (Value (value.Begin q callee outer)) old m st
      unfolding value_does
      begin_none st e i =
          record {
            is = subst (λ t. IsStop t (value_does (value.Begin q callee outer) k m)) (sym i)
                (ap (λ (d : Done ℕ). d andthen comes_back) (h (runs m.scene callee) ∙ ap (λ o. run_in (inner m.scene a) o words s) e ∙ run_none (inner m.scene a) words s));
          }

      pub begin_some : (f : TypedFunction) (body : Bor (List TypedStatement)) (s' : Store) (mid : List Task) (m1 : Machine) → slice_get m.scene.unit.functions callee ≡ Some f → body.now ≡ f.body → s' ≡ with_activation s (first_cells f.cells words)
          → behind new ≡ statement_does (statement.Block body) (behind mid) → behind mid ≡ value_does (value.Leave m.scene outer m.way) k
          → m1 ≡ record { scene = inner m.scene a; values = m.values; value = 0; way = GoesOn; store = s' } → Leads (Value (value.Begin q callee outer)) old m new m1
      unfolding value_does statement_does
      begin_some f body s' mid m1 e b c g n i =
          let inside = inner m.scene a in
          record {
            same =
                ap (λ (d : Done ℕ). d andthen comes_back) (h (runs m.scene callee) ∙ ap (λ o. run_in inside o words s) e ∙ run_some inside f words s)
                ∙ then_then comes_back (block (map (does_in inside) f.body) (with_activation s (first_cells f.cells words))) (λ way s''. result_of inside s'')
                ∙ ap (λ l. block (map (does_in inside) l) (with_activation s (first_cells f.cells words)) andthen λ way s''. result_of inside s'' andthen comes_back) (sym b)
                ∙ ap (λ z. block (map (does_in inside) body.now) z andthen λ way s''. result_of inside s'' andthen comes_back) (sym c)
                ∙ (λ j. statement_does (statement.Block body) (sym n j) (sym i j)) ∙ (λ j. sym g j m1);
          }

-- ---- words that fit

pub words_fits : (q : Bor TypedCall) (callee : ℕ) (ws : Bor (List TypedExpr)) → (out-TypedCall q.now).callee ≡ Defined callee → ws.now ≡ (out-TypedCall q.now).words → FitCall q.now → FitExpressions ws.now
words_fits q callee ws e h f = subst FitExpressions (sym h) (words_fit q.now callee e f)

-- ---- a function is done

pub leave_step : (old : List Task) (m : Machine) (c : Scene) (outer : List ℕ) (way : Way) (m1 : Machine)
    → m1 ≡ record { scene = c; values = outer; value = slice_index m.store.cells m.scene.activation.base; way = way; store = without_activation m.scene.activation.base m.store } → Leads (Value (value.Leave c outer way)) old m old m1
unfolding value_does
leave_step old m c outer way m1 h = record { same = ap (behind old) (sym h) }

pub ruleset call_laws = (input_gives, input_stops, defined_goes, words_fits, memory_laws)

pub ruleset begin_laws = (begin_stops, begin_none, begin_some, memory_laws)

pub ruleset leave_laws = (leave_step)
