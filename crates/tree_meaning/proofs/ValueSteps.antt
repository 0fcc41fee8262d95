-- The steps of an evaluation.
use Rattle.std.proofs.Common.{◌≡◌, ℕ, List, [], ◌∷◌, ◌++◌, map, Some, None, Ok, Err, refl, sym, ap, subst, ◌∙◌}
use Rattle.std.specs.Prelude.{IsTrue}
use Rattle.std.specs.Borrow.{Bor}
use Rattle.c_values.specs.declared.operators.BinaryOp.{BinaryOp}
use Rattle.c_values.specs.declared.operators.UnaryOp.{UnaryOp}
use Rattle.cfa.specs.declared.state.Trap.{Trap}
use Rattle.c_typed_trees.specs.declared.expression.TypedCall.{TypedCall}
use Rattle.c_typed_trees.specs.declared.expression.TypedExpr.{TypedExpr}
use Rattle.c_typed_trees.specs.declared.expression.TypedExprForm.TheVariants as forms
use Rattle.c_typed_trees.specs.declared.expression.TypedPlace.{TypedPlace, out-TypedPlace}
use Rattle.tree_meaning.specs.declared.machine.Machine.{Machine}
use Rattle.tree_meaning.specs.declared.stop.Stop.{Stop}
use Rattle.tree_meaning.specs.declared.stop.Stop.TheVariants as stop
use Rattle.tree_meaning.specs.declared.task.Task.{Task}
use Rattle.tree_meaning.specs.declared.task.Task.TheVariants.{Value}
use Rattle.tree_meaning.specs.declared.task.ValueTask.TheVariants as value
use Rattle.tree_meaning.specs.Outcomes.{Store, Done, Gives, ◌andthen◌, unless_trap, Evaluation, is_true}
use Rattle.tree_meaning.specs.Calls.{first_parts}
use Rattle.tree_meaning.specs.Expressions.{part_meant, truth}
use Rattle.tree_meaning.specs.Running.{meant_in, placed_in, value_in, part_in, FitExpression, FitExpressions, FitPlace, FitCall}
use Rattle.tree_meaning.specs.Tasks.{Cont, with_value, with_values, with_outer, without_values, value_does, behind, Leads, Stops}
use Rattle.tree_meaning.specs.Stopping.{IsStop}
use Rattle.tree_meaning.proofs.Firsts.{constant_first, load_first, convert_first, unary_first, binary_first, both_first, either_first, choice_first, call_first, both_part, either_part, choice_part, call_part, constant_part, load_part, convert_part, unary_part, binary_part, whole_first, element_first}
use Rattle.tree_meaning.proofs.Fits.{expression_fits_laws, load_fit, convert_fit, unary_fit, left_fit, right_fit, both_left_fit, both_right_fit, either_left_fit, either_right_fit, choice_test_fit, choice_yes_fit, choice_no_fit, call_form_fit, index_fit}
use Rattle.c_typed_trees.specs.Fitting.{expression_fits}
use Rattle.std.specs.List.{list_all}
use Rattle.c_values.proofs.Fitting.{and_left, and_right}
use Rattle.tree_meaning.proofs.Then.{then_then, trap_then}
use Rattle.tree_meaning.proofs.Truths.{is_zero, is_other}

module _ (old new : List Task) (m : Machine) where
  abbrev k : Cont
  k = behind old

  -- ---- an evaluation, and the rest of an expression

  evaluate_step_eq : (x : Bor TypedExpr) (outer : List ℕ) (m' : Machine) → outer ≡ m.values → m' ≡ without_values m → value_does (value.Evaluate x) k m ≡ value_does (value.First x) (value_does (value.Rest x outer) k) m'
  unfolding value_does
  evaluate_step_eq x outer m' e h =
      let x' = meant_in m.scene x.now in
      let g : ℕ → Store → Done _ = λ v s. k (with_value m v s) in
      then_then g (x'.first [] m.store) (λ vs s. unless_trap (x'.rest vs s.cells) (λ v. Gives v s))
      ∙ ap (λ n. x'.first [] m.store andthen n) (λ i vs s. trap_then g (x'.rest vs s.cells) (λ v. Gives v s) i)
      ∙ ap (λ o. value_does (value.First x) (value_does (value.Rest x o) k) (without_values m)) (sym e)
      ∙ ap (λ q. value_does (value.First x) (value_does (value.Rest x outer) k) q) (sym h)

  pub evaluate_step : (x : Bor TypedExpr) (outer : List ℕ) (m' : Machine) → outer ≡ m.values → m' ≡ without_values m → (mid : List Task) → behind new ≡ value_does (value.First x) (behind mid) → behind mid ≡ value_does (value.Rest x outer) k → Leads (Value (value.Evaluate x)) old m new m'
  evaluate_step x outer m' e h mid e2 e1 = record { same = evaluate_step_eq x outer m' e h ∙ (λ i. value_does (value.First x) (sym e1 i) m') ∙ (λ i. sym e2 i m') }

  rest_step_eq : (x : Bor TypedExpr) (outer : List ℕ) (v : ℕ) (m' : Machine) → (meant_in m.scene x.now).rest m.values m.store.cells ≡ Ok v → m' ≡ with_outer m outer v m.store → value_does (value.Rest x outer) k m ≡ k m'
  unfolding value_does
  rest_step_eq x outer v m' e h = ap (λ r. unless_trap r (λ v'. k (with_outer m outer v' m.store))) e ∙ ap k (sym h)

  pub rest_step : (x : Bor TypedExpr) (outer : List ℕ) (v : ℕ) (m' : Machine) → (meant_in m.scene x.now).rest m.values m.store.cells ≡ Ok v → m' ≡ with_outer m outer v m.store → Leads (Value (value.Rest x outer)) old m old m'
  rest_step x outer v m' e h = record { same = rest_step_eq x outer v m' e h }

  pub rest_stops : (x : Bor TypedExpr) (outer : List ℕ) (trap : Trap) (st : Stop) → (meant_in m.scene x.now).rest m.values m.store.cells ≡ Err trap → st ≡ stop.Trapped trap → Stops (Value (value.Rest x outer)) old m st
  unfolding value_does
  rest_stops x outer trap st e h = record { is = subst (λ q. IsStop q (value_does (value.Rest x outer) k m)) (sym h) (ap (λ r. unless_trap r (λ v'. k (with_outer m outer v' m.store))) e) }

  -- ---- what an expression does first

  first_by : (x : Bor TypedExpr) (d : Done (List ℕ)) → (meant_in m.scene x.now).first m.values m.store ≡ d → value_does (value.First x) k m ≡ (d andthen λ vs s. k (with_values m vs s))
  unfolding value_does
  first_by x d e = ap (λ (q : Done (List ℕ)). q andthen λ vs s. k (with_values m vs s)) e

  first_constant_eq : (x : Bor TypedExpr) (v : ℕ) → x.now.form ≡ forms.Constant v → value_does (value.First x) k m ≡ k (with_values m m.values m.store)
  first_constant_eq x v e = first_by x _ (constant_first m.scene x.now m.values m.store v e)

  pub first_constant : (x : Bor TypedExpr) (v : ℕ) → x.now.form ≡ forms.Constant v → (m1 : Machine) → m1 ≡ (with_values m m.values m.store) → Leads (Value (value.First x)) old m old m1
  first_constant x v e m1 em = record { same = first_constant_eq x v e ∙ ap k (sym em) }

  first_load_eq : (x : Bor TypedExpr) (p : Bor TypedPlace) (p' : TypedPlace) → x.now.form ≡ forms.Load p' → p.now ≡ p' → value_does (value.First x) k m ≡ value_does (value.FirstInPlace p) k m
  unfolding value_does
  first_load_eq x p p' e h = first_by x _ (load_first m.scene x.now m.values m.store p' e ∙ ap (λ q. (placed_in m.scene q).first m.values m.store) (sym h))

  pub first_load : (x : Bor TypedExpr) (p : Bor TypedPlace) (p' : TypedPlace) → x.now.form ≡ forms.Load p' → p.now ≡ p' → behind new ≡ value_does (value.FirstInPlace p) k → Leads (Value (value.First x)) old m new m
  first_load x p p' e h e1 = record { same = first_load_eq x p p' e h ∙ (λ i. sym e1 i m) }

  first_convert_eq : (x y : Bor TypedExpr) (y' : TypedExpr) → x.now.form ≡ forms.Convert y' → y.now ≡ y' → value_does (value.First x) k m ≡ value_does (value.First y) k m
  unfolding value_does
  first_convert_eq x y y' e h = first_by x _ (convert_first m.scene x.now m.values m.store y' e ∙ ap (λ q. (meant_in m.scene q).first m.values m.store) (sym h))

  pub first_convert : (x y : Bor TypedExpr) (y' : TypedExpr) → x.now.form ≡ forms.Convert y' → y.now ≡ y' → behind new ≡ value_does (value.First y) k → Leads (Value (value.First x)) old m new m
  first_convert x y y' e h e1 = record { same = first_convert_eq x y y' e h ∙ (λ i. sym e1 i m) }

  first_unary_eq : (x y : Bor TypedExpr) (op : UnaryOp) (y' : TypedExpr) → x.now.form ≡ forms.Unary op y' → y.now ≡ y' → value_does (value.First x) k m ≡ value_does (value.First y) k m
  unfolding value_does
  first_unary_eq x y op y' e h = first_by x _ (unary_first m.scene x.now m.values m.store op y' e ∙ ap (λ q. (meant_in m.scene q).first m.values m.store) (sym h))

  pub first_unary : (x y : Bor TypedExpr) (op : UnaryOp) (y' : TypedExpr) → x.now.form ≡ forms.Unary op y' → y.now ≡ y' → behind new ≡ value_does (value.First y) k → Leads (Value (value.First x)) old m new m
  first_unary x y op y' e h e1 = record { same = first_unary_eq x y op y' e h ∙ (λ i. sym e1 i m) }

  first_binary_eq : (x y z : Bor TypedExpr) (op : BinaryOp) (y' z' : TypedExpr) → x.now.form ≡ forms.Binary op y' z' → y.now ≡ y' → z.now ≡ z' → value_does (value.First x) k m ≡ value_does (value.First y) (value_does (value.First z) k) m
  unfolding value_does
  first_binary_eq x y z op y' z' e h g =
      let after : List ℕ → Store → Done _ = λ vs s. k (with_values m vs s) in
      first_by x _ (binary_first m.scene x.now m.values m.store op y' z' e) ∙ then_then after ((meant_in m.scene y').first m.values m.store) (meant_in m.scene z').first
      ∙ ap (λ p. (meant_in m.scene p).first m.values m.store andthen λ vs s. (meant_in m.scene z').first vs s andthen after) (sym h)
      ∙ ap (λ q. (meant_in m.scene y.now).first m.values m.store andthen λ vs s. (meant_in m.scene q).first vs s andthen after) (sym g)

  pub first_binary : (x y z : Bor TypedExpr) (op : BinaryOp) (y' z' : TypedExpr) → x.now.form ≡ forms.Binary op y' z' → y.now ≡ y' → z.now ≡ z' → (mid : List Task) → behind new ≡ value_does (value.First y) (behind mid) → behind mid ≡ value_does (value.First z) k → Leads (Value (value.First x)) old m new m
  first_binary x y z op y' z' e h g mid e2 e1 = record { same = first_binary_eq x y z op y' z' e h g ∙ (λ i. value_does (value.First y) (sym e1 i) m) ∙ (λ i. sym e2 i m) }

  part_first : (x : Bor TypedExpr) → (meant_in m.scene x.now).first m.values m.store ≡ (part_meant (part_in m.scene x.now) x.now.kind).first m.values m.store → value_does (value.First x) k m ≡ value_does (value.Part x) (value_does value.Keep k) m
  unfolding value_does
  part_first x e = first_by x _ e ∙ then_then (λ vs s. k (with_values m vs s)) (part_in m.scene x.now m.store) (λ v s'. Gives (m.values ++ v ∷ []) s')

  first_both_eq : (x : Bor TypedExpr) (y z : TypedExpr) (cell : ℕ) → x.now.form ≡ forms.Both y z cell → value_does (value.First x) k m ≡ value_does (value.Part x) (value_does value.Keep k) m
  first_both_eq x y z cell e = part_first x (both_first m.scene x.now m.values m.store y z cell e)

  pub first_both : (x : Bor TypedExpr) (y z : TypedExpr) (cell : ℕ) → x.now.form ≡ forms.Both y z cell → behind new ≡ value_does (value.Part x) (value_does value.Keep k) → Leads (Value (value.First x)) old m new m
  first_both x y z cell e e2 = record { same = first_both_eq x y z cell e ∙ (λ i. sym e2 i m) }

  first_either_eq : (x : Bor TypedExpr) (y z : TypedExpr) (cell : ℕ) → x.now.form ≡ forms.Either y z cell → value_does (value.First x) k m ≡ value_does (value.Part x) (value_does value.Keep k) m
  first_either_eq x y z cell e = part_first x (either_first m.scene x.now m.values m.store y z cell e)

  pub first_either : (x : Bor TypedExpr) (y z : TypedExpr) (cell : ℕ) → x.now.form ≡ forms.Either y z cell → behind new ≡ value_does (value.Part x) (value_does value.Keep k) → Leads (Value (value.First x)) old m new m
  first_either x y z cell e e2 = record { same = first_either_eq x y z cell e ∙ (λ i. sym e2 i m) }

  first_choice_eq : (x : Bor TypedExpr) (w y z : TypedExpr) (cell : ℕ) → x.now.form ≡ forms.Choice w y z cell → value_does (value.First x) k m ≡ value_does (value.Part x) (value_does value.Keep k) m
  first_choice_eq x w y z cell e = part_first x (choice_first m.scene x.now m.values m.store w y z cell e)

  pub first_choice : (x : Bor TypedExpr) (w y z : TypedExpr) (cell : ℕ) → x.now.form ≡ forms.Choice w y z cell → behind new ≡ value_does (value.Part x) (value_does value.Keep k) → Leads (Value (value.First x)) old m new m
  first_choice x w y z cell e e2 = record { same = first_choice_eq x w y z cell e ∙ (λ i. sym e2 i m) }

  first_call_eq : (x : Bor TypedExpr) (q : TypedCall) → x.now.form ≡ forms.Call q → value_does (value.First x) k m ≡ value_does (value.Part x) (value_does value.Keep k) m
  first_call_eq x q e = part_first x (call_first m.scene x.now m.values m.store q e)

  pub first_call : (x : Bor TypedExpr) (q : TypedCall) → x.now.form ≡ forms.Call q → behind new ≡ value_does (value.Part x) (value_does value.Keep k) → Leads (Value (value.First x)) old m new m
  first_call x q e e2 = record { same = first_call_eq x q e ∙ (λ i. sym e2 i m) }

  -- ---- places

  place_whole_eq : (p : Bor TypedPlace) → (out-TypedPlace p.now).index ≡ None → value_does (value.FirstInPlace p) k m ≡ k (with_values m m.values m.store)
  unfolding value_does
  place_whole_eq p e = ap (λ (q : Done (List ℕ)). q andthen λ vs s. k (with_values m vs s)) (whole_first m.scene p.now m.values m.store e)

  pub place_whole : (p : Bor TypedPlace) → (out-TypedPlace p.now).index ≡ None → (m1 : Machine) → m1 ≡ (with_values m m.values m.store) → Leads (Value (value.FirstInPlace p)) old m old m1
  place_whole p e m1 em = record { same = place_whole_eq p e ∙ ap k (sym em) }

  place_element_eq : (p : Bor TypedPlace) (i : Bor TypedExpr) (i' : TypedExpr) → (out-TypedPlace p.now).index ≡ Some i' → i.now ≡ i' → value_does (value.FirstInPlace p) k m ≡ value_does (value.First i) k m
  unfolding value_does
  place_element_eq p i i' e h = ap (λ (q : Done (List ℕ)). q andthen λ vs s. k (with_values m vs s)) (element_first m.scene p.now m.values m.store i' e ∙ ap (λ q. (meant_in m.scene q).first m.values m.store) (sym h))

  pub place_element : (p : Bor TypedPlace) (i : Bor TypedExpr) (i' : TypedExpr) → (out-TypedPlace p.now).index ≡ Some i' → i.now ≡ i' → behind new ≡ value_does (value.First i) k → Leads (Value (value.FirstInPlace p)) old m new m
  place_element p i i' e h e1 = record { same = place_element_eq p i i' e h ∙ (λ i. sym e1 i m) }

  -- ---- values that are kept

  keep_step_eq : (m' : Machine) → m' ≡ with_values m (m.values ++ m.value ∷ []) m.store → value_does value.Keep k m ≡ k m'
  unfolding value_does
  keep_step_eq m' h = ap k (sym h)

  pub keep_step : (m' : Machine) → m' ≡ with_values m (m.values ++ m.value ∷ []) m.store → Leads (Value value.Keep) old m old m'
  keep_step m' h = record { same = keep_step_eq m' h }

  -- ---- `&&`, `||`, `?:` and calls

  part_by : (x : Bor TypedExpr) (d : Evaluation) → part_in m.scene x.now ≡ d → value_does (value.Part x) k m ≡ (d m.store andthen λ v s. k (with_value m v s))
  unfolding value_does
  part_by x d e = ap (λ (q : Evaluation). q m.store andthen λ v s. k (with_value m v s)) e

  part_both_eq : (x y z : Bor TypedExpr) (y' z' : TypedExpr) (cell : ℕ) → x.now.form ≡ forms.Both y' z' cell → y.now ≡ y' → z.now ≡ z' → value_does (value.Part x) k m ≡ value_does (value.Evaluate y) (value_does (value.AndThen z) k) m
  unfolding value_does
  part_both_eq x y z y' z' cell e h g = part_by x _ (both_part m.scene x.now _ _ cell (e ∙ (λ i. forms.Both (sym h i) (sym g i) cell))) ∙ then_then _ (value_in m.scene y.now m.store) _

  pub part_both : (x y z : Bor TypedExpr) (y' z' : TypedExpr) (cell : ℕ) → x.now.form ≡ forms.Both y' z' cell → y.now ≡ y' → z.now ≡ z' → (mid : List Task) → behind new ≡ value_does (value.Evaluate y) (behind mid) → behind mid ≡ value_does (value.AndThen z) k → Leads (Value (value.Part x)) old m new m
  part_both x y z y' z' cell e h g mid e2 e1 = record { same = part_both_eq x y z y' z' cell e h g ∙ (λ i. value_does (value.Evaluate y) (sym e1 i) m) ∙ (λ i. sym e2 i m) }

  part_either_eq : (x y z : Bor TypedExpr) (y' z' : TypedExpr) (cell : ℕ) → x.now.form ≡ forms.Either y' z' cell → y.now ≡ y' → z.now ≡ z' → value_does (value.Part x) k m ≡ value_does (value.Evaluate y) (value_does (value.OrElse z) k) m
  unfolding value_does
  part_either_eq x y z y' z' cell e h g = part_by x _ (either_part m.scene x.now _ _ cell (e ∙ (λ i. forms.Either (sym h i) (sym g i) cell))) ∙ then_then _ (value_in m.scene y.now m.store) _

  pub part_either : (x y z : Bor TypedExpr) (y' z' : TypedExpr) (cell : ℕ) → x.now.form ≡ forms.Either y' z' cell → y.now ≡ y' → z.now ≡ z' → (mid : List Task) → behind new ≡ value_does (value.Evaluate y) (behind mid) → behind mid ≡ value_does (value.OrElse z) k → Leads (Value (value.Part x)) old m new m
  part_either x y z y' z' cell e h g mid e2 e1 = record { same = part_either_eq x y z y' z' cell e h g ∙ (λ i. value_does (value.Evaluate y) (sym e1 i) m) ∙ (λ i. sym e2 i m) }

  part_choice_eq : (x w y z : Bor TypedExpr) (w' y' z' : TypedExpr) (cell : ℕ) → x.now.form ≡ forms.Choice w' y' z' cell → w.now ≡ w' → y.now ≡ y' → z.now ≡ z' → value_does (value.Part x) k m ≡ value_does (value.Evaluate w) (value_does (value.Choose y z) k) m
  unfolding value_does
  part_choice_eq x w y z w' y' z' cell e f h g = part_by x _ (choice_part m.scene x.now _ _ _ cell (e ∙ (λ i. forms.Choice (sym f i) (sym h i) (sym g i) cell))) ∙ then_then _ (value_in m.scene w.now m.store) _

  pub part_choice : (x w y z : Bor TypedExpr) (w' y' z' : TypedExpr) (cell : ℕ) → x.now.form ≡ forms.Choice w' y' z' cell → w.now ≡ w' → y.now ≡ y' → z.now ≡ z' → (mid : List Task) → behind new ≡ value_does (value.Evaluate w) (behind mid) → behind mid ≡ value_does (value.Choose y z) k → Leads (Value (value.Part x)) old m new m
  part_choice x w y z w' y' z' cell e f h g mid e2 e1 = record { same = part_choice_eq x w y z w' y' z' cell e f h g ∙ (λ i. value_does (value.Evaluate w) (sym e1 i) m) ∙ (λ i. sym e2 i m) }

  part_call_eq : (x : Bor TypedExpr) (q : Bor TypedCall) (q' : TypedCall) → x.now.form ≡ forms.Call q' → q.now ≡ q' → value_does (value.Part x) k m ≡ value_does (value.Call q) k m
  unfolding value_does
  part_call_eq x q q' e h = part_by x _ (call_part m.scene x.now _ (e ∙ ap forms.Call (sym h)))

  pub part_call : (x : Bor TypedExpr) (q : Bor TypedCall) (q' : TypedCall) → x.now.form ≡ forms.Call q' → q.now ≡ q' → behind new ≡ value_does (value.Call q) k → Leads (Value (value.Part x)) old m new m
  part_call x q q' e h e1 = record { same = part_call_eq x q q' e h ∙ (λ i. sym e1 i m) }

  no_part : (x : Bor TypedExpr) → ((s : Store) → part_in m.scene x.now s ≡ Gives 0 s) → value_does (value.Part x) k m ≡ k (with_value m 0 m.store)
  unfolding value_does
  no_part x h = ap (λ (q : Done ℕ). q andthen λ v s. k (with_value m v s)) (h m.store)

  part_constant_eq : (x : Bor TypedExpr) (v : ℕ) → x.now.form ≡ forms.Constant v → value_does (value.Part x) k m ≡ k (with_value m 0 m.store)
  part_constant_eq x v e = no_part x (λ s. constant_part m.scene x.now v s e)

  pub part_constant : (x : Bor TypedExpr) (v : ℕ) → x.now.form ≡ forms.Constant v → (m1 : Machine) → m1 ≡ (with_value m 0 m.store) → Leads (Value (value.Part x)) old m old m1
  part_constant x v e m1 em = record { same = part_constant_eq x v e ∙ ap k (sym em) }

  part_load_eq : (x : Bor TypedExpr) (p : TypedPlace) → x.now.form ≡ forms.Load p → value_does (value.Part x) k m ≡ k (with_value m 0 m.store)
  part_load_eq x p e = no_part x (λ s. load_part m.scene x.now p s e)

  pub part_load : (x : Bor TypedExpr) (p : TypedPlace) → x.now.form ≡ forms.Load p → (m1 : Machine) → m1 ≡ (with_value m 0 m.store) → Leads (Value (value.Part x)) old m old m1
  part_load x p e m1 em = record { same = part_load_eq x p e ∙ ap k (sym em) }

  part_convert_eq : (x : Bor TypedExpr) (y : TypedExpr) → x.now.form ≡ forms.Convert y → value_does (value.Part x) k m ≡ k (with_value m 0 m.store)
  part_convert_eq x y e = no_part x (λ s. convert_part m.scene x.now y s e)

  pub part_convert : (x : Bor TypedExpr) (y : TypedExpr) → x.now.form ≡ forms.Convert y → (m1 : Machine) → m1 ≡ (with_value m 0 m.store) → Leads (Value (value.Part x)) old m old m1
  part_convert x y e m1 em = record { same = part_convert_eq x y e ∙ ap k (sym em) }

  part_unary_eq : (x : Bor TypedExpr) (op : UnaryOp) (y : TypedExpr) → x.now.form ≡ forms.Unary op y → value_does (value.Part x) k m ≡ k (with_value m 0 m.store)
  part_unary_eq x op y e = no_part x (λ s. unary_part m.scene x.now op y s e)

  pub part_unary : (x : Bor TypedExpr) (op : UnaryOp) (y : TypedExpr) → x.now.form ≡ forms.Unary op y → (m1 : Machine) → m1 ≡ (with_value m 0 m.store) → Leads (Value (value.Part x)) old m old m1
  part_unary x op y e m1 em = record { same = part_unary_eq x op y e ∙ ap k (sym em) }

  part_binary_eq : (x : Bor TypedExpr) (op : BinaryOp) (y z : TypedExpr) → x.now.form ≡ forms.Binary op y z → value_does (value.Part x) k m ≡ k (with_value m 0 m.store)
  part_binary_eq x op y z e = no_part x (λ s. binary_part m.scene x.now op y z s e)

  pub part_binary : (x : Bor TypedExpr) (op : BinaryOp) (y z : TypedExpr) → x.now.form ≡ forms.Binary op y z → (m1 : Machine) → m1 ≡ (with_value m 0 m.store) → Leads (Value (value.Part x)) old m old m1
  part_binary x op y z e m1 em = record { same = part_binary_eq x op y z e ∙ ap k (sym em) }

  -- ---- behind a first operand

  and_zero_eq : (y : Bor TypedExpr) (m' : Machine) → m.value ≡ 0 → m' ≡ m → value_does (value.AndThen y) k m ≡ k m'
  unfolding value_does
  and_zero_eq y m' e h = rw (is_zero m.value e) (ap k (λ i. record { scene = m.scene; values = m.values; value = sym e i; way = m.way; store = m.store }) ∙ ap k (sym h))

  pub and_zero : (y : Bor TypedExpr) (m' : Machine) → m.value ≡ 0 → m' ≡ m → Leads (Value (value.AndThen y)) old m old m'
  and_zero y m' e h = record { same = and_zero_eq y m' e h }

  and_other_eq : (y : Bor TypedExpr) → (m.value ≡ 0 → ⊥) → value_does (value.AndThen y) k m ≡ value_does (value.Evaluate y) (value_does value.Truth k) m
  unfolding value_does
  and_other_eq y h = rw (is_other m.value h) (then_then _ (value_in m.scene y.now m.store) _)

  pub and_other : (y : Bor TypedExpr) → (m.value ≡ 0 → ⊥) → (mid : List Task) → behind new ≡ value_does (value.Evaluate y) (behind mid) → behind mid ≡ value_does value.Truth k → Leads (Value (value.AndThen y)) old m new m
  and_other y h mid e2 e1 = record { same = and_other_eq y h ∙ (λ i. value_does (value.Evaluate y) (sym e1 i) m) ∙ (λ i. sym e2 i m) }

  or_zero_eq : (y : Bor TypedExpr) → m.value ≡ 0 → value_does (value.OrElse y) k m ≡ value_does (value.Evaluate y) (value_does value.Truth k) m
  unfolding value_does
  or_zero_eq y e = rw (is_zero m.value e) (then_then _ (value_in m.scene y.now m.store) _)

  pub or_zero : (y : Bor TypedExpr) → m.value ≡ 0 → (mid : List Task) → behind new ≡ value_does (value.Evaluate y) (behind mid) → behind mid ≡ value_does value.Truth k → Leads (Value (value.OrElse y)) old m new m
  or_zero y e mid e2 e1 = record { same = or_zero_eq y e ∙ (λ i. value_does (value.Evaluate y) (sym e1 i) m) ∙ (λ i. sym e2 i m) }

  or_other_eq : (y : Bor TypedExpr) → (m.value ≡ 0 → ⊥) → value_does (value.OrElse y) k m ≡ k (with_value m 1 m.store)
  unfolding value_does
  or_other_eq y h = rw (is_other m.value h) refl

  pub or_other : (y : Bor TypedExpr) → (m.value ≡ 0 → ⊥) → (m1 : Machine) → m1 ≡ (with_value m 1 m.store) → Leads (Value (value.OrElse y)) old m old m1
  or_other y h m1 em = record { same = or_other_eq y h ∙ ap k (sym em) }

  choose_no_eq : (y z : Bor TypedExpr) → m.value ≡ 0 → value_does (value.Choose y z) k m ≡ value_does (value.Evaluate z) k m
  unfolding value_does
  choose_no_eq y z e = rw (is_zero m.value e) refl

  pub choose_no : (y z : Bor TypedExpr) → m.value ≡ 0 → behind new ≡ value_does (value.Evaluate z) k → Leads (Value (value.Choose y z)) old m new m
  choose_no y z e e1 = record { same = choose_no_eq y z e ∙ (λ i. sym e1 i m) }

  choose_yes_eq : (y z : Bor TypedExpr) → (m.value ≡ 0 → ⊥) → value_does (value.Choose y z) k m ≡ value_does (value.Evaluate y) k m
  unfolding value_does
  choose_yes_eq y z h = rw (is_other m.value h) refl

  pub choose_yes : (y z : Bor TypedExpr) → (m.value ≡ 0 → ⊥) → behind new ≡ value_does (value.Evaluate y) k → Leads (Value (value.Choose y z)) old m new m
  choose_yes y z h e1 = record { same = choose_yes_eq y z h ∙ (λ i. sym e1 i m) }

  truth_step_eq : (m' : Machine) → m' ≡ with_value m (truth (is_true m.value)) m.store → value_does value.Truth k m ≡ k m'
  unfolding value_does
  truth_step_eq m' h = ap k (sym h)

  pub truth_step : (m' : Machine) → m' ≡ with_value m (truth (is_true m.value)) m.store → Leads (Value value.Truth) old m old m'
  truth_step m' h = record { same = truth_step_eq m' h }

  -- ---- rows of expressions

  firsts_none_eq : (xs : Bor (List TypedExpr)) → xs.now ≡ [] → value_does (value.Firsts xs) k m ≡ k (with_values m m.values m.store)
  unfolding value_does
  firsts_none_eq xs e = ap (λ l. first_parts (map (meant_in m.scene) l) m.values m.store andthen λ vs s. k (with_values m vs s)) e

  pub firsts_none : (xs : Bor (List TypedExpr)) → xs.now ≡ [] → (m1 : Machine) → m1 ≡ (with_values m m.values m.store) → Leads (Value (value.Firsts xs)) old m old m1
  firsts_none xs e m1 em = record { same = firsts_none_eq xs e ∙ ap k (sym em) }

  firsts_more_eq : (xs ys : Bor (List TypedExpr)) (x : Bor TypedExpr) → xs.now ≡ x.now ∷ ys.now → value_does (value.Firsts xs) k m ≡ value_does (value.First x) (value_does (value.Firsts ys) k) m
  unfolding value_does
  firsts_more_eq xs ys x e =
      ap (λ l. first_parts (map (meant_in m.scene) l) m.values m.store andthen λ vs s. k (with_values m vs s)) e
      ∙ then_then _ ((meant_in m.scene x.now).first m.values m.store) (first_parts (map (meant_in m.scene) ys.now))

  pub firsts_more : (xs ys : Bor (List TypedExpr)) (x : Bor TypedExpr) → xs.now ≡ x.now ∷ ys.now → (mid : List Task) → behind new ≡ value_does (value.First x) (behind mid) → behind mid ≡ value_does (value.Firsts ys) k → Leads (Value (value.Firsts xs)) old m new m
  firsts_more xs ys x e mid e2 e1 = record { same = firsts_more_eq xs ys x e ∙ (λ i. value_does (value.First x) (sym e1 i) m) ∙ (λ i. sym e2 i m) }

-- ---- parts that fit

pub first_fits : (xs : Bor (List TypedExpr)) (x : Bor TypedExpr) (others : List TypedExpr) → xs.now ≡ x.now ∷ others → FitExpressions xs.now → FitExpression x.now
first_fits xs x others e f = record { names = f.names; fits = and_left _ _ (subst (λ l. IsTrue (list_all (expression_fits f.names) l)) e f.fits) }

pub others_fit : (xs ys : Bor (List TypedExpr)) (x : TypedExpr) → xs.now ≡ x ∷ ys.now → FitExpressions xs.now → FitExpressions ys.now
others_fit xs ys x e f = record { names = f.names; fits = and_right _ _ (subst (λ l. IsTrue (list_all (expression_fits f.names) l)) e f.fits) }

module _ (x y : Bor TypedExpr) (fits : FitExpression x.now) where
  abbrev fit_at : (y' : TypedExpr) → y.now ≡ y' → FitExpression y' → FitExpression y.now
  fit_at y' h f = subst FitExpression (sym h) f

  pub fit_both_left : (y' z' : TypedExpr) (cell : ℕ) → x.now.form ≡ forms.Both y' z' cell → y.now ≡ y' → FitExpression y.now
  fit_both_left y' z' cell e h = fit_at y' h (both_left_fit x.now y' z' cell e fits)

  pub fit_both_right : (y' z' : TypedExpr) (cell : ℕ) → x.now.form ≡ forms.Both y' z' cell → y.now ≡ z' → FitExpression y.now
  fit_both_right y' z' cell e h = fit_at z' h (both_right_fit x.now y' z' cell e fits)

  pub fit_either_left : (y' z' : TypedExpr) (cell : ℕ) → x.now.form ≡ forms.Either y' z' cell → y.now ≡ y' → FitExpression y.now
  fit_either_left y' z' cell e h = fit_at y' h (either_left_fit x.now y' z' cell e fits)

  pub fit_either_right : (y' z' : TypedExpr) (cell : ℕ) → x.now.form ≡ forms.Either y' z' cell → y.now ≡ z' → FitExpression y.now
  fit_either_right y' z' cell e h = fit_at z' h (either_right_fit x.now y' z' cell e fits)

  pub fit_choice_test : (w' y' z' : TypedExpr) (cell : ℕ) → x.now.form ≡ forms.Choice w' y' z' cell → y.now ≡ w' → FitExpression y.now
  fit_choice_test w' y' z' cell e h = fit_at w' h (choice_test_fit x.now w' y' z' cell e fits)

  pub fit_choice_yes : (w' y' z' : TypedExpr) (cell : ℕ) → x.now.form ≡ forms.Choice w' y' z' cell → y.now ≡ y' → FitExpression y.now
  fit_choice_yes w' y' z' cell e h = fit_at y' h (choice_yes_fit x.now w' y' z' cell e fits)

  pub fit_choice_no : (w' y' z' : TypedExpr) (cell : ℕ) → x.now.form ≡ forms.Choice w' y' z' cell → y.now ≡ z' → FitExpression y.now
  fit_choice_no w' y' z' cell e h = fit_at z' h (choice_no_fit x.now w' y' z' cell e fits)

  pub fit_convert : (y' : TypedExpr) → x.now.form ≡ forms.Convert y' → y.now ≡ y' → FitExpression y.now
  fit_convert y' e h = fit_at y' h (convert_fit x.now y' e fits)

  pub fit_unary : (op : UnaryOp) (y' : TypedExpr) → x.now.form ≡ forms.Unary op y' → y.now ≡ y' → FitExpression y.now
  fit_unary op y' e h = fit_at y' h (unary_fit x.now y' op e fits)

  pub fit_left : (op : BinaryOp) (y' z' : TypedExpr) → x.now.form ≡ forms.Binary op y' z' → y.now ≡ y' → FitExpression y.now
  fit_left op y' z' e h = fit_at y' h (left_fit x.now y' z' op e fits)

  pub fit_right : (op : BinaryOp) (y' z' : TypedExpr) → x.now.form ≡ forms.Binary op y' z' → y.now ≡ z' → FitExpression y.now
  fit_right op y' z' e h = fit_at z' h (right_fit x.now y' z' op e fits)

pub fit_load : (x : Bor TypedExpr) → FitExpression x.now → (p : Bor TypedPlace) (p' : TypedPlace) → x.now.form ≡ forms.Load p' → p.now ≡ p' → FitPlace p.now
fit_load x fits p p' e h = subst FitPlace (sym h) (load_fit x.now p' e fits)

pub fit_call : (x : Bor TypedExpr) → FitExpression x.now → (q : Bor TypedCall) (q' : TypedCall) → x.now.form ≡ forms.Call q' → q.now ≡ q' → FitCall q.now
fit_call x fits q q' e h = subst FitCall (sym h) (call_form_fit x.now q' e fits)

pub ruleset evaluate_laws = (evaluate_step)

pub ruleset first_laws = (first_constant, first_load, first_convert, first_unary, first_binary, first_both, first_either, first_choice, first_call, fit_load, fit_convert, fit_unary, fit_left, fit_right)

pub ruleset place_laws = (place_whole, place_element, expression_fits_laws)

pub ruleset rest_step_laws = (rest_step, rest_stops)

pub ruleset keep_laws = (keep_step)

pub ruleset part_laws = (part_both, part_either, part_choice, part_call, part_constant, part_load, part_convert, part_unary, part_binary, fit_both_left, fit_both_right, fit_either_left, fit_either_right, fit_choice_test, fit_choice_yes, fit_choice_no, fit_call)

pub ruleset truth_laws = (and_zero, and_other, or_zero, or_other, choose_no, choose_yes, truth_step)

pub ruleset firsts_laws = (firsts_none, firsts_more, first_fits, others_fit)
