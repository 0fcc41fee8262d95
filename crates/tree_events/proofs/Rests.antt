-- The rests of expressions are those of tree_meaning, whatever calls do.
use Rattle.std.proofs.Common.{◌≡◌, ℕ, List, Ok, refl, sym, subst, ◌∙◌, arith}
use Rattle.std.specs.Prelude.{IsTrue}
use Rattle.c_values.specs.Kind.{IsValue}
use Rattle.c_typed_trees.specs.declared.expression.TypedExpr.{TypedExpr}
use Rattle.c_typed_trees.specs.declared.unit.Typed.{Typed}
use Rattle.c_typed_trees.specs.Fitting.{Nameable, expression_fit, expression_fits}
use Rattle.tree_meaning.specs.declared.activation.Activation.{Activation}
use Rattle.tree_meaning.specs.Outcomes.{Ends, BlockedEnd}
use Rattle.tree_meaning.specs.Calls as calling
use Rattle.tree_meaning.specs.Trees.{meant}
use Rattle.tree_meaning.proofs.ValueKinds.{known}
use Rattle.tree_events.specs.Outcomes.{At, silent}
use Rattle.tree_events.specs.Calls.{Calls}
use Rattle.tree_events.specs.Trees.{telling}
use Rattle.tree_events.proofs.ErasesTrees.{value_erased}
use Rattle.tree_events.proofs.GrowTrees.{value_grows}

module _ (n : Nameable) (t : Typed) (calls : Calls) (a : Activation) (at : At) (x : TypedExpr) (fits : IsTrue (expression_fits n x)) where
  plain : calling.Calls
  plain callee b words s = Ends BlockedEnd

  quiet : Calls
  quiet at callee b words s = silent (plain callee b words s)

  same_rest : (telling t calls a at x).rest ≡ (meant t plain a x).rest
  unfolding quiet
  same_rest = (value_grows 0 t a 0 0 calls quiet (λ at callee b words s e. absurd (omega (arith, e.0))) x at).rest ∙ (value_erased n t a quiet plain (λ at callee b words s. refl) x at fits).rest

  same_kind : (telling t calls a at x).kind ≡ (meant t plain a x).kind
  unfolding quiet
  same_kind = (value_grows 0 t a 0 0 calls quiet (λ at callee b words s e. absurd (omega (arith, e.0))) x at).kind ∙ (value_erased n t a quiet plain (λ at callee b words s. refl) x at fits).kind

  pub fit_kind : (expression_fit n x).kind ≡ (telling t calls a at x).kind
  fit_kind = sym (same_kind ∙ (known n t plain a x fits).kind)

  pub rest_values : (vs cells : List ℕ) (v : ℕ) → (telling t calls a at x).rest vs cells ≡ Ok v → IsValue (telling t calls a at x).kind v
  rest_values vs cells v e =
      let e' : (meant t plain a x).rest vs cells ≡ Ok v = (λ i. sym same_rest i vs cells) ∙ e in
      subst (λ k. IsValue k v) fit_kind ((known n t plain a x fits).values vs cells v e')
