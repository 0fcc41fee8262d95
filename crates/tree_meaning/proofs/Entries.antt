-- The function in which a run begins.
use Rattle.std.proofs.Common.{◌≡◌, ℕ, ◌+◌, List, [], ◌∷◌, length, get_or, Option, Some, None, refl, subst}
use Rattle.std.specs.Prelude.{IsTrue, ◌&&◌, IfSome, slice_get, nat_le}
use Rattle.std.specs.List.{list_all}
use Rattle.std.proofs.lemmas.Option.{get_or_from_slice_get, slice_get_within}
use Rattle.c_values.specs.Kind.{IsKind, is_kind}
use Rattle.c_values.specs.declared.kinds.Kind.{Kind}
use Rattle.c_values.proofs.Fitting.{and_left, and_right, and_both}
use Rattle.cfa.specs.Graph.{variable_fits, result_kind_fits}
use Rattle.cfa.specs.declared.parts.Variable.{Variable}
use Rattle.c_typed_trees.specs.Fitting.{Nameable, function_fits, is_variable, nameable, span_fits, statement_fits, word_kinds}
use Rattle.c_typed_trees.specs.declared.unit.Typed.{Typed}
use Rattle.c_typed_trees.specs.declared.unit.TypedFunction.{TypedFunction}
use Rattle.tree_meaning.specs.Running.{FitStatements, FitUnit}
use Rattle.tree_meaning.proofs.StatementFits.{body_fit, one_fits}

are_kinds : (n : Nameable) (vs : List Variable) → IsTrue (list_all (is_variable n) vs) → IsTrue (list_all (λ (v : Variable). is_kind v.kind) vs)
are_kinds n [] h = refl
are_kinds n (v ∷ vs) h =
    and_both (is_kind v.kind) (list_all (λ (w : Variable). is_kind w.kind) vs) (and_left (is_kind v.kind) (variable_fits n.room v.length v.place) (and_left (is_variable n v) (list_all (is_variable n) vs) h))
    (are_kinds n vs (and_right (is_variable n v) (list_all (is_variable n) vs) h))

is_result : (o : Option Kind) → IsTrue (result_kind_fits o) → IfSome o (λ k. IsKind k)
is_result None h = tt
is_result (Some k) h = h

module _ (t : Typed) (i : ℕ) (g : TypedFunction) (e : slice_get t.functions i ≡ Some g) (f : FitUnit t) where
  abbrev names : Nameable
  names = nameable t f.files g

  all_fits : IsTrue (function_fits t f.files g)
  all_fits =
      let lt = slice_get_within t.functions i g e in
      let is : get_or t.functions i g ≡ g = get_or_from_slice_get t.functions i g g e in
      subst (λ (g' : TypedFunction). IsTrue (function_fits t f.files g')) is (one_fits (function_fits t f.files) t.functions i g lt f.fits.functions)

  -- what comes before the frame and the body
  head_fits : IsTrue (span_fits names g.span && span_fits names g.close && result_kind_fits g.result && list_all (is_variable names) g.parameters)
  head_fits =
      and_left _ (nat_le (length (word_kinds g) + 1) g.cells) (and_left _ (nat_le g.cells 16384) (and_left _ (list_all (statement_fits names) g.body) all_fits))

  pub entry_kinds : IsTrue (list_all (λ (v : Variable). is_kind v.kind) g.parameters)
  entry_kinds = are_kinds names g.parameters (and_right (span_fits names g.span && span_fits names g.close && result_kind_fits g.result) (list_all (is_variable names) g.parameters) head_fits)

  pub entry_result : IfSome g.result (λ k. IsKind k)
  entry_result =
      is_result g.result (and_right (span_fits names g.span && span_fits names g.close) (result_kind_fits g.result) (and_left (span_fits names g.span && span_fits names g.close && result_kind_fits g.result) (list_all (is_variable names) g.parameters) head_fits))

  pub entry_body : FitStatements g.body
  entry_body = body_fit t i g e f
