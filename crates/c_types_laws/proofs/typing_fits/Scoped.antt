-- What one expression is in a scope meets the rules of the automaton.
use Rattle.std.proofs.Common.{◌≡◌, ℕ, Bool, true, false, List, [], ◌∷◌, Option, Some, None, refl, sym, subst, arith}
use Rattle.std.specs.Prelude.{IsTrue, ◌&&◌, cond}
use Rattle.std.specs.Option.{is_some}
use Rattle.std.specs.List.{list_all}
use Rattle.c_values.specs.Kind.{is_kind}
use Rattle.c_values.proofs.Fitting.{and_left, and_right, and_both}
use Rattle.c_parse.specs.declared.expr.ExprTree.{ExprTree}
use Rattle.c_parse.specs.SequencePoints.{has_sequence_point}
use Rattle.cfa.specs.declared.expr.Expr.{Expr}
use Rattle.cfa.specs.declared.parts.Scope.{Scope}
use Rattle.cfa.specs.declared.parts.Variable.{Variable}
use Rattle.cfa.specs.Graph.{variable_fits, global_fits, scope_fits, scope_fits_in}
use Rattle.cfa.specs.Rules.{Room, expr_fits}
use Rattle.c_typed_trees.specs.Fitting.{Nameable, is_variable}
use Rattle.c_type_rules.specs.declared.faults.Found.{Found}
use Rattle.c_type_rules.specs.declared.typer.Sort.{Sort}
use Rattle.c_type_rules.specs.declared.typer.Sort.TheVariants as sorts
use Rattle.c_type_rules.specs.Expressions.{typing}
use Rattle.c_type_rules.specs.Rule.{Done}
use Rattle.c_types.specs.Declarations.{bound_as}
use Rattle.c_types.specs.Scoped.{names_in, at_scope, sort_expr, faultless_expr, done_expr, expression_in}
use Rattle.c_types_laws.proofs.typing_fits.Sound.{NamesFit, names_append}
use Rattle.c_types_laws.proofs.typing_fits.Expressions.{TreePasses, SortFits, tree_sound}
use Rattle.c_types_laws.proofs.typing_fits.Untimed.{tree_untimed}

module _ (n : Nameable) where
  variable_in : (v : Variable) → IsTrue (is_kind v.kind && global_fits n.room.globals v.length v.place) → IsTrue (variable_fits n.room v.length v.place) → IsTrue (is_variable n v)
  variable_in v h k = and_both (is_kind v.kind) (variable_fits n.room v.length v.place) (and_left (is_kind v.kind) (global_fits n.room.globals v.length v.place) h) k

  names_fit : (vs : List Variable) → IsTrue (list_all (λ (v : Variable). is_kind v.kind && global_fits n.room.globals v.length v.place) vs) → IsTrue (list_all (λ (v : Variable). variable_fits n.room v.length v.place) vs) → NamesFit n (names_in vs)
  unfolding names_in
  names_fit [] h k = tt
  names_fit (v ∷ vs) h k =
      let first = is_kind v.kind && global_fits n.room.globals v.length v.place in
      let more = list_all (λ (w : Variable). is_kind w.kind && global_fits n.room.globals w.length w.place) vs in
      let rest = list_all (λ (w : Variable). variable_fits n.room w.length w.place) vs in
      names_append n (names_in vs) (bound_as 0 v ∷ []) (names_fit vs (and_right first more h) (and_right (variable_fits n.room v.length v.place) rest k))
      (variable_in v (and_left first more h) (and_left (variable_fits n.room v.length v.place) rest k), tt)

-- a sort that is an expression
sort_meets : (n : Nameable) (sort : Sort) (e : Expr) → SortFits n sort → sort_expr sort ≡ Some e → IsTrue (expr_fits n.room e)
sort_meets n (sorts.Value x) e h k =
    let same : _ ≡ e = some_same _ e k in
    subst (λ y. IsTrue (expr_fits n.room y)) same (subst (λ (o : Option _). IsTrue (is_some o)) (sym h.meets) refl)
  where
    some_same : (a b : Expr) → Some a ≡ Some b → a ≡ b
    some_same a b q = cc
sort_meets n (sorts.Array v) e h k = absurd (cc)
sort_meets n sorts.Other e h k = absurd (cc)

done_meets : (n : Nameable) (d : Done Sort) (e : Expr) → (d.faults ≡ [] → SortFits n d.made) → (fs : List Found) → d.faults ≡ fs → faultless_expr fs d.made ≡ Some e → IsTrue (expr_fits n.room e)
done_meets n d e h [] same k = sort_meets n d.made e (h same) k
done_meets n d e h (f ∷ fs) same k = absurd (cc)

no_points : (t : Bool) (o : Option Expr) (e : Expr) → cond t None o ≡ Some e → t ≡ false
no_points true o e h = absurd (cc)
no_points false o e h = refl

pub scoped_meets : (s : Scope) (t : ExprTree) (e : Expr) (room : Room) (files : ℕ) → TreePasses files t → IsTrue (scope_fits room.globals s) → IsTrue (scope_fits_in room s) → expression_in s t ≡ Some e → IsTrue (expr_fits room e)
unfolding expression_in
scoped_meets s t e room files p h k is =
    let n : Nameable = record { files = files; functions = []; inputs = []; room = room } in
    let at = at_scope s in
    let d = typing t at in
    let plain = no_points (has_sequence_point t) (done_expr d) e is in
    let none = (tree_untimed t plain).temporaries at in
    let given : done_expr d ≡ Some e = subst (λ b. cond b None (done_expr d) ≡ Some e) plain is in
    done_meets n d e (λ faultless. ((tree_sound n d.locals t p).run at (names_fit n s.variables h k) faultless (omega arith) (omega arith)).made) d.faults refl given
