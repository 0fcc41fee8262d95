-- When an absent predicate says what the predicate of the negation says.
use Rattle.std.proofs.Common.{rules, ◌≡◌, ℕ, ◌<◌, ◌^◌, ◌==◌, Bool, true, false, not, List, Option, Some, None, Result, Ok, Err, refl, sym, ◌∙◌, ap, subst, true≢false, eq-eqb, eqb-true, lit<}
use Rattle.std.specs.Prelude.{slice_get, IsTrue}
use Rattle.c_values.specs.Kind.{number_of, pattern_of}
use Rattle.c_values.specs.Operations.{is_equal, truth_of}
use Rattle.c_values.specs.declared.kinds.Kind.{Kind}
use Rattle.c_values.specs.declared.operators.UnaryOp.TheVariants.{Not}
use Rattle.c_values.proofs.Fitting.{pattern_of-number_of}
use Rattle.c_values.proofs.Machine.{is_equal-tells}
use Rattle.cfa.specs.States.{running_frame, value_in}
use Rattle.cfa.specs.Values.{after_value, valued}
use Rattle.cfa.specs.declared.expr.Expr.{Expr, the_lemmas}
use Rattle.cfa.specs.declared.expr.Expr.TheVariants.{Unary}
use Rattle.cfa.specs.declared.state.Frame.{Frame}
use Rattle.cfa.specs.declared.state.State.{State}
use Rattle.cfa.specs.declared.state.Trap.{Trap}
use Rattle.path_runner.specs.Masks.{expr_holds, holds, is_nonzero}

-- of 64 bits, only 0 equals 0
equal_zero : (kind : Kind) (v : ℕ) → v < 2 ^ 64 → is_equal kind v 0 ≡ (v == 0)
equal_zero kind v small = at (is_equal kind v 0) (v == 0) refl refl
  where
    at : (a b : Bool) → is_equal kind v 0 ≡ a → (v == 0) ≡ b → a ≡ b
    at true true e f = refl
    at false false e f = refl
    at true false e f =
        let same : number_of kind v ≡ number_of kind 0 = (is_equal-tells kind v 0).0 e in
        let zero_is : v ≡ 0 = sym (pattern_of-number_of kind v small) ∙ ap pattern_of same ∙ pattern_of-number_of kind 0 (lit< tt) in
        absurd (true≢false (sym (eq-eqb v 0 zero_is) ∙ f))
    at false true e f =
        let zero_is : v ≡ 0 = eqb-true v 0 f in
        absurd (true≢false (sym ((is_equal-tells kind v 0).1 (ap (number_of kind) zero_is)) ∙ e))

truth_nonzero : (b : Bool) → not (truth_of b == 0) ≡ b
truth_nonzero true = refl
truth_nonzero false = refl

not_not : (b : Bool) → not (not b) ≡ b
not_not true = refl
not_not false = refl

value_not : (cells : List ℕ) (frame : Frame) (e : Expr) (kind : Kind) → (valued cells frame (Unary Not e kind)).value ≡ after_value (valued cells frame e).value (λ a. Ok (truth_of (is_equal kind a 0)))
unfolding valued
value_not cells frame e kind = search (rules, the_lemmas)

-- the negation holds where the value is 0
negated_holds : (kind : Kind) (o : Result ℕ Trap) (v : ℕ) → o ≡ Ok v → v < 2 ^ 64 → not (is_nonzero o) ≡ is_nonzero (after_value o (λ a. Ok (truth_of (is_equal kind a 0))))
negated_holds kind (Err t) v e small = absurd cc
negated_holds kind (Ok w) v e small =
    let same : w ≡ v = cc in
    not_not (w == 0) ∙ sym (truth_nonzero (is_equal kind w 0) ∙ equal_zero kind w (subst (λ x. x < 2 ^ 64) (sym same) small))

pub absent_negation : (s : State) (scope : ℕ) (row negated : List (Option Expr)) (e : Expr) (kind : Kind) (value : ℕ)
    → slice_get row scope ≡ Some (Some e) → slice_get negated scope ≡ Some (Some (Unary Not e kind)) → value_in s e ≡ Ok value → value < 2 ^ 64
    → not (holds scope s row) ≡ holds scope s negated
absent_negation s scope row negated e kind value own other is small =
    ap (λ o. not (expr_holds s o)) own
    ∙ negated_holds kind (value_in s e) value is small
    ∙ ap is_nonzero (sym (value_not s.cells (running_frame s) e kind))
    ∙ ap (expr_holds s) (sym other)

pub absent_out : (s : State) (scope : ℕ) (row : List (Option Expr)) → ((e : Expr) (value : ℕ) → slice_get row scope ≡ Some (Some e) → value_in s e ≡ Ok value → ⊥) → holds scope s row ≡ false
absent_out s scope row out = at (slice_get row scope) refl
  where
    with_value : (e : Expr) (o : Result ℕ Trap) → slice_get row scope ≡ Some (Some e) → value_in s e ≡ o → is_nonzero o ≡ false
    with_value e (Ok v) h g = absurd (out e v h g)
    with_value e (Err t) h g = refl

    at : (o : Option (Option Expr)) → slice_get row scope ≡ o → expr_holds s o ≡ false
    at None h = refl
    at (Some None) h = refl
    at (Some (Some e)) h = with_value e (value_in s e) h refl
