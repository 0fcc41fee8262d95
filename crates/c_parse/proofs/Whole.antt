-- All the tokens.
use Rattle.std.proofs.Common.{◌≡◌, suc, List, [], ◌∷◌, ◌++◌, length, Option, Some, Result, Ok, Err, refl, sym, ap, subst, ◌∙◌, arith}
use Rattle.std.specs.Prelude.{IfOk, IfSome, IsErrOf}
use Rattle.std.proofs.lemmas.List.{append-nil}
use Rattle.std.proofs.lemmas.Option.{same_Some}
use Rattle.c_parse.specs.declared.sign.Terminal.{Terminal}
use Rattle.c_parse.specs.declared.stop.Stop.{Stop}
use Rattle.c_parse.specs.declared.stop.Stop.TheVariants.{Memory, Syntax}
use Rattle.c_parse.specs.Gives.{Gives}
use Rattle.c_parse.specs.declared.expr.ExprTree.{ExprTree}
use Rattle.c_parse.specs.Grammar.{DerivesChoice}
use Rattle.c_parse.specs.Reading.{at_end, expr_at, expr_in, whole_at}
use Rattle.c_parse.proofs.Steps.{then_some}
use Rattle.c_parse.proofs.Takes.{expr_in_takes}
use Rattle.c_parse.proofs.Again.{Stays, choice_again}

pub at_end-some : {A : Type 0} (x : A) (rest : List Terminal) (P : A → Type 0) → (rest ≡ [] → P x) → IfSome (at_end (x, rest)) P
at_end-some x [] P f = f refl
at_end-some x (t ∷ ts) P f = tt

nothing_stays : Stays []
nothing_stays = record { ends = record { no_index = refl; no_call = refl }; no_operator = λ op e. absurd cc; no_question = refl }

pub whole_takes : (ts : List Terminal) → IfSome (whole_at ts) (λ t. DerivesChoice t ts)
unfolding whole_at
whole_takes ts =
    then_some (expr_in 0 ts) _ _ (expr_in_takes 0 ts) (λ x d.
    at_end-some x.0 x.1 _ (λ e. subst (λ us. DerivesChoice x.0 us) (sym (d.0.parts ∙ ap (λ rest. d.0.front ++ rest) e ∙ append-nil d.0.front)) d.0.fact))

pub whole_again : (t : ExprTree) (ts : List Terminal) → DerivesChoice t ts → whole_at ts ≡ Some t
unfolding whole_at expr_in
whole_again t ts d =
    let e : expr_at (suc (length ts)) 0 ts ≡ Some (t, []) = ap (expr_at (suc (length ts)) 0) (sym (append-nil ts)) ∙ choice_again d (suc (length ts)) [] (omega arith) nothing_stays in
    rw e refl

pub one_expression : (ts : List Terminal) (t u : ExprTree) → DerivesChoice t ts → DerivesChoice u ts → t ≡ u
one_expression ts t u d e = same_Some t u (sym (whole_again t ts d) ∙ whole_again u ts e)

-- ---- what a function says whose result is what is read

pub found : {X Y : Type 0} (view : X → Y) (r : Result X Stop) (read : Option Y) → Gives view r read → (P : Y → Type 0) → IfSome read P → IfOk r (λ x. P (view x))
found view (Ok x) read given P h = rw given at h
found view (Err e) read given P h = tt

pub only : {X Y : Type 0} (view : X → Y) (r : Result X Stop) (read : Option Y) → Gives view r read → (y : Y) → read ≡ Some y → Gives view r (Some y)
only view r read given y e = subst (λ o. Gives view r o) e given

pub none : {X Y : Type 0} (view : X → Y) (r : Result X Stop) (read : Option Y) → Gives view r read → (y : Y) → read ≡ Some y → IsErrOf r Syntax → ⊥
none view (Ok x) read given y e failed = absurd cc
none view (Err Memory) read given y e failed = absurd cc
none view (Err Syntax) read given y e failed = absurd cc
