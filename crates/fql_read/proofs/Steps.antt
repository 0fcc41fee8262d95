-- Steps of readers.
use Rattle.std.proofs.Common.{◌≡◌, ℕ, suc, ◌≤◌, Bool, true, false, cond, List, [], ◌∷◌, get_or, Option, Some, None, refl, sym, ap, ◌∙◌}
use Rattle.std.specs.Prelude.{IfSome, nat_le}
use Rattle.std.proofs.lemmas.Bool.{eqb-true, leb-true, leb-false}
use Rattle.fql_tokens.specs.declared.token.Mark.{Mark}
use Rattle.fql_tokens.specs.declared.token.Mark.TheVariants as marks
use Rattle.fql_tokens.specs.declared.token.Sign.{Sign}
use Rattle.fql_tokens.specs.declared.token.Sign.TheVariants as sign
use Rattle.fql_tokens.specs.declared.token.Token.{Token}
use Rattle.fql_read.specs.declared.operator.Operator.{Operator}
use Rattle.fql_read.specs.Tables.{level}
use Rattle.fql_read.specs.Spelled.{mark}
use Rattle.fql_read.specs.Reading.{◌>>=◌, by_operator, operator_at, code_of, is_mark, starts, tail, expect, one_at}

pub then_some : {A B : Type 0} (o : Option A) (f : A → Option B) {P : A → Type 0} (Q : B → Type 0) → IfSome o P → ((x : A) → P x → IfSome (f x) Q) → IfSome (o >>= f) Q
then_some None f Q h g = tt
then_some (Some x) f Q h g = g x h

pub either_some : {A : Type 0} (b : Bool) (x y : Option A) (P : A → Type 0) → (b ≡ true → IfSome x P) → (b ≡ false → IfSome y P) → IfSome (cond b x y) P
either_some true x y P f g = f refl
either_some false x y P f g = g refl

-- the mark of a number
mark_at : ℕ → Mark
mark_at n = get_or (marks.Start ∷ marks.End ∷ marks.Plus ∷ marks.Arrow ∷ marks.Dot ∷ marks.Star ∷ marks.Exactly ∷ marks.AtMost ∷ marks.AtLeast ∷ marks.Open ∷ marks.Close ∷ marks.Comma ∷ marks.Quote ∷ []) n marks.Plus

mark_at-code_of : (m : Mark) → mark_at (code_of m) ≡ m
unfolding mark_at
mark_at-code_of marks.Start = refl
mark_at-code_of marks.End = refl
mark_at-code_of marks.Plus = refl
mark_at-code_of marks.Arrow = refl
mark_at-code_of marks.Dot = refl
mark_at-code_of marks.Star = refl
mark_at-code_of marks.Exactly = refl
mark_at-code_of marks.AtMost = refl
mark_at-code_of marks.AtLeast = refl
mark_at-code_of marks.Open = refl
mark_at-code_of marks.Close = refl
mark_at-code_of marks.Comma = refl
mark_at-code_of marks.Quote = refl

same_mark : (x m : Mark) → code_of x ≡ code_of m → x ≡ m
same_mark x m e = sym (mark_at-code_of x) ∙ ap mark_at e ∙ mark_at-code_of m

-- a token that is this mark
is_mark-true : (m : Mark) (s : Sign) → is_mark m s ≡ true → s ≡ sign.Mark m
is_mark-true m (sign.Mark x) e = ap sign.Mark (same_mark x m (eqb-true _ _ e))
is_mark-true m _ e = absurd cc

pub starts-true : (m : Mark) (ts : List Token) → starts m ts ≡ true → (p : ℕ) × (ts ≡ mark m p ∷ tail ts)
starts-true m [] e = absurd cc
starts-true m (t ∷ ts) e = (t.column, ap (λ (s : Sign). (let u : Token = record { sign = s; column = t.column } in u) ∷ ts) (is_mark-true m t.sign e))

pub expect_takes : (m : Mark) (ts : List Token) → IfSome (expect m ts) (λ rest. (p : ℕ) × (ts ≡ mark m p ∷ rest))
expect_takes m ts = either_some (starts m ts) _ _ _ (λ e. starts-true m ts e) (λ e. tt)

-- what the first token holds
pub one_takes : {A : Type 0} (f : Sign → Option A) (ts : List Token) → IfSome (one_at f ts) (λ x. (t : Token) × (f t.sign ≡ Some x.0) × (ts ≡ t ∷ x.1))
one_takes f [] = tt
one_takes {A} f (t ∷ ts) = at (f t.sign) refl
  where
    at : (o : Option A) → f t.sign ≡ o → IfSome {T = A × List Token} (o >>= λ x. Some (x, ts)) (λ x. (u : Token) × (f u.sign ≡ Some x.0) × (t ∷ ts ≡ u ∷ x.1))
    at None e = tt
    at (Some x) e = (t, e, refl)

-- the operator in front, if there is one, is below level k
abbrev pub Stops : ℕ → List Token → Type 0
Stops k ts = (op : Operator) → operator_at ts ≡ Some op → suc (level op) ≤ k

pub by_operator_some : {A : Type 0} (k : ℕ) (o : Option Operator) (f : Operator → Option A) (d : Option A) (P : A → Type 0)
    → ((op : Operator) → o ≡ Some op → k ≤ level op → IfSome (f op) P) → (((op : Operator) → o ≡ Some op → suc (level op) ≤ k) → IfSome d P) → IfSome (by_operator k o f d) P
by_operator_some k None f d P goes stays = stays (λ op e. absurd cc)
by_operator_some k (Some op) f d P goes stays =
    either_some (nat_le k (level op)) (f op) d P (λ e. goes op refl (leb-true k (level op) e))
    (λ e. stays (λ o h. let same : op ≡ o = cc in let below : suc (level op) ≤ k = leb-false k (level op) e in rw (← same) below))

-- a token in front that is an operator
pub operator_first : (op : Operator) (ts : List Token) → operator_at ts ≡ Some op → (t : Token) × (ts ≡ t ∷ tail ts)
operator_first op [] e = absurd cc
operator_first op (t ∷ ts) e = (t, refl)
