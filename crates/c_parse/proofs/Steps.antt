-- Steps of readers.
use Rattle.std.proofs.Common.{◌≡◌, ℕ, suc, ◌≤◌, Bool, true, false, cond, List, [], ◌∷◌, get_or, Option, Some, None, refl, sym, ap, ◌∙◌, arith}
use Rattle.std.specs.Prelude.{IfSome, nat_le}
use Rattle.std.proofs.lemmas.Bool.{eqb-true, leb-true, leb-false}
use Rattle.c_parse.specs.declared.sign.Terminal.{Terminal}
use Rattle.c_parse.specs.declared.sign.Sign.{Sign}
use Rattle.c_parse.specs.declared.sign.Sign.TheVariants as sign
use Rattle.c_parse.specs.declared.sign.Symbol.{Symbol}
use Rattle.c_parse.specs.declared.sign.Symbol.TheVariants as symbols
use Rattle.c_parse.specs.declared.operator.Infix.{Infix}
use Rattle.c_parse.specs.declared.operator.Infix.TheVariants as infixes
use Rattle.fq_core.specs.declared.span.Span.{Span}
use Rattle.c_parse.specs.declared.operator.Prefix.{Prefix}
use Rattle.c_parse.specs.declared.operator.Prefix.TheVariants as prefixes
use Rattle.c_values.specs.declared.operators.UnaryOp.TheVariants as unaries
use Rattle.c_values.specs.declared.operators.BinaryOp.TheVariants as ops
use Rattle.c_parse.specs.Trees.{level, infix_symbol, prefix_symbol}
use Rattle.c_parse.specs.Grammar.{symbol}
use Rattle.c_parse.specs.Reading.{◌>>=◌, by_operator, infix_at, infix_of, infix_of_sign, prefix_of, code_of, is_symbol, starts, tail, expect}

pub then_some : {A B : Type 0} (o : Option A) (f : A → Option B) {P : A → Type 0} (Q : B → Type 0) → IfSome o P → ((x : A) → P x → IfSome (f x) Q) → IfSome (o >>= f) Q
then_some None f Q h g = tt
then_some (Some x) f Q h g = g x h

pub either_some : {A : Type 0} (b : Bool) (x y : Option A) (P : A → Type 0) → (b ≡ true → IfSome x P) → (b ≡ false → IfSome y P) → IfSome (cond b x y) P
either_some true x y P f g = f refl
either_some false x y P f g = g refl

-- the symbol of a number
symbol_at : ℕ → Symbol
symbol_at n = get_or (symbols.Open ∷ symbols.Close ∷ symbols.OpenIndex ∷ symbols.CloseIndex ∷ symbols.OpenBrace ∷ symbols.CloseBrace ∷ symbols.Semicolon ∷ symbols.Comma ∷ symbols.Question ∷ symbols.Colon ∷ symbols.Plus ∷ symbols.Minus ∷ symbols.Star ∷ symbols.Slash ∷ symbols.Percent ∷ symbols.Tilde ∷ symbols.Not ∷ symbols.And ∷ symbols.Caret ∷ symbols.Or ∷ symbols.Less ∷ symbols.Greater ∷ symbols.LessEqual ∷ symbols.GreaterEqual ∷ symbols.Equal ∷ symbols.NotEqual ∷ symbols.Shl ∷ symbols.Shr ∷ symbols.AndAnd ∷ symbols.OrOr ∷ symbols.Assign ∷ symbols.AddAssign ∷ symbols.SubAssign ∷ symbols.MulAssign ∷ symbols.DivAssign ∷ symbols.RemAssign ∷ symbols.ShlAssign ∷ symbols.ShrAssign ∷ symbols.AndAssign ∷ symbols.XorAssign ∷ symbols.OrAssign ∷ symbols.Increment ∷ symbols.Decrement ∷ symbols.Static ∷ symbols.Extern ∷ symbols.Inline ∷ symbols.Const ∷ symbols.Enum ∷ symbols.Void ∷ symbols.If ∷ symbols.Else ∷ symbols.While ∷ symbols.Do ∷ symbols.For ∷ symbols.Switch ∷ symbols.Case ∷ symbols.Default ∷ symbols.Break ∷ symbols.Continue ∷ symbols.Return ∷ symbols.Assert ∷ symbols.Assume ∷ []) n symbols.Plus

symbol_at-code_of : (m : Symbol) → symbol_at (code_of m) ≡ m
unfolding symbol_at
symbol_at-code_of symbols.Open = refl
symbol_at-code_of symbols.Close = refl
symbol_at-code_of symbols.OpenIndex = refl
symbol_at-code_of symbols.CloseIndex = refl
symbol_at-code_of symbols.OpenBrace = refl
symbol_at-code_of symbols.CloseBrace = refl
symbol_at-code_of symbols.Semicolon = refl
symbol_at-code_of symbols.Comma = refl
symbol_at-code_of symbols.Question = refl
symbol_at-code_of symbols.Colon = refl
symbol_at-code_of symbols.Plus = refl
symbol_at-code_of symbols.Minus = refl
symbol_at-code_of symbols.Star = refl
symbol_at-code_of symbols.Slash = refl
symbol_at-code_of symbols.Percent = refl
symbol_at-code_of symbols.Tilde = refl
symbol_at-code_of symbols.Not = refl
symbol_at-code_of symbols.And = refl
symbol_at-code_of symbols.Caret = refl
symbol_at-code_of symbols.Or = refl
symbol_at-code_of symbols.Less = refl
symbol_at-code_of symbols.Greater = refl
symbol_at-code_of symbols.LessEqual = refl
symbol_at-code_of symbols.GreaterEqual = refl
symbol_at-code_of symbols.Equal = refl
symbol_at-code_of symbols.NotEqual = refl
symbol_at-code_of symbols.Shl = refl
symbol_at-code_of symbols.Shr = refl
symbol_at-code_of symbols.AndAnd = refl
symbol_at-code_of symbols.OrOr = refl
symbol_at-code_of symbols.Assign = refl
symbol_at-code_of symbols.AddAssign = refl
symbol_at-code_of symbols.SubAssign = refl
symbol_at-code_of symbols.MulAssign = refl
symbol_at-code_of symbols.DivAssign = refl
symbol_at-code_of symbols.RemAssign = refl
symbol_at-code_of symbols.ShlAssign = refl
symbol_at-code_of symbols.ShrAssign = refl
symbol_at-code_of symbols.AndAssign = refl
symbol_at-code_of symbols.XorAssign = refl
symbol_at-code_of symbols.OrAssign = refl
symbol_at-code_of symbols.Increment = refl
symbol_at-code_of symbols.Decrement = refl
symbol_at-code_of symbols.Static = refl
symbol_at-code_of symbols.Extern = refl
symbol_at-code_of symbols.Inline = refl
symbol_at-code_of symbols.Const = refl
symbol_at-code_of symbols.Enum = refl
symbol_at-code_of symbols.Void = refl
symbol_at-code_of symbols.If = refl
symbol_at-code_of symbols.Else = refl
symbol_at-code_of symbols.While = refl
symbol_at-code_of symbols.Do = refl
symbol_at-code_of symbols.For = refl
symbol_at-code_of symbols.Switch = refl
symbol_at-code_of symbols.Case = refl
symbol_at-code_of symbols.Default = refl
symbol_at-code_of symbols.Break = refl
symbol_at-code_of symbols.Continue = refl
symbol_at-code_of symbols.Return = refl
symbol_at-code_of symbols.Assert = refl
symbol_at-code_of symbols.Assume = refl

pub same_symbol : (x m : Symbol) → code_of x ≡ code_of m → x ≡ m
same_symbol x m e = sym (symbol_at-code_of x) ∙ ap symbol_at e ∙ symbol_at-code_of m

-- a token that is this symbol
pub is_symbol-true : (m : Symbol) (s : Sign) → is_symbol m s ≡ true → s ≡ sign.Symbol m
is_symbol-true m (sign.Symbol x) e = ap sign.Symbol (same_symbol x m (eqb-true _ _ e))
is_symbol-true m _ e = absurd cc

pub starts-true : (m : Symbol) (ts : List Terminal) → starts m ts ≡ true → (p : Span) × (ts ≡ symbol m p ∷ tail ts)
starts-true m [] e = absurd cc
starts-true m (t ∷ ts) e = (t.span, ap (λ (s : Sign). (let u : Terminal = record { sign = s; span = t.span } in u) ∷ ts) (is_symbol-true m t.sign e))

-- that no token of a symbol comes first
pub starts-false : (m : Symbol) (ts : List Terminal) → ((p : Span) (rest : List Terminal) → ts ≡ symbol m p ∷ rest → ⊥) → starts m ts ≡ false
starts-false m ts absent = at (starts m ts) refl
  where
    at : (b : Bool) → starts m ts ≡ b → starts m ts ≡ false
    at false e = e
    at true e = let h = starts-true m ts e in absurd (absent h.0 (tail ts) h.1)

pub expect_takes : (m : Symbol) (ts : List Terminal) → IfSome (expect m ts) (λ rest. (p : Span) × (ts ≡ symbol m p ∷ rest))
expect_takes m ts = either_some (starts m ts) _ _ _ (λ e. starts-true m ts e) (λ e. tt)

-- the operator in front, if there is one, is below level k
abbrev pub Stops : ℕ → List Terminal → Type 0
Stops k ts = (op : Infix) → infix_at ts ≡ Some op → suc (level op) ≤ k

pub by_operator_some : {A : Type 0} (k : ℕ) (o : Option Infix) (f : Infix → Option A) (d : Option A) (P : A → Type 0)
    → ((op : Infix) → o ≡ Some op → k ≤ level op → IfSome (f op) P) → (((op : Infix) → o ≡ Some op → suc (level op) ≤ k) → IfSome d P) → IfSome (by_operator k o f d) P
by_operator_some k None f d P goes stays = stays (λ op e. absurd cc)
by_operator_some k (Some op) f d P goes stays =
    either_some (nat_le k (level op)) (f op) d P (λ e. goes op refl (leb-true k (level op) e))
    (λ e. stays (λ o h. let same : op ≡ o = cc in let below : suc (level op) ≤ k = leb-false k (level op) e in rw (← same) below))

infix_of-some : (m : Symbol) (op : Infix) → infix_of m ≡ Some op → m ≡ infix_symbol op
infix_of-some symbols.Plus op e = let same : infixes.Binary ops.Add ≡ op = cc in ap infix_symbol same
infix_of-some symbols.Minus op e = let same : infixes.Binary ops.Sub ≡ op = cc in ap infix_symbol same
infix_of-some symbols.Star op e = let same : infixes.Binary ops.Mul ≡ op = cc in ap infix_symbol same
infix_of-some symbols.Slash op e = let same : infixes.Binary ops.Div ≡ op = cc in ap infix_symbol same
infix_of-some symbols.Percent op e = let same : infixes.Binary ops.Rem ≡ op = cc in ap infix_symbol same
infix_of-some symbols.Shl op e = let same : infixes.Binary ops.Shl ≡ op = cc in ap infix_symbol same
infix_of-some symbols.Shr op e = let same : infixes.Binary ops.Shr ≡ op = cc in ap infix_symbol same
infix_of-some symbols.And op e = let same : infixes.Binary ops.And ≡ op = cc in ap infix_symbol same
infix_of-some symbols.Or op e = let same : infixes.Binary ops.Or ≡ op = cc in ap infix_symbol same
infix_of-some symbols.Caret op e = let same : infixes.Binary ops.Xor ≡ op = cc in ap infix_symbol same
infix_of-some symbols.Less op e = let same : infixes.Binary ops.Less ≡ op = cc in ap infix_symbol same
infix_of-some symbols.LessEqual op e = let same : infixes.Binary ops.LessEqual ≡ op = cc in ap infix_symbol same
infix_of-some symbols.Greater op e = let same : infixes.Binary ops.Greater ≡ op = cc in ap infix_symbol same
infix_of-some symbols.GreaterEqual op e = let same : infixes.Binary ops.GreaterEqual ≡ op = cc in ap infix_symbol same
infix_of-some symbols.Equal op e = let same : infixes.Binary ops.Equal ≡ op = cc in ap infix_symbol same
infix_of-some symbols.NotEqual op e = let same : infixes.Binary ops.NotEqual ≡ op = cc in ap infix_symbol same
infix_of-some symbols.AndAnd op e = let same : infixes.Both ≡ op = cc in ap infix_symbol same
infix_of-some symbols.OrOr op e = let same : infixes.Either ≡ op = cc in ap infix_symbol same
infix_of-some _ op e = absurd cc

infix_of_sign-some : (s : Sign) (op : Infix) → infix_of_sign s ≡ Some op → s ≡ sign.Symbol (infix_symbol op)
infix_of_sign-some (sign.Symbol m) op e = ap sign.Symbol (infix_of-some m op e)
infix_of_sign-some _ op e = absurd cc

pub infix_at-some : (op : Infix) (ts : List Terminal) → infix_at ts ≡ Some op → (p : Span) × (ts ≡ symbol (infix_symbol op) p ∷ tail ts)
infix_at-some op [] e = absurd cc
infix_at-some op (t ∷ ts) e = (t.span, ap (λ (s : Sign). (let u : Terminal = record { sign = s; span = t.span } in u) ∷ ts) (infix_of_sign-some t.sign op e))

pub level_pos : (op : Infix) → 1 ≤ level op
level_pos (infixes.Binary ops.Add) = omega arith
level_pos (infixes.Binary ops.Sub) = omega arith
level_pos (infixes.Binary ops.Mul) = omega arith
level_pos (infixes.Binary ops.Div) = omega arith
level_pos (infixes.Binary ops.Rem) = omega arith
level_pos (infixes.Binary ops.Shl) = omega arith
level_pos (infixes.Binary ops.Shr) = omega arith
level_pos (infixes.Binary ops.And) = omega arith
level_pos (infixes.Binary ops.Or) = omega arith
level_pos (infixes.Binary ops.Xor) = omega arith
level_pos (infixes.Binary ops.Less) = omega arith
level_pos (infixes.Binary ops.LessEqual) = omega arith
level_pos (infixes.Binary ops.Greater) = omega arith
level_pos (infixes.Binary ops.GreaterEqual) = omega arith
level_pos (infixes.Binary ops.Equal) = omega arith
level_pos (infixes.Binary ops.NotEqual) = omega arith
level_pos (infixes.Both) = omega arith
level_pos (infixes.Either) = omega arith

pub prefix_of-some : (m : Symbol) (op : Prefix) → prefix_of m ≡ Some op → m ≡ prefix_symbol op
prefix_of-some symbols.Plus op e = let same : prefixes.Plus ≡ op = cc in ap prefix_symbol same
prefix_of-some symbols.Minus op e = let same : prefixes.Unary unaries.Neg ≡ op = cc in ap prefix_symbol same
prefix_of-some symbols.Tilde op e = let same : prefixes.Unary unaries.Complement ≡ op = cc in ap prefix_symbol same
prefix_of-some symbols.Not op e = let same : prefixes.Unary unaries.Not ≡ op = cc in ap prefix_symbol same
prefix_of-some _ op e = absurd cc
