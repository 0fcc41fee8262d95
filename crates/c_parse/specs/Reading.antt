-- Reading expressions from left to right. It is what the parser's functions give, and
-- proofs/ has that what is read is spelled by its tokens, and that what its tokens spell is read.
-- Only proofs rest on this: no public contract speaks of it.
use Rattle.std.specs.Prelude.{ℕ, zero, suc, Bool, true, false, nat_le, if◌then◌else◌, List, [], ◌∷◌, length, Option, Some, None}
use Rattle.fq_core.specs.declared.span.Span.{Span}
use Rattle.c_values.specs.declared.kinds.Kind.{Kind}
use Rattle.c_values.specs.declared.operators.UnaryOp.TheVariants as unaries
use Rattle.c_values.specs.declared.operators.BinaryOp.TheVariants as ops
use Rattle.c_parse.specs.declared.sign.Symbol.{Symbol}
use Rattle.c_parse.specs.declared.sign.Symbol.TheVariants as symbols
use Rattle.c_parse.specs.declared.sign.TypeWord.{TypeWord}
use Rattle.c_parse.specs.declared.sign.Sign.{Sign}
use Rattle.c_parse.specs.declared.sign.Sign.TheVariants as sign
use Rattle.c_parse.specs.declared.sign.Terminal.{Terminal}
use Rattle.c_parse.specs.declared.expr.ExprTree.{ExprTree}
use Rattle.c_parse.specs.declared.expr.ExprForm.TheVariants as form
use Rattle.c_parse.specs.declared.operator.Prefix.{Prefix}
use Rattle.c_parse.specs.declared.operator.Prefix.TheVariants as prefixes
use Rattle.c_parse.specs.declared.operator.Infix.{Infix}
use Rattle.c_parse.specs.declared.operator.Infix.TheVariants as infixes
use Rattle.c_parse.specs.Types.{kind_of}
use Rattle.c_parse.specs.Trees.{tree, prefixed, joined, level}
use Rattle.c_parse.specs.Grammar.{Text, first_span}
pub use Rattle.c_parse.specs.Symbols.{code_of, is_symbol, starts}

infixl 10 ◌>>=◌
abbrev pub ◌>>=◌ : {A B : Type 0} → Option A → (A → Option B) → Option B
None >>= f = None
(Some x) >>= f = f x

-- a value, and the tokens after it
abbrev pub Read : Type 0 → Type 0
Read A = Option (A × List Terminal)

abbrev pub tail : List Terminal → List Terminal
tail [] = []
tail (t ∷ ts) = ts

-- what follows this symbol
abbrev pub expect : Symbol → List Terminal → Option (List Terminal)
expect m ts = if starts m ts then Some (tail ts) else None

-- the first token is a word of a type
abbrev pub is_type : Sign → Bool
is_type (sign.Type w) = true
is_type _ = false

abbrev pub starts_type : List Terminal → Bool
starts_type [] = false
starts_type (t ∷ ts) = is_type t.sign

-- the words of types in front, and what follows them
abbrev pub with_word : Sign → List TypeWord → List TypeWord
with_word (sign.Type w) ws = w ∷ ws
with_word _ ws = []

abbrev pub word_of : Sign → Option TypeWord
word_of (sign.Type w) = Some w
word_of _ = None

abbrev pub word_at : List Terminal → Option TypeWord
word_at [] = None
word_at (t ∷ ts) = word_of t.sign

abbrev pub words_of : List Terminal → List TypeWord
words_of [] = []
words_of (t ∷ ts) = with_word t.sign (words_of ts)

abbrev pub past_words : List Terminal → List Terminal
past_words [] = []
past_words (t ∷ ts) = if is_type t.sign then past_words ts else t ∷ ts

unfoldable pub type_at : List Terminal → Read Kind
type_at ts = kind_of (words_of ts) >>= λ kind. Some (kind, past_words ts)

-- the operator that a symbol is
abbrev pub infix_of : Symbol → Option Infix
infix_of symbols.Plus = Some (infixes.Binary ops.Add)
infix_of symbols.Minus = Some (infixes.Binary ops.Sub)
infix_of symbols.Star = Some (infixes.Binary ops.Mul)
infix_of symbols.Slash = Some (infixes.Binary ops.Div)
infix_of symbols.Percent = Some (infixes.Binary ops.Rem)
infix_of symbols.Shl = Some (infixes.Binary ops.Shl)
infix_of symbols.Shr = Some (infixes.Binary ops.Shr)
infix_of symbols.And = Some (infixes.Binary ops.And)
infix_of symbols.Or = Some (infixes.Binary ops.Or)
infix_of symbols.Caret = Some (infixes.Binary ops.Xor)
infix_of symbols.Less = Some (infixes.Binary ops.Less)
infix_of symbols.LessEqual = Some (infixes.Binary ops.LessEqual)
infix_of symbols.Greater = Some (infixes.Binary ops.Greater)
infix_of symbols.GreaterEqual = Some (infixes.Binary ops.GreaterEqual)
infix_of symbols.Equal = Some (infixes.Binary ops.Equal)
infix_of symbols.NotEqual = Some (infixes.Binary ops.NotEqual)
infix_of symbols.AndAnd = Some infixes.Both
infix_of symbols.OrOr = Some infixes.Either
infix_of _ = None

abbrev pub infix_of_sign : Sign → Option Infix
infix_of_sign (sign.Symbol m) = infix_of m
infix_of_sign _ = None

abbrev pub infix_at : List Terminal → Option Infix
infix_at [] = None
infix_at (t ∷ ts) = infix_of_sign t.sign

-- the operator before an operand that a symbol is
abbrev pub prefix_of : Symbol → Option Prefix
prefix_of symbols.Plus = Some prefixes.Plus
prefix_of symbols.Minus = Some (prefixes.Unary unaries.Neg)
prefix_of symbols.Tilde = Some (prefixes.Unary unaries.Complement)
prefix_of symbols.Not = Some (prefixes.Unary unaries.Not)
prefix_of _ = None

-- goes on by an operator of level k or above
abbrev pub by_operator : {A : Type 0} → ℕ → Option Infix → (Infix → A) → A → A
by_operator k None f d = d
by_operator k (Some op) f d = if nat_le k (level op) then f op else d

-- How an expression, at level 0, or an operand at a higher level is read.
abbrev pub Reader : Type 0
Reader = ℕ → List Terminal → Read ExprTree

-- arguments up to the closing parenthesis, of which there is at least one
unfoldable pub arguments_at : Reader → ℕ → List Terminal → Read (List ExprTree)
arguments_at r zero ts = None
arguments_at r (suc n) ts =
    r 0 ts >>= λ first.
    if starts symbols.Comma first.1
    then (arguments_at r n (tail first.1) >>= λ others. Some (first.0 ∷ others.0, others.1))
    else (expect symbols.Close first.1 >>= λ rest. Some (first.0 ∷ [], rest))

-- what follows a name
unfoldable pub after_name : Reader → Span → Text → List Terminal → Read ExprTree
after_name r p w ts =
    if starts symbols.OpenIndex ts
    then (r 0 (tail ts) >>= λ x. expect symbols.CloseIndex x.1 >>= λ rest. Some (tree p (form.Element w x.0), rest))
    else (if starts symbols.Open ts
    then (if starts symbols.Close (tail ts)
    then Some (tree p (form.Call w []), tail (tail ts))
    else (arguments_at r (length (tail ts)) (tail ts) >>= λ x. Some (tree p (form.Call w x.0), x.1)))
    else Some (tree p (form.Name w), ts))

-- what follows an opening parenthesis
unfoldable pub after_open : Reader → Span → List Terminal → Read ExprTree
after_open r p ts =
    if starts_type ts
    then (type_at ts >>= λ kind. expect symbols.Close kind.1 >>= λ rest. r 11 rest >>= λ x. Some (tree p (form.Cast kind.0 x.0), x.1))
    else (r 0 ts >>= λ x. expect symbols.Close x.1 >>= λ rest. Some (x.0, rest))

-- what follows an operator before its operand
abbrev pub after_prefix : Reader → Option Prefix → Span → List Terminal → Read ExprTree
after_prefix r None p ts = None
after_prefix r (Some op) p ts = r 11 ts >>= λ x. Some (tree p (prefixed op x.0), x.1)

-- an operand
abbrev pub operand_of : Reader → Sign → Span → List Terminal → Read ExprTree
operand_of r (sign.Number n kind) p ts = Some (tree p (form.Number n kind), ts)
operand_of r (sign.Name w) p ts = after_name r p w ts
operand_of r (sign.Symbol m) p ts = if is_symbol symbols.Open (sign.Symbol m) then after_open r p ts else after_prefix r (prefix_of m) p ts
operand_of r _ p ts = None

unfoldable pub operand_at : Reader → List Terminal → Read ExprTree
operand_at r [] = None
operand_at r (t ∷ ts) = operand_of r t.sign t.span ts

-- operators of level k or above and their right operands, left to right, after the tree so far, whose first token stands at p
unfoldable pub operators_at : Reader → ℕ → ℕ → Span → ExprTree → List Terminal → Read ExprTree
operators_at r zero k p t ts = Some (t, ts)
operators_at r (suc n) k p t ts =
    by_operator k (infix_at ts)
    (λ op. r (suc (level op)) (tail ts) >>= λ x. operators_at r n k p (tree p (joined op t x.0)) x.1)
    (Some (t, ts))

-- an operand at level k
unfoldable pub level_by : Reader → ℕ → List Terminal → Read ExprTree
level_by r k ts = operand_at r ts >>= λ t. operators_at r (length t.1) k (first_span ts) t.0 t.1

-- an expression
unfoldable pub choice_by : Reader → List Terminal → Read ExprTree
choice_by r ts =
    level_by r 1 ts >>= λ c.
    if starts symbols.Question c.1
    then (r 0 (tail c.1) >>= λ a. expect symbols.Colon a.1 >>= λ rest. r 0 rest >>= λ b. Some (tree (first_span ts) (form.Choice c.0 a.0 b.0), b.1))
    else Some c

-- the same, with a bound on how deep it nests, since a definition's recursion is on a number or on a list
unfoldable pub expr_at : ℕ → Reader
expr_at zero k ts = None
expr_at (suc n) zero ts = choice_by (expr_at n) ts
expr_at (suc n) (suc k) ts = level_by (expr_at n) (suc k) ts

-- the same without a bound: no expression nests deeper than it has tokens
unfoldable pub expr_in : Reader
expr_in k ts = expr_at (suc (length ts)) k ts

-- nothing may follow
abbrev pub at_end : {A : Type 0} → A × List Terminal → Option A
at_end x = elim x.1 [ [] ↦ Some x.0 | t ∷ ts ↦ None ]

-- the expression that all the tokens are
unfoldable pub whole_at : List Terminal → Option ExprTree
whole_at ts = expr_in 0 ts >>= at_end
