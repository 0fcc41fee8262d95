-- Which tokens spell which expression (ISO/IEC 9899:2011, 6.5).
-- Public contracts rest on this.
use Rattle.std.specs.Prelude.{◌≡◌, ℕ, suc, ◌≤◌, List, [], ◌∷◌, ◌++◌, Some}
use Rattle.fq_core.specs.declared.span.Span.{Span}
use Rattle.c_values.specs.declared.kinds.Kind.{Kind}
use Rattle.c_parse.specs.declared.sign.Symbol.{Symbol}
use Rattle.c_parse.specs.declared.sign.Symbol.TheVariants as symbols
use Rattle.c_parse.specs.declared.sign.TypeWord.{TypeWord}
use Rattle.c_parse.specs.declared.sign.Sign.TheVariants as sign
use Rattle.c_parse.specs.declared.sign.Terminal.{Terminal}
use Rattle.c_parse.specs.declared.expr.ExprTree.{ExprTree}
use Rattle.c_parse.specs.declared.expr.ExprForm.TheVariants as form
use Rattle.c_parse.specs.declared.operator.Prefix.{Prefix}
use Rattle.c_parse.specs.declared.operator.Infix.{Infix}
use Rattle.c_parse.specs.Types.{kind_of}
use Rattle.c_parse.specs.Trees.{tree, prefixed, joined, prefix_symbol, infix_symbol, level}

abbrev pub Text : Type 0
Text = List ℕ

abbrev pub symbol : Symbol → Span → Terminal
symbol m s = record { sign = sign.Symbol m; span = s }

abbrev pub number_token : ℕ → Kind → Span → Terminal
number_token n k s = record { sign = sign.Number n k; span = s }

abbrev pub name_token : Text → Span → Terminal
name_token w s = record { sign = sign.Name w; span = s }

abbrev pub type_token : TypeWord → Span → Terminal
type_token w s = record { sign = sign.Type w; span = s }

-- the span of the first token; each form has a first token
abbrev pub first_span : List Terminal → Span
first_span [] = record { file = 0; line = 0; column = 0; start = 0; end = 0 }
first_span (t ∷ ts) = t.span

-- the tokens are these words
pub data AreWords : List TypeWord → List Terminal → Type 0 where
  end : AreWords [] []
  word : {w : TypeWord} {ws : List TypeWord} {ts : List Terminal} (p : Span) → AreWords ws ts → AreWords (w ∷ ws) (type_token w p ∷ ts)

-- What is spelled by which tokens, a type for each sort of form and a constructor for each rule. Spans are those of
-- the tokens. Parentheses round a form leave no trace in its tree.
mutual
  -- a conditional expression (6.5.15): a choice groups to the right
  pub data DerivesChoice : ExprTree → List Terminal → Type 0 where
    a_plain : {t : ExprTree} {ts : List Terminal} → Derives 1 t ts → DerivesChoice t ts
    a_choice : {c a b : ExprTree} {xs ys zs : List Terminal} (p q : Span) → Derives 1 c xs → DerivesChoice a ys → DerivesChoice b zs
        → DerivesChoice (tree (first_span xs) (form.Choice c a b)) (xs ++ symbol symbols.Question p ∷ (ys ++ symbol symbols.Colon q ∷ zs))

  -- an operand at a level: 1 to 10 are those of the infix operators (6.5.14 to 6.5.5), which group to the left, and 11
  -- is that of a unary operator or a cast (6.5.3, 6.5.4)
  pub data Derives : ℕ → ExprTree → List Terminal → Type 0 where
    a_number : {k n : ℕ} {kind : Kind} {p : Span} → Derives k (tree p (form.Number n kind)) (number_token n kind p ∷ [])
    a_name : {k : ℕ} {w : Text} {p : Span} → Derives k (tree p (form.Name w)) (name_token w p ∷ [])
    an_element : {k : ℕ} {w : Text} {p : Span} {t : ExprTree} {ts : List Terminal} (q r : Span) → DerivesChoice t ts
        → Derives k (tree p (form.Element w t)) (name_token w p ∷ symbol symbols.OpenIndex q ∷ (ts ++ symbol symbols.CloseIndex r ∷ []))
    a_bare_call : {k : ℕ} {w : Text} {p : Span} (q r : Span)
        → Derives k (tree p (form.Call w [])) (name_token w p ∷ symbol symbols.Open q ∷ symbol symbols.Close r ∷ [])
    a_call : {k : ℕ} {w : Text} {p : Span} {args : List ExprTree} {ts : List Terminal} (q r : Span) → DerivesArguments args ts
        → Derives k (tree p (form.Call w args)) (name_token w p ∷ symbol symbols.Open q ∷ (ts ++ symbol symbols.Close r ∷ []))
    parens : {k : ℕ} {t : ExprTree} {ts : List Terminal} (p q : Span) → DerivesChoice t ts
        → Derives k t (symbol symbols.Open p ∷ (ts ++ symbol symbols.Close q ∷ []))
    a_cast : {k : ℕ} {p : Span} {kind : Kind} {t : ExprTree} {words : List TypeWord} {type ts : List Terminal} (q : Span) → AreWords words type → kind_of words ≡ Some kind → Derives 11 t ts
        → Derives k (tree p (form.Cast kind t)) (symbol symbols.Open p ∷ (type ++ symbol symbols.Close q ∷ ts))
    a_prefix : {k : ℕ} {p : Span} (op : Prefix) {t : ExprTree} {ts : List Terminal} → Derives 11 t ts
        → Derives k (tree p (prefixed op t)) (symbol (prefix_symbol op) p ∷ ts)
    an_infix : {k : ℕ} (op : Infix) {a b : ExprTree} {xs ys : List Terminal} (p : Span) → k ≤ level op → Derives (level op) a xs → Derives (suc (level op)) b ys
        → Derives k (tree (first_span xs) (joined op a b)) (xs ++ symbol (infix_symbol op) p ∷ ys)

  -- one or more expressions with commas between them (6.5.2, argument-expression-list)
  pub data DerivesArguments : List ExprTree → List Terminal → Type 0 where
    the_last : {t : ExprTree} {ts : List Terminal} → DerivesChoice t ts → DerivesArguments (t ∷ []) ts
    one_more : {t : ExprTree} {args : List ExprTree} {ts us : List Terminal} (p : Span) → DerivesChoice t ts → DerivesArguments args us
        → DerivesArguments (t ∷ args) (ts ++ symbol symbols.Comma p ∷ us)
