-- Reading queries from left to right. Nothing that is promised speaks of this: it is what the reader's functions give,
-- and proofs/ has that what is read is what the tokens spell, and that what they spell is read.
use Rattle.std.specs.Prelude.{ℕ, zero, suc, Bool, false, ◌==◌, nat_le, if◌then◌else◌, List, [], ◌∷◌, length, Option, Some, None}
use Rattle.fq_core.specs.declared.statement_kind.StatementKind.{StatementKind}
use Rattle.fql_tokens.specs.declared.token.Mark.{Mark}
use Rattle.fql_tokens.specs.declared.token.Mark.TheVariants as marks
use Rattle.fql_tokens.specs.declared.token.Keyword.{Keyword}
use Rattle.fql_tokens.specs.declared.token.Sign.{Sign}
use Rattle.fql_tokens.specs.declared.token.Sign.TheVariants as sign
use Rattle.fql_tokens.specs.declared.token.Token.{Token}
use Rattle.fql_read.specs.declared.operator.Head.{Head}
use Rattle.fql_read.specs.declared.operator.Head.TheVariants as head
use Rattle.fql_read.specs.declared.operator.Atom.{Atom}
use Rattle.fql_read.specs.declared.operator.Atom.TheVariants as atom
use Rattle.fql_read.specs.declared.operator.Operator.{Operator}
use Rattle.fql_read.specs.declared.operator.Operator.TheVariants as operator
use Rattle.fql_read.specs.declared.operator.Part.{Part}
use Rattle.fql_read.specs.declared.operator.Part.TheVariants as part
use Rattle.fql_read.specs.declared.filter.Filter.{Filter}
use Rattle.fql_read.specs.declared.filter.FilterForm.TheVariants as form
use Rattle.fql_read.specs.declared.cover.Split.{Split}
use Rattle.fql_read.specs.declared.cover.CoverTree.{CoverTree}
use Rattle.fql_read.specs.declared.cover.CoverTree.TheVariants as cover
use Rattle.fql_read.specs.Forms.{Text, filter, bare_form, named_form, single_form, double_form, unsplit, split_by, joined, least_of, most_of, between}
use Rattle.fql_read.specs.Tables.{head_of, atom_of, operator_of, level, name_in, file_in, number_in, kind_in, keyword_in, is_pred, place_of_predicate}
pub use Rattle.fql_read.specs.Tables.{◌>>=◌}

-- a value, and the tokens after it
abbrev pub Read : Type 0 → Type 0
Read A = Option (A × List Token)

abbrev pub tail : List Token → List Token
tail [] = []
tail (t ∷ ts) = ts

-- marks are told apart by numbers
abbrev pub code_of : Mark → ℕ
code_of marks.Start = 0
code_of marks.End = 1
code_of marks.Plus = 2
code_of marks.Arrow = 3
code_of marks.Dot = 4
code_of marks.Star = 5
code_of marks.Exactly = 6
code_of marks.AtMost = 7
code_of marks.AtLeast = 8
code_of marks.Open = 9
code_of marks.Close = 10
code_of marks.Comma = 11
code_of marks.Quote = 12

abbrev pub is_mark : Mark → Sign → Bool
is_mark m (sign.Mark x) = code_of x == code_of m
is_mark m _ = false

-- the first token is this mark
abbrev pub starts : Mark → List Token → Bool
starts m [] = false
starts m (t ∷ ts) = is_mark m t.sign

-- what follows this mark
abbrev pub expect : Mark → List Token → Option (List Token)
expect m ts = if starts m ts then Some (tail ts) else None

-- the column of the first token
abbrev pub column_of : List Token → ℕ
column_of [] = 0
column_of (t ∷ ts) = t.column

-- the word of the query language that the first token is
abbrev pub keyword_at : List Token → Option Keyword
keyword_at [] = None
keyword_at (t ∷ ts) = keyword_in t.sign

-- what the first token holds
abbrev pub one_at : {A : Type 0} → (Sign → Option A) → List Token → Read A
one_at f [] = None
one_at f (t ∷ ts) = f t.sign >>= λ x. Some (x, ts)

-- what one token in parentheses holds
unfoldable pub bracketed_at : {A : Type 0} → (Sign → Option A) → List Token → Read A
bracketed_at f ts = expect marks.Open ts >>= λ a. one_at f a >>= λ x. expect marks.Close x.1 >>= λ rest. Some (x.0, rest)

-- kinds of statements up to the closing parenthesis, of which there is at least one
unfoldable pub kinds_at : ℕ → List Token → Read (List StatementKind)
kinds_at zero ts = None
kinds_at (suc n) ts =
    one_at kind_in ts >>= λ first.
    if starts marks.Comma first.1
    then (kinds_at n (tail first.1) >>= λ others. Some (first.0 ∷ others.0, others.1))
    else (expect marks.Close first.1 >>= λ rest. Some (first.0 ∷ [], rest))

unfoldable pub kinds_in : List Token → Read (List StatementKind)
kinds_in ts = expect marks.Open ts >>= λ a. kinds_at (length a) a

-- ---- filters

abbrev pub FilterReader : Type 0
FilterReader = List Token → Read Filter

-- one filter in parentheses, or another form
unfoldable pub single_at : {A : Type 0} → (List Token → Read A) → List Token → Read A
single_at r ts = expect marks.Open ts >>= λ a. r a >>= λ x. expect marks.Close x.1 >>= λ rest. Some (x.0, rest)

-- two filters in parentheses
unfoldable pub double_at : FilterReader → List Token → Read (Filter × Filter)
double_at r ts =
    expect marks.Open ts >>= λ a. r a >>= λ x. expect marks.Comma x.1 >>= λ b. r b >>= λ y.
    expect marks.Close y.1 >>= λ rest. Some ((x.0, y.0), rest)

-- what follows the first token of a filter
unfoldable pub after_head : FilterReader → Head → ℕ → List Token → Read Filter
after_head r (head.Bare f) p ts = Some (filter p (bare_form f), ts)
after_head r (head.Named f) p ts = bracketed_at name_in ts >>= λ x. Some (filter p (named_form f x.0), x.1)
after_head r head.File p ts = bracketed_at file_in ts >>= λ x. Some (filter p (form.File x.0), x.1)
after_head r head.Line p ts = bracketed_at number_in ts >>= λ x. Some (filter p (form.Line x.0), x.1)
after_head r head.Kinds p ts = kinds_in ts >>= λ x. Some (filter p (form.StatementTypes x.0), x.1)
after_head r (head.Single f) p ts = single_at r ts >>= λ x. Some (filter p (single_form f x.0), x.1)
after_head r (head.Double f) p ts = double_at r ts >>= λ x. Some (filter p (double_form f x.0.0 x.0.1), x.1)
after_head r head.Nothing p ts = None

abbrev pub filter_by : FilterReader → List Token → Read Filter
filter_by r [] = None
filter_by r (t ∷ ts) = after_head r (head_of t.sign) t.column ts

-- a filter, with a bound on how deep it nests
unfoldable pub filter_at : ℕ → FilterReader
filter_at zero ts = None
filter_at (suc n) ts = filter_by (filter_at n) ts

unfoldable pub filter_in : FilterReader
filter_in ts = filter_at (suc (length ts)) ts

-- a filter, a comma and a number in parentheses
unfoldable pub paths_at : List Token → Read (Filter × ℕ)
paths_at ts =
    expect marks.Open ts >>= λ a. filter_in a >>= λ x. expect marks.Comma x.1 >>= λ b. one_at number_in b >>= λ n.
    expect marks.Close n.1 >>= λ rest. Some ((x.0, n.0), rest)

-- ---- filters, and PRED of them

abbrev pub SplitReader : Type 0
SplitReader = List Token → Read Split

-- what follows PRED
unfoldable pub pred_at : List Text → SplitReader → List Token → Read Split
pred_at ps r ts =
    expect marks.Open ts >>= λ a. r a >>= λ x. expect marks.Comma x.1 >>= λ b. one_at (place_of_predicate ps) b >>= λ i.
    expect marks.Close i.1 >>= λ rest. Some (split_by x.0 i.0, rest)

-- a filter or PRED, with a bound on how deep it nests
unfoldable pub split_at : List Text → ℕ → SplitReader
split_at ps zero ts = None
split_at ps (suc n) ts =
    if is_pred (keyword_at ts) then pred_at ps (split_at ps n) (tail ts) else (filter_in ts >>= λ f. Some (unsplit f.0, f.1))

unfoldable pub split_in : List Text → SplitReader
split_in ps ts = split_at ps (suc (length ts)) ts

-- ---- clauses

-- How an expression whose operators bind so tightly is read in a part of a query.
abbrev pub Reader : Type 0
Reader = Part → ℕ → List Token → Read CoverTree

abbrev pub operator_at : List Token → Option Operator
operator_at [] = None
operator_at (t ∷ ts) = operator_of t.sign

-- goes on by an operator of level k or above
abbrev pub by_operator : {A : Type 0} → ℕ → Option Operator → (Operator → A) → A → A
by_operator k None f d = d
by_operator k (Some op) f d = if nat_le k (level op) then f op else d

-- an expression, and this mark behind it
unfoldable pub closed_at : Reader → Part → Mark → List Token → Read CoverTree
closed_at r x m ts = r x 1 ts >>= λ t. expect m t.1 >>= λ rest. Some (t.0, rest)

-- what follows an opening quotation mark at a column
unfoldable pub quoted_at : List ℕ → Reader → Part → ℕ → List Token → Read CoverTree
quoted_at text r part.Cover p ts =
    r part.Quoted 1 ts >>= λ t. expect marks.Quote t.1 >>= λ rest. Some (cover.Quoted t.0 (between text p (column_of t.1)), rest)
quoted_at text r part.Passing p ts = closed_at r part.Quoted marks.Quote ts
quoted_at text r part.Quoted p ts = None

-- what an expression begins with, its first token t before the tokens ts
unfoldable pub atom_at : List ℕ → List Text → Reader → Part → Atom → Token → List Token → Read CoverTree
atom_at text ps r x atom.Nodes t ts = single_at (split_in ps) ts >>= λ f. Some (cover.Nodes f.0, f.1)
atom_at text ps r x atom.Edges t ts = single_at (split_in ps) ts >>= λ f. Some (cover.Edges f.0, f.1)
atom_at text ps r x atom.Paths t ts = paths_at ts >>= λ f. Some (cover.Paths f.0.0 f.0.1, f.1)
atom_at text ps r x atom.Predicate t ts = one_at (place_of_predicate ps) (t ∷ ts) >>= λ i. Some (cover.Predicate i.0, i.1)
atom_at text ps r x atom.Group t ts = closed_at r x marks.Close ts
atom_at text ps r x atom.Quote t ts = quoted_at text r x t.column ts
atom_at text ps r x atom.Filter t ts = split_in ps (t ∷ ts) >>= λ f. Some (cover.Edges f.0, f.1)

unfoldable pub operand_at : List ℕ → List Text → Reader → Part → List Token → Read CoverTree
operand_at text ps r x [] = None
operand_at text ps r x (t ∷ ts) = atom_at text ps r x (atom_of t.sign) t ts

-- an expression goes on by an operator at a column
unfoldable pub behind : Reader → Part → Operator → CoverTree → ℕ → List Token → Read CoverTree
behind r x (operator.Join op) t p ts = r x (suc (level (operator.Join op))) ts >>= λ u. Some (joined op t u.0, u.1)
behind r x operator.Star t p ts = Some (cover.Repeat t 0 None p, ts)
behind r x (operator.Count c) t p ts = one_at number_in ts >>= λ n. Some (cover.Repeat t (least_of c n.0) (most_of c n.0) p, n.1)

-- operators of level k or above, left to right, after the tree so far
unfoldable pub operators_at : Reader → Part → ℕ → ℕ → CoverTree → List Token → Read CoverTree
operators_at r x zero k t ts = Some (t, ts)
operators_at r x (suc n) k t ts =
    by_operator k (operator_at ts)
    (λ op. behind r x op t (column_of ts) (tail ts) >>= λ u. operators_at r x n k u.0 u.1)
    (Some (t, ts))

unfoldable pub level_by : List ℕ → List Text → Reader → Reader
level_by text ps r x k ts = operand_at text ps r x ts >>= λ t. operators_at r x (length t.1) k t.0 t.1

-- an expression, with a bound on how deep it nests
unfoldable pub expr_at : List ℕ → List Text → ℕ → Reader
expr_at text ps zero x k ts = None
expr_at text ps (suc n) x k ts = level_by text ps (expr_at text ps n) x k ts
