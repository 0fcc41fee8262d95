-- What tokens begin, and what joins.
use Rattle.std.specs.Prelude.{ℕ, Bool, true, false, List, Option, Some, None}
use Rattle.fq_core.specs.declared.statement_kind.StatementKind.{StatementKind}
use Rattle.fql_tokens.specs.declared.token.Mark.{Mark}
use Rattle.fql_tokens.specs.declared.token.Mark.TheVariants as marks
use Rattle.fql_tokens.specs.declared.token.Keyword.{Keyword}
use Rattle.fql_tokens.specs.declared.token.Keyword.TheVariants as keywords
use Rattle.fql_tokens.specs.declared.token.FilterName.{FilterName}
use Rattle.fql_tokens.specs.declared.token.FilterName.TheVariants as filters
use Rattle.fql_tokens.specs.declared.token.Sign.{Sign}
use Rattle.fql_tokens.specs.declared.token.Sign.TheVariants as sign
use Rattle.fql_read.specs.declared.operator.BareFilter.TheVariants as bare
use Rattle.fql_read.specs.declared.operator.NamedFilter.TheVariants as named
use Rattle.fql_read.specs.declared.operator.SingleFilter.TheVariants as single
use Rattle.fql_read.specs.declared.operator.DoubleFilter.TheVariants as double
use Rattle.fql_read.specs.declared.operator.Head.{Head}
use Rattle.fql_read.specs.declared.operator.Head.TheVariants as head
use Rattle.fql_read.specs.declared.operator.Atom.{Atom}
use Rattle.fql_read.specs.declared.operator.Atom.TheVariants as atom
use Rattle.fql_read.specs.declared.operator.Join.TheVariants as join
use Rattle.fql_read.specs.declared.operator.Count.TheVariants as count
use Rattle.fql_read.specs.declared.operator.Operator.{Operator}
use Rattle.fql_read.specs.declared.operator.Operator.TheVariants as operator
use Rattle.fql_read.specs.Forms.{Text, kind_of, place_in}

-- the filter that a token begins
abbrev pub head_of_keyword : Keyword → Head
head_of_keyword keywords.Id = head.Bare bare.Id
head_of_keyword keywords.Not = head.Single single.Not
head_of_keyword keywords.Complement = head.Single single.Complement
head_of_keyword keywords.Union = head.Double double.Union
head_of_keyword keywords.Intersect = head.Double double.Intersect
head_of_keyword keywords.SetMinus = head.Double double.SetMinus
head_of_keyword keywords.Compose = head.Double double.Compose
head_of_keyword _ = head.Nothing

abbrev pub head_of_filter : FilterName → Head
head_of_filter filters.File = head.File
head_of_filter filters.Line = head.Line
head_of_filter filters.Func = head.Named named.Func
head_of_filter filters.Label = head.Named named.Label
head_of_filter filters.Call = head.Named named.Call
head_of_filter filters.Entry = head.Named named.Entry
head_of_filter filters.Exit = head.Named named.Exit
head_of_filter filters.BasicBlockEntry = head.Bare bare.BasicBlockEntry
head_of_filter filters.ConditionEdge = head.Bare bare.ConditionEdge
head_of_filter filters.ConditionGraph = head.Bare bare.ConditionGraph
head_of_filter filters.DecisionEdge = head.Bare bare.DecisionEdge
head_of_filter filters.StatementType = head.Kinds
head_of_filter filters.Definition = head.Named named.Definition
head_of_filter filters.Use = head.Named named.Use

abbrev pub head_of : Sign → Head
head_of (sign.Word (Some k) w) = head_of_keyword k
head_of (sign.Filter f) = head_of_filter f
head_of _ = head.Nothing

-- what a token begins in a clause
abbrev pub atom_of_keyword : Keyword → Atom
atom_of_keyword keywords.Nodes = atom.Nodes
atom_of_keyword keywords.Edges = atom.Edges
atom_of_keyword keywords.Paths = atom.Paths
atom_of_keyword _ = atom.Filter

abbrev pub atom_of_mark : Mark → Atom
atom_of_mark marks.Open = atom.Group
atom_of_mark marks.Quote = atom.Quote
atom_of_mark _ = atom.Filter

abbrev pub atom_of : Sign → Atom
atom_of (sign.Word (Some k) w) = atom_of_keyword k
atom_of (sign.Mark m) = atom_of_mark m
atom_of (sign.Predicate w) = atom.Predicate
atom_of _ = atom.Filter

-- what goes on an expression: `+`, `->` and `.` go on with another one, and the rest say how often it occurs
abbrev pub operator_of_mark : Mark → Option Operator
operator_of_mark marks.Plus = Some (operator.Join join.Plus)
operator_of_mark marks.Arrow = Some (operator.Join join.Arrow)
operator_of_mark marks.Dot = Some (operator.Join join.Dot)
operator_of_mark marks.Star = Some operator.Star
operator_of_mark marks.Exactly = Some (operator.Count count.Exactly)
operator_of_mark marks.AtMost = Some (operator.Count count.AtMost)
operator_of_mark marks.AtLeast = Some (operator.Count count.AtLeast)
operator_of_mark _ = None

abbrev pub operator_of : Sign → Option Operator
operator_of (sign.Mark m) = operator_of_mark m
operator_of _ = None

-- how tightly it binds: what says how often the most, then `.`, then `->`, then `+`
abbrev pub level : Operator → ℕ
level (operator.Join join.Plus) = 1
level (operator.Join join.Arrow) = 2
level (operator.Join join.Dot) = 3
level operator.Star = 4
level (operator.Count c) = 4

infixl 10 ◌>>=◌
abbrev pub ◌>>=◌ : {A B : Type 0} → Option A → (A → Option B) → Option B
None >>= f = None
(Some x) >>= f = f x

-- the word of the query language that a token is
abbrev pub keyword_in : Sign → Option Keyword
keyword_in (sign.Word k w) = k
keyword_in _ = None

-- it is PRED
abbrev pub is_pred : Option Keyword → Bool
is_pred (Some keywords.Pred) = true
is_pred _ = false

-- the word that a token is, in any role
abbrev pub name_in : Sign → Option Text
name_in (sign.Word k w) = Some w
name_in _ = None

-- the name of a file, the number, and the text of a predicate that a token is
abbrev pub file_in : Sign → Option Text
file_in (sign.File w) = Some w
file_in _ = None

abbrev pub number_in : Sign → Option ℕ
number_in (sign.Number n) = Some n
number_in _ = None

abbrev pub predicate_in : Sign → Option Text
predicate_in (sign.Predicate w) = Some w
predicate_in _ = None

-- the kind of statements that a word names
abbrev pub kind_in : Sign → Option StatementKind
kind_in s = name_in s >>= kind_of

-- the place of a predicate among those of the query
abbrev pub place_of_predicate : List Text → Sign → Option ℕ
place_of_predicate ps s = predicate_in s >>= place_in ps
