-- The parts that trees of queries are made of.
use Rattle.std.specs.Prelude.{ℕ, ◌-◌, ◌==◌, ◌++◌, if◌then◌else◌, List, [], ◌∷◌, take, drop, find, position, Option, Some, None, codes}
use Rattle.std.specs.List.{list_any}
use Rattle.std.specs.Str.{bytes_eq}
use Rattle.fq_core.specs.declared.statement_kind.StatementKind.{StatementKind}
use Rattle.fq_core.specs.declared.statement_kind.StatementKind.TheVariants as kinds
use Rattle.fql_tokens.specs.Spelling.{is_written}
use Rattle.fql_read.specs.declared.operator.BareFilter.{BareFilter}
use Rattle.fql_read.specs.declared.operator.BareFilter.TheVariants as bare
use Rattle.fql_read.specs.declared.operator.NamedFilter.{NamedFilter}
use Rattle.fql_read.specs.declared.operator.NamedFilter.TheVariants as named
use Rattle.fql_read.specs.declared.operator.SingleFilter.{SingleFilter}
use Rattle.fql_read.specs.declared.operator.SingleFilter.TheVariants as single
use Rattle.fql_read.specs.declared.operator.DoubleFilter.{DoubleFilter}
use Rattle.fql_read.specs.declared.operator.DoubleFilter.TheVariants as double
use Rattle.fql_read.specs.declared.operator.Join.{Join}
use Rattle.fql_read.specs.declared.operator.Join.TheVariants as join
use Rattle.fql_read.specs.declared.operator.Count.{Count}
use Rattle.fql_read.specs.declared.operator.Count.TheVariants as count
use Rattle.fql_read.specs.declared.filter.Filter.{Filter, roll-Filter}
use Rattle.fql_read.specs.declared.filter.FilterForm.{FilterForm}
use Rattle.fql_read.specs.declared.filter.FilterForm.TheVariants as form
use Rattle.fql_read.specs.declared.cover.Split.{Split}
use Rattle.fql_read.specs.declared.cover.CoverTree.{CoverTree}
use Rattle.fql_read.specs.declared.cover.CoverTree.TheVariants as cover

abbrev pub Text : Type 0
Text = List ℕ

-- a filter of this form, whose first token has this column
abbrev pub filter : ℕ → FilterForm → Filter
filter p f = roll-Filter (record { column = p; form = f })

abbrev pub bare_form : BareFilter → FilterForm
bare_form bare.Id = form.Id
bare_form bare.BasicBlockEntry = form.BasicBlockEntry
bare_form bare.ConditionEdge = form.ConditionEdge
bare_form bare.ConditionGraph = form.ConditionGraph
bare_form bare.DecisionEdge = form.DecisionEdge

abbrev pub named_form : NamedFilter → Text → FilterForm
named_form named.Func w = form.Func w
named_form named.Label w = form.Label w
named_form named.Call w = form.Call w
named_form named.Entry w = form.Entry w
named_form named.Exit w = form.Exit w
named_form named.Definition w = form.Writes w
named_form named.Use w = form.Reads w

abbrev pub single_form : SingleFilter → Filter → FilterForm
single_form single.Not f = form.Not f
single_form single.Complement f = form.Complement f

abbrev pub double_form : DoubleFilter → Filter → Filter → FilterForm
double_form double.Union f g = form.Union f g
double_form double.Intersect f g = form.Intersect f g
double_form double.SetMinus f g = form.SetMinus f g
double_form double.Compose f g = form.Compose f g

-- the kinds of statements, which are read in any ASCII case
abbrev pub kind_spelling : StatementKind → Text
kind_spelling kinds.If = codes "IF"
kind_spelling kinds.For = codes "FOR"
kind_spelling kinds.While = codes "WHILE"
kind_spelling kinds.Do = codes "DO"
kind_spelling kinds.Switch = codes "SWITCH"
kind_spelling kinds.Assign = codes "ASSIGN"
kind_spelling kinds.Call = codes "CALL"
kind_spelling kinds.Return = codes "RETURN"
kind_spelling kinds.Decl = codes "DECL"
kind_spelling kinds.Assert = codes "ASSERT"
kind_spelling kinds.Assume = codes "ASSUME"
kind_spelling kinds.Jump = codes "JUMP"
kind_spelling kinds.Label = codes "LABEL"
kind_spelling kinds.Empty = codes "EMPTY"

abbrev pub all_kinds : List StatementKind
all_kinds =
    kinds.If ∷ kinds.For ∷ kinds.While ∷ kinds.Do ∷ kinds.Switch ∷ kinds.Assign ∷ kinds.Call ∷ kinds.Return ∷ kinds.Decl ∷
    kinds.Assert ∷ kinds.Assume ∷ kinds.Jump ∷ kinds.Label ∷ kinds.Empty ∷ []

unfoldable pub kind_of : Text → Option StatementKind
kind_of text = find (λ k. is_written (kind_spelling k) text) all_kinds

abbrev pub joined : Join → CoverTree → CoverTree → CoverTree
joined join.Plus a b = cover.Plus a b
joined join.Arrow a b = cover.Arrow a b
joined join.Dot a b = cover.Dot a b

-- how often, at least and at most
abbrev pub least_of : Count → ℕ → ℕ
least_of count.Exactly n = n
least_of count.AtMost n = 0
least_of count.AtLeast n = n

abbrev pub most_of : Count → ℕ → Option ℕ
most_of count.Exactly n = Some n
most_of count.AtMost n = Some n
most_of count.AtLeast n = None

-- the bytes of a text between the bytes at two columns
abbrev pub between : List ℕ → ℕ → ℕ → Text
between text p q = take (q - 1 - p) (drop p text)

-- the place of a predicate among the texts of a query's predicates
abbrev pub place_in : List Text → Text → Option ℕ
place_in ps w = position (λ v. bytes_eq v w) ps

-- places of predicates, and behind them one more, unless it is among them
abbrev pub with_place : List ℕ → ℕ → List ℕ
with_place ks i = if list_any (λ k. k == i) ks then ks else ks ++ i ∷ []

-- a filter without PRED, and PRED of a filter or a PRED by one more predicate
abbrev pub unsplit : Filter → Split
unsplit f = record { filter = f; predicates = [] }

abbrev pub split_by : Split → ℕ → Split
split_by s i = record { filter = s.filter; predicates = with_place s.predicates i }
