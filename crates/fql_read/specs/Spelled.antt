-- Which tokens spell which filter and which clause, a type for each sort of form and a constructor for each rule.
use Rattle.std.specs.Prelude.{◌≡◌, ℕ, suc, ◌≤◌, List, [], ◌∷◌, ◌++◌, Some, None}
use Rattle.fq_core.specs.declared.statement_kind.StatementKind.{StatementKind}
use Rattle.fql_tokens.specs.declared.token.Mark.{Mark}
use Rattle.fql_tokens.specs.declared.token.Mark.TheVariants as marks
use Rattle.fql_tokens.specs.declared.token.Keyword.TheVariants as keywords
use Rattle.fql_tokens.specs.declared.token.Sign.TheVariants as sign
use Rattle.fql_tokens.specs.declared.token.Token.{Token}
use Rattle.fql_read.specs.declared.operator.BareFilter.{BareFilter}
use Rattle.fql_read.specs.declared.operator.NamedFilter.{NamedFilter}
use Rattle.fql_read.specs.declared.operator.SingleFilter.{SingleFilter}
use Rattle.fql_read.specs.declared.operator.DoubleFilter.{DoubleFilter}
use Rattle.fql_read.specs.declared.operator.Head.TheVariants as head
use Rattle.fql_read.specs.declared.operator.Atom.TheVariants as atom
use Rattle.fql_read.specs.declared.operator.Join.{Join}
use Rattle.fql_read.specs.declared.operator.Count.{Count}
use Rattle.fql_read.specs.declared.operator.Operator.TheVariants as operator
use Rattle.fql_read.specs.declared.operator.Part.{Part}
use Rattle.fql_read.specs.declared.operator.Part.TheVariants as part
use Rattle.fql_read.specs.declared.filter.Filter.{Filter}
use Rattle.fql_read.specs.declared.filter.FilterForm.TheVariants as form
use Rattle.fql_read.specs.declared.cover.Split.{Split}
use Rattle.fql_read.specs.declared.cover.CoverTree.{CoverTree}
use Rattle.fql_read.specs.declared.cover.CoverTree.TheVariants as cover
use Rattle.fql_read.specs.Forms.{Text, filter, bare_form, named_form, single_form, double_form, unsplit, split_by, joined, least_of, most_of, between}
use Rattle.fql_read.specs.Tables.{head_of, atom_of, operator_of, level, name_in, file_in, number_in, kind_in, keyword_in, place_of_predicate}

-- a token that is a mark, with its column
abbrev pub mark : Mark → ℕ → Token
mark m p = record { sign = sign.Mark m; column = p }

-- one or more kinds of statements with commas between them
pub data DerivesKinds : List StatementKind → List Token → Type 0 where
  last_kind : {k : StatementKind} (t : Token) → kind_in t.sign ≡ Some k → DerivesKinds (k ∷ []) (t ∷ [])
  more_kinds : {k : StatementKind} {ks : List StatementKind} {ts : List Token} (t : Token) (p : ℕ) → kind_in t.sign ≡ Some k → DerivesKinds ks ts
      → DerivesKinds (k ∷ ks) (t ∷ mark marks.Comma p ∷ ts)

-- a filter: its first token tells its form, and what it is of stands in parentheses
pub data DerivesFilter : Filter → List Token → Type 0 where
  a_bare : {f : BareFilter} (t : Token) → head_of t.sign ≡ head.Bare f → DerivesFilter (filter t.column (bare_form f)) (t ∷ [])
  a_named : {f : NamedFilter} {w : Text} (t u : Token) (p q : ℕ) → head_of t.sign ≡ head.Named f → name_in u.sign ≡ Some w
      → DerivesFilter (filter t.column (named_form f w)) (t ∷ mark marks.Open p ∷ u ∷ mark marks.Close q ∷ [])
  a_file : {w : Text} (t u : Token) (p q : ℕ) → head_of t.sign ≡ head.File → file_in u.sign ≡ Some w
      → DerivesFilter (filter t.column (form.File w)) (t ∷ mark marks.Open p ∷ u ∷ mark marks.Close q ∷ [])
  a_line : {n : ℕ} (t u : Token) (p q : ℕ) → head_of t.sign ≡ head.Line → number_in u.sign ≡ Some n
      → DerivesFilter (filter t.column (form.Line n)) (t ∷ mark marks.Open p ∷ u ∷ mark marks.Close q ∷ [])
  some_kinds : {ks : List StatementKind} {ts : List Token} (t : Token) (p q : ℕ) → head_of t.sign ≡ head.Kinds → DerivesKinds ks ts
      → DerivesFilter (filter t.column (form.StatementTypes ks)) (t ∷ mark marks.Open p ∷ (ts ++ mark marks.Close q ∷ []))
  a_single : {f : SingleFilter} {g : Filter} {ts : List Token} (t : Token) (p q : ℕ) → head_of t.sign ≡ head.Single f → DerivesFilter g ts
      → DerivesFilter (filter t.column (single_form f g)) (t ∷ mark marks.Open p ∷ (ts ++ mark marks.Close q ∷ []))
  a_double : {f : DoubleFilter} {g h : Filter} {xs ys : List Token} (t : Token) (p q r : ℕ) → head_of t.sign ≡ head.Double f → DerivesFilter g xs → DerivesFilter h ys
      → DerivesFilter (filter t.column (double_form f g h)) (t ∷ mark marks.Open p ∷ (xs ++ mark marks.Comma q ∷ (ys ++ mark marks.Close r ∷ [])))

-- what NODES and EDGES are of: a filter, or PRED of one, whose predicates' texts are among those given
pub data DerivesSplit (ps : List Text) : Split → List Token → Type 0 where
  no_split : {f : Filter} {ts : List Token} → DerivesFilter f ts → DerivesSplit ps (unsplit f) ts
  a_split : {s : Split} {i : ℕ} {ts : List Token} (t u : Token) (p q r : ℕ) → keyword_in t.sign ≡ Some keywords.Pred → DerivesSplit ps s ts → place_of_predicate ps u.sign ≡ Some i
      → DerivesSplit ps (split_by s i) (t ∷ mark marks.Open p ∷ (ts ++ mark marks.Comma q ∷ u ∷ mark marks.Close r ∷ []))

-- an expression in a part of a query, whose operators bind so tightly or tighter: `+` at 1, `->` at 2 and `.` at 3, which
-- group to the left, and at 4 what says how often it occurs. The predicates' texts are given, and the bytes of the query.
pub data Derives (text : List ℕ) (ps : List Text) : Part → ℕ → CoverTree → List Token → Type 0 where
  some_nodes : {x : Part} {k : ℕ} {s : Split} {ts : List Token} (t : Token) (p q : ℕ) → atom_of t.sign ≡ atom.Nodes → DerivesSplit ps s ts
      → Derives text ps x k (cover.Nodes s) (t ∷ mark marks.Open p ∷ (ts ++ mark marks.Close q ∷ []))
  some_edges : {x : Part} {k : ℕ} {s : Split} {ts : List Token} (t : Token) (p q : ℕ) → atom_of t.sign ≡ atom.Edges → DerivesSplit ps s ts
      → Derives text ps x k (cover.Edges s) (t ∷ mark marks.Open p ∷ (ts ++ mark marks.Close q ∷ []))
  some_paths : {x : Part} {k n : ℕ} {f : Filter} {ts : List Token} (t u : Token) (p q r : ℕ) → atom_of t.sign ≡ atom.Paths → DerivesFilter f ts → number_in u.sign ≡ Some n
      → Derives text ps x k (cover.Paths f n) (t ∷ mark marks.Open p ∷ (ts ++ mark marks.Comma q ∷ u ∷ mark marks.Close r ∷ []))
  a_predicate : {x : Part} {k i : ℕ} (t : Token) → place_of_predicate ps t.sign ≡ Some i → Derives text ps x k (cover.Predicate i) (t ∷ [])
  alone : {x : Part} {k : ℕ} {s : Split} {ts : List Token} → DerivesSplit ps s ts → Derives text ps x k (cover.Edges s) ts
  in_parentheses : {x : Part} {k : ℕ} {c : CoverTree} {ts : List Token} (t : Token) (q : ℕ) → atom_of t.sign ≡ atom.Group → Derives text ps x 1 c ts
      → Derives text ps x k c (t ∷ (ts ++ mark marks.Close q ∷ []))
  -- quotation marks make one letter of an expression in the cover clause, group in the passing clause, and don't nest
  quoted : {k : ℕ} {c : CoverTree} {ts : List Token} (t : Token) (q : ℕ) → atom_of t.sign ≡ atom.Quote → Derives text ps part.Quoted 1 c ts
      → Derives text ps part.Cover k (cover.Quoted c (between text t.column q)) (t ∷ (ts ++ mark marks.Quote q ∷ []))
  grouped : {k : ℕ} {c : CoverTree} {ts : List Token} (t : Token) (q : ℕ) → atom_of t.sign ≡ atom.Quote → Derives text ps part.Quoted 1 c ts
      → Derives text ps part.Passing k c (t ∷ (ts ++ mark marks.Quote q ∷ []))
  two : {x : Part} {k : ℕ} {op : Join} {a b : CoverTree} {xs ys : List Token} (t : Token) → operator_of t.sign ≡ Some (operator.Join op) → k ≤ level (operator.Join op)
      → Derives text ps x (level (operator.Join op)) a xs → Derives text ps x (suc (level (operator.Join op))) b ys
      → Derives text ps x k (joined op a b) (xs ++ t ∷ ys)
  any_times : {x : Part} {k : ℕ} {a : CoverTree} {xs : List Token} (t : Token) → operator_of t.sign ≡ Some operator.Star → k ≤ 4
      → Derives text ps x 4 a xs → Derives text ps x k (cover.Repeat a 0 None t.column) (xs ++ t ∷ [])
  times : {x : Part} {k n : ℕ} {c : Count} {a : CoverTree} {xs : List Token} (t u : Token) → operator_of t.sign ≡ Some (operator.Count c) → number_in u.sign ≡ Some n → k ≤ 4
      → Derives text ps x 4 a xs → Derives text ps x k (cover.Repeat a (least_of c n) (most_of c n) t.column) (xs ++ t ∷ u ∷ [])
