-- Reading whole queries, and what the call answers by it. Nothing that is promised speaks of this.
use Rattle.std.specs.Prelude.{ℕ, suc, Bool, true, false, nat_le, if◌then◌else◌, List, [], ◌∷◌, length, Option, Some, None, Result, Ok, Err}
use Rattle.fq_core.specs.declared.refusal.Place.TheVariants as place
use Rattle.fq_core.specs.declared.refusal.Fault.{Fault}
use Rattle.fql_tokens.specs.declared.token.Mark.{Mark}
use Rattle.fql_tokens.specs.declared.token.Mark.TheVariants as marks
use Rattle.fql_tokens.specs.declared.token.Keyword.{Keyword}
use Rattle.fql_tokens.specs.declared.token.Keyword.TheVariants as keywords
use Rattle.fql_tokens.specs.declared.token.Token.{Token}
use Rattle.fq_core.specs.Refusals.{refusal}
use Rattle.fql_tokens.specs.Outcome.{text_outcome}
use Rattle.fql_read.specs.declared.operator.Part.{Part}
use Rattle.fql_read.specs.declared.operator.Part.TheVariants as part
use Rattle.fql_read.specs.declared.filter.Filter.{Filter}
use Rattle.fql_read.specs.declared.query.Clause.{Clause}
use Rattle.fql_read.specs.declared.query.Query.{Query}
use Rattle.fql_read.specs.Forms.{Text}
use Rattle.fql_read.specs.Reading.{◌>>=◌, Read, tail, starts, keyword_at, filter_in, expr_at}
use Rattle.fql_read.specs.QueryForm.{predicates_of}
use Rattle.fql_read.specs.QueryLimits.{most_letters, first_repetition, bad_number, letters_of}

-- what follows this mark, if it stands there
abbrev pub past : Mark → List Token → List Token
past m ts = if starts m ts then tail ts else ts

unfoldable pub clause_at : List ℕ → List Text → Part → List Token → Read Clause
clause_at text ps x ts =
    expr_at text ps (suc (length (past marks.Start ts))) x 1 (past marks.Start ts) >>= λ c.
    Some (record { first = starts marks.Start ts; body = c.0; last = starts marks.End c.1 }, past marks.End c.1)

-- the words that begin a part of a query
abbrev pub is_in : Option Keyword → Bool
is_in (Some keywords.In) = true
is_in _ = false

abbrev pub is_cover : Option Keyword → Bool
is_cover (Some keywords.Cover) = true
is_cover _ = false

abbrev pub is_passing : Option Keyword → Bool
is_passing (Some keywords.Passing) = true
is_passing _ = false

unfoldable pub base_at : List Token → Read (Option Filter)
base_at ts = if is_in (keyword_at ts) then (filter_in (tail ts) >>= λ f. Some (Some f.0, f.1)) else Some (None, ts)

unfoldable pub cover_at : List ℕ → List Text → List Token → Read Clause
cover_at text ps ts = if is_cover (keyword_at ts) then clause_at text ps part.Cover (tail ts) else None

unfoldable pub passing_at : List ℕ → List Text → List Token → Read (Option Clause)
passing_at text ps ts =
    if is_passing (keyword_at ts) then (clause_at text ps part.Passing (tail ts) >>= λ c. Some (Some c.0, c.1)) else Some (None, ts)

-- nothing may follow
abbrev pub at_end : Query → List Token → Option Query
at_end q [] = Some q
at_end q (t ∷ ts) = None

unfoldable pub query_at : List ℕ → List Text → List Token → Option Query
query_at text ps ts =
    base_at ts >>= λ b. cover_at text ps b.1 >>= λ c. passing_at text ps c.1 >>= λ p.
    at_end (record { base = b.0; cover = c.0; passing = p.0; predicates = ps }) p.1

-- ---- what is answered

abbrev pub by_letters : Query → Bool → Result Query Fault
by_letters q true = Ok q
by_letters q false = Err (refusal 63 (place.Limit most_letters))

abbrev pub by_number : List Token → Query → Option ℕ → Result Query Fault
by_number ts q (Some c) = Err (refusal 64 (place.Query c))
by_number ts q None = by_letters q (nat_le (letters_of ts q) most_letters)

abbrev pub by_repetition : List Token → Query → Option ℕ → Result Query Fault
by_repetition ts q (Some c) = Err (refusal 62 (place.Query c))
by_repetition ts q None = by_number ts q (bad_number ts)

abbrev pub limited : List Token → Query → Result Query Fault
limited ts q = by_repetition ts q (first_repetition q.cover.body)

abbrev pub spelled_of : Option Query → Result Query Fault
spelled_of None = Err (refusal 61 place.QueryWhole)
spelled_of (Some q) = Ok q

abbrev pub by_query : List Token → Option Query → Result Query Fault
by_query ts None = Err (refusal 61 place.QueryWhole)
by_query ts (Some q) = limited ts q

unfoldable pub tokens_outcome : List ℕ → List Token → Result Query Fault
tokens_outcome text ts = by_query ts (query_at text (predicates_of ts) ts)

abbrev pub by_text : List ℕ → Result (List Token) Fault → Result Query Fault
by_text text (Err e) = Err e
by_text text (Ok ts) = tokens_outcome text ts

unfoldable pub query_outcome : List ℕ → Result Query Fault
query_outcome text = by_text text (text_outcome text)
