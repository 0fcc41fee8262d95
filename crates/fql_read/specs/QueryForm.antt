-- Which tokens spell which query.
use Rattle.std.specs.Prelude.{◌≡◌, ℕ, Bool, true, false, is_some, if◌then◌else◌, fold, List, [], ◌∷◌, ◌++◌, Option, Some, None}
use Rattle.fql_tokens.specs.declared.token.Mark.{Mark}
use Rattle.fql_tokens.specs.declared.token.Mark.TheVariants as marks
use Rattle.fql_tokens.specs.declared.token.Keyword.TheVariants as keywords
use Rattle.fql_tokens.specs.declared.token.Token.{Token}
use Rattle.fql_read.specs.declared.operator.Part.{Part}
use Rattle.fql_read.specs.declared.operator.Part.TheVariants as part
use Rattle.fql_read.specs.declared.filter.Filter.{Filter}
use Rattle.fql_read.specs.declared.cover.CoverTree.{CoverTree}
use Rattle.fql_read.specs.declared.query.Clause.{Clause}
use Rattle.fql_read.specs.declared.query.Query.{Query}
use Rattle.fql_read.specs.Forms.{Text, place_in}
use Rattle.fql_read.specs.Tables.{keyword_in, predicate_in}
use Rattle.fql_read.specs.Spelled.{mark, DerivesFilter, Derives}

-- a text is added where it isn't there yet
abbrev pub with_text : List Text → Option Text → List Text
with_text ps None = ps
with_text ps (Some w) = if is_some (place_in ps w) then ps else ps ++ w ∷ []

-- the texts of the predicates among tokens, each once, in order of first use
unfoldable pub predicates_of : List Token → List Text
predicates_of ts = fold (λ (ps : List Text) (t : Token). with_text ps (predicate_in t.sign)) [] ts

-- whether a mark stands there
pub data IsAnchor (m : Mark) : Bool → List Token → Type 0 where
  not_there : IsAnchor m false []
  there : (p : ℕ) → IsAnchor m true (mark m p ∷ [])

-- an expression, with `^` before it and `$` after it or without
pub data DerivesClause (text : List ℕ) (ps : List Text) (x : Part) : Clause → List Token → Type 0 where
  a_clause : {first last : Bool} {c : CoverTree} {xs ys zs : List Token} → IsAnchor marks.Start first xs → Derives text ps x 1 c ys → IsAnchor marks.End last zs
      → DerivesClause text ps x (record { first = first; body = c; last = last }) (xs ++ (ys ++ zs))

-- `in` and a filter, or nothing
pub data DerivesBase : Option Filter → List Token → Type 0 where
  no_base : DerivesBase None []
  a_base : {f : Filter} {ts : List Token} (t : Token) → keyword_in t.sign ≡ Some keywords.In → DerivesFilter f ts → DerivesBase (Some f) (t ∷ ts)

-- `passing` and a clause, or nothing
pub data DerivesPassing (text : List ℕ) (ps : List Text) : Option Clause → List Token → Type 0 where
  no_passing : DerivesPassing text ps None []
  a_passing : {c : Clause} {ts : List Token} (t : Token) → keyword_in t.sign ≡ Some keywords.Passing → DerivesClause text ps part.Passing c ts → DerivesPassing text ps (Some c) (t ∷ ts)

-- `in` a base graph, `cover` a clause, `passing` a clause, with these texts of predicates
pub data DerivesQuery (text : List ℕ) (ps : List Text) : Query → List Token → Type 0 where
  a_query : {base : Option Filter} {c : Clause} {passing : Option Clause} {xs ys zs : List Token} (t : Token) → DerivesBase base xs → keyword_in t.sign ≡ Some keywords.Cover
      → DerivesClause text ps part.Cover c ys → DerivesPassing text ps passing zs
      → DerivesQuery text ps (record { base = base; cover = c; passing = passing; predicates = ps }) (xs ++ t ∷ (ys ++ zs))

-- the tokens of a text spell a query
abbrev pub Spells : List ℕ → List Token → Query → Type 0
Spells text ts q = DerivesQuery text (predicates_of ts) q ts
