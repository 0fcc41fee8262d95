-- Which bytes ask for which query, and why others are refused.
use Rattle.std.specs.Prelude.{◌≡◌, ℕ, ◌≤◌, ◌<◌, List, Some, None}
use Rattle.fq_core.specs.declared.refusal.Place.{Place}
use Rattle.fq_core.specs.declared.refusal.Place.TheVariants as place
use Rattle.fql_tokens.specs.declared.token.Token.{Token}
use Rattle.fql_tokens.specs.Accepted.{AreTokens, IsRefusedText}
use Rattle.fql_read.specs.declared.query.Query.{Query}
use Rattle.fql_read.specs.QueryForm.{Spells}
use Rattle.fql_read.specs.QueryLimits.{most_letters, first_repetition, bad_number, letters_of}

-- bytes ask for a query: their tokens spell it, its cover clause has no repetition outside quotation marks, its numbers
-- are within their bounds, and it has no more letters than the limit allows
pub record Asks (text : List ℕ) (q : Query) : Type 0 where
  pub tokens : List Token
  pub cut : AreTokens text tokens
  pub spelled : Spells text tokens q
  pub once : first_repetition q.cover.body ≡ None
  pub bounded : bad_number tokens ≡ None
  pub few : letters_of tokens q ≤ most_letters

-- bytes ask for no query, for the cause of this code, at this place; of several causes the first is told
pub data IsRefusedQuery (text : List ℕ) : ℕ → Place → Type 0 where
  no_tokens : {code : ℕ} {p : Place} → IsRefusedText text code p → IsRefusedQuery text code p
  no_query : (ts : List Token) → AreTokens text ts → ((q : Query) → Spells text ts q → ⊥) → IsRefusedQuery text 61 place.QueryWhole
  repeats : (ts : List Token) (q : Query) (column : ℕ) → AreTokens text ts → Spells text ts q → first_repetition q.cover.body ≡ Some column
      → IsRefusedQuery text 62 (place.Query column)
  out_of_bounds : (ts : List Token) (q : Query) (column : ℕ) → AreTokens text ts → Spells text ts q → first_repetition q.cover.body ≡ None → bad_number ts ≡ Some column
      → IsRefusedQuery text 64 (place.Query column)
  too_many : (ts : List Token) (q : Query) → AreTokens text ts → Spells text ts q → first_repetition q.cover.body ≡ None → bad_number ts ≡ None → most_letters < letters_of ts q
      → IsRefusedQuery text 63 (place.Limit most_letters)
