-- Which tokens a query has, and why one is refused before its tokens are read.
use Rattle.std.specs.Prelude.{◌≡◌, ℕ, ◌≤◌, ◌<◌, true, false, List, length}
use Rattle.fq_core.specs.declared.refusal.Place.{Place}
use Rattle.fq_core.specs.declared.refusal.Place.TheVariants as place
use Rattle.fql_tokens.specs.declared.token.Token.{Token}
use Rattle.fql_tokens.specs.Cuts.{accepted, stopped, IsCut}
use Rattle.fql_tokens.specs.Limits.{most_bytes, most_brackets, is_too_deep}

-- these are the tokens of a query, and it is within the limits
pub record AreTokens (text : List ℕ) (tokens : List Token) : Type 0 where
  pub short : length text ≤ most_bytes
  pub cut : IsCut text (accepted tokens)
  pub shallow : is_too_deep tokens ≡ false

-- a query is refused with a code and a place before its tokens are read: it is too long, at a column no token begins,
-- or too many brackets are open at a token
pub data IsRefusedText (text : List ℕ) : ℕ → Place → Type 0 where
  too_long : most_bytes < length text → IsRefusedText text 63 (place.Limit most_bytes)
  no_token : (column : ℕ) → length text ≤ most_bytes → IsCut text (stopped column) → IsRefusedText text 60 (place.Query column)
  too_deep : (tokens : List Token) → length text ≤ most_bytes → IsCut text (accepted tokens) → is_too_deep tokens ≡ true → IsRefusedText text 63 (place.Limit most_brackets)
