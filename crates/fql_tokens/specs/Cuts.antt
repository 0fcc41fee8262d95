-- How a query is cut into blanks and tokens.
use Rattle.std.specs.Prelude.{◌≡◌, ℕ, ◌+◌, List, [], ◌∷◌, drop}
use Rattle.fql_tokens.specs.declared.token.Mark.TheVariants as marks
use Rattle.fql_tokens.specs.declared.token.FilterName.TheVariants as filters
use Rattle.fql_tokens.specs.declared.token.Sign.{Sign}
use Rattle.fql_tokens.specs.declared.token.Sign.TheVariants as sign
use Rattle.fql_tokens.specs.declared.token.Token.{Token}
use Rattle.fql_tokens.specs.declared.first.Mode.{Mode}
use Rattle.fql_tokens.specs.declared.first.Mode.TheVariants as modes
use Rattle.fql_tokens.specs.declared.first.Beginning.TheVariants as begins
use Rattle.fql_tokens.specs.First.{beginning}

-- what a token says of the place behind it: the name of a file follows `@FILE` and `(`
abbrev pub after : Mode → Sign → Mode
after m (sign.Filter filters.File) = modes.FileFilter
after modes.FileFilter (sign.Mark marks.Open) = modes.FileName
after m s = modes.Plain

-- what comes of cutting: tokens, or the column at which no token begins
pub data Cutting : Type 0 where
  accepted : List Token → Cutting
  stopped : ℕ → Cutting

abbrev pub with_token : Token → Cutting → Cutting
with_token t (accepted ts) = accepted (t ∷ ts)
with_token t (stopped column) = stopped column

-- bytes from a column on are cut into blanks and tokens, up to their end or a place at which no token begins
pub data Cuts : ℕ → Mode → List ℕ → Cutting → Type 0 where
  ends : {c : ℕ} {m : Mode} {bs : List ℕ} → beginning m bs ≡ begins.End → Cuts c m bs (accepted [])
  a_blank : {c : ℕ} {m : Mode} {bs : List ℕ} {o : Cutting} → beginning m bs ≡ begins.Blank → Cuts (c + 1) m (drop 1 bs) o → Cuts c m bs o
  a_token : {c : ℕ} {m : Mode} {bs : List ℕ} {o : Cutting} (s : Sign) (n : ℕ) → beginning m bs ≡ begins.Token s n → Cuts (c + n) (after m s) (drop n bs) o
      → Cuts c m bs (with_token (record { sign = s; column = c }) o)
  unknown : {c : ℕ} {m : Mode} {bs : List ℕ} → beginning m bs ≡ begins.Unknown → Cuts c m bs (stopped c)

-- a whole query is cut
abbrev pub IsCut : List ℕ → Cutting → Type 0
IsCut text o = Cuts 1 modes.Plain text o
