-- What is refused before the grammar is looked at: what the profile leaves out, and what nests or goes on too far.
-- Public contracts rest on this.
use Rattle.std.specs.Prelude.{ℕ, ◌+◌, ◌-◌, Bool, true, false, if◌then◌else◌, nat_lt, List, [], ◌∷◌, map, fold, find, filter_map, Option, Some, None}
use Rattle.c_parse.specs.declared.sign.Sign.{Sign}
use Rattle.c_parse.specs.declared.sign.Sign.TheVariants as sign
use Rattle.c_parse.specs.declared.sign.Symbol.{Symbol}
use Rattle.c_parse.specs.declared.sign.Symbol.TheVariants as symbols
use Rattle.c_parse.specs.declared.sign.Terminal.{Terminal}

-- a token that the profile leaves out
abbrev pub is_foreign : Sign → Bool
is_foreign sign.Foreign = true
is_foreign _ = false

-- the first token that the profile leaves out
abbrev pub first_foreign : List Terminal → Option Terminal
first_foreign ts = find (λ t. is_foreign t.sign) ts

-- the symbols that open a bracket, those that close one, and those that end a row of tokens
abbrev pub is_opening : Symbol → Bool
is_opening symbols.Open = true
is_opening symbols.OpenIndex = true
is_opening symbols.OpenBrace = true
is_opening _ = false

abbrev pub is_closing : Symbol → Bool
is_closing symbols.Close = true
is_closing symbols.CloseIndex = true
is_closing symbols.CloseBrace = true
is_closing _ = false

abbrev pub is_ending : Symbol → Bool
is_ending symbols.Semicolon = true
is_ending symbols.Comma = true
is_ending symbols.OpenBrace = true
is_ending symbols.CloseBrace = true
is_ending _ = false

abbrev pub has_symbol : (Symbol → Bool) → Sign → Bool
has_symbol test (sign.Symbol m) = test m
has_symbol test _ = false

-- one more token: an opening symbol adds 1, and a closing symbol of any kind takes 1 off, down to 0
abbrev pub with_bracket : ℕ → Terminal → ℕ
with_bracket n t = if has_symbol is_opening t.sign then n + 1 else (if has_symbol is_closing t.sign then n - 1 else n)

-- how many brackets are open after these tokens
abbrev pub open_brackets : List Terminal → ℕ
open_brackets ts = fold with_bracket 0 ts

-- how many tokens stand at the end of these with none of `;` `,` `{` `}` among them
abbrev pub in_row : ℕ → Terminal → ℕ
in_row n t = if has_symbol is_ending t.sign then 0 else n + 1

abbrev pub row_length : List Terminal → ℕ
row_length ts = fold in_row 0 ts

-- the limit that so many open brackets pass, or a row of so many tokens
abbrev pub passed_by : (brackets row : ℕ) → Option ℕ
passed_by brackets row = if nat_lt 60 brackets then Some 60 else (if nat_lt 256 row then Some 256 else None)

-- the limit that is passed at the last of these tokens
abbrev pub passed : List Terminal → Option ℕ
passed ts = passed_by (open_brackets ts) (row_length ts)

-- the first token, the first two, and so on
abbrev pub prefixes : List Terminal → List (List Terminal)
prefixes [] = []
prefixes (t ∷ ts) = (t ∷ []) ∷ map (λ p. t ∷ p) (prefixes ts)

abbrev pub first : List ℕ → Option ℕ
first [] = None
first (n ∷ ns) = Some n

-- the limit that the first token passes that passes one
unfoldable pub first_passed : List Terminal → Option ℕ
first_passed ts = first (filter_map passed (prefixes ts))
