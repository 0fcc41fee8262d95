-- Directive lines (ISO/IEC 9899:2011, 6.10): `#include` of a name in angle brackets and `#define` of a name without
-- parameters. What `tokens` promises rests on this module.
use Rattle.std.specs.Prelude.{ℕ, Bool, true, false, ◌&&◌, not, if◌then◌else◌, nat_le, List, [], ◌∷◌, drop, map, Option, None, option_map, codes}
use Rattle.std.specs.List.{list_all}
use Rattle.std.specs.Str.{bytes_eq}
use Rattle.containers.specs.Lists.{all_there}
use Rattle.c_lex.specs.declared.piece.Piece.{Piece}
use Rattle.c_lex.specs.declared.piece.Piece.TheVariants as piece
use Rattle.c_lex.specs.declared.directive.Directive.{Directive}
use Rattle.c_lex.specs.declared.directive.Directive.TheVariants as directive
use Rattle.c_lex.specs.declared.macros.Replacement.{Replacement}
use Rattle.c_lex.specs.Bytes.{is_letter}
use Rattle.c_lex.specs.Constants.{token_kind}
use Rattle.c_lex.specs.Pieces.{starts, part}

abbrev pub is_ascii : ℕ → Bool
is_ascii b = nat_le b 127

-- the first byte is a letter or `_`
abbrev pub is_word : List ℕ → Bool
is_word [] = false
is_word (b ∷ bs) = is_letter b

abbrev pub is_a_token : Piece → Bool
is_a_token (piece.Token at n) = true
is_a_token _ = false

abbrev pub all_tokens : List Piece → Bool
all_tokens pieces = list_all is_a_token pieces

-- after `include`, a header's name and nothing more (6.10.2p2); a byte above 127 stands in comments alone
abbrev pub include_of : List ℕ → List Piece → Directive
include_of header [] = if list_all is_ascii header then directive.Include else directive.UnknownByte
include_of header _ = directive.Wrong

-- after `define`, a word, which no `(` follows directly, and tokens (6.10.3p9)
abbrev pub define_of : (line : List ℕ) → ℕ → ℕ → List Piece → Directive
define_of line at n list =
    if is_word (part line at n) && not (starts 40 (drop n (drop at line))) && all_tokens list then directive.Define at n else directive.Wrong

abbrev pub directive_named : (line : List ℕ) → ℕ → ℕ → ℕ → ℕ → List Piece → Directive
directive_named line a n b m rest =
    if bytes_eq (part line a n) (codes "include") then include_of (part line b m) rest
    else (if bytes_eq (part line a n) (codes "define") then define_of line b m rest else directive.Wrong)

abbrev pub directive_by : (line : List ℕ) → Piece → Piece → List Piece → Directive
directive_by line (piece.Token a n) (piece.Token b m) rest = directive_named line a n b m rest
directive_by line first second rest = directive.Wrong

-- what the tokens of a line say, after its `#`
unfoldable pub directive_of : (line : List ℕ) → List Piece → Directive
directive_of line (first ∷ second ∷ rest) = directive_by line first second rest
directive_of line _ = directive.Wrong

-- a token that a macro gives
abbrev pub replacement_of : List ℕ → Option Replacement
replacement_of text = option_map (λ kind. record { kind = kind; text = text }) (token_kind text)

abbrev pub replacement_at : (line : List ℕ) → Piece → Option Replacement
replacement_at line (piece.Token at n) = replacement_of (part line at n)
replacement_at line _ = None

-- the tokens of a macro's list, where no number is too wide for its kinds
unfoldable pub list_of : (line : List ℕ) → List Piece → Option (List Replacement)
list_of line tokens = all_there (map (replacement_at line) tokens)
