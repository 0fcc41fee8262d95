-- A text as a row of pieces: blanks, comments, directive lines and tokens (ISO/IEC 9899:2011, 5.1.1.2p1, 6.4 and 6.10).
-- What `tokens` promises rests on this module.
use Rattle.std.specs.Prelude.{◌≡◌, ℕ, ◌+◌, Bool, true, false, ◌&&◌, ◌||◌, ◌==◌, if◌then◌else◌, List, [], ◌∷◌, take, drop, Option, Some, None, option_map, suc, codes}
use Rattle.std.specs.List.{list_any, prefix_len}
use Rattle.std.specs.Str.{bytes_eq}
use Rattle.c_lex.specs.declared.piece.Allowed.{Allowed}
use Rattle.c_lex.specs.declared.piece.Piece.{Piece}
use Rattle.c_lex.specs.declared.piece.Piece.TheVariants.{Gap, Directive, Token, Unknown, Open}
use Rattle.c_lex.specs.Bytes.{is_blank, is_in_line}
use Rattle.c_lex.specs.Forms.{longest}

-- the bytes of a text from one place on, n of them
abbrev pub part : List ℕ → ℕ → ℕ → List ℕ
part text at n = take n (drop at text)

-- the first byte is this one
abbrev pub starts : ℕ → List ℕ → Bool
starts a [] = false
starts a (b ∷ bs) = b == a

-- the first bytes are `*/`
abbrev pub closes : List ℕ → Bool
closes [] = false
closes (b ∷ bs) = b == 42 && starts 47 bs

-- how many bytes there are up to the first `*/`, and with it
unfoldable pub closing : List ℕ → Option ℕ
closing [] = None
closing (b ∷ bs) = if closes (b ∷ bs) then Some 2 else option_map suc (closing bs)

-- `/*`, these bytes more and `*/` among them are a comment (6.4.9p1)
abbrev pub block_comment : (at : ℕ) → Option ℕ → Piece
block_comment at None = Open at
block_comment at (Some n) = Gap at (2 + n)

abbrev pub token_or_unknown : (at : ℕ) → Option ℕ → Piece
token_or_unknown at None = Unknown at
token_or_unknown at (Some n) = Token at n

-- the piece with which the rest of a text begins at a place, if there is more: a blank, a comment to the line's end or to
-- `*/` (6.4.9), a directive line up to its line feed where one may begin, the longest token (6.4p4), or none of these
unfoldable pub first_piece : Allowed → (at : ℕ) → List ℕ → Option Piece
first_piece allowed at [] = None
first_piece allowed at (b ∷ bs) =
    if is_blank b then Some (Gap at 1)
    else (if b == 47 && starts 47 bs then Some (Gap at (prefix_len is_in_line (b ∷ bs)))
    else (if b == 47 && starts 42 bs then Some (block_comment at (closing (drop 1 bs)))
    else (if b == 35 && allowed.directive then Some (Directive at (prefix_len is_in_line (b ∷ bs)))
    else Some (token_or_unknown at (longest allowed.header (b ∷ bs))))))

-- where a piece ends; none of what no piece follows
abbrev pub end_of : Piece → Option ℕ
end_of (Gap at n) = Some (at + n)
end_of (Directive at n) = Some (at + n)
end_of (Token at n) = Some (at + n)
end_of (Unknown at) = None
end_of (Open at) = None

-- from a place on a text is these pieces, one after the other, where those before stand with the last first and say
-- what may begin. Nothing follows a place where no piece begins, or a comment without an end.
pub data Row (allowed : List Piece → Allowed) (text : List ℕ) : (at : ℕ) → (before after : List Piece) → Type 0 where
  ends : {at : ℕ} {before : List Piece} → first_piece (allowed before) at (drop at text) ≡ None → Row allowed text at before []
  stops : {at : ℕ} {before : List Piece} (p : Piece) → first_piece (allowed before) at (drop at text) ≡ Some p → end_of p ≡ None
      → Row allowed text at before (p ∷ [])
  goes_on : {at : ℕ} {before after : List Piece} (p : Piece) (next : ℕ) → first_piece (allowed before) at (drop at text) ≡ Some p
      → end_of p ≡ Some next → Row allowed text next (p ∷ before) after → Row allowed text at before (p ∷ after)

abbrev pub has_line_feed : List ℕ → Bool
has_line_feed bytes = list_any (λ b. b == 10) bytes

-- since the last line feed before, or since the text's beginning, there are only blanks and comments (6.10p2)
unfoldable pub begins_line : (text : List ℕ) → (before : List Piece) → Bool
begins_line text [] = true
begins_line text (Gap at n ∷ before) = has_line_feed (part text at n) || begins_line text before
begins_line text (p ∷ before) = false

-- these are the pieces of a text: a directive may begin a line, and no header's name is looked for
abbrev pub ArePieces : (text : List ℕ) → List Piece → Type 0
ArePieces text pieces = Row (λ before. record { directive = begins_line text before; header = false }) text 0 [] pieces

abbrev pub add_piece : Piece → List Piece → List Piece
add_piece (Gap at n) ps = ps
add_piece p ps = p ∷ ps

-- the pieces other than blanks and comments
unfoldable pub without_gaps : List Piece → List Piece
without_gaps [] = []
without_gaps (p ∷ ps) = add_piece p (without_gaps ps)

-- it is the word `include` alone
unfoldable pub is_include : (line : List ℕ) → List Piece → Bool
is_include line (Token at n ∷ []) = bytes_eq (part line at n) (codes "include")
is_include line _ = false

-- these are the pieces of a directive line after its `#`: no directive begins, and the name of a header follows the word
-- `include` (6.4.7p4)
abbrev pub AreLinePieces : (line : List ℕ) → List Piece → Type 0
AreLinePieces line pieces = Row (λ before. record { directive = false; header = is_include line (without_gaps before) }) line 1 [] pieces

-- these are the pieces of a directive line after its `#` other than blanks and comments
abbrev pub AreLineTokens : (line : List ℕ) → List Piece → Type 0
AreLineTokens line tokens = (pieces : List Piece) × AreLinePieces line pieces × (tokens ≡ without_gaps pieces)
