-- What the functions that take tokens, directive lines and texts answer, by what these come to. Nothing that is promised
-- speaks of this.
use Rattle.std.specs.Prelude.{◌≡◌, ℕ, ◌+◌, ◌≤◌, ◌<◌, ⊤, Bool, true, false, ◌||◌, List, [], ◌∷◌, ◌++◌, length, Result, Ok, Err}
use Rattle.fq_core.specs.declared.span.Span.{Span}
use Rattle.fq_core.specs.declared.refusal.Place.{Place}
use Rattle.fq_core.specs.declared.refusal.Fault.{Fault}
use Rattle.fq_core.specs.declared.refusal.Fault.TheVariants as fault
use Rattle.c_lex.specs.declared.macros.Replacement.{Replacement}
use Rattle.c_lex.specs.declared.macros.Macro.{Macro}
use Rattle.c_lex.specs.declared.output.Output.{Output}
use Rattle.c_lex.specs.declared.piece.Piece.{Piece}
use Rattle.c_lex.specs.declared.piece.Piece.TheVariants as piece
use Rattle.c_lex.specs.declared.table.Table.{Table}
use Rattle.c_lex.specs.declared.token.Token.{Token}
use Rattle.c_lex.specs.Lexed.{most, IsWithin, token_at, the_limit, accepted, refused, gives, stops, TokenComesTo, LineComesTo, ComesTo, ReadsText}
use Rattle.c_lex.specs.Pieces.{has_line_feed, part}
use Rattle.c_lex.specs.Table.{IsIndexed}

-- the output holds no more than the limits allow
abbrev pub IsAllowed : Output → Type 0
IsAllowed output = IsWithin (length output.tokens.items) output.replaced

-- these tokens and so many replaced words are added
abbrev pub Adds : (old new : Output) → List Token → ℕ → Type 0
Adds old new us m = IsAllowed new × (new.tokens.items ≡ old.tokens.items ++ us) × (new.replaced ≡ old.replaced + m)

-- a token with these bytes at this span
abbrev pub TokenTaken : List Macro → (bytes : List ℕ) → Span → (old new : Output) → Result Unit Fault → Type 0
TokenTaken table bytes span old new (Ok u) =
    (us : List Token) × (m : ℕ) × Adds old new us m × TokenComesTo table bytes span (length old.tokens.items) old.replaced (gives us m table)
TokenTaken table bytes span old new (Err fault.Memory) = ⊤
TokenTaken table bytes span old new (Err (fault.Refused f)) = TokenComesTo table bytes span (length old.tokens.items) old.replaced (stops f.code f.place)

-- a token that no macro replaces
abbrev pub PlainTaken : Replacement → Span → (old new : Output) → Result Unit Fault → Type 0
PlainTaken word span old new (Ok u) = Adds old new (token_at span word ∷ []) 0
PlainTaken word span old new (Err fault.Memory) = ⊤
PlainTaken word span old new (Err (fault.Refused f)) = (f ≡ record { code = 15; place = the_limit }) × (most ≤ length old.tokens.items)

-- a directive line, with its `#`, at this place, and the macros before and afterwards
abbrev pub DirectiveTaken : (line : List ℕ) → Place → (old new : List Macro) → Result Unit Fault → Type 0
DirectiveTaken line place old new (Ok u) = LineComesTo old line place (gives [] 0 new)
DirectiveTaken line place old new (Err fault.Memory) = ⊤
DirectiveTaken line place old new (Err (fault.Refused f)) = LineComesTo old line place (stops f.code f.place)

abbrev pub is_gap : Piece → Bool
is_gap (piece.Gap at n) = true
is_gap _ = false

-- whether a directive may begin after a piece, by whether it may begin before
abbrev pub begins_line_after : (text : List ℕ) → Bool → Piece → Bool
begins_line_after text before (piece.Gap at n) = has_line_feed (part text at n) || before
begins_line_after text before _ = false

-- a piece begins at this place, and lies within so many bytes
abbrev pub LiesAt : (at most : ℕ) → Piece → Type 0
LiesAt at most (piece.Gap a n) = (a ≡ at) × (1 ≤ n) × (at + n ≤ most)
LiesAt at most (piece.Directive a n) = (a ≡ at) × (1 ≤ n) × (at + n ≤ most)
LiesAt at most (piece.Token a n) = (a ≡ at) × (1 ≤ n) × (at + n ≤ most)
LiesAt at most (piece.Unknown a) = (a ≡ at) × (at < most)
LiesAt at most (piece.Open a) = (a ≡ at) × (at < most)

-- a piece of a text
abbrev pub PieceTaken : (file : ℕ) → (text : List ℕ) → Piece → (before now : Table) → (old new : Output) → Result Unit Fault → Type 0
PieceTaken file text p before now old new (Ok u) =
    IsIndexed now × (us : List Token) × (m : ℕ) × Adds old new us m
    × ComesTo file text before.macros.items (length old.tokens.items) old.replaced p (gives us m now.macros.items)
PieceTaken file text p before now old new (Err fault.Memory) = ⊤
PieceTaken file text p before now old new (Err (fault.Refused f)) =
    ComesTo file text before.macros.items (length old.tokens.items) old.replaced p (stops f.code f.place)

-- a text
abbrev pub TextTaken : (file : ℕ) → (text : List ℕ) → (old new : Output) → Result Unit Fault → Type 0
TextTaken file text old new (Ok u) =
    IsAllowed new × (us : List Token) × (new.tokens.items ≡ old.tokens.items ++ us)
    × ReadsText file text (length old.tokens.items) old.replaced (accepted us (length new.tokens.items) new.replaced)
TextTaken file text old new (Err fault.Memory) = ⊤
TextTaken file text old new (Err (fault.Refused f)) = ReadsText file text (length old.tokens.items) old.replaced (refused f.code f.place)
