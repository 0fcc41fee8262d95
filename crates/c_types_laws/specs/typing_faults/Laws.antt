-- Which faults typing finds: their codes, and where they stand.
use Rattle.std.specs.Prelude.{◌≡◌, ◌==◌, ℕ, Bool, List, [], ◌∷◌, Option, Some, None, map, slice_get, IsTrue}
use Rattle.std.specs.List.{list_all, list_any}
use Rattle.fq_core.specs.declared.refusal.Place.{Place}
use Rattle.fq_core.specs.declared.span.Span.{Span}
use Rattle.c_values.specs.declared.kinds.Kind.{Kind}
use Rattle.c_lex.specs.declared.token.SourceText.{SourceText}
use Rattle.c_lex.specs.declared.token.Token.{Token}
use Rattle.c_lex.specs.Lexed.{Lexed}
use Rattle.c_lex.specs.Places.{position_at}
use Rattle.c_parse.specs.declared.unit.Item.{Item}
use Rattle.c_parse.specs.Items.{DerivesItems}
use Rattle.c_parse.specs.Signs.{terminal_of}
use Rattle.c_types_laws.specs.tree_contents.Contents.{item_passes}
use Rattle.c_type_rules.specs.declared.faults.Found.{Found}
use Rattle.c_type_rules.specs.Faults.{Among}
use Rattle.c_types.specs.Refusal.{IsRefused}
use Rattle.c_types.specs.Units.{faults_of}

-- ---- codes

abbrev pub IsOneOf : List ℕ → ℕ → Type 0
IsOneOf codes code = IsTrue (list_any (λ (c : ℕ). c == code) codes)

-- what typing refuses with: a construct that isn't allowed where it stands (29), names (30, 31), calls (32, 35, 39),
-- operands (33), arrays (34), cells (37) and constants (38)
abbrev pub typing_codes : List ℕ
typing_codes = 29 ∷ 30 ∷ 31 ∷ 32 ∷ 33 ∷ 34 ∷ 35 ∷ 37 ∷ 38 ∷ 39 ∷ []

abbrev pub IsTypingCode : ℕ → Type 0
IsTypingCode code = IsOneOf typing_codes code

-- ---- places

-- whatever holds of all places in the trees of a unit, holds of the place of each of its faults
abbrev pub FaultsLieInTheUnit : Type 0
FaultsLieInTheUnit =
    (number : ℕ → Kind → Bool) (place : Span → Bool) (items : List Item) → IsTrue (list_all (item_passes number place) items)
    → (f : Found) → Among f (faults_of items) → IsTypingCode f.code × IsTrue (place f.span)

-- the line of a byte of a text, by the number of the text; none where there is no such text
abbrev pub line_in : Option SourceText → ℕ → ℕ
line_in None at = 0
line_in (Some text) at = (position_at text.bytes at).line

abbrev pub HasItsLine : List SourceText → Span → Type 0
HasItsLine texts span = span.line ≡ line_in (slice_get texts span.file) span.start

-- the line that a fault tells is that of its first byte
abbrev pub FaultsOfTexts : Type 0
FaultsOfTexts =
    (texts : List SourceText) (tokens : List Token) (items : List Item) → Lexed texts tokens → DerivesItems items (map terminal_of tokens)
    → (f : Found) → Among f (faults_of items) → IsTypingCode f.code × HasItsLine texts f.span

-- so the first fault is told in one way
abbrev pub OneRefusal : Type 0
OneRefusal =
    (texts : List SourceText) (tokens : List Token) (items : List Item) → Lexed texts tokens → DerivesItems items (map terminal_of tokens)
    → (code other : ℕ) (p q : Place) → IsRefused items code p → IsRefused items other q → (code ≡ other) × (p ≡ q)
