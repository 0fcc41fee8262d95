-- The replacement of a word step by step, by a stack of frames in the lists of macros. Nothing that is promised speaks
-- of this.
use Rattle.std.specs.Prelude.{◌≡◌, ℕ, ◌+◌, ◌≤◌, ◌<◌, List, [], ◌∷◌, ◌++◌, length, map, drop, Some, None, Result, Ok, Err}
use Rattle.std.specs.declared.alloc.AllocError.{AllocError}
use Rattle.fq_core.specs.declared.span.Span.{Span}
use Rattle.c_lex.specs.declared.expand.Frame.{Frame}
use Rattle.c_lex.specs.declared.expand.Turn.{Turn}
use Rattle.c_lex.specs.declared.expand.Turn.TheVariants as turn
use Rattle.c_lex.specs.declared.expand.Expansion.{Expansion}
use Rattle.c_lex.specs.declared.expand.Expansion.TheVariants as expansion
use Rattle.c_lex.specs.declared.macros.Replacement.{Replacement}
use Rattle.c_lex.specs.declared.macros.Macro.{Macro}
use Rattle.c_lex.specs.declared.token.Token.{Token}
use Rattle.c_lex.specs.Macros.{macro_of, list_at, Expands}
use Rattle.c_lex.specs.Lexed.{most, IsWithin, token_at}

-- what a frame has still to give
abbrev pub unread_of : List Macro → Frame → List Replacement
unread_of table frame = drop frame.at (list_at table frame.index)

-- what the frames have still to give, the last one first
unfoldable pub pending : List Macro → List Frame → List Replacement
pending table [] = []
pending table (f ∷ fs) = pending table fs ++ unread_of table f

-- one turn: a frame is done, a token is made, a word is replaced, or a limit forbids it
pub data Turned (table : List Macro) (span : Span) (frames : List Frame) (tokens : List Token) (replaced : ℕ)
    : List Frame → List Token → ℕ → Result Turn AllocError → Type 0 where
  no_memory : {fs : List Frame} {ts : List Token} {n : ℕ} (e : AllocError) → Turned table span frames tokens replaced fs ts n (Err e)
  ends : {fs : List Frame} {ts : List Token} {n : ℕ} → frames ≡ [] → ts ≡ tokens → n ≡ replaced → Turned table span frames tokens replaced fs ts n (Ok turn.Ends)
  frame_done : {fs : List Frame} {ts : List Token} {n : ℕ} → pending table fs ≡ pending table frames → length fs < length frames → ts ≡ tokens → n ≡ replaced
      → Turned table span frames tokens replaced fs ts n (Ok turn.GoesOn)
  makes_token : {fs : List Frame} {ts : List Token} {n : ℕ} (r : Replacement) → pending table frames ≡ r ∷ pending table fs → macro_of table r.text ≡ None
      → length fs ≡ length frames → length tokens < most → ts ≡ tokens ++ token_at span r ∷ [] → n ≡ replaced
      → Turned table span frames tokens replaced fs ts n (Ok turn.GoesOn)
  replaces : {fs : List Frame} {ts : List Token} {n : ℕ} (r : Replacement) (rs list : List Replacement) → pending table frames ≡ r ∷ rs
      → macro_of table r.text ≡ Some list → pending table fs ≡ list ++ rs → length fs ≡ length frames + 1 → ts ≡ tokens → replaced < most → n ≡ replaced + 1
      → Turned table span frames tokens replaced fs ts n (Ok turn.GoesOn)
  passes_tokens : {fs : List Frame} {ts : List Token} {n : ℕ} (r : Replacement) (rs : List Replacement) → pending table frames ≡ r ∷ rs → macro_of table r.text ≡ None
      → most ≤ length tokens → Turned table span frames tokens replaced fs ts n (Ok turn.Passes)
  passes_replacements : {fs : List Frame} {ts : List Token} {n : ℕ} (r : Replacement) (rs list : List Replacement) → pending table frames ≡ r ∷ rs
      → macro_of table r.text ≡ Some list → most ≤ replaced → Turned table span frames tokens replaced fs ts n (Ok turn.Passes)

-- what comes of some tokens: all that they give stands behind the tokens there were, or the limits forbid what they give
abbrev pub ExpandsTo : List Macro → List Replacement → Span → (old new : List Token) → (replaced now : ℕ) → Expansion → Type 0
ExpandsTo table rs span old new replaced now expansion.Done =
    (us : List Replacement) × (m : ℕ) × Expands table rs us m × IsWithin (length old + length us) (replaced + m)
    × (new ≡ old ++ map (token_at span) us) × (now ≡ replaced + m)
ExpandsTo table rs span old new replaced now expansion.Passed =
    (us : List Replacement) (m : ℕ) → Expands table rs us m → IsWithin (length old + length us) (replaced + m) → ⊥
