-- What the pieces of a text come to, and the text.
use Rattle.std.proofs.Common.{◌≡◌, ℕ, ◌+◌, ◌≤◌, ◌<◌, get_or, drop, Bool, true, false, List, [], ◌∷◌, ◌++◌, length, length-append, refl, arith, ap, sym, ◌∙◌, append-nil, append_assoc, add-zero}
use Rattle.std.specs.Prelude.{Result, Ok, Err, OnOk, Some, None, Option}
use Rattle.std.proofs.lemmas.List.{drop_more, drop_all}
use Rattle.fq_core.specs.declared.span.Span.{Span}
use Rattle.fq_core.specs.declared.refusal.Place.{Place}
use Rattle.fq_core.specs.declared.refusal.Place.TheVariants as place
use Rattle.fq_core.specs.declared.refusal.Fault.{Fault}
use Rattle.fq_core.specs.declared.refusal.Fault.TheVariants as fault
use Rattle.c_lex.specs.declared.output.Output.{Output}
use Rattle.c_lex.specs.declared.piece.Allowed.{Allowed}
use Rattle.c_lex.specs.declared.piece.Piece.{Piece}
use Rattle.c_lex.specs.declared.piece.Piece.TheVariants as piece
use Rattle.c_lex.specs.declared.position.Position.{Position}
use Rattle.c_lex.specs.declared.table.Table.{Table}
use Rattle.c_lex.specs.declared.token.Token.{Token}
use Rattle.c_lex.specs.declared.token.SourceText.{SourceText}
use Rattle.c_lex.specs.declared.macros.Macro.{Macro}
use Rattle.c_lex.specs.Lexed as lexed
use Rattle.c_lex.specs.Lexed.{Outcome, accepted, refused, after, Reads, ReadsText, ReadsTexts, Answers, line_of}
use Rattle.c_lex.specs.Pieces.{Row, ends, stops, goes_on, begins_line, end_of, first_piece, part}
use Rattle.c_lex.specs.Places.{span_of, position_at}
use Rattle.c_lex.specs.Table.{IsIndexed}
use Rattle.c_lex.specs.Taking.{Adds, IsAllowed, LiesAt, TokenTaken, DirectiveTaken, PieceTaken, TextTaken, begins_line_after}
use Rattle.c_lex.proofs.Total.{some_row, ends_within}

after_nothing : (o : Outcome) → after [] o ≡ o
after_nothing (accepted us m r) = refl
after_nothing (refused c p) = refl

-- ---- pieces

adds_nothing : (output : Output) → IsAllowed output → Adds output output [] 0
adds_nothing output allowed = (allowed, sym (append-nil output.tokens.items), sym (add-zero output.replaced))

module _ (file : ℕ) (text : List ℕ) (at n : ℕ) where
  pub gap_taken : (table : Table) (output : Output) → IsIndexed table → IsAllowed output → PieceTaken file text (piece.Gap at n) table table output output (Ok tt)
  gap_taken table output indexed allowed = (indexed, [], 0, adds_nothing output allowed, refl)

  module _ (table : Table) (indexed : IsIndexed table) (old new : Output) where
    token_here : (r : Result Unit Fault) → TokenTaken table.macros.items (part text at n) (span_of file text at n) old new r → PieceTaken file text (piece.Token at n) table table old new r
    token_here (Ok u) t = (indexed, t.0, t.1, t.2, t.3)
    token_here (Err fault.Memory) t = tt
    token_here (Err (fault.Refused f)) t = t

    pub token_taken : (bytes : List ℕ) (span : Span) (r : Result Unit Fault) → bytes ≡ part text at n → span ≡ span_of file text at n → TokenTaken table.macros.items bytes span old new r
        → PieceTaken file text (piece.Token at n) table table old new r
    token_taken bytes span r e f t = token_here r (rw (e, f) at t)

  module _ (old new : Table) (output : Output) (allowed : IsAllowed output) where
    directive_here : (r : Result Unit Fault) → OnOk r (IsIndexed new) → DirectiveTaken (part text at n) (line_of file text at) old.macros.items new.macros.items r
        → PieceTaken file text (piece.Directive at n) old new output output r
    directive_here (Ok u) i t = (i, [], 0, adds_nothing output allowed, t)
    directive_here (Err fault.Memory) i t = tt
    directive_here (Err (fault.Refused f)) i t = t

    pub directive_taken : (line : List ℕ) (place : Place) (r : Result Unit Fault) → line ≡ part text at n → place ≡ line_of file text at → OnOk r (IsIndexed new)
        → DirectiveTaken line place old.macros.items new.macros.items r → PieceTaken file text (piece.Directive at n) old new output output r
    directive_taken line place r e f i t = directive_here r i (rw (e, f) at t)

module _ (file : ℕ) (text : List ℕ) (at a : ℕ) (p : Position) (here : p ≡ position_at text at) (same : a ≡ at) where
  pub span_here : (n : ℕ) → ◌≡◌ {A = Span} (record { file = file; line = p.line; column = p.column; start = a; end = a + n }) (span_of file text a n)
  unfolding span_of
  span_here n = rw (here, same) refl

  pub line_here : place.Source file p.line ≡ line_of file text a
  line_here = rw (here, same) refl

-- ---- how far a text is read

abbrev pub allowed_in : List ℕ → List Piece → Allowed
allowed_in text before = record { directive = begins_line text before; header = false }

pub record ReadSoFar (file : ℕ) (text : List ℕ) (at : ℕ) (begins : Bool) (table : List Macro) (old now : Output) : Type 0 where
  pub before : List Piece
  pub line : begins ≡ begins_line text before
  pub made : List Token
  pub parts : now.tokens.items ≡ old.tokens.items ++ made
  pub rest : (ps : List Piece) (o : Outcome) → Row (allowed_in text) text at before ps → Reads file text table (length now.tokens.items) now.replaced ps o
      → ReadsText file text (length old.tokens.items) old.replaced (after made o)

pub begins : (file : ℕ) (text : List ℕ) (table : List Macro) (output : Output) → table ≡ [] → ReadSoFar file text 0 true table output output
unfolding begins_line
begins file text table output e = record {
  before = [];
  line = refl;
  made = [];
  parts = sym (append-nil output.tokens.items);
  rest = λ ps o c d. rw (after_nothing o) (record { pieces = ps; cut = c; read = rw e at d });
}

after_more : (us vs : List Token) (o : Outcome) → after (us ++ vs) o ≡ after us (after vs o)
after_more us vs (accepted ws m r) = ap (λ ts. accepted ts m r) (append_assoc us vs ws)
after_more us vs (refused c p) = refl

line_after : (text : List ℕ) (before : List Piece) (b : Bool) (p : Piece) → b ≡ begins_line text before → begins_line_after text b p ≡ begins_line text (p ∷ before)
unfolding begins_line
line_after text before b (piece.Gap at n) e = rw e refl
line_after text before b (piece.Directive at n) e = refl
line_after text before b (piece.Token at n) e = refl
line_after text before b (piece.Unknown at) e = refl
line_after text before b (piece.Open at) e = refl

module _ (file : ℕ) (text : List ℕ) (at : ℕ) (b : Bool) (table : Table) (old now : Output) (so : ReadSoFar file text at b table.macros.items old now) where
  abbrev Here : Option Piece → Type 0
  Here o = o ≡ first_piece (record { directive = b; header = false }) at (drop at text)

  at_here : (o : Option Piece) → Here o → first_piece (allowed_in text so.before) at (drop at text) ≡ o
  at_here o e = rw so.line at (sym e)

  pub text_ends : Here None → IsAllowed now → TextTaken file text old now (Ok tt)
  text_ends e w =
      let d : ReadsText file text (length old.tokens.items) old.replaced (accepted (so.made ++ []) (length now.tokens.items) now.replaced) = so.rest [] _ (ends (at_here None e)) lexed.all_read in
      (w, so.made, so.parts, rw append-nil at d)

  module _ (p : Piece) (here : Here (Some p)) (new : Table) (later : Output) where
    counted : (us : List Token) (m : ℕ) → Adds now later us m → length later.tokens.items ≡ length now.tokens.items + length us
    counted us m t = ap length t.1 ∙ length-append now.tokens.items us

    more_parts : (us : List Token) (m : ℕ) → Adds now later us m → later.tokens.items ≡ old.tokens.items ++ (so.made ++ us)
    more_parts us m t = t.1 ∙ ap (λ ts. ts ++ us) so.parts ∙ append_assoc old.tokens.items so.made us

    -- what comes of the pieces from this one on
    read_on : (us : List Token) (m : ℕ) → Adds now later us m → lexed.ComesTo file text table.macros.items (length now.tokens.items) now.replaced p (lexed.gives us m new.macros.items)
        → (ps : List Piece) (o : Outcome) → Reads file text new.macros.items (length later.tokens.items) later.replaced ps o
        → Reads file text table.macros.items (length now.tokens.items) now.replaced (p ∷ ps) (after us o)
    read_on us m t x ps o d = lexed.goes_on p us m new.macros.items x (rw (counted us m t, t.2) at d)

    pub past_piece : (next : ℕ) → end_of p ≡ Some next → PieceTaken file text p table new now later (Ok tt) → ReadSoFar file text next (begins_line_after text b p) new.macros.items old later
    past_piece next e t = record {
      before = p ∷ so.before;
      line = line_after text so.before b p so.line;
      made = so.made ++ t.1;
      parts = more_parts t.1 t.2 t.3;
      rest = λ ps o c d. rw (after_more so.made t.1 o) (so.rest (p ∷ ps) (after t.1 o) (goes_on p next (at_here (Some p) here) e c) (read_on t.1 t.2 t.3 t.4 ps o d));
    }

    pub text_stops : end_of p ≡ None → PieceTaken file text p table new now later (Ok tt) → TextTaken file text old later (Ok tt)
    text_stops e t =
        let d : ReadsText file text (length old.tokens.items) old.replaced (accepted (so.made ++ (t.1 ++ [])) (length later.tokens.items) later.replaced) =
        so.rest (p ∷ []) _ (stops p (at_here (Some p) here) e) (read_on t.1 t.2 t.3 t.4 [] _ lexed.all_read) in
        (t.3.0, so.made ++ t.1, more_parts t.1 t.2 t.3, rw append-nil at d)

    row_on : (place : at ≤ length text) → LiesAt at (length text) p → (ps : List Piece) × Row (allowed_in text) text at so.before (p ∷ ps)
    row_on place lies = by (end_of p) refl
      where
        by : (o : Option ℕ) → end_of p ≡ o → (ps : List Piece) × Row (allowed_in text) text at so.before (p ∷ ps)
        by None e = ([], stops p (at_here (Some p) here) e)
        by (Some next) e =
            let w = ends_within at (length text) p next lies e in
            let r = some_row (allowed_in text) text next (p ∷ so.before) w.1 in
            (r.0, goes_on p next (at_here (Some p) here) e r.1)

    pub text_refused : at ≤ length text → LiesAt at (length text) p → (f : Fault) → PieceTaken file text p table new now later (Err f) → TextTaken file text old later (Err f)
    text_refused place lies fault.Memory t = tt
    text_refused place lies (fault.Refused f) t = let r = row_on place lies in so.rest (p ∷ r.0) (refused f.code f.place) r.1 (lexed.is_refused p f.code f.place t)

-- ---- how many of the texts are read

pub record TextsSoFar (texts : List SourceText) (i : ℕ) (now : Output) : Type 0 where
  pub rest : (o : Outcome) → ReadsTexts i (length now.tokens.items) now.replaced (drop i texts) o → ReadsTexts 0 0 0 texts (after now.tokens.items o)
  pub allowed : IsAllowed now

pub texts_begin : (texts : List SourceText) (now : Output) → now.tokens.items ≡ [] → now.replaced ≡ 0 → TextsSoFar texts 0 now
texts_begin texts now e f = record { rest = λ o d. rw (e, after_nothing o) (rw (e, f) at d); allowed = rw (e, f) (omega arith, omega arith) }

module _ (texts : List SourceText) (i : ℕ) (t : SourceText) (lt : i < length texts) (here : t ≡ get_or texts i t) (now later : Output) (so : TextsSoFar texts i now) where
  next_text : drop i texts ≡ t ∷ drop (i + 1) texts
  next_text = drop_more texts i t lt ∙ ap (λ x. x ∷ drop (i + 1) texts) (sym here)

  pub texts_more : TextTaken i t.bytes now later (Ok tt) → TextsSoFar texts (i + 1) later
  texts_more x = record {
    rest = λ o d. rw (x.2, after_more now.tokens.items x.1 o) (so.rest (after x.1 o) (rw next_text (lexed.accepts x.3 d)));
    allowed = x.0;
  }

  pub texts_refused : (f : Fault) → TextTaken i t.bytes now later (Err f) → Answers texts (Err f)
  texts_refused fault.Memory x = tt
  texts_refused (fault.Refused f) x = so.rest (refused f.code f.place) (rw next_text (lexed.refuses x))

pub texts_end : (texts : List SourceText) (i : ℕ) (now : Output) → length texts ≤ i → TextsSoFar texts i now → Answers texts (Ok now.tokens)
texts_end texts i now le so =
    let e : drop i texts ≡ [] = drop_all i texts le in
    let d : ReadsTexts 0 0 0 texts (accepted (now.tokens.items ++ []) (length now.tokens.items) now.replaced) = so.rest (accepted [] (length now.tokens.items) now.replaced) (rw e lexed.no_text) in
    (length now.tokens.items, now.replaced, rw append-nil at d)
