-- Which codes a refusal of texts has.
use Rattle.std.proofs.Common.{ℕ, Bool, true, false, List, [], ◌∷◌, ◌++◌, Some, None, refl, sym, subst}
use Rattle.std.specs.Prelude.{Option, ◌==◌, ◌||◌, IsTrue}
use Rattle.std.specs.List.{list_any}
use Rattle.fq_core.specs.declared.refusal.Place.{Place}
use Rattle.c_lex.specs.declared.directive.Directive.{Directive}
use Rattle.c_lex.specs.declared.directive.Directive.TheVariants as says
use Rattle.c_lex.specs.declared.piece.Piece.{Piece}
use Rattle.c_lex.specs.declared.piece.Piece.TheVariants as piece
use Rattle.c_lex.specs.declared.macros.Macro.{Macro}
use Rattle.c_lex.specs.declared.macros.Replacement.{Replacement}
use Rattle.c_lex.specs.declared.token.SourceText.{SourceText}
use Rattle.c_lex.specs.declared.token.Token.{Token}
use Rattle.c_lex.specs.Directives.{directive_of}
use Rattle.c_lex.specs.Lexed as lexed
use Rattle.c_lex.specs.Lexed.{Outcome, accepted, refused, after, Effect, gives, stops, TokenComesTo, LineComesTo, ComesTo, effect_of_definition, effect_of_directive, Reads, ReadsTexts, no_text, refuses, accepts}
use Rattle.c_parse.specs.declared.sign.Terminal.{Terminal}
use Rattle.c_parse.specs.Expression as syntax
use Rattle.c_parse.specs.UnitForm.{IsRefusedUnit}
use Rattle.c_parse.specs.UnitForm as unit
use Rattle.fq_core.specs.declared.span.Span.{Span}
use Rattle.c_front.specs.Automata.{at_edges, at_tokens, at_types, at_unit}
use Rattle.c_front.specs.Codes.{RefusedByTheseCodes, text_codes}
use Rattle.c_types_laws.specs.typing_faults.Laws.{FaultsOfTexts, IsOneOf, IsTypingCode, typing_codes}

abbrev Told : ℕ → Type 0
Told = IsOneOf text_codes

-- ---- tokens

abbrev StopTold : Effect → Type 0
StopTold (gives ts m table) = Unit {0}
StopTold (stops code place) = Told code

abbrev RefusalTold : Outcome → Type 0
RefusalTold (accepted ts m r) = Unit {0}
RefusalTold (refused code place) = Told code

after_told : (ts : List Token) (o : Outcome) → RefusalTold o → RefusalTold (after ts o)
after_told ts (accepted us m r) h = tt
after_told ts (refused code place) h = h

module _ (file : ℕ) (text : List ℕ) (table : List Macro) where
  token_told : {bytes : List ℕ} {span : Span} {made replaced : ℕ} {e : Effect} → TokenComesTo table bytes span made replaced e → StopTold e
  token_told (lexed.too_wide h) = refl
  token_told (lexed.loops h k) = refl
  token_told (lexed.too_many us m h k l) = refl
  token_told (lexed.expands us m h k l) = tt

  defined_told : (place : Place) (name : List ℕ) (o l : Option (List Replacement)) → StopTold (effect_of_definition table place name o l)
  defined_told place name (Some before) l = refl
  defined_told place name None None = refl
  defined_told place name None (Some list) = tt

  directive_told : (line : List ℕ) (place : Place) (tokens : List Piece) (d : Directive) → StopTold (effect_of_directive table line place tokens d)
  directive_told line place tokens says.Include = tt
  directive_told line place tokens says.UnknownByte = refl
  directive_told line place tokens says.Wrong = refl
  directive_told line place tokens (says.Define at n) = defined_told place _ _ _

  line_told : {line : List ℕ} {place : Place} {e : Effect} → LineComesTo table line place e → StopTold e
  line_told {line = line} {place = place} x = let h = directive_told line place x.tokens (directive_of line x.tokens) in rw x.effect h

  piece_told : (made replaced : ℕ) (p : Piece) (e : Effect) → ComesTo file text table made replaced p e → StopTold e
  piece_told made replaced (piece.Gap at n) e x = rw x tt
  piece_told made replaced (piece.Directive at n) e x = line_told x
  piece_told made replaced (piece.Token at n) e x = token_told x
  piece_told made replaced (piece.Unknown at) e x = rw x refl
  piece_told made replaced (piece.Open at) e x = rw x refl

reads_told : {file : ℕ} {text : List ℕ} {table : List Macro} {made replaced : ℕ} {ps : List Piece} {o : Outcome} → Reads file text table made replaced ps o → RefusalTold o
reads_told lexed.all_read = tt
reads_told {file = file} {text = text} {table = table} {made = made} {replaced = replaced} (lexed.is_refused p code place x) = piece_told file text table made replaced p (stops code place) x
reads_told (lexed.goes_on {o = o} p us m new x d) = after_told us o (reads_told d)

texts_told : {file made replaced : ℕ} {ts : List SourceText} {o : Outcome} → ReadsTexts file made replaced ts o → RefusalTold o
texts_told no_text = tt
texts_told (refuses x) = reads_told x.read
texts_told (accepts {us = us} {o = o} x d) = after_told us o (texts_told d)

-- ---- syntax and types

unit_told : {ts : List Terminal} {code : ℕ} {p : Place} → IsRefusedUnit ts code p → Told code
unit_told (unit.early (syntax.out_of_profile t h)) = refl
unit_told (unit.early (syntax.too_deep limit h k)) = refl
unit_told (unit.no_item t h k) = refl

or_right : (a b : Bool) → IsTrue b → IsTrue (a || b)
or_right true b h = refl
or_right false b h = h

or_more : (a x y : Bool) → (IsTrue x → IsTrue y) → IsTrue (a || x) → IsTrue (a || y)
or_more true x y f h = refl
or_more false x y f h = f h

-- one of some codes is one of these and more
in_front : (code : ℕ) (front back : List ℕ) → IsOneOf front code → IsOneOf (front ++ back) code
in_front code [] back h = absurd (cc)
in_front code (c ∷ front) back h = or_more (c == code) _ (list_any (λ (d : ℕ). d == code) (front ++ back)) (in_front code front back) h

behind : (code : ℕ) (front back : List ℕ) → IsOneOf back code → IsOneOf (front ++ back) code
behind code [] back h = h
behind code (c ∷ front) back h = or_right (c == code) (list_any (λ (d : ℕ). d == code) (front ++ back)) (behind code front back h)

type_told : (code : ℕ) → IsTypingCode code → Told code
type_told code h = behind code (10 ∷ 11 ∷ 12 ∷ 13 ∷ 14 ∷ 15 ∷ 20 ∷ 21 ∷ 22 ∷ []) (typing_codes ++ 41 ∷ []) (in_front code typing_codes (41 ∷ []) h)

pub told : FaultsOfTexts → RefusedByTheseCodes
told law texts code p (at_tokens r) = texts_told r
told law texts code p (at_unit ts cut r) = unit_told r
told law texts code p (at_types items u r) =
    type_told code (subst IsTypingCode (sym r.code_is) (law texts u.tokens items u.cut u.unit.spelled r.found r.first.0).0)
told law texts code p (at_edges items u none many) = refl
