-- Texts have one outcome.
use Rattle.std.proofs.Common.{◌≡◌, ℕ, List, [], map, Some, None, refl, sym, subst, ◌∙◌, ap, inl, inr}
use Rattle.std.specs.Prelude.{◌⊎◌, Option}
use Rattle.fq_core.specs.declared.refusal.Place.{Place}
use Rattle.c_lex.specs.declared.token.SourceText.{SourceText}
use Rattle.c_lex.specs.declared.token.Token.{Token}
use Rattle.c_lex.specs.Lexed.{Lexed, Outcome, accepted, refused}
use Rattle.c_lex.specs.Lexed as tokens
use Rattle.c_lex.specs.OneReading.{OneReading, SomeReading}
use Rattle.c_parse.specs.declared.sign.Terminal.{Terminal}
use Rattle.c_parse.specs.declared.unit.Item.{Item}
use Rattle.c_parse.specs.Laws as parse
use Rattle.c_parse.specs.Signs.{terminal_of}
use Rattle.c_parse.specs.UnitForm.{IsUnit, IsRefusedUnit}
use Rattle.c_type_rules.specs.declared.faults.Found.{Found}
use Rattle.c_type_rules.specs.Faults.{Among, FirstOfFaults, first_of}
use Rattle.c_types.specs.Refusal as types
use Rattle.c_types.specs.Units.{faults_of, typed_of}
use Rattle.c_types_laws.specs.typing_faults.Laws.{OneRefusal}
use Rattle.c_typed_trees.specs.declared.unit.Typed.{Typed}
use Rattle.c_front.specs.Automata.{IsUnitOf}
use Rattle.c_front.specs.typed_sources.Trees.{IsRefused, IsTypedOf, at_tokens, at_types, at_unit}
use Rattle.c_front.specs.typed_sources.Laws.{HasOneOutcome}

-- ---- the first fault of a list

not_among : (f : Found) (fs : List Found) → fs ≡ [] → Among f fs → ⊥
not_among f fs none among = let at : Among f [] = subst (Among f) none among in at

-- ---- the laws of the stages

abbrev UnitLaw : Type 0
UnitLaw = (ts : List Terminal) → parse.HasOneOutcome (IsUnit ts) (IsRefusedUnit ts)

module _ (one : OneReading) (unit : UnitLaw) (types_law : OneRefusal) (texts : List SourceText) where
  abbrev Same : ℕ → ℕ → Place → Place → Type 0
  Same code other p q = (code ≡ other) × (p ≡ q)

  one_list : (ts us : List Token) → Lexed texts ts → Lexed texts us → ts ≡ us
  one_list ts us a b =
      let same : accepted ts a.0 a.1 ≡ accepted us b.0 b.1 = one texts 0 0 0 _ _ a.2 b.2 in
      cc

  no_list : (ts : List Token) (code : ℕ) (p : Place) → Lexed texts ts → tokens.Refused texts code p → ⊥
  no_list ts code p a r =
      let same : accepted ts a.0 a.1 ≡ refused code p = one texts 0 0 0 _ _ a.2 r in
      cc

  one_token_refusal : (code other : ℕ) (p q : Place) → tokens.Refused texts code p → tokens.Refused texts other q → Same code other p q
  one_token_refusal code other p q r s =
      let same : refused code p ≡ refused other q = one texts 0 0 0 _ _ r s in
      (cc, cc)

  one_unit : (items others : List Item) → IsUnitOf texts items → IsUnitOf texts others → items ≡ others
  one_unit items others a b =
      let same = one_list a.tokens b.tokens a.cut b.cut in
      let here : IsUnit (map terminal_of b.tokens) items = subst (λ (ts : List Token). IsUnit (map terminal_of ts) items) same a.unit in
      (unit (map terminal_of b.tokens)).one_answer items others here b.unit

  no_unit : (items : List Item) (ts : List Token) (code : ℕ) (p : Place) → IsUnitOf texts items → Lexed texts ts → IsRefusedUnit (map terminal_of ts) code p → ⊥
  no_unit items ts code p a cut r =
      let same = one_list a.tokens ts a.cut cut in
      let here : IsUnit (map terminal_of ts) items = subst (λ (us : List Token). IsUnit (map terminal_of us) items) same a.unit in
      (unit (map terminal_of ts)).not_both items code p here r

  one_unit_refusal : (ts us : List Token) (code other : ℕ) (p q : Place) → Lexed texts ts → Lexed texts us → IsRefusedUnit (map terminal_of ts) code p
      → IsRefusedUnit (map terminal_of us) other q → Same code other p q
  one_unit_refusal ts us code other p q a b r s =
      let same = one_list ts us a b in
      let here : IsRefusedUnit (map terminal_of us) code p = subst (λ (vs : List Token). IsRefusedUnit (map terminal_of vs) code p) same r in
      (unit (map terminal_of us)).one_refusal code other p q here s

  one_type_refusal : (items others : List Item) (code other : ℕ) (p q : Place) → IsUnitOf texts items → IsUnitOf texts others → types.IsRefused items code p
      → types.IsRefused others other q → Same code other p q
  one_type_refusal items others code other p q a b r s =
      let here : types.IsRefused others code p = subst (λ (is : List Item). types.IsRefused is code p) (one_unit items others a b) r in
      types_law texts b.tokens others b.cut b.unit.spelled code other p q here s

  faultless : (items others : List Item) (code : ℕ) (p : Place) → IsUnitOf texts items → IsUnitOf texts others → faults_of items ≡ [] → types.IsRefused others code p → ⊥
  faultless items others code p a b none r =
      let same = one_unit items others a b in
      not_among r.found (faults_of others) (subst (λ (is : List Item). faults_of is ≡ []) same none) r.first.0

  one_tree : (typed other : Typed) → IsTypedOf texts typed → IsTypedOf texts other → typed ≡ other
  one_tree typed other a b = a.is ∙ ap typed_of (one_unit a.items b.items a.unit b.unit) ∙ sym b.is

  not_both : (tree : Typed) (code : ℕ) (p : Place) → IsTypedOf texts tree → IsRefused texts code p → ⊥
  not_both tree code p a (at_tokens r) = no_list a.unit.tokens code p a.unit.cut r
  not_both tree code p a (at_unit ts cut r) = no_unit a.items ts code p a.unit cut r
  not_both tree code p a (at_types items u r) = faultless a.items items code p a.unit u a.faultless r

  one_refusal : (code other : ℕ) (p q : Place) → IsRefused texts code p → IsRefused texts other q → Same code other p q
  one_refusal code other p q (at_tokens r) (at_tokens s) = one_token_refusal code other p q r s
  one_refusal code other p q (at_tokens r) (at_unit ts cut s) = absurd (no_list ts code p cut r)
  one_refusal code other p q (at_tokens r) (at_types items u s) = absurd (no_list u.tokens code p u.cut r)
  one_refusal code other p q (at_unit ts cut r) (at_tokens s) = absurd (no_list ts other q cut s)
  one_refusal code other p q (at_unit ts cut r) (at_unit us others s) = one_unit_refusal ts us code other p q cut others r s
  one_refusal code other p q (at_unit ts cut r) (at_types items u s) = absurd (no_unit items ts code p u cut r)
  one_refusal code other p q (at_types items u r) (at_tokens s) = absurd (no_list u.tokens other q u.cut s)
  one_refusal code other p q (at_types items u r) (at_unit ts cut s) = absurd (no_unit items ts other q u cut s)
  one_refusal code other p q (at_types items u r) (at_types others v s) = one_type_refusal items others code other p q u v r s

-- ---- some outcome

abbrev SomeOutcome : List SourceText → Type 0
SomeOutcome texts = ((typed : Typed) × IsTypedOf texts typed) ⊎ ((code : ℕ) × ((p : Place) × IsRefused texts code p))

module _ (texts : List SourceText) where
  by_faults : (first : FirstOfFaults) (items : List Item) → IsUnitOf texts items → (found : Option Found) → first_of (faults_of items) ≡ found → SomeOutcome texts
  by_faults first items u None is = inl (typed_of items, record { items = items; unit = u; faultless = first.1 (faults_of items) is; is = refl })
  by_faults first items u (Some f) is =
      inr (
        f.code,
        (
          types.place_of_fault f,
          at_types items u record {
            found = f;
            first = first.0 (faults_of items) f is;
            code_is = refl;
            place_is = refl;
          },
        ),
      )

  by_unit : (unit : UnitLaw) (first : FirstOfFaults) (ts : List Token) → Lexed texts ts → SomeOutcome texts
  by_unit unit first ts cut =
      elim ((unit (map terminal_of ts)).some) [
        | inl found ↦ by_faults first found.0 (record { tokens = ts; cut = cut; unit = found.1 }) _ refl
        | inr cause ↦ inr (cause.0, (cause.1.0, at_unit ts cut cause.1.1))
      ]

  some_outcome : (some : SomeReading) (unit : UnitLaw) (first : FirstOfFaults) → SomeOutcome texts
  some_outcome some unit first =
      elim (some texts) [
        | inl found ↦ by_unit unit first found.0 found.1
        | inr cause ↦ inr (cause.0, (cause.1.0, at_tokens cause.1.1))
      ]

pub one_outcome : OneReading → SomeReading → UnitLaw → FirstOfFaults → OneRefusal → (texts : List SourceText) → HasOneOutcome texts
one_outcome one some unit first typed texts = record {
  some = some_outcome texts some unit first;
  one_answer = one_tree one unit typed texts;
  one_refusal = one_refusal one unit typed texts;
  not_both = not_both one unit typed texts;
}
