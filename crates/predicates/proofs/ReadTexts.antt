-- Texts are read once.
use Rattle.std.proofs.Common.{◌≡◌, ℕ, zero, suc, ◌+◌, ◌<◌, List, [], ◌∷◌, ◌++◌, length, map, get_or, take, refl, ap, subst, inl, inr, arith}
use Rattle.std.specs.Prelude.{◌⊎◌, Result, Err, IsErrOf}
use Rattle.std.proofs.lemmas.List.{take_more}
use Rattle.fq_core.specs.declared.refusal.Fault.{Fault}
use Rattle.fq_core.specs.declared.refusal.Fault.TheVariants as fault
use Rattle.fq_core.specs.declared.refusal.Place.{Place}
use Rattle.fq_core.specs.declared.refusal.Refusal.{Refusal}
use Rattle.c_lex.specs.declared.token.SourceText.{SourceText}
use Rattle.c_lex.specs.declared.token.Token.{Token}
use Rattle.c_lex.specs.Lexed.{Answers, Lexed, accepted, refused}
use Rattle.c_lex.specs.Lexed as tokens
use Rattle.c_lex.specs.OneReading.{OneReading, SomeReading}
use Rattle.c_parse.specs.declared.expr.ExprTree.{ExprTree}
use Rattle.c_parse.specs.declared.sign.Terminal.{Terminal}
use Rattle.fq_core.specs.Refusals.{refusal}
use Rattle.c_parse.specs.Expression.{IsExpression, IsRefusedExpression}
use Rattle.c_parse.specs.Laws as parse
use Rattle.c_parse.specs.Signs.{terminal_of}
use Rattle.predicates.specs.Laws.{IsReadOnce}
use Rattle.predicates.specs.Reading.{AreTreesOf, HasUnread, IsTreeOf, IsUnread, at_expression, at_tokens, source_of}

-- ---- one text

abbrev ExpressionLaw : Type 0
ExpressionLaw = (ts : List Terminal) → parse.HasOneOutcome (IsExpression ts) (IsRefusedExpression ts)

module _ (one : OneReading) (expression : ExpressionLaw) (text : List ℕ) where
  one_list : (ts us : List Token) → Lexed (source_of text) ts → Lexed (source_of text) us → ts ≡ us
  one_list ts us a b =
      let same : accepted ts a.0 a.1 ≡ accepted us b.0 b.1 = one (source_of text) 0 0 0 _ _ a.2 b.2 in
      cc

  no_list : (ts : List Token) (code : ℕ) (p : Place) → Lexed (source_of text) ts → tokens.Refused (source_of text) code p → ⊥
  no_list ts code p a r =
      let same : accepted ts a.0 a.1 ≡ refused code p = one (source_of text) 0 0 0 _ _ a.2 r in
      cc

  one_tree : (t u : ExprTree) → IsTreeOf text t → IsTreeOf text u → t ≡ u
  one_tree t u a b =
      let same = one_list a.tokens b.tokens a.cut b.cut in
      let here : IsExpression (map terminal_of b.tokens) t = subst (λ (ts : List Token). IsExpression (map terminal_of ts) t) same a.spelled in
      (expression (map terminal_of b.tokens)).one_answer t u here b.spelled

  not_read_and_unread : (t : ExprTree) → IsTreeOf text t → IsUnread text → ⊥
  not_read_and_unread t a (at_tokens code p r) = no_list a.tokens code p a.cut r
  not_read_and_unread t a (at_expression ts code p cut r) =
      let same = one_list a.tokens ts a.cut cut in
      let here : IsExpression (map terminal_of ts) t = subst (λ (us : List Token). IsExpression (map terminal_of us) t) same a.spelled in
      (expression (map terminal_of ts)).not_both t code p here r

  by_tokens : (ts : List Token) → Lexed (source_of text) ts → ((t : ExprTree) × IsTreeOf text t) ⊎ IsUnread text
  by_tokens ts cut =
      elim ((expression (map terminal_of ts)).some) [
        | inl found ↦ inl (found.0, record { tokens = ts; cut = cut; spelled = found.1 })
        | inr cause ↦ inr (at_expression ts cause.0 cause.1.0 cut cause.1.1)
      ]

  some_tree : SomeReading → ((t : ExprTree) × IsTreeOf text t) ⊎ IsUnread text
  some_tree some =
      elim (some (source_of text)) [
        | inl found ↦ by_tokens found.0 found.1
        | inr cause ↦ inr (at_tokens cause.0 cause.1.0 cause.1.1)
      ]

pub read_once : OneReading → SomeReading → ExpressionLaw → (text : List ℕ) → IsReadOnce text
read_once one some expression text = record {
  some = some_tree one expression text some;
  one = one_tree one expression text;
  not_both = not_read_and_unread one expression text;
}

-- ---- refusals of one text

pub source_refused : (text : List ℕ) (source : SourceText) (e : Fault) (r : Refusal) → source ∷ [] ≡ source_of text → Answers (source ∷ []) (Err e) → e ≡ fault.Refused r → IsUnread text
source_refused text source e r same answers is =
    let refusal : tokens.Refused (source ∷ []) r.code r.place = subst (λ (f : Fault). Answers (source ∷ []) (Err f)) is answers in
    at_tokens r.code r.place (subst (λ (ts : List SourceText). tokens.Refused ts r.code r.place) same refusal)

abbrev pub failed : Fault → Result ExprTree Fault
failed e = Err e

pub expression_refused : (text : List ℕ) (ts : List Token) (e : Fault) (r : Refusal) → Lexed (source_of text) ts
    → ((code : ℕ) (p : Place) → IsErrOf (failed e) (refusal code p) → IsRefusedExpression (map terminal_of ts) code p) → e ≡ fault.Refused r → IsUnread text
expression_refused text ts e r cut law is = at_expression ts r.code r.place cut (law r.code r.place (ap failed is))

-- ---- texts

abbrev ReadLaw : Type 0
ReadLaw = (text : List ℕ) → IsReadOnce text

module _ (law : ReadLaw) where
  pub one_row : (texts : List (List ℕ)) (ts us : List ExprTree) → AreTreesOf texts ts → AreTreesOf texts us → ts ≡ us
  one_row [] [] [] a b = refl
  one_row [] [] (u ∷ us) a b = absurd b
  one_row [] (t ∷ ts) us a b = absurd a
  one_row (x ∷ xs) [] us a b = absurd a
  one_row (x ∷ xs) (t ∷ ts) [] a b = absurd b
  one_row (x ∷ xs) (t ∷ ts) (u ∷ us) a b =
      let first : t ≡ u = (law x).one t u a.0 b.0 in
      let rest : ts ≡ us = one_row xs ts us a.1 b.1 in
      (λ i. first i ∷ rest i)

  pub not_row : (texts : List (List ℕ)) (ts : List ExprTree) → AreTreesOf texts ts → (k : ℕ) (x : List ℕ) → k < length texts → get_or texts k x ≡ x → IsUnread x → ⊥
  not_row [] ts a k x within is unread = omega arith
  not_row (y ∷ ys) [] a k x within is unread = a
  not_row (y ∷ ys) (t ∷ ts) a zero x within is unread = (law x).not_both t (subst (λ z. IsTreeOf z t) is a.0) unread
  not_row (y ∷ ys) (t ∷ ts) a (suc k) x within is unread = not_row ys ts a.1 k x (omega arith) is unread

  unread_behind : (y : List ℕ) (ys : List (List ℕ)) → HasUnread ys → HasUnread (y ∷ ys)
  unread_behind y ys u = (suc u.0, u.1, omega (arith, u.2), u.3, u.4)

  pub some_row : (texts : List (List ℕ)) → ((ts : List ExprTree) × AreTreesOf texts ts) ⊎ HasUnread texts
  some_row [] = inl ([], tt)
  some_row (x ∷ xs) =
      elim ((law x).some) [
        | inl found ↦ elim (some_row xs) [
          | inl row ↦ inl (found.0 ∷ row.0, (found.1, row.1))
          | inr unread ↦ inr (unread_behind x xs unread)
        ]
        | inr unread ↦ inr (zero, x, omega arith, refl, unread)
      ]

-- ---- a loop

row_push : (xs : List (List ℕ)) (ts : List ExprTree) (x : List ℕ) (t : ExprTree) → AreTreesOf xs ts → IsTreeOf x t → AreTreesOf (xs ++ x ∷ []) (ts ++ t ∷ [])
row_push [] [] x t a h = (h, tt)
row_push [] (u ∷ ts) x t a h = absurd a
row_push (y ∷ xs) [] x t a h = absurd a
row_push (y ∷ xs) (u ∷ ts) x t a h = (a.0, row_push xs ts x t a.1 h)

pub row_more : (texts : List (List ℕ)) (i : ℕ) (x : List ℕ) (ts : List ExprTree) (t : ExprTree) → i < length texts → x ≡ get_or texts i x
    → AreTreesOf (take i texts) ts → IsTreeOf x t → AreTreesOf (take (i + 1) texts) (ts ++ t ∷ [])
row_more texts i x ts t within is had here = rw (take_more texts i x within, ← is) (row_push (take i texts) ts x t had here)
