-- Texts have one outcome beside an automaton.
use Rattle.std.proofs.Common.{◌≡◌, ℕ, ◌≤◌, Bool, true, false, List, length, map, refl, sym, subst, ap, ◌∙◌, inl, inr, arith}
use Rattle.std.specs.Prelude.{◌⊎◌, Result, Ok, Err, IfOk, nat_lt}
use Rattle.std.proofs.lemmas.Bool.{ltb-false, ltb-true}
use Rattle.fq_core.specs.declared.refusal.Fault.{Fault}
use Rattle.fq_core.specs.declared.refusal.Fault.TheVariants as fault
use Rattle.fq_core.specs.declared.refusal.Place.{Place}
use Rattle.fq_core.specs.declared.refusal.Place.TheVariants as place
use Rattle.fq_core.specs.declared.refusal.Refusal.{Refusal}
use Rattle.c_parse.specs.declared.expr.ExprTree.{ExprTree}
use Rattle.fq_core.specs.Refusals.{IsUnlessMemory, refusal}
use Rattle.c_parse.specs.Laws.{HasOneOutcome}
use Rattle.cfa.specs.declared.parts.GraphParts.{GraphParts}
use Rattle.cfa.specs.declared.state.Predicates.{Predicates}
use Rattle.cfa.specs.Graph.{IsGraph}
use Rattle.cfa.specs.Predicates.{IsPredicates}
use Rattle.predicates.specs.Laws.{IsReadOnce, PredicatesFit}
use Rattle.predicates.specs.Outcome.{ArePredicatesOf, IsOutcome, IsRefused, most, nowhere, too_many, unread}
use Rattle.predicates.specs.Reading.{AreTreesOf}
use Rattle.predicates.specs.Typing.{all_typable, meanings_in}
use Rattle.predicates.proofs.ReadTexts.{not_row, one_row, some_row}

module _ (law : (text : List ℕ) → IsReadOnce text) (parts : GraphParts) (texts : List (List ℕ)) where
  one_answer : (p q : Predicates) → ArePredicatesOf parts texts p → ArePredicatesOf parts texts q → p ≡ q
  one_answer p q a b =
      let trees : a.trees ≡ b.trees = one_row law texts a.trees b.trees a.read b.read in
      let same : p.texts ≡ q.texts = a.same ∙ sym b.same in
      let meanings : p.meanings ≡ q.meanings = a.meanings ∙ ap (map (meanings_in parts.scopes)) trees ∙ sym b.meanings in
      (λ i. record { texts = same i; meanings = meanings i })

  typable_once : (ts us : List ExprTree) → AreTreesOf texts ts → AreTreesOf texts us → all_typable parts ts ≡ true → all_typable parts us ≡ false → ⊥
  typable_once ts us a b each some =
      let here : all_typable parts us ≡ true = subst (λ (vs : List ExprTree). all_typable parts vs ≡ true) (one_row law texts ts us a b) each in
      let both : true ≡ false = sym here ∙ some in
      cc

  not_both : (p : Predicates) (code : ℕ) (q : Place) → ArePredicatesOf parts texts p → IsRefused parts texts code q → ⊥
  not_both p code q a (too_many many) = absurd (omega (arith, a.few))
  not_both p code q a (unread few u) = not_row law texts a.trees a.read u.0 u.1 u.2 u.3 u.4
  not_both p code q a (nowhere trees few read none) = typable_once a.trees trees a.read read a.typable none

  one_refusal : (code other : ℕ) (p q : Place) → IsRefused parts texts code p → IsRefused parts texts other q → (code ≡ other) × (p ≡ q)
  one_refusal code other p q (too_many many) (too_many more) = (refl, refl)
  one_refusal code other p q (too_many many) (unread few u) = absurd (omega arith)
  one_refusal code other p q (too_many many) (nowhere trees few read none) = absurd (omega arith)
  one_refusal code other p q (unread few u) (too_many many) = absurd (omega arith)
  one_refusal code other p q (unread few u) (unread less v) = (refl, refl)
  one_refusal code other p q (unread few u) (nowhere trees less read none) = absurd (not_row law texts trees read u.0 u.1 u.2 u.3 u.4)
  one_refusal code other p q (nowhere trees few read none) (too_many many) = absurd (omega arith)
  one_refusal code other p q (nowhere trees few read none) (unread less u) = absurd (not_row law texts trees read u.0 u.1 u.2 u.3 u.4)
  one_refusal code other p q (nowhere trees few read none) (nowhere others less again neither) = (refl, refl)

  -- ---- some outcome

  abbrev SomeOutcome : Type 0
  SomeOutcome = ((p : Predicates) × ArePredicatesOf parts texts p) ⊎ ((code : ℕ) × ((p : Place) × IsRefused parts texts code p))

  by_typing : length texts ≤ most → (trees : List ExprTree) → AreTreesOf texts trees → (typable : Bool) → all_typable parts trees ≡ typable → SomeOutcome
  by_typing few trees read true is =
      inl (
        record { texts = texts; meanings = map (meanings_in parts.scopes) trees },
        record { few = few; trees = trees; read = read; typable = is; same = refl; meanings = refl },
      )
  by_typing few trees read false is = inr (66, (place.QueryWhole, nowhere trees few read is))

  by_reading : length texts ≤ most → SomeOutcome
  by_reading few =
      elim (some_row law texts) [
        | inl row ↦ by_typing few row.0 row.1 _ refl
        | inr u ↦ inr (65, (place.QueryWhole, unread few u))
      ]

  by_number : (many : Bool) → nat_lt most (length texts) ≡ many → SomeOutcome
  by_number true is = inr (67, (place.Limit most, too_many (ltb-true _ _ is)))
  by_number false is = by_reading (ltb-false _ _ is)

  pub one_outcome : HasOneOutcome (ArePredicatesOf parts texts) (IsRefused parts texts)
  one_outcome = record {
    some = by_number _ refl;
    one_answer = one_answer;
    one_refusal = one_refusal;
    not_both = not_both;
  }

-- ---- an answer with its cause is the answer

pub refused_with : (parts : GraphParts) (texts : List (List ℕ)) (e : Fault) (code : ℕ) (p : Place) → e ≡ refusal code p → IsRefused parts texts code p → IsOutcome parts texts (Err e)
refused_with parts texts e code p is cause = subst (λ (f : Fault). IsOutcome parts texts (Err f)) (sym is) cause

abbrev refused_as : Refusal → Result Predicates Fault
refused_as r = Err (fault.Refused r)

module _ (parts : GraphParts) (texts : List (List ℕ)) (law : HasOneOutcome (ArePredicatesOf parts texts) (IsRefused parts texts)) where
  pub accepts : (result : Result Predicates Fault) → IsOutcome parts texts result → (p : Predicates) → ArePredicatesOf parts texts p → IsUnlessMemory result (Ok p)
  accepts (Ok made) is p its = ap Ok (law.one_answer p made its is)
  accepts (Err (fault.Refused r)) is p its = absurd (law.not_both p r.code r.place its is)
  accepts (Err fault.Memory) is p its = tt

  pub refuses : (result : Result Predicates Fault) → IsOutcome parts texts result → (code : ℕ) (p : Place) → IsRefused parts texts code p → IsUnlessMemory result (Err (refusal code p))
  refuses (Ok made) is code p its = absurd (law.not_both made code p is its)
  refuses (Err (fault.Refused r)) is code p its =
      let same = law.one_refusal code r.code p r.place its is in
      (λ i. refused_as (record { code = same.0 i; place = same.1 i }))
  refuses (Err fault.Memory) is code p its = tt

pub fits : PredicatesFit → (parts : GraphParts) (texts : List (List ℕ)) (result : Result Predicates Fault) → IsGraph parts → IsOutcome parts texts result → IfOk result (λ p. IsPredicates parts p)
fits law parts texts (Ok p) graph is = law parts texts p graph is
fits law parts texts (Err e) graph is = tt
