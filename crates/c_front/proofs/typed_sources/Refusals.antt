-- What is answered, by the outcome of texts.
use Rattle.std.proofs.Common.{◌≡◌, ℕ, List, refl, sym, ap, subst, ◌∙◌}
use Rattle.std.specs.Prelude.{IfOk, IsErrOf, Result, Ok, Err}
use Rattle.fq_core.specs.declared.refusal.Fault.{Fault}
use Rattle.fq_core.specs.declared.refusal.Fault.TheVariants as fault
use Rattle.fq_core.specs.declared.refusal.Place.{Place}
use Rattle.c_lex.specs.declared.token.SourceText.{SourceText}
use Rattle.fq_core.specs.Refusals.{IsUnlessMemory, refusal}
use Rattle.c_lex.specs.Lexed.{Answers}
use Rattle.c_typed_trees.specs.declared.unit.Typed.{Typed}
use Rattle.c_front.specs.typed_sources.Trees.{IsRefused, IsTypedOf, at_tokens}
use Rattle.c_front.specs.typed_sources.Laws.{HasOneOutcome}

module _ (texts : List SourceText) (law : HasOneOutcome texts) where
  pub accepts : (result : Result Typed Fault) → IfOk result (IsTypedOf texts)
      → ((code : ℕ) (p : Place) → IsErrOf result (refusal code p) → IsRefused texts code p)
      → (typed : Typed) → IsTypedOf texts typed → IsUnlessMemory result (Ok typed)
  accepts (Ok made) is refused typed its = ap Ok (law.one_answer typed made its is)
  accepts (Err (fault.Refused r)) is refused typed its = absurd (law.not_both typed r.code r.place its (refused r.code r.place refl))
  accepts (Err fault.Memory) is refused typed its = tt

  pub refuses : (result : Result Typed Fault) → IfOk result (IsTypedOf texts)
      → ((code : ℕ) (p : Place) → IsErrOf result (refusal code p) → IsRefused texts code p)
      → (code : ℕ) (p : Place) → IsRefused texts code p → IsUnlessMemory result (Err (refusal code p))
  refuses (Ok made) is refused code p its = absurd (law.not_both made code p is its)
  refuses (Err (fault.Refused r)) is refused code p its =
      let same = law.one_refusal code r.code p r.place its (refused r.code r.place refl) in
      λ i. Err (refusal (same.0 i) (same.1 i))
  refuses (Err fault.Memory) is refused code p its = tt

-- ---- by stages

abbrev error : (T : Type 0) → Fault → Result T Fault
error T e = Err e

module _ (texts : List SourceText) (T : Type 0) (result : Result T Fault) (code : ℕ) (p : Place) (is : IsErrOf result (refusal code p)) (x e : Fault)
    (handed : result ≡ error T x) (from : x ≡ e) where
  -- the error that was handed on is the refusal
  same_error : e ≡ refusal code p
  same_error = let both : error T x ≡ error T (refusal code p) = sym handed ∙ is in cc

  pub tokens_refused : Answers texts (Err e) → IsRefused texts code p
  tokens_refused answers = at_tokens (subst (λ f. Answers texts (Err f)) same_error answers)

  pub handed_on : (S : Type 0) (earlier : Result S Fault) → earlier ≡ error S e → IsErrOf earlier (refusal code p)
  handed_on S earlier was = was ∙ ap (error S) same_error
