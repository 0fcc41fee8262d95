-- What is answered, by the outcome of texts.
use Rattle.std.proofs.Common.{◌≡◌, ℕ, List, refl, sym, ap, subst, ◌∙◌}
use Rattle.std.specs.Prelude.{IfOk, IsErrOf, Result, Ok, Err}
use Rattle.fq_core.specs.declared.refusal.Fault.{Fault}
use Rattle.fq_core.specs.declared.refusal.Fault.TheVariants as fault
use Rattle.fq_core.specs.declared.refusal.Place.{Place}
use Rattle.fq_core.specs.declared.refusal.Place.TheVariants as place
use Rattle.fq_core.specs.declared.refusal.Refusal.{Refusal}
use Rattle.c_lex.specs.declared.token.SourceText.{SourceText}
use Rattle.fq_core.specs.Refusals.{IsUnlessMemory, refusal}
use Rattle.cfa.specs.declared.parts.GraphParts.{GraphParts}
use Rattle.c_lex.specs.Lexed.{Answers}
use Rattle.c_parse.specs.declared.unit.Item.{Item}
use Rattle.c_typed_trees.specs.declared.unit.Typed.{Typed}
use Rattle.c_types.specs.Refusal as types
use Rattle.c_lower_rules.specs.graph_of.GraphOf.{graph_of}
use Rattle.c_lower.specs.Refusal.{IsRefusalOf}
use Rattle.c_front.specs.Automata.{IsAutomatonOf, IsRefused, IsUnitOf, at_edges, at_tokens, names_of}
use Rattle.c_front.specs.Laws.{HasOneOutcome}

module _ (texts : List SourceText) (law : HasOneOutcome texts) where
  pub accepts : (result : Result GraphParts Fault) → IfOk result (IsAutomatonOf texts)
      → ((code : ℕ) (p : Place) → IsErrOf result (refusal code p) → IsRefused texts code p)
      → (graph : GraphParts) → IsAutomatonOf texts graph → IsUnlessMemory result (Ok graph)
  accepts (Ok made) is refused graph its = ap Ok (law.one_answer graph made its is)
  accepts (Err (fault.Refused r)) is refused graph its = absurd (law.not_both graph r.code r.place its (refused r.code r.place refl))
  accepts (Err fault.Memory) is refused graph its = tt

  pub refuses : (result : Result GraphParts Fault) → IfOk result (IsAutomatonOf texts)
      → ((code : ℕ) (p : Place) → IsErrOf result (refusal code p) → IsRefused texts code p)
      → (code : ℕ) (p : Place) → IsRefused texts code p → IsUnlessMemory result (Err (refusal code p))
  refuses (Ok made) is refused code p its = absurd (law.not_both made code p is its)
  refuses (Err (fault.Refused r)) is refused code p its =
      let same = law.one_refusal code r.code p r.place its (refused r.code r.place refl) in
      λ i. Err (refusal (same.0 i) (same.1 i))
  refuses (Err fault.Memory) is refused code p its = tt

-- ---- by stages

abbrev error : (T : Type 0) → Fault → Result T Fault
error T e = Err e

module _ (texts : List SourceText) (T : Type 0) (result : Result T Fault) (code : ℕ) (p : Place) (is : IsErrOf result (refusal code p)) (x e : Fault)
    (handed : result ≡ error T x) (from : x ≡ e) where
  -- the error that was handed on is the refusal
  same_error : e ≡ refusal code p
  same_error = let both : error T x ≡ error T (refusal code p) = sym handed ∙ is in cc

  pub tokens_refused : Answers texts (Err e) → IsRefused texts code p
  tokens_refused answers = at_tokens (subst (λ f. Answers texts (Err f)) same_error answers)

  pub handed_on : (S : Type 0) (earlier : Result S Fault) → earlier ≡ error S e → IsErrOf earlier (refusal code p)
  handed_on S earlier was = was ∙ ap (error S) same_error

pub edges_refused : (texts : List SourceText) (items : List Item) (typed : Typed) (names : List (List ℕ)) (code : ℕ) (p : Place) → IsUnitOf texts items
    → types.IsTyped items typed → names ≡ names_of texts → IsRefusalOf (graph_of typed names) (refusal code p) → IsRefused texts code p
edges_refused texts items typed names code p unit checked is refused =
    let code_is : code ≡ 41 = ap (λ (r : Refusal). r.code) refused.0 in
    let place_is : p ≡ place.Limit 40000 = ap (λ (r : Refusal). r.place) refused.0 in
    let many = rw (checked.tree, is) at refused.1 in
    rw (code_is, place_is) (at_edges items unit checked.faultless many)
