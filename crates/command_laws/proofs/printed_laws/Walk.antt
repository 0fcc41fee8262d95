-- What is said that is no refusal comes from the end of the stages.
use Rattle.std.proofs.Common.{◌≡◌, ℕ, ◌-◌, List, [], ◌++◌, get_or, Option, Some, None, refl, sym, ap, subst, ◌∙◌, inl, inr}
use Rattle.std.specs.Prelude.{◌==◌, MatchOption, codes, false, slice_get, true}
use Rattle.std.specs.Fmt.{decimal}
use Rattle.std.proofs.lemmas.List.{append_cancel_left}
use Rattle.cfa.specs.declared.parts.GraphParts.{GraphParts}
use Rattle.cfa.specs.declared.state.Predicates.{Predicates}
use Rattle.cnf.specs.declared.derivation.Derivation.{Derivation}
use Rattle.cnf.specs.declared.formula.Formula.{Formula}
use Rattle.fq_core.specs.declared.refusal.Place.TheVariants as place
use Rattle.fq_core.specs.declared.refusal.Refusal.{Refusal}
use Rattle.goals.specs.GoalForm.{GoalForm}
use Rattle.goals.specs.declared.plan.Plan.{Plan}
use Rattle.command_words.specs.Reading.{Text}
use Rattle.command.specs.CertificateFile.{AreCertificateOf}
use Rattle.command.specs.Queries.{IsPlanned}
use Rattle.command.specs.Reads.{Reads}
use Rattle.command.specs.Refusal.{said_by}
use Rattle.command.specs.Runs.{EntryFunction, entry_of}
use Rattle.command.specs.Said.{Said}
use Rattle.command.specs.Sources.{HaveAutomaton}
use Rattle.command.specs.Stages.{OfCertificate, OfEntry, OfGoal, OfQuery, OfSources, Says, no_such_entry, no_such_goal}
use Rattle.command_laws.specs.printed_laws.Named.{NamedEntry, NamedGoal}

-- ---- texts that differ

abbrev pub byte_at : ℕ → List ℕ → ℕ
byte_at place text = get_or text place 0

-- of two texts with other bytes at a place neither is the other
pub texts_differ : (at a b : ℕ) (x y : List ℕ) → (a == b) ≡ false → (b == b) ≡ true → byte_at at x ≡ a → byte_at at y ≡ b → x ≡ y → ⊥
texts_differ at a b x y other own here there same =
    let no : a ≡ b = sym here ∙ ap (byte_at at) same ∙ there in
    let never : (b == b) ≡ false = subst (λ (n : ℕ). (n == b) ≡ false) no other in
    absurd (cc)

-- behind the number of a goal
pub behind_number : (number : ℕ) (u v : List ℕ) → codes "goal " ++ decimal number ++ u ≡ codes "goal " ++ decimal number ++ v → u ≡ v
behind_number number u v same =
    append_cancel_left (decimal number) u v (append_cancel_left (codes "goal ") (decimal number ++ u) (decimal number ++ v) same)

pub no_text : (names : List Text) (x : Refusal) → (said_by names x).out ≡ []
unfolding said_by
no_text names x = refl

-- ---- the stages

module _ (said : Said) (some : said.out ≡ [] → ⊥) where
  pub no_refusal : (names : List Text) (P : Refusal → Type 0) → Says names P said → ⊥
  no_refusal names P says = some (ap (λ (s : Said). s.out) says.2 ∙ no_text names says.0)

  pub of_sources : (r : Reads) (sources : List Text) (Then : GraphParts → Said → Type 0) → OfSources r sources Then said → (graph : GraphParts) × HaveAutomaton r.holds sources graph × Then graph said
  of_sources r sources Then (inl a) = absurd (no_refusal sources _ a)
  of_sources r sources Then (inr (inl a)) = absurd (no_refusal sources _ a)
  of_sources r sources Then (inr (inr a)) = a

  pub of_entry : (graph : GraphParts) (name : Text) (Then : EntryFunction → Said → Type 0) → OfEntry graph name Then said → (entry : EntryFunction) × (entry_of graph name ≡ Some entry) × Then entry said
  of_entry graph name Then due = by (entry_of graph name) refl due
    where
      by : (o : Option EntryFunction) → entry_of graph name ≡ o → MatchOption o (said ≡ no_such_entry) (λ entry. Then entry said)
          → (entry : EntryFunction) × (entry_of graph name ≡ Some entry) × Then entry said
      by None e s = absurd (some (ap (λ (z : Said). z.out) s ∙ no_text [] (record { code = 36; place = place.Nowhere })))
      by (Some entry) e s = (entry, e, s)

  pub of_query : (sources : List Text) (graph : GraphParts) (query : Text) (Then : Predicates → Plan → Said → Type 0) → OfQuery sources graph query Then said
      → (p : Predicates) × ((plan : Plan) × IsPlanned graph query p plan × Then p plan said)
  of_query sources graph query Then (inl a) = absurd (no_refusal sources _ a)
  of_query sources graph query Then (inr a) = a

  pub of_goal : (plan : Plan) (number : ℕ) (Then : GoalForm → Said → Type 0) → OfGoal plan number Then said → (goal : GoalForm) × (slice_get plan.goals (number - 1) ≡ Some goal) × Then goal said
  of_goal plan number Then due = by (slice_get plan.goals (number - 1)) refl due
    where
      by : (o : Option GoalForm) → slice_get plan.goals (number - 1) ≡ o → MatchOption o (said ≡ no_such_goal) (λ goal. Then goal said)
          → (goal : GoalForm) × (slice_get plan.goals (number - 1) ≡ Some goal) × Then goal said
      by None e s = absurd (some (ap (λ (z : Said). z.out) s ∙ no_text [] (record { code = 74; place = place.QueryWhole })))
      by (Some goal) e s = (goal, e, s)

  pub of_certificate : (r : Reads) (sources : List Text) (file : Text) (Then : Formula → Derivation → Said → Type 0) → OfCertificate r sources file Then said
      → (formula : Formula) × ((derivation : Derivation) × AreCertificateOf r file formula derivation × Then formula derivation said)
  of_certificate r sources file Then (inl a) = absurd (no_refusal sources _ a)
  of_certificate r sources file Then (inr a) = a

  -- ---- to the entry, and to the goal

  module _ (r : Reads) (sources : List Text) (name : Text) where
    pub named_entry : (Then : GraphParts → EntryFunction → Said → Type 0) → OfSources r sources (λ graph. OfEntry graph name (Then graph)) said → (of : NamedEntry r sources name) × Then of.graph of.entry said
    named_entry Then due =
        let graph = of_sources r sources (λ graph. OfEntry graph name (Then graph)) due in
        let entry = of_entry graph.0 name (Then graph.0) graph.2 in
        (record { graph = graph.0; automaton = graph.1; entry = entry.0; entry_is = entry.1 }, entry.2)

    module _ (query : Text) (number : ℕ) (Then : GraphParts → EntryFunction → Predicates → Plan → GoalForm → Said → Type 0) where
      abbrev AtPlan : GraphParts → EntryFunction → Predicates → Plan → Said → Type 0
      AtPlan graph entry p plan = OfGoal plan number (Then graph entry p plan)

      abbrev AtEntry : GraphParts → EntryFunction → Said → Type 0
      AtEntry graph entry = OfQuery sources graph query (AtPlan graph entry)

      pub named_goal : OfSources r sources (λ graph. OfEntry graph name (AtEntry graph)) said
          → (of : NamedGoal r sources name query number) × Then of.graph of.entry of.predicates of.plan of.goal said
      named_goal due =
          let at = named_entry AtEntry due in
          let planned = of_query sources at.0.graph query (AtPlan at.0.graph at.0.entry) at.1 in
          let goal = of_goal planned.1.0 number (Then at.0.graph at.0.entry planned.0 planned.1.0) planned.1.2 in (
            record {
              graph = at.0.graph;
              automaton = at.0.automaton;
              entry = at.0.entry;
              entry_is = at.0.entry_is;
              predicates = planned.0;
              plan = planned.1.0;
              planned = planned.1.1;
              goal = goal.0;
              goal_is = goal.1;
            },
            goal.2,
          )
