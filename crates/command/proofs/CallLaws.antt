-- Where the call of a stage ends a command, what is due; and where it leads on, to what.
use Rattle.std.proofs.Common.{List, refl, subst, inl, inr}
use Rattle.std.specs.Prelude.{Ok}
use Rattle.fq_core.specs.Refusals.{IfRefused}
use Rattle.fq_core.specs.declared.refusal.Fault.{Fault}
use Rattle.fq_core.specs.declared.refusal.Refusal.{Refusal}
use Rattle.cfa.specs.declared.parts.GraphParts.{GraphParts}
use Rattle.cfa.specs.declared.state.Predicates.{Predicates}
use Rattle.goals.specs.declared.plan.Plan.{Plan}
use Rattle.c_typed_trees.specs.declared.unit.Typed.{Typed}
use Rattle.command_words.specs.Reading.{Text}
use Rattle.suite_problem.specs.declared.entry.Entry.{Entry}
use Rattle.suite_problem.specs.declared.planned.Planned.{Planned}
use Rattle.command.specs.Calls.{AreNotGiven, IsEntryAs, IsNoEntry, IsNotPlanned, IsPlannedAs}
use Rattle.command.specs.Entries.{seen}
use Rattle.command.specs.Reads.{Reads}
use Rattle.command.specs.Refusal.{said_by}
use Rattle.command.specs.Runs.{EntryFunction}
use Rattle.command.specs.Said.{Said}
use Rattle.command.specs.Sources.{HaveAutomaton, HaveTrees}
use Rattle.command.specs.Stages.{OfEntry, OfQuery, OfSources, OfTrees}
use Rattle.command.proofs.DueLaws.{at_graph, at_trees, due_nowhere, sources_refused, trees_refused}
use Rattle.command.proofs.ReadsLaws.{refused_map}
use Rattle.command.proofs.StageLaws.{entry_none, entry_some}

-- ---- sources

module _ (r : Reads) (names : List Text) (Then : GraphParts → Said → Type 0) where
  pub not_given : (e : Fault) → IfRefused e (AreNotGiven r names) → IfRefused e (λ x. OfSources r names Then (said_by names x))
  not_given e cause = refused_map e cause (sources_refused r names Then)

  -- a refusal of what follows
  pub refused_at : (graph : GraphParts) → HaveAutomaton r.holds names graph → (e : Fault) → IfRefused e (λ x. Then graph (said_by names x))
      → IfRefused e (λ x. OfSources r names Then (said_by names x))
  refused_at graph have e cause = refused_map e cause (λ x due. at_graph r names Then graph (said_by names x) have due)

module _ (r : Reads) (names : List Text) (Then : GraphParts → Typed → Said → Type 0) where
  pub trees_not_given : (e : Fault) → IfRefused e (AreNotGiven r names) → IfRefused e (λ x. OfTrees r names Then (said_by names x))
  trees_not_given e cause = refused_map e cause (trees_refused r names Then)

  pub refused_at_trees : (graph : GraphParts) (typed : Typed) → HaveTrees r.holds names graph typed → (e : Fault)
      → IfRefused e (λ x. Then graph typed (said_by names x)) → IfRefused e (λ x. OfTrees r names Then (said_by names x))
  refused_at_trees graph typed have e cause = refused_map e cause (λ x due. at_trees r names Then graph typed (said_by names x) have due)

-- ---- the entry

module _ (graph : GraphParts) (name : Text) (Then : EntryFunction → Said → Type 0) (names : List Text) where
  due_no_entry : (x : Refusal) → IsNoEntry graph name x → OfEntry graph name Then (said_by names x)
  due_no_entry x missing = due_nowhere names 36 x (OfEntry graph name Then) missing.0 (entry_none graph name Then missing.1)

  pub no_entry : (e : Fault) → IfRefused e (IsNoEntry graph name) → IfRefused e (λ x. OfEntry graph name Then (said_by names x))
  no_entry e cause = refused_map e cause due_no_entry

module _ (graph : GraphParts) (name : Text) (Then : GraphParts → EntryFunction → Said → Type 0) (entry : Entry) (is : IsEntryAs graph name (Ok entry)) where
  pub at_entry : (said : Said) → Then entry.graph.now (seen entry) said → OfEntry graph name (Then graph) said
  at_entry said due = entry_some graph name (Then graph) (seen entry) is.1 said (subst (λ (h : GraphParts). Then h (seen entry) said) is.0 due)

  pub refused_at_entry : (names : List Text) (e : Fault) → IfRefused e (λ x. Then entry.graph.now (seen entry) (said_by names x))
      → IfRefused e (λ x. OfEntry graph name (Then graph) (said_by names x))
  refused_at_entry names e cause = refused_map e cause (λ x due. at_entry (said_by names x) due)

-- ---- the entry and the query

module _ (names : List Text) (graph : GraphParts) (name query : Text) (Then : GraphParts → EntryFunction → Predicates → Plan → Said → Type 0) where
  abbrev Due : Said → Type 0
  Due said = OfEntry graph name (λ entry. OfQuery names graph query (Then graph entry)) said

  due_not_planned : (x : Refusal) → IsNotPlanned graph name query x → Due (said_by names x)
  due_not_planned x (inl missing) = due_no_entry graph name (λ entry. OfQuery names graph query (Then graph entry)) names x missing
  due_not_planned x (inr found) =
      entry_some graph name (λ entry. OfQuery names graph query (Then graph entry)) (seen found.0) found.1 (said_by names x) (inl (x, found.2, refl))

  pub not_planned : (e : Fault) → IfRefused e (IsNotPlanned graph name query) → IfRefused e (λ x. Due (said_by names x))
  not_planned e cause = refused_map e cause due_not_planned

  module _ (planned : Planned) (is : IsPlannedAs graph name query (Ok planned)) where
    pub at_plan : (said : Said) → Then planned.entry.graph.now (seen planned.entry) planned.predicates planned.plan said → Due said
    at_plan said due =
        entry_some graph name (λ entry. OfQuery names graph query (Then graph entry)) (seen planned.entry) is.1 said
        (inr (planned.predicates, (planned.plan, is.2, subst (λ (h : GraphParts). Then h (seen planned.entry) planned.predicates planned.plan said) is.0 due)))

    pub refused_at_plan : (e : Fault) → IfRefused e (λ x. Then planned.entry.graph.now (seen planned.entry) planned.predicates planned.plan (said_by names x))
        → IfRefused e (λ x. Due (said_by names x))
    refused_at_plan e cause = refused_map e cause (λ x due. at_plan (said_by names x) due)
