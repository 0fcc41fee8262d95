-- What is written of a generation is its report.
use Rattle.std.proofs.Common.{◌≡◌, ℕ, Bool, false, List, [], ap, ◌∙◌, inl, inr}
use Rattle.cfa.specs.declared.parts.GraphParts.{GraphParts}
use Rattle.cfa.specs.declared.state.Predicates.{Predicates}
use Rattle.c_meaning.specs.declared.ends.Ends.{Ends}
use Rattle.goals.specs.declared.plan.Plan.{Plan}
use Rattle.unwinder_reach.specs.declared.reached.bounds.Bounds.{Bounds}
use Rattle.suite.specs.Generated.{IsGenerated, Shown}
use Rattle.suite_problem.specs.declared.generated.Generated.{Generated}
use Rattle.command_words.specs.Reading.{Text}
use Rattle.command_words.specs.Request.{generate, Generating}
use Rattle.command.specs.Due.{IsDueOf}
use Rattle.command.specs.Generate.{IsGeneration, generated_report}
use Rattle.command.specs.Queries.{IsPlanned}
use Rattle.command.specs.Ranges.{within}
use Rattle.command.specs.Reads.{Reads}
use Rattle.command.specs.Runs.{EntryFunction}
use Rattle.command.specs.Said.{Said}
use Rattle.command.specs.Stages.{OfQuery}
use Rattle.command_laws.specs.printed_laws.Named.{NamedEntry}
use Rattle.command_laws.proofs.printed_laws.Walk.{named_entry, no_refusal, of_query}
use Rattle.command_laws.specs.refuted_laws.Reports.{ReportsAreTrue, WritesReport}

-- ---- a generation, whatever its text

-- something is written of it, by this text
record WritesBy (graph : GraphParts) (entry : EntryFunction) (p : Predicates) (plan : Plan) (bounds : Bounds) (ends : Ends) (budget : ℕ) (text : Generated → List ℕ) (out : List ℕ) : Type 0 where
  made : Generated
  shown : List Shown
  generated : IsGenerated graph entry.function p plan bounds ends budget made shown
  written : out ≡ text made

by_text : (names : List Text) (graph : GraphParts) (entry : EntryFunction) (p : Predicates) (plan : Plan) (bounds : Bounds) (ends : Ends) (budget : ℕ) (text : Generated → List ℕ) (said : Said)
    → (said.out ≡ [] → ⊥) → IsGeneration names graph entry p plan bounds ends budget text said → WritesBy graph entry p plan bounds ends budget text said.out
by_text names graph entry p plan bounds ends budget text said some (inl a) = absurd (no_refusal said some names _ a)
by_text names graph entry p plan bounds ends budget text said some (inr a) = record { made = a.0; shown = a.1.0; generated = a.1.1; written = ap (λ (s : Said). s.out) a.1.3 }

-- ---- the report

module _ (r : Reads) (m : Generating) (said : Said) (plain : m.json ≡ false) (some : said.out ≡ [] → ⊥) where
  abbrev Generation : GraphParts → EntryFunction → Predicates → Plan → Said → Type 0
  Generation graph entry p plan =
      IsGeneration m.sources graph entry p plan (within m.bounds) m.ends m.budget (generated_report graph entry.number plan (within m.bounds) m.ends m.budget m.json)

  by_report : (of : NamedEntry r m.sources m.entry) (p : Predicates) (plan : Plan) → IsPlanned of.graph m.query p plan
      → WritesBy of.graph of.entry p plan (within m.bounds) m.ends m.budget (generated_report of.graph of.entry.number plan (within m.bounds) m.ends m.budget m.json) said.out → WritesReport r m said
  by_report of p plan planned it = record {
    of = of;
    predicates = p;
    plan = plan;
    planned = planned;
    made = it.made;
    shown = it.shown;
    generated = it.generated;
    written = it.written ∙ ap (λ (json : Bool). generated_report of.graph of.entry.number plan (within m.bounds) m.ends m.budget json it.made) plain;
  }

  writes_report : IsDueOf r (generate m) said → WritesReport r m said
  writes_report due =
      let at = named_entry said some r m.sources m.entry (λ graph entry. OfQuery m.sources graph m.query (Generation graph entry)) due in
      let planned = of_query said some m.sources at.0.graph m.query (Generation at.0.graph at.0.entry) at.1 in
      by_report at.0 planned.0 planned.1.0 planned.1.1
      (by_text m.sources at.0.graph at.0.entry planned.0 planned.1.0 (within m.bounds) m.ends m.budget (generated_report at.0.graph at.0.entry.number planned.1.0 (within m.bounds) m.ends m.budget m.json) said some planned.1.2)

pub reports_are_true : ReportsAreTrue
reports_are_true r m said plain due some = writes_report r m said plain some due
