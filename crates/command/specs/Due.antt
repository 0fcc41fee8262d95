-- What is due: what the program says, by its words and by the files that they name.
use Rattle.std.specs.Prelude.{◌≡◌, List, MatchOption, length}
use Rattle.cfa.specs.declared.parts.GraphParts.{GraphParts}
use Rattle.report.specs.GraphText.{graph_text}
use Rattle.report.specs.Texts.{goals_text}
use Rattle.c_typed_trees.specs.declared.unit.Typed.{Typed}
use Rattle.command_words.specs.Reading.{Text}
use Rattle.command_words.specs.Request as asks
use Rattle.command_words.specs.Request.{Asked, measure, generate, goals, runs, prove, check, suffice, sample, Measuring, Listing, Replaying, Running, Tracing, request_of}
use Rattle.command.specs.Check.{IsDueOfCheck}
use Rattle.command.specs.CheckBounds.{IsDueOfCheckBounds}
use Rattle.command.specs.Events.{AreEvents}
use Rattle.command.specs.Generate.{IsDueOfGenerate}
use Rattle.command.specs.Least.{IsDueOfLeast}
use Rattle.command.specs.Measure.{IsMeasured}
use Rattle.command.specs.Trees.{ended}
use Rattle.command.specs.Prove.{IsDueOfProve}
use Rattle.command.specs.Reads.{Reads}
use Rattle.command.specs.RunList.{recorded}
use Rattle.command.specs.Said.{Said, answered}
use Rattle.command.specs.Sample.{IsDueOfSample}
use Rattle.command.specs.Stages.{OfEntry, OfInputs, OfQuery, OfSources, OfTraces, OfTrees, usage}
use Rattle.command.specs.declared.bounds.Form.TheVariants as form
use Rattle.command.specs.Bounds.{IsDueOfBounds}
use Rattle.command.specs.TraceFile.{inputs_in, longest}
use Rattle.command.specs.Traces.{traced}

-- ---- what is due of the commands that measure and list, by the sources' automaton

abbrev pub IsDueOfGoals : Listing → GraphParts → Said → Type 0
IsDueOfGoals m graph said = OfQuery m.sources graph m.query (λ p plan said. said ≡ answered (goals_text graph plan)) said

abbrev pub IsDueOfGraph : GraphParts → Said → Type 0
IsDueOfGraph graph said = said ≡ answered (graph_text graph)

module _ (r : Reads) where
  abbrev pub IsDueOfMeasure : Measuring → GraphParts → Said → Type 0
  IsDueOfMeasure m graph said =
      OfEntry graph m.entry (λ entry. OfQuery m.sources graph m.query (λ p plan.
      OfInputs r m.sources m.inputs (length entry.function.parameters) (IsMeasured graph entry p plan m.ends m.steps m.json))) said

  abbrev pub IsDueOfRuns : Running → GraphParts → Said → Type 0
  IsDueOfRuns m graph said =
      OfEntry graph m.entry (λ entry. OfInputs r m.sources m.inputs (length entry.function.parameters) (λ given said. said ≡ recorded graph entry m.steps given)) said

  abbrev pub IsDueOfTraces : Tracing → GraphParts → Said → Type 0
  IsDueOfTraces m graph said =
      OfEntry graph m.entry (λ entry. OfInputs r m.sources m.inputs (length entry.function.parameters) (λ given said. said ≡ traced graph entry m.ends m.steps given)) said

  -- the report of measuring the inputs of the traces, as far as the longest of them
  abbrev pub IsDueOfReplay : Replaying → GraphParts → Said → Type 0
  IsDueOfReplay m graph said =
      OfEntry graph m.entry (λ entry. OfQuery m.sources graph m.query (λ p plan.
      OfTraces r m.sources graph entry.function m.ends m.traces p (λ given. IsMeasured graph entry p plan m.ends (longest given) m.json (inputs_in given)))) said

  -- the ends of runs by the meaning of the sources' typed tree, with as many turns as there are steps
  abbrev pub IsDueOfTrees : Running → GraphParts → Typed → Said → Type 0
  IsDueOfTrees m graph typed said =
      OfEntry graph m.entry (λ entry. OfInputs r m.sources m.inputs (length entry.function.parameters) (λ given said. said ≡ ended graph typed entry m.steps given)) said

  -- what happens in runs, as the edges of the automaton tell it and as it is by the meaning of the typed tree
  abbrev pub IsDueOfEvents : Running → GraphParts → Typed → Said → Type 0
  IsDueOfEvents m graph typed said =
      OfEntry graph m.entry (λ entry. OfInputs r m.sources m.inputs (length entry.function.parameters) (AreEvents graph typed entry m.steps)) said

  -- ---- what is due, by what is asked

  abbrev pub IsDueOf : Asked → Said → Type 0
  IsDueOf (measure m) said = OfSources r m.sources (IsDueOfMeasure m) said
  IsDueOf (generate m) said = OfSources r m.sources (IsDueOfGenerate m) said
  IsDueOf (goals m) said = OfSources r m.sources (IsDueOfGoals m) said
  IsDueOf (runs m) said = OfSources r m.sources (IsDueOfRuns m) said
  IsDueOf (prove m) said = OfSources r m.sources (IsDueOfProve m) said
  IsDueOf (check m) said = OfSources r m.sources (IsDueOfCheck r m) said
  IsDueOf (suffice m) said = OfSources r m.sources (IsDueOfBounds form.Line m) said
  IsDueOf (asks.prove_bounds m) said = OfSources r m.sources (IsDueOfBounds form.Certificate m) said
  IsDueOf (asks.check_bounds m) said = OfSources r m.sources (IsDueOfCheckBounds r m) said
  IsDueOf (asks.least m) said = OfSources r m.sources (IsDueOfLeast m) said
  IsDueOf (asks.traces m) said = OfSources r m.sources (IsDueOfTraces m) said
  IsDueOf (asks.replay m) said = OfSources r m.sources (IsDueOfReplay m) said
  IsDueOf (asks.trees m) said = OfTrees r m.sources (IsDueOfTrees m) said
  IsDueOf (asks.events m) said = OfTrees r m.sources (IsDueOfEvents m) said
  IsDueOf (asks.graph sources) said = OfSources r sources IsDueOfGraph said
  IsDueOf (sample number) said = IsDueOfSample number said

  -- by the words
  abbrev pub IsDue : List Text → Said → Type 0
  IsDue words said = MatchOption (request_of words) (said ≡ usage) (λ asked. IsDueOf asked said)
