-- What is listed of runs is what happens by the trees.
use Rattle.std.proofs.Common.{◌≡◌, ℕ, List, [], ◌∷◌, ◌++◌, Option, Some, None, slice_get, refl, sym, subst}
use Rattle.std.specs.List.{All}
use Rattle.std.proofs.lemmas.List.{length-map}
use Rattle.c_front.specs.Automata.{IsAutomatonOf, names_of}
use Rattle.c_lex.specs.declared.token.SourceText.{SourceText}
use Rattle.c_meaning.specs.Starts.{CanStart, start_of}
use Rattle.c_meaning.specs.declared.input.Input.{Input}
use Rattle.c_types.specs.Units.{typed_of}
use Rattle.cfa.specs.declared.parts.Edge.{Edge}
use Rattle.cfa.specs.declared.parts.GraphParts.{GraphParts}
use Rattle.tree_events.specs.declared.edge_events.event.Event.{Event}
use Rattle.tree_events_laws.specs.expression_events.Follows.{edge_tells}
use Rattle.measurer_laws.proofs.path_events.Records.{unit_records_tell}
use Rattle.measurer_laws.specs.path_events.Laws.{Agrees, HappensBy, all_tell}
use Rattle.path_runner.specs.Paths.{path_of}
use Rattle.report.specs.EventsText.{told_along, told_at}
use Rattle.c_typed_trees.specs.declared.unit.Typed.{Typed}
use Rattle.command_words.specs.Reading.{Text}
use Rattle.command.specs.Events.{AreEvents, IsEventful, IsOfTrees}
use Rattle.command.specs.Runs.{EntryFunction, no_predicates, run_of}
use Rattle.command.specs.Said.{Said}
use Rattle.command.specs.Sources.{HaveAutomaton, HaveTrees}

-- ---- sources that have an automaton have a typed tree, which nothing else is made of

pub with_tree : (holds : List ℕ → Option (List ℕ)) (names : List Text) (graph : GraphParts) → HaveAutomaton holds names graph → (typed : Typed) × HaveTrees holds names graph typed
with_tree holds names graph have =
    let a = have.automaton in (
      typed_of a.items,
      record { texts = have.texts; read = have.read; automaton = a; tree = record { items = a.items; unit = a.unit; faultless = a.faultless; is = refl } },
    )

-- ---- what edges tell, in the words of the laws

told_same : (o : Option Edge) → told_at o ≡ edge_tells o
told_same None = refl
told_same (Some e) = refl

along_same : (graph : GraphParts) (edges : List ℕ) → told_along graph edges ≡ all_tell graph edges
along_same graph [] = refl
along_same graph (at ∷ edges) = λ i. told_same (slice_get graph.edges at) i ++ along_same graph edges i

-- ---- runs

module _ (texts : List SourceText) (graph : GraphParts) (a : IsAutomatonOf texts graph) (entry : EntryFunction) (there : slice_get graph.functions entry.number ≡ Some entry.function) (steps : ℕ) where
  agrees : (input : Input) → CanStart entry.function input.words → Agrees (typed_of a.items) graph entry.number entry.function no_predicates steps input
  agrees input starts =
      subst (λ (h : GraphParts). Agrees (typed_of a.items) h entry.number entry.function no_predicates steps input) (sym a.is)
      (unit_records_tell texts a.unit.tokens a.items (names_of texts) entry.number entry.function input no_predicates steps a.unit.cut a.unit.unit.spelled a.faultless
      (length-map texts (λ (t : SourceText). t.name)) (subst (λ (h : GraphParts). slice_get h.functions entry.number ≡ Some entry.function) a.is there) starts)

  of_trees : (input : Input) → CanStart entry.function input.words → IsOfTrees graph (typed_of a.items) entry steps input
  unfolding run_of
  of_trees input starts =
      let path = path_of graph input no_predicates steps (start_of graph entry.function input.words) in
      subst (λ (es : List Event). HappensBy (typed_of a.items) entry.number input steps path.end es) (sym (along_same graph path.edges)) (agrees input starts)

  -- what is said of inputs on which a run can start
  are_events : (given : List Input) → All (λ (input : Input). CanStart entry.function input.words) given → (said : Said) → IsEventful graph entry steps given said → AreEvents graph (typed_of a.items) entry steps given said
  are_events given starts said text = record { text = text; trees = λ k d within. of_trees _ (starts k d within) }

-- the same of an equal automaton
events_of_texts : (texts : List SourceText) (graph : GraphParts) (a : IsAutomatonOf texts graph) (entry : EntryFunction) (steps : ℕ) (h : GraphParts) → h ≡ graph → slice_get h.functions entry.number ≡ Some entry.function
    → (given : List Input) → All (λ (input : Input). CanStart entry.function input.words) given → (said : Said) → IsEventful h entry steps given said → AreEvents h (typed_of a.items) entry steps given said
events_of_texts texts graph a entry steps h is there given starts said text =
    subst (λ (g : GraphParts). AreEvents g (typed_of a.items) entry steps given said) (sym is)
    (are_events texts graph a entry (subst (λ (g : GraphParts). slice_get g.functions entry.number ≡ Some entry.function) is there) steps given starts said
    (subst (λ (g : GraphParts). IsEventful g entry steps given said) is text))

-- and of sources, by the typed tree that they have
pub events_at : (holds : List ℕ → Option (List ℕ)) (names : List Text) (graph : GraphParts) (have : HaveAutomaton holds names graph) (entry : EntryFunction) (steps : ℕ) (h : GraphParts) → h ≡ graph → slice_get h.functions entry.number ≡ Some entry.function
    → (given : List Input) → All (λ (input : Input). CanStart entry.function input.words) given → (said : Said) → IsEventful h entry steps given said → AreEvents h (with_tree holds names graph have).0 entry steps given said
unfolding with_tree
events_at holds names graph have entry steps h is there given starts said text = events_of_texts have.texts graph have.automaton entry steps h is there given starts said text
