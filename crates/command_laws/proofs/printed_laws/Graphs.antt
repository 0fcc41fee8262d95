-- The automaton of texts meets the rules of automata, and the entry of a name is one of its functions.
use Rattle.std.proofs.Common.{◌≡◌, ℕ, List, [], length, Option, Some, None, refl, sym, ap, subst, ◌∙◌}
use Rattle.std.specs.Prelude.{◌==◌, Bool, true, false, if◌then◌else◌, option_and_then, slice_get}
use Rattle.std.specs.Option.{option_map_or}
use Rattle.std.proofs.lemmas.List.{length-map}
use Rattle.c_lex.specs.declared.token.SourceText.{SourceText}
use Rattle.c_types.specs.Units.{typed_of}
use Rattle.cfa.specs.Graph.{IsGraph}
use Rattle.cfa.specs.Names.{first_named}
use Rattle.cfa.specs.declared.parts.Function.{Function}
use Rattle.cfa.specs.declared.parts.GraphParts.{GraphParts}
use Rattle.c_front.specs.Automata.{IsAutomatonOf, names_of}
use Rattle.c_lower_rules.proofs.graph_rules.Whole.{graph_fits}
use Rattle.c_types_laws.proofs.tree_contents.Texts.{units_of_texts}
use Rattle.c_typed_trees.specs.Fitting.{IsFitting}
use Rattle.c_types_laws.proofs.typing_fits.Units.{unit_fits}
use Rattle.report.specs.Made.{parameter_kinds}
use Rattle.command_words.specs.Reading.{Text}
use Rattle.command.specs.Runs.{EntryFunction, entry_of, if_startable, startable_at}
use Rattle.command.specs.Sources.{HaveAutomaton}

pub automaton_is_graph : (texts : List SourceText) (graph : GraphParts) → IsAutomatonOf texts graph → IsGraph graph
automaton_is_graph texts graph a =
    let t = typed_of a.items in
    let own : IsFitting t (length texts) = unit_fits a.items (length texts) (units_of_texts texts a.unit.tokens a.items a.unit.cut a.unit.unit.spelled) a.faultless in
    let fits : IsFitting t (length (names_of texts)) = subst (IsFitting t) (sym (length-map texts (λ (text : SourceText). text.name))) own in
    subst IsGraph (sym a.is) (graph_fits t (names_of texts) fits)

pub sources_are_graph : (holds : List ℕ → Option (List ℕ)) (sources : List Text) (graph : GraphParts) → HaveAutomaton holds sources graph → IsGraph graph
sources_are_graph holds sources graph have = automaton_is_graph have.texts graph have.automaton

-- the entry is the function of its number
pub entry_there : (graph : GraphParts) (name : List ℕ) (entry : EntryFunction) → entry_of graph name ≡ Some entry → slice_get graph.functions entry.number ≡ Some entry.function
entry_there graph name entry is = by_name (first_named graph.functions name) is
  where
    by_test : (number : ℕ) (f : Function) (test : Bool) → slice_get graph.functions number ≡ Some f → (if test then Some (record { number = number; function = f }) else None) ≡ Some entry
        → slice_get graph.functions entry.number ≡ Some entry.function
    by_test number f true there some =
        let own : number ≡ entry.number = cc in
        let same : f ≡ entry.function = cc in
        ap (slice_get graph.functions) (sym own) ∙ there ∙ ap Some same
    by_test number f false there some = absurd (cc)

    by_function : (number : ℕ) (o : Option Function) → slice_get graph.functions number ≡ o → option_and_then (if_startable number) o ≡ Some entry → slice_get graph.functions entry.number ≡ Some entry.function
    by_function number None there some = absurd (cc)
    by_function number (Some f) there some = by_test number f (length f.arrays == 0) there some

    by_name : (o : Option ℕ) → option_and_then (startable_at graph) o ≡ Some entry → slice_get graph.functions entry.number ≡ Some entry.function
    by_name None some = absurd (cc)
    by_name (Some number) some = by_function number (slice_get graph.functions number) refl some

pub entry_kinds : (graph : GraphParts) (name : List ℕ) (entry : EntryFunction) → entry_of graph name ≡ Some entry → parameter_kinds graph entry.number ≡ entry.function.parameters
entry_kinds graph name entry is = ap (λ (o : Option Function). option_map_or (λ (f : Function). f.parameters) o []) (entry_there graph name entry is)
