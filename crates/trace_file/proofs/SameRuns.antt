-- A run is the run of the input whose words are fitted to the parameters' kinds and whose answers are those that it took.
use Rattle.std.proofs.Common.{◌≡◌, ℕ, ◌<◌, ◌^◌, List, [], ◌∷◌, Some, refl, All, pos}
use Rattle.std.specs.Prelude.{IsTrue, slice_get}
use Rattle.std.specs.List.{list_all}
use Rattle.bit_words.proofs.Values.{wrapped-value}
use Rattle.c_meaning.specs.Runs.{IsRun, Run}
use Rattle.c_meaning.specs.Starts.{fitted, fitted_words}
use Rattle.c_meaning.specs.declared.ends.Ends.{Ends}
use Rattle.c_meaning.specs.declared.input.Input.{Input}
use Rattle.c_values.proofs.Fitting.{IsValue-wrapped, and_left, and_right, value_parts}
use Rattle.c_values.specs.Kind.{IsKind, IsValue, is_kind}
use Rattle.c_values.specs.declared.kinds.Kind.{Kind}
use Rattle.cfa.specs.Graph.{IsGraph, result_kind_fits}
use Rattle.cfa.specs.declared.parts.Function.{Function}
use Rattle.cfa.specs.declared.parts.GraphParts.{GraphParts}
use Rattle.cfa.specs.declared.state.Predicates.{Predicates}
use Rattle.path_runner.specs.Paths.{record_of}
use Rattle.suite.proofs.Trimming.{answers_fit, reworded, reworded_record, reworded_run}

-- ---- kinds and words

abbrev pub AreKinds : List Kind → Type 0
AreKinds kinds = IsTrue (list_all is_kind kinds)

pub own_kinds : (parts : GraphParts) (k : ℕ) (f : Function) → IsGraph parts → slice_get parts.functions k ≡ Some f → AreKinds f.parameters
own_kinds parts k f graph own = and_left (list_all is_kind f.parameters) (result_kind_fits f.result) (graph.rest.functions k f own).signature

pub fitted_value : (kind : Kind) (word : ℕ) → IsKind kind → IsValue kind (fitted kind word)
fitted_value kind word own = IsValue-wrapped kind (pos word) own

pub value_small : (kind : Kind) (value : ℕ) → IsValue kind value → value < 2 ^ 64
value_small kind value own = (value_parts kind value own).pattern

fitted_twice : (words : List ℕ) (kinds : List Kind) → AreKinds kinds → fitted_words (fitted_words words kinds) kinds ≡ fitted_words words kinds
fitted_twice [] kinds own = refl
fitted_twice (word ∷ words) [] own = refl
fitted_twice (word ∷ words) (kind ∷ kinds) own =
    let here : fitted kind (fitted kind word) ≡ fitted kind word = wrapped-value kind (fitted kind word) (fitted_value kind word (and_left (is_kind kind) (list_all is_kind kinds) own)) in
    let rest = fitted_twice words kinds (and_right (is_kind kind) (list_all is_kind kinds) own) in
    λ i. here i ∷ rest i

-- ---- runs

module _ (parts : GraphParts) (graph : IsGraph parts) (f : Function) (own : AreKinds f.parameters) (p : Predicates) (ends : Ends) (x : Input) (r : Run) (h : IsRun parts f x ends r) where
  pub alike : fitted_words (fitted_words x.words f.parameters) f.parameters ≡ fitted_words x.words f.parameters
  alike = fitted_twice x.words f.parameters own

  -- the input as it is written
  abbrev pub written : Input
  written = reworded parts graph f p ends x r h (fitted_words x.words f.parameters) alike

  pub written_run : IsRun parts f written ends r
  written_run = reworded_run parts graph f p ends x r h (fitted_words x.words f.parameters) alike

  pub written_record : record_of parts written p r ≡ record_of parts x p r
  written_record = reworded_record parts graph f p ends x r h (fitted_words x.words f.parameters) alike

  -- the answers are values of their kinds
  pub taken_values : All (λ (answer : Kind × ℕ). IsValue answer.0 answer.1) (record_of parts x p r).taken
  taken_values = answers_fit parts graph x r.moves
