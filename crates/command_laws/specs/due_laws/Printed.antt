-- The inputs that `generate` prints are those that it made.
use Rattle.std.specs.Prelude.{◌≡◌, ℕ, ◌≤◌, List, length, slice_get, Some, Ok}
use Rattle.std.specs.List.{flat_map}
use Rattle.cfa.specs.declared.parts.GraphParts.{GraphParts}
use Rattle.cfa.specs.declared.state.Predicates.{Predicates}
use Rattle.c_meaning.specs.declared.ends.Ends.{Ends}
use Rattle.goals.specs.declared.plan.Plan.{Plan}
use Rattle.c_meaning.specs.declared.input.Input.{Input}
use Rattle.c_values.specs.declared.kinds.Kind.{Kind}
use Rattle.input_text.specs.Inputs.{inputs_of_array}
use Rattle.input_text.specs.Lines.{input_of, line_input, texts_in, words_in}
use Rattle.input_text.specs.Outcome.{most_inputs}
use Rattle.unwinder_reach.specs.declared.reached.bounds.Bounds.{Bounds}
use Rattle.report.specs.Ends.{spaced_value}
use Rattle.report.specs.GeneratedJson.{inputs_data}
use Rattle.report.specs.Made.{arguments_text, parameter_kinds}
use Rattle.serde_json.specs.View.{items_of}
use Rattle.suite.specs.Generated.{IsGenerated, Shown}
use Rattle.suite_problem.specs.declared.generated.Generated.{Generated}
use Rattle.command.specs.Runs.{EntryFunction}

-- The value of the key `inputs` in the JSON report, read as an array of inputs to the entry, is what was made, word for word;
-- the report has no more inputs than a file may have.
abbrev pub PrintedInputsAreRead : Type 0
PrintedInputsAreRead =
    (graph : GraphParts) (entry : EntryFunction) (p : Predicates) (plan : Plan) (bounds : Bounds) (ends : Ends) (budget : ℕ) (made : Generated) (shown : List Shown)
    → slice_get graph.functions entry.number ≡ Some entry.function → IsGenerated graph entry.function p plan bounds ends budget made shown → length made.inputs ≤ most_inputs
    → inputs_of_array (length entry.function.parameters) (Some (items_of (inputs_data (parameter_kinds graph entry.number) made.inputs made.taken))) ≡ Ok made.inputs

-- The text report has a line for each input: the word `args` and the arguments, and where the run takes answers the word `answers`
-- and these. The arguments, read as a line of inputs to the entry, are the words of the input that was made, and the answers, read in
-- the same way, are its answers.
abbrev pub PrintedLinesAreRead : Type 0
PrintedLinesAreRead =
    (graph : GraphParts) (entry : EntryFunction) (p : Predicates) (plan : Plan) (bounds : Bounds) (ends : Ends) (budget : ℕ) (made : Generated) (shown : List Shown)
    (place : ℕ) (input : Input) (taken : List (Kind × ℕ))
    → slice_get graph.functions entry.number ≡ Some entry.function → IsGenerated graph entry.function p plan bounds ends budget made shown
    → slice_get made.inputs place ≡ Some input → slice_get made.taken place ≡ Some taken
    → (line_input (length entry.function.parameters) (texts_in (arguments_text input.words (parameter_kinds graph entry.number))) ≡ Ok (input_of input.words))
    × (words_in (texts_in (flat_map (λ (answer : Kind × ℕ). spaced_value answer.0 answer.1) taken)) ≡ Some input.answers)
