-- What was found by generation, as JSON: an object whose keys stand in the order of their bytes, on one line with no spaces.
use Rattle.std.specs.Prelude.{ℕ, List, [], ◌∷◌, ◌++◌, codes, map}
use Rattle.c_meaning.specs.declared.ends.Ends.{Ends}
use Rattle.c_meaning.specs.declared.input.Input.{Input}
use Rattle.c_values.specs.declared.kinds.Kind.{Kind}
use Rattle.cfa.specs.declared.parts.GraphParts.{GraphParts}
use Rattle.goals.specs.declared.answer.Answer.{Answer}
use Rattle.goals.specs.declared.plan.Plan.{Plan}
use Rattle.serde_json.specs.Data.{Data, Members, array, member, no_members, object}
use Rattle.serde_json.specs.View.{items_of}
use Rattle.serde_json.specs.Written.{compact_text}
use Rattle.input_text.specs.Printed.{input_data}
use Rattle.unwinder_reach.specs.declared.reached.bounds.Bounds.{Bounds}
use Rattle.suite_problem.specs.declared.generated.Generated.{Generated}
use Rattle.report.specs.Generated.{refuted_count, undecided_count}
use Rattle.report.specs.Json.{count_data, goals_data, with_ends}
use Rattle.report.specs.Made.{parameter_kinds}
use Rattle.report.specs.Texts.{covered_count}

-- the bounds of the unwinding, and the budget of the search
abbrev pub bounds_data : Bounds → ℕ → Data
bounds_data bounds budget =
    object (member (codes "answers") (count_data bounds.answers) (member (codes "budget") (count_data budget)
    (member (codes "frames") (count_data bounds.frames) (member (codes "turns") (count_data bounds.turns) no_members))))

-- each input to a function with parameters of these kinds, with the answers that its run takes
abbrev pub inputs_data : List Kind → List Input → List (List (Kind × ℕ)) → List Data
inputs_data kinds (input ∷ inputs) (taken ∷ rest) = input_data input kinds taken ∷ inputs_data kinds inputs rest
inputs_data kinds _ _ = []

-- the members behind the ends
abbrev pub later_members : Data → Data → Data → Data → Data → Members
later_members goals inputs refuted suite undecided =
    member (codes "goals") goals (member (codes "inputs") inputs (member (codes "refuted") refuted (member (codes "suite") suite
    (member (codes "undecided") undecided no_members))))

-- what was found, key by key
abbrev pub found_object : Ends → Data → Data → Data → Data → Data → Data → Data → Data
found_object ends bounds covered goals inputs refuted suite undecided =
    object (member (codes "bounds") bounds (member (codes "covered") covered
    (with_ends ends (later_members goals inputs refuted suite undecided))))

-- what was found of the goals of a plan, beside these bounds and inputs
abbrev pub found_data : GraphParts → Plan → Data → List Data → List Answer → List ℕ → Ends → Data
found_data graph plan bounds inputs answers kept ends =
    found_object ends bounds (count_data (covered_count answers)) (array (items_of (goals_data graph plan answers plan.goals)))
    (array (items_of inputs)) (count_data (refuted_count answers)) (array (items_of (map count_data kept)))
    (count_data (undecided_count answers))

abbrev pub generated_data : GraphParts → Plan → ℕ → Generated → List ℕ → Bounds → ℕ → Ends → Data
generated_data graph plan entry made kept bounds budget ends =
    found_data graph plan (bounds_data bounds budget) (inputs_data (parameter_kinds graph entry) made.inputs made.taken) made.answers kept
    ends

-- the line
abbrev pub generated_json : GraphParts → Plan → ℕ → Generated → List ℕ → Bounds → ℕ → Ends → List ℕ
generated_json graph plan entry made kept bounds budget ends =
    compact_text (generated_data graph plan entry made kept bounds budget ends) ++ codes "\n"
