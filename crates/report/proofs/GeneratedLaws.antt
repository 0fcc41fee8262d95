-- What was found by generation, from its parts.
use Rattle.std.proofs.Common.{◌≡◌, ℕ, List, refl}
use Rattle.c_meaning.specs.declared.ends.Ends.{Ends}
use Rattle.c_values.specs.declared.kinds.Kind.{Kind}
use Rattle.cfa.specs.declared.parts.GraphParts.{GraphParts}
use Rattle.goals.specs.declared.plan.Plan.{Plan}
use Rattle.serde_json.specs.Data.{Data}
use Rattle.unwinder_reach.specs.declared.reached.bounds.Bounds.{Bounds}
use Rattle.suite_problem.specs.declared.generated.Generated.{Generated}
use Rattle.report.specs.GeneratedJson.{bounds_data, found_data, generated_data, inputs_data}
use Rattle.report.specs.Made.{parameter_kinds}

pub found_is : (graph : GraphParts) (plan : Plan) (entry : ℕ) (made : Generated) (kept : List ℕ) (within : Bounds) (budget : ℕ) (ends : Ends) (bounds : Data) (kinds : List Kind) (listed : List Data) (value : Data)
    → bounds ≡ bounds_data within budget → kinds ≡ parameter_kinds graph entry → listed ≡ inputs_data kinds made.inputs made.taken
    → value ≡ found_data graph plan bounds listed made.answers kept ends → value ≡ generated_data graph plan entry made kept within budget ends
found_is graph plan entry made kept within budget ends bounds kinds listed value b k l v = rw (v, b, l, k) refl
