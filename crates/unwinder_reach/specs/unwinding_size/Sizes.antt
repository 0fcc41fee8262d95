-- The size sum of a bounded unwinding: what the pairs that are reached weigh, from which its wires are bounded.
use Rattle.std.specs.Prelude.{◌≡◌, ℕ, ◌+◌, ◌-◌, ◌*◌, ◌<◌, ◌==◌, List, [], ◌∷◌, length, Option, Some, None, slice_get, sum_by, count_by}
use Rattle.fq_core.specs.declared.refusal.Fault.{Fault}
use Rattle.fq_core.specs.declared.refusal.Fault.TheVariants as fault
use Rattle.fq_core.specs.declared.refusal.Place.TheVariants as place
use Rattle.fq_core.specs.Refusals.{refusal}
use Rattle.cfa.specs.declared.expr.Expr.{Expr}
use Rattle.cfa.specs.declared.parts.Function.{Function}
use Rattle.cfa.specs.declared.parts.GraphParts.{GraphParts}
use Rattle.cfa.specs.declared.parts.Node.{Node}
use Rattle.cfa.specs.declared.state.Predicates.{Predicates}
use Rattle.cfa.specs.Contexts.{Context, FrameContext, Pair}
use Rattle.cfa.specs.Graph.{function_called}
use Rattle.unwinder_reach.specs.declared.reached.step.Step.{Step}
use Rattle.sym_expr.specs.Weights.{operations_weight, weight_of}

-- ---- the predicates at a node

-- a predicate where it has a typing in a scope
abbrev pub meaning_weight : Option (Option Expr) → ℕ
meaning_weight None = 0
meaning_weight (Some None) = 0
meaning_weight (Some (Some e)) = weight_of e

-- the predicates that have a typing in the scope of a number
abbrev pub scope_weight : Predicates → ℕ → ℕ
scope_weight predicates scope = sum_by (λ row. meaning_weight (slice_get row scope)) predicates.meanings

abbrev pub node_weight : Predicates → Option Node → ℕ
node_weight predicates None = 0
node_weight predicates (Some n) = scope_weight predicates n.scope

-- the predicates that have a typing in the scope of a node
abbrev pub predicates_weight : GraphParts → Predicates → ℕ → ℕ
predicates_weight parts predicates node = node_weight predicates (slice_get parts.nodes node)

-- ---- the edges into a pair

abbrev pub cells_of : Option Function → ℕ
cells_of None = 0
cells_of (Some f) = f.cells

-- the function that a frame is of: the one that its call calls, and of the first frame the one where walks begin
abbrev pub function_of_call : GraphParts → Function → Option ℕ → Option Function
function_of_call parts first None = Some first
function_of_call parts first (Some call) = function_called parts call

abbrev pub frame_cells : GraphParts → Function → FrameContext → ℕ
frame_cells parts first frame = cells_of (function_of_call parts first frame.call)

-- the cells of the store: those of the globals and of all frames
abbrev pub store_cells : GraphParts → Function → Context → ℕ
store_cells parts first context = length parts.globals + sum_by (frame_cells parts first) context.frames

-- how many steps lead to the pair of a number
abbrev pub steps_into : List (List Step) → ℕ → ℕ
steps_into steps i = sum_by (λ row. count_by (λ (s : Step). s.to == i) row) steps

-- 8 for each cell of the store, for each step into a pair after the first
abbrev pub merges_weight : GraphParts → Function → List (List Step) → ℕ → Pair → ℕ
merges_weight parts first steps i p = 8 * (store_cells parts first p.context * (steps_into steps i - 1))

-- ---- all pairs

-- the pair of a number
abbrev pub pair_weight : GraphParts → Predicates → Function → List (List Step) → ℕ → Pair → ℕ
pair_weight parts predicates first steps i p =
    operations_weight parts p.node + predicates_weight parts predicates p.node + merges_weight parts first steps i p

-- pairs that are numbered from a number on
abbrev pub pairs_weight : GraphParts → Predicates → Function → List (List Step) → ℕ → List Pair → ℕ
pairs_weight parts predicates first steps i [] = 0
pairs_weight parts predicates first steps i (p ∷ ps) =
    pair_weight parts predicates first steps i p + pairs_weight parts predicates first steps (i + 1) ps

-- the size sum of the pairs that walks from the entry of a function reach, with the steps between them
abbrev pub size_sum : GraphParts → Predicates → Function → List Pair → List (List Step) → ℕ
size_sum parts predicates first pairs steps = pairs_weight parts predicates first steps 0 pairs

-- code 81 at the limit of 4,194,304 says that the size sum passes it, and want of memory is free
abbrev pub IsSizeFault : ℕ → Fault → Type 0
IsSizeFault size (fault.Refused r) = (fault.Refused r ≡ refusal 81 (place.Limit 4194304)) × (4194304 < size)
IsSizeFault size fault.Memory = Unit {0}
