-- Room for gates, and how many there are.
use Rattle.std.proofs.Common.{◌≡◌, ℕ, ◌+◌, ◌*◌, ◌^◌, ◌≤◌, ◌<◌, List, length, Some, mul-le-mul, mul-le-mul_left, mul-le-mul_right, arith}
use Rattle.std.specs.Prelude.{slice_get}
use native.Mathlib.Nat.{mul-mul-mul_comm}
use Rattle.std.proofs.lemmas.Option.{slice_get_within}
use Rattle.cfa.specs.Graph.{IsGraph}
use Rattle.cfa.specs.Predicates.{IsPredicates}
use Rattle.cfa.specs.declared.parts.Function.{Function}
use Rattle.cfa.specs.declared.parts.GraphParts.{GraphParts}
use Rattle.cfa.specs.declared.state.Predicates.{Predicates}
use Rattle.circuit.specs.declared.lit.Gate.{Gate}
use Rattle.goals.specs.declared.plan.Plan.{Plan}
use Rattle.patterns.specs.Letters.{letter_count}
use Rattle.patterns.specs.Match.{Form}
use Rattle.patterns.specs.declared.letter.Letter.{Letter}
use Rattle.unwinder.proofs.Made.{few_inputs}
use Rattle.unwinder.specs.Unwinding.{IsUnwound}
use Rattle.unwinder.specs.declared.unwound.Unwound.{Unwound}
use Rattle.unwinder.specs.input_words.Worlds.{world_length}
use Rattle.unwinder_reach.specs.unwinding_size.Sizes.{size_sum}
use Rattle.goal_formula.specs.Laws.{UnwindingsLeaveRoom, VariablesAreFew}
use Rattle.goal_formula.specs.Parts.{CanSay, SaysHit, most_hit_gates, most_match_gates}
use Rattle.goal_formula.specs.declared.goal.GoalFormula.{GoalFormula}
use Rattle.goal_formula.specs.Sizes.{goal_size, passing_size, pattern_size, size_of}
use Rattle.goal_formula.proofs.Taken.{times_more}

-- so many gates for each of so many entries, of which there may be more
pub gates_fit : (g s at n : ℕ) → g ≤ 8 * s → at ≤ n → g * at ≤ most_match_gates s n
gates_fit g s at n few le = mul-le-mul few le

-- there is room for the gates of one more entry
pub room_next : (g s at n old used : ℕ) → g ≤ 8 * s → at < n → used ≤ old + g * at → old + most_match_gates s n < 2 ^ 30 → used + g < 2 ^ 30
room_next g s at n old used few lt before room =
    let most : g * (at + 1) ≤ most_match_gates s n = gates_fit g s (at + 1) n few (omega arith) in
    let next = times_more g at in
    omega arith

-- the gates of one more entry fit
pub gates_next : (g s at n : ℕ) → g ≤ 8 * s → at < n → g * at + g ≤ most_match_gates s n
gates_next g s at n few lt =
    let most : g * (at + 1) ≤ most_match_gates s n = gates_fit g s (at + 1) n few (omega arith) in
    let next = times_more g at in
    omega (arith, most, next)

-- ---- all gates of a goal

some_size : (p : Form Letter) → 1 ≤ pattern_size p
some_size p =
    let side : 1 ≤ letter_count p + 2 = omega arith in
    let h : 1 * 1 ≤ pattern_size p = mul-le-mul side side in
    omega (arith, h)

distribute : (a b r : ℕ) → (a + b) * r ≡ a * r + b * r
distribute a b r = grind arith

few_each : (a n r : ℕ) → n ≤ 3 * r → 8 * a * n ≤ 24 * (a * r)
few_each a n r le =
    let more : 8 * a * n ≤ 8 * a * (3 * r) = mul-le-mul_left (8 * a) le in
    let same : 8 * a * (3 * r) ≡ 8 * 3 * (a * r) = mul-mul-mul_comm 8 a 3 r in
    omega (arith, more, same)

few_in_all : (a b n r : ℕ) → 1 ≤ a → 1 ≤ r → n ≤ 2 * r + 1 → 8 * a * n + 8 * b * n + 2 * n + 2 ≤ 48 * ((a + b) * r)
few_in_all a b n r some pairs few =
    let own = few_each a n r (omega arith) in
    let other = few_each b n r (omega arith) in
    let least : 1 * r ≤ a * r = mul-le-mul_right r some in
    let split = distribute a b r in
    omega (arith, own, other, least, split)

pub few_hit_gates : (plan : Plan) (pattern : Form Letter) (n r : ℕ) → 1 ≤ r → n ≤ 2 * r + 1 → most_hit_gates plan pattern n ≤ 48 * size_of plan pattern r
few_hit_gates plan pattern n r pairs few = few_in_all (pattern_size pattern) (passing_size plan.passing) n r (some_size pattern) pairs few

-- ---- over an unwinding

-- the inputs, the size sum, and the pairs for each of the predicates and once more
room_for : (inputs size predicates pairs gates : ℕ) → inputs ≤ 2097152 → size ≤ 4194304 → predicates ≤ 64 → pairs ≤ 50000 → gates ≤ 48 * 8388608 → inputs + 32 * size + 128 * ((predicates + 1) * pairs) + gates < 2 ^ 30
room_for inputs size predicates pairs gates a b c d e =
    let each : predicates + 1 ≤ 65 = omega (arith, c) in
    let few : (predicates + 1) * pairs ≤ 65 * 50000 = mul-le-mul each d in
    omega (arith, a, b, few, e)

module _ (parts : GraphParts) (predicates : Predicates) (f : Function) (u : Unwound) (plan : Plan) (pattern : Form Letter)
    (h : IsUnwound parts predicates f u.entry u.bounds u.ends u) where
  pub some_pair : 1 ≤ u.pairs
  some_pair =
      let first = slice_get_within h.pairs 0 _ h.reached.first in
      let count = h.pair_count in
      omega (arith, first, count)

  pub few_gates : most_hit_gates plan pattern (length u.entries) ≤ 48 * size_of plan pattern u.pairs
  few_gates = few_hit_gates plan pattern (length u.entries) u.pairs some_pair h.few_entries

  pub can_say : IsGraph parts → slice_get parts.functions u.entry ≡ Some f → IsPredicates parts predicates → size_of plan pattern u.pairs ≤ 8388608 → CanSay f u plan pattern
  can_say g own are small = record {
    wires = λ k e there. let it = h.entries k e there in record { guard = it.guard; ended = it.ended; truths = it.truths };
    some = (let count = h.entry_count in omega (arith, count));
    room =
        (let inputs = few_inputs parts u.entry f u.bounds.answers g own h.most_answers in
        let gates = few_gates in
        let wires = h.wires in
        let most = room_for _ _ (length predicates.meanings) (length h.pairs) (most_hit_gates plan pattern (length u.entries)) inputs h.small are.most h.few_pairs (omega (arith, gates, small)) in
        omega (arith, wires, most));
    inputs = h.words.inputs;
    most_answers = h.most_answers;
  }

  -- a formula that says that the entries hit a goal has fewer variables than a circuit may have wires
  pub few_says : (new : List Gate) (g : GoalFormula) → SaysHit u.circuit new u.entries plan pattern f.parameters u.bounds.answers g → CanSay f u plan pattern → g.formula.variables < 2 ^ 30
  few_says new g s can = omega (arith, s.says.few_variables, s.grows.used, can.room)

-- ---- within the limits

pub variables_are_few_law : VariablesAreFew
variables_are_few_law parts predicates entry f bounds plan goal pairs steps g are own few_answers few_pairs small size =
    let inputs = few_inputs parts entry f bounds.answers g own few_answers in
    let gates : 48 * goal_size plan goal (length pairs) ≤ 48 * 8388608 = mul-le-mul_left 48 size in
    room_for (world_length f.parameters bounds.answers) (size_sum parts predicates f pairs steps) (length predicates.meanings) (length pairs) (48 * goal_size plan goal (length pairs)) inputs small are.most few_pairs gates

pub unwindings_leave_room_law : UnwindingsLeaveRoom
unwindings_leave_room_law parts predicates f u g are own h =
    let inputs = few_inputs parts u.entry f u.bounds.answers g own h.most_answers in
    let wires = h.wires in
    let most = room_for _ _ (length predicates.meanings) (length h.pairs) (48 * 8388608) inputs h.small are.most h.few_pairs (omega arith) in
    omega (arith, wires, most)
