-- A formula that says that the entries of an unwinding hit a goal is exact for it.
use Rattle.std.proofs.Common.{◌≡◌, ◌*◌, List, Some, sym, ap, subst, arith}
use Rattle.std.specs.Prelude.{All, slice_get}
use Rattle.c_values.specs.Kind.{IsKind}
use Rattle.cfa.specs.Graph.{IsGraph}
use Rattle.cfa.specs.declared.parts.Function.{Function}
use Rattle.cfa.specs.declared.parts.GraphParts.{GraphParts}
use Rattle.cfa.specs.declared.state.Predicates.{Predicates}
use Rattle.circuit.specs.Truth.{World}
use Rattle.circuit.specs.declared.lit.Gate.{Gate}
use Rattle.goals.specs.GoalForm.{GoalForm}
use Rattle.goals.specs.declared.plan.Plan.{Plan}
use Rattle.unwinder.proofs.input_words.WorldLemmas.{length-world_of}
use Rattle.unwinder.specs.input_words.Worlds.{world_of}
use Rattle.patterns.specs.Letters.{form}
use Rattle.unwinder.proofs.Made.{parameter_kinds}
use Rattle.unwinder.specs.Unwinding.{IsUnwound}
use Rattle.unwinder.specs.declared.unwound.Unwound.{Unwound}
use Rattle.goal_formula.specs.Bits.{Gives, input_from, input_variables}
use Rattle.goal_formula.specs.Exact.{IsExact}
use Rattle.goal_formula.specs.Parts.{SaysHit}
use Rattle.goal_formula.specs.Sizes.{size_of}
use Rattle.goal_formula.specs.declared.goal.GoalFormula.{GoalFormula}
use Rattle.goal_formula.proofs.InputBits.{gives_own}
use Rattle.goal_formula.proofs.InputWorlds.{input_given, input_world}
use Rattle.goal_formula.proofs.Rooms.{few_gates}
use Rattle.goal_formula.proofs.RunHits.{first_holds, hits_run, run_hits}

module _ (parts : GraphParts) (predicates : Predicates) (f : Function) (u : Unwound) (plan : Plan) (goal : GoalForm) (g : GoalFormula) (new : List Gate)
    (graph : IsGraph parts) (own : slice_get parts.functions u.entry ≡ Some f) (h : IsUnwound parts predicates f u.entry u.bounds u.ends u)
    (s : SaysHit u.circuit new u.entries plan (form goal.pattern) f.parameters u.bounds.answers g) where
  kinds : All IsKind f.parameters
  kinds = parameter_kinds parts u.entry f graph own

  pub exact : IsExact parts predicates f u.bounds u.ends plan goal g
  exact = record {
    shape = s.says.shape;
    sound = λ value satisfies.
        let input = input_from value f.parameters g in
        let given = input_given value f u.bounds.answers g h.arrays s.says.shape in
        let w : World = world_of f.parameters u.bounds.answers input in
        let gives : Gives value (input_variables g) w = subst (Gives value (input_variables g)) (sym (input_world value f.parameters u.bounds.answers g s.says.shape kinds)) (gives_own value (input_variables g)) in
        let holds = s.says.sound value w satisfies gives in
        let first = first_holds parts predicates f u.bounds u.ends plan goal u.circuit u.entries input h.lists given h.starts in
        hits_run parts predicates f u.bounds u.ends plan goal u.circuit u.entries input h.lists given ((s.hit.value w first).0 holds);
    complete = λ input given hits.
        let w : World = world_of f.parameters u.bounds.answers input in
        let first = first_holds parts predicates f u.bounds u.ends plan goal u.circuit u.entries input h.lists given h.starts in
        let entries = run_hits parts predicates f u.bounds u.ends plan goal u.circuit u.entries input h.lists given hits in
        s.says.complete w (length-world_of f.parameters u.bounds.answers input) ((s.hit.value w first).1 entries);
    gates = new;
    root = s.root;
    variable = s.says.variable;
    form = s.says.form;
    inputs_over = s.says.inputs_over;
    inputs_apart = s.says.inputs_apart;
    pairs = h.pairs;
    steps = h.steps;
    reached = h.reached;
    few_variables =
        (let few = s.says.few_variables in
        let used = s.grows.used in
        let wires = h.wires in
        let gates = few_gates parts predicates f u plan (form goal.pattern) h in
        let size = ap (λ n. 48 * size_of plan (form goal.pattern) n) h.pair_count in
        omega (arith, few, used, wires, gates, size));
    over = s.says.over;
    few_clauses = s.says.few_clauses;
  }
