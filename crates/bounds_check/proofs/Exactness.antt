-- A formula that says that no entry of an unwinding that holds has ended is exact for leaving the bounds.
use Rattle.std.proofs.Common.{◌≡◌, ◌^◌, ◌≤◌, ℕ, false, not, Some, refl, sym, ap, subst, ◌∙◌, arith}
use Rattle.std.specs.Prelude.{All, slice_get}
use Rattle.std.proofs.lemmas.Option.{slice_get_within}
use Rattle.c_meaning.specs.declared.ends.Ends.{Ends}
use Rattle.c_meaning.specs.declared.ends.Ends.TheVariants as counted
use Rattle.c_values.specs.Kind.{IsKind}
use Rattle.cfa.specs.Graph.{IsGraph}
use Rattle.cfa.specs.Predicates.{IsPredicates}
use Rattle.cfa.specs.declared.parts.Function.{Function}
use Rattle.cfa.specs.declared.parts.GraphParts.{GraphParts}
use Rattle.cfa.specs.declared.state.Predicates.{Predicates}
use Rattle.circuit.specs.Truth.{World}
use Rattle.circuit.specs.Wires.{lit_holds}
use Rattle.goal_formula.proofs.InputBits.{gives_own}
use Rattle.goal_formula.proofs.InputWorlds.{input_given, input_world}
use Rattle.goal_formula.proofs.Rooms.{unwindings_leave_room_law}
use Rattle.goal_formula.specs.Bits.{Gives, input_from, input_variables}
use Rattle.goal_formula.specs.Forms.{IsFormulaOf}
use Rattle.goal_formula.specs.declared.goal.GoalFormula.{GoalFormula}
use Rattle.unwinder.proofs.input_words.WorldLemmas.{length-world_of}
use Rattle.unwinder.specs.input_words.Worlds.{world_length, world_of}
use Rattle.unwinder_reach.specs.declared.reached.bounds.Bounds.{Bounds}
use Rattle.unwinder.proofs.Made.{parameter_kinds}
use Rattle.unwinder.specs.Lists.{entries_in}
use Rattle.unwinder.specs.Unwinding.{IsUnwound}
use Rattle.unwinder.specs.declared.unwound.Entry.{Entry}
use Rattle.unwinder.specs.declared.unwound.Unwound.{Unwound}
use Rattle.goal_formula_laws.proofs.unwound_laws.Leaving.{none_has_ended}
use Rattle.bounds_check.specs.Leaving.{IsExactForLeaving, no_predicates}
use Rattle.bounds_check.specs.Parts.{CanSay, SaysOpen}
use Rattle.bounds_check.proofs.Opening.{all_fail, none_passes, not_true}

-- no predicates go with every graph
pub none_go : (parts : GraphParts) → IsPredicates parts no_predicates
none_go parts = record { texts = refl; most = omega arith; scopes = λ i row at. absurd cc; rules = λ i row at. absurd cc }

-- an unwinding is one by what it says of itself
own_unwound : (parts : GraphParts) (p : Predicates) (f : Function) (entry : ℕ) (bounds : Bounds) (ends : Ends) (u : Unwound) → IsUnwound parts p f entry bounds ends u → IsUnwound parts p f u.entry u.bounds u.ends u
own_unwound parts p f entry bounds ends u h =
    let by_entry : IsUnwound parts p f u.entry bounds ends u = subst (λ e. IsUnwound parts p f e bounds ends u) (sym h.given_entry) h in
    let by_bounds : IsUnwound parts p f u.entry u.bounds ends u = subst (λ b. IsUnwound parts p f u.entry b ends u) (sym h.given_bounds) by_entry in
    subst (λ e. IsUnwound parts p f u.entry u.bounds e u) (sym h.given_ends) by_bounds

module _ (parts : GraphParts) (f : Function) (entry : ℕ) (bounds : Bounds) (u : Unwound) (graph : IsGraph parts) (own : slice_get parts.functions entry ≡ Some f)
    (h : IsUnwound parts no_predicates f entry bounds counted.Any u) where
  same_answers : u.bounds.answers ≡ bounds.answers
  same_answers = ap (λ (b : Bounds). b.answers) h.given_bounds

  pub can_say : CanSay f.parameters u
  can_say = record {
    wires = λ k e there. let it = h.entries k e there in record { guard = it.guard; ended = it.ended; truths = it.truths };
    room =
        (let at = ap (slice_get parts.functions) h.given_entry ∙ own in
        let room = unwindings_leave_room_law parts no_predicates f u graph (none_go parts) at (own_unwound parts no_predicates f entry bounds counted.Any u h) in
        let few = h.few_entries in
        let count = h.pair_count in
        let pairs = h.few_pairs in
        omega (arith, room, few, count, pairs));
    inputs = h.words.inputs ∙ ap (λ n. world_length f.parameters n) (sym same_answers);
    most_answers = (let most = h.most_answers in omega (arith, most, same_answers));
  }

  module _ (g : GoalFormula) (s : SaysOpen u.circuit u.entries f.parameters u.bounds.answers g) where
    pub few_says : g.formula.variables ≤ 2 ^ 30
    few_says = omega (arith, s.says.few_variables, s.grows.used, can_say.room)

    kinds : All IsKind f.parameters
    kinds = parameter_kinds parts entry f graph own

    abbrev Ended : World → Entry → Type 0
    Ended w e = lit_holds u.circuit e.ended w ≡ false

    says : IsFormulaOf s.new s.root f.parameters bounds.answers g
    says = subst (λ n. IsFormulaOf s.new s.root f.parameters n g) same_answers s.says

    pub exact : IsExactForLeaving parts f bounds g
    exact = record {
      shape = says.shape;
      sound = λ value satisfies.
          let input = input_from value f.parameters g in
          let given = input_given value f bounds.answers g h.arrays says.shape in
          let w : World = world_of f.parameters bounds.answers input in
          let gives : Gives value (input_variables g) w = subst (Gives value (input_variables g)) (sym (input_world value f.parameters bounds.answers g says.shape kinds)) (gives_own value (input_variables g)) in
          let holds = says.sound value w satisfies gives in
          let none = not_true _ (sym (s.is_open.value w) ∙ holds) in
          (none_has_ended parts no_predicates f bounds u.circuit u.entries h.lists input given).1
          (none_passes (λ (e : Entry). lit_holds u.circuit e.ended w) (entries_in u.circuit u.entries w) none);
      complete = λ input given leaves.
          let w : World = world_of f.parameters bounds.answers input in
          let all = (none_has_ended parts no_predicates f bounds u.circuit u.entries h.lists input given).0 leaves in
          let none = all_fail (λ (e : Entry). lit_holds u.circuit e.ended w) (entries_in u.circuit u.entries w) all in
          says.complete w (length-world_of f.parameters bounds.answers input) (s.is_open.value w ∙ ap not none);
      gates = s.new;
      root = s.root;
      variable = says.variable;
      form = says.form;
      inputs_over = says.inputs_over;
      inputs_apart = says.inputs_apart;
      pairs = h.pairs;
      steps = h.steps;
      reached = h.reached;
      few_variables =
          (let few = says.few_variables in
          let used = s.grows.used in
          let wires = h.wires in
          let entries = h.few_entries in
          let count = h.pair_count in
          let first = slice_get_within h.pairs 0 _ h.reached.first in
          omega (arith, few, used, wires, entries, count, first));
      over = says.over;
      few_clauses = says.few_clauses;
    }
