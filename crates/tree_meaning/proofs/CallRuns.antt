-- Calls, and the functions that they run.
use Rattle.std.proofs.Common.{◌≡◌, ◌≤◌, ◌<◌, ℕ, suc, ◌+◌, ◌-◌, Bool, true, false, List, [], map, Some, None, refl, ap, ◌∙◌, arith}
use Rattle.std.specs.Prelude.{nat_le, slice_get, slice_index}
use Rattle.std.proofs.lemmas.Bool.{leb-true, leb-false}
use Rattle.cfa.specs.declared.parts.Variable.{Variable}
use Rattle.c_typed_trees.specs.declared.expression.Callee.{Callee}
use Rattle.c_typed_trees.specs.declared.expression.Callee.TheVariants.{Defined, Input}
use Rattle.c_typed_trees.specs.declared.expression.TypedCall.{TypedCall, out-TypedCall}
use Rattle.c_typed_trees.specs.declared.unit.TypedFunction.{TypedFunction}
use Rattle.tree_meaning.specs.declared.activation.Activation.{Activation}
use Rattle.tree_meaning.specs.Outcomes.{Store, Done, Gives, Ends, BlockedEnd, TooDeepEnd, ◌andthen◌, unless_trap, Evaluation, turn}
use Rattle.tree_meaning.specs.Activations.{first_cells, with_activation, without_activation}
use Rattle.tree_meaning.specs.Calls.{first_parts, word_values, unless_deep, called, answer, call_of, calling}
use Rattle.tree_meaning.specs.Expressions.{Meant}
use Rattle.tree_meaning.specs.Running.{Scene, meant_in, call_in, does_in, run_in, begun}
use Rattle.tree_meaning.specs.Statements.{block}
use Rattle.tree_meaning.specs.Tasks.{inner, runs}
use Rattle.tree_meaning.specs.Trees.{body_does, calls_in}
use Rattle.tree_meaning.proofs.Forms.{calling_in}

-- a call in an activation that isn't the last one takes a turn, and runs the function
pub calling_more : (c : Scene) (a : Activation) (callee : ℕ) (words : List ℕ) (s : Store) → c.activation.depth < 64 → a.depth ≡ c.activation.depth + 1
    → calls_in c.unit c.activation callee a words s ≡ turn s (λ s'. run_in (inner c a) (slice_get c.unit.functions callee) words s')
unfolding calls_in calling run_in
calling_more c a callee words s lt e =
    let left : 64 - c.activation.depth ≡ suc (64 - a.depth) = omega (arith, e, lt) in
    ap (λ n. calling (body_does c.unit) c.unit.functions n callee a words s) left

module _ (c : Scene) (q : TypedCall) where
  abbrev words : List Meant
  words = map (meant_in c) (out-TypedCall q).words

  abbrev arrays : List Variable
  arrays = (out-TypedCall q).arrays

  by_callee : (callee : Callee) (s : Store) → (out-TypedCall q).callee ≡ callee → call_in c q s ≡ call_of c.unit (calls_in c.unit c.activation) c.activation callee words arrays s
  by_callee callee s e = ap (λ (d : Evaluation). d s) (calling_in c q) ∙ ap (λ k. call_of c.unit (calls_in c.unit c.activation) c.activation k words arrays s) e

  pub input_is : (number : ℕ) (s : Store) → (out-TypedCall q).callee ≡ Input number → call_in c q s ≡ answer (slice_get c.unit.inputs number) s
  input_is number s e = by_callee (Input number) s e

  abbrev behind : ℕ → Bool → Store → List ℕ → (ℕ → Activation → List ℕ → Evaluation) → Done ℕ
  behind callee deep s vs run = unless_deep deep (unless_trap (word_values words vs s.cells) (λ values. run callee (called c.activation arrays s) values s))

  deep_same : (callee : ℕ) (vs : List ℕ) (s : Store) (b : Bool) → nat_le 64 c.activation.depth ≡ b → behind callee b s vs (calls_in c.unit c.activation) ≡ behind callee b s vs (λ k a values s'. turn s' (λ s''. runs c k a values s''))
  deep_same callee vs s true e = refl
  deep_same callee vs s false e =
      let lt = leb-false 64 c.activation.depth e in
      ap (λ (next : List ℕ → Done ℕ). unless_trap (word_values words vs s.cells) next) (λ i values. calling_more c (called c.activation arrays s) callee values s lt refl i)

  pub defined_is : (callee : ℕ) (s : Store) → (out-TypedCall q).callee ≡ Defined callee → call_in c q s ≡ (first_parts words [] s andthen λ vs s'. begun c words arrays vs (runs c callee) s')
  defined_is callee s e =
      by_callee (Defined callee) s e
      ∙ ap (λ (next : List ℕ → Store → Done ℕ). first_parts words [] s andthen next) (λ i vs s'. deep_same callee vs s' (nat_le 64 c.activation.depth) refl i)

-- ---- running a function

pub run_none : (c : Scene) (ws : List ℕ) (s : Store) → run_in c None ws s ≡ Ends BlockedEnd
unfolding run_in
run_none c ws s = refl

abbrev pub result_of : Scene → Store → Done ℕ
result_of c s = Gives (slice_index s.cells c.activation.base) (without_activation c.activation.base s)

pub run_some : (c : Scene) (f : TypedFunction) (ws : List ℕ) (s : Store) → run_in c (Some f) ws s ≡ (block (map (does_in c) f.body) (with_activation s (first_cells f.cells ws)) andthen λ way s'. result_of c s')
unfolding run_in does_in
run_some c f ws s = refl

-- ---- a call behind the first parts of its words

module _ (c : Scene) (ms : List Meant) (arrays : List Variable) (vs : List ℕ) (run : Activation → List ℕ → Evaluation) (s : Store) where
  abbrev rest : Done ℕ
  rest = unless_trap (word_values ms vs s.cells) (λ values. turn s (λ s'. run (called c.activation arrays s) values s'))

  begun_by : (b : Bool) → nat_le 64 c.activation.depth ≡ b → begun c ms arrays vs run s ≡ unless_deep b rest
  begun_by b e = ap (λ b'. unless_deep b' rest) e

  pub too_deep : 64 ≤ c.activation.depth → begun c ms arrays vs run s ≡ Ends TooDeepEnd
  too_deep le = by (nat_le 64 c.activation.depth) refl
    where
      by : (b : Bool) → nat_le 64 c.activation.depth ≡ b → begun c ms arrays vs run s ≡ Ends TooDeepEnd
      by true e = begun_by true e
      by false e = let lt = leb-false 64 c.activation.depth e in absurd (omega arith)

  pub not_deep : c.activation.depth < 64 → begun c ms arrays vs run s ≡ rest
  not_deep lt = by (nat_le 64 c.activation.depth) refl
    where
      by : (b : Bool) → nat_le 64 c.activation.depth ≡ b → begun c ms arrays vs run s ≡ rest
      by true e = let le = leb-true 64 c.activation.depth e in absurd (omega arith)
      by false e = begun_by false e
