-- The edges that leave a node that is no exit.
use Rattle.std.proofs.Common.{◌≡◌, ℕ, false, Option, Some, None, refl, sym, subst, arith}
use Rattle.std.specs.Prelude.{◌==◌, option_and_then, slice_get}
use Rattle.std.specs.Option.{IsSomeAnd}
use Rattle.std.proofs.lemmas.Bool.{eqb-true}
use Rattle.cfa.specs.declared.parts.Edge.{Edge}
use Rattle.cfa.specs.declared.parts.Function.{Function}
use Rattle.cfa.specs.declared.parts.GraphParts.{GraphParts}
use Rattle.cfa.specs.declared.parts.Operation.{Operation}
use Rattle.cfa.specs.declared.parts.Operation.TheVariants.{Skip, Assign, Clear, Guard, Call, Return, Answer, Assert, Assume}
use Rattle.cfa.specs.declared.state.State.{State}
use Rattle.cfa.specs.Graph.{IsGraph, IsExit, SourceFits, callee_of, function_called, is_return}
use Rattle.cfa.specs.Table.{outgoing_of}
use Rattle.cfa.proofs.Exits.{taken, given}
use Rattle.cfa.proofs.Places.{at_place}
use Rattle.c_meaning.specs.Places.{Leaves}

-- a value that is computed of one that is there
and_then_is : {A B : Type 0} (f : A → Option B) (o : Option A) (y : B) → option_and_then f o ≡ Some y → (x : A) × (o ≡ Some x) × (f x ≡ Some y)
and_then_is f None y e = absurd cc
and_then_is f (Some x) y e = (x, refl, e)

-- a function that is called is there
called_is : (parts : GraphParts) (call : ℕ) (f : Function) → function_called parts call ≡ Some f → (k : ℕ) × (slice_get parts.functions k ≡ Some f)
called_is parts call f e =
    let edge = and_then_is (λ (q : Edge). option_and_then (λ callee. slice_get parts.functions callee) (callee_of q.operation)) (slice_get parts.edges call) f e in
    let callee = and_then_is (λ callee. slice_get parts.functions callee) (callee_of edge.0.operation) f edge.2 in
    (callee.0, callee.2)

abbrev LeavesExit : ℕ → Function → Type 0
LeavesExit source f = source ≡ f.exit

-- what leaves a node that is no exit is no return
no_return : (parts : GraphParts) (function source : ℕ) (op : Operation) → ¬ IsExit parts source → SourceFits parts function source op → is_return op ≡ false
no_return parts function source Skip inner h = refl
no_return parts function source (Assign place value) inner h = refl
no_return parts function source (Clear array count) inner h = refl
no_return parts function source (Guard test truth) inner h = refl
no_return parts function source (Call callee words arrays) inner h = refl
no_return parts function source (Return call dest) inner h =
    let f = taken (LeavesExit source) (function_called parts call) h in
    let k = called_is parts call f.0 f.1 in
    absurd (inner (k.0, given (λ (q : Function). q.exit ≡ source) (slice_get parts.functions k.0) f.0 k.1 (sym f.2)))
no_return parts function source (Answer input dest) inner h = refl
no_return parts function source (Assert test) inner h = refl
no_return parts function source (Assume test) inner h = refl

-- the edge of a number that the table has for the node
pub outgoing_leaves : (parts : GraphParts) (s : State) (j at : ℕ) → IsGraph parts → ¬ IsExit parts s.node → slice_get (outgoing_of parts s.node) j ≡ Some at → IsSomeAnd (slice_get parts.edges at) (λ e. Leaves parts s at e)
outgoing_leaves parts s j at g inner e =
    let p = at_place (λ (q : Edge). q.source == s.node) 0 parts.edges j at e in
    let same : p.0 ≡ at = omega (arith, p.3) in
    let there : slice_get parts.edges at ≡ Some p.1 = subst (λ i. slice_get parts.edges i ≡ Some p.1) same p.2 in
    let source : p.1.source ≡ s.node = eqb-true p.1.source s.node p.4 in
    let fits = (g.edges at p.1 there).leaves in
    let apart : ¬ IsExit parts p.1.source = subst (λ n. ¬ IsExit parts n) (sym source) inner in
    given (Leaves parts s at) (slice_get parts.edges at) p.1 there (there, source, no_return parts p.1.function p.1.source p.1.operation apart fits)
