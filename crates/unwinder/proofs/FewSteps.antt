-- How many steps lead from a pair.
use Rattle.std.proofs.Common.{◌≡◌, ◌⊎◌, ℕ, zero, suc, ◌<◌, ◌≤◌, Bool, true, false, List, [], ◌∷◌, length, Option, Some, None, refl, sym, subst, inl, inr, arith}
use Rattle.std.specs.Prelude.{Contains, option_and_then, slice_get}
use Rattle.cfa.specs.declared.parts.Edge.{Edge}
use Rattle.cfa.specs.declared.parts.Function.{Function}
use Rattle.cfa.specs.declared.parts.GraphParts.{GraphParts}
use Rattle.cfa.specs.declared.parts.Operation.{Operation}
use Rattle.cfa.specs.declared.parts.Operation.TheVariants.{Return}
use Rattle.cfa.specs.Contexts.{Pair}
use Rattle.cfa.specs.Graph.{IsGraph, IsExit, SourceFits, callee_of, function_called, is_return}
use Rattle.cfa.specs.Table.{ContinuesAt, outgoing_of}
use Rattle.cfa.proofs.Eaches.{element_at}
use Rattle.cfa.proofs.Exits.{given, taken}
use Rattle.cfa.proofs.Places.{continues_tells, outgoing_tells}
use Rattle.unwinder_reach.specs.declared.reached.bounds.Bounds.{Bounds}
use Rattle.unwinder_reach.specs.declared.reached.step.Step.{Step}
use Rattle.unwinder_reach.specs.reached.Reaching.{AreSteps}
use Rattle.unwinder_reach.specs.reached.Searching.{AreWays, return_after, running_call}
use Rattle.unwinder_reach.proofs.reached.WayLaws.{exit_ways}

-- ---- a return leaves an exit

called_function : (parts : GraphParts) (call : Option Edge) (f : Function) → option_and_then (λ (e : Edge). option_and_then (λ callee. slice_get parts.functions callee) (callee_of e.operation)) call ≡ Some f → (k : ℕ) × (slice_get parts.functions k ≡ Some f)
called_function parts None f is = absurd (cc)
called_function parts (Some e) f is = by (callee_of e.operation) is
  where
    by : (callee : Option ℕ) → option_and_then (λ k. slice_get parts.functions k) callee ≡ Some f → (k : ℕ) × (slice_get parts.functions k ≡ Some f)
    by None is = absurd (cc)
    by (Some k) is = (k, is)

return_leaves : (parts : GraphParts) (function source : ℕ) (op : Operation) → is_return op ≡ true → SourceFits parts function source op → IsExit parts source
return_leaves parts function source (Return call dest) is fits =
    let f = taken (λ (q : Function). source ≡ q.exit) (function_called parts call) fits in
    let k = called_function parts (slice_get parts.edges call) f.0 f.1 in
    (k.0, given (λ (q : Function). q.exit ≡ source) (slice_get parts.functions k.0) f.0 k.1 (sym f.2))
return_leaves parts function source _ is fits = absurd (cc)

-- ---- at most two ways

one_return : (call : Option ℕ) → length (return_after call) ≤ 2
one_return None = omega arith
one_return (Some call) = omega arith

one_or_two : (parts : GraphParts) (ways : List ℕ) → ContinuesAt parts ways → length ways ≤ 2
one_or_two parts [] h = absurd h
one_or_two parts (a ∷ []) h = omega arith
one_or_two parts (a ∷ b ∷ []) h = omega arith
one_or_two parts (a ∷ b ∷ c ∷ ways) h = absurd h

-- the edges among which are all that lead from a pair, of which there are at most two
abbrev FewWays : GraphParts → Pair → Type 0
FewWays parts p = (ways : List ℕ) × AreWays parts p ways × (length ways ≤ 2)

few_ways : (parts : GraphParts) (p : Pair) (at : ℕ) (e : Edge) → IsGraph parts → slice_get parts.edges at ≡ Some e → e.source ≡ p.node → FewWays parts p
few_ways parts p at e g there leaves = by (is_return e.operation) refl
  where
    by : (b : Bool) → is_return e.operation ≡ b → FewWays parts p
    by true is =
        let exit = subst (IsExit parts) leaves (return_leaves parts e.function e.source e.operation is (g.edges at e there).leaves) in
        (return_after (running_call p.context.frames), exit_ways parts p g exit, one_return (running_call p.context.frames))
    by false is =
        let inner : ¬ IsExit parts p.node = λ exit. let returns = g.rest.returns at e there (subst (IsExit parts) (sym leaves) exit) in absurd (cc) in
        let node = element_at parts.nodes p.node (subst (λ n. n < length parts.nodes) leaves (g.edges at e there).source) in
        let on = (continues_tells parts p.node).1 (g.rest.ways p.node node.0 node.1 inner) in
        (outgoing_of parts p.node, λ a f q follows. (outgoing_tells parts p.node a).1 (given (λ (x : Edge). x.source ≡ p.node) (slice_get parts.edges a) f follows.edge follows.leaves), one_or_two parts (outgoing_of parts p.node) on)

-- ---- no three numbers among two

first_or_second : (x y a : ℕ) → Contains (x ∷ y ∷ []) a → (a ≡ x) ⊎ (a ≡ y)
first_or_second x y a (zero, lt, is) = inl (sym is)
first_or_second x y a (suc zero, lt, is) = inr (sym is)
first_or_second x y a (suc (suc k), lt, is) = absurd (omega arith)

only_one : (x a : ℕ) → Contains (x ∷ []) a → a ≡ x
only_one x a (zero, lt, is) = sym is
only_one x a (suc k, lt, is) = absurd (omega arith)

none_third : (ways : List ℕ) (a b c : ℕ) → length ways ≤ 2 → a < b → b < c → Contains ways a → Contains ways b → Contains ways c → ⊥
none_third [] a b c few ab bc ha hb hc = absurd (let lt = ha.1 in omega arith)
none_third (x ∷ []) a b c few ab bc ha hb hc = let one = only_one x a ha in let two = only_one x b hb in omega arith
none_third (x ∷ y ∷ []) a b c few ab bc ha hb hc =
    let one = first_or_second x y a ha in
    let two = first_or_second x y b hb in
    let three = first_or_second x y c hc in
    grind arith
none_third (x ∷ y ∷ z ∷ ways) a b c few ab bc ha hb hc = omega arith

-- from an exit at most one return leads home, and from any other node one edge or two guards
pub few_steps : (parts : GraphParts) (bounds : Bounds) (pairs : List Pair) (i : ℕ) (p : Pair) (steps : List Step) → IsGraph parts → AreSteps parts bounds pairs i p steps → length steps ≤ 2
few_steps parts bounds pairs i p [] g h = omega arith
few_steps parts bounds pairs i p (s ∷ []) g h = omega arith
few_steps parts bounds pairs i p (s ∷ t ∷ []) g h = omega arith
few_steps parts bounds pairs i p (s ∷ t ∷ u ∷ steps) g h =
    let one = h.each 0 s refl in
    let two = h.each 1 t refl in
    let three = h.each 2 u refl in
    let first = one.follows.follows in
    let second = two.follows.follows in
    let third = three.follows.follows in
    let few = few_ways parts p s.edge one.edge g first.edge first.leaves in
    let lower : s.edge < t.edge = h.rising 0 (omega arith) in
    let upper : t.edge < u.edge = h.rising 1 (omega arith) in
    absurd (none_third few.0 s.edge t.edge u.edge few.2 lower upper (few.1 s.edge one.edge one.target first) (few.1 t.edge two.edge two.target second) (few.1 u.edge three.edge three.target third))
