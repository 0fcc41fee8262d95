-- Walks of a graph whose nodes stand in an order.
use Rattle.std.proofs.Common.{◌≡◌, ℕ, zero, suc, ◌<◌, ◌≤◌, true, List, [], ◌∷◌, length, Option, Some, None, refl, sym, ap, subst, ◌∙◌, arith}
use Rattle.std.specs.Prelude.{drop, option_and_then, slice_get}
use Rattle.std.specs.List.{All}
use Rattle.std.proofs.lemmas.Option.{same_Some}
use Rattle.cfa.specs.declared.parts.Edge.{Edge}
use Rattle.cfa.specs.declared.parts.Function.{Function}
use Rattle.cfa.specs.declared.parts.GraphParts.{GraphParts}
use Rattle.cfa.specs.declared.parts.Node.{Node}
use Rattle.cfa.specs.declared.parts.Operation.{Operation}
use Rattle.cfa.specs.declared.parts.Operation.TheVariants.{Call, Return}
use Rattle.cfa.specs.Contexts.{Pair, Follows, IsNext, IsWalk, IsOnce, HasCounter, first_pair, node_depth}
use Rattle.cfa.specs.Graph.{IsGraph, SourceFits, TargetFits, PairFits, callee_of, function_called}
use Rattle.cfa.proofs.Exits.{taken, given}
use Rattle.c_lower_rules.specs.cfa_order.Order.{Standing, Resumes, ComesHome, IsInOrder, AreInOrder, IsOrderedBy}
use Rattle.c_lower_rules.proofs.cfa_order.Lists.{Before, before_itself, before_then}
use Rattle.c_lower_rules.proofs.cfa_order.Steps.{key, Stands, Ends, Begins, Returns, step, counter}

slice_get_none : {X : Type 0} (xs : List X) (i : ℕ) → i < length xs → slice_get xs i ≡ None → ⊥
slice_get_none [] i within is = omega arith
slice_get_none (x ∷ xs) zero within is = cc
slice_get_none (x ∷ xs) (suc i) within is = slice_get_none xs i (omega arith) is

module _ (parts : GraphParts) (at : ℕ → Standing) (graph : IsGraph parts) (order : IsOrderedBy parts at) where
  -- a node that is there has a loop for each level of its depth
  deep : (o : Option Node) (node : ℕ) → slice_get parts.nodes node ≡ o → node < length parts.nodes → node_depth o ≡ length (at node).loops
  deep None node is within = absurd (slice_get_none parts.nodes node within is)
  deep (Some n) node is within = order.depths node n is

  headed : (o : Option Node) (node : ℕ) → slice_get parts.nodes node ≡ o → node < length parts.nodes → All (λ h. h ≤ (at node).rank) (at node).loops
  headed None node is within = absurd (slice_get_none parts.nodes node within is)
  headed (Some n) node is within = order.heads node n is

  ends_of : (i : ℕ) (e : Edge) → slice_get parts.edges i ≡ Some e → Ends parts at e
  ends_of i e is =
      let fits = graph.edges i e is in
      record {
        source = deep (slice_get parts.nodes e.source) e.source refl fits.source;
        target = deep (slice_get parts.nodes e.target) e.target refl fits.target;
        heads = headed (slice_get parts.nodes e.source) e.source refl fits.source;
      }

  begins_of : (op : Operation) (function : ℕ) (e : Edge) → TargetFits parts function e.target op → Begins parts at e op
  begins_of (Call callee words arrays) function e fits =
      let f = taken (λ (f : Function). e.target ≡ f.entry) (slice_get parts.functions callee) fits in
      ap (λ n. (at n).loops) f.2 ∙ order.entries callee f.0 f.1
  begins_of _ function e fits = tt

  -- each edge is in order, with those that follow it
  ordered : (es : List Edge) (i : ℕ) (e : Edge) → AreInOrder at es → slice_get es i ≡ Some e → IsInOrder at e (drop (suc i) es) e.operation
  ordered [] i e all is = absurd (cc)
  ordered (f ∷ es) zero e all is = let same : f ≡ e = same_Some f e is in subst (λ (g : Edge). IsInOrder at g es g.operation) same all.0
  ordered (f ∷ es) (suc i) e all is = ordered es i e all.1 is

  -- the edge that follows another
  home_at : (es : List Edge) (i source : ℕ) (e : Edge) → slice_get es i ≡ Some e → ComesHome at source (drop i es) → Resumes (at source) (at e.target)
  home_at [] i source e is home = absurd (cc)
  home_at (f ∷ es) zero source e is home = let same : f ≡ e = same_Some f e is in subst (λ (g : Edge). Resumes (at source) (at g.target)) same home
  home_at (f ∷ es) (suc i) source e is home = home_at es i source e is home

  -- what is called by an operation is called by a call
  by_call : (op : Operation) (c : Edge) (rest : List Edge) (f : Function) → option_and_then (λ callee. slice_get parts.functions callee) (callee_of op) ≡ Some f → IsInOrder at c rest op → ComesHome at c.source rest
  by_call (Call callee words arrays) c rest f is order = order.1
  by_call _ c rest f is order = absurd (cc)

  called_by : (o : Option Edge) (call : ℕ) (f : Function) → slice_get parts.edges call ≡ o → option_and_then (λ (e : Edge). option_and_then (λ callee. slice_get parts.functions callee) (callee_of e.operation)) o ≡ Some f → (c : Edge) × (o ≡ Some c) × ComesHome at c.source (drop (suc call) parts.edges)
  called_by None call f is some = absurd (cc)
  called_by (Some c) call f is some = (c, refl, by_call c.operation c (drop (suc call) parts.edges) f some (ordered parts.edges call c order.edges is))

  returns_of : (op : Operation) (function i : ℕ) (e : Edge) → slice_get parts.edges i ≡ Some e → SourceFits parts function e.source op → PairFits parts i function op → Returns parts at e op
  returns_of (Return call dest) function i e is source pair =
      let f = taken (λ (f : Function). e.source ≡ f.exit) (function_called parts call) source in
      let c = called_by (slice_get parts.edges call) call f.0 refl f.1 in
      let next : suc call ≡ i = omega (arith, pair.0) in
      let home : ComesHome at c.0.source (drop i parts.edges) = subst (λ n. ComesHome at c.0.source (drop n parts.edges)) next c.2 in
      given (λ (c : Edge). Resumes (at c.source) (at e.target)) (slice_get parts.edges call) c.0 c.1 (home_at parts.edges i c.0.source e is home)
  returns_of _ function i e is source pair = tt

  abbrev key_of : Pair → List ℕ
  key_of p = key parts at p.context.frames p.node

  abbrev Holds : Pair → Type 0
  Holds p = Stands parts at p.context.frames p.node

  record Next (p q : Pair) : Type 0 where
    before : Before (key_of p) (key_of q)
    holds : Holds q

  next : (p q : Pair) → Holds p → IsNext parts p q → Next p q
  next p q holds n =
      let at' = n.0 in
      let e = n.1 in
      let f = n.2 in
      let here : Stands parts at p.context.frames e.source = subst (Stands parts at p.context.frames) (sym f.leaves) holds in
      let rose = step parts at e.operation at' e (drop (suc at') parts.edges) p.context f.edge (ends_of at' e f.edge) (ordered parts.edges at' e order.edges f.edge) (begins_of e.operation e.function e (graph.edges at' e f.edge).reaches) (returns_of e.operation e.function at' e f.edge (graph.edges at' e f.edge).leaves (graph.edges at' e f.edge).pair) f.home here in
      record {
        before = rw (f.reaches, ← f.leaves) rose.before;
        holds = rw f.reaches rose.stands;
      }

  -- each later pair of a walk has a greater key
  later : (p : Pair) (walk : List Pair) (j : ℕ) (q : Pair) → Holds p → IsWalk parts p walk → slice_get walk j ≡ Some q → Before (key_of p) (key_of q)
  later p [] j q holds w is = absurd (cc)
  later p (r ∷ walk) zero q holds w is =
      let n = next p r holds w.0 in
      subst (λ s. Before (key_of p) (key_of s)) (same_Some r q is) n.before
  later p (r ∷ walk) (suc j) q holds w is =
      let n = next p r holds w.0 in
      before_then (key_of p) (key_of r) (key_of q) n.before (later r walk j q n.holds w.1 is)

  never : (p : Pair) (walk : List Pair) (j : ℕ) → Holds p → IsWalk parts p walk → slice_get walk j ≡ Some p → ⊥
  never p walk j holds w is = before_itself (key_of p) (later p walk j p holds w is)

  apart : (p : Pair) (walk : List Pair) → Holds p → IsWalk parts p walk → (i j : ℕ) (q : Pair) → slice_get (p ∷ walk) i ≡ Some q → slice_get (p ∷ walk) j ≡ Some q → i ≡ j
  apart p walk holds w zero zero q a b = refl
  apart p walk holds w zero (suc j) q a b = absurd (never p walk j holds w (b ∙ sym a))
  apart p walk holds w (suc i) zero q a b = absurd (never p walk i holds w (a ∙ sym b))
  apart p [] holds w (suc i) (suc j) q a b = absurd (cc)
  apart p (r ∷ walk) holds w (suc i) (suc j) q a b = ap suc (apart r walk (next p r holds w.0).holds w.1 i j q a b)

  -- each pair of a walk has a counter for each loop
  held : (p : Pair) (walk : List Pair) → Holds p → IsWalk parts p walk → (i : ℕ) (q : Pair) → slice_get (p ∷ walk) i ≡ Some q → Holds q
  held p walk holds w zero q is = subst Holds (same_Some p q is) holds
  held p [] holds w (suc i) q is = absurd (cc)
  held p (r ∷ walk) holds w (suc i) q is = held r walk (next p r holds w.0).holds w.1 i q is

  first : (k : ℕ) (f : Function) → slice_get parts.functions k ≡ Some f → Holds (first_pair f)
  first k f is = (rw (order.entries k f is) refl, refl)

  counts : (i : ℕ) (e : Edge) (p q : Pair) → Holds p → Follows parts i e p q → e.back ≡ true → HasCounter parts e p.context
  counts i e p q holds f back =
      let here : Stands parts at p.context.frames e.source = subst (Stands parts at p.context.frames) (sym f.leaves) holds in
      counter parts at e.operation e (drop (suc i) parts.edges) p.context (ends_of i e f.edge) (ordered parts.edges i e order.edges f.edge) here back

  -- no pair comes twice, and each back edge has a counter
  pub once : IsOnce parts
  once = record {
    apart = λ k f walk is w. apart (first_pair f) walk (first k f is) w;
    counted = λ k f walk is w i at' e p q here follows back. counts at' e p q (held (first_pair f) walk (first k f is) w i p here) follows back;
  }
