-- What leaves a node, and what it weighs.
use Rattle.std.proofs.Common.{◌≡◌, ℕ, zero, suc, ◌<◌, ◌≤◌, Bool, true, false, cond, List, [], ◌∷◌, length, get_or, Some, refl, sym, ap, subst, ◌∙◌, arith}
use Rattle.std.specs.Prelude.{◌==◌, slice_get, sum_by}
use Rattle.std.specs.Option.{IsSomeAnd}
use Rattle.std.specs.List.{filter}
use Rattle.std.proofs.lemmas.Bool.{eq-eqb}
use Rattle.std.proofs.lemmas.List.Sums.{sum_by-cons}
use Rattle.std.proofs.lemmas.Option.{same_Some, slice_get-get_or, slice_get_within}
use Rattle.cfa.specs.declared.expr.Expr.{Expr}
use Rattle.cfa.specs.declared.parts.Edge.{Edge}
use Rattle.cfa.specs.declared.parts.GraphParts.{GraphParts}
use Rattle.cfa.specs.declared.state.State.{State}
use Rattle.c_meaning.specs.declared.input.Input.{Input}
use Rattle.c_meaning.specs.Places.{Leaves}
use Rattle.c_meaning.specs.Steps.{along_edge, onward, operated, picked}
use Rattle.cfa.specs.States.{IsState}
use Rattle.c_meaning.proofs.Outgoing.{outgoing_leaves}
use Rattle.c_meaning.proofs.StateLaws.{running}
use Rattle.sym_expr.specs.Weights.{weight_of}
use Rattle.cfa.specs.declared.parts.Operation.TheVariants.{Guard}
use Rattle.cfa.specs.Graph.{IsExit, IsGraph}
use Rattle.cfa.specs.Table.{AreGuards, ContinuesAt, outgoing_of}
use Rattle.cfa.proofs.Eaches.{element_at}
use Rattle.cfa.proofs.Exits.{taken}
use Rattle.cfa.proofs.Places.{continues_tells}
use Rattle.sym_expr.specs.Weights.{operation_weight, operations_weight}

-- ---- weights

weigh_among : {X : Type 0} (f : X → ℕ) (test : X → Bool) (xs : List X) (k : ℕ) (x : X) → slice_get xs k ≡ Some x → test x ≡ true → f x ≤ sum_by f (filter test xs)
weigh_among f test [] k x at is = absurd (cc)
weigh_among {X} f test (y ∷ xs) zero x at is =
    let same : y ≡ x = cc in
    let here : filter test (y ∷ xs) ≡ y ∷ filter test xs = ap (λ b. cond b (y ∷ filter test xs) (filter test xs)) (ap test same ∙ is) in
    let all = sum_by-cons f y (filter test xs) in
    rw here (omega (arith, all, ap f same))
weigh_among {X} f test (y ∷ xs) (suc k) x at is = by (test y) (weigh_among f test xs k x at is)
  where
    by : (b : Bool) → f x ≤ sum_by f (filter test xs) → f x ≤ sum_by f (cond b (y ∷ filter test xs) (filter test xs))
    by true r = let all = sum_by-cons f y (filter test xs) in omega arith
    by false r = r

-- an edge that leaves a node weighs no more than all
pub edge_weighs : (parts : GraphParts) (node at : ℕ) (e : Edge) → slice_get parts.edges at ≡ Some e → e.source ≡ node → operation_weight parts e.operation ≤ operations_weight parts node
edge_weighs parts node at e there source = weigh_among (λ (q : Edge). operation_weight parts q.operation) (λ (q : Edge). q.source == node) parts.edges at e there (eq-eqb e.source node source)

-- ---- ways

-- one edge, or two guards of one test
pub continues : (parts : GraphParts) (node : ℕ) → IsGraph parts → node < length parts.nodes → ¬ IsExit parts node → ContinuesAt parts (outgoing_of parts node)
continues parts node g lt inner = (continues_tells parts node).1 (g.rest.ways node _ (element_at parts.nodes node lt).1 inner)

module _ (parts : GraphParts) (x : State) (g : IsGraph parts) (inner : ¬ IsExit parts x.node) (row : List ℕ) (row_is : row ≡ outgoing_of parts x.node) where
  -- the edge at a place of the row leaves the state
  pub row_leaves : (j : ℕ) → j < length row → IsSomeAnd (slice_get parts.edges (get_or row j 0)) (Leaves parts x (get_or row j 0))
  row_leaves j lt = outgoing_leaves parts x j (get_or row j 0) g inner (ap (λ r. slice_get r j) (sym row_is) ∙ slice_get-get_or row j 0 lt)

  pub row_edge : (j : ℕ) (e : Edge) → j < length row → slice_get parts.edges (get_or row j 0) ≡ Some e → Leaves parts x (get_or row j 0) e
  row_edge j e lt there =
      let l = taken (Leaves parts x (get_or row j 0)) (slice_get parts.edges (get_or row j 0)) (row_leaves j lt) in
      subst (Leaves parts x (get_or row j 0)) (same_Some l.0 e (sym l.1 ∙ there)) l.2

  pub row_continues : x.node < length parts.nodes → ContinuesAt parts row
  row_continues lt = subst (ContinuesAt parts) (sym row_is) (continues parts x.node g lt inner)

pub row_guards : (parts : GraphParts) (row : List ℕ) → ContinuesAt parts row → 2 ≤ length row → IsSomeAnd (slice_get parts.edges (get_or row 0 0)) (λ e. IsSomeAnd (slice_get parts.edges (get_or row 1 0)) (λ f. AreGuards e.operation f.operation))
row_guards parts [] h two = absurd (omega arith)
row_guards parts (a ∷ []) h two = absurd (omega arith)
row_guards parts (a ∷ b ∷ []) h two = h
row_guards parts (a ∷ b ∷ c ∷ rest) h two = absurd h

pub row_some : (parts : GraphParts) (row : List ℕ) → ContinuesAt parts row → length row < 1 → ⊥
row_some parts [] h none = h
row_some parts (a ∷ row) h none = absurd (omega arith)

pub row_one : (row : List ℕ) → 1 ≤ length row → length row < 2 → row ≡ get_or row 0 0 ∷ []
row_one [] some few = absurd (omega arith)
row_one (a ∷ []) some few = refl
row_one (a ∷ b ∷ row) some few = absurd (omega arith)

pub row_two : (parts : GraphParts) (input : Input) (x : State) (row : List ℕ) → 2 ≤ length row → onward parts input x row ≡ picked parts input x (get_or row 0 0) (get_or row 1 0) (slice_get parts.edges (get_or row 0 0))
row_two parts input x [] two = absurd (omega arith)
row_two parts input x (a ∷ []) two = absurd (omega arith)
row_two parts input x (a ∷ b ∷ row) two = refl

-- going on along the one edge that leaves a node
pub onward_one : (parts : GraphParts) (input : Input) (x : State) (row : List ℕ) (e : Edge) → 1 ≤ length row → length row < 2 → slice_get parts.edges (get_or row 0 0) ≡ Some e → onward parts input x row ≡ operated parts input x (get_or row 0 0) e e.operation
onward_one parts input x row e some few there = ap (onward parts input x) (row_one row some few) ∙ ap (along_edge parts input x (get_or row 0 0)) there

-- a guard of truth weighs as its test
pub guard_weighs : (parts : GraphParts) (node yes_at no_at : ℕ) (e : Edge) (test : Expr) (truth : Bool) → slice_get parts.edges yes_at ≡ Some e → e.source ≡ node → e.operation ≡ Guard test truth
    → IsSomeAnd (slice_get parts.edges yes_at) (λ e. IsSomeAnd (slice_get parts.edges no_at) (λ f. AreGuards e.operation f.operation)) → weight_of test ≤ operations_weight parts node
guard_weighs parts node yes_at no_at e test truth there source is guards =
    let one = taken (λ (q : Edge). IsSomeAnd (slice_get parts.edges no_at) (λ f. AreGuards q.operation f.operation)) (slice_get parts.edges yes_at) guards in
    let two = taken (λ (f : Edge). AreGuards one.0.operation f.operation) (slice_get parts.edges no_at) one.2 in
    let same : one.0 ≡ e = same_Some one.0 e (sym one.1 ∙ there) in
    let both_are : Guard test truth ≡ Guard two.2.0 true = sym is ∙ ap (λ (q : Edge). q.operation) (sym same) ∙ two.2.1 in
    let test_is : test ≡ two.2.0 = cc in
    let all = edge_weighs parts node yes_at e there source in
    let own : operation_weight parts e.operation ≡ weight_of test = ap (operation_weight parts) (is ∙ both_are) ∙ ap weight_of (sym test_is) in
    omega arith

pub source_is : (parts : GraphParts) (x : State) (at : ℕ) (e : Edge) → IsSomeAnd (slice_get parts.edges at) (Leaves parts x at) → slice_get parts.edges at ≡ Some e → e.source ≡ x.node
source_is parts x at e h there =
    let l = taken (Leaves parts x at) (slice_get parts.edges at) h in
    ap (λ (q : Edge). q.source) (same_Some e l.0 (sym there ∙ l.1)) ∙ l.2.1

pub node_there : (parts : GraphParts) (x : State) → IsGraph parts → IsState parts x → x.node < length parts.nodes
node_there parts x g h = let r = running parts x g h in slice_get_within parts.nodes x.node r.at.place r.at.node_is
