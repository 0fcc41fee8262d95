-- The ways on that a `switch` makes.
use Rattle.std.proofs.Common.{◌≡◌, ℕ, ◌+◌, List, [], ◌∷◌, ◌++◌, map, length, refl, ap, arith}
use Rattle.std.proofs.lemmas.List.{length-map}
use Rattle.std.specs.List.{AllByRecursion}
use Rattle.c_values.specs.declared.kinds.Kind.{Kind}
use Rattle.c_lower_rules.specs.declared.graph_of.parts.Around.{Around}
use Rattle.c_lower_rules.specs.graph_of.Builder.{in_order, ending}
use Rattle.c_lower_rules.specs.graph_of.Edges.{within, node_at, put}
use Rattle.c_lower_rules.specs.graph_of.Expressions.{Value}
use Rattle.c_lower_rules.specs.graph_of.Statements.{block_row}
use Rattle.c_lower_rules.specs.graph_of.Switch.{Group, Case, cases_from, default_from, cases_row, groups_row, switch_row}
use Rattle.c_lower_rules.proofs.graph_of.Fits.{◌&◌}
use Rattle.c_lower_rules.proofs.graph_rules.Ways.{here, among, ways_append, among_append, Leading, leading, leading_cons, nodes_lead, lead_nil, lead_append, lead_two, single}
use Rattle.c_lower_rules.proofs.graph_rules.WaysFlows.{Closed, IsValue, ending_is}
use Rattle.c_lower_rules.proofs.graph_rules.WaysRows.{IsLowering, IsPiece, block_is}

pub cases_are : (ls : List Case) (u : Around) (cell : ℕ) (kind : Kind) (other c n e k : ℕ) → Closed (cases_row u cell kind ls other c n e k) n c
unfolding in_order
cases_are [] u cell kind other c n e k = single _ n (refl, refl, refl)
cases_are (l ∷ []) u cell kind other c n e k = record { leads = lead_two _ _ _ refl refl refl; same = λ i. omega arith }
cases_are (l ∷ m ∷ rest) u cell kind other c n e k =
    let mx = cases_row u cell kind (m ∷ rest) other n (n + 1 + 0 + 0) (e + 0 + 1 + 1) (k + 0 + 0 + 0) in
    let X = cases_are (m ∷ rest) u cell kind other n (n + 1 + 0 + 0) (e + 0 + 1 + 1) (k + 0 + 0 + 0) in
    record {
      leads = lead_append (_ ∷ _ ∷ []) (mx.edges ++ []) (lead_two _ _ _ refl refl refl) (lead_append mx.edges [] X.leads lead_nil);
      same = λ i.
          let none : n + 1 + 0 + 0 ≡ n + 1 = omega arith in
          let own = ap (λ p. among i p mx.nodes) none in
          omega (arith, X.same i, own, ways_append i mx.edges [], among_append i (n + 1) mx.nodes []);
    }

abbrev pub IsGroup : Group → Type 0
IsGroup g = AllByRecursion IsPiece g.body

-- the nodes of the groups
abbrev nodes_of : Around → List Group → ℕ → ℕ → ℕ
nodes_of u groups g i = among i g (map (λ (x : Group). node_at u u.span) groups)

groups_are : (groups : List Group) → AllByRecursion IsGroup groups → (u : Around) (g z n e k : ℕ) → Leading (in_order (groups_row groups u g z) n e k) n (nodes_of u groups g) (λ i. 0)
groups_are [] hs u g z n e k = leading [] n e k _ _ tt (λ i. omega arith)
groups_are (group ∷ []) hs u g z n e k =
    let X = block_is group.body hs.0 u g z n e k in
    leading _ n e k _ _ (X.leads & tt) (λ i. omega (arith, X.same i))
groups_are (group ∷ next ∷ rest) hs u g z n e k =
    let m = block_row group.body u g (g + 1) n e k in
    leading_cons _ _ n e k (nodes_of u (next ∷ rest) (g + 1)) (λ i. 0) _ _ (block_is group.body hs.0 u g (g + 1) n e k)
    (groups_are (next ∷ rest) hs.1 u (g + 1) z (n + length m.nodes) (e + length m.edges) (k + length m.scopes)) (λ i. omega arith)

pub switch_is : (x : Value) (cell : ℕ) (groups : List Group) → IsValue x → AllByRecursion IsGroup groups → IsLowering (switch_row x cell groups)
switch_is x cell groups hx hs u a z n e k =
    let c = n + length groups in
    let n1 = n + length (map (λ (g : Group). node_at u u.span) groups) in
    let mv = ending (x.pure u) (λ v b. put u cell v.value v.reads b c) a (n1 + 1) (e + 0 + 0) (k + 0 + 0) in
    let V = ending_is (x.pure u) (λ v b. put u cell v.value v.reads b c) (hx.pure u) (λ v m p q r. single _ p (refl, refl, refl)) a (n1 + 1) (e + 0 + 0) (k + 0 + 0) in
    let n2 = n1 + 1 + length mv.nodes in
    let e2 = e + 0 + 0 + length mv.edges in
    let k2 = k + 0 + 0 + length mv.scopes in
    let mc = cases_row u cell x.kind (cases_from n groups) (default_from n groups z) c n2 e2 k2 in
    let C = cases_are (cases_from n groups) u cell x.kind (default_from n groups z) c n2 e2 k2 in
    let G = groups_are groups hs (within u z) n z (n2 + length mc.nodes) (e2 + length mc.edges) (k2 + length mc.scopes) in
    let same : n1 ≡ n + length groups = ap (λ m. n + m) (length-map groups (λ (g : Group). node_at u u.span)) in
    let none : ℕ → ℕ = λ i. 0 in
    let sum = nodes_of u groups n in
    leading_cons _ _ n e k (λ i. here i a + sum i) none _ _ (nodes_lead (map (λ (g : Group). node_at u u.span) groups) n)
    (leading_cons _ _ _ _ _ (λ i. here i a + here i c + sum i) none _ _ (nodes_lead (node_at u u.span ∷ []) n1)
    (leading_cons _ _ _ _ _ (λ i. here i c + sum i) none _ _ V (leading_cons _ _ _ _ _ sum none _ _ C G (λ i. omega arith)) (λ i. omega arith))
    (λ i. let s = ap (here i) same in omega arith)) (λ i. omega arith)
