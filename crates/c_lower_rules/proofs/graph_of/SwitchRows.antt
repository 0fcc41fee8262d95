-- A `switch` makes nodes and edges that stand in an order.
use Rattle.std.proofs.Common.{◌≡◌, ℕ, suc, ◌+◌, ◌<◌, ◌≤◌, Bool, true, false, List, [], ◌∷◌, ◌++◌, map, length, Option, Some, None, refl, ap, subst, arith}
use Rattle.std.specs.List.{AllZip, AllByRecursion}
use Rattle.fq_core.specs.declared.span.Span.{Span}
use Rattle.c_values.specs.declared.kinds.Kind.{Kind}
use Rattle.c_lower_rules.specs.cfa_order.Order.{Standing}
use Rattle.c_lower_rules.specs.declared.graph_of.parts.Around.{Around}
use Rattle.c_lower_rules.specs.graph_of.Builder.{in_order, ending}
use Rattle.c_lower_rules.specs.graph_of.Edges.{within, node_at, put}
use Rattle.c_lower_rules.specs.graph_of.Expressions.{Value}
use Rattle.c_lower_rules.specs.graph_of.Statements.{block_row}
use Rattle.c_lower_rules.specs.graph_of.Switch.{Group, Case, cases_in, cases_from, has_default, default_at, default_from, cases_row, groups_row, group_nodes, switch_row}
use Rattle.c_lower_rules.proofs.graph_of.Fits.{Agrees, agrees_front, NodeStands, Fits, fits_given, fits_node, fits_edge, fits_nil, fits_cons, fits_after, ◌&◌}
use Rattle.c_lower_rules.proofs.graph_of.Given.{stand, From, To, Behind, LeavesFrom, Deep, Arranged, arrange, to_behind, behind, leaves, goes, from_at, to_at, later, stands}
use Rattle.c_lower_rules.proofs.graph_of.Flows.{IsValue, ending_is}
use Rattle.c_lower_rules.proofs.graph_of.Rows.{IsLowering, IsPiece, block_is}

-- ---- labels

abbrev pub AllBehind : (ℕ → Standing) → ℕ → List ℕ → List Case → Type 0
AllBehind at hi loops ls = AllByRecursion (λ (l : Case). Behind at hi loops l.target) ls

cases_are : (ls : List Case) (u : Around) (cell : ℕ) (kind : Kind) (other c n e k lo : ℕ) (loops : List ℕ) → Deep u.depth lo loops
    → Arranged (cases_row u cell kind ls other c n e k) n lo (λ at hi. From at lo loops c × AllBehind at hi loops ls × Behind at hi loops other)
cases_are [] u cell kind other c n e k lo loops d = arrange (lo + 1) (omega arith) fits_edge (λ at ag g. goes (omega arith) g.0 g.2)
cases_are (l ∷ []) u cell kind other c n e k lo loops d =
    arrange (lo + 1) (omega arith) (fits_cons _ _ _ _ _ fits_edge (fits_cons _ _ _ _ _ fits_edge (fits_nil _ _ _))) (λ at ag g. (goes (omega arith) g.0 g.1.0, (goes (omega arith) g.0 g.2, tt)))
cases_are (l ∷ m ∷ rest) u cell kind other c n e k lo loops d =
    let X = cases_are (m ∷ rest) u cell kind other n (n + 1 + 0 + 0) (e + 0 + 1 + 1) (k + 0 + 0 + 0) (lo + 1) loops (later (omega arith) d) in
    arrange X.hi (omega (arith, X.wide)) (fits_cons _ _ _ _ _ (fits_node (stands (lo + 1) (omega arith) refl d)) (fits_cons _ _ _ _ _ fits_edge (fits_cons _ _ _ _ _ fits_edge (fits_cons _ _ _ _ _ X.fits (fits_nil _ _ _)))))
    (λ at ag g.
    let next : To at (lo + 1) loops n = to_at ag.0 (omega arith) in
    (tt, (goes {hi = X.hi} (omega (arith, X.wide)) g.0 g.1.0, (goes (omega arith) g.0 (to_behind next), ((from_at ag.0 (omega arith), g.1.1, g.2), tt)))))

-- ---- groups

abbrev stands_at : List ℕ → List ℕ → List Standing
stands_at loops ranks = map (λ r. stand r loops) ranks

abbrev pub IsGroup : Group → Type 0
IsGroup g = AllByRecursion IsPiece g.body

-- the ranks of the nodes of the groups, of which the first has the least, and what the groups make
pub record Grouped (groups : List Group) (u : Around) (g z n e k lo : ℕ) (loops : List ℕ) : Type 0 where
  pub more : List ℕ
  pub long : length (lo ∷ more) ≡ length groups
  pub above : AllByRecursion (λ r. lo ≤ r) more
  pub hi : ℕ
  pub wide : lo < hi
  pub standings : List Standing
  pub fits : Fits (in_order (groups_row groups u g z) n e k) n standings (λ at. Agrees at g (stands_at loops (lo ∷ more)) × To at hi loops z × LeavesFrom at hi loops u)

raise_all : {lo hi : ℕ} (rs : List ℕ) → lo ≤ hi → AllByRecursion (λ r. hi ≤ r) rs → AllByRecursion (λ r. lo ≤ r) rs
raise_all [] le h = tt
raise_all (r ∷ rs) le h = (omega (arith, h.0), raise_all rs le h.1)

groups_are : (group : Group) (rest : List Group) → IsGroup group → AllByRecursion IsGroup rest → (u : Around) (g z n e k lo : ℕ) (loops : List ℕ) → Deep u.depth lo loops → Grouped (group ∷ rest) u g z n e k lo loops
groups_are group [] hg hs u g z n e k lo loops d =
    let X = block_is group.body hg u g z n e k lo loops d in
    record {
      more = [];
      long = refl;
      above = tt;
      hi = X.hi;
      wide = X.wide;
      standings = X.standings ++ [];
      fits = fits_given _ (fits_cons _ _ n e k X.fits (fits_nil _ _ _)) (λ at ag given. ((from_at given.0.0 (omega arith), given.1, given.2), tt));
    }
groups_are group (next ∷ rest) hg hs u g z n e k lo loops d =
    let m = block_row group.body u g (g + 1) n e k in
    let X = block_is group.body hg u g (g + 1) n e k lo loops d in
    let Y = groups_are next rest hs.0 hs.1 u (g + 1) z (n + length m.nodes) (e + length m.edges) (k + length m.scopes) X.hi loops (later (omega (arith, X.wide)) d) in
    record {
      more = X.hi ∷ Y.more;
      long = ap suc Y.long;
      above = (omega (arith, X.wide), raise_all Y.more (omega (arith, X.wide)) Y.above);
      hi = Y.hi;
      wide = omega (arith, X.wide, Y.wide);
      standings = X.standings ++ Y.standings;
      fits = fits_given _ (fits_cons _ _ n e k X.fits Y.fits) (λ at ag given.
          ((from_at given.0.0 (omega arith), to_at given.0.1.0 (omega arith), leaves (omega (arith, Y.wide)) given.2), (given.0.1, given.1, given.2)));
    }

-- the labels lead to nodes of groups
labels_behind : (at : ℕ → Standing) (lo : ℕ) (loops : List ℕ) (g : ℕ) (labels : List (Span × Option ℕ)) (ls : List Case) → Behind at lo loops g → AllBehind at lo loops ls → AllBehind at lo loops (cases_in g labels ++ ls)
labels_behind at lo loops g [] ls here h = h
labels_behind at lo loops g ((span, None) ∷ rest) ls here h = labels_behind at lo loops g rest ls here h
labels_behind at lo loops g ((span, Some value) ∷ rest) ls here h = (here, labels_behind at lo loops g rest ls here h)

cases_behind : (at : ℕ → Standing) (lo : ℕ) (loops ranks : List ℕ) (groups : List Group) (g : ℕ) → length ranks ≡ length groups → AllByRecursion (λ r. lo ≤ r) ranks → Agrees at g (stands_at loops ranks) → AllBehind at lo loops (cases_from g groups)
cases_behind at lo loops ranks [] g long above ag = tt
cases_behind at lo loops [] (group ∷ rest) g long above ag = absurd (omega arith)
cases_behind at lo loops (r ∷ ranks) (group ∷ rest) g long above ag =
    labels_behind at lo loops g group.labels (cases_from (g + 1) rest) (to_behind (to_at ag.0 above.0)) (cases_behind at lo loops ranks rest (g + 1) (omega arith) above.1 ag.1)

default_behind : (at : ℕ → Standing) (lo : ℕ) (loops ranks : List ℕ) (groups : List Group) (g z : ℕ) → length ranks ≡ length groups → AllByRecursion (λ r. lo ≤ r) ranks → Agrees at g (stands_at loops ranks) → Behind at lo loops z → Behind at lo loops (default_from g groups z)
default_behind at lo loops ranks [] g z long above ag end = end
default_behind at lo loops [] (group ∷ rest) g z long above ag end = absurd (omega arith)
default_behind at lo loops (r ∷ ranks) (group ∷ rest) g z long above ag end =
    by (has_default group.labels) (to_behind (to_at ag.0 above.0)) (default_behind at lo loops ranks rest (g + 1) z (omega arith) above.1 ag.1 end)
  where
    by : (b : Bool) → Behind at lo loops g → Behind at lo loops (default_from (g + 1) rest z) → Behind at lo loops (default_at b g (default_from (g + 1) rest z))
    by true h k = h
    by false h k = k

nodes_stand : (u : Around) (groups : List Group) (lo : ℕ) (loops ranks : List ℕ) → length ranks ≡ length groups → AllByRecursion (λ r. lo ≤ r) ranks → Deep u.depth lo loops → AllZip NodeStands (map (λ (g : Group). node_at u u.span) groups) (stands_at loops ranks)
nodes_stand u [] lo loops [] long above d = tt
nodes_stand u [] lo loops (r ∷ ranks) long above d = absurd (omega arith)
nodes_stand u (group ∷ groups) lo loops [] long above d = absurd (omega arith)
nodes_stand u (group ∷ groups) lo loops (r ∷ ranks) long above d = (stands r above.0 refl d, nodes_stand u groups lo loops ranks (omega arith) above.1 d)

length-nodes : (u : Around) (groups : List Group) → length (map (λ (g : Group). node_at u u.span) groups) ≡ length groups
length-nodes u [] = refl
length-nodes u (g ∷ groups) = ap suc (length-nodes u groups)

-- the value, and the edge to c that puts it into a cell
value_is : (x : Value) (cell : ℕ) (u : Around) (a c n e k lo : ℕ) (loops : List ℕ) → IsValue x → Deep u.depth lo loops
    → Arranged (ending (x.pure u) (λ v b. put u cell v.value v.reads b c) a n e k) n lo (λ at hi. From at lo loops a × Behind at hi loops c)
value_is x cell u a c n e k lo loops hx d =
    ending_is (x.pure u) (λ v b. put u cell v.value v.reads b c) (λ at hi. Behind at hi loops c) u.depth a n e k lo loops (hx.pure u) d (λ v m p q r. fits_given _ fits_edge (λ at ag g. goes (omega arith) g.1 g.2))

pub switch_is : (x : Value) (cell : ℕ) (groups : List Group) → IsValue x → AllByRecursion IsGroup groups → IsLowering (switch_row x cell groups)
switch_is x cell [] hx hs u a z n e k lo loops d =
    let mv = ending (x.pure u) (λ v b. put u cell v.value v.reads b (n + 0)) a (n + 0 + 1) (e + 0 + 0) (k + 0 + 0) in
    let V = value_is x cell u a (n + 0) (n + 0 + 1) (e + 0 + 0) (k + 0 + 0) lo loops hx d in
    let none : Fits (group_nodes u [] n e k) n [] (λ at. Unit {0}) = record { nodes = tt; edges = λ at ag g. tt } in
    arrange (V.hi + 1) (omega (arith, V.wide)) (fits_cons _ _ n e k none (fits_cons _ _ _ _ _ (fits_node (stands V.hi (omega (arith, V.wide)) refl d)) (fits_cons _ _ _ _ _ V.fits (fits_cons _ _ _ _ _ fits_edge (fits_nil _ _ _)))))
    (λ at ag g.
    let here : at (n + 0) ≡ stand V.hi loops = (fits_after none at (stand V.hi loops ∷ (V.standings ++ [])) ag).0 in
    tt & tt & (g.0, to_behind (to_at here (omega arith))) & goes {lo = V.hi} (omega arith) (from_at here (omega arith)) (to_behind g.1) & tt)
switch_is x cell (group ∷ rest) hx hs u a z n e k lo loops d =
    let groups : List Group = group ∷ rest in
    let c = n + length groups in
    let n1 = n + length (map (λ (g : Group). node_at u u.span) groups) in
    let mv = ending (x.pure u) (λ v b. put u cell v.value v.reads b c) a (n1 + 1) (e + 0 + 0) (k + 0 + 0) in
    let V = value_is x cell u a c (n1 + 1) (e + 0 + 0) (k + 0 + 0) lo loops hx d in
    let n2 = n1 + 1 + length mv.nodes in
    let e2 = e + 0 + 0 + length mv.edges in
    let k2 = k + 0 + 0 + length mv.scopes in
    let mc = cases_row u cell x.kind (cases_from n groups) (default_from n groups z) c n2 e2 k2 in
    let C = cases_are (cases_from n groups) u cell x.kind (default_from n groups z) c n2 e2 k2 V.hi loops (later (omega (arith, V.wide)) d) in
    let G = groups_are group rest hs.0 hs.1 (within u z) n z (n2 + length mc.nodes) (e2 + length mc.edges) (k2 + length mc.scopes) C.hi loops (later (omega (arith, V.wide, C.wide)) d) in
    let heads : Fits (group_nodes u groups n e k) n (stands_at loops (C.hi ∷ G.more)) (λ at. Unit {0}) = record {
      nodes = nodes_stand u groups C.hi loops (C.hi ∷ G.more) G.long (omega arith, G.above) (later (omega (arith, V.wide, C.wide)) d);
      edges = λ at ag g. tt;
    } in
    arrange G.hi (omega (arith, V.wide, C.wide, G.wide)) (fits_cons _ _ n e k heads (fits_cons _ _ _ _ _ (fits_node (stands V.hi (omega (arith, V.wide)) refl d)) (fits_cons _ _ _ _ _ V.fits (fits_cons _ _ _ _ _ C.fits G.fits))))
    (λ at ag g.
    let ours : Agrees at n (stands_at loops (C.hi ∷ G.more)) = agrees_front at n (stands_at loops (C.hi ∷ G.more)) _ ag in
    let here : at c ≡ stand V.hi loops = subst (λ m. at (n + m) ≡ stand V.hi loops) (length-nodes u groups) (fits_after heads at _ ag).0 in
    let z' : Behind at G.hi loops z = to_behind g.1 in
    tt & tt & (g.0, to_behind (to_at here (omega arith)))
    & (from_at here (omega arith), cases_behind at C.hi loops (C.hi ∷ G.more) groups n G.long (omega arith, G.above) ours, default_behind at C.hi loops (C.hi ∷ G.more) groups n z G.long (omega arith, G.above) ours (behind (omega (arith, G.wide)) z'))
    & (ours, g.1, record { exit = g.2.exit; on_break = z'; on_continue = g.2.on_continue }))
