-- What is made one after another, as one addition to the parts after another.
use Rattle.std.proofs.Common.{◌≡◌, ◌≤◌, ℕ, ◌+◌, List, [], ◌∷◌, ◌++◌, length, refl, sym, ap, ◌∙◌, append_assoc, append-nil, length-append, subst, arith}
use Rattle.cfa.specs.declared.parts.Node.{Node}
use Rattle.c_lower_rules.specs.declared.graph_of.parts.Parts.{Parts}
use Rattle.c_lower_rules.specs.graph_of.Builder.{Builder, Flow, Flowed, node, in_order, numbered, after, made_by, give, ◌then◌, ending}

abbrev pub all_after : List Builder → Parts → Parts
all_after [] m = m
all_after (b ∷ bs) m = all_after bs (after b m)

pub after_nil : (m : Parts) → after (in_order []) m ≡ m
unfolding after in_order
after_nil m = λ i. record { nodes = append-nil m.nodes i; edges = append-nil m.edges i; scopes = append-nil m.scopes i }

after_cons : (b : Builder) (bs : List Builder) (m : Parts) → after (in_order (b ∷ bs)) m ≡ after (in_order bs) (after b m)
unfolding after in_order
after_cons b bs m =
    let n = length m.nodes in
    let e = length m.edges in
    let k = length m.scopes in
    let ns = (b n e k).nodes in
    let es = (b n e k).edges in
    let ks = (b n e k).scopes in
    let n' : n + length ns ≡ length (m.nodes ++ ns) = sym (length-append m.nodes ns) in
    let e' : e + length es ≡ length (m.edges ++ es) = sym (length-append m.edges es) in
    let k' : k + length ks ≡ length (m.scopes ++ ks) = sym (length-append m.scopes ks) in
    let nodes : m.nodes ++ (ns ++ (in_order bs (n + length ns) (e + length es) (k + length ks)).nodes) ≡ (m.nodes ++ ns) ++ (in_order bs (length (m.nodes ++ ns)) (length (m.edges ++ es)) (length (m.scopes ++ ks))).nodes = rw (n', e', k') (sym (append_assoc m.nodes ns _)) in
    let edges : m.edges ++ (es ++ (in_order bs (n + length ns) (e + length es) (k + length ks)).edges) ≡ (m.edges ++ es) ++ (in_order bs (length (m.nodes ++ ns)) (length (m.edges ++ es)) (length (m.scopes ++ ks))).edges = rw (n', e', k') (sym (append_assoc m.edges es _)) in
    let scopes : m.scopes ++ (ks ++ (in_order bs (n + length ns) (e + length es) (k + length ks)).scopes) ≡ (m.scopes ++ ks) ++ (in_order bs (length (m.nodes ++ ns)) (length (m.edges ++ es)) (length (m.scopes ++ ks))).scopes = rw (n', e', k') (sym (append_assoc m.scopes ks _)) in
    λ i. record { nodes = nodes i; edges = edges i; scopes = scopes i }

pub after_in_order : (bs : List Builder) (m : Parts) → after (in_order bs) m ≡ all_after bs m
after_in_order [] m = after_nil m
after_in_order (b ∷ bs) m = after_cons b bs m ∙ after_in_order bs (after b m)

pub after_numbered : (f : ℕ → ℕ → ℕ → List Builder) (m : Parts) → after (numbered f) m ≡ all_after (f (length m.nodes) (length m.edges) (length m.scopes)) m
unfolding after
after_numbered f m = one f m ∙ after_in_order (f (length m.nodes) (length m.edges) (length m.scopes)) m
  where
    one : (f : ℕ → ℕ → ℕ → List Builder) (m : Parts) → after (numbered f) m ≡ after (in_order (f (length m.nodes) (length m.edges) (length m.scopes))) m
    one f m = refl

pub after_node-length : (x : Node) (m : Parts) → length (after (node x) m).nodes ≡ length m.nodes + 1
unfolding after
after_node-length x m = length-append m.nodes (x ∷ [])

-- edges are only added
pub grows : (b : Builder) (m : Parts) → length m.edges ≤ length (after b m).edges
unfolding after
grows b m = omega (arith, length-append m.edges (b (length m.nodes) (length m.edges) (length m.scopes)).edges)

-- ---- flows

-- a builder that names its first numbers, once they are known
pub after_at : (b : Builder) (m : Parts) (list : List Builder) → b (length m.nodes) (length m.edges) (length m.scopes) ≡ in_order list (length m.nodes) (length m.edges) (length m.scopes) → after b m ≡ all_after list m
unfolding after
after_at b m list e = ap (λ (p : Parts). record { nodes = m.nodes ++ p.nodes; edges = m.edges ++ p.edges; scopes = m.scopes ++ p.scopes }) e ∙ after_in_order list m

-- what a flow from a node made, behind parts that are there: where control is then, and what is known there
pub record Ran (A : Type 0) (x : Flow A) (a : ℕ) (m : Parts) (b : ℕ) (v : A) (m' : Parts) : Type 0 where
  pub made : m' ≡ after (made_by x a) m
  pub end : b ≡ (x a (length m.nodes) (length m.edges) (length m.scopes)).end
  pub gives : v ≡ (x a (length m.nodes) (length m.edges) (length m.scopes)).gives

pub gave : {A : Type 0} (v : A) (a : ℕ) (m : Parts) → Ran A (give v) a m a v m
gave v a m = record { made = sym (after_at (made_by (give v) a) m [] refl); end = refl; gives = refl }

same_flow : {A B : Type 0} (f : A → Flow B) {v v' : A} {b b' n n' e e' k k' : ℕ} → v ≡ v' → b ≡ b' → n ≡ n' → e ≡ e' → k ≡ k' → f v b n e k ≡ f v' b' n' e' k'
same_flow f p q r s t = λ i. f (p i) (q i) (r i) (s i) (t i)

-- what is made behind a flow
pub ran_ending : {A : Type 0} (x : Flow A) (f : A → ℕ → Builder) (a : ℕ) (m : Parts) (b : ℕ) (v : A) (m1 : Parts) → Ran A x a m b v m1 → after (ending x f a) m ≡ after (f v b) m1
ran_ending x f a m b v m1 X =
    let d = x a (length m.nodes) (length m.edges) (length m.scopes) in
    after_at (ending x f a) m (made_by x a ∷ f d.gives d.end ∷ []) refl ∙ (λ i. after (f (sym X.gives i) (sym X.end i)) (sym X.made i))

pub ran_then : {A B : Type 0} (x : Flow A) (f : A → Flow B) (a : ℕ) (m : Parts) (b : ℕ) (v : A) (m1 : Parts) (c : ℕ) (w : B) (m2 : Parts) → Ran A x a m b v m1 → Ran B (f v) b m1 c w m2 → Ran B (x then f) a m c w m2
unfolding after
ran_then {B = B} x f a m b v m1 c w m2 X Y =
    let d = x a (length m.nodes) (length m.edges) (length m.scopes) in
    let n : length m1.nodes ≡ length m.nodes + length d.made.nodes = ap (λ (p : Parts). length p.nodes) X.made ∙ length-append m.nodes d.made.nodes in
    let e : length m1.edges ≡ length m.edges + length d.made.edges = ap (λ (p : Parts). length p.edges) X.made ∙ length-append m.edges d.made.edges in
    let k : length m1.scopes ≡ length m.scopes + length d.made.scopes = ap (λ (p : Parts). length p.scopes) X.made ∙ length-append m.scopes d.made.scopes in
    let y1 = subst (λ v'. m2 ≡ after (made_by (f v') b) m1) X.gives Y.made in
    let y2 = subst (λ b'. m2 ≡ after (made_by (f d.gives) b') m1) X.end y1 in
    let y3 = subst (λ m'. m2 ≡ after (made_by (f d.gives) d.end) m') X.made y2 in
    record {
      made = y3 ∙ sym (after_at (made_by (x then f) a) m (made_by x a ∷ made_by (f d.gives) d.end ∷ []) refl);
      end = Y.end ∙ ap (λ (r : Flowed B). r.end) (same_flow f X.gives X.end n e k);
      gives = Y.gives ∙ ap (λ (r : Flowed B). r.gives) (same_flow f X.gives X.end n e k);
    }

-- what two flows make, one after another
pub then_made : {A B : Type 0} (x : Flow A) (f : A → Flow B) (a : ℕ) (m : Parts) → after (made_by (x then f) a) m
    ≡ (let d = x a (length m.nodes) (length m.edges) (length m.scopes) in after (made_by (f d.gives) d.end) (after (made_by x a) m))
then_made x f a m = let d = x a (length m.nodes) (length m.edges) (length m.scopes) in after_at (made_by (x then f) a) m (made_by x a ∷ made_by (f d.gives) d.end ∷ []) refl

-- a flow that goes on with what it makes of what is known
pub ran_gives : {A B : Type 0} (x : Flow A) (g : A → B) (a : ℕ) (m : Parts) (b : ℕ) (v : A) (m1 : Parts) → Ran A x a m b v m1 → Ran B (x then λ v. give (g v)) a m b (g v) m1
ran_gives x g a m b v m1 X = ran_then x (λ v. give (g v)) a m b v m1 b (g v) m1 X (gave (g v) b m1)
