-- How many ways lead on from each node, piece by piece.
use Rattle.std.proofs.Common.{◌≡◌, ℕ, zero, suc, ◌+◌, Bool, true, false, List, [], ◌∷◌, ◌++◌, length, refl, sym, ap, subst, ◌∙◌, arith, append-nil}
use Rattle.std.specs.Prelude.{not, ◌&&◌, ◌==◌, if◌then◌else◌}
use Rattle.std.specs.List.{filter}
use Rattle.std.proofs.lemmas.List.Elements.{filter-append}
use Rattle.cfa.specs.declared.expr.Expr.{Expr}
use Rattle.cfa.specs.declared.parts.Edge.{Edge}
use Rattle.cfa.specs.declared.parts.Node.{Node}
use Rattle.cfa.specs.declared.parts.Operation.{Operation}
use Rattle.cfa.specs.declared.parts.Operation.TheVariants.{Guard, Return}
use Rattle.cfa.specs.Graph.{is_guard, is_return, Continues}
use Rattle.c_lower_rules.specs.declared.graph_of.parts.Parts.{Parts}
use Rattle.c_lower_rules.specs.graph_of.Builder.{Builder, in_order}

-- ---- counts

-- 1 where it is this node
unfoldable pub here : ℕ → ℕ → ℕ
here i n = if n == i then 1 else 0

-- the operations that begin a way on: a guard of falsehood goes with that of truth, and a return leaves an exit
abbrev pub begins : Operation → Bool
begins (Guard test truth) = truth
begins (Return call dest) = false
begins _ = true

abbrev pub way : ℕ → Edge → ℕ
way i e = if begins e.operation then here i e.source else 0

-- how many ways begin at a node
abbrev pub ways : ℕ → List Edge → ℕ
ways i [] = 0
ways i (e ∷ es) = way i e + ways i es

-- how many of the nodes that are numbered from n on are this node
abbrev pub among : ℕ → ℕ → List Node → ℕ
among i n [] = 0
among i n (x ∷ xs) = here i n + among i (n + 1) xs

-- the edges that lead on from a node
abbrev pub onward : ℕ → List Edge → List Edge
onward i es = filter (λ (e : Edge). e.source == i && not (is_return e.operation)) es

-- edges that lead on are none where no way begins, and one way's where one does
abbrev pub Leads : List Edge → ℕ → Type 0
Leads es zero = es ≡ []
Leads es (suc zero) = Continues es
Leads es (suc (suc n)) = Unit {0}

-- ---- sums

leads_append : (xs ys : List Edge) (m n : ℕ) → Leads xs m → Leads ys n → Leads (xs ++ ys) (m + n)
leads_append xs ys zero n h k =
    let e : n ≡ 0 + n = omega arith in
    subst (Leads (xs ++ ys)) e (subst (λ zs. Leads (zs ++ ys) n) (sym h) k)
leads_append xs ys (suc zero) zero h k = subst (λ zs. Continues (xs ++ zs)) (sym k) (subst Continues (sym (append-nil xs)) h)
leads_append xs ys (suc zero) (suc n) h k = let e : suc (suc n) ≡ suc zero + suc n = omega arith in subst (Leads (xs ++ ys)) e tt
leads_append xs ys (suc (suc m)) n h k = let e : suc (suc (m + n)) ≡ suc (suc m) + n = omega arith in subst (Leads (xs ++ ys)) e tt

pub ways_append : (i : ℕ) (xs ys : List Edge) → ways i (xs ++ ys) ≡ ways i xs + ways i ys
ways_append i [] ys = omega arith
ways_append i (x ∷ xs) ys = omega (arith, ways_append i xs ys)

pub among_append : (i n : ℕ) (xs ys : List Node) → among i n (xs ++ ys) ≡ among i n xs + among i (n + length xs) ys
among_append i n [] ys = let e : n ≡ n + 0 = omega arith in let f = ap (λ m. among i m ys) e in omega arith
among_append i n (x ∷ xs) ys =
    let e : n + 1 + length xs ≡ n + length (x ∷ xs) = omega arith in
    let f = ap (λ m. among i m ys) e in
    let g = among_append i (n + 1) xs ys in
    omega arith

-- ---- what is made

-- the ways from each node lead on
pub record Lead (es : List Edge) : Type 0 where
  pub leads : (i : ℕ) → Leads (onward i es) (ways i es)

pub lead_append : (xs ys : List Edge) → Lead xs → Lead ys → Lead (xs ++ ys)
lead_append xs ys h k = record {
  leads = λ i.
      subst (λ zs. Leads zs (ways i (xs ++ ys))) (sym (filter-append (λ (e : Edge). e.source == i && not (is_return e.operation)) xs ys))
      (subst (Leads (onward i xs ++ onward i ys)) (sym (ways_append i xs ys)) (leads_append (onward i xs) (onward i ys) (ways i xs) (ways i ys) (h.leads i) (k.leads i)));
}

-- The ways on from each node lead on, and they are as many as are due: those due before, one for each new node, and none for those that
-- are left.
pub record Leading (m : Parts) (n : ℕ) (due left : ℕ → ℕ) : Type 0 where
  pub leads : Lead m.edges
  pub same : (i : ℕ) → ways i m.edges + left i ≡ due i + among i n m.nodes

-- of builders in a row
abbrev pub AllLead : List Builder → ℕ → ℕ → ℕ → Type 0
AllLead [] n e k = Unit {0}
AllLead (b ∷ bs) n e k = Lead (b n e k).edges × AllLead bs (n + length (b n e k).nodes) (e + length (b n e k).edges) (k + length (b n e k).scopes)

abbrev pub all_ways : ℕ → List Builder → ℕ → ℕ → ℕ → ℕ
all_ways i [] n e k = 0
all_ways i (b ∷ bs) n e k = ways i (b n e k).edges + all_ways i bs (n + length (b n e k).nodes) (e + length (b n e k).edges) (k + length (b n e k).scopes)

abbrev pub all_among : ℕ → List Builder → ℕ → ℕ → ℕ → ℕ
all_among i [] n e k = 0
all_among i (b ∷ bs) n e k = among i n (b n e k).nodes + all_among i bs (n + length (b n e k).nodes) (e + length (b n e k).edges) (k + length (b n e k).scopes)

pub lead_nil : Lead []
lead_nil = record { leads = λ i. refl }

lead_order : (bs : List Builder) (n e k : ℕ) → AllLead bs n e k → Lead (in_order bs n e k).edges
unfolding in_order
lead_order [] n e k h = lead_nil
lead_order (b ∷ bs) n e k h = lead_append (b n e k).edges _ h.0 (lead_order bs _ _ _ h.1)

ways_order : (i : ℕ) (bs : List Builder) (n e k : ℕ) → ways i (in_order bs n e k).edges ≡ all_ways i bs n e k
unfolding in_order
ways_order i [] n e k = refl
ways_order i (b ∷ bs) n e k =
    let rest = ways_order i bs (n + length (b n e k).nodes) (e + length (b n e k).edges) (k + length (b n e k).scopes) in
    ways_append i (b n e k).edges _ ∙ ap (λ r. ways i (b n e k).edges + r) rest

among_order : (i : ℕ) (bs : List Builder) (n e k : ℕ) → among i n (in_order bs n e k).nodes ≡ all_among i bs n e k
unfolding in_order
among_order i [] n e k = refl
among_order i (b ∷ bs) n e k =
    let rest = among_order i bs (n + length (b n e k).nodes) (e + length (b n e k).edges) (k + length (b n e k).scopes) in
    among_append i n (b n e k).nodes _ ∙ ap (λ r. among i n (b n e k).nodes + r) rest

pub leading : (bs : List Builder) (n e k : ℕ) (due left : ℕ → ℕ) → AllLead bs n e k → ((i : ℕ) → all_ways i bs n e k + left i ≡ due i + all_among i bs n e k) → Leading (in_order bs n e k) n due left
leading bs n e k due left h sum = record {
  leads = lead_order bs n e k h;
  same = λ i. ap (λ w. w + left i) (ways_order i bs n e k) ∙ sum i ∙ sym (ap (λ w. due i + w) (among_order i bs n e k));
}

-- ---- single edges

-- an operation that is a way by itself
abbrev pub IsSingle : Operation → Type 0
IsSingle op = (begins op ≡ true) × (is_return op ≡ false) × (is_guard op ≡ false)

pub lead_one : (e : Edge) → IsSingle e.operation → Lead (e ∷ [])
unfolding here
lead_one e h = record { leads = λ i. rw (h.0, h.1) (by (e.source == i)) }
  where
    by : (b : Bool) → Leads (if b && true then e ∷ [] else []) ((if b then 1 else 0) + 0)
    by true = rw h.2 refl
    by false = refl

pub lead_return : (e : Edge) → begins e.operation ≡ false → is_return e.operation ≡ true → Lead (e ∷ [])
lead_return e h r = record { leads = λ i. rw (h, r) (by (e.source == i)) }
  where
    by : (b : Bool) → Leads (if b && false then e ∷ [] else []) (0 + 0)
    by true = refl
    by false = refl

-- what two edges lead, by their operations and whether they leave the node
abbrev TwoLead : Edge → Edge → Operation → Operation → Bool → Bool → Type 0
TwoLead e f op oq b c = Leads (if b && not (is_return op) then e ∷ (if c && not (is_return oq) then f ∷ [] else []) else (if c && not (is_return oq) then f ∷ [] else []))
    ((if begins op then (if b then 1 else 0) else 0) + ((if begins oq then (if c then 1 else 0) else 0) + 0))

-- two guards of one test
pub lead_two : (test : Expr) (e f : Edge) → e.source ≡ f.source → e.operation ≡ Guard test true → f.operation ≡ Guard test false → Lead (e ∷ f ∷ [])
unfolding here
lead_two test e f same g h = record {
  leads = λ i. subst (λ op. TwoLead e f op f.operation (e.source == i) (f.source == i)) (sym g) (subst (λ op. TwoLead e f (Guard test true) op (e.source == i) (f.source == i)) (sym h)
      (subst (λ n. TwoLead e f (Guard test true) (Guard test false) (e.source == i) (n == i)) same (by (e.source == i))));
}
  where
    by : (b : Bool) → TwoLead e f (Guard test true) (Guard test false) b b
    by true = (test, g, h)
    by false = refl

pub single : (x : Edge) (n : ℕ) → IsSingle x.operation → Leading (record { nodes = []; edges = x ∷ []; scopes = [] }) n (λ i. here i x.source) (λ i. 0)
single x n h = record { leads = lead_one x h; same = λ i. rw (h.0) (omega arith) }

-- one builder, and then others
pub leading_cons : (b : Builder) (bs : List Builder) (n e k : ℕ) {d l : ℕ → ℕ} (d' l' due left : ℕ → ℕ)
    → Leading (b n e k) n d l
    → Leading (in_order bs (n + length (b n e k).nodes) (e + length (b n e k).edges) (k + length (b n e k).scopes)) (n + length (b n e k).nodes) d' l'
    → ((i : ℕ) → d i + d' i + left i ≡ due i + l i + l' i)
    → Leading (in_order (b ∷ bs) n e k) n due left
unfolding in_order
leading_cons b bs n e k d' l' due left h g sum = record {
  leads = lead_append (b n e k).edges _ h.leads g.leads;
  same = λ i.
      let rest = in_order bs (n + length (b n e k).nodes) (e + length (b n e k).edges) (k + length (b n e k).scopes) in
      omega (arith, h.same i, g.same i, sum i, ways_append i (b n e k).edges rest.edges, among_append i n (b n e k).nodes rest.nodes);
}

-- new nodes, whose ways are left to others
pub nodes_lead : (xs : List Node) (n : ℕ) → Leading (record { nodes = xs; edges = []; scopes = [] }) n (λ i. 0) (λ i. among i n xs)
nodes_lead xs n = record { leads = lead_nil; same = λ i. refl }
