-- From the counts of ways on to the rule for the edges that leave a node.
use Rattle.std.proofs.Common.{◌≡◌, ℕ, zero, suc, ◌+◌, ◌*◌, ◌<◌, ◌≤◌, Bool, true, false, cond, List, [], ◌∷◌, map, length, Some, refl, sym, ap, subst, ◌∙◌, arith}
use Rattle.std.specs.Prelude.{IsTrue, ◌==◌, slice_get}
use Rattle.std.specs.List.{filter}
use Rattle.std.proofs.lemmas.Bool.{eqb-true, eqb-false, eq-eqb, ne_eqb}
use Rattle.std.proofs.lemmas.Option.{same_Some}
use Rattle.cfa.specs.declared.parts.Edge.{Edge}
use Rattle.cfa.specs.declared.parts.Node.{Node}
use Rattle.cfa.specs.declared.parts.Variable.{Variable}
use Rattle.cfa.specs.Graph.{is_return, Continues}
use Rattle.c_typed_trees.specs.declared.unit.TypedFunction.{TypedFunction}
use Rattle.c_lower_rules.specs.graph_of.Builder.{in_order}
use Rattle.c_lower_rules.specs.graph_of.Edges.{entry_of, exit_of}
use Rattle.c_lower_rules.specs.graph_of.Statements.{block_row}
use Rattle.c_lower_rules.specs.graph_of.Table.{piece}
use Rattle.c_lower_rules.specs.graph_of.GraphOf.{around_of, ends_from, ends, bodies_from, made}
use Rattle.c_lower_rules.proofs.graph_rules.Ways.{here, among, onward, Leads, Leading, lead_nil, leading, leading_cons}
use Rattle.c_lower_rules.proofs.graph_rules.WaysRows.{IsPiece, block_is}
use Rattle.std.specs.List.{AllByRecursion}

-- ---- counts

here_same : (i n : ℕ) → n ≡ i → here i n ≡ 1
unfolding here
here_same i n e = ap (λ b. cond b 1 0) (eq-eqb n i e)

here_apart : (i n : ℕ) → (n ≡ i → ⊥) → here i n ≡ 0
unfolding here
here_apart i n e = ap (λ b. cond b 1 0) (ne_eqb n i e)

among_before : (i n : ℕ) (xs : List Node) → i < n → among i n xs ≡ 0
among_before i n [] h = refl
among_before i n (x ∷ xs) h = let a = here_apart i n (λ e. omega arith) in let b = among_before i (n + 1) xs (omega arith) in omega arith

-- each node is one of those that are there
among_there : (i n : ℕ) (xs : List Node) → n ≤ i → i < n + length xs → among i n xs ≡ 1
among_there i n [] h k = absurd (omega arith)
among_there i n (x ∷ xs) h k = by (n == i) refl (λ le. among_there i (n + 1) xs le (omega arith))
  where
    by : (b : Bool) → (n == i) ≡ b → (n + 1 ≤ i → among i (n + 1) xs ≡ 1) → among i n (x ∷ xs) ≡ 1
    by true e rest = let same = eqb-true n i e in let a = here_same i n same in let b = among_before i (n + 1) xs (omega arith) in omega arith
    by false e rest = let apart : n ≡ i → ⊥ = eqb-false n i e in let a = here_apart i n apart in let b = rest (omega arith) in omega arith

pub among_one : (i : ℕ) (xs : List Node) → i < length xs → among i 0 xs ≡ 1
among_one i xs h = among_there i 0 xs (omega arith) (omega arith)

pub among_most : (i n : ℕ) (xs : List Node) → among i n xs ≤ 1
among_most i n [] = omega arith
among_most i n (x ∷ xs) = by (n == i) refl (among_most i (n + 1) xs)
  where
    by : (b : Bool) → (n == i) ≡ b → among i (n + 1) xs ≤ 1 → among i n (x ∷ xs) ≤ 1
    by true e rest = let same = eqb-true n i e in let a = here_same i n same in let b = among_before i (n + 1) xs (omega arith) in omega arith
    by false e rest = let a = here_apart i n (eqb-false n i e) in omega arith

-- ---- edges that lead on

-- where none leads on, each edge is a return
pub onward_none : (i : ℕ) (es : List Edge) → onward i es ≡ [] → (k : ℕ) (e : Edge) → slice_get es k ≡ Some e → e.source ≡ i → IsTrue (is_return e.operation)
onward_none i [] h k e is same = absurd (cc)
onward_none i (x ∷ es) h k e is same = by (x.source == i) (is_return x.operation) refl refl k is (λ none q there. onward_none i es none q e there same)
  where
    by : (b r : Bool) → (x.source == i) ≡ b → is_return x.operation ≡ r → (k : ℕ) → slice_get (x ∷ es) k ≡ Some e → (onward i es ≡ [] → (q : ℕ) → slice_get es q ≡ Some e → IsTrue (is_return e.operation)) → IsTrue (is_return e.operation)
    by true true at ret zero is go = let own : x ≡ e = same_Some x e is in ap (λ (y : Edge). is_return y.operation) (sym own) ∙ ret
    by true false at ret k is go = let none = rw (at, ret) at h in absurd (cc)
    by false r at ret zero is go = let own : x ≡ e = same_Some x e is in let other = eqb-false x.source i at in absurd (other (ap (λ (y : Edge). y.source) own ∙ same))
    by true true at ret (suc k) is go = let rest = rw (at, ret) at h in go rest k is
    by false r at ret (suc k) is go = let rest = rw at at h in go rest k is

-- where no return leaves a node, all edges from it lead on
pub onward_all : (i : ℕ) (es : List Edge) → ((k : ℕ) (e : Edge) → slice_get es k ≡ Some e → e.source ≡ i → is_return e.operation ≡ false) → filter (λ (e : Edge). e.source == i) es ≡ onward i es
onward_all i [] h = refl
onward_all i (x ∷ es) h = by (x.source == i) refl (onward_all i es (λ k e is. h (suc k) e is))
  where
    by : (b : Bool) → (x.source == i) ≡ b → filter (λ (e : Edge). e.source == i) es ≡ onward i es → filter (λ (e : Edge). e.source == i) (x ∷ es) ≡ onward i (x ∷ es)
    by true at rest = let ret = h zero x refl (eqb-true x.source i at) in rw (at, ret) (ap (λ xs. x ∷ xs) rest)
    by false at rest = rw at rest

-- one way that leads on
pub continues_one : (es : List Edge) (n : ℕ) → Leads es n → n ≡ 1 → Continues es
continues_one es n h e = subst (Leads es) e h

pub none_leads : (es : List Edge) (n : ℕ) → Leads es n → n ≡ 0 → es ≡ []
none_leads es n h e = subst (Leads es) e h

-- ---- the whole

abbrev entries : ℕ → List TypedFunction → ℕ → ℕ
entries i [] j = 0
entries i (f ∷ fs) j = here j (entry_of i) + entries (i + 1) fs j

-- how often a node is the exit of one of the functions
abbrev pub exits : ℕ → List TypedFunction → ℕ → ℕ
exits i [] j = 0
exits i (f ∷ fs) j = here j (exit_of i) + exits (i + 1) fs j

pub exits_none : (i : ℕ) (fs : List TypedFunction) (j : ℕ) → ((k : ℕ) (f : TypedFunction) → slice_get fs k ≡ Some f → exit_of (i + k) ≡ j → ⊥) → exits i fs j ≡ 0
exits_none i [] j h = refl
exits_none i (f ∷ fs) j h =
    let none : i ≡ i + 0 = omega arith in
    let a = here_apart j (exit_of i) (λ e. h zero f refl (ap exit_of (sym none) ∙ e)) in
    let b = exits_none (i + 1) fs j (λ k g is e. let next : i + suc k ≡ i + 1 + k = omega arith in h (suc k) g is (ap exit_of next ∙ e)) in
    omega arith

pub exits_some : (i : ℕ) (fs : List TypedFunction) (j k : ℕ) (f : TypedFunction) → slice_get fs k ≡ Some f → exit_of (i + k) ≡ j → 1 ≤ exits i fs j
exits_some i [] j k f is e = absurd (cc)
exits_some i (g ∷ fs) j zero f is e = let none : i ≡ i + 0 = omega arith in let a = here_same j (exit_of i) (ap exit_of none ∙ e) in omega arith
exits_some i (g ∷ fs) j (suc k) f is e = let next : i + 1 + k ≡ i + suc k = omega arith in let b = exits_some (i + 1) fs j k f is (ap exit_of next ∙ e) in omega arith

module _ (globals : List Variable) where
  ends_among : (i : ℕ) (fs : List TypedFunction) (j : ℕ) → among j (2 * i) (ends_from globals i fs) ≡ entries i fs j + exits i fs j
  ends_among i [] j = refl
  ends_among i (f ∷ fs) j =
      let next : 2 * i + 1 + 1 ≡ 2 * (i + 1) = omega arith in
      let a = ap (λ n. among j n (ends_from globals (i + 1) fs)) next in
      let b = ends_among (i + 1) fs j in
      omega arith

  -- the bodies of functions
  abbrev pub AllPieces : List TypedFunction → Type 0
  AllPieces fs = AllByRecursion (λ (f : TypedFunction). AllByRecursion IsPiece (map piece f.body)) fs

  bodies_lead : (i : ℕ) (fs : List TypedFunction) → AllPieces fs → (n e k : ℕ) → Leading (in_order (bodies_from globals i fs) n e k) n (entries i fs) (λ j. 0)
  bodies_lead i [] hs n e k = leading [] n e k _ _ tt (λ j. omega arith)
  bodies_lead i (f ∷ fs) hs n e k =
      let m = block_row (map piece f.body) (around_of globals i f) (entry_of i) (exit_of i) n e k in
      leading_cons _ _ n e k (entries (i + 1) fs) (λ j. 0) _ _ (block_is (map piece f.body) hs.0 (around_of globals i f) (entry_of i) (exit_of i) n e k)
      (bodies_lead (i + 1) fs hs.1 (n + length m.nodes) (e + length m.edges) (k + length m.scopes)) (λ j. omega arith)

  -- each node that is no exit is due one way, and an exit none
  pub whole_leads : (fs : List TypedFunction) → AllPieces fs → Leading (made globals fs) 0 (λ j. 0) (exits 0 fs)
  whole_leads fs hs =
      let first : Leading (ends globals fs 0 0 0) 0 (λ j. 0) (λ j. among j 0 (ends_from globals 0 fs)) = record { leads = lead_nil; same = λ j. refl } in
      leading_cons _ _ 0 0 0 (entries 0 fs) (λ j. 0) (λ j. 0) (exits 0 fs) first (bodies_lead 0 fs hs _ _ _)
      (λ j. let e = ends_among 0 fs j in omega arith)
