-- Marks that spread against the direction of edges.
use Rattle.std.proofs.Common.{◌≡◌, ℕ, ◌+◌, ◌<◌, Bool, true, false, List, [], ◌∷◌, ◌++◌, Some, All, Contains, ◌⊎◌, length, get_or, set, take, inl, inr, ⊎_elim, sym, ◌∙◌, ap, subst, arith, get_or-set_same, get_or-set_other}
use Rattle.std.specs.Prelude.{slice_get}
use Rattle.std.specs.Option.{IsSomeAnd}
use Rattle.std.proofs.Math.ListN.{length-set}
use Rattle.std.proofs.lemmas.Bool.{cases_eq, both_ways}
use Rattle.std.proofs.lemmas.List.{take_more}
use Rattle.std.proofs.lemmas.List.Elements.{All-push, All-contains, Contains-get_or, Contains-push, Contains-push_cases, Contains-append_left}
use Rattle.std.proofs.lemmas.Option.{same_Some}
use Rattle.cfa.proofs.Exits.{taken}
use Rattle.cfa.specs.declared.parts.Edge.{Edge}
use Rattle.cfa.specs.declared.parts.GraphParts.{GraphParts}
use Rattle.filters.specs.Parts.{Part, is_marked}
use Rattle.filters_paths.specs.Spreading.{row_at, AreIncoming, AreSpread, AreSpreading}

-- the number of an edge that is read twice is one
same_number : (parts : GraphParts) (number : Edge → ℕ) (k v : ℕ) (e : Edge) → IsSomeAnd (slice_get parts.edges k) (λ x. number x ≡ v) → slice_get parts.edges k ≡ Some e → number e ≡ v
same_number parts number k v e h is =
    let there = taken (λ x. number x ≡ v) (slice_get parts.edges k) h in
    ap number (same_Some e there.0 (sym is ∙ there.1)) ∙ there.2

-- ---- one more edge in the rows

module _ (rows : List (List ℕ)) (node edge : ℕ) (lt : node < length rows) where
  abbrev longer : List (List ℕ)
  longer = set rows node (row_at rows node ++ edge ∷ [])

  row_grows : (n k : ℕ) → Contains (row_at rows n) k → Contains (row_at longer n) k
  row_grows n k has = let P : List ℕ → Type 0 = λ xs. Contains xs k in elim (cases_eq n node) [
    | inl same ↦
        let old : Contains (row_at rows node) k = subst (λ m. Contains (row_at rows m) k) same has in
        subst P (sym (ap (row_at longer) same ∙ get_or-set_same rows node (row_at rows node ++ edge ∷ []) [] lt)) (Contains-append_left (row_at rows node) (edge ∷ []) k old)
    | inr other ↦ subst P (sym (get_or-set_other rows node n (row_at rows node ++ edge ∷ []) [] other)) has
  ]

  row_new : Contains (row_at longer node) edge
  row_new = let P : List ℕ → Type 0 = λ xs. Contains xs edge in subst P (sym (get_or-set_same rows node (row_at rows node ++ edge ∷ []) [] lt)) (Contains-push (row_at rows node) edge)

  row_cases : (n k : ℕ) → Contains (row_at longer n) k → Contains (row_at rows n) k ⊎ (edge ≡ k)
  row_cases n k has = let P : List ℕ → Type 0 = λ xs. Contains xs k in elim (cases_eq n node) [
    | inl same ↦
        let whole : Contains (row_at rows node ++ edge ∷ []) k = subst P (ap (row_at longer) same ∙ get_or-set_same rows node (row_at rows node ++ edge ∷ []) [] lt) has in
        ⊎_elim (λ old. inl (subst (λ m. Contains (row_at rows m) k) (sym same) old)) (λ new. inr new) (Contains-push_cases (row_at rows node) edge k whole)
    | inr other ↦ inl (subst P (get_or-set_other rows node n (row_at rows node ++ edge ∷ []) [] other) has)
  ]

  pub within_more : (count : ℕ) → edge < count → ((n k : ℕ) → Contains (row_at rows n) k → k < count) → (n k : ℕ) → Contains (row_at longer n) k → k < count
  within_more count low old n k has = ⊎_elim (λ was. old n k was) (λ new. let e = new in omega arith) (row_cases n k has)

  pub each_more : (parts : GraphParts) (a : Part) → IsSomeAnd (slice_get parts.edges edge) (λ e. e.target ≡ node)
      → ((k : ℕ) (e : Edge) → k < edge → slice_get parts.edges k ≡ Some e → a.edge k ≡ true → Contains (row_at rows e.target) k)
      → (k : ℕ) (e : Edge) → k < edge + 1 → slice_get parts.edges k ≡ Some e → a.edge k ≡ true → Contains (row_at longer e.target) k
  each_more parts a to old k e low is inside = elim (cases_eq k edge) [
    | inl same ↦
        let at : slice_get parts.edges edge ≡ Some e = sym (ap (slice_get parts.edges) same) ∙ is in
        let target : e.target ≡ node = same_number parts (λ (x : Edge). x.target) edge node e to at in
        let P : ℕ → Type 0 = λ m. Contains (row_at longer m) edge in
        let Q : ℕ → Type 0 = λ m. Contains (row_at longer e.target) m in
        subst Q (sym same) (subst P (sym target) row_new)
    | inr other ↦ row_grows e.target k (old k e (omega arith) is inside)
  ]

-- an edge that isn't of the part
pub each_outside : (parts : GraphParts) (a : Part) (rows : List (List ℕ)) (edge : ℕ) → a.edge edge ≡ false
    → ((k : ℕ) (e : Edge) → k < edge → slice_get parts.edges k ≡ Some e → a.edge k ≡ true → Contains (row_at rows e.target) k)
    → (k : ℕ) (e : Edge) → k < edge + 1 → slice_get parts.edges k ≡ Some e → a.edge k ≡ true → Contains (row_at rows e.target) k
each_outside parts a rows edge out old k e low is inside = elim (cases_eq k edge) [
  | inl same ↦ absurd (both_ways (a.edge edge) out (sym (ap a.edge same) ∙ inside))
  | inr other ↦ old k e (omega arith) is inside
]

-- ---- one more source

taken_cases : (row : List ℕ) (i k : ℕ) → i < length row → Contains (take (i + 1) row) k → Contains (take i row) k ⊎ (get_or row i 0 ≡ k)
taken_cases row i k lt has = let P : List ℕ → Type 0 = λ xs. Contains xs k in Contains-push_cases (take i row) (get_or row i 0) k (subst P (take_more row i 0 lt) has)

source_of_edge : (parts : GraphParts) (row : List ℕ) (i k source : ℕ) (e : Edge) → IsSomeAnd (slice_get parts.edges (get_or row i 0)) (λ x. x.source ≡ source) → get_or row i 0 ≡ k → slice_get parts.edges k ≡ Some e → e.source ≡ source
source_of_edge parts row i k source e from same is = same_number parts (λ (x : Edge). x.source) (get_or row i 0) source e from (ap (slice_get parts.edges) same ∙ is)

-- its source is marked already
pub spread_marked : (parts : GraphParts) (row : List ℕ) (i source : ℕ) (first marks : List Bool) (before waiting : List ℕ) → i < length row → IsSomeAnd (slice_get parts.edges (get_or row i 0)) (λ x. x.source ≡ source)
    → is_marked marks source ≡ true → AreSpread parts (take i row) first before marks waiting → AreSpread parts (take (i + 1) row) first before marks waiting
spread_marked parts row i source first marks before waiting lt from here h = record {
  size = h.size;
  within = h.within;
  kept = h.kept;
  waits = h.waits;
  fresh = h.fresh;
  sources = λ k e has is. elim (taken_cases row i k lt has) [
    | inl old ↦ h.sources k e old is
    | inr new ↦ ap (is_marked marks) (source_of_edge parts row i k source e from new is) ∙ here
  ];
}

still_marked : (marks : List Bool) (source n : ℕ) → source < length marks → is_marked marks n ≡ true → get_or (set marks source true) n false ≡ true
still_marked marks source n lt h = elim (cases_eq n source) [
  | inl same ↦ ap (λ m. get_or (set marks source true) m false) same ∙ get_or-set_same marks source true false lt
  | inr other ↦ get_or-set_other marks source n true false other ∙ h
]

-- its source is marked from now on, and waits
pub spread_new : (parts : GraphParts) (row : List ℕ) (i source : ℕ) (first marks marks' : List Bool) (before waiting waiting' : List ℕ) → i < length row → IsSomeAnd (slice_get parts.edges (get_or row i 0)) (λ x. x.source ≡ source)
    → source < length parts.nodes → marks' ≡ set marks source true → waiting' ≡ waiting ++ source ∷ [] → AreSpread parts (take i row) first before marks waiting → AreSpread parts (take (i + 1) row) first before marks' waiting'
spread_new parts row i source first marks marks' before waiting waiting' lt from low new more h =
    let within : source < length marks = omega (arith, h.size) in
    let same : (n : ℕ) → is_marked marks' n ≡ get_or (set marks source true) n false = λ n. ap (λ xs. get_or xs n false) new in
    let stays : (n : ℕ) → is_marked marks n ≡ true → is_marked marks' n ≡ true = λ n p. same n ∙ still_marked marks source n within p in
    let here : is_marked marks' source ≡ true = same source ∙ get_or-set_same marks source true false within in
    let A : List ℕ → Type 0 = λ xs. All (λ n. n < length parts.nodes) xs in
    let later : (n : ℕ) → Contains waiting n → Contains waiting' n = λ n p. let C : List ℕ → Type 0 = λ xs. Contains xs n in subst C (sym more) (Contains-append_left waiting (source ∷ []) n p) in
    let last : Contains waiting' source = let C : List ℕ → Type 0 = λ xs. Contains xs source in subst C (sym more) (Contains-push waiting source) in
    record {
      size = ap length new ∙ length-set marks source true ∙ h.size;
      within = subst A (sym more) (All-push (λ n. n < length parts.nodes) waiting source h.within low);
      kept = λ n p. stays n (h.kept n p);
      waits = λ n p. later n (h.waits n p);
      fresh = λ n p. elim (cases_eq n source) [
        | inl this ↦ let C : ℕ → Type 0 = λ m. Contains waiting' m in inr (subst C (sym this) last)
        | inr other ↦ ⊎_elim (λ old. inl old) (λ waits. inr (later n waits)) (h.fresh n (sym (get_or-set_other marks source n true false other) ∙ sym (same n) ∙ p))
      ];
      sources = λ k e has is. elim (taken_cases row i k lt has) [
        | inl old ↦ stays e.source (h.sources k e old is)
        | inr this ↦ ap (is_marked marks') (source_of_edge parts row i k source e from this is) ∙ here
      ];
    }

-- ---- one more node

pub spreading_more : (parts : GraphParts) (a : Part) (ends marks marks' : List Bool) (waiting rest waiting' : List ℕ) (rows : List (List ℕ)) (node : ℕ) → AreIncoming parts a rows → AreSpreading parts a ends marks waiting → waiting ≡ rest ++ node ∷ []
    → AreSpread parts (row_at rows node) marks rest marks' waiting' → AreSpreading parts a ends marks' waiting'
spreading_more parts a ends marks marks' waiting rest waiting' rows node incoming h waits step = record {
  size = step.size;
  within = step.within;
  at_end = λ n p. step.kept n (h.at_end n p);
  back = λ k e is inside target. elim (step.fresh e.target target) [
    | inr new ↦ inr new
    | inl old ↦ elim (h.back k e is inside old) [
      | inl source ↦ inl (step.kept e.source source)
      | inr waited ↦ elim (Contains-push_cases rest node e.target (subst (λ xs. Contains xs e.target) waits waited)) [
        | inl still ↦ inr (step.waits e.target still)
        | inr this ↦ let C : ℕ → Type 0 = λ m. Contains (row_at rows m) k in inl (step.sources k e (subst C (sym this) (incoming.each k e is inside)) is)
      ]
    ]
  ];
}

-- ---- numbers that are marked

pub numbers_more : (marks : List Bool) (numbers : List ℕ) (n : ℕ) → ((k : ℕ) → k < n → get_or marks k false ≡ true → Contains numbers k) → (k : ℕ) → k < n + 1 → get_or marks k false ≡ true → Contains (numbers ++ n ∷ []) k
numbers_more marks numbers n old k low marked = elim (cases_eq n k) [
  | inl same ↦ subst (λ m. Contains (numbers ++ n ∷ []) m) same (Contains-push numbers n)
  | inr other ↦ Contains-append_left numbers (n ∷ []) k (old k (omega arith) marked)
]

pub numbers_same : (marks : List Bool) (numbers : List ℕ) (n : ℕ) → get_or marks n false ≡ false → ((k : ℕ) → k < n → get_or marks k false ≡ true → Contains numbers k) → (k : ℕ) → k < n + 1 → get_or marks k false ≡ true → Contains numbers k
numbers_same marks numbers n out old k low marked = elim (cases_eq n k) [
  | inl same ↦ absurd (both_ways (get_or marks n false) out (ap (λ m. get_or marks m false) same ∙ marked))
  | inr other ↦ old k (omega arith) marked
]

-- the numbers of a row are edges
pub row_edges : (parts : GraphParts) (a : Part) (rows : List (List ℕ)) (node : ℕ) (row : List ℕ) → AreIncoming parts a rows → row ≡ row_at rows node → All (λ k. k < length parts.edges) row
row_edges parts a rows node row incoming is i d lt =
    let here : Contains (row_at rows node) (get_or row i d) = subst (λ xs. Contains xs (get_or row i d)) is (Contains-get_or row i d lt) in
    incoming.within node (get_or row i d) here

-- a node that waits is one of the graph
pub last_waiting : (parts : GraphParts) (waiting rest : List ℕ) (node : ℕ) → All (λ n. n < length parts.nodes) waiting → waiting ≡ rest ++ node ∷ [] → node < length parts.nodes
last_waiting parts waiting rest node within is = let A : List ℕ → Type 0 = λ xs. All (λ n. n < length parts.nodes) xs in All-contains (λ n. n < length parts.nodes) (rest ++ node ∷ []) node (subst A is within) (Contains-push rest node)
