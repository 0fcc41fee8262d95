-- Searches for a way to an end.
use Rattle.std.proofs.Common.{◌≡◌, ℕ, ◌+◌, ◌-◌, ◌≤◌, ◌<◌, ◌==◌, ◌&&◌, ◌||◌, Bool, true, false, List, [], ◌∷◌, ◌++◌, Some, length, get_or, set, take, All, Contains, ◌⊎◌, inl, inr, refl, sym, ◌∙◌, ap, subst, arith, eq-eqb, get_or-set_same, get_or-set_other}
use Rattle.std.specs.Prelude.{slice_get, nat_lt}
use Rattle.std.proofs.lemmas.Bool.{and_parts, and_from, or_cases, cases_eq, cases_lt, eqb-true, ltb-true, lt-ltb, both_ways, false_from_ne_true}
use Rattle.std.proofs.Math.ListN.{length-set, get_or-eq_default}
use Rattle.std.proofs.lemmas.List.{get_or_append_left, get_or_push, get_or-take, length-take, length_push, get_or_default}
use Rattle.std.proofs.lemmas.List.Elements.{Contains-get_or, Contains-push_cases, Contains-append_left, Contains-push, All-contains}
use Rattle.std.proofs.lemmas.Option.{same_Some}
use Rattle.std.specs.Option.{IsSomeAnd}
use Rattle.cfa.proofs.Exits.{taken, given}
use Rattle.cfa.proofs.Places.{outgoing_tells}
use Rattle.cfa.specs.declared.parts.Edge.{Edge}
use Rattle.cfa.specs.declared.parts.GraphParts.{GraphParts}
use Rattle.cfa.specs.Table.{outgoing_of}
use Rattle.filters.specs.Parts.{is_marked}
use Rattle.filters_paths.specs.declared.search.Search.{Search}
use Rattle.filters_paths.specs.Searching.{is_way, IsSearch, is_dead, IsBelow, is_met, is_past, IsSearching, KeepsMarks, IsReopened, IsSealed}
use Rattle.filters_paths.proofs.BorderLaws.{within_by}
use Rattle.filters_paths.proofs.Prefixes.{edge_with}

-- an edge that leaves a node is one of the graph
row_below : (parts : GraphParts) (node k : ℕ) → Contains (outgoing_of parts node) k → k < length parts.edges
row_below parts node k h = within_by parts.edges (λ (e : Edge). e.source ≡ node) k ((outgoing_tells parts node k).0 h)

pub row_within : (parts : GraphParts) (node i : ℕ) (row : List ℕ) → row ≡ outgoing_of parts node → i < length row → get_or row i 0 < length parts.edges
row_within parts node i row is lt = let P : List ℕ → Type 0 = λ xs. Contains xs (get_or row i 0) in row_below parts node (get_or row i 0) (subst P is (Contains-get_or row i 0 lt))

-- one more edge of a row, from its end, which waits from now on
pub waits_too : (row waiting left : List ℕ) (i : ℕ) → i < length row
    → ((j : ℕ) → length row ≤ j + i → j < length row → 0 < get_or left (get_or row j 0) 0 → Contains waiting (get_or row j 0))
    → (j : ℕ) → length row ≤ j + (i + 1) → j < length row → 0 < get_or left (get_or row j 0) 0 → Contains (waiting ++ get_or row (length row - 1 - i) 0 ∷ []) (get_or row j 0)
waits_too row waiting left i lt before j far within some = elim (cases_lt (j + i) (length row)) [
  | inl here ↦
      let at : length row - 1 - i ≡ j = omega arith in
      let P : ℕ → Type 0 = λ m. Contains (waiting ++ get_or row m 0 ∷ []) (get_or row j 0) in
      subst P (sym at) (Contains-push waiting (get_or row j 0))
  | inr old ↦ Contains-append_left waiting (get_or row (length row - 1 - i) 0 ∷ []) (get_or row j 0) (before j old within some)
]

-- one more edge, with no uses left
pub waits_not : (row waiting left : List ℕ) (i : ℕ) → i < length row → get_or left (get_or row (length row - 1 - i) 0) 0 ≤ 0
    → ((j : ℕ) → length row ≤ j + i → j < length row → 0 < get_or left (get_or row j 0) 0 → Contains waiting (get_or row j 0))
    → (j : ℕ) → length row ≤ j + (i + 1) → j < length row → 0 < get_or left (get_or row j 0) 0 → Contains waiting (get_or row j 0)
waits_not row waiting left i lt none before j far within some = elim (cases_lt (j + i) (length row)) [
  | inl here ↦
      let at : length row - 1 - i ≡ j = omega arith in
      let e = ap (λ m. get_or left (get_or row m 0) 0) at in
      absurd (omega arith)
  | inr old ↦ before j old within some
]

-- all edges of a row wait
pub all_wait : (row waiting left : List ℕ) (i : ℕ) → length row ≤ i
    → ((j : ℕ) → length row ≤ j + i → j < length row → 0 < get_or left (get_or row j 0) 0 → Contains waiting (get_or row j 0))
    → (k : ℕ) → Contains row k → 0 < get_or left k 0 → Contains waiting k
all_wait row waiting left i end each k (j, lt, is) some =
    let here : get_or row j 0 ≡ k = get_or_default row j 0 k lt ∙ is in
    let P : ℕ → Type 0 = λ m. Contains waiting m in
    let e = ap (λ m. get_or left m 0) here in
    subst P here (each j (omega arith) lt (omega arith))

-- ---- dead nodes

-- a node is dead, by its level, the layers and its mark
abbrev dead : List ℕ → List ℕ → List ℕ → ℕ → Bool
dead levels layers met n = nat_lt (get_or levels n 0) (length layers) && (get_or layers (get_or levels n 0) 0 == get_or met n 0)

dead_parts : (levels layers met : List ℕ) (n : ℕ) → dead levels layers met n ≡ true → (get_or levels n 0 < length layers) × (get_or layers (get_or levels n 0) 0 ≡ get_or met n 0)
dead_parts levels layers met n h =
    let both = and_parts (nat_lt (get_or levels n 0) (length layers)) _ h in
    (ltb-true _ _ both.0, eqb-true _ _ both.1)

dead_from : (levels layers met : List ℕ) (n : ℕ) → get_or levels n 0 < length layers → get_or layers (get_or levels n 0) 0 ≡ get_or met n 0 → dead levels layers met n ≡ true
dead_from levels layers met n lt is = and_from _ _ (lt-ltb _ _ lt) (eq-eqb _ _ is)

-- a search with these lists
same_dead : (t : Search) (levels layers met : List ℕ) (n : ℕ) → t.levels.items ≡ levels → t.layers.items ≡ layers → t.met.items ≡ met → is_dead t n ≡ dead levels layers met n
same_dead t levels layers met n a b c = (λ i. dead (a i) (b i) (c i) n)

-- a node that is met now isn't dead, and others are as they were
dead_here : (levels layers met : List ℕ) (node round : ℕ) → node < length levels → dead (set levels node (length layers)) layers (set met node round) node ≡ true → ⊥
dead_here levels layers met node round lt h =
    let it = dead_parts (set levels node (length layers)) layers (set met node round) node h in
    let e = get_or-set_same levels node (length layers) 0 lt in
    let low = it.0 in
    omega arith

dead_other : (levels layers met : List ℕ) (node n v round : ℕ) → (n ≡ node → ⊥) → dead (set levels node v) layers (set met node round) n ≡ dead levels layers met n
dead_other levels layers met node n v round other =
    let a = get_or-set_other levels node n v 0 other in
    let b = get_or-set_other met node n round 0 other in
    (λ i. nat_lt (a i) (length layers) && (get_or layers (a i) 0 == b i))

-- with one layer more
dead_more : (levels layers met : List ℕ) (round n : ℕ) → dead levels layers met n ≡ true → dead levels (layers ++ round ∷ []) met n ≡ true
dead_more levels layers met round n h =
    let it = dead_parts levels layers met n h in
    let low = it.0 in
    let long = length_push layers round in
    dead_from levels (layers ++ round ∷ []) met n (omega arith) (get_or_append_left layers (round ∷ []) 0 (get_or levels n 0) low ∙ it.1)

dead_last : (levels layers met : List ℕ) (round n : ℕ) → get_or levels n 0 ≡ length layers → get_or met n 0 ≡ round → dead levels (layers ++ round ∷ []) met n ≡ true
dead_last levels layers met round n top is =
    let long = length_push layers round in
    dead_from levels (layers ++ round ∷ []) met n (omega arith) (get_or_push layers round 0 (get_or levels n 0) (sym top) ∙ sym is)

dead_cases : (levels layers met : List ℕ) (round n : ℕ) → dead levels (layers ++ round ∷ []) met n ≡ true → (get_or met n 0 ≡ round) ⊎ (dead levels layers met n ≡ true)
dead_cases levels layers met round n h =
    let it = dead_parts levels (layers ++ round ∷ []) met n h in
    let long = length_push layers round in
    let low = it.0 in
    elim (cases_lt (get_or levels n 0) (length layers)) [
      | inl lt ↦ inr (dead_from levels layers met n lt (sym (get_or_append_left layers (round ∷ []) 0 (get_or levels n 0) lt) ∙ it.1))
      | inr ge ↦ inl (sym it.1 ∙ get_or_push layers round 0 (get_or levels n 0) (omega arith))
    ]

-- with the first layers alone
dead_first : (levels layers met : List ℕ) (count n : ℕ) → dead levels (take count layers) met n ≡ true → (get_or levels n 0 < count) × (dead levels layers met n ≡ true)
dead_first levels layers met count n h =
    let it = dead_parts levels (take count layers) met n h in
    let long = length-take count layers in
    let low = it.0 in
    let lt : get_or levels n 0 < count = omega arith in
    (lt, dead_from levels layers met n (omega arith) (sym (get_or-take count layers (get_or levels n 0) 0 lt) ∙ it.1))

dead_still : (levels layers met : List ℕ) (count n : ℕ) → get_or levels n 0 < count → dead levels layers met n ≡ true → dead levels (take count layers) met n ≡ true
dead_still levels layers met count n lt h =
    let it = dead_parts levels layers met n h in
    let long = length-take count layers in
    let low = it.0 in
    dead_from levels (take count layers) met n (omega arith) (get_or-take count layers (get_or levels n 0) 0 lt ∙ it.1)

-- ---- what searches keep

-- a search goes on by the marks, the levels and the layers alone
pub keeps_search : (parts : GraphParts) (ends : List Bool) (left : List ℕ) (s t : Search) → IsSearch parts ends left s → KeepsMarks s t → IsSearch parts ends left t
keeps_search parts ends left s t h keeps =
    let same : (n : ℕ) → is_dead t n ≡ is_dead s n = λ n. same_dead t s.levels.items s.layers.items s.met.items n keeps.1 keeps.3 keeps.0 in
    let level : (n : ℕ) → get_or t.levels.items n 0 ≡ get_or s.levels.items n 0 = λ n. ap (λ xs. get_or xs n 0) keeps.1 in
    let round = keeps.2 in
    record {
      size = ap length keeps.0 ∙ h.size;
      depth = ap length keeps.1 ∙ h.depth;
      marks = λ n. let b = h.marks n in let e = ap (λ xs. get_or xs n 0) keeps.0 in omega arith;
      layers = λ i. let b = h.layers i in let e = ap (λ xs. get_or xs i 0) keeps.3 in omega arith;
      dead = λ n d. h.dead n (sym (same n) ∙ d);
      closed = λ k e is some d.
          let it = h.closed k e is some (sym (same e.source) ∙ d) in
          let a = level e.source in
          let b = level e.target in
          let low = it.1 in
          (same e.target ∙ it.0, omega arith);
    }

-- with fewer uses
pub fewer_uses : (parts : GraphParts) (ends : List Bool) (left less : List ℕ) (s : Search) → IsSearch parts ends left s → ((k : ℕ) → 0 < get_or less k 0 → 0 < get_or left k 0) → IsSearch parts ends less s
fewer_uses parts ends left less s h fewer = record {
  size = h.size;
  depth = h.depth;
  marks = h.marks;
  layers = h.layers;
  dead = h.dead;
  closed = λ k e is some d. h.closed k e is (fewer k some) d;
}

-- one edge may be taken more often than before
pub reopened : (parts : GraphParts) (ends : List Bool) (left more : List ℕ) (s t : Search) (k source target : ℕ) → IsSearch parts ends left s → IsReopened s source target t
    → IsSomeAnd (slice_get parts.edges k) (λ e. e.source ≡ source) → IsSomeAnd (slice_get parts.edges k) (λ e. e.target ≡ target)
    → ((j : ℕ) → (j ≡ k → ⊥) → 0 < get_or more j 0 → 0 < get_or left j 0) → IsSearch parts ends more t
reopened parts ends left more s t k source target h by from to fewer =
    let levels = s.levels.items in
    let layers = s.layers.items in
    let met = s.met.items in
    let same : (n : ℕ) → is_dead t n ≡ dead levels (take by.count layers) met n = λ n. same_dead t levels (take by.count layers) met n by.nodes.1 by.layers by.nodes.0 in
    let level : (n : ℕ) → get_or t.levels.items n 0 ≡ get_or levels n 0 = λ n. ap (λ xs. get_or xs n 0) by.nodes.1 in
    let round = by.nodes.2 in
    let first : (n : ℕ) → is_dead t n ≡ true → (get_or levels n 0 < by.count) × (is_dead s n ≡ true) = λ n d. dead_first levels layers met by.count n (sym (same n) ∙ d) in
    let source_of_it = taken (λ (e : Edge). e.source ≡ source) (slice_get parts.edges k) from in
    let target_of_it = taken (λ (e : Edge). e.target ≡ target) (slice_get parts.edges k) to in
    record {
      size = ap length by.nodes.0 ∙ h.size;
      depth = ap length by.nodes.1 ∙ h.depth;
      marks = λ n. let b = h.marks n in let e = ap (λ xs. get_or xs n 0) by.nodes.0 in omega arith;
      layers = λ i. layers_low s t i by.count h.layers by.layers round;
      dead = λ n d. h.dead n (first n d).1;
      closed = λ j e is some d. elim (cases_eq j k) [
        | inl here ↦
            let edge : slice_get parts.edges k ≡ Some e = ap (slice_get parts.edges) (sym here) ∙ is in
            let a : e.source ≡ source = ap (λ (f : Edge). f.source) (same_Some e source_of_it.0 (sym edge ∙ source_of_it.1)) ∙ source_of_it.2 in
            let b : e.target ≡ target = ap (λ (f : Edge). f.target) (same_Some e target_of_it.0 (sym edge ∙ target_of_it.1)) ∙ target_of_it.2 in
            let it = by.below (sym (ap (is_dead t) a) ∙ d) in
            let low = it.1 in
            let c = ap (λ n. get_or t.levels.items n 0) a in
            let g = ap (λ n. get_or t.levels.items n 0) b in
            (ap (is_dead t) b ∙ it.0, omega arith)
        | inr other ↦
            let before = first e.source d in
            let it = h.closed j e is (fewer j other some) before.1 in
            let low = it.1 in
            let under = before.0 in
            let a = level e.source in
            let b = level e.target in
            (same e.target ∙ dead_still levels layers met by.count e.target (omega arith) it.0, omega arith)
      ];
    }
  where
    layers_low : (s t : Search) (i count : ℕ) → ((i : ℕ) → get_or s.layers.items i 0 ≤ s.round) → t.layers.items ≡ take count s.layers.items → t.round ≡ s.round → get_or t.layers.items i 0 ≤ t.round
    layers_low s t i count low is round = elim (cases_lt i count) [
      | inl lt ↦ let e = ap (λ xs. get_or xs i 0) is ∙ get_or-take count s.layers.items i 0 lt in let b = low i in omega arith
      | inr ge ↦
          let long = ap length is ∙ length-take count s.layers.items in
          let e = get_or-eq_default t.layers.items 0 {n = i} (omega arith) in
          omega arith
    ]

-- ---- marks of nodes

pub met_more : (met : List ℕ) (round node n : ℕ) → node < length met → get_or met n 0 == round ≡ true → get_or (set met node round) n 0 == round ≡ true
met_more met round node n lt h = elim (cases_eq n node) [
  | inl same ↦ eq-eqb _ _ (ap (λ m. get_or (set met node round) m 0) same ∙ get_or-set_same met node round 0 lt)
  | inr other ↦ ap (λ m. m == round) (get_or-set_other met node n round 0 other) ∙ h
]

pub met_here : (met : List ℕ) (round node : ℕ) → node < length met → get_or (set met node round) node 0 == round ≡ true
met_here met round node lt = eq-eqb _ _ (get_or-set_same met node round 0 lt)

pub met_cases : (met : List ℕ) (round node n : ℕ) → node < length met → get_or (set met node round) n 0 == round ≡ true → (n ≡ node) ⊎ (get_or met n 0 == round ≡ true)
met_cases met round node n lt h = elim (cases_eq n node) [
  | inl same ↦ inl same
  | inr other ↦ inr (sym (ap (λ m. m == round) (get_or-set_other met node n round 0 other)) ∙ h)
]

pub marks_more : (met : List ℕ) (round node : ℕ) → node < length met → ((n : ℕ) → get_or met n 0 ≤ round) → (n : ℕ) → get_or (set met node round) n 0 ≤ round
marks_more met round node lt h n = elim (cases_eq n node) [
  | inl same ↦ let e = ap (λ m. get_or (set met node round) m 0) same ∙ get_or-set_same met node round 0 lt in omega arith
  | inr other ↦ let e = get_or-set_other met node n round 0 other in let b = h n in omega arith
]

-- ---- what a dead node shows

pub no_way : (parts : GraphParts) (ends : List Bool) (left : List ℕ) (s : Search) → IsSearch parts ends left s → (node : ℕ) → is_dead s node ≡ true → (way : List ℕ) → is_way parts ends left node way ≡ false
no_way parts ends left s h node gone [] = h.dead node gone
no_way parts ends left s h node gone (k ∷ way) = false_from_ne_true (is_way parts ends left node (k ∷ way)) (λ on.
    let both = and_parts (nat_lt 0 (get_or left k 0)) _ on in
    let there = edge_with parts (λ (e : Edge). (e.source == node) && is_way parts ends left e.target way) k both.1 in
    let e = there.0 in
    let parts_of_it = and_parts (e.source == node) (is_way parts ends left e.target way) there.2 in
    let source_gone : is_dead s e.source ≡ true = ap (is_dead s) (eqb-true e.source node parts_of_it.0) ∙ gone in
    let target_gone = (h.closed k e there.1 (ltb-true 0 (get_or left k 0) both.0) source_gone).0 in
    both_ways (is_way parts ends left e.target way) (no_way parts ends left s h e.target target_gone way) parts_of_it.1)

-- ---- a search

past_from : (a b : Bool) → (a ≡ true) ⊎ (b ≡ true) → (a || b) ≡ true
past_from true b h = refl
past_from false b h = elim h [ inl x ↦ absurd (cc) | inr y ↦ y ]

pub not_past : (a b : Bool) → (a || b) ≡ false → b ≡ false
not_past true b h = absurd (cc)
not_past false b h = h

-- a node that is no end and not dead is met, and its edges wait
module _ (parts : GraphParts) (ends : List Bool) (left : List ℕ) (s t : Search) (node : ℕ) (within : node < length parts.nodes) (state : IsSearching parts ends left (λ n. n ≡ node) s)
    (inside : is_marked ends node ≡ false) (alive : is_dead s node ≡ false) (met : t.met.items ≡ set s.met.items node s.round) (levels : t.levels.items ≡ set s.levels.items node (length s.layers.items))
    (layers : t.layers.items ≡ s.layers.items) (round : t.round ≡ s.round) where
  mark_size : node < length s.met.items
  mark_size = let e = state.search.size in omega arith

  level_size : node < length s.levels.items
  level_size = let e = state.search.depth in omega arith

  same_met : (n : ℕ) → is_met t n ≡ (get_or (set s.met.items node s.round) n 0 == s.round)
  same_met n = ap (λ xs. get_or xs n 0 == t.round) met ∙ ap (λ r. get_or (set s.met.items node s.round) n 0 == r) round

  met_still : (n : ℕ) → is_met s n ≡ true → is_met t n ≡ true
  met_still n h = same_met n ∙ met_more s.met.items s.round node n mark_size h

  met_now : is_met t node ≡ true
  met_now = same_met node ∙ met_here s.met.items s.round node mark_size

  dead_lists : (n : ℕ) → is_dead t n ≡ dead (set s.levels.items node (length s.layers.items)) s.layers.items (set s.met.items node s.round) n
  dead_lists n = same_dead t (set s.levels.items node (length s.layers.items)) s.layers.items (set s.met.items node s.round) n levels layers met

  dead_before : (n : ℕ) → is_dead t n ≡ true → (n ≡ node → ⊥) × (is_dead s n ≡ true)
  dead_before n h = elim (cases_eq n node) [
    | inl same ↦ absurd (dead_here s.levels.items s.layers.items s.met.items node s.round level_size (sym (dead_lists node) ∙ sym (ap (is_dead t) same) ∙ h))
    | inr other ↦ (other, sym (dead_other s.levels.items s.layers.items s.met.items node n (length s.layers.items) s.round other) ∙ sym (dead_lists n) ∙ h)
  ]

  dead_apart : (n : ℕ) → is_dead s n ≡ true → n ≡ node → ⊥
  dead_apart n h same = both_ways (is_dead s node) alive (sym (ap (is_dead s) same) ∙ h)

  dead_after : (n : ℕ) → is_dead s n ≡ true → is_dead t n ≡ true
  dead_after n h = dead_lists n ∙ dead_other s.levels.items s.layers.items s.met.items node n (length s.layers.items) s.round (dead_apart n h) ∙ h

  level_before : (n : ℕ) → (n ≡ node → ⊥) → get_or t.levels.items n 0 ≡ get_or s.levels.items n 0
  level_before n other = ap (λ xs. get_or xs n 0) levels ∙ get_or-set_other s.levels.items node n (length s.layers.items) 0 other

  pub past_still : (n : ℕ) → is_past s n ≡ true → is_past t n ≡ true
  past_still n h = elim (or_cases (is_met s n) (is_dead s n) h) [
    | inl m ↦ past_from (is_met t n) (is_dead t n) (inl (met_still n m))
    | inr d ↦ past_from (is_met t n) (is_dead t n) (inr (dead_after n d))
  ]

  searched : IsSearch parts ends left t
  searched = record {
    size = ap length met ∙ length-set s.met.items node s.round ∙ state.search.size;
    depth = ap length levels ∙ length-set s.levels.items node (length s.layers.items) ∙ state.search.depth;
    marks = λ n. let b = marks_more s.met.items s.round node mark_size state.search.marks n in let e = ap (λ xs. get_or xs n 0) met in omega arith;
    layers = λ i. let b = state.search.layers i in let e = ap (λ xs. get_or xs i 0) layers in omega arith;
    dead = λ n d. state.search.dead n (dead_before n d).1;
    closed = λ k e is some d.
        let before = dead_before e.source d in
        let it = state.search.closed k e is some before.1 in
        let low = it.1 in
        let a = level_before e.source before.0 in
        let b = level_before e.target (dead_apart e.target it.0) in
        (dead_after e.target it.0, omega arith);
  }

  top_still : (n : ℕ) → is_met t n ≡ true → get_or t.levels.items n 0 ≡ length t.layers.items
  top_still n h =
      let count = ap length layers in
      elim (cases_eq n node) [
        | inl same ↦ ap (λ m. get_or t.levels.items m 0) same ∙ ap (λ xs. get_or xs node 0) levels ∙ get_or-set_same s.levels.items node (length s.layers.items) 0 level_size ∙ sym count
        | inr other ↦ elim (met_cases s.met.items s.round node n mark_size (sym (same_met n) ∙ h)) [
          | inl same ↦ absurd (other same)
          | inr old ↦ level_before n other ∙ state.top n old ∙ sym count
        ]
      ]

  pub arrived : All (λ k. k < length parts.edges) t.waiting.items → ((k : ℕ) → Contains s.waiting.items k → Contains t.waiting.items k) → ((k : ℕ) → Contains (outgoing_of parts node) k → 0 < get_or left k 0 → Contains t.waiting.items k)
      → IsSearching parts ends left (λ n. ⊥) t × (is_past t node ≡ true)
  arrived waiting kept more = (
    record {
      search = searched;
      fresh = λ i. let b = state.fresh i in let e = ap (λ xs. get_or xs i 0) layers in omega arith;
      top = top_still;
      waiting = waiting;
      inner = λ n h. elim (met_cases s.met.items s.round node n mark_size (sym (same_met n) ∙ h)) [
        | inl new ↦ ap (is_marked ends) new ∙ inside
        | inr old ↦ state.inner n old
      ];
      edges = λ k e is some h. elim (met_cases s.met.items s.round node e.source mark_size (sym (same_met e.source) ∙ h)) [
        | inl new ↦ inr (inl (more k ((outgoing_tells parts node k).1 (given (λ (f : Edge). f.source ≡ node) (slice_get parts.edges k) e is new)) some))
        | inr old ↦ elim (state.edges k e is some old) [
          | inl past ↦ inl (past_still e.target past)
          | inr other ↦ elim other [
            | inl waits ↦ inr (inl (kept k waits))
            | inr arriving ↦ inl (ap (is_past t) arriving ∙ past_from (is_met t node) (is_dead t node) (inl met_now))
          ]
        ]
      ];
    },
    past_from (is_met t node) (is_dead t node) (inl met_now),
  )

-- it arrives at a node that it needn't go to
pub passed_by : (parts : GraphParts) (ends : List Bool) (left : List ℕ) (s : Search) (node : ℕ) → IsSearching parts ends left (λ n. n ≡ node) s → is_past s node ≡ true → IsSearching parts ends left (λ n. ⊥) s × (is_past s node ≡ true)
passed_by parts ends left s node state past = (
  record {
    search = state.search;
    fresh = state.fresh;
    top = state.top;
    waiting = state.waiting;
    inner = state.inner;
    edges = λ k e is some h. elim (state.edges k e is some h) [
      | inl gone ↦ inl gone
      | inr other ↦ elim other [
        | inl waits ↦ inr (inl waits)
        | inr arriving ↦ inl (ap (is_past s) arriving ∙ past)
      ]
    ];
  },
  past,
)

-- an edge that waited is followed
pub followed : (parts : GraphParts) (ends : List Bool) (left : List ℕ) (s t : Search) (k node : ℕ) → IsSearching parts ends left (λ n. ⊥) s → s.waiting.items ≡ t.waiting.items ++ k ∷ []
    → KeepsMarks s t → IsSomeAnd (slice_get parts.edges k) (λ e. e.target ≡ node) → IsSearching parts ends left (λ n. n ≡ node) t
followed parts ends left s t k node state waits keeps to =
    let same : (n : ℕ) → is_met t n ≡ is_met s n = λ n. ap (λ xs. get_or xs n 0 == t.round) keeps.0 ∙ ap (λ r. get_or s.met.items n 0 == r) keeps.2 in
    let gone : (n : ℕ) → is_dead t n ≡ is_dead s n = λ n. same_dead t s.levels.items s.layers.items s.met.items n keeps.1 keeps.3 keeps.0 in
    let past : (n : ℕ) → is_past t n ≡ is_past s n = λ n. (λ i. same n i || gone n i) in
    let round = keeps.2 in
    let there = taken (λ (e : Edge). e.target ≡ node) (slice_get parts.edges k) to in
    let W : List ℕ → Type 0 = λ xs. All (λ m. m < length parts.edges) xs in
    let within : All (λ m. m < length parts.edges) (t.waiting.items ++ k ∷ []) = subst W waits state.waiting in
    record {
      search = keeps_search parts ends left s t state.search keeps;
      fresh = λ i. let b = state.fresh i in let e = ap (λ xs. get_or xs i 0) keeps.3 in omega arith;
      top = λ n h. ap (λ xs. get_or xs n 0) keeps.1 ∙ state.top n (sym (same n) ∙ h) ∙ sym (ap length keeps.3);
      waiting = λ i d lt. let e = get_or_append_left t.waiting.items (k ∷ []) d i lt in let long = length_push t.waiting.items k in let low = within i d (omega arith) in omega arith;
      inner = λ n h. state.inner n (sym (same n) ∙ h);
      edges = λ m e is some h. elim (state.edges m e is some (sym (same e.source) ∙ h)) [
        | inl target_past ↦ inl (past e.target ∙ target_past)
        | inr other ↦ elim other [
          | inl waited ↦ elim (Contains-push_cases t.waiting.items k m (subst (λ xs. Contains xs m) waits waited)) [
            | inl still ↦ inr (inl still)
            | inr this ↦ inr (inr (ap (λ (f : Edge). f.target) (same_Some e there.0 (sym is ∙ ap (slice_get parts.edges) (sym this) ∙ there.1)) ∙ there.2))
          ]
          | inr never ↦ absurd never
        ]
      ];
    }

-- nothing waits, and the nodes that were met are a layer from now on
module _ (parts : GraphParts) (ends : List Bool) (left : List ℕ) (s t : Search) (state : IsSearching parts ends left (λ n. ⊥) s) (none : s.waiting.items ≡ []) (by : IsSealed s t) where
  sealed_lists : (n : ℕ) → is_dead t n ≡ dead s.levels.items (s.layers.items ++ s.round ∷ []) s.met.items n
  sealed_lists n = same_dead t s.levels.items (s.layers.items ++ s.round ∷ []) s.met.items n by.0.1 by.1 by.0.0

  met_dead : (n : ℕ) → is_met s n ≡ true → is_dead t n ≡ true
  met_dead n h = sealed_lists n ∙ dead_last s.levels.items s.layers.items s.met.items s.round n (state.top n h) (eqb-true (get_or s.met.items n 0) s.round h)

  dead_dead : (n : ℕ) → is_dead s n ≡ true → is_dead t n ≡ true
  dead_dead n h = sealed_lists n ∙ dead_more s.levels.items s.layers.items s.met.items s.round n h

  dead_by : (n : ℕ) → is_dead t n ≡ true → (is_met s n ≡ true) ⊎ (is_dead s n ≡ true)
  dead_by n h = elim (dead_cases s.levels.items s.layers.items s.met.items s.round n (sym (sealed_lists n) ∙ h)) [
    | inl is ↦ inl (eq-eqb (get_or s.met.items n 0) s.round is)
    | inr old ↦ inr old
  ]

  level_kept : (n : ℕ) → get_or t.levels.items n 0 ≡ get_or s.levels.items n 0
  level_kept n = ap (λ xs. get_or xs n 0) by.0.1

  pub past_dead : (n : ℕ) → is_past s n ≡ true → is_dead t n ≡ true
  past_dead n h = elim (or_cases (is_met s n) (is_dead s n) h) [ inl m ↦ met_dead n m | inr d ↦ dead_dead n d ]

  -- a node that was met or dead is no deeper than one that was met
  no_deeper : (n m : ℕ) → is_met s n ≡ true → is_past s m ≡ true → get_or s.levels.items m 0 ≤ get_or s.levels.items n 0
  no_deeper n m h past =
      let top = state.top n h in
      elim (or_cases (is_met s m) (is_dead s m) past) [
        | inl other ↦ let e = state.top m other in omega arith
        | inr gone ↦ let lt = (dead_parts s.levels.items s.layers.items s.met.items m gone).0 in omega arith
      ]

  below_met : (n m : ℕ) → is_met s n ≡ true → is_past s m ≡ true → IsBelow t n m
  below_met n m h past = let a = level_kept n in let b = level_kept m in let low = no_deeper n m h past in (past_dead m past, omega arith)

  layer_low : (i : ℕ) → get_or t.layers.items i 0 ≤ t.round
  layer_low i =
      let e = ap (λ xs. get_or xs i 0) by.1 in
      let long = length_push s.layers.items s.round in
      let round = by.0.2 in
      elim (cases_lt i (length s.layers.items)) [
        | inl lt ↦ let f = get_or_append_left s.layers.items (s.round ∷ []) 0 i lt in let b = state.search.layers i in omega arith
        | inr ge ↦ elim (cases_eq i (length s.layers.items)) [
          | inl same ↦ let f = get_or_push s.layers.items s.round 0 i (sym same) in omega arith
          | inr more ↦ let f = get_or-eq_default (s.layers.items ++ s.round ∷ []) 0 {n = i} (omega arith) in omega arith
        ]
      ]

  pub sealed : IsSearch parts ends left t
  sealed = record {
    size = ap length by.0.0 ∙ state.search.size;
    depth = ap length by.0.1 ∙ state.search.depth;
    marks = λ n. let b = state.search.marks n in let e = ap (λ xs. get_or xs n 0) by.0.0 in let r = by.0.2 in omega arith;
    layers = layer_low;
    dead = λ n d. elim (dead_by n d) [ inl m ↦ state.inner n m | inr old ↦ state.search.dead n old ];
    closed = λ k e is some d. elim (dead_by e.source d) [
      | inl m ↦ elim (state.edges k e is some m) [
        | inl past ↦ below_met e.source e.target m past
        | inr other ↦ elim other [
          | inl waits ↦ absurd (let w : Contains [] k = subst (λ xs. Contains xs k) none waits in let c = w.1 in omega arith)
          | inr never ↦ absurd never
        ]
      ]
      | inr old ↦
          let it = state.search.closed k e is some old in
          let a = level_kept e.source in
          let b = level_kept e.target in
          let low = it.1 in
          (dead_dead e.target it.0, omega arith)
    ];
  }

-- an edge that waits is one of the graph
pub waiting_within : (parts : GraphParts) (ends : List Bool) (left : List ℕ) (s : Search) (rest : List ℕ) (k : ℕ) → IsSearching parts ends left (λ n. ⊥) s → s.waiting.items ≡ rest ++ k ∷ [] → k < length parts.edges
waiting_within parts ends left s rest k state waits =
    let W : List ℕ → Type 0 = λ xs. All (λ m. m < length parts.edges) xs in
    All-contains (λ m. m < length parts.edges) (rest ++ k ∷ []) k (subst W waits state.waiting) (Contains-push rest k)
