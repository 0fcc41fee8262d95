-- The steps of a walk.
use Rattle.std.proofs.Common.{inl, inr, ◌&&◌, ◌≡◌, ℕ, zero, suc, ◌+◌, ◌-◌, ◌≤◌, ◌<◌, Bool, true, false, List, [], ◌∷◌, ◌++◌, Option, Some, None, length, get_or, set, All, refl, sym, ◌∙◌, ap, subst, arith, get_or-set_other}
use Rattle.std.specs.Prelude.{slice_get, ◌==◌, if◌then◌else◌}
use Rattle.std.specs.Option.{IsSomeAnd}
use Rattle.std.specs.List.{filter, last_or, range_with_len}
use Rattle.std.proofs.lemmas.Bool.{and_parts, and_from, cases_Bool, cases_eq}
use Rattle.std.proofs.lemmas.List.{map_push, set-set, set-get_or, length_push, get_or_push, get_or_append_left}
use Rattle.std.proofs.lemmas.List.Elements.{All-push}
use Rattle.std.proofs.lemmas.List.Sums.{length-filter, count_by-le-length}
use Rattle.std.proofs.lemmas.Option.{slice_get_within, get_or_from_slice_get}
use Rattle.cfa.proofs.Eaches.{element_at}
use Rattle.cfa.proofs.Exits.{taken}
use Rattle.cfa.specs.declared.parts.Edge.{Edge}
use Rattle.cfa.specs.declared.parts.GraphParts.{GraphParts}
use Rattle.filters.specs.Parts.{Part, IsWithin, edge_has, is_marked}
use Rattle.filters_paths.specs.declared.ground.Ground.{Ground}
use Rattle.filters_paths.specs.declared.search.Search.{Search}
use Rattle.filters_paths.specs.declared.walk.Step.{Step}
use Rattle.filters_paths.specs.declared.walk.Walk.{Walk}
use Rattle.filters_paths.specs.Ground.{IsGround, parts_of, part_in, is_first}
use Rattle.filters_paths.specs.Paths.{is_end_node, leads_to, occurrences, is_path}
use Rattle.filters_paths.specs.Searching.{is_way, IsSearch}
use Rattle.filters_paths.specs.Walking.{paths_behind, edges_of, row_after, row_of, from_place, remaining, IsPrefix, prefix_of, IsWalk, ahead}
use Rattle.filters_paths.specs.Uses.{AreLeft}
use Rattle.filters_paths.proofs.Extensions.{own}
use Rattle.filters_paths.proofs.Pending.{passed_over, forward, backward, nothing_left}
use Rattle.filters_paths.proofs.Prefixes.{edge_with, has_by, occurrences-append, occurs_first}
use Rattle.filters_paths.proofs.SearchLaws.{fewer_uses}
use Rattle.filters_paths.proofs.WalkLaws.{follows, in_row, prefix_push, prefix_pop, last_in_part, used_up, behind_row, own_path, own_none, barren, left_push, left_pop}

range_length : (a n : ℕ) → length (range_with_len a n) ≡ n
range_length a zero = refl
range_length a (suc n) = ap suc (range_length (a + 1) n)

row_short : (test : ℕ → Bool) (n : ℕ) → length (filter test (range_with_len 0 n)) ≤ n
row_short test n =
    let count = length-filter test (range_with_len 0 n) in
    let low = count_by-le-length test (range_with_len 0 n) in
    let long = range_length 0 n in
    omega arith

-- an edge that may follow is one of the graph
follows_within : (parts : GraphParts) (a : Part) → IsWithin parts a → (o : Option ℕ) (e : ℕ) → follows parts a 0 o e ≡ true → e < length parts.edges
follows_within parts a within None e h = within.edges e (and_parts (a.edge e) _ h).0
follows_within parts a within (Some k) e h =
    let one = edge_with parts (λ (x : Edge). edge_has parts (λ (y : Edge). x.target == y.source) e) k h in
    let two = edge_with parts (λ (y : Edge). one.0.target == y.source) e one.2 in
    slice_get_within parts.edges e two.0 two.1

row_length : (parts : GraphParts) (a : Part) (o : Option ℕ) → length (row_after parts a o) ≤ length parts.edges
row_length parts a None = row_short (is_first parts a) (length parts.edges)
row_length parts a (Some k) = row_short (leads_to parts k) (length parts.edges)

-- a search goes on where the lists are the same
pub at_lists : (parts : GraphParts) (ends others : List Bool) (left more : List ℕ) (s : Search) → others ≡ ends → more ≡ left → IsSearch parts ends left s → IsSearch parts others more s
at_lists parts ends others left more s a b h =
    let E : List Bool → Type 0 = λ xs. IsSearch parts xs more s in
    let L : List ℕ → Type 0 = λ xs. IsSearch parts ends xs s in
    subst E (sym a) (subst L (sym b) h)

module _ (g : Ground) (ground : IsGround g) where
  abbrev parts : GraphParts
  parts = parts_of g

  abbrev a : Part
  a = part_in g

  abbrev pub NextEdge : Walk → ℕ → Type 0
  NextEdge w e = slice_get (row_of parts a (prefix_of w)) w.place ≡ Some e

  pub edge_within : (w : Walk) (e : ℕ) → NextEdge w e → e < length parts.edges
  edge_within w e at = follows_within parts a ground.within (last_or None (prefix_of w)) e (in_row parts a g.bound (last_or None (prefix_of w)) w.place e at)

  pub place_within : (w : Walk) (e : ℕ) → NextEdge w e → w.place < length parts.edges
  place_within w e at = let low = slice_get_within (row_of parts a (prefix_of w)) w.place e at in let short = row_length parts a (last_or None (prefix_of w)) in omega arith

  pub passed : (w t : Walk) (e : ℕ) → NextEdge w e → paths_behind parts a g.bound (prefix_of w ++ e ∷ []) ≡ [] → t.steps.items ≡ w.steps.items → t.place ≡ w.place + 1 → ahead g w ≡ ahead g t
  passed w t e at none steps place =
      passed_over (paths_behind parts a g.bound) (row_of parts a) w.steps.items w.place e (slice_get_within (row_of parts a (prefix_of w)) w.place e at) (get_or_from_slice_get (row_of parts a (prefix_of w)) w.place e 0 at) none
      ∙ ap (λ xs. remaining (paths_behind parts a g.bound) (row_of parts a) xs (w.place + 1)) (sym steps)
      ∙ ap (remaining (paths_behind parts a g.bound) (row_of parts a) t.steps.items) (sym place)

  -- the nodes whose marks say so are ends
  pub end_marks : (n : ℕ) → is_end_node parts a n ≡ true → is_marked g.ends.items n ≡ true
  end_marks n h = ground.ends n (ground.within.nodes n (and_parts (a.node n) _ h).0) ∙ h

  -- an edge with no uses left is passed over
  pub passed_used : (w t : Walk) (e : ℕ) → IsWalk g w → NextEdge w e → get_or w.left.items e 0 ≡ 0 → t.steps.items ≡ w.steps.items → t.place ≡ w.place + 1 → ahead g w ≡ ahead g t
  passed_used w t e walk at none =
      let there = element_at parts.edges e (edge_within w e at) in
      passed w t e at (used_up parts a g.bound g.ends.items ground.living end_marks ground.lives g.uses.items w.left.items (prefix_of w) e there.0 ground.uses walk.uses there.1 none)

  -- how often an edge may be taken in all
  use_whole : (e : ℕ) (x : Edge) → slice_get parts.edges e ≡ Some x → 0 < get_or g.uses.items e 0 → (a.edge e ≡ true) × (get_or g.uses.items e 0 ≡ g.bound)
  use_whole e x is some = elim (cases_Bool (a.edge e && is_marked ground.living x.target)) [
    | inl useful ↦ ((and_parts (a.edge e) _ useful).0, ground.uses.each e x is ∙ ap (λ b. if b then g.bound else 0) useful)
    | inr useless ↦ let e0 : get_or g.uses.items e 0 ≡ 0 = ground.uses.each e x is ∙ ap (λ b. if b then g.bound else 0) useless in absurd (omega arith)
  ]

  use_most : (b : Bool) (most : ℕ) → (if b then most else 0) ≤ most
  use_most true most = omega arith
  use_most false most = omega arith

  whole_most : (e : ℕ) → e < length parts.edges → get_or g.uses.items e 0 ≤ g.bound
  whole_most e lt = let there = element_at parts.edges e lt in let is = ground.uses.each e there.0 there.1 in let low = use_most (a.edge e && is_marked ground.living there.0.target) g.bound in omega arith

  pub use_fits : (w : Walk) (e : ℕ) → IsWalk g w → NextEdge w e → get_or w.left.items e 0 ≤ g.bound
  use_fits w e walk at = let sum = walk.uses.each e (edge_within w e at) in let low = whole_most e (edge_within w e at) in omega arith

  -- a walk that hasn't begun
  pub unbegun : (w : Walk) → w.steps.items ≡ [] → w.left.items ≡ g.uses.items → IsSearch parts g.ends.items w.left.items w.search → IsWalk g w
  unbegun w none left search =
      let P : List Step → Type 0 = λ xs. IsPrefix parts a g.bound (edges_of xs) in
      let U : List Step → Type 0 = λ xs. AreLeft parts g.uses.items w.left.items (edges_of xs) in
      let A : List Step → Type 0 = λ xs. All (λ (s : Step). s.place < length parts.edges) xs in
      record {
        «prefix» = subst P (sym none) (record { begins = λ lt. absurd (omega arith); edges = refl; joined = refl; bounded = λ k. let e : occurrences k [] ≡ 0 = refl in omega arith });
        uses = subst U (sym none) (record { size = ap length left ∙ ground.uses.size; each = λ k low. let e : occurrences k [] ≡ 0 = refl in let same = ap (λ xs. get_or xs k 0) left in omega arith });
        places = subst A (sym none) (λ i d lt. absurd (omega arith));
        search = search;
      }

  -- ---- a step forward

  abbrev pub Taken : Walk → Walk → ℕ → Type 0
  Taken w t e = t.steps.items ≡ w.steps.items ++ record { edge = e; place = w.place } ∷ []

  longer : (w t : Walk) (e : ℕ) → Taken w t e → prefix_of t ≡ prefix_of w ++ e ∷ []
  longer w t e steps = ap edges_of steps ∙ map_push (λ (s : Step). s.edge) w.steps.items (record { edge = e; place = w.place })

  room : (w : Walk) (e : ℕ) → IsWalk g w → NextEdge w e → 0 < get_or w.left.items e 0 → (a.edge e ≡ true) × (occurrences e (prefix_of w) < g.bound)
  room w e walk at some =
      let sum = walk.uses.each e (edge_within w e at) in
      let there = element_at parts.edges e (edge_within w e at) in
      let whole = use_whole e there.0 there.1 (omega arith) in
      (whole.0, omega (arith, sum, some, whole.1))

  longer_prefix : (w : Walk) (e : ℕ) → IsWalk g w → NextEdge w e → 0 < get_or w.left.items e 0 → IsPrefix parts a g.bound (prefix_of w ++ e ∷ [])
  longer_prefix w e walk at some =
      let r = room w e walk at some in
      prefix_push parts a g.bound (prefix_of w) e walk.«prefix» (in_row parts a g.bound (last_or None (prefix_of w)) w.place e at) r.0 r.1

  taken_uses : (w : Walk) (e v : ℕ) → IsWalk g w → NextEdge w e → 0 < get_or w.left.items e 0 → v ≡ get_or w.left.items e 0 - 1 → AreLeft parts g.uses.items (set w.left.items e v) (prefix_of w ++ e ∷ [])
  taken_uses w e v walk at some is = left_push parts g.uses.items w.left.items (prefix_of w) e v walk.uses (edge_within w e at) some is

  -- a search goes on where an edge has a use less
  pub lessened : (w : Walk) (e v : ℕ) → IsWalk g w → NextEdge w e → 0 < get_or w.left.items e 0 → IsSearch parts g.ends.items (set w.left.items e v) w.search
  lessened w e v walk at some = fewer_uses parts g.ends.items w.left.items (set w.left.items e v) w.search walk.search (λ k more. elim (cases_eq k e) [
    | inl same ↦ let was = ap (λ m. get_or w.left.items m 0) same in omega arith
    | inr other ↦ let is = get_or-set_other w.left.items e k v 0 other in omega arith
  ])

  pub stepped : (w t : Walk) (e v : ℕ) (s : Search) → IsWalk g w → NextEdge w e → 0 < get_or w.left.items e 0 → v ≡ get_or w.left.items e 0 - 1 → Taken w t e → t.left.items ≡ set w.left.items e v → t.search ≡ s
      → IsSearch parts g.ends.items (set w.left.items e v) s → IsWalk g t
  stepped w t e v s walk at some is steps left same search =
      let P : List ℕ → Type 0 = λ p. IsPrefix parts a g.bound p in
      let U : List ℕ → Type 0 = λ p. AreLeft parts g.uses.items t.left.items p in
      let L : List ℕ → Type 0 = λ xs. AreLeft parts g.uses.items xs (prefix_of w ++ e ∷ []) in
      let A : List Step → Type 0 = λ xs. All (λ (s : Step). s.place < length parts.edges) xs in
      let low = place_within w e at in
      record {
        «prefix» = subst P (sym (longer w t e steps)) (longer_prefix w e walk at some);
        uses = subst U (sym (longer w t e steps)) (subst L (sym left) (taken_uses w e v walk at some is));
        places = subst A (sym steps) (All-push (λ (s : Step). s.place < length parts.edges) w.steps.items (record { edge = e; place = w.place }) walk.places low);
        search = at_lists parts g.ends.items g.ends.items (set w.left.items e v) t.left.items t.search refl left (let S : Search → Type 0 = λ u. IsSearch parts g.ends.items (set w.left.items e v) u in subst S (sym same) search);
      }

  -- what is ahead before and after a step forward
  ahead_by : (w t : Walk) (e : ℕ) (itself : List (List ℕ)) → NextEdge w e → Taken w t e → t.place ≡ 0 → own (is_path parts a g.bound) (prefix_of w ++ e ∷ []) ≡ itself → ahead g w ≡ itself ++ ahead g t
  ahead_by w t e itself at steps place is =
      let p = prefix_of w in
      let below = paths_behind parts a g.bound in
      let row = row_of parts a in
      forward below row w.steps.items (record { edge = e; place = w.place }) itself (slice_get_within (row p) w.place e at) (get_or_from_slice_get (row p) w.place e 0 at)
      (behind_row parts a g.bound (p ++ e ∷ []) ground.within ∙ ap (λ xs. xs ++ from_place below row (p ++ e ∷ []) 0) is)
      ∙ ap (λ xs. itself ++ remaining below row xs 0) (sym steps) ∙ ap (λ n. itself ++ remaining below row t.steps.items n) (sym place)

  -- the marks of nodes say whether the target of an edge is an end node
  target_end : (e node : ℕ) (b : Bool) → IsSomeAnd (slice_get parts.edges e) (λ x. x.target ≡ node) → node < length parts.nodes → is_marked g.ends.items node ≡ b → edge_has parts (λ (x : Edge). is_end_node parts a x.target) e ≡ b
  target_end e node b to low marked =
      let there = taken (λ (x : Edge). x.target ≡ node) (slice_get parts.edges e) to in
      has_by parts (λ (x : Edge). is_end_node parts a x.target) e there.0 there.1 ∙ ap (is_end_node parts a) there.2 ∙ sym (ground.ends node low) ∙ marked

  pub stepped_to_end : (w t : Walk) (e node : ℕ) → IsWalk g w → NextEdge w e → 0 < get_or w.left.items e 0 → Taken w t e → t.place ≡ 0 → IsSomeAnd (slice_get parts.edges e) (λ x. x.target ≡ node) → node < length parts.nodes
      → is_marked g.ends.items node ≡ true → ahead g w ≡ prefix_of t ∷ ahead g t
  stepped_to_end w t e node walk at some steps place to low marked =
      ahead_by w t e (prefix_of t ∷ []) at steps place
      (own_path parts a g.bound (prefix_of w) e (longer_prefix w e walk at some) (target_end e node true to low marked) ∙ ap (λ p. p ∷ []) (sym (longer w t e steps)))

  pub stepped_on : (w t : Walk) (e node : ℕ) → NextEdge w e → Taken w t e → t.place ≡ 0 → IsSomeAnd (slice_get parts.edges e) (λ x. x.target ≡ node) → node < length parts.nodes
      → is_marked g.ends.items node ≡ false → ahead g w ≡ ahead g t
  stepped_on w t e node at steps place to low marked = ahead_by w t e [] at steps place (own_none parts a g.bound (prefix_of w) e (target_end e node false to low marked))

  -- an edge from which no way leads to an end is passed over
  pub passed_barren : (w t : Walk) (e v node : ℕ) (left : List ℕ) → IsWalk g w → NextEdge w e → 0 < get_or w.left.items e 0 → v ≡ get_or w.left.items e 0 - 1 → left ≡ set w.left.items e v
      → IsSomeAnd (slice_get parts.edges e) (λ x. x.target ≡ node) → ((way : List ℕ) → is_way parts g.ends.items left node way ≡ false) → t.steps.items ≡ w.steps.items → t.place ≡ w.place + 1 → ahead g w ≡ ahead g t
  passed_barren w t e v node left walk at some is after to none =
      let U : List ℕ → Type 0 = λ xs. AreLeft parts g.uses.items xs (prefix_of w ++ e ∷ []) in
      let uses = subst U (sym after) (taken_uses w e v walk at some is) in
      let left_some : (k : ℕ) (x : Edge) → slice_get parts.edges k ≡ Some x → a.edge k ≡ true → is_marked ground.living x.target ≡ true → occurrences k (prefix_of w ++ e ∷ []) < g.bound → 0 < get_or left k 0 = λ k x there inside alive low.
      let sum = uses.each k (ground.within.edges k inside) in
      let whole : get_or g.uses.items k 0 ≡ g.bound = ground.uses.each k x there ∙ ap (λ b. if b then g.bound else 0) (and_from (a.edge k) (is_marked ground.living x.target) inside alive) in
      omega arith in
      passed w t e at (barren parts a g.bound g.ends.items ground.living end_marks ground.lives left (prefix_of w) e node left_some to none)

  -- the table of uses as it was
  pub restored : (w t : Walk) (e u v : ℕ) → IsWalk g w → NextEdge w e → v ≡ get_or w.left.items e 0 → t.left.items ≡ set (set w.left.items e u) e v → t.steps.items ≡ w.steps.items → IsSearch parts g.ends.items t.left.items t.search → IsWalk g t
  restored w t e u v walk at is left steps search =
      let same : t.left.items ≡ w.left.items = left ∙ set-set w.left.items e u v ∙ ap (set w.left.items e) is ∙ set-get_or w.left.items e 0 in
      let P : List Step → Type 0 = λ xs. IsPrefix parts a g.bound (edges_of xs) in
      let U : List Step → Type 0 = λ xs. AreLeft parts g.uses.items t.left.items (edges_of xs) in
      let L : List ℕ → Type 0 = λ xs. AreLeft parts g.uses.items xs (prefix_of w) in
      let A : List Step → Type 0 = λ xs. All (λ (s : Step). s.place < length parts.edges) xs in
      record { «prefix» = subst P (sym steps) walk.«prefix»; uses = subst U (sym steps) (subst L (sym same) walk.uses); places = subst A (sym steps) walk.places; search = search }

  -- ---- a step back

  module _ (w t : Walk) (s : Step) (walk : IsWalk g w) (steps : w.steps.items ≡ t.steps.items ++ s ∷ []) where
    shorter : prefix_of w ≡ prefix_of t ++ s.edge ∷ []
    shorter = ap edges_of steps ∙ map_push (λ (r : Step). r.edge) t.steps.items s

    whole_prefix : IsPrefix parts a g.bound (prefix_of t ++ s.edge ∷ [])
    whole_prefix = let P : List ℕ → Type 0 = λ p. IsPrefix parts a g.bound p in subst P shorter walk.«prefix»

    whole_uses : AreLeft parts g.uses.items w.left.items (prefix_of t ++ s.edge ∷ [])
    whole_uses = let U : List ℕ → Type 0 = λ p. AreLeft parts g.uses.items w.left.items p in subst U shorter walk.uses

    last_part : a.edge s.edge ≡ true
    last_part = last_in_part parts a g.bound (prefix_of t) s.edge whole_prefix

    pub last_within : s.edge < length parts.edges
    last_within = ground.within.edges s.edge last_part

    all_places : All (λ (r : Step). r.place < length parts.edges) (t.steps.items ++ s ∷ [])
    all_places = let A : List Step → Type 0 = λ xs. All (λ (r : Step). r.place < length parts.edges) xs in subst A steps walk.places

    pub last_place : s.place < length parts.edges
    last_place =
        let long = length_push t.steps.items s in
        let low = all_places (length t.steps.items) s (omega arith) in
        let is = get_or_push t.steps.items s s (length t.steps.items) refl in
        let e = ap (λ (r : Step). r.place) is in
        omega arith

    -- a use more fits
    pub use_low : get_or w.left.items s.edge 0 + 1 ≤ g.bound
    use_low =
        let sum = whole_uses.each s.edge last_within in
        let whole = whole_most s.edge last_within in
        let count = occurrences-append s.edge (prefix_of t) (s.edge ∷ []) in
        let one = occurs_first s.edge [] in
        omega arith

    pub walk_back : (v : ℕ) → v ≡ get_or w.left.items s.edge 0 + 1 → t.left.items ≡ set w.left.items s.edge v → IsSearch parts g.ends.items t.left.items t.search → IsWalk g t
    walk_back v is left search =
        let L : List ℕ → Type 0 = λ xs. AreLeft parts g.uses.items xs (prefix_of t) in
        record {
          «prefix» = prefix_pop parts a g.bound (prefix_of t) s.edge whole_prefix;
          uses = subst L (sym left) (left_pop parts g.uses.items w.left.items (prefix_of t) s.edge v whole_uses last_within is);
          places = λ i d lt. let low = all_places i d (let long = length_push t.steps.items s in omega arith) in let e = ap (λ (r : Step). r.place) (get_or_append_left t.steps.items (s ∷ []) d i lt) in omega arith;
          search = search;
        }

    pub ahead_back : length (row_of parts a (prefix_of w)) ≤ w.place → t.place ≡ s.place + 1 → ahead g w ≡ ahead g t
    ahead_back end place =
        let below = paths_behind parts a g.bound in
        let row = row_of parts a in
        let E : List Step → Type 0 = λ xs. length (row (edges_of xs)) ≤ w.place in
        ap (λ xs. remaining below row xs w.place) steps ∙ backward below row t.steps.items s w.place (subst E steps end) ∙ ap (remaining below row t.steps.items) (sym place)

  pub ahead_none : (w : Walk) → w.steps.items ≡ [] → length (row_of parts a (prefix_of w)) ≤ w.place → ahead g w ≡ []
  ahead_none w none end =
      let below = paths_behind parts a g.bound in
      let row = row_of parts a in
      let E : List Step → Type 0 = λ xs. length (row (edges_of xs)) ≤ w.place in
      ap (λ xs. remaining below row xs w.place) none ∙ nothing_left below row w.place (subst E none end)
