-- What totals say of how many paths there are.
use Rattle.std.proofs.Common.{◌≡◌, ℕ, zero, suc, ◌+◌, ◌-◌, ◌*◌, ◌^◌, ◌≤◌, ◌<◌, ◌==◌, Bool, true, false, cond, List, [], ◌∷◌, ◌++◌, None, Some, length, get_or, min, inl, inr, refl, sym, ◌∙◌, ap, subst, arith, length-append}
use Rattle.std.specs.Prelude.{slice_get, if◌then◌else◌}
use Rattle.std.specs.List.{flat_map, last_or, list_all, sum_by}
use Rattle.std.specs.Option.{option_map_or}
use Rattle.std.proofs.lemmas.Bool.{and_parts, both_ways, cases_Bool, cases_lt, eqb-true, false_from_ne_true}
use Rattle.std.proofs.lemmas.List.{length_push}
use Rattle.std.proofs.lemmas.List.Sums.{sum_by-cons}
use Rattle.std.proofs.lemmas.Option.{get_or_from_slice_get}
use Rattle.std.proofs.lemmas.List.Folds.{list_all-append}
use Rattle.cfa.proofs.Eaches.{element_at}
use Rattle.cfa.proofs.Exits.{given}
use Rattle.cfa.specs.declared.parts.Edge.{Edge}
use Rattle.cfa.specs.declared.parts.GraphParts.{GraphParts}
use Rattle.cfa.specs.Table.{outgoing_of}
use Rattle.filters.specs.Parts.{Part, is_marked}
use Rattle.filters_paths.specs.declared.ground.Ground.{Ground}
use Rattle.filters_paths.specs.Ground.{IsGround, parts_of, part_in, first_edges}
use Rattle.filters_paths.specs.Paths.{is_end_node, is_path, paths_of}
use Rattle.filters_paths.specs.Totals.{AreTotals, by_edge, total_at}
use Rattle.filters_paths.specs.Walking.{paths_behind, from_place, row_after, row_of}
use Rattle.filters_paths.proofs.Extensions.{own}
use Rattle.filters_paths.proofs.Prefixes.{has_by, path_parts, short_path}
use Rattle.filters_paths.proofs.Rows.{row_is}
use Rattle.filters_paths.proofs.WalkLaws.{behind_row, in_row, last_push, never_taken, none_by, own_none, whole_behind}
use Rattle.filters_paths.proofs.Walks.{end_marks}

-- lists that are no longer than numbers say, joined
sums : {A : Type 0} (f : ℕ → List A) (g : ℕ → ℕ) (ceiling : ℕ) (xs : List ℕ) → ((k : ℕ) → g k < ceiling → length (f k) ≤ g k) → sum_by g xs < ceiling → length (flat_map f xs) ≤ sum_by g xs
sums f g ceiling [] each low = omega arith
sums f g ceiling (x ∷ xs) each low =
    let split = sum_by-cons g x xs in
    let first = each x (omega arith) in
    let rest = sums f g ceiling xs each (omega arith) in
    let long = length-append (f x) (flat_map f xs) in
    omega arith

own_most : (test : List ℕ → Bool) (q : List ℕ) (b : Bool) → test q ≡ b → length (own test q) ≤ 1
own_most test q true h = let e = ap (λ t. length (cond t (q ∷ []) [])) h in omega arith
own_most test q false h = let e = ap (λ t. length (cond t (q ∷ []) [])) h in omega arith

-- an edge by which paths begin is one of the graph
pub first_within : (g : Ground) → IsGround g → (i : ℕ) → i < length g.firsts.items → get_or g.firsts.items i 0 < length (parts_of g).edges
first_within g ground i lt =
    let there = element_at g.firsts.items i lt in
    let at : slice_get (first_edges (parts_of g) (part_in g)) i ≡ Some there.0 = ap (λ xs. slice_get xs i) (sym ground.firsts) ∙ there.1 in
    let passes = in_row (parts_of g) (part_in g) g.bound None i there.0 at in
    let low = ground.within.edges there.0 (and_parts ((part_in g).edge there.0) _ passes).0 in
    let is = get_or_from_slice_get g.firsts.items i there.0 0 there.1 in
    omega arith

module _ (g : Ground) (ground : IsGround g) (targets : (k : ℕ) (x : Edge) → slice_get (parts_of g).edges k ≡ Some x → x.target < length (parts_of g).nodes)
    (totals : List ℕ) (are : AreTotals (parts_of g) g.ends.items g.uses.items totals) where
  abbrev parts : GraphParts
  parts = parts_of g

  abbrev a : Part
  a = part_in g

  abbrev below : List ℕ → List (List ℕ)
  below = paths_behind parts a g.bound

  abbrev most : ℕ → ℕ
  most = by_edge parts g.uses.items totals

  too_far : (q : List ℕ) → g.bound * length parts.edges < length q → below q ≡ []
  too_far q far = none_by parts a g.bound q (λ rest h. both_ways (is_path parts a g.bound (q ++ rest)) (short_path parts a g.bound (q ++ rest) ground.within (let long = length-append q rest in omega arith)) h)

  outside : (p : List ℕ) (e : ℕ) → length parts.edges ≤ e → below (p ++ e ∷ []) ≡ []
  outside p e far = none_by parts a g.bound (p ++ e ∷ []) (λ rest h.
      let it = path_parts parts a g.bound ((p ++ e ∷ []) ++ rest) h in
      let front = (and_parts (list_all a.edge (p ++ e ∷ [])) (list_all a.edge rest) (sym (list_all-append a.edge (p ++ e ∷ []) rest) ∙ it.edges)).0 in
      let last = (and_parts (list_all a.edge p) (list_all a.edge (e ∷ [])) (sym (list_all-append a.edge p (e ∷ [])) ∙ front)).1 in
      let low = ground.within.edges e (and_parts (a.edge e) true last).0 in
      omega arith)

  -- what a path that ends by an edge adds
  own_low : (p : List ℕ) (e : ℕ) (x : Edge) → slice_get parts.edges e ≡ Some x → length (own (is_path parts a g.bound) (p ++ e ∷ [])) ≤ (if is_marked g.ends.items x.target then 1 else 0)
  own_low p e x is = elim (cases_Bool (is_marked g.ends.items x.target)) [
    | inl marked ↦
        let T : Bool → Type 0 = λ b. length (own (is_path parts a g.bound) (p ++ e ∷ [])) ≤ (if b then 1 else 0) in
        subst T (sym marked) (own_most (is_path parts a g.bound) (p ++ e ∷ []) _ refl)
    | inr unmarked ↦
        let inner = false_from_ne_true (is_end_node parts a x.target) (λ h. both_ways (is_marked g.ends.items x.target) unmarked (end_marks g ground x.target h)) in
        let none = ap length (own_none parts a g.bound p e (has_by parts (λ (y : Edge). is_end_node parts a y.target) e x is ∙ inner)) in
        omega arith
  ]

  by_target : (e : ℕ) (x : Edge) → slice_get parts.edges e ≡ Some x → (get_or g.uses.items e 0 == 0) ≡ false → most e ≡ get_or totals x.target 0
  by_target e x is some =
      ap (λ b. if b then 0 else option_map_or (λ (y : Edge). get_or totals y.target 0) (slice_get parts.edges e) 0) some
      ∙ ap (λ o. option_map_or (λ (y : Edge). get_or totals y.target 0) o 0) is

  -- the paths that go on by the edges of a row
  row_behind_edge : (p : List ℕ) (e : ℕ) (x : Edge) → slice_get parts.edges e ≡ Some x
      → below (p ++ e ∷ []) ≡ own (is_path parts a g.bound) (p ++ e ∷ []) ++ flat_map (λ k. below ((p ++ e ∷ []) ++ k ∷ [])) (outgoing_of parts x.target)
  unfolding from_place
  row_behind_edge p e x is =
      let row : row_of parts a (p ++ e ∷ []) ≡ outgoing_of parts x.target = ap (row_after parts a) (last_push None p e) ∙ sym (row_is parts e x.target (given (λ (y : Edge). y.target ≡ x.target) (slice_get parts.edges e) x is refl)) in
      behind_row parts a g.bound (p ++ e ∷ []) ground.within
      ∙ ap (λ ks. own (is_path parts a g.bound) (p ++ e ∷ []) ++ flat_map (λ k. below ((p ++ e ∷ []) ++ k ∷ [])) ks) row

  -- at most so many paths begin with a prefix that ends by an edge
  counted : (fuel : ℕ) (p : List ℕ) (e : ℕ) → g.bound * length parts.edges < length p + 1 + fuel → most e < 2 ^ 32 → length (below (p ++ e ∷ [])) ≤ most e
  counted zero p e far low =
      let long = length_push p e in
      let none = ap length (too_far (p ++ e ∷ []) (omega arith)) in
      omega arith
  counted (suc fuel) p e far low = elim (cases_lt e (length parts.edges)) [
    | inr ge ↦ let none = ap length (outside p e ge) in omega arith
    | inl lt ↦
        let there = element_at parts.edges e lt in
        let x = there.0 in
        elim (cases_Bool (get_or g.uses.items e 0 == 0)) [
          | inl unused ↦
              let none = ap length (never_taken parts a g.bound g.ends.items ground.living (end_marks g ground) ground.lives g.uses.items p e x ground.uses there.1 (eqb-true (get_or g.uses.items e 0) 0 unused)) in
              omega arith
          | inr some ↦
              let by = by_target e x there.1 some in
              let total = are x.target (targets e x there.1) (omega arith) in
              let itself = own_low p e x there.1 in
              let long = length_push p e in
              let rest = sums (λ k. below ((p ++ e ∷ []) ++ k ∷ [])) most (2 ^ 32) (outgoing_of parts x.target) (λ k lower. counted fuel (p ++ e ∷ []) k (omega arith) lower) (omega arith) in
              let whole = ap length (row_behind_edge p e x there.1) in
              let parted = length-append (own (is_path parts a g.bound) (p ++ e ∷ [])) (flat_map (λ k. below ((p ++ e ∷ []) ++ k ∷ [])) (outgoing_of parts x.target)) in
              omega arith
        ]
  ]

  from_firsts : paths_of parts g.target.now g.bound ≡ flat_map (λ e. below ([] ++ e ∷ [])) g.firsts.items
  unfolding from_place
  from_firsts = sym (whole_behind parts a g.bound) ∙ behind_row parts a g.bound [] ground.within ∙ ap (flat_map (λ e. below ([] ++ e ∷ []))) (sym ground.firsts)

  -- at most so many paths there are
  pub few : (limit : ℕ) → limit < 2 ^ 32 → min (sum_by most g.firsts.items) (2 ^ 64 - 1) ≤ limit → length (paths_of parts g.target.now g.bound) ≤ limit
  few limit small low =
      let all = ap length from_firsts in
      let bound = sums (λ e. below ([] ++ e ∷ [])) most (2 ^ 32) g.firsts.items (λ e lower. counted (g.bound * length parts.edges) [] e (let none : length {A = ℕ} [] ≡ 0 = refl in omega arith) lower) (omega arith) in
      omega arith
