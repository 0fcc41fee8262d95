-- A list of paths that grows.
use Rattle.std.proofs.Common.{◌≡◌, ℕ, ◌+◌, ◌-◌, ◌<◌, ◌≤◌, Bool, true, List, [], ◌∷◌, ◌++◌, Option, Some, None, length, refl, sym, ◌∙◌, ap, subst, inl, inr, arith, append_assoc, zero-add}
use Rattle.std.specs.Prelude.{nat_le, if◌then◌else◌}
use Rattle.std.proofs.lemmas.Bool.{cases_Bool, leb-true, leb-false}
use Rattle.std.proofs.lemmas.List.{length_push}
use Rattle.std.proofs.lemmas.List.Sums.{sum_by-append, sum_by_push}
use Rattle.cfa.specs.declared.parts.GraphParts.{GraphParts}
use Rattle.filters.specs.declared.target_graph.TargetGraph.{TargetGraph}
use Rattle.filters_paths.specs.declared.ground.Ground.{Ground}
use Rattle.filters_paths.specs.declared.listing.Listing.{Listing}
use Rattle.filters_paths.specs.declared.walk.Walk.{Walk}
use Rattle.filters_paths.specs.Ground.{IsGround, parts_of, part_in}
use Rattle.filters_paths.specs.Listing.{paths_with, room_with, AreListed, IsUnderWay}
use Rattle.filters_paths.specs.Outcome.{edge_count}
use Rattle.filters_paths.specs.Paths.{paths_of}
use Rattle.filters_paths.specs.Walking.{IsAdvanced, IsWalk, ahead, prefix_of, remaining, paths_behind, row_of}
use Rattle.filters_paths.proofs.WalkLaws.{at_the_start}

edges_more : (done : List (List ℕ)) (path : List ℕ) → edge_count (done ++ path ∷ []) ≡ edge_count done + length path
edges_more done path = sum_by_push length done path

-- one more path, with the edges that there is room for or too many
listed_more : (edge_limit : ℕ) (done : List (List ℕ)) (path : List ℕ) (room : Option ℕ) (paths : List (List ℕ)) → AreListed edge_limit done room paths
    → AreListed edge_limit (done ++ path ∷ []) (room_with room path) (paths_with room paths path)
listed_more edge_limit done path None paths h = let e = edges_more done path in omega arith
listed_more edge_limit done path (Some room) paths h = elim (cases_Bool (nat_le (length path) room)) [
  | inl fits ↦
      let low = leb-true (length path) room fits in
      let e = edges_more done path in
      let T : Bool → Type 0 = λ b. AreListed edge_limit (done ++ path ∷ []) (if b then Some (room - length path) else None) (if b then paths ++ path ∷ [] else paths) in
      let sum : edge_count (done ++ path ∷ []) + (room - length path) ≡ edge_limit = omega (arith, e, low, h.1) in
      subst T (sym fits) (ap (λ xs. xs ++ path ∷ []) h.0, sum)
  | inr over ↦
      let high = leb-false (length path) room over in
      let e = edges_more done path in
      let T : Bool → Type 0 = λ b. AreListed edge_limit (done ++ path ∷ []) (if b then Some (room - length path) else None) (if b then paths ++ path ∷ [] else paths) in
      let many : edge_limit < edge_count (done ++ path ∷ []) = omega (arith, e, high, h.1) in
      subst T (sym over) many
]

pub under_way_more : (g : Ground) (all : List (List ℕ)) (edge_limit count : ℕ) (w t : Walk) (l m : Listing) → IsUnderWay g all edge_limit count w l → IsWalk g t → ahead g w ≡ prefix_of t ∷ ahead g t
    → m.paths ≡ paths_with l.room l.paths (prefix_of t) → m.room ≡ room_with l.room (prefix_of t) → IsUnderWay g all edge_limit (count + 1) t m
under_way_more g all edge_limit count w t l m h walk next paths room =
    let p = prefix_of t in
    let R : Option ℕ → Type 0 = λ r. AreListed edge_limit (h.done ++ p ∷ []) r m.paths in
    let P : List (List ℕ) → Type 0 = λ xs. AreListed edge_limit (h.done ++ p ∷ []) (room_with l.room p) xs in
    record {
      walk = walk;
      done = h.done ++ p ∷ [];
      whole = append_assoc h.done (p ∷ []) (ahead g t) ∙ ap (λ xs. h.done ++ xs) (sym next) ∙ h.whole;
      size = length_push h.done p ∙ ap (λ n. n + 1) h.size;
      kept = subst R (sym room) (subst P (sym paths) (listed_more edge_limit h.done p l.room l.paths h.kept));
    }

-- the edges of the paths that are done are too many, whatever is ahead
pub told_early : (g : Ground) (all : List (List ℕ)) (edge_limit count : ℕ) (w : Walk) (l : Listing) → IsUnderWay g all edge_limit count w l → l.room ≡ None → edge_limit < edge_count all
told_early g all edge_limit count w l h none =
    let K : Option ℕ → Type 0 = λ r. AreListed edge_limit h.done r l.paths in
    let over : edge_limit < edge_count h.done = subst K none h.kept in
    let whole = ap edge_count h.whole in
    let parted = sum_by-append length h.done (ahead g w) in
    omega arith

-- of so few paths, those of the arguments
pub few_of : (g : Ground) (parts : GraphParts) (target : TargetGraph) (k limit : ℕ) → parts_of g ≡ parts → g.target.now ≡ target → g.bound ≡ k → length (paths_of (parts_of g) g.target.now g.bound) ≤ limit → length (paths_of parts target k) ≤ limit
few_of g parts target k limit graph part bound low =
    let same : paths_of (parts_of g) g.target.now g.bound ≡ paths_of parts target k = (λ i. paths_of (graph i) (part i) (bound i)) in
    let long = ap length same in
    omega arith

-- the walk begins with all paths ahead
pub begun : (g : Ground) (parts : GraphParts) (target : TargetGraph) (k edge_limit : ℕ) (w : Walk) (l : Listing) → IsGround g → parts_of g ≡ parts → g.target.now ≡ target → g.bound ≡ k → IsWalk g w → w.steps.items ≡ [] → w.place ≡ 0
    → l.room ≡ Some edge_limit → l.paths ≡ [] → IsUnderWay g (paths_of parts target k) edge_limit 0 w l
begun g parts target k edge_limit w l ground graph part bound walk steps place room none =
    let below = paths_behind (parts_of g) (part_in g) g.bound in
    let row = row_of (parts_of g) (part_in g) in
    let R : Option ℕ → Type 0 = λ r. AreListed edge_limit [] r l.paths in
    let own : paths_of (parts_of g) g.target.now g.bound ≡ paths_of parts target k = (λ i. paths_of (graph i) (part i) (bound i)) in
    record {
      walk = walk;
      done = [];
      whole = ap (λ xs. remaining below row xs w.place) steps ∙ ap (remaining below row []) place ∙ at_the_start (parts_of g) (part_in g) g.bound ground.within ∙ own;
      size = refl;
      kept = subst R (sym room) (none, zero-add edge_limit);
    }

-- what a step to the next path leaves ahead
pub one_ahead : (before after : List (List ℕ)) (path : List ℕ) (found : Bool) → IsAdvanced before found path after → found ≡ true → before ≡ path ∷ after
one_ahead before after path found h is = h ∙ ap (λ b. if b then path ∷ after else []) is
