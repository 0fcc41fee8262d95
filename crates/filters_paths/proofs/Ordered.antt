-- The list of paths: it rises, and holds exactly the paths.
use Rattle.std.proofs.Common.{◌≡◌, ℕ, zero, suc, ◌+◌, ◌*◌, ◌≤◌, ◌<◌, Bool, true, List, [], ◌∷◌, length, map, refl, subst, inl, inr, arith}
use Rattle.std.specs.List.{flat_map, range_with_len, list_all}
use Rattle.std.specs.List.Sorted.{IsStrictlySortedBy}
use Rattle.std.specs.declared.cmp.Ordering.TheVariants.{Less}
use Rattle.std.proofs.lemmas.Bool.{and_parts}
use Rattle.std.proofs.lemmas.List.Kept.{IsStrictlySortedBy-filter}
use Rattle.cfa.specs.declared.parts.GraphParts.{GraphParts}
use Rattle.filters.specs.declared.target_graph.TargetGraph.{TargetGraph}
use Rattle.filters.specs.Parts.{IsWithin, part_of}
use Rattle.filters_paths.specs.Laws.{PathsRise, OneList}
use Rattle.filters_paths.specs.Paths.{is_path, ordered_lists, paths_of}
use Rattle.filters_paths.proofs.Members.{In, in_from_Contains, Contains-from_in, in_map, map_in, in_flat_map, flat_map_in, in_range, range_in, in_filter, filter_in, all_from_in, before, Rises, rises-append, lower_first, rises-map, same_list}
use Rattle.filters_paths.proofs.Prefixes.{path_parts, not_longer}

-- ---- the ordered lists

behind_first : (limit most first : ℕ) (x : List ℕ) → In x (map (λ rest. first ∷ rest) (ordered_lists limit most)) → (rest : List ℕ) × (first ∷ rest ≡ x)
behind_first limit most first x h = let there = map_in (λ rest. first ∷ rest) x (ordered_lists limit most) h in (there.0, there.2)

pieces_rise : (limit most a n : ℕ) → Rises (ordered_lists limit most) → Rises (flat_map (λ first. map (λ rest. first ∷ rest) (ordered_lists limit most)) (range_with_len a n))
unfolding IsStrictlySortedBy
pieces_rise limit most a zero rise = tt
pieces_rise limit most a (suc n) rise =
    rises-append (map (λ rest. a ∷ rest) (ordered_lists limit most)) (flat_map (λ first. map (λ rest. first ∷ rest) (ordered_lists limit most)) (range_with_len (a + 1) n))
    (rises-map a (ordered_lists limit most) rise) (pieces_rise limit most (a + 1) n rise)
    (λ x y h k.
    let there = flat_map_in (λ first. map (λ rest. first ∷ rest) (ordered_lists limit most)) y (range_with_len (a + 1) n) k in
    let front = behind_first limit most a x h in
    let back = behind_first limit most there.0 y there.2 in
    let low = range_in there.0 (a + 1) n there.1 in
    let P : List ℕ → Type 0 = λ z. before z y ≡ Less in
    let Q : List ℕ → Type 0 = λ z. before (a ∷ front.0) z ≡ Less in
    subst P front.1 (subst Q back.1 (lower_first a there.0 front.0 back.0 (omega arith))))

no_empty : (limit most : ℕ) (x : List ℕ) (numbers : List ℕ) → In x (flat_map (λ first. map (λ rest. first ∷ rest) (ordered_lists limit most)) numbers) → before [] x ≡ Less
no_empty limit most x numbers h =
    let there = flat_map_in (λ first. map (λ rest. first ∷ rest) (ordered_lists limit most)) x numbers h in
    let front = behind_first limit most there.0 x there.2 in
    let P : List ℕ → Type 0 = λ z. before [] z ≡ Less in
    subst P front.1 refl

lists_rise : (limit most : ℕ) → Rises (ordered_lists limit most)
unfolding ordered_lists IsStrictlySortedBy
lists_rise limit zero = (tt, tt)
lists_rise limit (suc most) = (
  all_from_in (λ x. before [] x ≡ Less) (flat_map (λ first. map (λ rest. first ∷ rest) (ordered_lists limit most)) (range_with_len 0 limit)) (λ x h. no_empty limit most x (range_with_len 0 limit) h),
  pieces_rise limit most 0 limit (lists_rise limit most),
)

all_lists : (limit most : ℕ) (test : ℕ → Bool) → ((k : ℕ) → test k ≡ true → k < limit) → (p : List ℕ) → length p ≤ most → list_all test p ≡ true → In p (ordered_lists limit most)
unfolding ordered_lists
all_lists limit zero test low [] short all = inl refl
all_lists limit zero test low (k ∷ p) short all = absurd (omega arith)
all_lists limit (suc most) test low [] short all = inl refl
all_lists limit (suc most) test low (k ∷ p) short all =
    let both = and_parts (test k) (list_all test p) all in
    let under = low k both.0 in
    inr (in_flat_map (λ first. map (λ rest. first ∷ rest) (ordered_lists limit most)) k (k ∷ p) (range_with_len 0 limit) (in_range k 0 limit (omega arith) (omega arith))
    (in_map (λ rest. k ∷ rest) p (ordered_lists limit most) (all_lists limit most test low p (omega arith) both.1)))

-- ---- the list of paths

holds_path : (parts : GraphParts) (target : TargetGraph) (k : ℕ) → IsWithin parts (part_of target) → (path : List ℕ) → is_path parts (part_of target) k path ≡ true → In path (paths_of parts target k)
holds_path parts target k within path h =
    let it = path_parts parts (part_of target) k path h in
    let short = not_longer (length parts.edges) k (part_of target).edge path within.edges it.edges it.bounded in
    in_filter (is_path parts (part_of target) k) path (ordered_lists (length parts.edges) (k * length parts.edges))
    (all_lists (length parts.edges) (k * length parts.edges) (part_of target).edge within.edges path short it.edges) h

pub paths_rise : PathsRise
paths_rise parts target k within = record {
  rise = IsStrictlySortedBy-filter before (is_path parts (part_of target) k) (ordered_lists (length parts.edges) (k * length parts.edges)) (lists_rise (length parts.edges) (k * length parts.edges));
  each = λ path. (
    λ has. (filter_in (is_path parts (part_of target) k) path (ordered_lists (length parts.edges) (k * length parts.edges)) (in_from_Contains path (paths_of parts target k) has)).1,
    λ is. Contains-from_in path (paths_of parts target k) (holds_path parts target k within path is),
  );
}

pub one_list : OneList
one_list parts a k one other first second =
    same_list one other first.rise second.rise
    (λ x h. in_from_Contains x other ((second.each x).1 ((first.each x).0 (Contains-from_in x one h))))
    (λ x h. in_from_Contains x one ((first.each x).1 ((second.each x).0 (Contains-from_in x other h))))
