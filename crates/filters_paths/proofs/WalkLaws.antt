-- Prefixes of paths, and what lies behind them.
use Rattle.std.proofs.Common.{◌≡◌, ℕ, ◌+◌, ◌-◌, ◌*◌, ◌≤◌, ◌<◌, ◌&&◌, ◌==◌, Bool, true, false, cond, List, [], ◌∷◌, ◌++◌, Option, Some, None, length, get_or, set, refl, sym, ◌∙◌, ap, subst, inl, inr, arith, eq-eqb, append_assoc, get_or-set_same, get_or-set_other}
use Rattle.std.specs.Prelude.{slice_get, if◌then◌else◌}
use Rattle.std.specs.Option.{IsSomeAnd}
use Rattle.std.specs.List.{filter, flat_map, last_or, list_all, range_with_len}
use Rattle.std.proofs.Math.ListN.{length-set}
use Rattle.std.proofs.lemmas.Bool.{and_parts, and_from, cases_eq, both_ways, lt-ltb, eqb-true, false_from_ne_true}
use Rattle.std.proofs.lemmas.List.{append-nil, length_push, map-id}
use Rattle.std.proofs.lemmas.List.Folds.{list_all-append}
use Rattle.std.proofs.lemmas.Option.{slice_get_within}
use Rattle.cfa.proofs.Exits.{taken}
use Rattle.cfa.specs.declared.parts.Edge.{Edge}
use Rattle.cfa.specs.declared.parts.GraphParts.{GraphParts}
use Rattle.filters.specs.Parts.{Part, IsWithin, edge_has, is_marked}
use Rattle.filters_paths.specs.Ground.{is_first}
use Rattle.filters_paths.specs.Paths.{is_end_node, begins_at_start, leads_to, occurrences, is_path, ordered_lists}
use Rattle.filters_paths.specs.Searching.{is_way}
use Rattle.filters_paths.specs.Uses.{AreLiving, AreUses, AreLeft}
use Rattle.filters_paths.specs.Walking.{extensions, behind, paths_behind, from_place, later, remaining, row_after, row_of, IsPrefix}
use Rattle.filters_paths.proofs.Extensions.{own, none_behind, behind_is}
use Rattle.filters_paths.proofs.Lists.{flat_map-filter}
use Rattle.filters_paths.proofs.Prefixes.{edge_with, has_by, last_or-append, chained, chained-append, joined_is, ends_by, occurrences-append, occurs_first, occurs_later, PathParts, path_parts, path_from, short_path}
use Rattle.filters_paths.proofs.Rows.{passes_at}

pub last_push : (o : Option ℕ) (p : List ℕ) (e : ℕ) → last_or o (p ++ e ∷ []) ≡ Some e
last_push o p e = last_or-append o p (e ∷ [])

module _ (parts : GraphParts) (a : Part) (most : ℕ) where
  -- ---- a longer and a shorter prefix

  -- an edge may follow another, or begin a path
  abbrev pub follows : Option ℕ → ℕ → Bool
  follows None e = is_first parts a e
  follows (Some k) e = leads_to parts k e

  row_follows : (o : Option ℕ) → row_after parts a o ≡ filter (follows o) (range_with_len 0 (length parts.edges))
  row_follows None = refl
  row_follows (Some k) = refl

  pub in_row : (o : Option ℕ) (i e : ℕ) → slice_get (row_after parts a o) i ≡ Some e → follows o e ≡ true
  in_row o i e h = passes_at (follows o) (range_with_len 0 (length parts.edges)) i e (sym (ap (λ xs. slice_get xs i) (row_follows o)) ∙ h)

  begins_more : (p : List ℕ) (e : ℕ) → (0 < length p → begins_at_start parts a p ≡ true) → follows (last_or None p) e ≡ true → begins_at_start parts a (p ++ e ∷ []) ≡ true
  begins_more [] e h f = (and_parts (a.edge e) _ f).1
  begins_more (k ∷ p) e h f = h (omega arith)

  chained_more : (o : Option ℕ) (e : ℕ) → follows o e ≡ true → chained parts o (e ∷ []) ≡ true
  chained_more None e f = refl
  chained_more (Some k) e f = and_from _ _ f refl

  occurs_push : (k e : ℕ) (p : List ℕ) → occurrences k p ≤ most → occurrences e p < most → occurrences k (p ++ e ∷ []) ≤ most
  occurs_push k e p low room =
      let both = occurrences-append k p (e ∷ []) in
      elim (cases_eq e k) [
        | inl same ↦ let one = ap (λ m. occurrences m (e ∷ [])) (sym same) ∙ occurs_first e [] in let r = ap (λ m. occurrences m p) same in omega arith
        | inr other ↦ let none = occurs_later k e [] other in omega arith
      ]

  pub prefix_push : (p : List ℕ) (e : ℕ) → IsPrefix parts a most p → follows (last_or None p) e ≡ true → a.edge e ≡ true → occurrences e p < most → IsPrefix parts a most (p ++ e ∷ [])
  prefix_push p e h f edge room = record {
    begins = λ _. begins_more p e h.begins f;
    edges = list_all-append a.edge p (e ∷ []) ∙ and_from _ _ h.edges (and_from _ _ edge refl);
    joined = joined_is parts (p ++ e ∷ []) ∙ chained-append parts None p (e ∷ []) ∙ and_from _ _ (sym (joined_is parts p) ∙ h.joined) (chained_more (last_or None p) e f);
    bounded = λ k. occurs_push k e p (h.bounded k) room;
  }

  begins_less : (p : List ℕ) (e : ℕ) → (0 < length (p ++ e ∷ []) → begins_at_start parts a (p ++ e ∷ []) ≡ true) → 0 < length p → begins_at_start parts a p ≡ true
  begins_less [] e h lt = absurd (omega arith)
  begins_less (k ∷ p) e h lt = h (omega arith)

  pub prefix_pop : (p : List ℕ) (e : ℕ) → IsPrefix parts a most (p ++ e ∷ []) → IsPrefix parts a most p
  prefix_pop p e h = record {
    begins = begins_less p e h.begins;
    edges = (and_parts _ _ (sym (list_all-append a.edge p (e ∷ [])) ∙ h.edges)).0;
    joined = joined_is parts p ∙ (and_parts _ _ (sym (chained-append parts None p (e ∷ [])) ∙ sym (joined_is parts (p ++ e ∷ [])) ∙ h.joined)).0;
    bounded = λ k. let b = h.bounded k in let s = occurrences-append k p (e ∷ []) in omega arith;
  }

  pub last_in_part : (p : List ℕ) (e : ℕ) → IsPrefix parts a most (p ++ e ∷ []) → a.edge e ≡ true
  last_in_part p e h = (and_parts (a.edge e) true (and_parts _ _ (sym (list_all-append a.edge p (e ∷ [])) ∙ h.edges)).1).0

  -- ---- what no path begins with

  pub none_by : (p : List ℕ) → ((rest : List ℕ) → is_path parts a most (p ++ rest) ≡ true → ⊥) → paths_behind parts a most p ≡ []
  unfolding behind
  none_by p h = none_behind (length parts.edges) (is_path parts a most) (most * length parts.edges - length p) p (λ rest. false_from_ne_true (is_path parts a most (p ++ rest)) (h rest))

  -- the parts of a path that goes on after a prefix by an edge
  goes_on : (p : List ℕ) (e : ℕ) (rest : List ℕ) → is_path parts a most ((p ++ e ∷ []) ++ rest) ≡ true → PathParts parts a most (p ++ (e ∷ rest))
  goes_on p e rest h = path_parts parts a most (p ++ (e ∷ rest)) (ap (is_path parts a most) (sym (append_assoc p (e ∷ []) rest)) ∙ h)

  chained_tail : (o : Option ℕ) (e : ℕ) (rest : List ℕ) → chained parts o (e ∷ rest) ≡ true → chained parts (Some e) rest ≡ true
  chained_tail None e rest h = h
  chained_tail (Some k) e rest h = (and_parts (leads_to parts k e) (chained parts (Some e) rest) h).1

  follows_chain : (o : Option ℕ) (p : List ℕ) (e : ℕ) (rest : List ℕ) → last_or None p ≡ o → PathParts parts a most (p ++ (e ∷ rest)) → follows o e ≡ true
  follows_chain None [] e rest is it = and_from _ _ (and_parts (a.edge e) _ it.edges).0 it.begins
  follows_chain None (k ∷ p) e rest is it = absurd (some_last k p is)
    where
      some_last : (k : ℕ) (p : List ℕ) → last_or (Some k) p ≡ None → ⊥
      some_last k [] h = absurd (cc)
      some_last k (l ∷ p) h = some_last l p h
  follows_chain (Some k) p e rest is it =
      let both = and_parts _ _ (sym (chained-append parts None p (e ∷ rest)) ∙ it.joined) in
      (and_parts (leads_to parts k e) _ (ap (λ o. chained parts o (e ∷ rest)) (sym is) ∙ both.1)).0

  -- an edge that isn't in the row
  not_in_row : (p : List ℕ) (e : ℕ) → follows (last_or None p) e ≡ false → paths_behind parts a most (p ++ e ∷ []) ≡ []
  not_in_row p e out = none_by (p ++ e ∷ []) (λ rest h. both_ways (follows (last_or None p) e) out (follows_chain (last_or None p) p e rest refl (goes_on p e rest h)))

  -- the paths behind a prefix: itself, if it is one, and those that go on by the row
  pub behind_row : (p : List ℕ) → IsWithin parts a → paths_behind parts a most p ≡ own (is_path parts a most) p ++ from_place (paths_behind parts a most) (row_of parts a) p 0
  unfolding from_place
  behind_row p within =
      behind_is (length parts.edges) (is_path parts a most) (most * length parts.edges) p (λ q long. short_path parts a most q within long)
      ∙ ap (λ xs. own (is_path parts a most) p ++ xs)
      (flat_map-filter (λ e. paths_behind parts a most (p ++ e ∷ [])) (follows (last_or None p)) (not_in_row p) (range_with_len 0 (length parts.edges))
      ∙ ap (flat_map (λ e. paths_behind parts a most (p ++ e ∷ []))) (sym (row_follows (last_or None p))))

  own_by : (p : List ℕ) (b : Bool) → is_path parts a most p ≡ b → own (is_path parts a most) p ≡ cond b (p ∷ []) []
  own_by p b h = ap (λ t. cond t (p ∷ []) []) h

  -- a prefix whose last edge leads to an end node is a path, and else none
  pub own_path : (p : List ℕ) (e : ℕ) → IsPrefix parts a most (p ++ e ∷ []) → edge_has parts (λ (x : Edge). is_end_node parts a x.target) e ≡ true → own (is_path parts a most) (p ++ e ∷ []) ≡ (p ++ e ∷ []) ∷ []
  own_path p e h at_end = own_by (p ++ e ∷ []) true (path_from parts a most (p ++ e ∷ []) (record {
    begins = h.begins (let long = length_push p e in omega arith);
    edges = h.edges;
    joined = sym (joined_is parts (p ++ e ∷ [])) ∙ h.joined;
    bounded = h.bounded;
    ends = ap (ends_by parts a) (last_push None p e) ∙ at_end;
  }))

  pub own_none : (p : List ℕ) (e : ℕ) → edge_has parts (λ (x : Edge). is_end_node parts a x.target) e ≡ false → own (is_path parts a most) (p ++ e ∷ []) ≡ []
  own_none p e out = own_by (p ++ e ∷ []) false (false_from_ne_true (is_path parts a most (p ++ e ∷ [])) (λ h.
      both_ways _ out (sym (ap (ends_by parts a) (last_push None p e)) ∙ (path_parts parts a most (p ++ e ∷ []) h).ends)))

  -- ---- ways to an end

  module _ (ends living : List Bool) (marks : (n : ℕ) → is_end_node parts a n ≡ true → is_marked ends n ≡ true) (lives : AreLiving parts a ends living) where
    -- what leads to an end node is marked
    alive : (k : ℕ) (x : Edge) (rest : List ℕ) → slice_get parts.edges k ≡ Some x → chained parts (Some k) rest ≡ true → list_all a.edge rest ≡ true → ends_by parts a (last_or (Some k) rest) ≡ true → is_marked living x.target ≡ true
    alive k x [] is joined edges at_end = lives.at_end x.target (marks x.target (sym (has_by parts (λ (e : Edge). is_end_node parts a e.target) k x is) ∙ at_end))
    alive k x (l ∷ rest) is joined edges at_end =
        let chain = and_parts (leads_to parts k l) (chained parts (Some l) rest) joined in
        let inside = and_parts (a.edge l) (list_all a.edge rest) edges in
        let there = edge_with parts (λ (f : Edge). x.target == f.source) l (sym (has_by parts (λ (e : Edge). edge_has parts (λ (f : Edge). e.target == f.source) l) k x is) ∙ chain.0) in
        let y = there.0 in
        let on = alive l y rest there.1 chain.1 inside.1 at_end in
        ap (is_marked living) (eqb-true x.target y.source there.2) ∙ lives.back l y there.1 inside.0 on

    -- the target of an edge by which a path goes on after a prefix is marked
    pub alive_behind : (p : List ℕ) (e : ℕ) (x : Edge) (rest : List ℕ) → slice_get parts.edges e ≡ Some x → PathParts parts a most (p ++ (e ∷ rest)) → is_marked living x.target ≡ true
    alive_behind p e x rest is it =
        let edges = (and_parts (list_all a.edge p) (list_all a.edge (e ∷ rest)) (sym (list_all-append a.edge p (e ∷ rest)) ∙ it.edges)).1 in
        let joined = (and_parts (chained parts None p) (chained parts (last_or None p) (e ∷ rest)) (sym (chained-append parts None p (e ∷ rest)) ∙ it.joined)).1 in
        let at_end = ap (ends_by parts a) (sym (last_or-append None p (e ∷ rest))) ∙ it.ends in
        alive e x rest is (chained_tail (last_or None p) e rest joined) (and_parts (a.edge e) (list_all a.edge rest) edges).1 at_end

    module _ (left : List ℕ) (p : List ℕ) (uses : (k : ℕ) (x : Edge) → slice_get parts.edges k ≡ Some x → a.edge k ≡ true → is_marked living x.target ≡ true → occurrences k p < most → 0 < get_or left k 0) where
      way_on : (k : ℕ) (x : Edge) (front rest : List ℕ) → slice_get parts.edges k ≡ Some x → chained parts (Some k) rest ≡ true → list_all a.edge rest ≡ true
          → ((j : ℕ) → occurrences j p + occurrences j (front ++ rest) ≤ most) → ends_by parts a (last_or (Some k) rest) ≡ true → is_way parts ends left x.target rest ≡ true
      way_on k x front [] is joined edges bound at_end = marks x.target (sym (has_by parts (λ (e : Edge). is_end_node parts a e.target) k x is) ∙ at_end)
      way_on k x front (l ∷ rest) is joined edges bound at_end =
          let chain = and_parts (leads_to parts k l) (chained parts (Some l) rest) joined in
          let inside = and_parts (a.edge l) (list_all a.edge rest) edges in
          let there = edge_with parts (λ (f : Edge). x.target == f.source) l (sym (has_by parts (λ (e : Edge). edge_has parts (λ (f : Edge). e.target == f.source) l) k x is) ∙ chain.0) in
          let y = there.0 in
          let low = bound l in
          let sum = occurrences-append l front (l ∷ rest) in
          let own_use = occurs_first l rest in
          let some : 0 < get_or left l 0 = uses l y there.1 inside.0 (alive l y rest there.1 chain.1 inside.1 at_end) (omega arith) in
          let whole : (front ++ l ∷ []) ++ rest ≡ front ++ (l ∷ rest) = append_assoc front (l ∷ []) rest in
          let B : List ℕ → Type 0 = λ q. (j : ℕ) → occurrences j p + occurrences j q ≤ most in
          let on = way_on l y (front ++ l ∷ []) rest there.1 chain.1 inside.1 (subst B (sym whole) bound) at_end in
          and_from _ _ (lt-ltb 0 (get_or left l 0) some) (has_by parts (λ (e : Edge). (e.source == x.target) && is_way parts ends left e.target rest) l y there.1
          ∙ and_from _ _ (eq-eqb y.source x.target (sym (eqb-true x.target y.source there.2))) on)

    -- no way on from the last edge's target, so no path
    pub barren : (left p : List ℕ) (e node : ℕ) → ((k : ℕ) (x : Edge) → slice_get parts.edges k ≡ Some x → a.edge k ≡ true → is_marked living x.target ≡ true → occurrences k (p ++ e ∷ []) < most → 0 < get_or left k 0)
        → IsSomeAnd (slice_get parts.edges e) (λ x. x.target ≡ node) → ((way : List ℕ) → is_way parts ends left node way ≡ false) → paths_behind parts a most (p ++ e ∷ []) ≡ []
    barren left p e node uses to none = none_by (p ++ e ∷ []) (λ rest h.
        let it = path_parts parts a most ((p ++ e ∷ []) ++ rest) h in
        let there = taken (λ (x : Edge). x.target ≡ node) (slice_get parts.edges e) to in
        let last : last_or None (p ++ e ∷ []) ≡ Some e = last_push None p e in
        let joined : chained parts (Some e) rest ≡ true = ap (λ o. chained parts o rest) (sym last)
        ∙ (and_parts (chained parts None (p ++ e ∷ [])) (chained parts (last_or None (p ++ e ∷ [])) rest) (sym (chained-append parts None (p ++ e ∷ []) rest) ∙ it.joined)).1 in
        let edges : list_all a.edge rest ≡ true = (and_parts (list_all a.edge (p ++ e ∷ [])) (list_all a.edge rest) (sym (list_all-append a.edge (p ++ e ∷ []) rest) ∙ it.edges)).1 in
        let at_end = ap (λ o. ends_by parts a (last_or o rest)) (sym last) ∙ ap (ends_by parts a) (sym (last_or-append None (p ++ e ∷ []) rest)) ∙ it.ends in
        let way = way_on left (p ++ e ∷ []) uses e there.0 [] rest there.1 joined edges (λ j. let b = it.bounded j in let s = occurrences-append j (p ++ e ∷ []) rest in omega arith) at_end in
        both_ways (is_way parts ends left node rest) (none rest) (ap (λ n. is_way parts ends left n rest) (sym there.2) ∙ way))

    -- an edge that may not be taken at all
    pub never_taken : (uses p : List ℕ) (e : ℕ) (x : Edge) → AreUses parts a living most uses → slice_get parts.edges e ≡ Some x → get_or uses e 0 ≡ 0 → paths_behind parts a most (p ++ e ∷ []) ≡ []
    never_taken uses p e x caps is none = none_by (p ++ e ∷ []) (λ rest h.
        let it = goes_on p e rest h in
        let edges = (and_parts (list_all a.edge p) (list_all a.edge (e ∷ rest)) (sym (list_all-append a.edge p (e ∷ rest)) ∙ it.edges)).1 in
        let inside : a.edge e ≡ true = (and_parts (a.edge e) (list_all a.edge rest) edges).0 in
        let living_target = alive_behind p e x rest is it in
        let whole : get_or uses e 0 ≡ most = caps.each e x is ∙ ap (λ b. if b then most else 0) (and_from (a.edge e) (is_marked living x.target) inside living_target) in
        let all = it.bounded e in
        let both = occurrences-append e p (e ∷ rest) in
        let own_use = occurs_first e rest in
        omega arith)

    -- an edge that has no uses left
    pub used_up : (uses left p : List ℕ) (e : ℕ) (x : Edge) → AreUses parts a living most uses → AreLeft parts uses left p → slice_get parts.edges e ≡ Some x → get_or left e 0 ≡ 0 → paths_behind parts a most (p ++ e ∷ []) ≡ []
    used_up uses left p e x caps table is none = none_by (p ++ e ∷ []) (λ rest h.
        let it = goes_on p e rest h in
        let edges = (and_parts (list_all a.edge p) (list_all a.edge (e ∷ rest)) (sym (list_all-append a.edge p (e ∷ rest)) ∙ it.edges)).1 in
        let inside : a.edge e ≡ true = (and_parts (a.edge e) (list_all a.edge rest) edges).0 in
        let living_target = alive_behind p e x rest is it in
        let whole : get_or uses e 0 ≡ most = caps.each e x is ∙ ap (λ b. if b then most else 0) (and_from (a.edge e) (is_marked living x.target) inside living_target) in
        let sum = table.each e (slice_get_within parts.edges e x is) in
        let all = it.bounded e in
        let both = occurrences-append e p (e ∷ rest) in
        let own_use = occurs_first e rest in
        omega arith)

  -- ---- the start

  all_behind : extensions (length parts.edges) (is_path parts a most) (most * length parts.edges) [] ≡ filter (is_path parts a most) (ordered_lists (length parts.edges) (most * length parts.edges))
  unfolding extensions
  all_behind = ap (filter (is_path parts a most)) (map-id (ordered_lists (length parts.edges) (most * length parts.edges)))

  pub whole_behind : paths_behind parts a most [] ≡ filter (is_path parts a most) (ordered_lists (length parts.edges) (most * length parts.edges))
  unfolding behind
  whole_behind = (let e : most * length parts.edges - length {A = ℕ} [] ≡ most * length parts.edges = omega arith in ap (λ n. extensions (length parts.edges) (is_path parts a most) n []) e) ∙ all_behind

  pub at_the_start : IsWithin parts a → remaining (paths_behind parts a most) (row_of parts a) [] 0 ≡ filter (is_path parts a most) (ordered_lists (length parts.edges) (most * length parts.edges))
  unfolding remaining later
  at_the_start within = append-nil _ ∙ sym (behind_row [] within) ∙ whole_behind

-- ---- the tables of uses

-- one more use
pub left_push : (parts : GraphParts) (uses left p : List ℕ) (e v : ℕ) → AreLeft parts uses left p → e < length parts.edges → 0 < get_or left e 0 → v ≡ get_or left e 0 - 1 → AreLeft parts uses (set left e v) (p ++ e ∷ [])
left_push parts uses left p e v h lt some is = record {
  size = length-set left e v ∙ h.size;
  each = λ k low.
      let sum = occurrences-append k p (e ∷ []) in
      let old = h.each k low in
      elim (cases_eq k e) [
        | inl same ↦
            let here = ap (λ m. get_or (set left e v) m 0) same ∙ get_or-set_same left e v 0 (omega (arith, h.size)) in
            let one = ap (λ m. occurrences m (e ∷ [])) same ∙ occurs_first e [] in
            let none : occurrences e [] ≡ 0 = refl in
            let was = ap (λ m. get_or left m 0) same in
            omega arith
        | inr other ↦
            let here = get_or-set_other left e k v 0 other in
            let one = occurs_later k e [] (λ q. other (sym q)) in
            let none : occurrences k [] ≡ 0 = refl in
            omega arith
      ];
}

-- one use less
pub left_pop : (parts : GraphParts) (uses left p : List ℕ) (e v : ℕ) → AreLeft parts uses left (p ++ e ∷ []) → e < length parts.edges → v ≡ get_or left e 0 + 1 → AreLeft parts uses (set left e v) p
left_pop parts uses left p e v h lt is = record {
  size = length-set left e v ∙ h.size;
  each = λ k low.
      let sum = occurrences-append k p (e ∷ []) in
      let old = h.each k low in
      elim (cases_eq k e) [
        | inl same ↦
            let here = ap (λ m. get_or (set left e v) m 0) same ∙ get_or-set_same left e v 0 (omega (arith, h.size)) in
            let one = ap (λ m. occurrences m (e ∷ [])) same ∙ occurs_first e [] in
            let none : occurrences e [] ≡ 0 = refl in
            let was = ap (λ m. get_or left m 0) same in
            omega arith
        | inr other ↦
            let here = get_or-set_other left e k v 0 other in
            let one = occurs_later k e [] (λ q. other (sym q)) in
            let none : occurrences k [] ≡ 0 = refl in
            omega arith
      ];
}
