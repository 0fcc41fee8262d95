-- What the pairs that are reached weigh.
use Rattle.std.proofs.Common.{◌≡◌, ℕ, zero, suc, ◌+◌, ◌-◌, ◌*◌, ◌<◌, cond, List, [], ◌∷◌, length, map, Some, refl, sym, ap, subst, ◌∙◌, ⊎_elim, arith}
use Rattle.std.specs.Prelude.{◌==◌, slice_get, sum_by}
use Rattle.std.specs.List.Sorted.{IsStrictlyIncreasing}
use Rattle.std.proofs.lemmas.Bool.{cases_Bool, cases_lt, eq-eqb, eqb-false, eqb-true}
use Rattle.std.proofs.lemmas.List.Kept.{AllPairs-from_increasing}
use Rattle.std.proofs.lemmas.List.Sums.{sum_by-cons}
use Rattle.std.proofs.lemmas.Option.{get_or_from_slice_get, slice_get_within}
use Rattle.cfa.specs.declared.parts.Edge.{Edge}
use Rattle.cfa.specs.declared.parts.Function.{Function}
use Rattle.cfa.specs.declared.parts.GraphParts.{GraphParts}
use Rattle.cfa.specs.declared.state.Predicates.{Predicates}
use Rattle.cfa.specs.Contexts.{Pair, along}
use Rattle.unwinder_reach.specs.declared.reached.bounds.Bounds.{Bounds}
use Rattle.unwinder_reach.specs.declared.reached.step.Step.{Step}
use Rattle.unwinder_reach.specs.reached.Reaching.{AreReached, AreSteps, FollowsWithin, edges_of}
use Rattle.unwinder_reach.specs.unwinding_size.Sizes.{pair_weight, pairs_weight, predicates_weight, size_sum, steps_into, store_cells}
use Rattle.sym_expr.specs.Weights.{operations_weight}
use Rattle.unwinder_reach.specs.reached_laws.Laws.{OneSize}
use Rattle.unwinder_reach.proofs.reached_laws.Counts.{listed}
use Rattle.unwinder_reach.proofs.reached_laws.Weights.{Agree, AreApart, EachIsIn, one_sum}

-- ---- mapped lists

module _ {X : Type 0} where
  pub mapped_length : {Y : Type 0} (f : X → Y) (xs : List X) → length (map f xs) ≡ length xs
  mapped_length f [] = refl
  mapped_length f (x ∷ xs) = ap suc (mapped_length f xs)

  pub mapped_at : {Y : Type 0} (f : X → Y) (xs : List X) (i : ℕ) (y : Y) → slice_get (map f xs) i ≡ Some y → (x : X) × (slice_get xs i ≡ Some x) × (f x ≡ y)
  mapped_at f [] i y e = absurd (cc)
  mapped_at f (x ∷ xs) zero y e = let same : f x ≡ y = cc in (x, refl, same)
  mapped_at f (x ∷ xs) (suc i) y e = mapped_at f xs i y e

  pub at_mapped : {Y : Type 0} (f : X → Y) (xs : List X) (i : ℕ) (x : X) → slice_get xs i ≡ Some x → slice_get (map f xs) i ≡ Some (f x)
  at_mapped f [] i x e = absurd (cc)
  at_mapped f (z ∷ xs) zero x e = let same : z ≡ x = cc in ap (λ v. Some (f v)) same
  at_mapped f (z ∷ xs) (suc i) x e = at_mapped f xs i x e

  pub mapped_sum : (f : X → ℕ) (xs : List X) → sum_by (λ n. n) (map f xs) ≡ sum_by f xs
  mapped_sum f [] = refl
  mapped_sum f (x ∷ xs) =
      let rest = mapped_sum f xs in
      let a = sum_by-cons f x xs in
      let b = sum_by-cons (λ (k : ℕ). k) (f x) (map f xs) in
      omega (arith, rest, a, b)

one_element : {X : Type 0} (xs : List X) (i : ℕ) (x y : X) → slice_get xs i ≡ Some x → slice_get xs i ≡ Some y → x ≡ y
one_element xs i x y a b = let same : Some x ≡ Some y = sym a ∙ b in cc

-- ---- the steps of one pair

below : (ns : List ℕ) (i j n : ℕ) → IsStrictlyIncreasing ns → i < j → slice_get ns i ≡ Some n → slice_get ns j ≡ Some n → ⊥
below ns i j n rising less a b =
    let low = get_or_from_slice_get ns i n 0 a in
    let high = get_or_from_slice_get ns j n 0 b in
    let within = slice_get_within ns j n b in
    let rises = AllPairs-from_increasing ns rising i j 0 less within in
    omega (arith, low, high, rises)

rising_apart : (ns : List ℕ) → IsStrictlyIncreasing ns → AreApart ns
rising_apart ns rising i j n a b =
    ⊎_elim
    (λ less. absurd (below ns i j n rising less a b))
    (λ rest. ⊎_elim (λ more. absurd (below ns j i n rising more b a)) (λ most. omega (arith, rest, most)) (cases_lt j i))
    (cases_lt i j)

-- 1 for a step that leads to a place
abbrev leads_to : ℕ → Step → ℕ
leads_to i s = cond (s.to == i) 1 0

same_test : (a i b j : ℕ) → (a ≡ i → b ≡ j) → (b ≡ j → a ≡ i) → (a == i) ≡ (b == j)
same_test a i b j forth back =
    ⊎_elim
    (λ yes_is. yes_is ∙ sym (eq-eqb b j (forth (eqb-true a i yes_is))))
    (λ no_is. ⊎_elim
    (λ other. absurd (eqb-false a i no_is (back (eqb-true b j other))))
    (λ other. no_is ∙ sym other)
    (cases_Bool (b == j)))
    (cases_Bool (a == i))

module _ (parts : GraphParts) (bounds : Bounds) (pairs others : List Pair) (apart : AreApart pairs) (far : AreApart others) where
  one_target : (at : ℕ) (e d : Edge) (p q r : Pair) → FollowsWithin parts bounds at e p q → FollowsWithin parts bounds at d p r → q ≡ r
  one_target at e d p q r a b =
      let same = one_element parts.edges at e d a.follows.edge b.follows.edge in
      a.follows.reaches ∙ ap (λ (g : Edge). record { node = g.target; context = along parts at g p.context }) same ∙ sym b.follows.reaches

  abbrev Steps : List Pair → ℕ → Pair → List Step → Type 0
  Steps ps k p row = AreSteps parts bounds ps k p row

  edges_are_in : (ps qs : List Pair) (k l : ℕ) (p : Pair) (row other : List Step) → Steps ps k p row → Steps qs l p other → EachIsIn (edges_of row) (edges_of other)
  edges_are_in ps qs k l p row other steps also m n e =
      let found = mapped_at (λ (s : Step). s.edge) row m n e in
      let leads = steps.each m found.0 found.1 in
      let there = also.all found.0.edge leads.edge leads.target leads.follows in
      (there.0, at_mapped (λ (s : Step). s.edge) other there.0 there.1 there.2 ∙ ap Some (there.3 ∙ found.2))

  same_arrivals : (k l : ℕ) (p : Pair) (row other : List Step) → Steps pairs k p row → Steps others l p other
      → (i j : ℕ) (q : Pair) → slice_get pairs i ≡ Some q → slice_get others j ≡ Some q
      → sum_by (leads_to i) row ≡ sum_by (leads_to j) other
  same_arrivals k l p row other steps also i j q a b =
      sym (mapped_sum (leads_to i) row)
      ∙ one_sum (edges_of row) (edges_of other) (map (leads_to i) row) (map (leads_to j) other)
      (mapped_length (leads_to i) row ∙ sym (mapped_length (λ (s : Step). s.edge) row))
      (mapped_length (leads_to j) other ∙ sym (mapped_length (λ (s : Step). s.edge) other))
      (rising_apart (edges_of row) steps.rising)
      (rising_apart (edges_of other) also.rising)
      (edges_are_in pairs others k l p row other steps also)
      (edges_are_in others pairs l k p other row also steps)
      agree
      ∙ mapped_sum (leads_to j) other where
        agree : Agree (edges_of row) (edges_of other) (map (leads_to i) row) (map (leads_to j) other)
        agree m n at x y e d c f =
            let s = mapped_at (λ (s : Step). s.edge) row m at e in
            let t = mapped_at (λ (s : Step). s.edge) other n at d in
            let first = mapped_at (leads_to i) row m x c in
            let second = mapped_at (leads_to j) other n y f in
            let sames = one_element row m first.0 s.0 first.1 s.1 in
            let samet = one_element other n second.0 t.0 second.1 t.1 in
            let from = steps.each m s.0 s.1 in
            let to = also.each n t.0 t.1 in
            let edges : s.0.edge ≡ t.0.edge = s.2 ∙ sym t.2 in
            let target = one_target t.0.edge from.edge to.edge p from.target to.target (subst (λ v. FollowsWithin parts bounds v from.edge p from.target) edges from.follows) to.follows in
            let there : slice_get others t.0.to ≡ Some from.target = to.there ∙ ap Some (sym target) in
            let tests = same_test s.0.to i t.0.to j
            (λ is. far t.0.to j q (there ∙ ap Some (one_element pairs i from.target q (subst (λ v. slice_get pairs v ≡ Some from.target) is from.there) a)) b)
            (λ is. apart s.0.to i q (from.there ∙ ap Some (one_element others j from.target q (subst (λ v. slice_get others v ≡ Some from.target) is there) b)) a) in
            sym first.2 ∙ ap (leads_to i) sames ∙ ap (λ v. cond v 1 0) tests ∙ sym (ap (leads_to j) samet) ∙ second.2

-- ---- all steps into a pair

module _ (parts : GraphParts) (predicates : Predicates) (bounds : Bounds) (f : Function) (pairs others : List Pair) (steps rows : List (List Step))
    (are : AreReached parts bounds f pairs steps) (also : AreReached parts bounds f others rows) where
  same_steps_into : (i j : ℕ) (q : Pair) → slice_get pairs i ≡ Some q → slice_get others j ≡ Some q → steps_into steps i ≡ steps_into rows j
  same_steps_into i j q a b =
      sym (mapped_sum (λ row. sum_by (leads_to i) row) steps)
      ∙ one_sum pairs others (map (λ row. sum_by (leads_to i) row) steps) (map (λ row. sum_by (leads_to j) row) rows)
      (mapped_length (λ row. sum_by (leads_to i) row) steps ∙ are.rows)
      (mapped_length (λ row. sum_by (leads_to j) row) rows ∙ also.rows)
      are.distinct
      also.distinct
      (listed parts bounds f others rows also pairs are.reached)
      (listed parts bounds f pairs steps are others also.reached)
      agree
      ∙ mapped_sum (λ row. sum_by (leads_to j) row) rows where
        agree : Agree pairs others (map (λ row. sum_by (leads_to i) row) steps) (map (λ row. sum_by (leads_to j) row) rows)
        agree k l p m n e d x y =
            let first = mapped_at (λ row. sum_by (leads_to i) row) steps k m x in
            let second = mapped_at (λ row. sum_by (leads_to j) row) rows l n y in
            sym first.2
            ∙ same_arrivals parts bounds pairs others are.distinct also.distinct k l p first.0 second.0 (are.leading k p first.0 e first.1) (also.leading l p second.0 d second.1) i j q a b
            ∙ second.2

  -- ---- all pairs

  weights_from : List (List Step) → ℕ → List Pair → List ℕ
  weights_from rows i [] = []
  weights_from rows i (p ∷ ps) = pair_weight parts predicates f rows i p ∷ weights_from rows (i + 1) ps

  weights_length : (rows : List (List Step)) (i : ℕ) (ps : List Pair) → length (weights_from rows i ps) ≡ length ps
  unfolding weights_from
  weights_length rows i [] = refl
  weights_length rows i (p ∷ ps) = ap suc (weights_length rows (i + 1) ps)

  weights_sum : (rows : List (List Step)) (i : ℕ) (ps : List Pair) → sum_by (λ n. n) (weights_from rows i ps) ≡ pairs_weight parts predicates f rows i ps
  unfolding weights_from
  weights_sum rows i [] = refl
  weights_sum rows i (p ∷ ps) =
      let rest = weights_sum rows (i + 1) ps in
      let first = sum_by-cons (λ (k : ℕ). k) (pair_weight parts predicates f rows i p) (weights_from rows (i + 1) ps) in
      first ∙ ap (λ n. pair_weight parts predicates f rows i p + n) rest

  weights_at : (rows : List (List Step)) (i : ℕ) (ps : List Pair) (k : ℕ) (p : Pair) (w : ℕ) → slice_get ps k ≡ Some p → slice_get (weights_from rows i ps) k ≡ Some w → pair_weight parts predicates f rows (i + k) p ≡ w
  unfolding weights_from
  weights_at rows i [] k p w e d = absurd (cc)
  weights_at rows i (q ∷ ps) zero p w e d =
      let same : q ≡ p = cc in
      let is : pair_weight parts predicates f rows i q ≡ w = cc in
      let none : i + 0 ≡ i = omega arith in
      ap (λ n. pair_weight parts predicates f rows n p) none ∙ ap (λ r. pair_weight parts predicates f rows i r) (sym same) ∙ is
  weights_at rows i (q ∷ ps) (suc k) p w e d =
      let more : i + suc k ≡ i + 1 + k = omega arith in
      ap (λ n. pair_weight parts predicates f rows n p) more ∙ weights_at rows (i + 1) ps k p w e d

  first_weights : (rows : List (List Step)) (ps : List Pair) (k : ℕ) (p : Pair) (w : ℕ) → slice_get ps k ≡ Some p → slice_get (weights_from rows 0 ps) k ≡ Some w → pair_weight parts predicates f rows k p ≡ w
  first_weights rows ps k p w e d =
      let none : k ≡ 0 + k = omega arith in
      ap (λ n. pair_weight parts predicates f rows n p) none ∙ weights_at rows 0 ps k p w e d

  pub same_size : size_sum parts predicates f pairs steps ≡ size_sum parts predicates f others rows
  same_size =
      sym (weights_sum steps 0 pairs)
      ∙ one_sum pairs others (weights_from steps 0 pairs) (weights_from rows 0 others)
      (weights_length steps 0 pairs)
      (weights_length rows 0 others)
      are.distinct
      also.distinct
      (listed parts bounds f others rows also pairs are.reached)
      (listed parts bounds f pairs steps are others also.reached)
      (λ i j p m n e d x y.
      sym (first_weights steps pairs i p m e x)
      ∙ ap (λ k. operations_weight parts p.node + predicates_weight parts predicates p.node + 8 * (store_cells parts f p.context * (k - 1))) (same_steps_into i j p e d)
      ∙ first_weights rows others j p n d y)
      ∙ weights_sum rows 0 others

pub one_size : OneSize
one_size parts predicates bounds f pairs others steps rows are also = same_size parts predicates bounds f pairs others steps rows are also
