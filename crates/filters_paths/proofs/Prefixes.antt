-- Paths by their last edge.
use Rattle.std.proofs.Common.{◌≡◌, ℕ, zero, suc, ◌+◌, ◌-◌, ◌*◌, ◌≤◌, ◌<◌, ◌&&◌, ◌==◌, Bool, true, false, cond, List, [], ◌∷◌, ◌++◌, Option, Some, None, length, refl, sym, ◌∙◌, ap, subst, inl, inr, arith, eq-eqb}
use Rattle.std.specs.Prelude.{nat_lt, nat_le, slice_get}
use Rattle.std.specs.List.{count_by, last_or, list_all}
use Rattle.std.specs.Option.{option_map_or}
use Rattle.std.proofs.lemmas.Bool.{and_parts, and_from, cases_eq, cases_lt, cases_order, ne_eqb, leb-true, le-leb, lt-ltb, le-ltb, false_from_ne_true}
use Rattle.std.proofs.lemmas.List.Sums.{sum_by-append, sum_by-cons}
use Rattle.cfa.specs.declared.parts.Edge.{Edge}
use Rattle.cfa.specs.declared.parts.GraphParts.{GraphParts}
use Rattle.filters.specs.Parts.{Part, IsWithin, edge_has}
use Rattle.filters_paths.specs.Paths.{is_end_node, begins_at_start, ends_at_end, leads_to, are_joined, occurrences, is_bounded, is_path}

-- ---- the edge of a number

pub edge_with : (parts : GraphParts) (property : Edge → Bool) (k : ℕ) → edge_has parts property k ≡ true → (e : Edge) × (slice_get parts.edges k ≡ Some e) × (property e ≡ true)
edge_with parts property k h = by (slice_get parts.edges k) refl h
  where
    by : (o : Option Edge) → slice_get parts.edges k ≡ o → option_map_or property o false ≡ true → (e : Edge) × (slice_get parts.edges k ≡ Some e) × (property e ≡ true)
    by None is never = absurd (cc)
    by (Some e) is has = (e, is, has)

pub has_by : (parts : GraphParts) (property : Edge → Bool) (k : ℕ) (e : Edge) → slice_get parts.edges k ≡ Some e → edge_has parts property k ≡ property e
has_by parts property k e h = ap (λ o. option_map_or property o false) h

-- ---- the last element

pub last_or-append : {A : Type 0} (o : Option A) (xs ys : List A) → last_or o (xs ++ ys) ≡ last_or (last_or o xs) ys
last_or-append o [] ys = refl
last_or-append o (x ∷ xs) ys = last_or-append (Some x) xs ys

pub last_is : {A : Type 0} (o : Option A) (x : A) (xs : List A) → slice_get (x ∷ xs) (length (x ∷ xs) - 1) ≡ last_or o (x ∷ xs)
last_is o x [] = refl
last_is o x (y ∷ ys) =
    let here : length (x ∷ y ∷ ys) - 1 ≡ suc (length ys) = omega arith in
    let there : length ys ≡ length (y ∷ ys) - 1 = omega arith in
    ap (slice_get (x ∷ y ∷ ys)) here ∙ ap (slice_get (y ∷ ys)) there ∙ last_is (Some x) y ys

-- ---- edges that join, and the last of them

module _ (parts : GraphParts) where
  -- the edges join, also to an edge before them
  abbrev pub chained : Option ℕ → List ℕ → Bool
  chained o [] = true
  chained None (k ∷ rest) = chained (Some k) rest
  chained (Some j) (k ∷ rest) = leads_to parts j k && chained (Some k) rest

  behind_first : (k : ℕ) (rest : List ℕ) → are_joined parts (k ∷ rest) ≡ chained (Some k) rest
  behind_first k [] = refl
  behind_first k (l ∷ rest) = ap (λ b. leads_to parts k l && b) (behind_first l rest)

  pub joined_is : (p : List ℕ) → are_joined parts p ≡ chained None p
  joined_is [] = refl
  joined_is (k ∷ rest) = behind_first k rest

  and_assoc : (x y z : Bool) → ((x && y) && z) ≡ (x && (y && z))
  and_assoc true y z = refl
  and_assoc false y z = refl

  pub chained-append : (o : Option ℕ) (p q : List ℕ) → chained o (p ++ q) ≡ (chained o p && chained (last_or o p) q)
  chained-append o [] q = refl
  chained-append None (k ∷ p) q = chained-append (Some k) p q
  chained-append (Some j) (k ∷ p) q =
      ap (λ b. leads_to parts j k && b) (chained-append (Some k) p q) ∙ sym (and_assoc (leads_to parts j k) (chained (Some k) p) (chained (last_or (Some k) p) q))

  -- the last edge leads to an end node
  abbrev pub ends_by : Part → Option ℕ → Bool
  ends_by a None = false
  ends_by a (Some k) = edge_has parts (λ (e : Edge). is_end_node parts a e.target) k

  end_behind : (a : Part) (k : ℕ) (rest : List ℕ) → ends_at_end parts a (k ∷ rest) ≡ ends_by a (last_or (Some k) rest)
  end_behind a k [] = refl
  end_behind a k (l ∷ rest) = end_behind a l rest

  pub end_is : (a : Part) (p : List ℕ) → ends_at_end parts a p ≡ ends_by a (last_or None p)
  end_is a [] = refl
  end_is a (k ∷ rest) = end_behind a k rest

-- ---- how often an edge occurs

pub occurrences-append : (k : ℕ) (p q : List ℕ) → occurrences k (p ++ q) ≡ occurrences k p + occurrences k q
occurrences-append k p q = sum_by-append (λ x. cond (x == k) 1 0) p q

pub occurrences-cons : (k l : ℕ) (rest : List ℕ) → occurrences k (l ∷ rest) ≡ cond (l == k) 1 0 + occurrences k rest
occurrences-cons k l rest = sum_by-cons (λ x. cond (x == k) 1 0) l rest

pub occurs_first : (k : ℕ) (rest : List ℕ) → occurrences k (k ∷ rest) ≡ suc (occurrences k rest)
occurs_first k rest = occurrences-cons k k rest ∙ ap (λ b. cond b 1 0 + occurrences k rest) (eq-eqb k k refl) ∙ (omega arith)

pub occurs_later : (k l : ℕ) (rest : List ℕ) → (l ≡ k → ⊥) → occurrences k (l ∷ rest) ≡ occurrences k rest
occurs_later k l rest ne = occurrences-cons k l rest ∙ ap (λ b. cond b 1 0 + occurrences k rest) (ne_eqb l k ne) ∙ (omega arith)

bounded_among : (whole : List ℕ) (most : ℕ) (numbers : List ℕ) → list_all (λ n. nat_le (occurrences n whole) most) numbers ≡ true → (k : ℕ) → 0 < occurrences k numbers → occurrences k whole ≤ most
bounded_among whole most [] all k some = absurd (omega arith)
bounded_among whole most (n ∷ numbers) all k some =
    let both = and_parts (nat_le (occurrences n whole) most) (list_all (λ m. nat_le (occurrences m whole) most) numbers) all in
    elim (cases_eq n k) [
      | inl same ↦ let P : ℕ → Type 0 = λ m. occurrences m whole ≤ most in subst P same (leb-true (occurrences n whole) most both.0)
      | inr other ↦ bounded_among whole most numbers both.1 k (let e = occurs_later k n numbers other in omega arith)
    ]

-- each number is in a bounded list at most so many times
pub bounded_means : (most : ℕ) (p : List ℕ) → is_bounded most p ≡ true → (k : ℕ) → occurrences k p ≤ most
bounded_means most p h k = elim (cases_lt 0 (occurrences k p)) [
  | inl some ↦ bounded_among p most p h k some
  | inr none ↦ omega arith
]

all_bounded : (whole : List ℕ) (most : ℕ) → ((k : ℕ) → occurrences k whole ≤ most) → (numbers : List ℕ) → list_all (λ n. nat_le (occurrences n whole) most) numbers ≡ true
all_bounded whole most h [] = refl
all_bounded whole most h (n ∷ numbers) = and_from _ _ (le-leb (occurrences n whole) most (h n)) (all_bounded whole most h numbers)

pub bounded_from : (most : ℕ) (p : List ℕ) → ((k : ℕ) → occurrences k p ≤ most) → is_bounded most p ≡ true
bounded_from most p h = all_bounded p most h p

-- ---- a list of numbers below a limit, each at most so many times, is no longer than that allows

abbrev below_count : ℕ → List ℕ → ℕ
below_count n p = count_by (λ x. nat_lt x n) p

below_cons : (n x : ℕ) (p : List ℕ) → below_count n (x ∷ p) ≡ cond (nat_lt x n) 1 0 + below_count n p
below_cons n x p = sum_by-cons (λ y. cond (nat_lt y n) 1 0) x p

below_more : (n : ℕ) (p : List ℕ) → below_count (suc n) p ≡ below_count n p + occurrences n p
below_more n [] = refl
below_more n (x ∷ p) =
    let rest = below_more n p in
    let wide = below_cons (suc n) x p in
    let narrow = below_cons n x p in
    let own = occurrences-cons n x p in
    elim (cases_order x n) [
      | inl same ↦
          let a : nat_lt x (suc n) ≡ true = lt-ltb x (suc n) (omega arith) in
          let b : nat_lt x n ≡ false = le-ltb x n (omega arith) in
          let c : x == n ≡ true = eq-eqb x n same in
          wide ∙ ap (λ t. cond t 1 0 + below_count (suc n) p) a ∙ (let d : 1 + below_count (suc n) p ≡ (0 + below_count n p) + (1 + occurrences n p) = omega arith in d)
          ∙ sym (ap (λ t. (cond t 1 0 + below_count n p) + (1 + occurrences n p)) b) ∙ sym (ap (λ t. (cond (nat_lt x n) 1 0 + below_count n p) + (cond t 1 0 + occurrences n p)) c)
          ∙ sym (ap (λ m. m + (cond (x == n) 1 0 + occurrences n p)) narrow) ∙ sym (ap (λ m. below_count n (x ∷ p) + m) own)
      | inr apart ↦ elim apart [
        | inl lt ↦
            let a : nat_lt x (suc n) ≡ true = lt-ltb x (suc n) (omega arith) in
            let b : nat_lt x n ≡ true = lt-ltb x n lt in
            let c : x == n ≡ false = ne_eqb x n (λ e. omega arith) in
            wide ∙ ap (λ t. cond t 1 0 + below_count (suc n) p) a ∙ (let d : 1 + below_count (suc n) p ≡ (1 + below_count n p) + (0 + occurrences n p) = omega arith in d)
            ∙ sym (ap (λ t. (cond t 1 0 + below_count n p) + (0 + occurrences n p)) b) ∙ sym (ap (λ t. (cond (nat_lt x n) 1 0 + below_count n p) + (cond t 1 0 + occurrences n p)) c)
            ∙ sym (ap (λ m. m + (cond (x == n) 1 0 + occurrences n p)) narrow) ∙ sym (ap (λ m. below_count n (x ∷ p) + m) own)
        | inr gt ↦
            let a : nat_lt x (suc n) ≡ false = le-ltb x (suc n) (omega arith) in
            let b : nat_lt x n ≡ false = le-ltb x n (omega arith) in
            let c : x == n ≡ false = ne_eqb x n (λ e. omega arith) in
            wide ∙ ap (λ t. cond t 1 0 + below_count (suc n) p) a ∙ (let d : 0 + below_count (suc n) p ≡ (0 + below_count n p) + (0 + occurrences n p) = omega arith in d)
            ∙ sym (ap (λ t. (cond t 1 0 + below_count n p) + (0 + occurrences n p)) b) ∙ sym (ap (λ t. (cond (nat_lt x n) 1 0 + below_count n p) + (cond t 1 0 + occurrences n p)) c)
            ∙ sym (ap (λ m. m + (cond (x == n) 1 0 + occurrences n p)) narrow) ∙ sym (ap (λ m. below_count n (x ∷ p) + m) own)
      ]
    ]

below_none : (p : List ℕ) → below_count 0 p ≡ 0
below_none [] = refl
below_none (x ∷ p) = below_cons 0 x p ∙ ap (λ t. cond t 1 0 + below_count 0 p) (le-ltb x 0 (omega arith)) ∙ (let h = below_none p in omega arith)

below_bounded : (most : ℕ) (p : List ℕ) → ((k : ℕ) → occurrences k p ≤ most) → (n : ℕ) → below_count n p ≤ most * n
below_bounded most p h zero = let e = below_none p in omega arith
below_bounded most p h (suc n) =
    let rest = below_bounded most p h n in
    let more = below_more n p in
    let own = h n in
    omega arith

below_all : (n : ℕ) (test : ℕ → Bool) (p : List ℕ) → ((k : ℕ) → test k ≡ true → k < n) → list_all test p ≡ true → below_count n p ≡ length p
below_all n test [] low all = refl
below_all n test (x ∷ p) low all =
    let both = and_parts (test x) (list_all test p) all in
    below_cons n x p ∙ ap (λ t. cond t 1 0 + below_count n p) (lt-ltb x n (low x both.0)) ∙ (let rest = below_all n test p low both.1 in omega arith)

pub not_longer : (n most : ℕ) (test : ℕ → Bool) (p : List ℕ) → ((k : ℕ) → test k ≡ true → k < n) → list_all test p ≡ true → ((k : ℕ) → occurrences k p ≤ most) → length p ≤ most * n
not_longer n most test p low all bound =
    let e = below_all n test p low all in
    let h = below_bounded most p bound n in
    omega arith

-- ---- what a path is

-- a path by its parts
pub record PathParts (parts : GraphParts) (a : Part) (most : ℕ) (p : List ℕ) : Type 0 where
  pub begins : begins_at_start parts a p ≡ true
  pub edges : list_all a.edge p ≡ true
  pub joined : chained parts None p ≡ true
  pub bounded : (k : ℕ) → occurrences k p ≤ most
  pub ends : ends_by parts a (last_or None p) ≡ true

pub path_parts : (parts : GraphParts) (a : Part) (most : ℕ) (p : List ℕ) → is_path parts a most p ≡ true → PathParts parts a most p
path_parts parts a most p h =
    let one = and_parts _ _ h in
    let two = and_parts _ _ one.0 in
    let three = and_parts _ _ two.0 in
    let four = and_parts _ _ three.0 in
    record { begins = four.0; edges = four.1; joined = sym (joined_is parts p) ∙ three.1; bounded = bounded_means most p two.1; ends = sym (end_is parts a p) ∙ one.1 }

pub path_from : (parts : GraphParts) (a : Part) (most : ℕ) (p : List ℕ) → PathParts parts a most p → is_path parts a most p ≡ true
path_from parts a most p h =
    and_from _ _ (and_from _ _ (and_from _ _ (and_from _ _ h.begins h.edges) (joined_is parts p ∙ h.joined)) (bounded_from most p h.bounded)) (end_is parts a p ∙ h.ends)

-- a path has no more edges than the bound allows
pub short_path : (parts : GraphParts) (a : Part) (most : ℕ) (p : List ℕ) → IsWithin parts a → most * length parts.edges < length p → is_path parts a most p ≡ false
short_path parts a most p within long = false_from_ne_true (is_path parts a most p) (λ h.
    let it = path_parts parts a most p h in
    let short = not_longer (length parts.edges) most a.edge p within.edges it.edges it.bounded in
    omega arith)
