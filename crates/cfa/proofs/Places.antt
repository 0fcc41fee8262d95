-- The places of the elements that pass a test.
use Rattle.std.proofs.Common.{◌≡◌, ℕ, zero, suc, ◌+◌, ◌<◌, Bool, true, false, List, [], ◌∷◌, ◌++◌, Some, map, take, length, get_or, refl, sym, ap, subst, ◌∙◌, arith, append_assoc, length-append, length-take, add-zero}
use Rattle.std.specs.Prelude.{◌↔◌, ◌==◌, Contains, slice_get, cond}
use Rattle.std.specs.List.{filter}
use Rattle.std.specs.Option.{IsSomeAnd}
use Rattle.std.proofs.lemmas.Bool.{eqb-true, eq-eqb}
use Rattle.std.proofs.lemmas.List.{take_more}
use Rattle.std.proofs.lemmas.Option.{same_Some, slice_get_within, slice_get-get_or, get_or_from_slice_get}
use Rattle.cfa.specs.declared.parts.Edge.{Edge}
use Rattle.cfa.specs.declared.parts.GraphParts.{GraphParts}
use Rattle.cfa.specs.Graph.{Continues, edges_from}
use Rattle.cfa.specs.Table.{places_from, outgoing_of, ContinuesAt}
use Rattle.cfa.proofs.Exits.{taken, given}

cond_append : (t : Bool) (n : ℕ) (ns ms : List ℕ) → cond t (n ∷ (ns ++ ms)) (ns ++ ms) ≡ cond t (n ∷ ns) ns ++ ms
cond_append true n ns ms = refl
cond_append false n ns ms = refl

module _ {X : Type 0} (test : X → Bool) where
  pub places_from-append : (n : ℕ) (xs ys : List X) → places_from test n (xs ++ ys) ≡ places_from test n xs ++ places_from test (n + length xs) ys
  places_from-append n [] ys = rw add-zero refl
  places_from-append n (x ∷ xs) ys =
      let rest = places_from-append (n + 1) xs ys in
      let shift : n + 1 + length xs ≡ n + length (x ∷ xs) = omega arith in
      let all : places_from test (n + 1) (xs ++ ys) ≡ places_from test (n + 1) xs ++ places_from test (n + length (x ∷ xs)) ys = rest ∙ ap (λ m. places_from test (n + 1) xs ++ places_from test m ys) shift in
      ap (λ (r : List ℕ). cond (test x) (n ∷ r) r) all
      ∙ cond_append (test x) n (places_from test (n + 1) xs) (places_from test (n + length (x ∷ xs)) ys)

  pub places_more : (xs : List X) (i : ℕ) (d : X) → i < length xs → places_from test 0 (take (i + 1) xs) ≡ places_from test 0 (take i xs) ++ cond (test (get_or xs i d)) (i ∷ []) []
  places_more xs i d h =
      let long : 0 + length (take i xs) ≡ i = omega (arith, length-take i xs) in
      ap (places_from test 0) (take_more xs i d h) ∙ places_from-append 0 (take i xs) (get_or xs i d ∷ [])
      ∙ ap (λ n. places_from test 0 (take i xs) ++ cond (test (get_or xs i d)) (n ∷ []) []) long

  at_end : (front xs : List X) (x : X) → slice_get (front ++ (x ∷ xs)) (length front) ≡ Some x
  at_end [] xs x = refl
  at_end (y ∷ front) xs x = at_end front xs x

  -- the elements at those places are those that pass
  picked_after : (front xs : List X) → map (slice_get (front ++ xs)) (places_from test (length front) xs) ≡ map Some (filter test xs)
  picked_after front [] = refl
  picked_after front (x ∷ xs) =
      let whole : (front ++ x ∷ []) ++ xs ≡ front ++ (x ∷ xs) = append_assoc front (x ∷ []) xs in
      let long : length (front ++ x ∷ []) ≡ length front + 1 = length-append front (x ∷ []) in
      let rest : map (slice_get (front ++ (x ∷ xs))) (places_from test (length front + 1) xs) ≡ map Some (filter test xs) =
      ap (λ zs. map (slice_get zs) (places_from test (length front + 1) xs)) (sym whole)
      ∙ ap (λ m. map (slice_get ((front ++ x ∷ []) ++ xs)) (places_from test m xs)) (sym long) ∙ picked_after (front ++ x ∷ []) xs in
      by (test x) (places_from test (length front + 1) xs) (filter test xs) (slice_get (front ++ (x ∷ xs))) (at_end front xs x) rest
    where
      by : (t : Bool) (ns : List ℕ) (ys : List X) (read : ℕ → _) → read (length front) ≡ Some x → map read ns ≡ map Some ys → map read (cond t (length front ∷ ns) ns) ≡ map Some (cond t (x ∷ ys) ys)
      by true ns ys read here rest = ap (λ o. o ∷ map read ns) here ∙ ap (λ os. Some x ∷ os) rest
      by false ns ys read here rest = rest

  pub picked : (xs : List X) → map (slice_get xs) (places_from test 0 xs) ≡ map Some (filter test xs)
  picked xs = picked_after [] xs

-- ---- the ways on from a node, by the edges and by their numbers

some_and_is : {X : Type 0} (P : X → Type 0) (o : _) (x : X) → o ≡ Some x → IsSomeAnd o P ↔ P x
some_and_is P o x e = (λ h. subst (λ q. IsSomeAnd q P) e h, λ p. given P o x e p)

continues_by : (parts : GraphParts) (ns : List ℕ) (es : List Edge) → map (slice_get parts.edges) ns ≡ map Some es → ContinuesAt parts ns ↔ Continues es
continues_by parts [] [] h = (λ b. b, λ b. b)
continues_by parts [] (e ∷ es) h = absurd (cc)
continues_by parts (a ∷ ns) [] h = absurd (cc)
continues_by parts (a ∷ []) (e ∷ []) h = let first : slice_get parts.edges a ≡ Some e = cc in some_and_is _ (slice_get parts.edges a) e first
continues_by parts (a ∷ []) (e ∷ f ∷ es) h = absurd (cc)
continues_by parts (a ∷ b ∷ ns) (e ∷ []) h = absurd (cc)
continues_by parts (a ∷ b ∷ []) (e ∷ f ∷ []) h =
    let first : slice_get parts.edges a ≡ Some e = cc in
    let second : slice_get parts.edges b ≡ Some f = cc in
    let outer = some_and_is _ (slice_get parts.edges a) e first in
    let inner = some_and_is _ (slice_get parts.edges b) f second in
    (λ c. inner.0 (outer.0 c), λ c. outer.1 (inner.1 c))
continues_by parts (a ∷ b ∷ []) (e ∷ f ∷ g ∷ es) h = absurd (cc)
continues_by parts (a ∷ b ∷ c ∷ ns) (e ∷ f ∷ []) h = absurd (cc)
continues_by parts (a ∷ b ∷ c ∷ ns) (e ∷ f ∷ g ∷ es) h = (λ b. b, λ b. b)

-- a node goes on by the numbers of its edges where it does by its edges
pub continues_tells : (parts : GraphParts) (node : ℕ) → ContinuesAt parts (outgoing_of parts node) ↔ Continues (edges_from parts node)
continues_tells parts node = continues_by parts (outgoing_of parts node) (edges_from parts node) (picked (λ (e : Edge). e.source == node) parts.edges)

-- ---- the places are those of the elements that pass

module _ {X : Type 0} (test : X → Bool) where
  shifted : (t : Bool) (n : ℕ) (ns : List ℕ) (j a : ℕ) → slice_get ns j ≡ Some a → (i : ℕ) × (slice_get (cond t (n ∷ ns) ns) i ≡ Some a)
  shifted true n ns j a e = (suc j, e)
  shifted false n ns j a e = (j, e)

  -- the place of an element that passes is among the places
  pub has_place : (first : ℕ) (xs : List X) (k : ℕ) (x : X) → slice_get xs k ≡ Some x → test x ≡ true → (j : ℕ) × (slice_get (places_from test first xs) j ≡ Some (first + k))
  has_place first [] k x e t = absurd (cc)
  has_place first (y ∷ xs) zero x e t =
      let same : y ≡ x = same_Some y x e in
      let yes_test : test y ≡ true = ap test same ∙ t in
      let zero_sum : first + 0 ≡ first = omega arith in
      (zero, ap (λ b. slice_get (cond b (first ∷ places_from test (first + 1) xs) (places_from test (first + 1) xs)) 0) yes_test ∙ ap Some (sym zero_sum))
  has_place first (y ∷ xs) (suc k) x e t =
      let rest = has_place (first + 1) xs k x e t in
      let sum : first + 1 + k ≡ first + suc k = omega arith in
      shifted (test y) first (places_from test (first + 1) xs) rest.0 (first + suc k) (rest.1 ∙ ap Some sum)

  -- an element of these places passes, which is what a place means
  abbrev pub PassesAt : ℕ → List X → ℕ → Type 0
  PassesAt first xs a = (k : ℕ) × (x : X) × (slice_get xs k ≡ Some x) × (a ≡ first + k) × (test x ≡ true)

  later_passes : (first : ℕ) (x : X) (xs : List X) (a : ℕ) → PassesAt (first + 1) xs a → PassesAt first (x ∷ xs) a
  later_passes first x xs a p = (suc p.0, p.1, p.2, omega (arith, p.3), p.4)

  pub at_place : (first : ℕ) (xs : List X) (j a : ℕ) → slice_get (places_from test first xs) j ≡ Some a → PassesAt first xs a
  at_place first [] j a e = absurd (cc)
  at_place first (x ∷ xs) j a e = by (λ i h. at_place (first + 1) xs i a h) (test x) refl j e
    where
      by : ((i : ℕ) → slice_get (places_from test (first + 1) xs) i ≡ Some a → PassesAt (first + 1) xs a) → (t : Bool) → test x ≡ t → (j : ℕ) → slice_get (cond t (first ∷ places_from test (first + 1) xs) (places_from test (first + 1) xs)) j ≡ Some a → PassesAt first (x ∷ xs) a
      by more true t zero h = let same = same_Some first a h in (zero, x, refl, omega arith, t)
      by more true t (suc i) h = later_passes first x xs a (more i h)
      by more false t i h = later_passes first x xs a (more i h)

-- ---- the outgoing edges of a node

at_source : (parts : GraphParts) (node at : ℕ) → IsSomeAnd (slice_get parts.edges at) (λ (e : Edge). e.source ≡ node) → (e : Edge) × (slice_get parts.edges at ≡ Some e) × (e.source ≡ node)
at_source parts node at h = taken (λ (e : Edge). e.source ≡ node) (slice_get parts.edges at) h

pub outgoing_tells : (parts : GraphParts) (node at : ℕ) → Contains (outgoing_of parts node) at ↔ IsSomeAnd (slice_get parts.edges at) (λ (e : Edge). e.source ≡ node)
outgoing_tells parts node at = (
  λ has.
      let read = slice_get-get_or (outgoing_of parts node) has.0 at has.1 ∙ ap Some has.2 in
      let passes = at_place (λ (e : Edge). e.source == node) 0 parts.edges has.0 at read in
      let is : passes.0 ≡ at = omega (arith, passes.3) in
      given (λ (e : Edge). e.source ≡ node) (slice_get parts.edges at) passes.1 (ap (slice_get parts.edges) (sym is) ∙ passes.2) (eqb-true passes.1.source node passes.4),
  λ leaves.
      let there = at_source parts node at leaves in
      let found = has_place (λ (e : Edge). e.source == node) 0 parts.edges at there.0 there.1 (eq-eqb there.0.source node there.2) in
      let sum : 0 + at ≡ at = omega arith in
      let read = found.1 ∙ ap Some sum in
      (found.0, slice_get_within (outgoing_of parts node) found.0 at read, get_or_from_slice_get (outgoing_of parts node) found.0 at at read),
)
