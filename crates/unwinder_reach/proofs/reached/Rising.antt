-- Numbers of edges that rise.
use Rattle.std.proofs.Common.{◌≡◌, ℕ, zero, suc, ◌+◌, ◌<◌, ◌≤◌, Bool, true, false, if◌then◌else◌, List, [], ◌∷◌, ◌++◌, length, take, get_or, Option, Some, None, refl, sym, ◌∙◌, subst, inl, inr, arith}
use Rattle.std.specs.List.{All, AllPairs, Contains}
use Rattle.std.specs.List.Sorted.{IsStrictlyIncreasing}
use Rattle.std.proofs.lemmas.Grind.{get_or_default_zero}
use Rattle.std.proofs.lemmas.List.{get_or-take, length-take-le, map-append}
use Rattle.std.proofs.lemmas.List.Kept.{AllPairs-cons, AllPairs-from_increasing}
use Rattle.std.proofs.lemmas.List.Quantifiers.{all_pairs_push}
use Rattle.cfa.specs.declared.parts.Edge.{Edge}
use Rattle.cfa.specs.declared.parts.GraphParts.{GraphParts}
use Rattle.std.specs.Prelude.{◌==◌}
use Rattle.cfa.specs.Table.{places_from, outgoing_of}
use Rattle.unwinder_reach.specs.declared.reached.step.Step.{Step}
use Rattle.unwinder_reach.specs.reached.Reaching.{edges_of}
use Rattle.unwinder_reach.specs.reached.Searching.{IsIn, return_after, with_step}

adjacent : (xs : List ℕ) → AllPairs (λ x y. x < y) xs → IsStrictlyIncreasing xs
adjacent xs pairs k h = pairs k (k + 1) 0 (omega arith) h

-- ---- the edges that leave a node

record RiseFrom (n : ℕ) (ps : List ℕ) : Type 0 where
  low : All (λ p. n ≤ p) ps
  pairs : AllPairs (λ x y. x < y) ps

low_cons : (n : ℕ) (ps : List ℕ) → All (λ p. n + 1 ≤ p) ps → All (λ p. n ≤ p) (n ∷ ps)
low_cons n ps low zero d h = omega arith
low_cons n ps low (suc k) d h = let l = low k d (omega (arith, h)) in omega (arith, l)

picked_rise : (b : Bool) (n : ℕ) (ps : List ℕ) → RiseFrom (n + 1) ps → RiseFrom n (if b then n ∷ ps else ps)
picked_rise true n ps r = record {
  low = low_cons n ps r.low;
  pairs = AllPairs-cons (λ x y. x < y) n ps (λ k d h. let l = r.low k d h in omega (arith, l)) r.pairs;
}
picked_rise false n ps r = record { low = λ k d h. let l = r.low k d h in omega (arith, l); pairs = r.pairs }

places_rise : {X : Type 0} (test : X → Bool) (n : ℕ) (xs : List X) → RiseFrom n (places_from test n xs)
places_rise test n [] = record { low = λ k d h. absurd (omega (arith, h)); pairs = λ i j d lt h. absurd (omega (arith, h)) }
places_rise test n (x ∷ xs) = picked_rise (test x) n (places_from test (n + 1) xs) (places_rise test (n + 1) xs)

pub none_rise : IsStrictlyIncreasing []
none_rise k h = absurd (omega (arith, h))

pub outgoing_rise : (parts : GraphParts) (node : ℕ) → IsStrictlyIncreasing (outgoing_of parts node)
outgoing_rise parts node = adjacent (outgoing_of parts node) (places_rise (λ (e : Edge). e.source == node) 0 parts.edges).pairs

pub return_rises : (call : Option ℕ) → IsStrictlyIncreasing (return_after call)
return_rises None k h = absurd (omega (arith, h))
return_rises (Some call) k h = absurd (omega (arith, h))

-- ---- the edges of steps

each_edge : (P : ℕ → Type 0) (steps : List Step) → ((s : Step) → IsIn steps s → P s.edge) → (k d : ℕ) → k < length (edges_of steps) → P (get_or (edges_of steps) k d)
each_edge P [] each k d h = absurd (omega (arith, h))
each_edge P (s ∷ steps) each zero d h = each s (inl refl)
each_edge P (s ∷ steps) each (suc k) d h = each_edge P steps (λ t i. each t (inr i)) k d (omega (arith, h))

-- what stands before a place in numbers that rise is below the number there
below_way : (ways : List ℕ) (i x : ℕ) → IsStrictlyIncreasing ways → i < length ways → Contains (take i ways) x → x < get_or ways i 0
below_way ways i x rising within has =
    let long = length-take-le i ways (omega (arith, within)) in
    let before : has.0 < i = omega (arith, has.1) in
    let read = sym (get_or-take i ways has.0 x before) ∙ has.2 in
    let less = AllPairs-from_increasing ways rising has.0 i x before within in
    let same = get_or_default_zero ways i x within in
    omega (arith, read, less, same)

pub rising_more : (ways : List ℕ) (i : ℕ) (steps : List Step) (step : Option Step) → IsStrictlyIncreasing ways → i < length ways → ((s : Step) → IsIn steps s → Contains (take i ways) s.edge) → ((s : Step) → step ≡ Some s → s.edge ≡ get_or ways i 0) → IsStrictlyIncreasing (edges_of steps)
    → IsStrictlyIncreasing (edges_of (with_step steps step))
rising_more ways i steps None rising within along is rise = rise
rising_more ways i steps (Some t) rising within along is rise =
    let own = is t refl in
    subst IsStrictlyIncreasing (sym (map-append (λ (s : Step). s.edge) steps (t ∷ [])))
    (adjacent (edges_of steps ++ t.edge ∷ [])
    (all_pairs_push (λ x y. x < y) (edges_of steps) t.edge (AllPairs-from_increasing (edges_of steps) rise)
    (each_edge (λ n. n < t.edge) steps (λ s h. let low = below_way ways i s.edge rising within (along s h) in omega (arith, own, low)))))
