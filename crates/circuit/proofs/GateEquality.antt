-- Which literals and gates are the same, and where a gate stands.
use Rattle.std.proofs.Common.{◌≡◌, ℕ, suc, ◌+◌, ◌<◌, ◌≤◌, Bool, true, false, not, ◌&&◌, ◌||◌, if◌then◌else◌, eqb, ltb, cond, List, [], ◌∷◌, length, position, Some, None, refl, sym, ap, subst, ◌∙◌, arith}
use Rattle.std.specs.Bool.{beq}
use Rattle.std.specs.List.{All, list_any, position_or_len}
use Rattle.std.specs.Cmp.{booleans_Decides}
use Rattle.std.proofs.lemmas.Bool.{eqb-true, false≢true, and_parts}
use Rattle.std.proofs.lemmas.Bool.Decides.{Decides-ltb, nat_tests}
use Rattle.circuit.specs.declared.lit.Lit.{Lit}
use Rattle.circuit.specs.declared.lit.Gate.{Gate}
use Rattle.circuit.specs.declared.lit.Gate.TheVariants.{Input, And}
use Rattle.circuit.specs.contracts.lit as contracts
use Rattle.circuit.specs.Wires.{IsReduced}
use Rattle.circuit.specs.Sharing.{same_lit, joins, and_gate}

abbrev pub gate_eq : Gate → Gate → Bool
gate_eq = contracts.GatePartialEq.TheImpl.ghosts.eq

pub same_wire : (a b : Lit) → same_lit a b ≡ true → a.wire ≡ b.wire
same_wire a b e = eqb-true a.wire b.wire (and_parts (eqb a.wire b.wire) (beq a.negated b.negated) e).0

pub same_is : (a b : Lit) → same_lit a b ≡ true → a ≡ b
same_is a b e =
    let parts = and_parts (eqb a.wire b.wire) (beq a.negated b.negated) e in
    let wires = eqb-true a.wire b.wire parts.0 in
    let signs = (booleans_Decides a.negated b.negated).0 parts.1 in
    λ i. record { wire = wires i; negated = signs i }

pub same_gate : (x y : Gate) → gate_eq x y ≡ true → x ≡ y
same_gate (Input m) (Input n) e = ap Input (eqb-true m n e)
same_gate (Input m) (And c d) e = absurd (false≢true e)
same_gate (And a b) (Input n) e = absurd (false≢true e)
same_gate (And a b) (And c d) e = let parts = and_parts (same_lit a c) (same_lit b d) e in λ i. And (same_is a c parts.0 i) (same_is b d parts.1 i)

-- two literals on wires in this order aren't those of a gate in the other
crossed : (x y c d : Lit) → x.wire < y.wire → c.wire < d.wire → (same_lit y c && same_lit x d) ≡ false
crossed x y c d lt up = by (same_lit y c) (same_lit x d) refl refl
  where
    by : (s t : Bool) → same_lit y c ≡ s → same_lit x d ≡ t → (s && t) ≡ false
    by false t e f = refl
    by true false e f = refl
    by true true e f = let p = same_wire y c e in let q = same_wire x d f in absurd (omega arith)

or_false : (s : Bool) → (s || false) ≡ s
or_false true = refl
or_false false = refl

pub below_false : (a b : ℕ) → ltb a b ≡ false → b ≤ a
below_false a b e = grind (arith, nat_tests)

pub below_true : (a b : ℕ) → a < b → ltb a b ≡ true
below_true a b lt = (Decides-ltb a b).1 lt

-- the test for a gate of two literals is that for the gate with the lower wire first
pub joins_is : (a b : Lit) (g : Gate) → (a.wire ≡ b.wire → ⊥) → IsReduced g → gate_eq (and_gate a b) g ≡ joins a b g
joins_is a b g = by (ltb a.wire b.wire) g refl
  where
    by : (t : Bool) (g : Gate) → ltb a.wire b.wire ≡ t → (a.wire ≡ b.wire → ⊥) → IsReduced g → gate_eq (if t then And a b else And b a) g ≡ joins a b g
    by true (Input number) e h r = refl
    by false (Input number) e h r = refl
    by true (And c d) e h r =
        let lt = (Decides-ltb a.wire b.wire).0 e in
        sym (ap (λ t. (same_lit a c && same_lit b d) || t) (crossed a b c d lt r.1) ∙ or_false (same_lit a c && same_lit b d))
    by false (And c d) e h r =
        let le = below_false a.wire b.wire e in
        let lt : b.wire < a.wire = omega arith in
        sym (ap (λ t. t || (same_lit b c && same_lit a d)) (crossed b a c d lt r.1))

-- ---- places

module _ (p : Gate → Bool) where
  pub found_within : (gates : List Gate) → list_any p gates ≡ true → position_or_len p gates < length gates
  found_within [] e = absurd (false≢true e)
  found_within (g ∷ gates) e = by (p g) refl (found_within gates)
    where
      by : (t : Bool) → p g ≡ t → (list_any p gates ≡ true → position_or_len p gates < length gates) → cond (not (p g)) (1 + position_or_len p gates) 0 < suc (length gates)
      by true at again = subst (λ (t : Bool). cond (not t) (1 + position_or_len p gates) 0 < suc (length gates)) (sym at) (omega arith)
      by false at again =
          let rest = again (sym (ap (λ t. t || list_any p gates) at) ∙ e) in
          subst (λ (t : Bool). cond (not t) (1 + position_or_len p gates) 0 < suc (length gates)) (sym at) (omega arith)

  pub not_found : (gates : List Gate) → list_any p gates ≡ false → position_or_len p gates ≡ length gates
  not_found [] e = refl
  not_found (g ∷ gates) e = by (p g) refl (not_found gates)
    where
      by : (t : Bool) → p g ≡ t → (list_any p gates ≡ false → position_or_len p gates ≡ length gates) → cond (not (p g)) (1 + position_or_len p gates) 0 ≡ suc (length gates)
      by true at again = absurd (false≢true (sym e ∙ ap (λ t. t || list_any p gates) at))
      by false at again =
          let rest = again (sym (ap (λ t. t || list_any p gates) at) ∙ e) in
          ap (λ (t : Bool). cond (not t) (1 + position_or_len p gates) 0) at ∙ omega arith

  pub position_found : (gates : List Gate) → list_any p gates ≡ true → position p gates ≡ Some (position_or_len p gates)
  position_found gates e = ap (λ t. cond t (Some (position_or_len p gates)) None) (below_true (position_or_len p gates) (length gates) (found_within gates e))

  pub position_not_found : (gates : List Gate) → list_any p gates ≡ false → position p gates ≡ None
  position_not_found gates e =
      let k = not_found gates e in
      let f : ltb (position_or_len p gates) (length gates) ≡ false = grind (arith, nat_tests) in
      ap (λ t. cond t (Some (position_or_len p gates)) None) f

-- tests that agree on each gate
module _ (p q : Gate → Bool) where
  pub same_place : (gates : List Gate) → All (λ g. p g ≡ q g) gates → position_or_len p gates ≡ position_or_len q gates
  same_place [] h = refl
  same_place (g ∷ gates) h =
      let here : p g ≡ q g = h 0 g (omega arith) in
      let rest = same_place gates (λ k d lt. h (suc k) d (omega arith)) in
      λ i. cond (not (here i)) (1 + rest i) 0

  pub same_any : (gates : List Gate) → All (λ g. p g ≡ q g) gates → list_any p gates ≡ list_any q gates
  same_any [] h = refl
  same_any (g ∷ gates) h =
      let here : p g ≡ q g = h 0 g (omega arith) in
      let rest = same_any gates (λ k d lt. h (suc k) d (omega arith)) in
      λ i. here i || rest i
