-- Where a jump lands.
use Rattle.std.proofs.Common.{◌≡◌, ◌⊎◌, ℕ, ◌+◌, ◌<◌, ◌≤◌, Bool, true, false, eqb, List, take, refl, sym, ◌∙◌, ap, arith, None, Some}
use mathlib.Core.Logic.{inl, inr}
use Rattle.std.specs.Prelude.{ℤ, neg_ℤ, nat_lt, slice_get}
use Rattle.std.specs.Ordering.{int_eq}
use Rattle.std.proofs.lemmas.Bool.Decides.{Decides-eqb, Decides-ltb}
use Rattle.cnf.proofs.ClauseLaws.{same_literal}
use Rattle.search.specs.declared.trail.Entry.{Entry}
use Rattle.search.specs.Lessons.{AreFalseBut, IsLanding}
use Rattle.search.specs.Machine.{is_true}
use Rattle.search.specs.Trails.{IsTrail}
use Rattle.search.specs.Watching.{IsDecidedAt}
use Rattle.search.proofs.BackLaws.{free_before, negated_twice, or_cases, some_entry, true_at, true_later, true_next}

-- as far down the trail as a place
pub record IsLandingSo (trail : List Entry) (set : ℤ → Bool) (x : ℤ) (place front cut : ℕ) : Type 0 where
  pub decided : IsDecidedAt trail cut
  pub low : front ≤ cut
  pub inside : cut ≤ place
  pub falses : AreFalseBut (take front trail) set x
  pub none : (d : ℕ) → IsDecidedAt trail d → front ≤ d → d < cut → ⊥

pub landing_begins : (trail : List Entry) (set : ℤ → Bool) (x : ℤ) (place : ℕ) → IsDecidedAt trail place → AreFalseBut (take place trail) set x → IsLandingSo trail set x place place place
landing_begins trail set x place decided falses = record {
  decided = decided;
  low = omega arith;
  inside = omega arith;
  falses = falses;
  none = λ d h low high. omega (arith, low, high);
}

module _ (n : ℕ) (trail : List Entry) (set : ℤ → Bool) (x : ℤ) (place at cut : ℕ) (e : Entry) (kept : IsTrail n trail) (here : slice_get trail at ≡ Some e) (so : IsLandingSo trail set x place (at + 1) cut) where
  falses_on : set (neg_ℤ e.literal) ≡ false → AreFalseBut (take at trail) set x
  falses_on free y own other = by_side (or_cases _ _ (sym (true_next trail at e (neg_ℤ y) here) ∙ so.falses y own other))
    where
      by_side : (is_true (take at trail) (neg_ℤ y) ≡ true) ⊎ (int_eq e.literal (neg_ℤ y) ≡ true) → is_true (take at trail) (neg_ℤ y) ≡ true
      by_side (inl h) = h
      by_side (inr h) =
          let same : neg_ℤ e.literal ≡ y = ap neg_ℤ (same_literal e.literal (neg_ℤ y) h) ∙ negated_twice y in
          let no : true ≡ false = sym own ∙ ap set (sym same) ∙ free in
          absurd cc

  -- an implied literal whose negation isn't in the set
  pub landing_implied : set (neg_ℤ e.literal) ≡ false → (e.reason ≡ None → ⊥) → IsLandingSo trail set x place at cut
  landing_implied free implied = record {
    decided = so.decided;
    low = let low = so.low in omega (arith, low);
    inside = so.inside;
    falses = falses_on free;
    none = λ d h low high. by_place d h low high (eqb d at) refl;
  }
    where
      by_place : (d : ℕ) → IsDecidedAt trail d → at ≤ d → d < cut → (b : Bool) → eqb d at ≡ b → ⊥
      by_place d h low high true f =
          let found = some_entry trail d (λ (g : Entry). g.reason ≡ None) h in
          let one : Some found.0 ≡ Some e = sym found.1 ∙ ap (slice_get trail) ((Decides-eqb d at).0 f) ∙ here in
          let same : found.0 ≡ e = cc in
          implied (ap (λ (g : Entry). g.reason) (sym same) ∙ found.2)
      by_place d h low high false f =
          let other : d ≡ at → ⊥ = λ s. let yes = (Decides-eqb d at).1 s in let no : true ≡ false = sym yes ∙ f in absurd cc in
          so.none d h (omega (arith, low, other)) high

  -- a decided one
  pub landing_decided : set (neg_ℤ e.literal) ≡ false → e.reason ≡ None → IsLandingSo trail set x place at at
  landing_decided free decided = record {
    decided = rw here decided;
    low = omega arith;
    inside = let low = so.low in let inside = so.inside in omega (arith, low, inside);
    falses = falses_on free;
    none = λ d h low high. omega (arith, low, high);
  }

  -- one whose negation is in the set
  pub landing_other : is_true (take place trail) (neg_ℤ x) ≡ false → set (neg_ℤ e.literal) ≡ true → IsLanding trail set x place record { literal = x; cut = cut; other = Some (neg_ℤ e.literal) }
  landing_other free own = record {
    literal = refl;
    decided = so.decided;
    inside = so.inside;
    falses = λ y has other. true_later trail (at + 1) cut (neg_ℤ y) so.low (so.falses y has other);
    latest = (own, apart, λ d h high. by_place d h high);
  }
    where
      apart : int_eq (neg_ℤ e.literal) x ≡ false
      apart = by_test (int_eq (neg_ℤ e.literal) x) refl
        where
          by_test : (b : Bool) → int_eq (neg_ℤ e.literal) x ≡ b → int_eq (neg_ℤ e.literal) x ≡ false
          by_test false f = f
          by_test true f =
              let low = so.low in
              let inside = so.inside in
              let same : e.literal ≡ neg_ℤ x = sym (negated_twice e.literal) ∙ ap neg_ℤ (same_literal (neg_ℤ e.literal) x f) in
              let yes : is_true (take place trail) (neg_ℤ x) ≡ true = ap (is_true (take place trail)) (sym same) ∙ true_at trail at place e (omega (arith, low, inside)) here in
              let no : true ≡ false = sym yes ∙ free in
              absurd cc

      by_place : (d : ℕ) → IsDecidedAt trail d → d < cut → is_true (take d trail) (neg_ℤ (neg_ℤ e.literal)) ≡ false
      by_place d h high = by_value (is_true (take d trail) (neg_ℤ (neg_ℤ e.literal))) refl
        where
          none : is_true (take at trail) (neg_ℤ (neg_ℤ e.literal)) ≡ false
          none = free_before n trail at e (neg_ℤ (neg_ℤ e.literal)) kept.over kept.distinct here (inl (negated_twice e.literal))

          below : d ≤ at
          below = by_low (nat_lt d (at + 1)) refl
            where
              by_low : (b : Bool) → nat_lt d (at + 1) ≡ b → d ≤ at
              by_low true f = let low = (Decides-ltb d (at + 1)).0 f in omega (arith, low)
              by_low false f =
                  let past : d < at + 1 → ⊥ = λ l. let yes = (Decides-ltb d (at + 1)).1 l in let no : true ≡ false = sym yes ∙ f in absurd cc in
                  absurd (so.none d h (omega (arith, past)) high)

          by_value : (b : Bool) → is_true (take d trail) (neg_ℤ (neg_ℤ e.literal)) ≡ b → is_true (take d trail) (neg_ℤ (neg_ℤ e.literal)) ≡ false
          by_value false f = f
          by_value true f = let yes = true_later trail d at (neg_ℤ (neg_ℤ e.literal)) below f in let no : true ≡ false = sym yes ∙ none in absurd cc

-- none but the one literal is in the set
pub landing_alone : (trail : List Entry) (set : ℤ → Bool) (x : ℤ) (place cut : ℕ) → IsLandingSo trail set x place 0 cut → IsLanding trail set x place record { literal = x; cut = cut; other = None }
landing_alone trail set x place cut so = record {
  literal = refl;
  decided = so.decided;
  inside = so.inside;
  falses = λ y has other. true_later trail 0 cut (neg_ℤ y) so.low (so.falses y has other);
  latest = (λ y has. by_test y has (int_eq y x) refl, λ d h high. so.none d h (omega arith) high);
}
  where
    by_test : (y : ℤ) → set y ≡ true → (b : Bool) → int_eq y x ≡ b → int_eq y x ≡ true
    by_test y has true f = f
    by_test y has false f = let no : false ≡ true = so.falses y has f in absurd cc
