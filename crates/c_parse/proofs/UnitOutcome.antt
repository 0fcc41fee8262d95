-- What is answered for a unit, and why.
use Rattle.std.proofs.Common.{◌≡◌, ℕ, List, [], ◌∷◌, length, Option, Some, None, Ok, Err, refl, subst}
use Rattle.fq_core.specs.declared.refusal.Place.{Place}
use Rattle.c_parse.specs.declared.sign.Terminal.{Terminal}
use Rattle.c_parse.specs.declared.unit.Item.{Item}
use Rattle.c_parse.specs.declared.unit.Unit.{Unit as Whole}
use Rattle.c_parse.specs.Items.{DerivesItems}
use Rattle.fq_core.specs.Refusals.{refusal}
use Rattle.c_parse.specs.Expression.{line_of}
use Rattle.c_parse.specs.UnitForm.{IsUnit, IsRefusedUnit, early, no_item}
use Rattle.c_parse.specs.Outcome.{early_cause, by_early, by_rest, unit_outcome}
use Rattle.c_parse.specs.ReadingItems.{items_at}
use Rattle.fq_core.proofs.RefusalLaws.{same_refusal}
use Rattle.c_parse.proofs.OutcomeLaws.{early-none, within-none, early-some, some-early}
use Rattle.c_parse.proofs.UnitLaws.{all_derive, rest_ends, derived_are_read, end_is_read}

pub unit_accepted : (ts : List Terminal) (u : Whole) → unit_outcome ts ≡ Ok u → IsUnit ts u.items
unfolding unit_outcome
unit_accepted ts u e = at (early_cause ts) (items_at (length ts) ts).0 (items_at (length ts) ts).1 refl refl e
  where
    at : (c : Option (ℕ × Place)) (is : List Item) (rest : List Terminal) → early_cause ts ≡ c → items_at (length ts) ts ≡ (is, rest) → by_early c (by_rest is rest) ≡ Ok u → IsUnit ts u.items
    at (Some c) is rest f g e = absurd cc
    at None is (t ∷ rest) f g e = absurd cc
    at None is [] f g e =
        let same : (let x : Whole = record { items = is } in x) ≡ u = cc in
        record { within = early-none ts f; spelled = subst (λ (v : Whole). DerivesItems v.items ts) same (all_derive ts is g) }

pub unit_accepts : (ts : List Terminal) (is : List Item) → IsUnit ts is → unit_outcome ts ≡ Ok (record { items = is })
unfolding unit_outcome
unit_accepts ts is a = let e = derived_are_read ts is a.spelled in rw (within-none ts a.within, e) refl

pub unit_refused : (ts : List Terminal) (code : ℕ) (p : Place) → unit_outcome ts ≡ Err (refusal code p) → IsRefusedUnit ts code p
unfolding unit_outcome
unit_refused ts code p e = at (early_cause ts) (items_at (length ts) ts).0 (items_at (length ts) ts).1 refl refl e
  where
    at : (c : Option (ℕ × Place)) (is : List Item) (rest : List Terminal) → early_cause ts ≡ c → items_at (length ts) ts ≡ (is, rest) → by_early c (by_rest is rest) ≡ Err (refusal code p) → IsRefusedUnit ts code p
    at (Some c) is rest f g e = same_refusal {X = Whole} c.0 code c.1 p (IsRefusedUnit ts) e (early (early-some ts c f))
    at None is [] f g e = absurd cc
    at None is (t ∷ rest) f g e = same_refusal {X = Whole} 20 code (line_of t) p (IsRefusedUnit ts) e (no_item t (early-none ts f) (rest_ends ts is t rest g))

pub unit_refuses : {ts : List Terminal} {code : ℕ} {p : Place} → IsRefusedUnit ts code p → unit_outcome ts ≡ Err (refusal code p)
unfolding unit_outcome
unit_refuses (early d) = rw (some-early d) refl
unit_refuses {ts} (no_item t w ends) = let e = end_is_read ts t ends in rw (within-none ts w, e) refl
