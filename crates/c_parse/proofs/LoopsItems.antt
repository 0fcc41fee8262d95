-- The loop over items.
use Rattle.std.proofs.Common.{◌≡◌, ℕ, zero, suc, ◌-◌, ◌<◌, List, [], ◌∷◌, ◌++◌, Some, None, refl, sym, ap, ◌∙◌, append_assoc, arith}
use Rattle.std.proofs.lemmas.List.{append-nil}
use Rattle.c_parse.specs.declared.sign.Terminal.{Terminal}
use Rattle.c_parse.specs.declared.unit.Item.{Item}
use Rattle.c_parse.specs.ReadingItems.{item_at, items_at}

abbrev pub with_items : List Item → List Item × List Terminal → List Item × List Terminal
with_items front x = (front ++ x.0, x.1)

pub with_no_items : (x : List Item × List Terminal) → with_items [] x ≡ x
with_no_items x = refl

-- n is a bound on the items that are still read.
module _ (list : List Item) (n : ℕ) (rest : List Terminal) (total : List Item × List Terminal) (so_far : with_items list (items_at n rest) ≡ total) where
  pub items_stop : item_at rest ≡ None → (list, rest) ≡ total
  unfolding items_at
  items_stop e = at n so_far
    where
      at : (m : ℕ) → with_items list (items_at m rest) ≡ total → (list, rest) ≡ total
      at zero h = rw append-nil at h
      at (suc m) h = rw (e, append-nil) at h

  pub items_go_on : (x : Item) (after : List Terminal) → 0 < n → item_at rest ≡ Some (x, after) → with_items (list ++ x ∷ []) (items_at (n - 1) after) ≡ total
  unfolding items_at
  items_go_on x after lt h =
      let k : n ≡ suc (n - 1) = omega arith in
      let one : with_items list (items_at n rest) ≡ with_items (list ++ x ∷ []) (items_at (n - 1) after) = ap (λ (m : ℕ). with_items list (items_at m rest)) k ∙ rw h (ap (λ is. (is, (items_at (n - 1) after).1)) (simp append_assoc)) in
      sym one ∙ so_far
