-- All items.
use Rattle.std.proofs.Common.{◌≡◌, ℕ, zero, suc, ◌≤◌, ◌<◌, List, [], ◌∷◌, ◌++◌, length, Option, Some, None, refl, sym, ap, subst, ◌∙◌, append_assoc, arith}
use Rattle.std.specs.Prelude.{IfSome}
use Rattle.std.proofs.lemmas.List.{append-nil, length-append}
use Rattle.c_parse.specs.declared.sign.Terminal.{Terminal}
use Rattle.c_parse.specs.declared.unit.Item.{Item}
use Rattle.c_parse.specs.Types.{kind_of}
use Rattle.c_parse.specs.Items.{DerivesItem, DerivesItems, no_items, an_item_and}
use Rattle.c_parse.specs.UnitForm.{EndsAt}
use Rattle.c_parse.specs.ReadingItems.{item_at, after_item, items_at, typed_at}
use Rattle.c_parse.specs.Reading.{type_at}
use Rattle.c_parse.proofs.Takes.{Takes}
use Rattle.c_parse.proofs.TakesItems.{item_takes}
use Rattle.c_parse.proofs.AgainItems.{item_again}

pub record Reads (items : List Item) (tokens rest : List Terminal) : Type 0 where
  pub front : List Terminal
  pub parts : tokens ≡ front ++ rest
  pub fact : DerivesItems items front
  pub stuck : item_at rest ≡ None

nothing_stuck : item_at [] ≡ None
unfolding item_at typed_at type_at kind_of
nothing_stuck = refl

-- an item has a token
pub item_some : {i : Item} {xs : List Terminal} → DerivesItem i xs → 0 < length xs
item_some {i} {xs} d = at xs (item_again d [])
  where
    at : (xs : List Terminal) → item_at (xs ++ []) ≡ Some (i, []) → 0 < length xs
    at [] e = let h = nothing_stuck in absurd cc
    at (x ∷ xs) e = omega arith

pub items_take : (n : ℕ) (ts : List Terminal) → length ts ≤ n → Reads (items_at n ts).0 ts (items_at n ts).1
unfolding items_at
items_take zero [] le = record { front = []; parts = refl; fact = no_items; stuck = nothing_stuck }
items_take zero (t ∷ ts) le = absurd (omega arith)
items_take (suc n) ts le = at (item_at ts) refl (item_takes ts) (items_take n)
  where
    at : (o : Option (Item × List Terminal)) → item_at ts ≡ o → IfSome o (λ x. Takes (λ us. DerivesItem x.0 us) ts x.1) → ((us : List Terminal) → length us ≤ n → Reads (items_at n us).0 us (items_at n us).1)
        → Reads (after_item ts o (items_at n)).0 ts (after_item ts o (items_at n)).1
    at None e d go = record { front = []; parts = refl; fact = no_items; stuck = e }
    at (Some x) e d go =
        let h = go x.1 (omega (arith, ap length d.parts, length-append d.front x.1, item_some d.fact)) in
        record { front = d.front ++ h.front; parts = (let i = h.parts in simp append_assoc cc); fact = an_item_and d.fact h.fact; stuck = h.stuck }

stuck_at : (n : ℕ) (rest : List Terminal) → item_at rest ≡ None → items_at n rest ≡ ([], rest)
unfolding items_at
stuck_at zero rest e = refl
stuck_at (suc n) rest e = rw e refl

pub items_again : {is : List Item} {xs : List Terminal} → DerivesItems is xs → (n : ℕ) (rest : List Terminal) → length xs ≤ n → item_at rest ≡ None → items_at n (xs ++ rest) ≡ (is, rest)
unfolding items_at
items_again no_items n rest le stuck = stuck_at n rest stuck
items_again (an_item_and {i = i} {is = is} {ts = ts} {us = us} d ds) n rest le stuck = at n le (λ k small. items_again ds k rest small stuck)
  where
    at : (n : ℕ) → length (ts ++ us) ≤ n → ((k : ℕ) → length us ≤ k → items_at k (us ++ rest) ≡ (is, rest)) → items_at n (ts ++ us ++ rest) ≡ (i ∷ is, rest)
    at zero le go = absurd (omega (arith, length-append ts us, item_some d))
    at (suc n) le go = rw (append_assoc, item_again d (us ++ rest), go n (omega (arith, length-append ts us, item_some d))) refl

-- no front of what is stuck derives as an item, and where none does, reading is stuck
pub stuck_is : (rest : List Terminal) → item_at rest ≡ None → (i : Item) (x y : List Terminal) → rest ≡ x ++ y → DerivesItem i x → ⊥
stuck_is rest e i x y parts d = let h = item_again d y in let same : item_at rest ≡ item_at (x ++ y) = ap item_at parts in cc

pub is_stuck : (rest : List Terminal) → ((i : Item) (x y : List Terminal) → rest ≡ x ++ y → DerivesItem i x → ⊥) → item_at rest ≡ None
is_stuck rest no_item = at (item_at rest) refl (item_takes rest)
  where
    at : (o : Option (Item × List Terminal)) → item_at rest ≡ o → IfSome o (λ x. Takes (λ us. DerivesItem x.0 us) rest x.1) → item_at rest ≡ None
    at None e d = e
    at (Some x) e d = absurd (no_item x.0 d.front x.1 d.parts d.fact)

-- ---- what the items that were read say of all the tokens

module _ (ts : List Terminal) where
  pub all_derive : (is : List Item) → items_at (length ts) ts ≡ (is, []) → DerivesItems is ts
  all_derive is e =
      let h = items_take (length ts) ts (omega arith) in
      let nil : (items_at (length ts) ts).1 ≡ [] = ap (λ x. x.1) e in
      let same : (items_at (length ts) ts).0 ≡ is = ap (λ x. x.0) e in
      let whole : DerivesItems (items_at (length ts) ts).0 ts = subst (λ us. DerivesItems (items_at (length ts) ts).0 us) (sym (h.parts ∙ ap (λ us. h.front ++ us) nil ∙ append-nil h.front)) h.fact in
      subst (λ js. DerivesItems js ts) same whole

  pub rest_ends : (is : List Item) (t : Terminal) (behind : List Terminal) → items_at (length ts) ts ≡ (is, t ∷ behind) → EndsAt ts t
  rest_ends is t behind e =
      let h = items_take (length ts) ts (omega arith) in
      let same : (items_at (length ts) ts).1 ≡ t ∷ behind = ap (λ x. x.1) e in
      record { items = (items_at (length ts) ts).0; front = h.front; behind = behind; parts = h.parts ∙ ap (λ us. h.front ++ us) same; before = h.fact; none = stuck_is (t ∷ behind) (rw same at h.stuck) }

  pub derived_are_read : (is : List Item) → DerivesItems is ts → items_at (length ts) ts ≡ (is, [])
  derived_are_read is d = ap (items_at (length ts)) (sym (append-nil ts)) ∙ items_again d (length ts) [] (omega arith) nothing_stuck

  pub end_is_read : (t : Terminal) → (d : EndsAt ts t) → items_at (length ts) ts ≡ (d.items, t ∷ d.behind)
  end_is_read t d = ap (items_at (length ts)) d.parts ∙ items_again d.before (length ts) (t ∷ d.behind) (omega (arith, ap length d.parts, length-append d.front (t ∷ d.behind))) (is_stuck (t ∷ d.behind) d.none)

pub one_unit : (ts : List Terminal) (is js : List Item) → DerivesItems is ts → DerivesItems js ts → is ≡ js
one_unit ts is js d e = ap (λ x. x.0) (sym (derived_are_read ts is d) ∙ derived_are_read ts js e)
