-- Where repeated segments end.
use Rattle.std.proofs.Common.{◌≡◌, ℕ, zero, suc, ◌+◌, ◌≤◌, ◌<◌, Bool, true, false, Some, None, List, length, get_or, inl, inr, refl, sym, ◌∙◌, subst, arith, All}
use Rattle.std.proofs.lemmas.Bool.{cases_lt}
use Rattle.patterns.specs.Match.{Turns}
use Rattle.patterns.specs.Places.{IsMarked, EndsOf, Rounds, union}
use Rattle.patterns.proofs.PlacesLaws.{Forward, marked_below, ends_after, union_parts, union_first, union_second, length-union}

module _ (One : ℕ → ℕ → Type 0) where
  pub no_turns : (s : List Bool) → EndsOf (Turns One 0) s s
  no_turns s = record {
    size = refl;
    marked = λ j lt. ((λ h. (j, (h, refl))), (λ (i, (h, e)). subst (IsMarked s) e h));
  }

  pub one_more_turn : Forward One → (c : ℕ) (s a b : List Bool) → EndsOf (Turns One c) s a → EndsOf One a b → EndsOf (Turns One (c + 1)) s b
  one_more_turn forward c s a b x y =
      let e : suc c ≡ c + 1 = omega arith in
      subst (λ n. EndsOf (Turns One n) s b) e (ends_after (Turns One c) One forward s a b x y)

  -- no count is between
  pub no_rounds : (least most : ℕ) (s e : List Bool) → most < least → length e ≡ length s → All (λ x. x ≡ false) e → EndsOf (Rounds One least (Some most)) s e
  no_rounds least most s e lt size none = record {
    size = size;
    marked = λ j below. ((λ h. let f : get_or e j false ≡ false = none j false below in let x : true ≡ false = sym h ∙ f in cc), (λ (i, (h, (c, (low, (high, turns))))). absurd (omega arith)));
  }

  pub first_rounds : (least : ℕ) (s a : List Bool) → EndsOf (Turns One least) s a → EndsOf (Rounds One least (Some (least + 0))) s a
  first_rounds least s a x = record {
    size = x.size;
    marked = λ j below. (
      (λ h. let (i, (si, t)) = (x.marked j below).0 h in (i, (si, (least, (omega arith, (omega arith, t)))))),
      (λ (i, (si, (c, (low, (high, t))))). let e : c ≡ least = omega arith in (x.marked j below).1 (i, (si, subst (λ n. Turns One n i j) e t))),
    );
  }

  pub more_rounds : Forward One → (least k : ℕ) (s a b : List Bool) → EndsOf (Rounds One least (Some (least + k))) s a → EndsOf One a b
      → EndsOf (Rounds One least (Some (least + (k + 1)))) s (union a b)
  more_rounds forward least k s a b x y = let e : length a ≡ length b = sym y.size in let u : length (union a b) ≡ length a = length-union a b e in record {
    size = u ∙ x.size;
    marked = λ j below. (
      (λ h. elim (union_parts a b j e h) [
        | inl p ↦ let (i, (si, (c, (low, (high, t))))) = (x.marked j (omega arith)).0 p in (i, (si, (c, (low, (omega arith, t)))))
        | inr q ↦ let (m, (mm, o)) = (y.marked j (omega arith)).0 q in
            let (i, (si, (c, (low, (high, t))))) = (x.marked m (marked_below a m mm)).0 mm in
            (i, (si, (suc c, (omega arith, (omega arith, (m, (t, o)))))))
      ]),
      (λ (i, (si, (c, (low, (high, t))))). more_at forward least k s a b x y j below i si c low high t),
    );
  }
    where
      more_at : Forward One → (least k : ℕ) (s a b : List Bool) → EndsOf (Rounds One least (Some (least + k))) s a → EndsOf One a b
          → (j : ℕ) → j < length (union a b) → (i : ℕ) → IsMarked s i → (c : ℕ) → least ≤ c → c ≤ least + (k + 1) → Turns One c i j → IsMarked (union a b) j
      more_at forward least k s a b x y j below i si c low high t =
          let e : length a ≡ length b = sym y.size in let u : length (union a b) ≡ length a = length-union a b e in
          elim (cases_lt (least + k) c) [
            | inl past ↦ last c low high past t
            | inr here ↦ union_first a b j e ((x.marked j (omega arith)).1 (i, (si, (c, (low, (omega arith, t))))))
          ]
        where
          last : (c : ℕ) → least ≤ c → c ≤ least + (k + 1) → least + k < c → Turns One c i j → IsMarked (union a b) j
          last zero low high past t = absurd (omega arith)
          last (suc c) low high past (m, (t, o)) =
              let e : length a ≡ length b = sym y.size in let u : length (union a b) ≡ length a = length-union a b e in
              let le = forward m j o in
              let mm = (x.marked m (omega arith)).1 (i, (si, (c, (omega arith, (omega arith, t))))) in
              union_second a b j e ((y.marked j (omega arith)).1 (m, (mm, o)))

  -- a set of places that holds those of the first, each of them the end of enough turns
  pub record Growing (least : ℕ) (s row all : List Bool) : Type 0 where
    pub size : length all ≡ length s
    pub held : (j : ℕ) → IsMarked row j → IsMarked all j
    pub sound : (j : ℕ) → IsMarked all j → (i : ℕ) × (IsMarked s i × ((c : ℕ) × ((least ≤ c) × Turns One c i j)))

  pub grow_first : (least : ℕ) (s row : List Bool) → EndsOf (Turns One least) s row → Growing least s row row
  grow_first least s row x = record {
    size = x.size;
    held = λ j h. h;
    sound = λ j h. let (i, (si, t)) = (x.marked j (marked_below row j h)).0 h in (i, (si, (least, (omega arith, t))));
  }

  pub grow_more : (least : ℕ) (s row a b : List Bool) → Growing least s row a → EndsOf One a b → Growing least s row (union a b)
  grow_more least s row a b x y = let e : length a ≡ length b = sym y.size in let u : length (union a b) ≡ length a = length-union a b e in record {
    size = u ∙ x.size;
    held = λ j h. union_first a b j e (x.held j h);
    sound = λ j h. elim (union_parts a b j e h) [
      | inl p ↦ x.sound j p
      | inr q ↦ let (m, (mm, o)) = (y.marked j (marked_below b j q)).0 q in
          let (i, (si, (c, (low, t)))) = x.sound m mm in (i, (si, (suc c, (omega arith, (m, (t, o))))))
    ];
  }

  pub grown : Forward One → (least : ℕ) (s row a b : List Bool) → EndsOf (Turns One least) s row → Growing least s row a → EndsOf One a b
      → union a b ≡ a → EndsOf (Rounds One least None) s (union a b)
  grown forward least s row a b first x y same = subst (EndsOf (Rounds One least None) s) (sym same) (record {
    size = x.size;
    marked = λ j below. (
      (λ h. let (i, (si, (c, (low, t)))) = x.sound j h in (i, (si, (c, (low, (tt, t)))))),
      (λ (i, (si, (c, (low, (any, t))))). reach i si c low j below t),
    );
  })
    where
      reach : (i : ℕ) → IsMarked s i → (c : ℕ) → least ≤ c → (j : ℕ) → j < length a → Turns One c i j → IsMarked a j
      reach i si zero low j below t =
          let e : least ≡ 0 = omega arith in let f : length row ≡ length a = first.size ∙ sym x.size in
          x.held j ((first.marked j (omega arith)).1 (i, (si, subst (λ n. Turns One n i j) (sym e) t)))
      reach i si (suc c) low j below t = elim (cases_lt c least) [
        | inl at ↦ let e : suc c ≡ least = omega arith in let f : length row ≡ length a = first.size ∙ sym x.size in
            x.held j ((first.marked j (omega arith)).1 (i, (si, subst (λ n. Turns One n i j) e t)))
        | inr above ↦ let (m, (u, o)) = t in
            let le = forward m j o in
            let mm = reach i si c above m (omega arith) u in
            let e : length a ≡ length b = sym y.size in
            subst (λ v. IsMarked v j) same (union_second a b j e ((y.marked j (omega arith)).1 (m, (mm, o))))
      ]
