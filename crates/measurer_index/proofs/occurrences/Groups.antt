-- The places by numbers.
use Rattle.std.proofs.Common.{◌≡◌, ℕ, suc, ◌+◌, ◌-◌, ◌≤◌, ◌<◌, inl, inr, List, [], ◌∷◌, ◌++◌, length, refl, sym, ◌∙◌, ap, subst, arith}
use Rattle.std.specs.Prelude.{slice_index}
use Rattle.std.proofs.lemmas.Bool.{cases_lt}
use Rattle.std.proofs.lemmas.List.{get_or_append_left, get_or_push, length_push, get_or_past}
use Rattle.measurer_index.specs.occurrences.Places.{StandsIn, StandsFrom, IsFirstFrom, IsNext, AreFirstsFrom, IsAfterPart, ArePlaces, IsGroup, AreGroups, AreTables, IsAddedGroup, IsBoundary}

-- the entries of one list are those of the other below its end
abbrev pub IsKept : List ℕ → List ℕ → Type 0
IsKept old new = (k : ℕ) → k < length old → slice_index new k ≡ slice_index old k

pub push_kept : (old : List ℕ) (y : ℕ) → IsKept old (old ++ y ∷ [])
push_kept old y k lt = get_or_append_left old (y ∷ []) 0 k lt

module _ (numbers : List ℕ) (x : ℕ) where
  -- ---- a chain of places, up to the place at which it stands

  pub record IsChainTo (old places : List ℕ) (place : ℕ) : Type 0 where
    pub kept : IsKept old places
    pub forward : length old ≤ length places
    pub within : place ≤ length numbers
    pub each : ArePlaces numbers x places (length old) (length places)
    pub is : place < length numbers → slice_index numbers place ≡ x
    pub none_before : (start : ℕ) → IsAfterPart places (length old) (length places) start → StandsIn numbers x start place → ⊥

  pub chain_begins : (old : List ℕ) (first : ℕ) → IsNext numbers x 0 first → IsChainTo old old first
  chain_begins old first h = record {
    kept = λ k lt. refl;
    forward = omega arith;
    within = h.within;
    each = λ i start ge lt after le. absurd (omega arith);
    is = h.is;
    none_before = λ start after (k, (from, rest)). h.none_before (k, (omega arith, rest));
  }

  same_after : (old new : List ℕ) → IsKept old new → (begin i start : ℕ) → i ≤ length old → IsAfterPart new begin i start → IsAfterPart old begin i start
  same_after old new kept begin i start le after lt = subst (λ y. y < start) (kept (i - 1) (omega arith)) (after lt)

  pub chain_next : (old places : List ℕ) (place next : ℕ) → place < length numbers → IsNext numbers (slice_index numbers place) (suc place) next → IsChainTo old places place → IsChainTo old (places ++ place ∷ []) next
  chain_next old places place next lt n h =
      let size = length_push places place in
      let last = get_or_push places place 0 (length places) refl in
      let forward = h.forward in
      let is = h.is lt in
      record {
        kept = λ k l. push_kept places place k (omega arith) ∙ h.kept k l;
        forward = omega arith;
        within = n.within;
        each = λ i start ge below after le. elim (cases_lt i (length places)) [
          | inl early ↦ subst (λ y. IsFirstFrom numbers x start y) (sym (push_kept places place i early)) (h.each i start ge early (same_after places (places ++ place ∷ []) (push_kept places place) (length old) i start (omega arith) after) (subst (λ y. start ≤ y) (push_kept places place i early) le))
          | inr late ↦
              let e : i ≡ length places = omega arith in
              let read : slice_index (places ++ place ∷ []) i ≡ place = ap (λ j. slice_index (places ++ place ∷ []) j) e ∙ last in
              let up : start ≤ place = subst (λ y. start ≤ y) read le in
              let here : IsFirstFrom numbers x start place = record {
                after = up;
                within = lt;
                is = is;
                none_before = h.none_before start (same_after places (places ++ place ∷ []) (push_kept places place) (length old) (length places) start (omega arith) (subst (λ j. IsAfterPart (places ++ place ∷ []) (length old) j start) e after));
              } in
              subst (λ y. IsFirstFrom numbers x start y) (sym read) here
        ];
        is = λ l. n.is l ∙ is;
        none_before = λ start after (k, (from, (below, at))).
            let e : length (places ++ place ∷ []) - 1 ≡ length places = omega arith in
            let past : place < start = subst (λ y. y < start) (ap (λ j. slice_index (places ++ place ∷ []) j) e ∙ last) (after (omega arith)) in
            n.none_before (k, (omega arith, (below, at ∙ sym is)));
      }

  pub chain_ends : (old places : List ℕ) (place : ℕ) → length numbers ≤ place → IsChainTo old places place → IsAddedGroup numbers x old places
  chain_ends old places place past h = let within = h.within in record {
    kept = h.kept;
    group = record {
      forward = h.forward;
      within = omega arith;
      each = h.each;
      none_after = λ start after (k, (from, (below, at))). h.none_before start after (k, (from, (omega arith, at)));
    };
  }

  -- ---- the groups of all numbers

  pub group_kept : (old new : List ℕ) (begin end : ℕ) → IsKept old new → length old ≤ length new → IsGroup numbers x old begin end → IsGroup numbers x new begin end
  group_kept old new begin end kept le h = let within = h.within in let forward = h.forward in record {
    forward = h.forward;
    within = omega arith;
    each = λ i start ge lt after from. subst (λ y. IsFirstFrom numbers x start y) (sym (kept i (omega arith))) (h.each i start ge lt (same_after old new kept begin i start (omega arith) after) (subst (λ y. start ≤ y) (kept i (omega arith)) from));
    none_after = λ start after s. h.none_after start (same_after old new kept begin end start within after) s;
  }

  -- ---- what a search among them finds

  pub found_place : (places : List ℕ) (begin end start i : ℕ) → IsGroup numbers x places begin end → IsBoundary places begin end start i → i < end → IsFirstFrom numbers x start (slice_index places i)
  found_place places begin end start i g h lt = g.each i start h.after lt h.below (h.here lt)

  pub found_none : (places : List ℕ) (begin end start i : ℕ) → IsGroup numbers x places begin end → IsBoundary places begin end start i → end ≤ i → StandsFrom numbers x start → ⊥
  found_none places begin end start i g h le s = let within = h.within in let e : i ≡ end = omega arith in g.none_after start (subst (λ j. IsAfterPart places begin j start) e h.below) s

module _ (numbers : List ℕ) where
  pub group_added : (places new begins : List ℕ) (i : ℕ) → length begins ≡ i + 1 → slice_index begins i ≡ length places → IsAddedGroup numbers i places new → AreGroups numbers places begins i → AreGroups numbers new (begins ++ length new ∷ []) (i + 1)
  group_added places new begins i size last added h x lt =
      let grown = added.group.forward in
      let kept : (k : ℕ) → k < length begins → slice_index (begins ++ length new ∷ []) k ≡ slice_index begins k = push_kept begins (length new) in
      elim (cases_lt x i) [
        | inl early ↦
            let g = group_kept numbers x places new (slice_index begins x) (slice_index begins (x + 1)) added.kept grown (h x early) in
            subst (λ b. IsGroup numbers x new b (slice_index (begins ++ length new ∷ []) (x + 1))) (sym (kept x (omega arith))) (subst (λ e. IsGroup numbers x new (slice_index begins x) e) (sym (kept (x + 1) (omega arith))) g)
        | inr late ↦
            let e : x ≡ i = omega arith in
            let begin : slice_index (begins ++ length new ∷ []) x ≡ length places = ap (λ k. slice_index (begins ++ length new ∷ []) k) e ∙ (kept i (omega arith) ∙ last) in
            let end : slice_index (begins ++ length new ∷ []) (x + 1) ≡ length new = get_or_push begins (length new) 0 (x + 1) (omega arith) in
            subst (λ y. IsGroup numbers y new (slice_index (begins ++ length new ∷ []) x) (slice_index (begins ++ length new ∷ []) (x + 1))) (sym e) (subst (λ b. IsGroup numbers i new b (slice_index (begins ++ length new ∷ []) (x + 1))) (sym begin) (subst (λ z. IsGroup numbers i new (length places) z) (sym end) added.group))
      ]

  -- no number stands that is above the greatest one
  pub none_beyond : (firsts : List ℕ) (x : ℕ) → AreFirstsFrom numbers 0 firsts → length firsts ≤ x → StandsFrom numbers x 0 → ⊥
  none_beyond firsts x h le s = (subst (λ p. IsNext numbers x 0 p) (get_or_past firsts x (length numbers) le) (h x).1).none_before s

  pub tables_are : (firsts places begins : List ℕ) (i : ℕ) → i ≡ length firsts → length begins ≡ i + 1 → AreFirstsFrom numbers 0 firsts → AreGroups numbers places begins i → AreTables numbers places begins
  tables_are firsts places begins i all size h g = record {
    groups = λ x lt. g x (omega arith);
    none_above = λ x le. none_beyond firsts x h (omega arith);
  }

  pub stands_later : (x start : ℕ) → StandsFrom numbers x start → StandsFrom numbers x 0
  stands_later x start (k, (from, rest)) = (k, (omega arith, rest))

  pub group_at : (places begins : List ℕ) (x begin end : ℕ) → AreTables numbers places begins → x + 1 < length begins → begin ≡ slice_index begins x → end ≡ slice_index begins (x + 1) → IsGroup numbers x places begin end
  group_at places begins x begin end h lt b e = subst (λ y. IsGroup numbers x places y end) (sym b) (subst (λ y. IsGroup numbers x places (slice_index begins x) y) (sym e) (h.groups x (omega arith)))
