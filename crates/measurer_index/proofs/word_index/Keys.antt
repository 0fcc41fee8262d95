-- Words in lexicographic order, by the numbers of their letters.
use Rattle.std.proofs.Common.{◌≡◌, ℕ, zero, suc, ◌+◌, ◌-◌, ◌^◌, ◌≤◌, ◌<◌, inl, inr, Bool, true, false, List, [], ◌∷◌, length, get_or, drop, Option, Some, None, refl, sym, ap, subst, arith}
use Rattle.std.specs.Prelude.{slice_get, nat_lt}
use Rattle.std.specs.Cmp.Lexicographic.{slice_cmp}
use Rattle.std.specs.Ordering.{is_lt, nat_cmp, ordering_then}
use Rattle.std.specs.declared.cmp.Ordering.TheVariants.{Less, Equal, Greater}
use Rattle.std.proofs.lemmas.Bool.{cases_lt}
use Rattle.std.proofs.lemmas.Cmp.{tied_itself, nat_cmp_total}
use Rattle.std.proofs.lemmas.Bool.Decides.{nat_tests}
use Rattle.goals.specs.GoalForm.{GoalForm}
use Rattle.goals.specs.Words.{Word}
use Rattle.goals.specs.declared.goal_letter.GoalLetter.{GoalLetter}
use Rattle.goals.specs.declared.goal_letter.GoalLetter.TheVariants.{Node, Edge, Predicate, Absent, Quoted}
use Rattle.measurer_index.specs.word_index.Order.{letter_key, key_of, keys, ranked, key_at, IsSortedFrom}
use Rattle.measurer_index.specs.word_index.Groups.{IsEnded, IsGroup, IsNarrowed, IsPastEnds}
use Rattle.measurer_index.specs.declared.word_index.group.Group.{Group}

pub key_above : (l : GoalLetter) → 0 < letter_key l
key_above (Edge e) = omega arith
key_above (Node n) = omega arith
key_above (Predicate p) = omega arith
key_above (Absent p) = omega arith
key_above (Quoted q) = omega arith

-- different letters have different numbers
pub same_key : (l m : GoalLetter) → letter_key l ≡ letter_key m → l ≡ m
same_key (Edge a) (Edge b) e = ap Edge (omega arith)
same_key (Edge a) (Node b) e = absurd (omega arith)
same_key (Edge a) (Predicate b) e = absurd (omega arith)
same_key (Edge a) (Absent b) e = absurd (omega arith)
same_key (Edge a) (Quoted b) e = absurd (omega arith)
same_key (Node a) (Edge b) e = absurd (omega arith)
same_key (Node a) (Node b) e = ap Node (omega arith)
same_key (Node a) (Predicate b) e = absurd (omega arith)
same_key (Node a) (Absent b) e = absurd (omega arith)
same_key (Node a) (Quoted b) e = absurd (omega arith)
same_key (Predicate a) (Edge b) e = absurd (omega arith)
same_key (Predicate a) (Node b) e = absurd (omega arith)
same_key (Predicate a) (Predicate b) e = ap Predicate (omega arith)
same_key (Predicate a) (Absent b) e = absurd (omega arith)
same_key (Predicate a) (Quoted b) e = absurd (omega arith)
same_key (Absent a) (Edge b) e = absurd (omega arith)
same_key (Absent a) (Node b) e = absurd (omega arith)
same_key (Absent a) (Predicate b) e = absurd (omega arith)
same_key (Absent a) (Absent b) e = ap Absent (omega arith)
same_key (Absent a) (Quoted b) e = absurd (omega arith)
same_key (Quoted a) (Edge b) e = absurd (omega arith)
same_key (Quoted a) (Node b) e = absurd (omega arith)
same_key (Quoted a) (Predicate b) e = absurd (omega arith)
same_key (Quoted a) (Absent b) e = absurd (omega arith)
same_key (Quoted a) (Quoted b) e = ap Quoted (omega arith)

pub key_is : (o : Option GoalLetter) (l : GoalLetter) → key_of o ≡ letter_key l → o ≡ Some l
key_is None l e = let h = key_above l in absurd (omega arith)
key_is (Some m) l e = ap Some (same_key m l e)

pub no_key : (o : Option GoalLetter) → key_of o < 1 → o ≡ None
no_key None h = refl
no_key (Some l) h = let k = key_above l in absurd (omega arith)

-- the number at a depth is the first one from that depth on
key_first : (w : Word) (d : ℕ) → key_of (slice_get w d) ≡ get_or (drop d (keys w)) 0 0
key_first [] zero = refl
key_first [] (suc d) = refl
key_first (l ∷ w) zero = refl
key_first (l ∷ w) (suc d) = key_first w d

pub keys_from : (w : Word) (d : ℕ) (l : GoalLetter) → slice_get w d ≡ Some l → drop d (keys w) ≡ letter_key l ∷ drop (suc d) (keys w)
keys_from [] d l e = absurd (cc)
keys_from (m ∷ w) zero l e = ap (λ x. letter_key x ∷ keys w) (let f : m ≡ l = cc in f)
keys_from (m ∷ w) (suc d) l e = keys_from w d l e

firsts : (xs ys : List ℕ) → is_lt (slice_cmp nat_cmp ys xs) ≡ false → get_or xs 0 0 ≤ get_or ys 0 0
firsts [] ys h = omega arith
firsts (x ∷ xs) [] h = absurd (cc)
firsts (x ∷ xs) (y ∷ ys) h = by_test (nat_lt y x) refl
  where
    by_test : (t : Bool) → nat_lt y x ≡ t → x ≤ y
    by_test true e = absurd (let f : is_lt (slice_cmp nat_cmp (y ∷ ys) (x ∷ xs)) ≡ true = rw e refl in cc)
    by_test false e = grind (arith, nat_tests)

rests : (x : ℕ) (xs ys : List ℕ) → is_lt (slice_cmp nat_cmp (x ∷ ys) (x ∷ xs)) ≡ false → is_lt (slice_cmp nat_cmp ys xs) ≡ false
rests x xs ys h = subst (λ o. is_lt (ordering_then o (slice_cmp nat_cmp ys xs)) ≡ false) (tied_itself nat_cmp_total x) h

module _ (goals : List GoalForm) (order : List ℕ) (d low high : ℕ) (sorted : IsSortedFrom goals order d low high) where
  -- the numbers at the depth rise
  pub rise : (r s : ℕ) → low ≤ r → r ≤ s → s < high → key_at goals order d r ≤ key_at goals order d s
  rise r s from le to =
      let h = firsts (drop d (keys (ranked goals order r))) (drop d (keys (ranked goals order s))) (sorted r s from le to) in
      omega (arith, key_first (ranked goals order r) d, key_first (ranked goals order s) d)

  -- words that go on with one letter are in order past it
  pub sorted_past : (l : GoalLetter) (from to : ℕ) → low ≤ from → to ≤ high → ((r : ℕ) → from ≤ r → r < to → slice_get (ranked goals order r) d ≡ Some l) → IsSortedFrom goals order (suc d) from to
  sorted_past l from to f t all = λ r s a b c.
      let x = keys_from (ranked goals order r) d l (all r a (omega arith)) in
      let y = keys_from (ranked goals order s) d l (all s (omega arith) c) in
      let h : is_lt (slice_cmp nat_cmp (drop d (keys (ranked goals order s))) (drop d (keys (ranked goals order r)))) ≡ false = sorted r s (omega arith) b (omega arith) in
      rests (letter_key l) (drop (suc d) (keys (ranked goals order r))) (drop (suc d) (keys (ranked goals order s))) (rw (x, y) at h)

  pub below_more : (key middle : ℕ) → low ≤ middle → middle < high → key_at goals order d middle < key → (r : ℕ) → low ≤ r → r < middle + 1 → key_at goals order d r < key
  below_more key middle from lt h r a b = let up = rise r middle a (omega arith) lt in omega arith

  pub above_more : (key middle : ℕ) → low ≤ middle → middle < high → key ≤ key_at goals order d middle → (r : ℕ) → middle ≤ r → r < high → key ≤ key_at goals order d r
  above_more key middle from lt h r a b = let up = rise middle r from a b in omega arith

-- ---- the words of a group that go on with a letter

module _ (goals : List GoalForm) (order : List ℕ) (letter : GoalLetter) (g : Group) (group : IsGroup goals order g) (key low high : ℕ) (is : key ≡ letter_key letter)
    (low_from : g.low ≤ low) (low_to : low ≤ g.high) (low_below : (r : ℕ) → g.low ≤ r → r < low → key_at goals order g.depth r < key) (low_above : (r : ℕ) → low ≤ r → r < g.high → key ≤ key_at goals order g.depth r)
    (high_from : g.low ≤ high) (high_to : high ≤ g.high) (high_below : (r : ℕ) → g.low ≤ r → r < high → key_at goals order g.depth r < key + 1) (high_above : (r : ℕ) → high ≤ r → r < g.high → key + 1 ≤ key_at goals order g.depth r) where
  in_order : low ≤ high
  in_order = elim (cases_lt high low) [
    | inl lt ↦ let a = low_below high high_from lt in let b = high_above high (omega arith) (omega arith) in absurd (omega arith)
    | inr le ↦ le
  ]

  with_letter : (r : ℕ) → low ≤ r → r < high → slice_get (ranked goals order r) g.depth ≡ Some letter
  with_letter r a b =
      let x = low_above r a (omega arith) in
      let y = high_below r (omega arith) b in
      key_is (slice_get (ranked goals order r) g.depth) letter (omega arith)

  all_with_letter : (r : ℕ) → g.low ≤ r → r < g.high → slice_get (ranked goals order r) g.depth ≡ Some letter → (low ≤ r) × (r < high)
  all_with_letter r a b e =
      let k : key_at goals order g.depth r ≡ letter_key letter = ap key_of e in
      let x : low ≤ r = elim (cases_lt r low) [ inl lt ↦ let z = low_below r a lt in absurd (omega arith) | inr le ↦ le ] in
      let y : r < high = elim (cases_lt r high) [ inl lt ↦ lt | inr le ↦ let z = high_above r le b in absurd (omega arith) ] in
      (x, y)

  pub narrowed_is : (depth : ℕ) → depth ≡ g.depth + 1 → g.depth < 2 ^ 64 - 1 → IsNarrowed goals order letter g (record { low = low; high = high; depth = depth; absents = g.absents })
  narrowed_is depth e small =
      let f : suc g.depth ≡ depth = omega arith in
      record {
        group = record {
          range = in_order;
          sorted = subst (λ d. IsSortedFrom goals order d low high) f (sorted_past goals order g.depth g.low g.high group.sorted letter low high low_from high_to with_letter);
          absents = λ r d p from to e. group.absents r d p (omega arith) (omega arith) e;
        };
        deeper = sym f;
        small = small;
        from = low_from;
        to = high_to;
        with_letter = with_letter;
        all_with_letter = all_with_letter;
      }

-- ---- past the words that end

-- where the letters at a depth are none before a rank, and none is missing from there on, those that go on begin there
pub past_is : (goals : List GoalForm) (order : List ℕ) (g : Group) → IsGroup goals order g → (low : ℕ) → g.low ≤ low → low ≤ g.high
    → ((r : ℕ) → g.low ≤ r → r < low → key_at goals order g.depth r < 1) → ((r : ℕ) → low ≤ r → r < g.high → 1 ≤ key_at goals order g.depth r)
    → IsPastEnds goals order g (record { low = low; high = g.high; depth = g.depth; absents = g.absents })
past_is goals order g group low from to below above = record {
  group = record {
    range = to;
    sorted = λ r s f le t. group.sorted r s (omega (arith, from, f)) le t;
    absents = λ r d p f t e. group.absents r d p (omega (arith, from, f)) t e;
  };
  depth = refl;
  high = refl;
  absents = refl;
  from = from;
  ended = λ r f t. no_key (slice_get (ranked goals order r) g.depth) (below r f t);
  going = λ r f t e. let k = above r f t in let z : key_at goals order g.depth r ≡ 0 = ap key_of e in omega (arith, k, z);
}

-- where no letter is there in the last word, none is in those before it
pub ended_is : (goals : List GoalForm) (order : List ℕ) (g : Group) → IsGroup goals order g → g.low < g.high → key_at goals order g.depth (g.high - 1) ≡ 0 → IsEnded goals order g
ended_is goals order g group some none r from to =
    let up = rise goals order g.depth g.low g.high group.sorted r (g.high - 1) from (omega (arith, to)) (omega (arith, some)) in
    no_key (slice_get (ranked goals order r) g.depth) (omega (arith, up, none))

-- ---- two words that are equal up to a place

pub keys_end : (w : Word) (d : ℕ) → length w ≤ d → drop d (keys w) ≡ []
keys_end [] zero le = refl
keys_end [] (suc d) le = refl
keys_end (l ∷ w) zero le = absurd (omega arith)
keys_end (l ∷ w) (suc d) le = keys_end w d (omega arith)

keys_none : (w : Word) (d : ℕ) → slice_get w d ≡ None → drop d (keys w) ≡ []
keys_none [] zero e = refl
keys_none [] (suc d) e = refl
keys_none (l ∷ w) zero e = absurd (cc)
keys_none (l ∷ w) (suc d) e = keys_none w d e

less : (x y : ℕ) → x < y → nat_cmp x y ≡ Less
less x y h = grind (arith, nat_tests)

greater : (x y : ℕ) → y < x → nat_cmp x y ≡ Greater
greater x y h = grind (arith, nat_tests)

module _ (a b : Word) (at : ℕ) (l : GoalLetter) (here : slice_get a at ≡ Some l) where
  mine : drop at (keys a) ≡ letter_key l ∷ drop (suc at) (keys a)
  mine = keys_from a at l here

  pub lower : (o : Option GoalLetter) → slice_get b at ≡ o → letter_key l < key_of o → slice_cmp nat_cmp (drop at (keys a)) (drop at (keys b)) ≡ Less
  lower None e h = absurd (omega arith)
  lower (Some m) e h = rw (mine, keys_from b at m e) (ap (λ o. ordering_then o (slice_cmp nat_cmp (drop (suc at) (keys a)) (drop (suc at) (keys b)))) (less (letter_key l) (letter_key m) h))

  pub higher : (o : Option GoalLetter) → slice_get b at ≡ o → key_of o < letter_key l → slice_cmp nat_cmp (drop at (keys a)) (drop at (keys b)) ≡ Greater
  higher None e h = rw (mine, keys_none b at e) refl
  higher (Some m) e h = rw (mine, keys_from b at m e) (ap (λ o. ordering_then o (slice_cmp nat_cmp (drop (suc at) (keys a)) (drop (suc at) (keys b)))) (greater (letter_key l) (letter_key m) h))

  pub equal : (o : Option GoalLetter) → slice_get b at ≡ o → (letter_key l < key_of o → ⊥) → (key_of o < letter_key l → ⊥) → slice_cmp nat_cmp (drop at (keys a)) (drop at (keys b)) ≡ slice_cmp nat_cmp (drop (suc at) (keys a)) (drop (suc at) (keys b))
  equal None e f g = absurd (g (key_above l))
  equal (Some m) e f g =
      let same : letter_key m ≡ letter_key l = omega arith in
      rw (mine, keys_from b at m e, same) (ap (λ o. ordering_then o (slice_cmp nat_cmp (drop (suc at) (keys a)) (drop (suc at) (keys b)))) (tied_itself nat_cmp_total (letter_key l)))

-- the first word ends
pub shorter : (a b : Word) (at : ℕ) → length a ≤ at → at < length b → slice_cmp nat_cmp (drop at (keys a)) (drop at (keys b)) ≡ Less
shorter a b at le lt = rw (keys_end a at le) (longer b at lt)
  where
    longer : (b : Word) (at : ℕ) → at < length b → slice_cmp nat_cmp [] (drop at (keys b)) ≡ Less
    longer [] at lt = absurd (omega arith)
    longer (m ∷ b) zero lt = refl
    longer (m ∷ b) (suc at) lt = longer b at (omega arith)

-- both end
pub both_end : (a b : Word) (at : ℕ) → length a ≤ at → length b ≤ at → slice_cmp nat_cmp (drop at (keys a)) (drop at (keys b)) ≡ Equal
both_end a b at le to = rw (keys_end a at le, keys_end b at to) refl

get_below : (w : Word) (at : ℕ) → at < length w → (l : GoalLetter) × (slice_get w at ≡ Some l)
get_below [] at lt = absurd (omega arith)
get_below (l ∷ w) zero lt = (l, refl)
get_below (l ∷ w) (suc at) lt = get_below w at (omega arith)

module _ (a b : Word) (at : ℕ) (lt : at < length a) where
  pub lower_at : key_of (slice_get a at) < key_of (slice_get b at) → slice_cmp nat_cmp (drop at (keys a)) (drop at (keys b)) ≡ Less
  lower_at h = let r = get_below a at lt in let k = ap key_of r.1 in lower a b at r.0 r.1 (slice_get b at) refl (omega arith)

  pub higher_at : key_of (slice_get b at) < key_of (slice_get a at) → slice_cmp nat_cmp (drop at (keys a)) (drop at (keys b)) ≡ Greater
  higher_at h = let r = get_below a at lt in let k = ap key_of r.1 in higher a b at r.0 r.1 (slice_get b at) refl (omega arith)

  pub equal_at : key_of (slice_get a at) ≡ key_of (slice_get b at) → slice_cmp nat_cmp (drop at (keys a)) (drop at (keys b)) ≡ slice_cmp nat_cmp (drop (at + 1) (keys a)) (drop (at + 1) (keys b))
  equal_at h =
      let r = get_below a at lt in
      let k = ap key_of r.1 in
      let s : suc at ≡ at + 1 = omega arith in
      subst (λ n. slice_cmp nat_cmp (drop at (keys a)) (drop at (keys b)) ≡ slice_cmp nat_cmp (drop n (keys a)) (drop n (keys b))) s
      (equal a b at r.0 r.1 (slice_get b at) refl (λ x. omega arith) (λ x. omega arith))
