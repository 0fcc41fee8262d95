-- No two pairs have one key.
use Rattle.std.proofs.Common.{◌≡◌, ℕ, ◌+◌, zero, suc, List, [], ◌∷◌, ◌++◌, length, reverse, Option, Some, None, refl, sym, ap, ◌∙◌, subst, ⊎_elim, arith, length-append}
use Rattle.std.specs.Prelude.{slice_get, slice_index_or, Contains}
use Rattle.std.proofs.lemmas.Option.{same_Some, slice_get_within, slice_get-get_or}
use Rattle.cfa.specs.Contexts.{FrameContext, Pair, callers_of}
use Rattle.cfa.proofs.Eaches.{element_at}
use Rattle.unwinder_reach.specs.reached.Searching.{AreEntries, AreKeys, AreNumbered, Extends, HaveNumbers, IsIn, call_words, entry_of, frame_words, key_by}
use Rattle.unwinder_reach.proofs.reached.Lists.{get_end, get_left, in_at, place_of, push_cases, reverse_cons}

-- lists that begin with as many words are equal part by part
split_lists : (xs ys rs ss : List ℕ) → length xs ≡ length ys → xs ++ rs ≡ ys ++ ss → (xs ≡ ys) × (rs ≡ ss)
split_lists [] [] rs ss l e = (refl, e)
split_lists [] (y ∷ ys) rs ss l e = absurd (omega (arith, l))
split_lists (x ∷ xs) [] rs ss l e = absurd (omega (arith, l))
split_lists (x ∷ xs) (y ∷ ys) rs ss l e =
    let heads : x ≡ y = cc in
    let tails : xs ++ rs ≡ ys ++ ss = cc in
    let rest = split_lists xs ys rs ss (omega (arith, l)) tails in
    (λ i. heads i ∷ rest.0 i, rest.1)

split_counts : (xs ys rs ss : List ℕ) → length xs ∷ (xs ++ rs) ≡ length ys ∷ (ys ++ ss) → (xs ≡ ys) × (rs ≡ ss)
split_counts xs ys rs ss e =
    let heads : length xs ≡ length ys = cc in
    let tails : xs ++ rs ≡ ys ++ ss = cc in
    split_lists xs ys rs ss heads tails

frame_of : Option ℕ → List ℕ → FrameContext
frame_of call counters = record { call = call; counters = counters }

abbrev words_then : Option ℕ → List ℕ → List ℕ → List ℕ
words_then call counters rest = (call_words call ++ length counters ∷ counters) ++ rest

split_calls : (a b : Option ℕ) (xs ys rs ss : List ℕ) → words_then a xs rs ≡ words_then b ys ss → (a ≡ b) × (xs ≡ ys) × (rs ≡ ss)
split_calls None None xs ys rs ss e =
    let tails : length xs ∷ (xs ++ rs) ≡ length ys ∷ (ys ++ ss) = cc in
    let s = split_counts xs ys rs ss tails in (refl, s.0, s.1)
split_calls None (Some b) xs ys rs ss e = let bad : zero ≡ 1 = cc in absurd (omega (arith, bad))
split_calls (Some a) None xs ys rs ss e = let bad : 1 ≡ zero = cc in absurd (omega (arith, bad))
split_calls (Some a) (Some b) xs ys rs ss e =
    let same : a ≡ b = cc in
    let tails : length xs ∷ (xs ++ rs) ≡ length ys ∷ (ys ++ ss) = cc in
    let s = split_counts xs ys rs ss tails in (ap Some same, s.0, s.1)

-- frames are told by their words
frame_tells : (f g : FrameContext) → frame_words f ≡ frame_words g → f ≡ g
frame_tells f g e =
    let s = split_calls f.call g.call f.counters g.counters [] [] (ap (λ (l : List ℕ). l ++ []) e) in
    λ i. record { call = s.0 i; counters = s.1 i }

no_number : (place : ℕ) → 0 ≡ place + 1 → ⊥
no_number place e = omega (arith, e)

module _ (table : List (List ℕ)) where
  -- frames with one number are the same
  pub number_tells : (fs gs : List FrameContext) (n : ℕ) → AreNumbered table fs n → AreNumbered table gs n → fs ≡ gs
  number_tells [] [] n h k = refl
  number_tells [] (g ∷ gs) n h k = absurd (no_number k.2 (sym h ∙ k.3))
  number_tells (f ∷ fs) [] n h k = absurd (no_number h.2 (sym k ∙ h.3))
  number_tells (f ∷ fs) (g ∷ gs) n h k =
      let sum : h.2 + 1 ≡ k.2 + 1 = sym h.3 ∙ k.3 in
      let place : h.2 ≡ k.2 = omega (arith, sum) in
      let same : entry_of h.0 f ≡ entry_of k.0 g = same_Some (entry_of h.0 f) (entry_of k.0 g) (sym h.4 ∙ ap (λ i. slice_get table i) place ∙ k.4) in
      let callers : h.0 ≡ k.0 = cc in
      let words : frame_words f ≡ frame_words g = cc in
      let first = frame_tells f g words in
      let rest = number_tells fs gs h.0 h.1 (subst (AreNumbered table gs) (sym callers) k.1) in
      λ i. first i ∷ rest i

  -- where no entry is twice, frames have one number
  pub number_agrees : AreEntries table → (fs : List FrameContext) (n m : ℕ) → AreNumbered table fs n → AreNumbered table fs m → n ≡ m
  number_agrees apart [] n m h k = h ∙ sym k
  number_agrees apart (f ∷ fs) n m h k =
      let callers = number_agrees apart fs h.0 k.0 h.1 k.1 in
      let place = apart h.2 k.2 (entry_of h.0 f) h.4 (k.4 ∙ ap (λ i. Some (entry_of i f)) (sym callers)) in
      h.3 ∙ ap (λ i. i + 1) place ∙ sym k.3

  -- the callers of frames have the number that the entry has
  pub callers_numbered : (fs : List FrameContext) (n m : ℕ) → AreNumbered table fs n → (n ≡ 0 → m ≡ 0) → ((place word : ℕ) (rest : List ℕ) → n ≡ place + 1 → slice_get table place ≡ Some (word ∷ rest) → m ≡ word) → AreNumbered table (callers_of fs) m
  callers_numbered [] n m h none some = none h
  callers_numbered (f ∷ fs) n m h none some = subst (AreNumbered table fs) (sym (some h.2 h.0 (frame_words f) h.3 h.4)) h.1

-- a number stays where the table grows
pub number_stays : (old new : List (List ℕ)) → Extends old new → (fs : List FrameContext) (n : ℕ) → AreNumbered old fs n → AreNumbered new fs n
number_stays old new more [] n h = h
number_stays old new more (f ∷ fs) n h = (h.0, number_stays old new more fs h.0 h.1, h.2, h.3, more.stays h.2 (entry_of h.0 f) h.4)

-- the first frame is added
pub frame_numbered : (old new : List (List ℕ)) (f : FrameContext) (fs : List FrameContext) (callers place n : ℕ) → Extends old new → AreNumbered old fs callers → slice_get new place ≡ Some (entry_of callers f) → n ≡ place + 1 → AreNumbered new (f ∷ fs) n
frame_numbered old new f fs callers place n more h there is = (callers, number_stays old new more fs callers h, place, is, there)

-- keys with their numbers tell pairs
pub key_tells : (table : List (List ℕ)) (n m : ℕ) (p q : Pair) → AreNumbered table p.context.frames n → AreNumbered table q.context.frames m → key_by n p ≡ key_by m q → p ≡ q
key_tells table n m p q h k e =
    let nodes : p.node ≡ q.node = cc in
    let taken : p.context.taken ≡ q.context.taken = cc in
    let number : n ≡ m = cc in
    let frames = number_tells table p.context.frames q.context.frames m (subst (AreNumbered table p.context.frames) number h) k in
    λ i. record { node = nodes i; context = record { frames = frames i; taken = taken i } }

module _ (table keys : List (List ℕ)) (pairs : List Pair) (are : AreKeys table keys pairs) (q : Pair) (n : ℕ) (own : AreNumbered table q.context.frames n) where
  -- the pair whose key is found is the one
  pub key_finds : (i : ℕ) → slice_get keys i ≡ Some (key_by n q) → slice_get pairs i ≡ Some q
  key_finds i e =
      let within = slice_get_within keys i (key_by n q) e in
      let long = are.long in
      let there = element_at pairs i (omega arith) in
      let key = are.each i there.0 there.1 in
      let same = same_Some (key_by key.0 there.0) (key_by n q) (sym key.2 ∙ e) in
      there.1 ∙ ap Some (key_tells table key.0 n there.0 q key.1 own same)

  pub has_pair : Contains keys (key_by n q) → IsIn pairs q
  has_pair h =
      let there : slice_get keys h.0 ≡ Some (key_by n q) = slice_get-get_or keys h.0 (key_by n q) h.1 ∙ ap Some h.2 in
      in_at pairs h.0 q (key_finds h.0 there)

  -- a pair that is there has its key there
  pub has_key : IsIn pairs q → Contains keys (key_by n q)
  has_key i =
      let place = place_of pairs q i in
      let key = are.each place.0 q place.2 in
      let same = number_agrees table are.entries q.context.frames key.0 n key.1 own in
      let there : slice_get keys place.0 ≡ Some (key_by n q) = key.2 ∙ ap (λ m. Some (key_by m q)) same in
      let within = slice_get_within keys place.0 (key_by n q) there in
      (place.0, within, same_Some (slice_index_or keys place.0 (key_by n q)) (key_by n q) (sym (slice_get-get_or keys place.0 (key_by n q) within) ∙ there))

  pub keys_push : AreKeys table (keys ++ key_by n q ∷ []) (pairs ++ q ∷ [])
  keys_push =
      let long = are.long in
      let more = length-append keys (key_by n q ∷ []) in
      let most = length-append pairs (q ∷ []) in
      record {
        entries = are.entries;
        long = omega arith;
        each = λ i p e.
            ⊎_elim (λ old. let key = are.each i p old in (key.0, key.1, get_left keys (key_by n q ∷ []) i (key_by key.0 p) key.2))
            (λ last.
            let place : i ≡ length keys = last.0 ∙ sym long in
            (n, subst (λ r. AreNumbered table r.context.frames n) last.1 own, ap (slice_get (keys ++ key_by n q ∷ [])) place ∙ get_end keys (key_by n q) ∙ ap (λ r. Some (key_by n r)) last.1))
            (push_cases pairs q i p e);
      }

pub keys_stay : (old new keys : List (List ℕ)) (pairs : List Pair) → Extends old new → AreKeys old keys pairs → AreKeys new keys pairs
keys_stay old new keys pairs more are = record {
  entries = more.entries are.entries;
  long = are.long;
  each = λ i p e. let key = are.each i p e in (key.0, number_stays old new more p.context.frames key.0 key.1, key.2);
}

pub numbers_stay : (old new : List (List ℕ)) (pairs : List Pair) (numbers : List ℕ) → Extends old new → HaveNumbers old pairs numbers → HaveNumbers new pairs numbers
numbers_stay old new pairs numbers more have = record {
  long = have.long;
  each = λ i p e. let h = have.each i p e in (h.0, h.1, number_stays old new more p.context.frames h.0 h.2);
}

pub numbers_push : (table : List (List ℕ)) (pairs : List Pair) (numbers : List ℕ) (q : Pair) (n : ℕ) → HaveNumbers table pairs numbers → AreNumbered table q.context.frames n → HaveNumbers table (pairs ++ q ∷ []) (numbers ++ n ∷ [])
numbers_push table pairs numbers q n have own =
    let long = have.long in
    let more = length-append numbers (n ∷ []) in
    let most = length-append pairs (q ∷ []) in
    record {
      long = omega arith;
      each = λ i p e.
          ⊎_elim (λ old. let h = have.each i p old in (h.0, get_left numbers (n ∷ []) i h.0 h.1, h.2))
          (λ last. (n, ap (slice_get (numbers ++ n ∷ [])) (last.0 ∙ sym long) ∙ get_end numbers n, subst (λ r. AreNumbered table r.context.frames n) last.1 own))
          (push_cases pairs q i p e);
    }

pub numbers_reverse : (table : List (List ℕ)) (pairs : List Pair) (numbers : List ℕ) → HaveNumbers table pairs numbers → HaveNumbers table (reverse pairs) (reverse numbers)
numbers_reverse table [] [] h = h
numbers_reverse table [] (n ∷ ns) h = absurd (omega (arith, h.long))
numbers_reverse table (p ∷ ps) [] h = absurd (omega (arith, h.long))
numbers_reverse table (p ∷ ps) (n ∷ ns) h =
    let first = h.each 0 p refl in
    let same : first.0 ≡ n = same_Some first.0 n (sym first.1) in
    let long = h.long in
    let rest = numbers_reverse table ps ns (record { long = omega arith; each = λ i q e. h.each (suc i) q e }) in
    let all = numbers_push table (reverse ps) (reverse ns) p n rest (subst (AreNumbered table p.context.frames) same first.2) in
    subst (λ l. HaveNumbers table l (reverse (n ∷ ns))) (sym (reverse_cons p ps)) (subst (HaveNumbers table (reverse ps ++ p ∷ [])) (sym (reverse_cons n ns)) all)
