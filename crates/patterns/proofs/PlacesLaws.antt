-- Where segments end, by sets of places.
use Rattle.std.proofs.Common.{◌≡◌, ℕ, zero, suc, ◌+◌, ◌≤◌, ◌<◌, ◌⊎◌, ◌↔◌, ◌||◌, Bool, true, false, cond, count_by, take, List, [], ◌∷◌, ◌++◌, length, get_or, inl, inr, eq-eqb, eqb-true, ◌==◌, zero-add, length-append, refl, sym, ◌∙◌, ap, subst, arith, All}
use Rattle.std.proofs.lemmas.Bool.{cases_lt}
use Rattle.std.proofs.lemmas.List.{get_or_push}
use Rattle.std.proofs.lemmas.List.Sums.{sum_by-cons}
use lib.ListN.{get_or-append}
use Rattle.patterns.specs.Match.{Step, Form, nothing, letter, dot, either, repeat, Match, LetterMatch, Turns}
use Rattle.patterns.specs.Places.{IsMarked, EndsAt, EndsOf, union}

-- segments go forward
abbrev pub Forward : (ℕ → ℕ → Type 0) → Type 0
Forward One = (i j : ℕ) → One i j → i ≤ j

pub turns_forward : (One : ℕ → ℕ → Type 0) → Forward One → (c : ℕ) → Forward (Turns One c)
turns_forward One h zero i j e = omega arith
turns_forward One h (suc c) i j (m, (t, o)) = let x = turns_forward One h c i m t in let y = h m j o in omega arith

letter_forward : {L : Type 0} (path : ℕ → Step L) (l : L) → Forward (LetterMatch path l)
letter_forward path l i j (inl h) = omega (arith, h.0)
letter_forward path l i j (inr h) = omega (arith, h.0)

pub match_forward : {L : Type 0} (path : ℕ → Step L) (f : Form L) → Forward (Match path f)
match_forward path nothing i j h = absurd h
match_forward path (letter l) i j h = letter_forward path l i j h
match_forward path (dot a b) i j (m, (x, y)) = let p = match_forward path a i m x in let q = match_forward path b m j y in omega arith
match_forward path (either a b) i j (inl h) = match_forward path a i j h
match_forward path (either a b) i j (inr h) = match_forward path b i j h
match_forward path (repeat a least most) i j h = turns_forward (Match path a) (match_forward path a) h.0 i j h.1.1.1

pub marked_below : (places : List Bool) (k : ℕ) → IsMarked places k → k < length places
marked_below [] k h = cc
marked_below (x ∷ xs) zero h = omega arith
marked_below (x ∷ xs) (suc k) h = let lt = marked_below xs k h in omega arith

-- one segment after another
pub ends_after : (A B : ℕ → ℕ → Type 0) → Forward B → (s m e : List Bool) → EndsOf A s m → EndsOf B m e → EndsOf (λ i j. (k : ℕ) × (A i k × B k j)) s e
ends_after A B forward s m e x y = record {
  size = y.size ∙ x.size;
  marked = λ j lt. (
    (λ h. let (k, (mk, b)) = (y.marked j lt).0 h in let (i, (si, a)) = (x.marked k (marked_below m k mk)).0 mk in (i, (si, (k, (a, b))))),
    (λ (i, (si, (k, (a, b)))). let le = forward k j b in let below : k < length m = omega (arith, y.size) in
        (y.marked j lt).1 (k, ((x.marked k below).1 (i, (si, a)), b))),
  );
}

pub length-union : (a b : List Bool) → length a ≡ length b → length (union a b) ≡ length a
length-union [] b e = refl
length-union (x ∷ xs) [] e = cc
length-union (x ∷ xs) (y ∷ ys) e = let f = length-union xs ys (omega arith) in omega arith

either_true : (x y : Bool) → (x || y) ≡ true → (x ≡ true) ⊎ (y ≡ true)
either_true true y h = inl refl
either_true false y h = inr h

second_true : (x y : Bool) → y ≡ true → (x || y) ≡ true
second_true true y h = refl
second_true false y h = h

-- a place of the union is one of a set or of the other
pub union_parts : (a b : List Bool) (k : ℕ) → length a ≡ length b → IsMarked (union a b) k → IsMarked a k ⊎ IsMarked b k
union_parts [] b k e h = cc
union_parts (x ∷ xs) [] k e h = cc
union_parts (x ∷ xs) (y ∷ ys) zero e h = either_true x y h
union_parts (x ∷ xs) (y ∷ ys) (suc k) e h = union_parts xs ys k (omega arith) h

pub union_first : (a b : List Bool) (k : ℕ) → length a ≡ length b → IsMarked a k → IsMarked (union a b) k
union_first [] b k e h = cc
union_first (x ∷ xs) [] k e h = cc
union_first (x ∷ xs) (y ∷ ys) zero e h = ap (λ v. v || y) h
union_first (x ∷ xs) (y ∷ ys) (suc k) e h = union_first xs ys k (omega arith) h

pub union_second : (a b : List Bool) (k : ℕ) → length a ≡ length b → IsMarked b k → IsMarked (union a b) k
union_second [] [] k e h = cc
union_second [] (y ∷ ys) k e h = cc
union_second (x ∷ xs) [] k e h = cc
union_second (x ∷ xs) (y ∷ ys) zero e h = second_true x y h
union_second (x ∷ xs) (y ∷ ys) (suc k) e h = union_second xs ys k (omega arith) h

-- one segment or the other
pub ends_either : (A B : ℕ → ℕ → Type 0) (s a b : List Bool) → EndsOf A s a → EndsOf B s b → EndsOf (λ i j. A i j ⊎ B i j) s (union a b)
ends_either A B s a b x y = let e : length a ≡ length b = x.size ∙ sym y.size in record {
  size = length-union a b e ∙ x.size;
  marked = λ j lt. let u : length (union a b) ≡ length a = length-union a b e in (
    (λ h. elim (union_parts a b j e h) [
      | inl p ↦ let (i, (si, m)) = (x.marked j (omega arith)).0 p in (i, (si, inl m))
      | inr q ↦ let (i, (si, m)) = (y.marked j (omega arith)).0 q in (i, (si, inr m))
    ]),
    (λ (i, (si, m)). elim m [
      | inl p ↦ union_first a b j e ((x.marked j (omega arith)).1 (i, (si, p)))
      | inr q ↦ union_second a b j e ((y.marked j (omega arith)).1 (i, (si, q)))
    ]),
  );
}

-- no segment
pub ends_never : (P : ℕ → ℕ → Type 0) → ((i j : ℕ) → P i j → ⊥) → (s e : List Bool) → length e ≡ length s → All (λ x. x ≡ false) e → EndsOf P s e
ends_never P never s e size none = record {
  size = size;
  marked = λ j lt. (
    (λ h. let f : get_or e j false ≡ false = none j false lt in let x : true ≡ false = sym h ∙ f in cc),
    (λ (i, (si, m)). absurd (never i j m)),
  );
}

-- one more place
union_suc : (a b : List Bool) (i : ℕ) (d e : Bool) → i < length a → i < length b → union (take (suc i) a) (take (suc i) b) ≡ union (take i a) (take i b) ++ (get_or a i d || get_or b i e) ∷ []
union_suc [] b i d e x y = absurd (omega arith)
union_suc (x ∷ xs) [] i d e p q = absurd (omega arith)
union_suc (x ∷ xs) (y ∷ ys) zero d e p q = refl
union_suc (x ∷ xs) (y ∷ ys) (suc i) d e p q = ap (λ l. (x || y) ∷ l) (union_suc xs ys i d e (omega arith) (omega arith))

pub union_more : (a b : List Bool) (i : ℕ) (d e : Bool) → i < length a → i < length b → union (take (i + 1) a) (take (i + 1) b) ≡ union (take i a) (take i b) ++ (get_or a i d || get_or b i e) ∷ []
union_more a b i d e x y = let n : i + 1 ≡ suc i = omega arith in ap (λ k. union (take k a) (take k b)) n ∙ union_suc a b i d e x y

abbrev count : List Bool → ℕ
count xs = count_by (λ x. x) xs

yes_more : (xs : List Bool) → count (true ∷ xs) ≡ 1 + count xs
yes_more xs = sum_by-cons (λ x. cond x 1 0) true xs

no_more : (xs : List Bool) → count (false ∷ xs) ≡ count xs
no_more xs = sum_by-cons (λ x. cond x 1 0) false xs ∙ zero-add (count xs)

-- the union has as many places as the first set, only where it is the first set
pub grows : (a b : List Bool) → length a ≡ length b → count_by (λ x. x) a ≤ count_by (λ x. x) (union a b)
grows [] b e = omega arith
grows (x ∷ xs) [] e = cc
grows (true ∷ xs) (y ∷ ys) e = omega (arith, grows xs ys (omega arith), yes_more xs, yes_more (union xs ys))
grows (false ∷ xs) (true ∷ ys) e = omega (arith, grows xs ys (omega arith), no_more xs, yes_more (union xs ys))
grows (false ∷ xs) (false ∷ ys) e = omega (arith, grows xs ys (omega arith), no_more xs, no_more (union xs ys))

pub same_count : (a b : List Bool) → length a ≡ length b → count_by (λ x. x) (union a b) ≡ count_by (λ x. x) a → union a b ≡ a
same_count [] b e h = refl
same_count (x ∷ xs) [] e h = cc
same_count (true ∷ xs) (y ∷ ys) e h = ap (λ l. true ∷ l) (same_count xs ys (omega arith) (omega (arith, h, yes_more xs, yes_more (union xs ys))))
same_count (false ∷ xs) (true ∷ ys) e h = absurd (omega (arith, h, grows xs ys (omega arith), no_more xs, yes_more (union xs ys)))
same_count (false ∷ xs) (false ∷ ys) e h = ap (λ l. false ∷ l) (same_count xs ys (omega arith) (omega (arith, h, no_more xs, no_more (union xs ys))))

pub count_within : (a : List Bool) → count_by (λ x. x) a ≤ length a
count_within [] = omega arith
count_within (true ∷ xs) = omega (arith, count_within xs, yes_more xs)
count_within (false ∷ xs) = omega (arith, count_within xs, no_more xs)

-- one more truth value, right for its place
pub marked_more : (P : ℕ → ℕ → Type 0) (s : List Bool) (xs ys : List Bool) (b : Bool) (n : ℕ) → ys ≡ xs ++ b ∷ [] → length xs ≡ n
    → ((j : ℕ) → j < length xs → IsMarked xs j ↔ EndsAt P s j) → (b ≡ true) ↔ EndsAt P s n
    → (j : ℕ) → j < length ys → IsMarked ys j ↔ EndsAt P s j
marked_more P s xs ys b n e size below here j lt = elim (cases_lt j (length xs)) [
  | inl old ↦ let same : get_or ys j false ≡ get_or xs j false = ap (λ l. get_or l j false) e ∙ get_or-append xs (b ∷ []) false j old in
      ((λ h. (below j old).0 (sym same ∙ h)), (λ h. same ∙ (below j old).1 h))
  | inr new ↦ let len : length ys ≡ length xs + 1 = ap length e ∙ length-append xs (b ∷ []) in
      let at : j ≡ length xs = omega arith in
      let same : get_or ys j false ≡ b = ap (λ l. get_or l j false) e ∙ get_or_push xs b false j (sym at) in
      let on : j ≡ n = at ∙ size in
      ((λ h. subst (EndsAt P s) (sym on) (here.0 (sym same ∙ h))), (λ h. same ∙ here.1 (subst (EndsAt P s) on h)))
]

pub each_more : (xs : List Bool) (at n : ℕ) → length xs ≡ n → ((k : ℕ) → k < n → get_or xs k false ≡ (k == at))
    → (k : ℕ) → k < n + 1 → get_or (xs ++ (n == at) ∷ []) k false ≡ (k == at)
each_more xs at n size below k lt = elim (cases_lt k n) [
  | inl old ↦ get_or-append xs ((n == at) ∷ []) false k (omega arith) ∙ below k old
  | inr new ↦ let e : length xs ≡ k = omega arith in get_or_push xs (n == at) false k e ∙ ap (λ m. m == at) (sym size ∙ e)
]

-- what one place reaches
pub from_one : (P : ℕ → ℕ → Type 0) (s e : List Bool) (from to n : ℕ) → EndsOf P s e → length s ≡ n → ((k : ℕ) → k < n → get_or s k false ≡ (k == from)) → from < n → to < n
    → (get_or e to false ≡ true) ↔ P from to
from_one P s e from to n ends size each lf lt = (
  (λ h. let (i, (si, m)) = (ends.marked to (omega (arith, ends.size))).0 h in
      let below = marked_below s i si in
      let test : i == from ≡ true = sym (each i (omega arith)) ∙ si in
      subst (λ x. P x to) (eqb-true i from test) m),
  (λ m. (ends.marked to (omega (arith, ends.size))).1 (from, (each from lf ∙ eq-eqb from from refl, m))),
)
