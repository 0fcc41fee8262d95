-- Numbers that count what is there.
use Rattle.std.proofs.Common.{◌≡◌, ℕ, zero, suc, ◌+◌, ◌-◌, ◌*◌, ◌≤◌, ◌<◌, List, [], ◌∷◌, ◌++◌, length, get_or, take, map, refl, sym, ◌∙◌, ap, subst, arith, length-append}
use Rattle.std.specs.Prelude.{Option, None, Some, Bool, true, false, ◌&&◌}
use Rattle.std.specs.List.{filter_map, range_with_len, flat_map, list_all}
use Rattle.std.specs.Option.{is_some}
use Rattle.std.proofs.lemmas.List.{append-nil, map-append, take_more}
use Rattle.std.proofs.lemmas.Grind.{flat_map-append}
use Rattle.std.proofs.lemmas.List.Elements.{filter_map-append}
use Rattle.clause_form.specs.Encoding.{variable_of}

-- what is there lies among the numbers
pub numbered_at : (vs : List (Option ℕ)) (a count k n : ℕ) → filter_map (λ v. v) vs ≡ range_with_len a count → get_or vs k None ≡ Some n → (a ≤ n) × (n < a + count)
numbered_at [] a count k n e h = cc
numbered_at (None ∷ vs) a count zero n e h = cc
numbered_at (None ∷ vs) a count (suc k) n e h = numbered_at vs a count k n e h
numbered_at (Some x ∷ vs) a zero k n e h = cc
numbered_at (Some x ∷ vs) a (suc count) zero n e h =
    let f : x ≡ a = cc in
    let g : x ≡ n = cc in
    (omega arith, omega arith)
numbered_at (Some x ∷ vs) a (suc count) (suc k) n e h =
    let t : filter_map (λ v. v) vs ≡ range_with_len (a + 1) count = cc in
    let r = numbered_at vs (a + 1) count k n t h in
    (omega arith, omega arith)

-- it rises
pub numbers_rise : (vs : List (Option ℕ)) (a count j k m n : ℕ) → filter_map (λ v. v) vs ≡ range_with_len a count → j < k → get_or vs j None ≡ Some m → get_or vs k None ≡ Some n → m < n
numbers_rise [] a count j k m n e lt h i = cc
numbers_rise (v ∷ vs) a count j zero m n e lt h i = absurd (omega arith)
numbers_rise (None ∷ vs) a count zero (suc k) m n e lt h i = cc
numbers_rise (None ∷ vs) a count (suc j) (suc k) m n e lt h i = numbers_rise vs a count j k m n e (omega arith) h i
numbers_rise (Some x ∷ vs) a zero j (suc k) m n e lt h i = cc
numbers_rise (Some x ∷ vs) a (suc count) zero (suc k) m n e lt h i =
    let f : x ≡ a = cc in
    let g : x ≡ m = cc in
    let t : filter_map (λ v. v) vs ≡ range_with_len (a + 1) count = cc in
    let r = numbered_at vs (a + 1) count k n t i in
    omega arith
numbers_rise (Some x ∷ vs) a (suc count) (suc j) (suc k) m n e lt h i =
    let t : filter_map (λ v. v) vs ≡ range_with_len (a + 1) count = cc in
    numbers_rise vs (a + 1) count j k m n t (omega arith) h i

-- the same of the variables of wires
pub wire_number : (variable : List (Option ℕ)) (count wire n : ℕ) → filter_map (λ v. v) variable ≡ range_with_len 1 count → variable_of variable wire ≡ Some n → (1 ≤ n) × (n < 1 + count)
wire_number variable count zero n e there = cc
wire_number variable count (suc k) n e there = numbered_at variable 1 count k n e there

pub wires_rise : (variable : List (Option ℕ)) (count v w m n : ℕ) → filter_map (λ v. v) variable ≡ range_with_len 1 count → v < w → variable_of variable v ≡ Some m → variable_of variable w ≡ Some n → m < n
wires_rise variable count zero w m n e lt h i = cc
wires_rise variable count (suc j) zero m n e lt h i = cc
wires_rise variable count (suc j) (suc k) m n e lt h i = numbers_rise variable 1 count j k m n e (omega arith) h i

pub length-filter_map : (vs : List (Option ℕ)) → length (filter_map (λ v. v) vs) ≤ length vs
length-filter_map [] = omega arith
length-filter_map (None ∷ vs) = omega (arith, length-filter_map vs)
length-filter_map (Some x ∷ vs) = omega (arith, length-filter_map vs)

pub length-range : (a n : ℕ) → length (range_with_len a n) ≡ n
length-range a zero = refl
length-range a (suc n) = omega (arith, length-range (a + 1) n)

-- one more number
pub range_more : (a n : ℕ) → range_with_len a (suc n) ≡ range_with_len a n ++ (a + n) ∷ []
range_more a zero = let e : a ≡ a + 0 = omega arith in ap (λ x. x ∷ []) e
range_more a (suc n) =
    let e : a + 1 + n ≡ a + suc n = omega arith in
    ap (λ xs. a ∷ xs) (range_more (a + 1) n ∙ ap (λ x. range_with_len (a + 1) n ++ x ∷ []) e)

-- how many clauses there are, with at most three for each number that is there
pub few_each : {A : Type 0} (f : ℕ → List A) (vs : List (Option ℕ)) (a : ℕ) → ((k : ℕ) → get_or vs k None ≡ None → length (f (a + k)) ≡ 0) → ((k : ℕ) → length (f (a + k)) ≤ 3)
    → length (flat_map f (range_with_len a (length vs))) ≤ 3 * length (filter_map (λ v. v) vs)
few_each f [] a none some = omega arith
few_each f (None ∷ vs) a none some =
    let e : a + 0 ≡ a = omega arith in
    let here : length (f a) ≡ 0 = subst (λ x. length (f x) ≡ 0) e (none 0 refl) in
    let rest = few_each f vs (a + 1) (λ k h. let p : a + suc k ≡ a + 1 + k = omega arith in subst (λ x. length (f x) ≡ 0) p (none (suc k) h))
    (λ k. let p : a + suc k ≡ a + 1 + k = omega arith in subst (λ x. length (f x) ≤ 3) p (some (suc k))) in
    omega (arith, length-append (f a) (flat_map f (range_with_len (a + 1) (length vs))))
few_each f (Some x ∷ vs) a none some =
    let e : a + 0 ≡ a = omega arith in
    let here : length (f a) ≤ 3 = subst (λ x. length (f x) ≤ 3) e (some 0) in
    let rest = few_each f vs (a + 1) (λ k h. let p : a + suc k ≡ a + 1 + k = omega arith in subst (λ x. length (f x) ≡ 0) p (none (suc k) h))
    (λ k. let p : a + suc k ≡ a + 1 + k = omega arith in subst (λ x. length (f x) ≤ 3) p (some (suc k))) in
    omega (arith, length-append (f a) (flat_map f (range_with_len (a + 1) (length vs))))

-- a test of all that lists give is a test of each list
pub list_all-flat_map : {A : Type 0} (p : A → Bool) (f : ℕ → List A) (xs : List ℕ) → list_all p (flat_map f xs) ≡ list_all (λ x. list_all p (f x)) xs
list_all-flat_map p f [] = refl
list_all-flat_map p f (x ∷ xs) = all_append p (f x) (flat_map f xs) ∙ ap (λ b. list_all p (f x) && b) (list_all-flat_map p f xs)
  where
    all_append : {A : Type 0} (p : A → Bool) (ys zs : List A) → list_all p (ys ++ zs) ≡ (list_all p ys && list_all p zs)
    all_append p [] zs = refl
    all_append p (y ∷ ys) zs = ap (λ b. p y && b) (all_append p ys zs) ∙ and_assoc (p y) (list_all p ys) (list_all p zs)
      where
        and_assoc : (a b c : Bool) → (a && (b && c)) ≡ ((a && b) && c)
        and_assoc true b c = refl
        and_assoc false b c = refl

pub and_first : (a b : Bool) → (a && b) ≡ true → a ≡ true
and_first true b h = refl
and_first false b h = cc

pub and_rest : (a b : Bool) → (a && b) ≡ true → b ≡ true
and_rest true b h = h
and_rest false b h = cc

-- a test of all numbers of a range, one by one
pub range_all : (q : ℕ → Bool) (a n : ℕ) → ((x : ℕ) → a ≤ x → x < a + n → q x ≡ true) → list_all q (range_with_len a n) ≡ true
range_all q a zero h = refl
range_all q a (suc n) h = rw (h a (omega arith) (omega arith)) (range_all q (a + 1) n (λ x low high. h x (omega arith) (omega arith)))

range_at : (q : ℕ → Bool) (a n k : ℕ) → list_all q (range_with_len a n) ≡ true → k < n → q (a + k) ≡ true
range_at q a zero k h lt = absurd (omega arith)
range_at q a (suc n) zero h lt = let e : a ≡ a + 0 = omega arith in subst (λ x. q x ≡ true) e (and_first (q a) _ h)
range_at q a (suc n) (suc k) h lt =
    let e : a + 1 + k ≡ a + suc k = omega arith in
    subst (λ x. q x ≡ true) e (range_at q (a + 1) n k (and_rest (q a) _ h) (omega arith))

pub range_each : (q : ℕ → Bool) (a n x : ℕ) → list_all q (range_with_len a n) ≡ true → a ≤ x → x < a + n → q x ≡ true
range_each q a n x h low high =
    let e : a + (x - a) ≡ x = omega arith in
    subst (λ y. q y ≡ true) e (range_at q a n (x - a) h (omega arith))

-- what a range gives, with one more number
pub flat_map_more : {A : Type 0} (f : ℕ → List A) (n m : ℕ) → m ≡ n + 1 → flat_map f (range_with_len 1 m) ≡ flat_map f (range_with_len 1 n) ++ f m
flat_map_more f n m e =
    let p : m ≡ suc n = omega arith in
    let q : 1 + n ≡ m = omega arith in
    ap (λ k. flat_map f (range_with_len 1 k)) p ∙ ap (flat_map f) (range_more 1 n) ∙ flat_map-append f (range_with_len 1 n) ((1 + n) ∷ [])
    ∙ ap (λ r. flat_map f (range_with_len 1 n) ++ r) (append-nil (f (1 + n)) ∙ ap f q)

-- numbers for the first of some marks
pub record AreNumbered (marks : List Bool) (i : ℕ) (variable : List (Option ℕ)) (count : ℕ) : Type 0 where
  pub marked : map is_some variable ≡ take i marks
  pub numbers : filter_map (λ v. v) variable ≡ range_with_len 1 count
  pub few : count ≤ i

pub one_numbered : (marks : List Bool) (i : ℕ) (variable more : List (Option ℕ)) (count : ℕ) → i < length marks → get_or marks i false ≡ true → more ≡ variable ++ Some (count + 1) ∷ [] → AreNumbered marks i variable count → AreNumbered marks (i + 1) more (count + 1)
one_numbered marks i variable more count lt here is h =
    let one : range_with_len 1 (count + 1) ≡ range_with_len 1 count ++ (count + 1) ∷ [] =
    (let p : count + 1 ≡ suc count = omega arith in let q : 1 + count ≡ count + 1 = omega arith in ap (range_with_len 1) p ∙ range_more 1 count ∙ ap (λ k. range_with_len 1 count ++ k ∷ []) q) in
    record {
      marked = ap (map is_some) is ∙ map-append is_some variable (Some (count + 1) ∷ []) ∙ ap (λ xs. xs ++ true ∷ []) h.marked ∙ ap (λ b. take i marks ++ b ∷ []) (sym here) ∙ sym (take_more marks i false lt);
      numbers = ap (filter_map (λ v. v)) is ∙ filter_map-append (λ v. v) variable (Some (count + 1) ∷ []) ∙ ap (λ xs. xs ++ (count + 1) ∷ []) h.numbers ∙ sym one;
      few = (let f = h.few in omega arith);
    }

pub none_numbered : (marks : List Bool) (i : ℕ) (variable more : List (Option ℕ)) (count : ℕ) → i < length marks → get_or marks i false ≡ false → more ≡ variable ++ None ∷ [] → AreNumbered marks i variable count → AreNumbered marks (i + 1) more count
none_numbered marks i variable more count lt here is h = record {
  marked = ap (map is_some) is ∙ map-append is_some variable (None ∷ []) ∙ ap (λ xs. xs ++ false ∷ []) h.marked ∙ ap (λ b. take i marks ++ b ∷ []) (sym here) ∙ sym (take_more marks i false lt);
  numbers = ap (filter_map (λ v. v)) is ∙ filter_map-append (λ v. v) variable (None ∷ []) ∙ append-nil (filter_map (λ v. v) variable) ∙ h.numbers;
  few = (let f = h.few in omega arith);
}
