-- Members of lists, and lists in lexicographic order.
use Rattle.std.proofs.Common.{◌≡◌, ℕ, zero, suc, ◌+◌, ◌≤◌, ◌<◌, ◌⊎◌, Bool, true, cond, List, [], ◌∷◌, ◌++◌, Contains, map, refl, sym, ◌∙◌, ap, subst, inl, inr, ⊎_elim, arith}
use Rattle.std.specs.Cmp.Lexicographic.{slice_cmp}
use Rattle.std.specs.List.{filter, flat_map, range_with_len, AllByRecursion}
use Rattle.std.specs.List.Sorted.{IsStrictlySortedBy}
use Rattle.std.specs.Ordering.{nat_cmp, ordering_then, ordering_reverse}
use Rattle.std.specs.declared.cmp.Ordering.{Ordering}
use Rattle.std.specs.declared.cmp.Ordering.TheVariants.{Less, Equal, Greater}
use Rattle.std.specs.Prelude.{◌==◌}
use Rattle.std.proofs.lemmas.Bool.{cases_Bool, cases_eq, cond-true, cond-false, lt-ltb}
use Rattle.std.proofs.lemmas.Cmp.{nat_cmp_total, nat_list_cmp_total, tied_itself}

-- x is a member of a list, by recursion on the list
abbrev pub In : {X : Type 0} → X → List X → Type 0
In x [] = ⊥
In x (y ∷ ys) = (y ≡ x) ⊎ In x ys

pub in_from_Contains : {X : Type 0} (x : X) (xs : List X) → Contains xs x → In x xs
in_from_Contains x [] (k, lt, is) = absurd (omega arith)
in_from_Contains x (y ∷ ys) (zero, lt, is) = inl is
in_from_Contains x (y ∷ ys) (suc k, lt, is) = inr (in_from_Contains x ys (k, omega arith, is))

pub Contains-from_in : {X : Type 0} (x : X) (xs : List X) → In x xs → Contains xs x
Contains-from_in x [] h = absurd h
Contains-from_in x (y ∷ ys) (inl is) = (zero, omega arith, is)
Contains-from_in x (y ∷ ys) (inr h) = let there = Contains-from_in x ys h in (suc there.0, omega (arith, there.1), there.2)

in_left : {X : Type 0} (x : X) (xs ys : List X) → In x xs → In x (xs ++ ys)
in_left x [] ys h = absurd h
in_left x (z ∷ xs) ys (inl is) = inl is
in_left x (z ∷ xs) ys (inr h) = inr (in_left x xs ys h)

in_right : {X : Type 0} (x : X) (xs ys : List X) → In x ys → In x (xs ++ ys)
in_right x [] ys h = h
in_right x (z ∷ xs) ys h = inr (in_right x xs ys h)

in_append : {X : Type 0} (x : X) (xs ys : List X) → In x (xs ++ ys) → In x xs ⊎ In x ys
in_append x [] ys h = inr h
in_append x (z ∷ xs) ys (inl is) = inl (inl is)
in_append x (z ∷ xs) ys (inr h) = ⊎_elim (λ l. inl (inr l)) (λ r. inr r) (in_append x xs ys h)

pub in_map : {X Y : Type 0} (f : X → Y) (x : X) (xs : List X) → In x xs → In (f x) (map f xs)
in_map f x [] h = absurd h
in_map f x (z ∷ xs) (inl is) = inl (ap f is)
in_map f x (z ∷ xs) (inr h) = inr (in_map f x xs h)

pub map_in : {X Y : Type 0} (f : X → Y) (y : Y) (xs : List X) → In y (map f xs) → (x : X) × In x xs × (f x ≡ y)
map_in f y [] h = absurd h
map_in f y (z ∷ xs) (inl is) = (z, inl refl, is)
map_in f y (z ∷ xs) (inr h) = let there = map_in f y xs h in (there.0, inr there.1, there.2)

pub in_flat_map : {X Y : Type 0} (f : X → List Y) (x : X) (y : Y) (xs : List X) → In x xs → In y (f x) → In y (flat_map f xs)
in_flat_map f x y [] h k = absurd h
in_flat_map f x y (z ∷ xs) (inl is) k = let P : List _ → Type 0 = λ ys. In y ys in in_left y (f z) (flat_map f xs) (subst P (ap f (sym is)) k)
in_flat_map f x y (z ∷ xs) (inr h) k = in_right y (f z) (flat_map f xs) (in_flat_map f x y xs h k)

pub flat_map_in : {X Y : Type 0} (f : X → List Y) (y : Y) (xs : List X) → In y (flat_map f xs) → (x : X) × In x xs × In y (f x)
flat_map_in f y [] h = absurd h
flat_map_in f y (z ∷ xs) h = ⊎_elim (λ l. (z, inl refl, l)) (λ r. let there = flat_map_in f y xs r in (there.0, inr there.1, there.2)) (in_append y (f z) (flat_map f xs) h)

pub in_range : (e a n : ℕ) → a ≤ e → e < a + n → In e (range_with_len a n)
in_range e a zero low high = absurd (omega arith)
in_range e a (suc n) low high = ⊎_elim (λ is. inl is) (λ other. inr (in_range e (a + 1) n (omega arith) (omega arith))) (cases_eq a e)

pub range_in : (e a n : ℕ) → In e (range_with_len a n) → a ≤ e
range_in e a zero h = absurd h
range_in e a (suc n) (inl is) = omega arith
range_in e a (suc n) (inr h) = let low = range_in e (a + 1) n h in omega arith

pub in_filter : {X : Type 0} (test : X → Bool) (x : X) (xs : List X) → In x xs → test x ≡ true → In x (filter test xs)
in_filter test x [] h passes = absurd h
in_filter test x (z ∷ xs) (inl is) passes = let P : List _ → Type 0 = λ ys. In x ys in subst P (sym (cond-true (test z) (z ∷ filter test xs) (filter test xs) (ap test is ∙ passes))) (inl is)
in_filter test x (z ∷ xs) (inr h) passes =
    let P : List _ → Type 0 = λ ys. In x ys in
    let rest = in_filter test x xs h passes in
    ⊎_elim (λ kept. subst P (sym (cond-true (test z) (z ∷ filter test xs) (filter test xs) kept)) (inr rest)) (λ out. subst P (sym (cond-false (test z) (z ∷ filter test xs) (filter test xs) out)) rest) (cases_Bool (test z))

pub filter_in : {X : Type 0} (test : X → Bool) (x : X) (xs : List X) → In x (filter test xs) → In x xs × (test x ≡ true)
filter_in test x [] h = absurd h
filter_in test x (z ∷ xs) h =
    let P : List _ → Type 0 = λ ys. In x ys in
    ⊎_elim
    (λ kept. ⊎_elim (λ is. (inl is, ap test (sym is) ∙ kept)) (λ rest. let there = filter_in test x xs rest in (inr there.0, there.1)) (subst P (cond-true (test z) (z ∷ filter test xs) (filter test xs) kept) h))
    (λ out. let there = filter_in test x xs (subst P (cond-false (test z) (z ∷ filter test xs) (filter test xs) out) h) in (inr there.0, there.1))
    (cases_Bool (test z))

-- ---- what holds of each member

pub all_from_in : {X : Type 0} (P : X → Type 0) (xs : List X) → ((x : X) → In x xs → P x) → AllByRecursion P xs
all_from_in P [] h = tt
all_from_in P (x ∷ xs) h = (h x (inl refl), all_from_in P xs (λ y k. h y (inr k)))

pub in_from_all : {X : Type 0} (P : X → Type 0) (x : X) (xs : List X) → AllByRecursion P xs → In x xs → P x
in_from_all P x [] h k = absurd k
in_from_all P x (y ∷ xs) h (inl is) = subst P is h.0
in_from_all P x (y ∷ xs) h (inr k) = in_from_all P x xs h.1 k

-- ---- lists that rise

abbrev pub before : List ℕ → List ℕ → Ordering
before = slice_cmp nat_cmp

abbrev pub Rises : List (List ℕ) → Type 0
Rises xs = IsStrictlySortedBy before xs

pub rises-append : (xs ys : List (List ℕ)) → Rises xs → Rises ys → ((x y : List ℕ) → In x xs → In y ys → before x y ≡ Less) → Rises (xs ++ ys)
unfolding IsStrictlySortedBy
rises-append [] ys rise also apart = also
rises-append (x ∷ xs) ys rise also apart = (
  all_from_in (λ y. before x y ≡ Less) (xs ++ ys) (λ y h. ⊎_elim (λ l. in_from_all (λ z. before x z ≡ Less) y xs rise.0 l) (λ r. apart x y (inl refl) r) (in_append y xs ys h)),
  rises-append xs ys rise.1 also (λ z y h k. apart z y (inr h) k),
)

same_first : (k : ℕ) (x y : List ℕ) → before (k ∷ x) (k ∷ y) ≡ before x y
same_first k x y = ap (λ o. ordering_then o (before x y)) (tied_itself nat_cmp_total k)

pub lower_first : (k l : ℕ) (x y : List ℕ) → k < l → before (k ∷ x) (l ∷ y) ≡ Less
lower_first k l x y lt = ap (λ b. ordering_then (cond b Less (cond (k == l) Equal Greater)) (before x y)) (lt-ltb k l lt)

pub rises-map : (k : ℕ) (xs : List (List ℕ)) → Rises xs → Rises (map (λ rest. k ∷ rest) xs)
unfolding IsStrictlySortedBy
rises-map k [] rise = tt
rises-map k (x ∷ xs) rise = (
  all_from_in (λ y. before (k ∷ x) y ≡ Less) (map (λ rest. k ∷ rest) xs) (λ y h.
      let there = map_in (λ rest. k ∷ rest) y xs h in
      let P : List ℕ → Type 0 = λ z. before (k ∷ x) z ≡ Less in
      subst P there.2 (same_first k x there.0 ∙ in_from_all (λ z. before x z ≡ Less) there.0 xs rise.0 there.1)),
  rises-map k xs rise.1,
)

-- two rising lists with the same members are one
head_same : (x y : List ℕ) (xs ys : List (List ℕ)) → Rises (x ∷ xs) → Rises (y ∷ ys) → In x (y ∷ ys) → In y (x ∷ xs) → y ≡ x
unfolding IsStrictlySortedBy
head_same x y xs ys rise also (inl is) there = is
head_same x y xs ys rise also (inr later) (inl is) = sym is
head_same x y xs ys rise also (inr later) (inr there) =
    let one : before y x ≡ Less = in_from_all (λ z. before y z ≡ Less) x ys also.0 later in
    let other : before x y ≡ Less = in_from_all (λ z. before x z ≡ Less) y xs rise.0 there in
    let turned = nat_list_cmp_total.antisymm y x ∙ ap ordering_reverse other in
    let never : Less ≡ Greater = sym one ∙ turned in
    absurd (cc)

not_itself : (x : List ℕ) → before x x ≡ Less → ⊥
not_itself x h = let tied = tied_itself nat_list_cmp_total x in let never : Less ≡ Equal = sym h ∙ tied in cc

tail_in : (x y z : List ℕ) (xs ys : List (List ℕ)) → Rises (x ∷ xs) → y ≡ x → In z xs → In z (y ∷ ys) → In z ys
unfolding IsStrictlySortedBy
tail_in x y z xs ys rise same here (inl is) =
    let lower : before x z ≡ Less = in_from_all (λ w. before x w ≡ Less) z xs rise.0 here in
    let P : List ℕ → Type 0 = λ w. before x w ≡ Less in
    absurd (not_itself x (subst P (sym is ∙ same) lower))
tail_in x y z xs ys rise same here (inr there) = there

rises_tail : (x : List ℕ) (xs : List (List ℕ)) → Rises (x ∷ xs) → Rises xs
unfolding IsStrictlySortedBy
rises_tail x xs rise = rise.1

pub same_list : (xs ys : List (List ℕ)) → Rises xs → Rises ys → ((x : List ℕ) → In x xs → In x ys) → ((x : List ℕ) → In x ys → In x xs) → xs ≡ ys
same_list [] [] rise also to from = refl
same_list [] (y ∷ ys) rise also to from = absurd (from y (inl refl))
same_list (x ∷ xs) [] rise also to from = absurd (to x (inl refl))
same_list (x ∷ xs) (y ∷ ys) rise also to from =
    let same : y ≡ x = head_same x y xs ys rise also (to x (inl refl)) (from y (inl refl)) in
    let rest : xs ≡ ys = same_list xs ys (rises_tail x xs rise) (rises_tail y ys also) (λ z h. tail_in x y z xs ys rise same h (to z (inr h))) (λ z h. tail_in y x z ys xs also (sym same) h (from z (inr h))) in
    (λ i. sym same i ∷ rest i)
