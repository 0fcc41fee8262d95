-- Sums over lists that are gone through.
use Rattle.std.proofs.Common.{◌≡◌, ℕ, ◌+◌, ◌<◌, Bool, true, false, cond, nat_eq, List, [], ◌∷◌, ◌++◌, take, length, get_or, refl, sym, ap, ◌∙◌, arith}
use Rattle.std.specs.Prelude.{sum_by, count_by, filter}
use Rattle.std.proofs.lemmas.List.{take_more}
use Rattle.std.proofs.lemmas.List.Elements.{filter-append}
use Rattle.std.proofs.lemmas.List.Sums.{count_by_more_no, count_by_more_yes, sum_by-append, sum_by_more}
use Rattle.unwinder_reach.specs.unwinding_size.Capped.{capped}
use Rattle.unwinder_reach.proofs.unwinding_size.CappedLaws.{capped-sum}

-- a sum as it is counted, and the next element
pub sum_more : {X : Type 0} (f : X → ℕ) (xs : List X) (i : ℕ) (x : X) (t w r : ℕ) → i < length xs → x ≡ get_or xs i x → t ≡ capped (sum_by f (take i xs)) → w ≡ capped (f x) → r ≡ capped (t + w) → r ≡ capped (sum_by f (take (i + 1) xs))
sum_more f xs i x t w r in_range is so_far own made =
    made ∙ ap (λ n. capped (n + w)) so_far ∙ ap (λ n. capped (capped (sum_by f (take i xs)) + n)) (own ∙ ap (λ y. capped (f y)) is) ∙ capped-sum (sum_by f (take i xs)) (f (get_or xs i x))
    ∙ ap capped (sym (sum_by_more f xs i x in_range))

filtered_one : {X : Type 0} (f : X → ℕ) (x : X) (b : Bool) → sum_by f (cond b (x ∷ []) []) ≡ cond b (f x) 0
filtered_one f x true = omega arith
filtered_one f x false = refl

-- the elements that pass a test, and one element more
filtered_push : {X : Type 0} (f : X → ℕ) (p : X → Bool) (ys : List X) (x : X) → sum_by f (filter p (ys ++ x ∷ [])) ≡ sum_by f (filter p ys) + cond (p x) (f x) 0
filtered_push f p ys x =
    ap (sum_by f) (filter-append p ys (x ∷ [])) ∙ sum_by-append f (filter p ys) (filter p (x ∷ [])) ∙ ap (λ n. sum_by f (filter p ys) + n) (filtered_one f x (p x))

raised_one : (b : Bool) (n w own r : ℕ) → own ≡ capped w → r ≡ cond b (capped (capped n + own)) (capped n) → r ≡ capped (n + cond b w 0)
raised_one true n w own r is e = e ∙ ap (λ m. capped (capped n + m)) is ∙ capped-sum n w
raised_one false n w own r is e = e ∙ ap capped (omega arith)

-- A table that has, by a key, what the elements with that key weigh, and one element more.
pub tally_more : {X : Type 0} (f : X → ℕ) (key : X → ℕ) (xs : List X) (i : ℕ) (x : X) (own : ℕ) (old new : List ℕ) → i < length xs → x ≡ get_or xs i x → own ≡ capped (f x)
    → ((k : ℕ) → get_or new k 0 ≡ cond (nat_eq (key x) k) (capped (get_or old k 0 + own)) (get_or old k 0))
    → ((k : ℕ) → get_or old k 0 ≡ capped (sum_by f (filter (λ e. nat_eq (key e) k) (take i xs))))
    → (k : ℕ) → get_or new k 0 ≡ capped (sum_by f (filter (λ e. nat_eq (key e) k) (take (i + 1) xs)))
tally_more {X} f key xs i x own old new in_range is weighs raised so_far k =
    let before : List X = filter (λ e. nat_eq (key e) k) (take i xs) in
    let read : get_or new k 0 ≡ cond (nat_eq (key x) k) (capped (capped (sum_by f before) + own)) (capped (sum_by f before)) = raised k ∙ ap (λ n. cond (nat_eq (key x) k) (capped (n + own)) n) (so_far k) in
    raised_one (nat_eq (key x) k) (sum_by f before) (f x) own (get_or new k 0) weighs read
    ∙ ap capped (sym (filtered_push f (λ e. nat_eq (key e) k) (take i xs) x))
    ∙ ap (λ (l : List X). capped (sum_by f (filter (λ e. nat_eq (key e) k) l))) (ap (λ y. take i xs ++ y ∷ []) is ∙ sym (take_more xs i x in_range))

-- a count, and one element more
pub count_more : {X : Type 0} (p : X → Bool) (xs : List X) (i : ℕ) (d : X) → i < length xs → count_by p (take (i + 1) xs) ≡ count_by p (take i xs) + cond (p (get_or xs i d)) 1 0
count_more {X} p xs i d in_range = by (p (get_or xs i d)) refl
  where
    by : (b : Bool) → p (get_or xs i d) ≡ b → count_by p (take (i + 1) xs) ≡ count_by p (take i xs) + cond b 1 0
    by true e = count_by_more_yes p xs i d in_range e
    by false e = let more = count_by_more_no p xs i d in_range e in omega (arith, more)
