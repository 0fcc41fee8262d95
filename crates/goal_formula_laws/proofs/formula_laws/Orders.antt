-- The order in which the first difference decides, by numbers and by bits.
use Rattle.std.proofs.Common.{◌≡◌, ◌⊎◌, ℕ, zero, suc, ◌<◌, ◌≤◌, Bool, true, false, List, [], ◌∷◌, ◌++◌, length, map, get_or, refl, sym, ap, subst, ◌∙◌, inl, inr, ⊎_elim, arith}
use Rattle.std.proofs.lemmas.Bool.{cases_lt}
use Rattle.std.proofs.lemmas.Grind.{reverse_onto}
use Rattle.std.proofs.lemmas.List.{length-reverse, reverse-reverse}
use Rattle.std.specs.Prelude.{IsTrue, reverse}
use Rattle.path_runner.specs.Masks.{bit, number_of_bits}
use Rattle.goal_formula_laws.proofs.formula_laws.Rows.{bit_few, bits_apart, rows_by_number}
use Rattle.goal_formula_laws.specs.formula_laws.Laws.{FewerBits, FirstBitDecides, LowerIsBefore}
use Rattle.goal_formula_laws.specs.formula_laws.Orders.{FirstDifferAt, IsBefore, bits_in_order}

pub lower_is_before : LowerIsBefore
lower_is_before [] [] zs low h = h
lower_is_before [] (y ∷ ys) zs low h = absurd low
lower_is_before (x ∷ xs) [] zs low h = absurd low
lower_is_before (x ∷ xs) (y ∷ ys) [] low h = absurd h
lower_is_before (x ∷ xs) (y ∷ ys) (z ∷ zs) low h =
    let le : x ≤ y = low.0 in
    ⊎_elim
    (λ lt. inl (omega (arith, le, lt)))
    (λ same.
    let e : y ≡ z = same.0 in
    ⊎_elim
    (λ lt. inl (omega (arith, lt, e)))
    (λ ge. inr (omega (arith, le, ge, e), lower_is_before xs ys zs low.1 same.1))
    (cases_lt x y))
    h

bit_less : (x y : Bool) → (IsTrue x → IsTrue y) → bit x ≤ bit y
bit_less true true h = omega arith
bit_less true false h = let e = h refl in absurd cc
bit_less false y h = omega arith

pub fewer_bits : FewerBits
fewer_bits [] [] h = omega arith
fewer_bits [] (y ∷ ys) h = absurd h
fewer_bits (x ∷ xs) [] h = absurd h
fewer_bits (x ∷ xs) (y ∷ ys) h =
    let here = bit_less x y h.0 in
    let rest = fewer_bits xs ys h.1 in
    omega (arith, here, rest)

-- ---- bits in the order in which they decide

abbrev Less : List Bool → List Bool → Type 0
Less [] ys = ⊥
Less (x ∷ xs) [] = ⊥
Less (x ∷ xs) (y ∷ ys) = ((x ≡ false) × (y ≡ true)) ⊎ ((x ≡ y) × Less xs ys)

split_less : (a c b d : List Bool) → length a ≡ length c → Less (a ++ b) (c ++ d) → Less a c ⊎ ((a ≡ c) × Less b d)
split_less [] [] b d long h = inr (refl, h)
split_less [] (y ∷ c) b d long h = absurd (omega (arith, long))
split_less (x ∷ a) [] b d long h = absurd (omega (arith, long))
split_less (x ∷ a) (y ∷ c) b d long h =
    ⊎_elim
    (λ first. inl (inl first))
    (λ same.
    ⊎_elim
    (λ less. inl (inr (same.0, less)))
    (λ rest. inr ((λ i. same.0 i ∷ rest.0 i), rest.1))
    (split_less a c b d (omega (arith, long)) same.1))
    h

join_front : (a c b d : List Bool) → Less a c → Less (a ++ b) (c ++ d)
join_front [] c b d h = absurd h
join_front (x ∷ a) [] b d h = absurd h
join_front (x ∷ a) (y ∷ c) b d h = ⊎_elim (λ first. inl first) (λ same. inr (same.0, join_front a c b d same.1)) h

same_front : (a b d : List Bool) → Less b d → Less (a ++ b) (a ++ d)
same_front [] b d h = h
same_front (x ∷ a) b d h = inr (refl, same_front a b d h)

join_back : (a c b d : List Bool) → a ≡ c → Less b d → Less (a ++ b) (c ++ d)
join_back a c b d e h = subst (λ z. Less (a ++ b) (z ++ d)) e (same_front a b d h)

-- ---- a row

turned : (x : Bool) (xs : List Bool) → reverse (x ∷ xs) ≡ reverse xs ++ x ∷ []
turned x xs = reverse_onto xs x []

unturned : (xs ys : List Bool) → reverse xs ≡ reverse ys → xs ≡ ys
unturned xs ys e = sym (reverse-reverse xs) ∙ ap reverse e ∙ reverse-reverse ys

turned_long : (xs ys : List Bool) → length xs ≡ length ys → length (reverse xs) ≡ length (reverse ys)
turned_long xs ys long = length-reverse xs ∙ long ∙ sym (length-reverse ys)

less_number : (xs ys : List Bool) → length xs ≡ length ys → Less (reverse xs) (reverse ys) → number_of_bits xs < number_of_bits ys
less_number [] [] long h = absurd h
less_number [] (y ∷ ys) long h = absurd (omega (arith, long))
less_number (x ∷ xs) [] long h = absurd (omega (arith, long))
less_number (x ∷ xs) (y ∷ ys) long h =
    let shorter : length xs ≡ length ys = omega (arith, long) in
    let few = bit_few x in
    let left : Less (reverse xs ++ x ∷ []) (reverse (y ∷ ys)) = subst (λ z. Less z (reverse (y ∷ ys))) (turned x xs) h in
    let apart : Less (reverse xs ++ x ∷ []) (reverse ys ++ y ∷ []) = subst (λ z. Less (reverse xs ++ x ∷ []) z) (turned y ys) left in
    ⊎_elim
    (λ less. let rest = less_number xs ys shorter less in omega (arith, rest, few))
    (λ same.
    let numbers : number_of_bits xs ≡ number_of_bits ys = ap number_of_bits (unturned xs ys same.0) in
    ⊎_elim
    (λ first. let low : bit x ≡ 0 = ap bit first.0 in let high : bit y ≡ 1 = ap bit first.1 in omega (arith, numbers, low, high))
    (λ no. absurd no.1)
    same.1)
    (split_less (reverse xs) (reverse ys) (x ∷ []) (y ∷ []) (turned_long xs ys shorter) apart)

number_less : (xs ys : List Bool) → length xs ≡ length ys → number_of_bits xs < number_of_bits ys → Less (reverse xs) (reverse ys)
number_less [] [] long lt = absurd (omega (arith, lt))
number_less [] (y ∷ ys) long lt = absurd (omega (arith, long))
number_less (x ∷ xs) [] long lt = absurd (omega (arith, long))
number_less (x ∷ xs) (y ∷ ys) long lt =
    let shorter : length xs ≡ length ys = omega (arith, long) in
    let few = bit_few x in
    let more = bit_few y in
    let apart : Less (reverse xs ++ x ∷ []) (reverse ys ++ y ∷ []) =
    ⊎_elim
    (λ less. join_front (reverse xs) (reverse ys) (x ∷ []) (y ∷ []) (number_less xs ys shorter less))
    (λ le.
    let same : number_of_bits xs ≡ number_of_bits ys = omega (arith, lt, le, few, more) in
    let first : bit x < bit y = omega (arith, lt, same) in
    join_back (reverse xs) (reverse ys) (x ∷ []) (y ∷ []) (ap reverse (rows_by_number xs ys shorter same)) (inl (bits_apart x y first)))
    (cases_lt (number_of_bits xs) (number_of_bits ys)) in
    let left : Less (reverse (x ∷ xs)) (reverse ys ++ y ∷ []) = subst (λ z. Less z (reverse ys ++ y ∷ [])) (sym (turned x xs)) apart in
    subst (λ z. Less (reverse (x ∷ xs)) z) (sym (turned y ys)) left

-- ---- rows

same_first : (a b : ℕ) (xs ys : List ℕ) → a ∷ xs ≡ b ∷ ys → a ≡ b
same_first a b xs ys e = cc

same_rest : (a b : ℕ) (xs ys : List ℕ) → a ∷ xs ≡ b ∷ ys → xs ≡ ys
same_rest a b xs ys e = cc

before_less : (rows others : List (List Bool)) → map length rows ≡ map length others → IsBefore (map number_of_bits rows) (map number_of_bits others) → Less (bits_in_order rows) (bits_in_order others)
before_less [] others long h = absurd h
before_less (r ∷ rows) [] long h = absurd h
before_less (r ∷ rows) (o ∷ others) long h =
    let here = same_first (length r) (length o) (map length rows) (map length others) long in
    let rest = same_rest (length r) (length o) (map length rows) (map length others) long in
    ⊎_elim
    (λ lt. join_front (reverse r) (reverse o) (bits_in_order rows) (bits_in_order others) (number_less r o here lt))
    (λ same. join_back (reverse r) (reverse o) (bits_in_order rows) (bits_in_order others) (ap reverse (rows_by_number r o here same.0)) (before_less rows others rest same.1))
    h

less_before : (rows others : List (List Bool)) → map length rows ≡ map length others → Less (bits_in_order rows) (bits_in_order others) → IsBefore (map number_of_bits rows) (map number_of_bits others)
less_before [] others long h = absurd h
less_before (r ∷ rows) [] long h = let many = ap length long in absurd (omega (arith, many))
less_before (r ∷ rows) (o ∷ others) long h =
    let here = same_first (length r) (length o) (map length rows) (map length others) long in
    let rest = same_rest (length r) (length o) (map length rows) (map length others) long in
    ⊎_elim
    (λ less. inl (less_number r o here less))
    (λ same. inr (ap number_of_bits (unturned r o same.0), less_before rows others rest same.1))
    (split_less (reverse r) (reverse o) (bits_in_order rows) (bits_in_order others) (turned_long r o here) h)

-- ---- the place of the first difference

abbrev Differ : List Bool → List Bool → Type 0
Differ xs ys = (k : ℕ) × FirstDifferAt xs ys k

differ_here : (x y : Bool) (xs ys : List Bool) → x ≡ false → y ≡ true → Differ (x ∷ xs) (y ∷ ys)
differ_here x y xs ys low high = (0, record { within = omega arith; unset = low; set = high; before = λ i lt. absurd (omega (arith, lt)) })

differ_later : (x y : Bool) (xs ys : List Bool) → x ≡ y → Differ xs ys → Differ (x ∷ xs) (y ∷ ys)
differ_later x y xs ys same (k, r) = (suc k, record { within = omega (arith, r.within); unset = r.unset; set = r.set; before = before })
  where
    before : (i : ℕ) → i < suc k → get_or (x ∷ xs) i false ≡ get_or (y ∷ ys) i false
    before zero lt = same
    before (suc i) lt = r.before i (omega (arith, lt))

less_differ : (xs ys : List Bool) → Less xs ys → Differ xs ys
less_differ [] ys h = absurd h
less_differ (x ∷ xs) [] h = absurd h
less_differ (x ∷ xs) (y ∷ ys) h =
    ⊎_elim (λ first. differ_here x y xs ys first.0 first.1) (λ same. differ_later x y xs ys same.0 (less_differ xs ys same.1)) h

differ_less : (xs ys : List Bool) (k : ℕ) → FirstDifferAt xs ys k → Less xs ys
differ_less [] ys k r = let within = r.within in absurd (omega (arith, within))
differ_less (x ∷ xs) [] k r = let e : false ≡ true = r.set in absurd cc
differ_less (x ∷ xs) (y ∷ ys) zero r = inl (r.unset, r.set)
differ_less (x ∷ xs) (y ∷ ys) (suc k) r =
    let rest : FirstDifferAt xs ys k = record {
      within = let within = r.within in omega (arith, within);
      unset = r.unset;
      set = r.set;
      before = λ i lt. r.before (suc i) (omega (arith, lt));
    } in
    inr (r.before 0 (omega arith), differ_less xs ys k rest)

pub first_bit_decides : FirstBitDecides
first_bit_decides rows others long = (
  λ h. less_differ (bits_in_order rows) (bits_in_order others) (before_less rows others long h),
  λ h. less_before rows others long (differ_less (bits_in_order rows) (bits_in_order others) h.0 h.1),
)
