-- Rising lists with the same members are one.
use Rattle.std.proofs.Common.{◌≡◌, ℕ, zero, suc, ◌+◌, ◌<◌, ◌≤◌, List, [], ◌∷◌, length, get_or, refl, subst, arith}
use Rattle.std.specs.List.{Contains}
use Rattle.std.specs.List.Sorted.{IsStrictlyIncreasing}

tail_rises : (x : ℕ) (xs : List ℕ) → IsStrictlyIncreasing (x ∷ xs) → IsStrictlyIncreasing xs
tail_rises x xs h k lt =
    let up : get_or (x ∷ xs) (suc k) 0 < get_or (x ∷ xs) (suc k + 1) 0 = h (suc k) (omega arith) in
    let P : ℕ → Type 0 = λ j. get_or xs k 0 < get_or (x ∷ xs) j 0 in
    let e : suc k + 1 ≡ suc (k + 1) = omega arith in
    subst P e up

-- a member behind the first is above it
member_above : (xs : List ℕ) (x n : ℕ) → IsStrictlyIncreasing (x ∷ xs) → Contains xs n → x < n
member_above [] x n h (k, lt, e) = absurd (omega arith)
member_above (y ∷ ys) x n h (zero, lt, e) = let first : x < y = h 0 (omega arith) in let same : y ≡ n = e in omega arith
member_above (y ∷ ys) x n h (suc k, lt, e) =
    let first : x < y = h 0 (omega arith) in
    let rest = member_above ys y n (tail_rises x (y ∷ ys) h) (k, omega arith, e) in omega arith

least : (ys : List ℕ) (y n : ℕ) → IsStrictlyIncreasing (y ∷ ys) → Contains (y ∷ ys) n → y ≤ n
least ys y n h (zero, lt, e) = let same : y ≡ n = e in omega arith
least ys y n h (suc k, lt, e) = let up = member_above ys y n h (k, omega arith, e) in omega arith

behind : (ys : List ℕ) (y n : ℕ) → y < n → Contains (y ∷ ys) n → Contains ys n
behind ys y n lt (zero, l, e) = let same : y ≡ n = e in absurd (omega arith)
behind ys y n lt (suc k, l, e) = (k, omega arith, e)

head_of : (x : ℕ) (xs : List ℕ) → Contains (x ∷ xs) x
head_of x xs = (0, omega arith, refl)

later : (x n : ℕ) (xs : List ℕ) → Contains xs n → Contains (x ∷ xs) n
later x n xs (k, lt, e) = (suc k, omega arith, e)

none : {P : Type 0} (n : ℕ) → Contains [] n → P
none n (k, lt, e) = absurd (omega arith)

pub same_members : (xs ys : List ℕ) → IsStrictlyIncreasing xs → IsStrictlyIncreasing ys → ((n : ℕ) → Contains xs n → Contains ys n) → ((n : ℕ) → Contains ys n → Contains xs n) → xs ≡ ys
same_members [] [] hx hy f g = refl
same_members [] (y ∷ ys) hx hy f g = none y (g y (head_of y ys))
same_members (x ∷ xs) [] hx hy f g = none x (f x (head_of x xs))
same_members (x ∷ xs) (y ∷ ys) hx hy f g =
    let low = least ys y x hy (f x (head_of x xs)) in
    let high = least xs x y hx (g y (head_of y ys)) in
    let e : x ≡ y = omega arith in
    let rest : xs ≡ ys = same_members xs ys (tail_rises x xs hx) (tail_rises y ys hy)
    (λ n c. let up = member_above xs x n hx c in behind ys y n (omega arith) (f n (later x n xs c)))
    (λ n c. let up = member_above ys y n hy c in behind xs x n (omega arith) (g n (later y n ys c))) in
    λ i. e i ∷ rest i
