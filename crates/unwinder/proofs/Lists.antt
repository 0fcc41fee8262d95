-- Lists whose elements agree place by place.
use Rattle.std.proofs.Common.{◌≡◌, ℕ, suc, List, [], ◌∷◌, Some, map, sum, length, refl, sym, ap, ◌∙◌, arith}
use Rattle.std.specs.Prelude.{slice_get, sum_by, reverse}
use Rattle.std.specs.Option.{option_map}
use Rattle.std.proofs.lemmas.List.Sums.{sum-map, sum_by-cons}
use Rattle.std.proofs.lemmas.List.Sorted.{IsPermutation-reverse, sum_by-IsPermutation}
use Rattle.std.proofs.lemmas.Option.{same_Some, slice_get-map}
use Rattle.std.proofs.Math.Path.{fun_ext}
use Rattle.containers.specs.Lists.{map-map}

-- equally long lists whose elements are equal place by place
pub same_lists : {X : Type 0} (xs ys : List X) → length xs ≡ length ys → ((i : ℕ) (x y : X) → slice_get xs i ≡ Some x → slice_get ys i ≡ Some y → x ≡ y) → xs ≡ ys
same_lists [] [] long same = refl
same_lists [] (y ∷ ys) long same = absurd (omega (arith, long))
same_lists (x ∷ xs) [] long same = absurd (omega (arith, long))
same_lists (x ∷ xs) (y ∷ ys) long same =
    let first : x ≡ y = same 0 x y refl refl in
    let rest : xs ≡ ys = same_lists xs ys (omega (arith, long)) (λ i a b e d. same (suc i) a b e d) in
    ap (λ z. z ∷ xs) first ∙ ap (λ zs. y ∷ zs) rest

-- what lists show alike, they show alike at each place
pub same_shown : {X Y Z : Type 0} (f : X → Z) (g : Y → Z) (xs : List X) (ys : List Y) (i : ℕ) (x : X) (y : Y) → map f xs ≡ map g ys → slice_get xs i ≡ Some x → slice_get ys i ≡ Some y → f x ≡ g y
same_shown f g xs ys i x y same a b =
    same_Some (f x) (g y) (sym (slice_get-map f xs i ∙ ap (option_map f) a) ∙ ap (λ zs. slice_get zs i) same ∙ slice_get-map g ys i ∙ ap (option_map g) b)

pub map_alike : {X Y : Type 0} (f g : X → Y) (xs : List X) → ((x : X) → f x ≡ g x) → map f xs ≡ map g xs
map_alike f g xs same = ap (λ h. map h xs) (fun_ext same)

-- equally long lists whose elements have equal numbers place by place
pub same_sums : {X Y : Type 0} (f : X → ℕ) (g : Y → ℕ) (xs : List X) (ys : List Y) → length xs ≡ length ys → ((i : ℕ) (x : X) (y : Y) → slice_get xs i ≡ Some x → slice_get ys i ≡ Some y → f x ≡ g y) → sum_by f xs ≡ sum_by g ys
same_sums f g [] [] long same = refl
same_sums f g [] (y ∷ ys) long same = absurd (omega (arith, long))
same_sums f g (x ∷ xs) [] long same = absurd (omega (arith, long))
same_sums f g (x ∷ xs) (y ∷ ys) long same =
    let first : f x ≡ g y = same 0 x y refl refl in
    let rest : sum_by f xs ≡ sum_by g ys = same_sums f g xs ys (omega (arith, long)) (λ i a b e d. same (suc i) a b e d) in
    omega (arith, sum_by-cons f x xs, sum_by-cons g y ys, first, rest)

pub sum_by-map : {X Y : Type 0} (f : Y → ℕ) (g : X → Y) (xs : List X) → sum_by f (map g xs) ≡ sum_by (λ x. f (g x)) xs
sum_by-map f g xs = sym (sum-map f (map g xs)) ∙ ap sum (map-map f g xs) ∙ sum-map (λ x. f (g x)) xs

pub sum_by-reverse : {X : Type 0} (f : X → ℕ) (xs : List X) → sum_by f (reverse xs) ≡ sum_by f xs
sum_by-reverse f xs = sum_by-IsPermutation f xs (reverse xs) (IsPermutation-reverse xs)
