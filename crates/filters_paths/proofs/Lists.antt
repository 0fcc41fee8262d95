-- Lists joined, mapped and filtered.
use Rattle.std.proofs.Common.{◌≡◌, Bool, true, false, cond, List, [], ◌∷◌, ◌++◌, map, refl, ◌∙◌, ap}
use Rattle.std.proofs.lemmas.List.{map-append}
use Rattle.std.proofs.lemmas.List.Elements.{filter-append}
use Rattle.std.specs.List.{filter, flat_map}

pub filter-flat_map : {X A : Type 0} (test : A → Bool) (f : X → List A) (xs : List X) → filter test (flat_map f xs) ≡ flat_map (λ x. filter test (f x)) xs
filter-flat_map test f [] = refl
filter-flat_map test f (x ∷ xs) = filter-append test (f x) (flat_map f xs) ∙ ap (λ ys. filter test (f x) ++ ys) (filter-flat_map test f xs)

pub map-flat_map : {X A B : Type 0} (g : A → B) (f : X → List A) (xs : List X) → map g (flat_map f xs) ≡ flat_map (λ x. map g (f x)) xs
map-flat_map g f [] = refl
map-flat_map g f (x ∷ xs) = map-append g (f x) (flat_map f xs) ∙ ap (λ ys. map g (f x) ++ ys) (map-flat_map g f xs)

pub flat_map_agree : {X A : Type 0} (f g : X → List A) → ((x : X) → f x ≡ g x) → (xs : List X) → flat_map f xs ≡ flat_map g xs
flat_map_agree f g same xs = λ i. flat_map (λ x. same x i) xs

pub map-map : {A B C : Type 0} (f : B → C) (g : A → B) (xs : List A) → map f (map g xs) ≡ map (λ x. f (g x)) xs
map-map f g [] = refl
map-map f g (x ∷ xs) = ap (λ ys. f (g x) ∷ ys) (map-map f g xs)

-- an element at which nothing is made may be left out
without_nothing : {X A : Type 0} (f : X → List A) (x : X) (b : Bool) (xs ys : List X) → (b ≡ false → f x ≡ []) → flat_map f xs ≡ flat_map f ys → flat_map f (x ∷ xs) ≡ flat_map f (cond b (x ∷ ys) ys)
without_nothing f x true xs ys none same = ap (λ zs. f x ++ zs) same
without_nothing f x false xs ys none same = ap (λ zs. zs ++ flat_map f xs) (none refl) ∙ same

pub flat_map-filter : {X A : Type 0} (f : X → List A) (test : X → Bool) → ((x : X) → test x ≡ false → f x ≡ []) → (xs : List X) → flat_map f xs ≡ flat_map f (filter test xs)
flat_map-filter f test none [] = refl
flat_map-filter f test none (x ∷ xs) = without_nothing f x (test x) xs (filter test xs) (none x) (flat_map-filter f test none xs)

pub filter_none : {A B : Type 0} (test : B → Bool) (g : A → B) → ((x : A) → test (g x) ≡ false) → (xs : List A) → filter test (map g xs) ≡ []
filter_none test g none [] = refl
filter_none test g none (x ∷ xs) = ap (λ b. cond b (g x ∷ filter test (map g xs)) (filter test (map g xs))) (none x) ∙ filter_none test g none xs

pub flat_map_none : {X A : Type 0} (f : X → List A) → ((x : X) → f x ≡ []) → (xs : List X) → flat_map f xs ≡ []
flat_map_none f none [] = refl
flat_map_none f none (x ∷ xs) = ap (λ ys. ys ++ flat_map f xs) (none x) ∙ flat_map_none f none xs
