-- The limits, counted from token to token.
use Rattle.std.proofs.Common.{◌≡◌, ℕ, suc, zero, ◌<◌, ◌≤◌, length, get_or, drop, drop-cons, arith, List, [], ◌∷◌, ◌++◌, map, Option, Some, None, refl, sym, ap, ◌∙◌, append_assoc}
use Rattle.std.specs.Prelude.{fold, filter_map}
use Rattle.std.specs.List.{cons_option}
use Rattle.c_parse.specs.declared.sign.Terminal.{Terminal}
use Rattle.c_parse.specs.Limits.{with_bracket, in_row, open_brackets, row_length, passed_by, passed, prefixes, first, first_passed}
use Rattle.c_parse.specs.Scan.{scan, or_scan}

fold_push : {A B : Type 0} (f : B → A → B) (b : B) (xs : List A) (x : A) → fold f b (xs ++ x ∷ []) ≡ f (fold f b xs) x
fold_push f b [] x = refl
fold_push f b (y ∷ xs) x = fold_push f (f b y) xs x

filter_map-map : {A B C : Type 0} (f : B → Option C) (g : A → B) (xs : List A) → filter_map f (map g xs) ≡ filter_map (λ x. f (g x)) xs
filter_map-map f g [] = refl
filter_map-map f g (x ∷ xs) = rw (filter_map-map f g xs) refl

filter_map-same : {A B : Type 0} (f g : A → Option B) → ((x : A) → f x ≡ g x) → (xs : List A) → filter_map f xs ≡ filter_map g xs
filter_map-same f g e [] = refl
filter_map-same f g e (x ∷ xs) = rw (e x, filter_map-same f g e xs) refl

-- what is passed behind a front, and what is passed first
first_or : (o : Option ℕ) (ns : List ℕ) (r : Option ℕ) → first ns ≡ r → first (cons_option o ns) ≡ or_scan o r
first_or None ns r e = e
first_or (Some n) ns r e = refl

pub scan_behind : (front ts : List Terminal) → first (filter_map (λ p. passed (front ++ p)) (prefixes ts)) ≡ scan (open_brackets front) (row_length front) ts
scan_behind front [] = refl
scan_behind front (t ∷ ts) =
    let here : passed (front ++ t ∷ []) ≡ passed_by (with_bracket (open_brackets front) t) (in_row (row_length front) t) = rw (fold_push with_bracket 0 front t, fold_push in_row 0 front t) refl in
    let rest : filter_map (λ p. passed (front ++ p)) (map (λ p. t ∷ p) (prefixes ts)) ≡ filter_map (λ p. passed ((front ++ t ∷ []) ++ p)) (prefixes ts) =
    filter_map-map (λ p. passed (front ++ p)) (λ p. t ∷ p) (prefixes ts) ∙ filter_map-same _ _ (λ p. ap passed (sym (append_assoc front (t ∷ []) p))) (prefixes ts) in
    let more : first (filter_map (λ p. passed ((front ++ t ∷ []) ++ p)) (prefixes ts)) ≡ scan (with_bracket (open_brackets front) t) (in_row (row_length front) t) ts = scan_behind (front ++ t ∷ []) ts ∙ rw (fold_push with_bracket 0 front t, fold_push in_row 0 front t) refl in
    rw (rest, here) (first_or (passed_by (with_bracket (open_brackets front) t) (in_row (row_length front) t)) _ _ more)

pub first_passed_scan : (ts : List Terminal) → first_passed ts ≡ scan 0 0 ts
unfolding first_passed
first_passed_scan ts = scan_behind [] ts

-- the first that passes a limit, and none that does
pub found_passed : (ts : List Terminal) (i b r n brackets row : ℕ) (t : Terminal) → i < length ts → t ≡ get_or ts i t → scan b r (drop i ts) ≡ scan 0 0 ts
    → brackets ≡ with_bracket b t → row ≡ in_row r t → Some n ≡ passed_by brackets row → Some n ≡ first_passed ts
found_passed ts i b r n brackets row t lt is same one two e =
    let f : Some n ≡ passed_by (with_bracket b t) (in_row r t) = rw (one, two) at e in
    let here : scan b r (drop i ts) ≡ Some n = rw (drop-cons ts i t, ← is, ← f) refl in
    sym (first_passed_scan ts ∙ sym same ∙ here)

drop_past : (ts : List Terminal) (i : ℕ) → length ts ≤ i → drop i ts ≡ []
drop_past [] zero le = refl
drop_past [] (suc i) le = refl
drop_past (t ∷ ts) zero le = absurd (omega arith)
drop_past (t ∷ ts) (suc i) le = drop_past ts i (omega arith)

pub none_passed : (ts : List Terminal) (i b r : ℕ) → length ts ≤ i → scan b r (drop i ts) ≡ scan 0 0 ts → None ≡ first_passed ts
none_passed ts i b r le same =
    let here : scan b r (drop i ts) ≡ None = rw (drop_past ts i le) refl in
    sym (first_passed_scan ts ∙ sym same ∙ here)
