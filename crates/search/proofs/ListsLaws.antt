-- Lists of watchers.
use Rattle.std.proofs.Common.{◌≡◌, ℕ, zero, suc, ◌<◌, Bool, true, false, ◌||◌, List, [], ◌∷◌, ◌++◌, length, map, get_or, refl, sym, ◌∙◌, ap, arith, Option, None, Some, length-set}
use Rattle.std.specs.Prelude.{ℤ, not, ◌&&◌, slice_get, slice_set, swap_remove, ◌==◌}
use Rattle.std.specs.List.{list_all, list_any}
use Rattle.std.specs.Option.{option_map, option_map_or}
use Rattle.std.specs.Ordering.{int_eq}
use Rattle.std.specs.Global.{Vec}
use Rattle.std.proofs.lemmas.List.{get_or-set_same}
use Rattle.std.proofs.lemmas.List.Folds.{list_all-append}
use Rattle.std.proofs.lemmas.List.Sorted.{IsPermutation-swap_remove, list_any-IsPermutation}
use Rattle.std.proofs.lemmas.Option.{get_or_from_slice_get, slice_get-get_or, slice_get-map, slice_get_within}
use Rattle.cnf.specs.Clauses.{has_literal, literal_key}
use Rattle.cnf.proofs.ClauseLaws.{equal_literal, same_key, same_literal}
use Rattle.cnf.proofs.NumbersLaws.{slice_get_front}
use Rattle.search.specs.declared.watching.Watcher.{Watcher}
use Rattle.search.specs.Watching.{AllPassing, is_among, is_blocked, watchers_of}
use Rattle.search.proofs.KeptLaws.{and_left, and_right}

pub get-set_same : {X : Type 0} (xs : List X) (i : ℕ) (a : X) → i < length xs → slice_get (slice_set xs i a) i ≡ Some a
get-set_same {X} xs i a h = slice_get-get_or (slice_set xs i a) i a (omega (arith, length-set {A = X})) ∙ ap Some (get_or-set_same xs i a a h)

pub get-set_other : {X : Type 0} (xs : List X) (i j : ℕ) (a : X) → (j ≡ i → ⊥) → slice_get (slice_set xs i a) j ≡ slice_get xs j
get-set_other [] i j a h = refl
get-set_other (x ∷ xs) zero zero a h = absurd (h refl)
get-set_other (x ∷ xs) zero (suc j) a h = refl
get-set_other (x ∷ xs) (suc i) zero a h = refl
get-set_other (x ∷ xs) (suc i) (suc j) a h = get-set_other xs i j a (λ e. h (ap suc e))

pub watchers_of-same : (watchers : List (Vec Watcher)) (x : ℤ) (list : Vec Watcher) → literal_key x < length watchers → watchers_of (slice_set watchers (literal_key x) list) x ≡ list.items
watchers_of-same watchers x list h = ap (λ found. option_map_or (λ (l : Vec Watcher). l.items) found []) (get-set_same watchers (literal_key x) list h)

pub watchers_of-other : (watchers : List (Vec Watcher)) (x y : ℤ) (list : Vec Watcher) → int_eq y x ≡ false → watchers_of (slice_set watchers (literal_key x) list) y ≡ watchers_of watchers y
watchers_of-other watchers x y list h =
    ap (λ found. option_map_or (λ (l : Vec Watcher). l.items) found []) (get-set_other watchers (literal_key x) (literal_key y) list
    (λ e. let yes = equal_literal y x (same_key y x e) in let no : true ≡ false = sym yes ∙ h in absurd cc))

-- one more empty list
pub empty_more : (watchers : List (Vec Watcher)) (list : Vec Watcher) → list.items ≡ [] → ((x : ℤ) → watchers_of watchers x ≡ []) → (x : ℤ) → watchers_of (watchers ++ list ∷ []) x ≡ []
empty_more watchers list none all x = by_key watchers (literal_key x) (all x)
  where
    by_key : (ws : List (Vec Watcher)) (k : ℕ) → option_map_or (λ (l : Vec Watcher). l.items) (slice_get ws k) [] ≡ [] → option_map_or (λ (l : Vec Watcher). l.items) (slice_get (ws ++ list ∷ []) k) [] ≡ []
    by_key [] zero h = none
    by_key [] (suc k) h = refl
    by_key (w ∷ ws) zero h = h
    by_key (w ∷ ws) (suc k) h = by_key ws k h

-- a watcher taken away
pub list_at : (watchers : List (Vec Watcher)) (x : ℤ) (old : Vec Watcher) (at : ℕ) → at < length (watchers_of watchers x) → old ≡ get_or watchers (literal_key x) old → watchers_of watchers x ≡ old.items
list_at watchers x old at h is = by_found (slice_get watchers (literal_key x)) refl h
  where
    by_found : (found : Option (Vec Watcher)) → slice_get watchers (literal_key x) ≡ found → at < length (option_map_or (λ (l : Vec Watcher). l.items) found [])
        → option_map_or (λ (l : Vec Watcher). l.items) found [] ≡ old.items
    by_found None f g = absurd (omega arith)
    by_found (Some l) f g = ap (λ (v : Vec Watcher). v.items) (sym (is ∙ get_or_from_slice_get watchers (literal_key x) l old f))

pub removed : (watchers : List (Vec Watcher)) (x : ℤ) (old new : Vec Watcher) (at : ℕ) (test : Watcher → Bool) (result : Watcher) → at < length (watchers_of watchers x) → old ≡ get_or watchers (literal_key x) old
    → result ≡ get_or old.items at result → new.items ≡ swap_remove old.items at result
    → list_any test (watchers_of watchers x) ≡ (test result || list_any test (watchers_of (slice_set watchers (literal_key x) new) x))
removed watchers x old new at test result h is own gives =
    let items : watchers_of watchers x ≡ old.items = list_at watchers x old at h is in
    let inside : at < length old.items = rw items at h in
    let permutes = IsPermutation-swap_remove old.items at result inside own in
    ap (list_any test) items ∙ list_any-IsPermutation test old.items _ permutes ∙ ap (λ ws. test result || list_any test ws) (sym gives ∙ sym (watchers_of-same watchers x new within))
  where
    within : literal_key x < length watchers
    within = by_found (slice_get watchers (literal_key x)) refl h
      where
        by_found : (found : Option (Vec Watcher)) → slice_get watchers (literal_key x) ≡ found → at < length (option_map_or (λ (l : Vec Watcher). l.items) found []) → literal_key x < length watchers
        by_found None f g = absurd (omega arith)
        by_found (Some l) f g = slice_get_within watchers (literal_key x) l f

-- ---- the places of watchers

abbrev pub clause_place : Watcher → ℕ
clause_place w = w.place

pub place_at : (ws : List Watcher) (at : ℕ) (w : Watcher) → slice_get ws at ≡ Some w → slice_get (map clause_place ws) at ≡ Some w.place
place_at ws at w h = slice_get-map clause_place ws at ∙ ap (option_map clause_place) h

pub among_places : (ws : List Watcher) (k : ℕ) → is_among k (map clause_place ws) ≡ list_any (λ w. clause_place w == k) ws
among_places [] k = refl
among_places (w ∷ ws) k = ap (λ b. clause_place w == k || b) (among_places ws k)

-- ---- watchers that pass a test

pub passing_at : (test : Watcher → Bool) (ws : List Watcher) (i : ℕ) (w : Watcher) → list_all test ws ≡ true → slice_get ws i ≡ Some w → test w ≡ true
passing_at test [] i w all at = absurd cc
passing_at test (v ∷ ws) zero w all at = let same : v ≡ w = cc in ap test (sym same) ∙ and_left (test v) _ all
passing_at test (v ∷ ws) (suc i) w all at = passing_at test ws i w (and_right (test v) _ all) at

pub passing_more : (p q : Watcher → Bool) (ws : List Watcher) → ((w : Watcher) → p w ≡ true → q w ≡ true) → list_all p ws ≡ true → list_all q ws ≡ true
passing_more p q [] each all = refl
passing_more p q (w ∷ ws) each all = rw (each w (and_left (p w) _ all)) (passing_more p q ws each (and_right (p w) _ all))

none_failing : (test : Watcher → Bool) (ws : List Watcher) → list_all test ws ≡ true → list_any (λ w. not (test w)) ws ≡ false
none_failing test [] all = refl
none_failing test (w ∷ ws) all = rw (and_left (test w) _ all) (none_failing test ws (and_right (test w) _ all))

all_passing : (test : Watcher → Bool) (ws : List Watcher) → list_any (λ w. not (test w)) ws ≡ false → list_all test ws ≡ true
all_passing test [] none = refl
all_passing test (w ∷ ws) none = by_test (test w) refl none (all_passing test ws)
  where
    by_test : (b : Bool) → test w ≡ b → (not b || list_any (λ v. not (test v)) ws) ≡ false → (list_any (λ v. not (test v)) ws ≡ false → list_all test ws ≡ true) → (test w && list_all test ws) ≡ true
    by_test true e h rest = rw e (rest h)
    by_test false e h rest = absurd cc

-- one was added
pub passing_added : (test : Watcher → Bool) (old new : List (Vec Watcher)) (y : ℤ) (w : Watcher) → watchers_of new y ≡ watchers_of old y ++ w ∷ [] → ((z : ℤ) → int_eq z y ≡ false → watchers_of new z ≡ watchers_of old z)
    → test w ≡ true → AllPassing test old → AllPassing test new
passing_added test old new y w own others passes all x = by_test (int_eq x y) refl
  where
    by_test : (b : Bool) → int_eq x y ≡ b → list_all test (watchers_of new x) ≡ true
    by_test true e = ap (λ z. list_all test (watchers_of new z)) (same_literal x y e) ∙ ap (list_all test) own ∙ list_all-append test (watchers_of old y) (w ∷ []) ∙ rw (all y, passes) refl
    by_test false e = ap (list_all test) (others x e) ∙ all x

-- one was taken away
pub passing_removed : (test : Watcher → Bool) (old new : List (Vec Watcher)) (y : ℤ) (taken : Watcher) → ((t : Watcher → Bool) → list_any t (watchers_of old y) ≡ (t taken || list_any t (watchers_of new y)))
    → ((z : ℤ) → int_eq z y ≡ false → watchers_of new z ≡ watchers_of old z) → AllPassing test old → AllPassing test new
passing_removed test old new y taken rest others all x = by_test (int_eq x y) refl
  where
    behind : (a b : Bool) → (a || b) ≡ false → b ≡ false
    behind true b h = absurd cc
    behind false b h = h

    by_test : (b : Bool) → int_eq x y ≡ b → list_all test (watchers_of new x) ≡ true
    by_test true e =
        ap (λ z. list_all test (watchers_of new z)) (same_literal x y e)
        ∙ all_passing test (watchers_of new y) (behind (not (test taken)) _ (sym (rest (λ w. not (test w))) ∙ none_failing test (watchers_of old y) (all y)))
    by_test false e = ap (list_all test) (others x e) ∙ all x

-- ---- blocking literals

pub blocked_more : (clauses : List (List ℤ)) (clause : List ℤ) (w : Watcher) → is_blocked clauses w ≡ true → is_blocked (clauses ++ clause ∷ []) w ≡ true
blocked_more clauses clause w h = by_found (slice_get clauses w.place) refl h
  where
    by_found : (found : Option (List ℤ)) → slice_get clauses w.place ≡ found → option_map_or (λ c. has_literal c w.blocker) found false ≡ true → is_blocked (clauses ++ clause ∷ []) w ≡ true
    by_found None e g = absurd cc
    by_found (Some c) e g = rw (slice_get_front clauses (clause ∷ []) w.place (slice_get_within clauses w.place c e), e) g
