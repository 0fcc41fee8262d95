-- Sets of keys, seen as lists of words.
use Rattle.std.proofs.Common.{◌≡◌, ℕ, zero, suc, ◌<◌, Bool, true, false, not, if◌then◌else◌, ◌||◌, List, [], ◌∷◌, ◌++◌, map, length, get_or, Vec, Global, Option, Some, None, refl, sym, ap, ◌∙◌, subst, ⊎_elim, arith, nat_eq}
use Rattle.std.specs.Prelude.{slice_get, position, Contains, MatchOption}
use Rattle.std.specs.Option.{is_some}
use Rattle.std.specs.Cmp.Lexicographic.{pointwise, bytes_decides, nat_list_eq_equiv}
use Rattle.std.specs.List.{list_any}
use Rattle.std.proofs.lemmas.Bool.{false≢true}
use Rattle.std.proofs.lemmas.List.{map-append}
use Rattle.std.proofs.lemmas.List.Quantifiers.{position-Some}
use Rattle.std.proofs.lemmas.Map.Views.{Contains-from_any, list_any-from_Contains}
use Rattle.indexmap.specs.IndexSet.{insert_key}
use Rattle.std.specs.Prelude.{slice_index_or}
use Rattle.std.proofs.lemmas.Option.{same_Some, slice_get_within, slice_get-get_or}
use Rattle.unwinder_reach.specs.reached.Searching.{Extends, IsAdded}
use Rattle.unwinder_reach.proofs.reached.Lists.{get_left, push_cases}

abbrev pub KeyVec : Type 0
KeyVec = Vec ℕ Global

abbrev pub words : KeyVec → List ℕ
words v = v.items

abbrev pub key_eq : KeyVec → KeyVec → Bool
key_eq v w = pointwise nat_eq v.items w.items

any_words : (v : KeyVec) (ks : List KeyVec) → list_any (key_eq v) ks ≡ list_any (pointwise nat_eq v.items) (map words ks)
any_words v [] = refl
any_words v (k ∷ ks) = ap (λ b. key_eq v k || b) (any_words v ks)

same_words : (xs ys : List ℕ) → pointwise nat_eq xs ys ≡ true → xs ≡ ys
same_words xs ys t = (bytes_decides xs ys).0 t

has : (v : KeyVec) (ks : List KeyVec) → list_any (key_eq v) ks ≡ true → Contains (map words ks) v.items
has v ks t = Contains-from_any {eq = pointwise nat_eq} same_words v.items (map words ks) (sym (any_words v ks) ∙ t)

lacks : (v : KeyVec) (ks : List KeyVec) → list_any (key_eq v) ks ≡ false → ¬ Contains (map words ks) v.items
lacks v ks t h = false≢true (sym t ∙ any_words v ks ∙ list_any-from_Contains {eq = pointwise nat_eq} nat_list_eq_equiv v.items (map words ks) h)

-- an insertion, seen through the words
pub key_added : (ks new : List KeyVec) (v : KeyVec) (added : Bool) → added ≡ not (list_any (key_eq v) ks) → new ≡ insert_key key_eq ks v → IsAdded added (map words ks) v.items (map words new)
key_added ks new v added is made = by (list_any (key_eq v) ks) refl
  where
    by : (b : Bool) → list_any (key_eq v) ks ≡ b → IsAdded added (map words ks) v.items (map words new)
    by true e =
        subst (λ a. IsAdded a (map words ks) v.items (map words new)) (sym (is ∙ ap not e))
        (has v ks e, ap (map words) (made ∙ ap (λ b. if b then ks else ks ++ v ∷ []) e))
    by false e =
        subst (λ a. IsAdded a (map words ks) v.items (map words new)) (sym (is ∙ ap not e))
        (lacks v ks e, ap (map words) (made ∙ ap (λ b. if b then ks else ks ++ v ∷ []) e) ∙ map-append words ks (v ∷ []))

pub not_there : (v : KeyVec) (ks : List KeyVec) → false ≡ list_any (key_eq v) ks → ¬ Contains (map words ks) v.items
not_there v ks e = lacks v ks (sym e)

read_words : (ks : List KeyVec) (i : ℕ) (d : KeyVec) → i < length ks → slice_get (map words ks) i ≡ Some (get_or ks i d).items
read_words [] i d h = absurd (omega (arith, h))
read_words (k ∷ ks) zero d h = refl
read_words (k ∷ ks) (suc i) d h = read_words ks i d (omega (arith, h))

pub numbered : (v : KeyVec) (ks : List KeyVec) (i : ℕ) → position (key_eq v) ks ≡ Some i → slice_get (map words ks) i ≡ Some v.items
numbered v ks i e =
    let at = position-Some (key_eq v) ks i v e in
    read_words ks i v at.0 ∙ ap Some (sym (same_words v.items (get_or ks i v).items at.1))

pub number_tells : (v : KeyVec) (ks : List KeyVec) (all : List (List ℕ)) (r : Option ℕ) → map words ks ≡ all → r ≡ position (key_eq v) ks → is_some r ≡ list_any (key_eq v) ks → MatchOption r (¬ Contains all v.items) (λ n. slice_get all n ≡ Some v.items)
number_tells v ks all None seen index there = subst (λ l. ¬ Contains l v.items) seen (not_there v ks there)
number_tells v ks all (Some i) seen index there = subst (λ (l : List (List ℕ)). slice_get l i ≡ Some v.items) seen (numbered v ks i (sym index))

read_at_word : (ks : List KeyVec) (i : ℕ) (k : KeyVec) → slice_get ks i ≡ Some k → slice_get (map words ks) i ≡ Some k.items
read_at_word [] i k e = absurd (cc)
read_at_word (j ∷ ks) zero k e = let same : j ≡ k = cc in ap (λ (v : KeyVec). Some v.items) same
read_at_word (j ∷ ks) (suc i) k e = read_at_word ks i k e

-- the place of a key that was put in
pub placed : (v : KeyVec) (ks : List KeyVec) (n : ℕ) (k : KeyVec) → slice_get ks n ≡ Some k → key_eq v k ≡ true → slice_get (map words ks) n ≡ Some v.items
placed v ks n k there same = read_at_word ks n k there ∙ ap Some (sym (same_words v.items k.items same))

contains_at : (xs : List (List ℕ)) (i : ℕ) (w : List ℕ) → slice_get xs i ≡ Some w → Contains xs w
contains_at xs i w e =
    let within = slice_get_within xs i w e in
    (i, within, same_Some (slice_index_or xs i w) w (sym (slice_get-get_or xs i w within) ∙ e))

-- a table grows by a key that was not there
pub grown : (old new : List (List ℕ)) (key : List ℕ) (added : Bool) → IsAdded added old key new → Extends old new
grown old new key false is = subst (Extends old) (sym is.1) (record { stays = λ i w e. e; entries = λ h. h })
grown old new key true is =
    let other : (i : ℕ) (w : List ℕ) → slice_get old i ≡ Some w → key ≡ w → ⊥ = λ i w e same. is.0 (subst (Contains old) (sym same) (contains_at old i w e)) in
    subst (Extends old) (sym is.1)
    (record {
      stays = λ i w e. get_left old (key ∷ []) i w e;
      entries = λ apart i j w e d.
          ⊎_elim
          (λ a. ⊎_elim (λ b. apart i j w a b) (λ last. absurd (other i w a last.1)) (push_cases old key j w d))
          (λ last. ⊎_elim (λ b. absurd (other j w b last.1)) (λ end. last.0 ∙ sym end.0) (push_cases old key j w d))
          (push_cases old key i w e);
    })
