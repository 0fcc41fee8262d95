-- Lists without the zeros at their ends.
use Rattle.std.proofs.Common.{◌≡◌, ℕ, zero, suc, ◌-◌, ◌≤◌, ◌<◌, List, [], ◌∷◌, ◌++◌, length, get_or, Option, Some, refl, sym, ap, ◌∙◌, arith, length-append}
use Rattle.std.specs.Prelude.{slice_get, slice_index}
use Rattle.std.specs.Option.{option_to_list}
use Rattle.std.proofs.lemmas.Option.{get_or_from_slice_get, slice_get_within}

-- a zero at the end of a list is read past it too
pub read_on : (front : List ℕ) (n : ℕ) → slice_index front n ≡ slice_index (front ++ 0 ∷ []) n
read_on [] zero = refl
read_on [] (suc n) = refl
read_on (x ∷ front) zero = refl
read_on (x ∷ front) (suc n) = read_on front n

-- the last of these numbers is 0, and taken off
pub popped : (items rest : List ℕ) (popped_off : Option ℕ) → slice_get items (length items - 1) ≡ Some 0 → items ≡ rest ++ option_to_list popped_off
    → (0 < length items → popped_off ≡ Some (get_or items (length items - 1) 0)) → items ≡ rest ++ 0 ∷ []
popped items rest popped_off at is value =
    let within = slice_get_within items (length items - 1) 0 at in
    let last : get_or items (length items - 1) 0 ≡ 0 = get_or_from_slice_get items (length items - 1) 0 0 at in
    is ∙ ap (λ (o : Option ℕ). rest ++ option_to_list o) (value (omega arith) ∙ ap Some last)

-- the numbers so far, behind which the list has zeros alone
pub record IsSoFar (long short : List ℕ) : Type 0 where
  pub same : (n : ℕ) → slice_index short n ≡ slice_index long n
  pub few : length short ≤ length long

pub so_far_more : (long short front : List ℕ) → short ≡ front ++ 0 ∷ [] → IsSoFar long short → IsSoFar long front
so_far_more long short front is h = record {
  same = λ n. read_on front n ∙ ap (λ (xs : List ℕ). slice_index xs n) (sym is) ∙ h.same n;
  few = (let own = ap length is in let more = length-append front (0 ∷ []) in let few = h.few in omega (arith, own, more, few));
}
