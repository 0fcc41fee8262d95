-- Arrays and their elements lie within the cells.
use Rattle.std.proofs.Common.{◌≡◌, ℕ, ◌+◌, ◌<◌, ◌≤◌, ◌^◌, true, false, List, Option, Some, None, length, get_or, refl, ap, arith, ⊎_elim}
use Rattle.std.specs.Prelude.{Ok, Err, IsTrue, slice_get}
use Rattle.std.proofs.lemmas.Bool.{cases_Bool, eqb-true, leb-true}
use Rattle.std.proofs.lemmas.List.Elements.{AllZip-get_or, length_all_zip}
use Rattle.std.proofs.lemmas.Option.{get_or_from_slice_get, slice_get_within}
use Rattle.c_values.specs.declared.kinds.Kind.{Kind}
use Rattle.c_values.specs.Kind.{IsValue}
use Rattle.cfa.specs.declared.expr.ArrayPlace.{ArrayPlace}
use Rattle.cfa.specs.declared.expr.ArrayPlace.TheVariants as array
use Rattle.cfa.specs.declared.state.Frame.{Frame}
use Rattle.cfa.specs.declared.state.Trap.TheVariants as trap
use Rattle.cfa.specs.Rules.{is_length, array_fits}
use Rattle.cfa.specs.Values.{is_index, array_start, element_at}
use Rattle.cfa.proofs.Indexes.{indexes_of_elements}
use Rattle.c_meaning.specs.Storage.{Storage, HasRoom}

length_is : (o : Option ℕ) (n : ℕ) → IsTrue (is_length o n) → o ≡ Some n
length_is None n h = absurd cc
length_is (Some m) n h = ap Some (eqb-true m n h)

-- an array that meets the rules lies, whole, within the cells
pub array_within : (s : Storage) (a : ArrayPlace) (n : ℕ) → HasRoom s → IsTrue (array_fits s.room a n) → array_start s.cells s.frame a + n ≤ length s.cells
array_within s (array.Global first) n r h = omega (arith, r.globals, leb-true (first + n) s.room.globals h)
array_within s (array.Local first) n r h = omega (arith, r.locals, leb-true (first + n) s.room.cells h)
array_within s (array.Lent p) n r h =
    let is = length_is (slice_get s.room.arrays p) n h in
    let same = length_all_zip (λ start count. start + count ≤ length s.cells) s.frame.arrays s.room.arrays r.arrays in
    let lt : p < length s.frame.arrays = omega (arith, same, slice_get_within s.room.arrays p n is) in
    let fact = AllZip-get_or (λ start count. start + count ≤ length s.cells) s.frame.arrays s.room.arrays p 0 0 r.arrays lt in
    let count : get_or s.room.arrays p 0 ≡ n = get_or_from_slice_get s.room.arrays p n 0 is in
    omega (arith, fact, count)

-- an index names an element exactly where its pattern is below the length
index_yes : (count i : ℕ) (kind : Kind) → count < 2 ^ 32 → IsValue kind i → i < count → is_index count kind i ≡ true
index_yes count i kind small of_kind lt = (indexes_of_elements count i kind (omega arith) of_kind).1 lt

index_no : (count i : ℕ) (kind : Kind) → count < 2 ^ 32 → IsValue kind i → count ≤ i → is_index count kind i ≡ false
index_no count i kind small of_kind le =
    ⊎_elim (λ e. absurd (let lt = (indexes_of_elements count i kind (omega arith) of_kind).0 e in omega arith)) (λ e. e) (cases_Bool (is_index count kind i))

pub element_inside : (cells : List ℕ) (frame : Frame) (a : ArrayPlace) (count i start : ℕ) (kind : Kind) → count < 2 ^ 32 → IsValue kind i → i < count → start ≡ array_start cells frame a → Ok (start + i) ≡ element_at cells frame a count kind i
element_inside cells frame a count i start kind small of_kind lt is = rw (index_yes count i kind small of_kind lt) (ap (λ n. Ok (n + i)) is)

pub element_outside : (cells : List ℕ) (frame : Frame) (a : ArrayPlace) (count i : ℕ) (kind : Kind) → count < 2 ^ 32 → IsValue kind i → count ≤ i → Err trap.Index ≡ element_at cells frame a count kind i
element_outside cells frame a count i kind small of_kind le = rw (index_no count i kind small of_kind le) refl
