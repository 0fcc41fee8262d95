-- Words of 64 bits, and indexes.
use Rattle.std.proofs.Common.{◌≡◌, ℕ, ◌<◌, ◌≤◌, ◌^◌, true, false, refl, ap, pos, arith, ⊎_elim}
use Rattle.std.proofs.lemmas.Bool.{cases_Bool}
use Rattle.std.proofs.lemmas.Int.{ints}
use Rattle.c_values.specs.declared.kinds.Kind.{Kind}
use Rattle.c_values.specs.Kind.{IsValue, IsInRange, number_of, least, greatest, wrapped, converted}
use Rattle.cfa.specs.Values.{is_index}
use Rattle.cfa.proofs.Indexes.{indexes_of_elements}
use Rattle.c_values.proofs.Fitting.{value_from_parts}
use Rattle.c_values.proofs.Machine.{number_of-unsigned}

-- the kind of an unsigned word
abbrev pub word_kind : Kind
word_kind = record { width = 64; signed = false }

word_range : (w : ℕ) → w < 2 ^ 64 → IsInRange word_kind (number_of word_kind w)
unfolding least greatest number_of
word_range w h = (omega (arith, ints), omega (arith, ints))

-- each word is a value of that kind
pub word_value : (w : ℕ) → w < 2 ^ 64 → IsValue word_kind w
word_value w h = value_from_parts word_kind w (record { of_kind = refl; pattern = h; range = word_range w h })

-- and stands for itself
pub word_number : (kind : Kind) (w : ℕ) → converted word_kind kind w ≡ wrapped kind (pos w)
unfolding converted
word_number kind w = ap (wrapped kind) (number_of-unsigned word_kind w refl)

-- an index names an element exactly where its pattern is below the length
pub index_yes : (count i : ℕ) (kind : Kind) → count < 2 ^ 32 → IsValue kind i → i < count → is_index count kind i ≡ true
index_yes count i kind small of_kind lt = (indexes_of_elements count i kind (omega arith) of_kind).1 lt

pub index_no : (count i : ℕ) (kind : Kind) → count < 2 ^ 32 → IsValue kind i → count ≤ i → is_index count kind i ≡ false
index_no count i kind small of_kind le =
    ⊎_elim (λ e. absurd (let lt = (indexes_of_elements count i kind (omega arith) of_kind).0 e in omega arith)) (λ e. e) (cases_Bool (is_index count kind i))
