-- Words of 64 bits.
use Rattle.std.proofs.Common.{◌≡◌, ℕ, ◌^◌, ◌<◌, false, List, [], ◌∷◌, ◌++◌, append_assoc, refl, sym, ap, pos, arith}
use Rattle.std.specs.Prelude.{Result, Ok, Err}
use Rattle.std.proofs.lemmas.List.{append-nil}
use Rattle.std.proofs.lemmas.Int.{ints}
use Rattle.c_values.specs.declared.kinds.Kind.{Kind}
use Rattle.c_values.specs.Kind.{IsValue, IsInRange, number_of, least, greatest, wrapped, converted}
use Rattle.cfa.specs.declared.state.Frame.{Frame}
use Rattle.cfa.specs.declared.state.Trap.{Trap}
use Rattle.c_meaning.specs.Steps.{value_before, values_of}
use Rattle.c_values.proofs.Fitting.{value_from_parts}
use Rattle.c_values.proofs.Machine.{number_of-unsigned}

-- the kind of an unsigned word
abbrev pub word_kind : Kind
word_kind = record { width = 64; signed = false }

word_range : (w : ℕ) → w < 2 ^ 64 → IsInRange word_kind (number_of word_kind w)
unfolding least greatest number_of
word_range w h = (omega (arith, ints), omega (arith, ints))

-- each word is a value of that kind
pub word_value : (w : ℕ) → w < 2 ^ 64 → IsValue word_kind w
word_value w h = value_from_parts word_kind w (record { of_kind = refl; pattern = h; range = word_range w h })

-- and stands for itself
pub word_number : (kind : Kind) (w : ℕ) → converted word_kind kind w ≡ wrapped kind (pos w)
unfolding converted
word_number kind w = ap (wrapped kind) (number_of-unsigned word_kind w refl)

-- ---- the words of a call

-- values before others, if all are there
abbrev pub values_behind : List ℕ → Result (List ℕ) Trap → Result (List ℕ) Trap
values_behind front (Ok values) = Ok (front ++ values)
values_behind front (Err trap) = Err trap

pub values_more : (front : List ℕ) (value : ℕ) (rest : Result (List ℕ) Trap) → values_behind front (value_before (Ok value) rest) ≡ values_behind (front ++ value ∷ []) rest
values_more front value (Ok values) = ap Ok (sym (append_assoc front (value ∷ []) values))
values_more front value (Err trap) = refl

pub values_fail : (front : List ℕ) (trap : Trap) (rest : Result (List ℕ) Trap) → values_behind front (value_before (Err trap) rest) ≡ Err trap
values_fail front trap rest = refl

pub values_all : (cells : List ℕ) (frame : Frame) (front : List ℕ) → values_behind front (values_of cells frame []) ≡ Ok front
values_all cells frame front = ap Ok (append-nil front)
