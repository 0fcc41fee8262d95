-- The cells of functions that run. A function that is called has an activation of its own: cells for its result, its
-- parameters and its variables, zeros at first, which last until it returns (ISO/IEC 9899:2011, 6.2.4p5, p6). The cells of
-- the file's variables come first, and then those of each activation, that of the last call at the end. The number of a
-- variable's cell is the one that typing gave it.
use Rattle.std.specs.Prelude.{ℕ, zero, suc, ◌+◌, ◌-◌, List, ◌∷◌, ◌++◌, length, take, replicate, Option, Some, None, Result, Ok, Err, if◌then◌else◌, pos, slice_index, slice_set}
use Rattle.c_values.specs.Kind.{wrapped}
use Rattle.c_values.specs.declared.kinds.Kind.{Kind}
use Rattle.cfa.specs.Values.{is_index}
use Rattle.cfa.specs.declared.parts.Variable.{Variable}
use Rattle.cfa.specs.declared.parts.VariablePlace.{VariablePlace}
use Rattle.cfa.specs.declared.parts.VariablePlace.TheVariants as place
use Rattle.cfa.specs.declared.state.Trap.{Trap}
use Rattle.cfa.specs.declared.state.Trap.TheVariants as trap
use Rattle.tree_meaning.specs.declared.activation.Activation.{Activation}
use Rattle.tree_meaning.specs.Outcomes.{Store}

-- the cells of an activation, so many: 0 for the result, the words of the parameters, and zeros
abbrev pub first_cells : ℕ → List ℕ → List ℕ
first_cells count words = 0 ∷ (words ++ replicate (count - (length words + 1)) 0)

-- an activation's cells are put behind the others, and are removed again
abbrev pub with_activation : Store → List ℕ → Store
with_activation s cells = record { cells = s.cells ++ cells; answers = s.answers; turns = s.turns }

abbrev pub without_activation : ℕ → Store → Store
without_activation base s = record { cells = take base s.cells; answers = s.answers; turns = s.turns }

-- the place of a variable's first cell: an array parameter is the array that is lent for it (6.7.6.3p7)
abbrev pub start_of : Activation → VariablePlace → ℕ
start_of a (place.Global first) = first
start_of a (place.Local first) = a.base + first
start_of a (place.Lent parameter) = slice_index a.arrays parameter

abbrev pub length_of : Option ℕ → ℕ
length_of None = 0
length_of (Some length) = length

-- the place of an element, whose index is from 0 to length - 1 (6.5.6p8)
abbrev pub element_at : Activation → Variable → Kind → ℕ → Result ℕ Trap
element_at a v kind index = if is_index (length_of v.length) kind index then Ok (start_of a v.place + index) else Err trap.Index

-- what a kind has of a number that a cell holds
abbrev pub as_kind : Kind → ℕ → ℕ
as_kind kind v = wrapped kind (pos v)

-- what a cell holds, as a value of a kind
abbrev pub read : List ℕ → Kind → ℕ → ℕ
read cells kind cell = as_kind kind (slice_index cells cell)

-- a value is put into a cell
abbrev pub stored : Store → ℕ → ℕ → Store
stored s cell v = record { cells = slice_set s.cells cell v; answers = s.answers; turns = s.turns }

-- so many cells, from one on, are set to 0
unfoldable pub zeros_at : ℕ → ℕ → List ℕ → List ℕ
zeros_at zero first cells = cells
zeros_at (suc count) first cells = zeros_at count (first + 1) (slice_set cells first 0)

abbrev pub cleared : Store → ℕ → ℕ → Store
cleared s first count = record { cells = zeros_at count first s.cells; answers = s.answers; turns = s.turns }
