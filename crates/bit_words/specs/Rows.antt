-- What the gates of one place of a row make of two bits.
use Rattle.std.specs.Prelude.{Bool, not, ◌&&◌, ◌||◌, if◌then◌else◌, List}
use Rattle.circuit.specs.Truth.{World}
use Rattle.circuit.specs.Wires.{IsWire, lit_holds}
use Rattle.circuit.specs.declared.lit.Gate.{Gate}
use Rattle.bit_words.specs.declared.rows.BitOperation.{BitOperation}
use Rattle.bit_words.specs.declared.rows.BitOperation.TheVariants.{And, Or, Xor, Complement, Mask, Choose}

-- one of two, and not both
abbrev pub xor : Bool → Bool → Bool
xor a b = if a then not b else b

-- the operation's bit in a world
abbrev pub operation_bit : List Gate → BitOperation → World → Bool → Bool → Bool
operation_bit gates And w a b = a && b
operation_bit gates Or w a b = a || b
operation_bit gates Xor w a b = xor a b
operation_bit gates Complement w a b = not a
operation_bit gates (Mask test) w a b = a && lit_holds gates test w
operation_bit gates (Choose test) w a b = if lit_holds gates test w then a else b

-- the operation's own literal is on a wire of the circuit
abbrev pub IsOperation : List Gate → BitOperation → Type 0
IsOperation gates (Mask test) = IsWire gates test
IsOperation gates (Choose test) = IsWire gates test
IsOperation gates _ = Unit {0}
