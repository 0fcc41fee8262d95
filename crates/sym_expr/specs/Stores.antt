-- Stores of words: what the cells hold in a world, and which expressions may be evaluated over them.
use Rattle.std.specs.Prelude.{ℕ, ◌+◌, ◌≤◌, Bool, if◌then◌else◌, IsTrue, List, map, Option, Some, None}
use Rattle.std.specs.List.{AllZip}
use Rattle.circuit.specs.Truth.{World}
use Rattle.circuit.specs.Wires.{lit_holds}
use Rattle.circuit.specs.declared.lit.Lit.{Lit}
use Rattle.circuit.specs.declared.lit.Gate.{Gate}
use Rattle.bit_words.specs.Words.{word_value}
use Rattle.cfa.specs.declared.expr.CellPlace.{CellPlace}
use Rattle.cfa.specs.declared.expr.Expr.{Expr}
use Rattle.cfa.specs.declared.state.Frame.{Frame}
use Rattle.cfa.specs.Rules.{Room, expr_fits, place_fits}

-- the cells of a store in a world: the value of each one's word
abbrev pub cells_in : List Gate → List (List Lit) → World → List ℕ
cells_in gates cells w = map (λ word. word_value gates word w) cells

-- a word's value in a world, if the literal beside it holds there
abbrev pub outcome_in : List Gate → List Lit × Lit → World → Option ℕ
outcome_in gates word w = if lit_holds gates word.1 w then Some (word_value gates word.0 w) else None

-- a test in a world, the first literal, if the second holds there
abbrev pub told_in : List Gate → Lit × Lit → World → Option Bool
told_in gates test w = if lit_holds gates test.1 w then Some (lit_holds gates test.0 w) else None

-- the globals, the frame's cells and the arrays that it is lent, with their lengths, lie within so many cells
pub record HasRoom (count : ℕ) (frame : Frame) (room : Room) : Type 0 where
  pub globals : room.globals ≤ count
  pub locals : frame.base + room.cells ≤ count
  pub arrays : AllZip (λ start length. start + length ≤ count) frame.arrays room.arrays

-- An expression that meets the rules for expressions, in a room that lies within so many cells: its places are cells,
-- its operands have the kinds that its operations take, and its constants are values of their kinds.
pub record FitsWithin (count : ℕ) (frame : Frame) (e : Expr) : Type 0 where
  pub room : Room
  pub has : HasRoom count frame room
  pub fits : IsTrue (expr_fits room e)

-- the same of a place
pub record PlaceFitsWithin (count : ℕ) (frame : Frame) (place : CellPlace) : Type 0 where
  pub room : Room
  pub has : HasRoom count frame room
  pub fits : IsTrue (place_fits room place)
