-- What expressions are evaluated over.
use Rattle.std.specs.Prelude.{ℕ, ◌+◌, ◌^◌, ◌<◌, ◌≤◌, List, length}
use Rattle.std.specs.List.{AllZip}
use Rattle.cfa.specs.declared.state.Frame.{Frame}
use Rattle.cfa.specs.Rules.{Room}

-- the cells of a state, the frame that runs, and the room of its function
pub record Storage : Type 0 where
  pub cells : List ℕ
  pub frame : Frame
  pub room : Room

-- the globals, the frame's cells and the arrays that it is lent lie within the cells, of which there are not too many
pub record HasRoom (s : Storage) : Type 0 where
  pub globals : s.room.globals ≤ length s.cells
  pub locals : s.frame.base + s.room.cells ≤ length s.cells
  pub arrays : AllZip (λ start count. start + count ≤ length s.cells) s.frame.arrays s.room.arrays
  pub few : length s.cells < 2 ^ 32
