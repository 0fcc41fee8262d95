-- When a path has a match of a pattern (FQL: Holzer, Schallhart, Tautschnig, Veith, VMCAI 2009 and ASE 2010).
use Rattle.std.specs.Prelude.{◌≡◌, ℕ, ◌≤◌, Bool, true, length}
use Rattle.patterns.specs.Match.{Form, Match}
use Rattle.patterns.specs.Paths.{step_of}
use Rattle.patterns.specs.declared.letter.Letter.{Letter}
use Rattle.patterns.specs.declared.path_view.PathView.{PathView}

-- The segment from one state to a later one or the same matches. It begins at the first state where that is asked, and ends
-- at the last one where that is asked.
pub record HasSegment (first last : Bool) (pattern : Form Letter) (path : PathView) : Type 0 where
  pub from : ℕ
  pub to : ℕ
  pub forward : from ≤ to
  pub within : to ≤ length path.edges
  pub at_first : first ≡ true → from ≡ 0
  pub at_last : last ≡ true → to ≡ length path.edges
  pub matches : Match (step_of path) pattern from to
