-- When the entries that hold in a world hit a goal.
use Rattle.std.specs.Prelude.{◌≡◌, true, List, Option, None, Some, slice_get}
use Rattle.std.specs.List.{list_any}
use Rattle.automata.specs.Standing.{HasMatch}
use Rattle.circuit.specs.Truth.{World}
use Rattle.circuit.specs.Wires.{lit_holds}
use Rattle.circuit.specs.declared.lit.Gate.{Gate}
use Rattle.goals.specs.declared.plan.PassingPattern.{PassingPattern}
use Rattle.goals.specs.declared.plan.Plan.{Plan}
use Rattle.patterns.specs.Letters.{form}
use Rattle.patterns.specs.Match.{Form, Step}
use Rattle.patterns.specs.declared.letter.Letter.{Letter}
use Rattle.unwinder.specs.declared.unwound.Entry.{Entry}
use Rattle.unwinder.specs.Lists.{entries_in}
use Rattle.goal_formula.specs.Steps.{steps_in}

-- the first entry holds in a world
abbrev pub FirstHolds : List Gate → List Entry → World → Type 0
FirstHolds gates entries w = (e : Entry) → slice_get entries 0 ≡ Some e → lit_holds gates e.guard w ≡ true

-- the passing clause, with its own anchors. Each list of steps meets one that is absent.
abbrev pub MeetsPassing : Option PassingPattern → List (Step Letter) → Type 0
MeetsPassing None steps = Unit {0}
MeetsPassing (Some p) steps = HasMatch (form p.pattern) p.first p.last steps

-- At one of the entries that hold the run ends in a way that counts, and what they tell has a match of the goal's pattern,
-- with the anchors of the cover clause, and meets the passing clause.
pub record EntriesHit (plan : Plan) (pattern : Form Letter) (gates : List Gate) (entries : List Entry) (w : World) : Type 0 where
  pub counted : list_any (λ (e : Entry). lit_holds gates e.ended w) (entries_in gates entries w) ≡ true
  pub goal_matches : HasMatch pattern plan.first plan.last (steps_in gates entries w)
  pub passing_matches : MeetsPassing plan.passing (steps_in gates entries w)
