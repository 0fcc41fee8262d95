-- The worlds of a formula's assignments, over the gates that stood before a goal's.
use Rattle.std.proofs.Common.{◌≡◌, ◌∙◌, ◌≤◌, ℕ, List, length, arith}
use Rattle.circuit.specs.Sharing.{lit_of}
use Rattle.circuit.specs.Truth.{Extends}
use Rattle.circuit.specs.Wires.{IsWire, lit_holds}
use Rattle.circuit.specs.declared.lit.Gate.{Gate}
use Rattle.goal_formula.specs.Forms.{HasWorlds}
use Rattle.goal_formula.specs.declared.goal.GoalFormula.{GoalFormula}

-- older wires hold what they held
pub worlds_below : (old new : List Gate) (g : GoalFormula) → Extends IsWire lit_holds old new → HasWorlds new g → HasWorlds old g
worlds_below old new g e h = λ value own.
    let it = h value own in
    (it.0, λ wire n low has. let within : wire ≤ length new = e.bit (lit_of wire) low in it.1 wire n within has ∙ e.same (lit_of wire) low it.0)
