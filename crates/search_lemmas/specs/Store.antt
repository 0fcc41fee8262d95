-- What is kept of lessons.
use Rattle.std.specs.Prelude.{ℤ, List, All}
use Rattle.circuit.specs.declared.lit.Gate.{Gate}
use Rattle.search_lemmas.specs.Holding.{HoldsAlways}
use Rattle.search_lemmas.specs.declared.lesson.Lessons.{Lessons}

-- each of these clauses over wires holds in every world
abbrev pub AllHold : List Gate → List (List ℤ) → Type 0
AllHold gates clauses = All (HoldsAlways gates) clauses

-- each lesson of the store holds in every world of the circuit
abbrev pub Hold : List Gate → Lessons → Type 0
Hold gates lessons = AllHold gates lessons.clauses.items
