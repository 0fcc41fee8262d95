-- What a state of a circuit's run tells of the letters.
use Rattle.std.specs.Prelude.{◌≡◌, ℕ, zero, suc, Bool, List, refl}
use Rattle.circuit.specs.Truth.{World, Extends}
use Rattle.circuit.specs.Wires.{IsWire, lit_holds}
use Rattle.circuit.specs.declared.lit.Lit.{Lit}
use Rattle.circuit.specs.declared.lit.Gate.{Gate}
use Rattle.patterns.specs.Paths.{state_in}
use Rattle.patterns.specs.declared.letter.Letter.{Letter}
use Rattle.patterns.specs.declared.letter.Letter.TheVariants.{Nodes, Edges, Predicate, Absent}

-- predicate 0 is the literal's, and no other holds; of absent predicates only those of the others are asked
abbrev pub told_by : List Gate → ℕ → Lit → Letter → World → Bool
told_by gates node predicate (Predicate zero) w = lit_holds gates predicate w
told_by gates node predicate (Predicate (suc n)) w = state_in node 0 (Predicate (suc n))
told_by gates node predicate (Absent number) w = state_in node 0 (Absent number)
told_by gates node predicate (Nodes nodes) w = state_in node 0 (Nodes nodes)
told_by gates node predicate (Edges edges) w = state_in node 0 (Edges edges)

pub stays : (old new : List Gate) (node : ℕ) (predicate : Lit) (l : Letter) (w : World) → Extends IsWire lit_holds old new → IsWire old predicate → told_by new node predicate l w ≡ told_by old node predicate l w
stays old new node predicate (Predicate zero) w e h = e.same predicate h w
stays old new node predicate (Predicate (suc n)) w e h = refl
stays old new node predicate (Absent number) w e h = refl
stays old new node predicate (Nodes nodes) w e h = refl
stays old new node predicate (Edges edges) w e h = refl
