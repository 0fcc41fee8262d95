-- What the entries of an unwinding tell of letters.
use Rattle.std.specs.Prelude.{◌≡◌, ℕ, Bool, false, List, map, Option, None, Some, All, slice_index_or}
use Rattle.std.proofs.Common.{refl, sym, subst, length, ⊎_elim, arith}
use Rattle.std.proofs.lemmas.Bool.{cases_lt}
use Rattle.std.proofs.lemmas.List.{get_or_past}
use Rattle.circuit.specs.Bits.{bits_stay}
use Rattle.circuit.specs.Sharing.{inverse, no_lit, yes_lit}
use Rattle.circuit.specs.Truth.{World, Extends}
use Rattle.circuit.specs.Wires.{IsWire, lit_holds}
use Rattle.circuit.specs.declared.lit.Gate.{Gate}
use Rattle.circuit.specs.declared.lit.Lit.{Lit}
use Rattle.patterns.specs.Match.{Step}
use Rattle.patterns.specs.Paths.{edge_in, state_in}
use Rattle.patterns.specs.declared.letter.Letter.{Letter}
use Rattle.patterns.specs.declared.letter.Letter.TheVariants.{Nodes, Edges, Predicate, Absent}
use Rattle.unwinder.specs.declared.unwound.Entry.{Entry}
use Rattle.unwinder.specs.Lists.{entries_in}

-- the edge into a state is in a letter; no edge leads into the first state
abbrev pub tells_edge : Option ℕ → Letter → Bool
tells_edge None l = false
tells_edge (Some e) l = edge_in e l

-- a state at a node is in a letter in a world, where the first literals hold where the predicates do, and the second ones
-- where they don't
abbrev pub tells_state : List Gate → ℕ → List Lit → List Lit → World → Letter → Bool
tells_state gates node held absent w (Nodes nodes) = state_in node 0 (Nodes nodes)
tells_state gates node held absent w (Edges edges) = state_in node 0 (Edges edges)
tells_state gates node held absent w (Predicate number) = lit_holds gates (slice_index_or held number no_lit) w
tells_state gates node held absent w (Absent number) = lit_holds gates (slice_index_or absent number yes_lit) w

-- what an entry tells of the letters in a world
abbrev pub entry_step : List Gate → World → Entry → Step Letter
entry_step gates w e = record {
  edge = λ l. tells_edge e.edge l;
  state = λ l. tells_state gates e.node e.predicates (map inverse e.predicates) w l;
}

-- what the entries that hold in a world tell, in order
abbrev pub steps_in : List Gate → List Entry → World → List (Step Letter)
steps_in gates entries w = map (entry_step gates w) (entries_in gates entries w)

-- an entry's literals are on wires
pub record HasWires (gates : List Gate) (e : Entry) : Type 0 where
  pub guard : IsWire gates e.guard
  pub ended : IsWire gates e.ended
  pub truths : All (IsWire gates) e.predicates

-- the literals of predicates and of absent predicates are on wires
pub record AreWires (gates : List Gate) (held absent : List Lit) : Type 0 where
  pub truths : All (IsWire gates) held
  pub falsehoods : All (IsWire gates) absent

-- ---- after more gates

pub wire_at : (gates : List Gate) (ls : List Lit) (n : ℕ) (d : Lit) → All (IsWire gates) ls → IsWire gates d → IsWire gates (slice_index_or ls n d)
wire_at gates ls n d all own =
    ⊎_elim
    (λ lt. all n d lt)
    (λ ge. subst (IsWire gates) (sym (get_or_past ls n d ge)) own)
    (cases_lt n (length ls))

-- the constant is on a wire
constant_wire : (gates : List Gate) (l : Lit) → l.wire ≡ 0 → IsWire gates l
constant_wire gates l e = omega (arith, e)

pub wires_stay : (old new : List Gate) (held absent : List Lit) → Extends IsWire lit_holds old new → AreWires old held absent → AreWires new held absent
wires_stay old new held absent e h = record { truths = bits_stay held e h.truths; falsehoods = bits_stay absent e h.falsehoods }

-- what a state tells stays so
pub told_still : (old new : List Gate) (node : ℕ) (held absent : List Lit) (w : World) (l : Letter) → Extends IsWire lit_holds old new → AreWires old held absent → tells_state new node held absent w l ≡ tells_state old node held absent w l
told_still old new node held absent w (Nodes nodes) e h = refl
told_still old new node held absent w (Edges edges) e h = refl
told_still old new node held absent w (Predicate number) e h = e.same (slice_index_or held number no_lit) (wire_at old held number no_lit h.truths (constant_wire old no_lit refl)) w
told_still old new node held absent w (Absent number) e h = e.same (slice_index_or absent number yes_lit) (wire_at old absent number yes_lit h.falsehoods (constant_wire old yes_lit refl)) w
