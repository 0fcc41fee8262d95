-- The operands of the edges that leave a state's node meet the rules where the state is.
use Rattle.std.proofs.Common.{◌≡◌, ℕ, false, sym, ap, subst, ◌∙◌}
use Rattle.std.specs.Prelude.{IsTrue, slice_get}
use Rattle.std.proofs.lemmas.Option.{same_Some}
use Rattle.cfa.specs.declared.parts.Edge.{Edge}
use Rattle.cfa.specs.declared.parts.Function.{Function}
use Rattle.cfa.specs.declared.parts.GraphParts.{GraphParts}
use Rattle.cfa.specs.declared.parts.Node.{Node}
use Rattle.cfa.specs.declared.parts.Operation.{Operation}
use Rattle.cfa.specs.declared.parts.Operation.TheVariants.{Skip, Assign, Clear, Guard, Call, Return, Answer, Assert, Assume}
use Rattle.cfa.specs.declared.state.State.{State}
use Rattle.cfa.specs.Graph.{IsGraph, IsNodeOf, SourceFits, NumbersFit, room_of, operands_fit, is_return}
use Rattle.cfa.specs.States.{IsState}
use Rattle.cfa.proofs.Exits.{taken}
use Rattle.c_meaning.specs.Places.{Leaves, room_in, storage_of}
use Rattle.c_meaning.specs.Steps.{function_at}
use Rattle.c_meaning.proofs.StateLaws.{Of, Running, running}

-- an operation that is no return leaves a node of its function
pub leaves_own : (parts : GraphParts) (function source : ℕ) (op : Operation) → is_return op ≡ false → SourceFits parts function source op → IsNodeOf parts function source
leaves_own parts function source Skip r h = h
leaves_own parts function source (Assign place value) r h = h
leaves_own parts function source (Clear array count) r h = h
leaves_own parts function source (Guard test truth) r h = h
leaves_own parts function source (Call callee words arrays) r h = h
leaves_own parts function source (Return call dest) r h = absurd cc
leaves_own parts function source (Answer input dest) r h = h
leaves_own parts function source (Assert test) r h = h
leaves_own parts function source (Assume test) r h = h

-- the edge that leaves a state's node is of the node's function
pub edge_own : (parts : GraphParts) (s : State) (at : ℕ) (e : Edge) → IsGraph parts → (r : Running parts s) → Leaves parts s at e → e.function ≡ r.at.place.function
edge_own parts s at e g r l =
    let fits = g.edges at e l.0 in
    let own = leaves_own parts e.function e.source e.operation l.2 fits.leaves in
    let n = taken (Of e.function) (slice_get parts.nodes e.source) own in
    let same : n.0 ≡ r.at.place = same_Some n.0 r.at.place (sym n.1 ∙ ap (slice_get parts.nodes) l.1 ∙ r.at.node_is) in
    sym n.2 ∙ ap (λ (m : Node). m.function) same

abbrev Operable : GraphParts → Operation → Function → Type 0
Operable parts op f = IsTrue (operands_fit parts (room_of parts f) op)

-- its operands meet the rules in the room of the state
pub operands_here : (parts : GraphParts) (s : State) (at : ℕ) (e : Edge) → IsGraph parts → IsState parts s → Leaves parts s at e → IsTrue (operands_fit parts (storage_of parts s).room e.operation)
operands_here parts s at e g h l =
    let r = running parts s g h in
    let fits = g.edges at e l.0 in
    let own = edge_own parts s at e g r l in
    let f = taken (Operable parts e.operation) (slice_get parts.functions e.function) fits.operands in
    let same : f.0 ≡ r.at.own = same_Some f.0 r.at.own (sym f.1 ∙ ap (slice_get parts.functions) own ∙ r.at.own_is) in
    let room : room_of parts f.0 ≡ room_in parts (function_at parts s.node) = ap (room_of parts) same ∙ sym (ap (room_in parts) r.at.found) in
    subst (λ q. IsTrue (operands_fit parts q e.operation)) room f.2

-- the same of an operation that the edge has
pub operands_of : (parts : GraphParts) (s : State) (at : ℕ) (e : Edge) (op : Operation) → IsGraph parts → IsState parts s → Leaves parts s at e → e.operation ≡ op → IsTrue (operands_fit parts (storage_of parts s).room op)
operands_of parts s at e op g h l is =
    subst (λ q. IsTrue (operands_fit parts (storage_of parts s).room q)) is (operands_here parts s at e g h l)

-- what it names is there
pub numbers_of : (parts : GraphParts) (s : State) (at : ℕ) (e : Edge) (op : Operation) → IsGraph parts → Leaves parts s at e → e.operation ≡ op → NumbersFit parts op
numbers_of parts s at e op g l is = subst (NumbersFit parts) is (g.edges at e l.0).numbers
