-- What the conditions of `translate` ask of a store's places.
use Rattle.std.proofs.Common.{◌≡◌, ℕ, ◌+◌, ◌≤◌, List, [], ◌∷◌, ◌++◌, sym, subst, arith}
use Rattle.std.specs.Prelude.{All}
use Rattle.std.specs.List.{AllZip}
use Rattle.std.proofs.lemmas.List.Elements.{All-push}
use Rattle.circuit.specs.Truth.{Extends}
use Rattle.circuit.specs.Bits.{bits_stay}
use Rattle.circuit.specs.Wires.{IsWire, lit_holds}
use Rattle.circuit.specs.declared.lit.Lit.{Lit}
use Rattle.circuit.specs.declared.lit.Gate.{Gate}
use Rattle.cfa.specs.declared.state.Frame.{Frame}
use Rattle.sym_expr.specs.Stores.{HasRoom}
use Rattle.test_expressions.specs.declared.stores.Places.{Places}
use Rattle.test_expressions.specs.Rooms.{room_of}

pub has_room : (count : ℕ) (frame : Frame) (places : Places) → frame.base ≡ places.base → frame.arrays ≡ places.lent.0 ∷ [] → places.globals ≤ count → places.base + places.locals ≤ count → places.lent.0 + places.lent.1 ≤ count
    → HasRoom count frame (room_of places)
has_room count frame places base arrays g l a = record {
  globals = g;
  locals = omega arith;
  arrays = subst (λ starts. AllZip (λ start length. start + length ≤ count) starts (places.lent.1 ∷ [])) (sym arrays) (a, tt);
}

-- one more word of a store
pub words_more : {old new : List Gate} (words after : List (List Lit)) (word : List Lit) → All (All (IsWire old)) words → Extends IsWire lit_holds old new → All (IsWire new) word → after ≡ words ++ word ∷ [] → All (All (IsWire new)) after
words_more {new = new} words after word h e w is =
    subst (All (All (IsWire new))) (sym is) (All-push (All (IsWire new)) words word (λ k d lt. bits_stay _ e (h k d lt)) w)
