-- Circuits that grow: what one step after another leaves.
use Rattle.std.proofs.Common.{◌≡◌, ℕ, ◌+◌, ◌≤◌, List, length, refl, ◌∙◌, arith}
use Rattle.circuit.specs.Truth.{World, Extends, extends_self, extends_again}
use Rattle.circuit.specs.Growth.{GrowsTo, grows_to_self, grows_to_again}
use Rattle.circuit.specs.Wires.{IsWire, lit_holds, input_count}
use Rattle.circuit.specs.declared.lit.Lit.{Lit}
use Rattle.circuit.specs.declared.lit.Gate.{Gate}
use Rattle.bit_words.specs.Words.{Grows}

-- one gate
pub grows_gate : {a b : List Gate} → GrowsTo a b → Extends IsWire lit_holds a b → length b ≤ length a + 1 → input_count b ≡ input_count a → Grows a b 1
grows_gate g e u i = record { grown = g; older = e; used = u; inputs = i }

pub grows_none : (gates : List Gate) (n : ℕ) → Grows gates gates n
grows_none gates n = record { grown = grows_to_self gates; older = extends_self gates; used = omega arith; inputs = refl }

-- one step after another
pub grows_then : {a b c : List Gate} {m n : ℕ} → Grows a b m → Grows b c n → Grows a c (m + n)
grows_then {a} {b} {c} f g = record { grown = grows_to_again a b c f.grown g.grown; older = extends_again f.older g.older; used = (let x = f.used in let y = g.used in omega arith); inputs = g.inputs ∙ f.inputs }

pub grows_within : {a b : List Gate} {m : ℕ} (k : ℕ) → Grows a b m → m ≤ k → Grows a b k
grows_within k f h = record { grown = f.grown; older = f.older; used = (let x = f.used in omega arith); inputs = f.inputs }

-- an older literal is on a wire, and holds what it held
pub still : {a b : List Gate} {n : ℕ} → Grows a b n → (l : Lit) → IsWire a l → IsWire b l
still f l h = f.older.bit l h

pub same : {a b : List Gate} {n : ℕ} → Grows a b n → (l : Lit) → IsWire a l → (w : World) → lit_holds b l w ≡ lit_holds a l w
same f l h w = f.older.same l h w
