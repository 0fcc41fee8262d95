-- Words whose bits are made inputs one after another.
use Rattle.std.proofs.Common.{◌≡◌, ℕ, ◌+◌, ◌≤◌, List, length, set, ◌∙◌, arith}
use Rattle.std.proofs.lemmas.List.{length-set}
use Rattle.std.specs.Prelude.{All}
use Rattle.std.proofs.lemmas.List.Elements.{All-set}
use Rattle.circuit.specs.Truth.{Extends, extends_self, extends_again}
use Rattle.circuit.specs.Bits.{bits_stay}
use Rattle.circuit.specs.Wires.{IsWire, lit_holds}
use Rattle.circuit.specs.declared.lit.Lit.{Lit}
use Rattle.circuit.specs.declared.lit.Gate.{Gate}

pub record FreeSoFar (old new : List Gate) (bits : List Lit) (i : ℕ) : Type 0 where
  pub size : length bits ≡ 64
  pub older : Extends IsWire lit_holds old new
  pub used : length new ≤ length old + i
  pub wires : All (IsWire new) bits

pub free_none : (gates : List Gate) (bits : List Lit) → length bits ≡ 64 → All (IsWire gates) bits → FreeSoFar gates gates bits 0
free_none gates bits n h = record { size = n; older = extends_self gates; used = omega arith; wires = h }

pub free_more : {old mid new : List Gate} {bits : List Lit} {i : ℕ} (l : Lit) → FreeSoFar old mid bits i → Extends IsWire lit_holds mid new → length new ≤ length mid + 1 → IsWire new l → FreeSoFar old new (set bits i l) (i + 1)
free_more {new = new} {bits = bits} {i = i} l f e n h = record {
  size = length-set bits i l ∙ f.size;
  older = extends_again f.older e;
  used = (let u = f.used in omega arith);
  wires = All-set (IsWire new) bits i l h (bits_stay bits e f.wires);
}
