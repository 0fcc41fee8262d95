-- Where runs begin.
use Rattle.std.proofs.Common.{◌≡◌, ℕ, ◌+◌, ◌<◌, List, [], ◌∷◌, ◌++◌, Some, length, take, get_or, refl, sym, ap, ◌∙◌, length-append, arith}
use Rattle.std.specs.Prelude.{All, replicate, slice_get}
use Rattle.std.proofs.lemmas.List.{length-replicate, map-append, take_more}
use Rattle.std.proofs.lemmas.List.Elements.{All-append, All-cons}
use Rattle.c_values.specs.declared.kinds.Kind.{Kind}
use Rattle.circuit.specs.Truth.{World}
use Rattle.circuit.specs.Wires.{IsWire}
use Rattle.circuit.specs.declared.lit.Lit.{Lit}
use Rattle.circuit.specs.declared.lit.Gate.{Gate}
use Rattle.bit_words.specs.Words.{word_value}
use Rattle.cfa.specs.declared.parts.Function.{Function}
use Rattle.cfa.specs.declared.parts.GraphParts.{GraphParts}
use Rattle.cfa.specs.Graph.{IsGraph}
use Rattle.cfa.specs.States.{IsState}
use Rattle.c_meaning.specs.Starts.{CanStart, first_frame, first_globals, fitted_words, frame_cells, start_of}
use Rattle.c_meaning.proofs.Begun.{start_state}
use Rattle.c_meaning.proofs.Kept.{with_cells}
use Rattle.c_meaning.proofs.Next.{length-frame_cells}
use Rattle.sym_expr.specs.Stores.{cells_in}
use Rattle.sym_expr.specs.sym_steps.Cells.{new_cells}

-- the words of the values below a place
pub record ConstantsSoFar (values : List ℕ) (words : List (List Lit)) (k : ℕ) : Type 0 where
  pub cells : (gates : List Gate) (w : World) → cells_in gates words w ≡ take k values
  pub wires : (gates : List Gate) → All (All (IsWire gates)) words

pub constants_none : (values : List ℕ) → ConstantsSoFar values [] 0
constants_none values = record { cells = λ gates w. refl; wires = λ gates k d lt. absurd (omega arith) }

pub constants_more : {values : List ℕ} {words : List (List Lit)} {k : ℕ} (word : List Lit) → ConstantsSoFar values words k → k < length values → ((gates : List Gate) → All (IsWire gates) word) → ((gates : List Gate) (w : World) → word_value gates word w ≡ get_or values k 0)
    → ConstantsSoFar values (words ++ word ∷ []) (k + 1)
constants_more {values} {words} {k} word so lt wires value = record {
  cells = λ gates w.
      map-append (λ v. word_value gates v w) words (word ∷ [])
      ∙ ap (λ xs. xs ++ word_value gates word w ∷ []) (so.cells gates w)
      ∙ ap (λ v. take k values ++ v ∷ []) (value gates w)
      ∙ sym (take_more values k 0 lt);
  wires = λ gates. All-append (All (IsWire gates)) words (word ∷ []) (so.wires gates) (All-cons (All (IsWire gates)) word [] (wires gates) (λ j d l. absurd (omega arith)));
}

-- the state at the entry with any values of the parameters is a state of the graph
pub begins : (parts : GraphParts) (k : ℕ) (f : Function) (values : List ℕ) → IsGraph parts → slice_get parts.functions k ≡ Some f → length values ≡ length f.parameters → f.arrays ≡ []
    → IsState parts (record { node = f.entry; frames = first_frame parts ∷ []; cells = first_globals parts ++ new_cells f.cells values; taken = 0 })
begins parts k f values g own same none =
    let zeros : List ℕ = replicate (length values) 0 in
    let long : length zeros ≡ length values = length-replicate (length values) 0 in
    let can : CanStart f zeros = (omega (arith, long, same), none) in
    let least = (g.rest.functions k f own).least_cells in
    let here = length-frame_cells f values (omega (arith, same, least)) in
    let start = start_state parts k f zeros g own can in
    let fitted_long = length-fitted zeros f.parameters can.0 in
    let there = length-frame_cells f (fitted_words zeros f.parameters) (omega (arith, fitted_long, long, same, least)) in
    with_cells parts (start_of parts f zeros) f.entry (first_globals parts ++ new_cells f.cells values) start
    (omega (arith, length-append (first_globals parts) (new_cells f.cells values), length-append (first_globals parts) (frame_cells f (fitted_words zeros f.parameters)), here, there))
  where
    length-fitted : (words : List ℕ) (kinds : List Kind) → length words ≡ length kinds → length (fitted_words words kinds) ≡ length words
    length-fitted [] kinds h = refl
    length-fitted (w ∷ words) [] h = absurd (omega (arith, h))
    length-fitted (w ∷ words) (k ∷ kinds) h = omega (arith, length-fitted words kinds (omega (arith, h)))
