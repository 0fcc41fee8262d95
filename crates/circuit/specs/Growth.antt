-- Circuits that grow by gates that are no inputs.
use Rattle.std.specs.Prelude.{◌≡◌, ◌+◌, ◌≤◌, List, [], ◌∷◌, ◌++◌, length, take, drop}
use Rattle.std.proofs.Common.{refl, sym, ap, subst, ◌∙◌, arith, length-append, append_assoc}
use Rattle.std.proofs.lemmas.List.{append-nil, take-append-drop}
use Rattle.std.proofs.Math.Seq.{take-append_seam, drop-append_seam}
use Rattle.circuit.specs.declared.lit.Gate.{Gate}
use Rattle.circuit.specs.declared.lit.Gate.TheVariants.{Input, And}
use Rattle.circuit.specs.Wires.{input_count}

-- the old gates are the first of the new ones, and no gate after them is an input
pub record GrowsTo (old new : List Gate) : Type 0 where
  pub longer : length old ≤ length new
  pub front : take (length old) new ≡ old
  pub no_input : input_count (drop (length old) new) ≡ 0

pub input_count-append : (xs ys : List Gate) → input_count (xs ++ ys) ≡ input_count xs + input_count ys
input_count-append [] ys = omega arith
input_count-append (Input k ∷ xs) ys = omega (arith, input_count-append xs ys)
input_count-append (And left right ∷ xs) ys = input_count-append xs ys

-- the gates after the old ones
pub grows_by : (old more : List Gate) → input_count more ≡ 0 → GrowsTo old (old ++ more)
grows_by old more none = record {
  longer = omega (arith, length-append old more);
  front = take-append_seam old more;
  no_input = ap input_count (drop-append_seam old more) ∙ none;
}

module _ {old new : List Gate} (h : GrowsTo old new) where
  pub more_gates : old ++ drop (length old) new ≡ new
  more_gates = ap (λ xs. xs ++ drop (length old) new) (sym h.front) ∙ take-append-drop (length old) new

  -- no more inputs
  pub same_inputs : input_count new ≡ input_count old
  same_inputs = let n = h.no_input in omega (arith, ap input_count (sym more_gates), input_count-append old (drop (length old) new))

-- a circuit grows to itself
pub grows_to_self : (gates : List Gate) → GrowsTo gates gates
grows_to_self gates = subst (GrowsTo gates) (append-nil gates) (grows_by gates [] refl)

-- and on from where it grew to
pub grows_to_again : (a b c : List Gate) → GrowsTo a b → GrowsTo b c → GrowsTo a c
grows_to_again a b c f g =
    let m = drop (length a) b in
    let n = drop (length b) c in
    let e : a ++ (m ++ n) ≡ c = sym (append_assoc a m n) ∙ ap (λ xs. xs ++ n) (more_gates f) ∙ more_gates g in
    subst (GrowsTo a) e (grows_by a (m ++ n) (omega (arith, f.no_input, g.no_input, input_count-append m n)))
