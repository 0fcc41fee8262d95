-- Circuits of inputs alone: their gates, and what their wires hold.
use Rattle.std.proofs.Common.{◌≡◌, ℕ, zero, suc, ◌+◌, ◌<◌, false, List, [], ◌∷◌, ◌++◌, Some, length, get_or, set, replicate, refl, sym, ap, ◌∙◌, below_more, ⊎_elim, length-append, arith}
use Rattle.std.specs.Prelude.{slice_get}
use Rattle.std.proofs.lemmas.Bool.{cases_lt}
use Rattle.std.proofs.lemmas.List.{get_or-set_other, get_or-set_same, get_or_append_left, get_or_at, length-replicate, length-set}
use Rattle.std.proofs.lemmas.List.Elements.{All-replicate, All-set}
use Rattle.std.proofs.lemmas.Option.{slice_get-get_or}
use Rattle.circuit.specs.Sharing.{lit_of, no_lit}
use Rattle.circuit.specs.Truth.{World}
use Rattle.circuit.specs.Wires.{IsWire, input_count, lit_holds}
use Rattle.circuit.specs.declared.lit.Gate.{Gate}
use Rattle.circuit.specs.declared.lit.Gate.TheVariants.{Input}
use Rattle.circuit.specs.declared.lit.Lit.{Lit}
use Rattle.circuit.proofs.Gates.{gates_extend, input_count_more, newest}
use Rattle.unwinder.specs.input_words.Parts.{HasInputs, input_gates}

pub length-input_gates : (n : ℕ) → length (input_gates n) ≡ n
unfolding input_gates
length-input_gates zero = refl
length-input_gates (suc n) = omega (arith, length-append (input_gates n) (Input n ∷ []), length-input_gates n)

pub input_count-input_gates : (n : ℕ) → input_count (input_gates n) ≡ n
unfolding input_gates
input_count-input_gates zero = refl
input_count-input_gates (suc n) = omega (arith, input_count_more (input_gates n) n, input_count-input_gates n)

-- a circuit of inputs alone, by its length
pub alone_length : (gates : List Gate) (n : ℕ) → gates ≡ input_gates n → length gates ≡ n
alone_length gates n e = ap length e ∙ length-input_gates n

pub alone_at : (gates : List Gate) (n : ℕ) → gates ≡ input_gates n → gates ≡ input_gates (length gates)
alone_at gates n e = e ∙ ap input_gates (sym (alone_length gates n e))

pub input_gates-none : input_gates 0 ≡ []
unfolding input_gates
input_gates-none = refl

-- one input more
pub input_gates-more : (n : ℕ) (gates : List Gate) → gates ≡ input_gates n → gates ++ Input (input_count gates) ∷ [] ≡ input_gates (n + 1)
unfolding input_gates
input_gates-more n gates e =
    let next : n + 1 ≡ suc n = omega arith in
    ap (λ (gs : List Gate). gs ++ Input (input_count gs) ∷ []) e
    ∙ ap (λ k. input_gates n ++ Input k ∷ []) (input_count-input_gates n)
    ∙ ap input_gates (sym next)

get_or-input_gates : (n k : ℕ) (d : Gate) → k < n → get_or (input_gates n) k d ≡ Input k
unfolding input_gates
get_or-input_gates zero k d h = absurd (omega arith)
get_or-input_gates (suc n) k d h =
    let long = length-input_gates n in
    ⊎_elim
    (λ lt. get_or_append_left (input_gates n) (Input n ∷ []) d k (omega arith) ∙ get_or-input_gates n k d lt)
    (λ le. let e : k ≡ n = omega arith in
    get_or_at (input_gates n) (Input n) [] d k (omega arith) ∙ ap Input (sym e))
    (cases_lt k n)

-- each gate is the input of its number
pub gate_is : (n k : ℕ) → k < n → slice_get (input_gates n) k ≡ Some (Input k)
gate_is n k h =
    let long = length-input_gates n in
    slice_get-get_or (input_gates n) k (Input k) (omega arith) ∙ ap Some (get_or-input_gates n k (Input k) h)

-- and its wire holds what the world has at that place
pub input_holds : (n k : ℕ) (w : World) → k < n → lit_holds (input_gates n) (lit_of (k + 1)) w ≡ get_or w k false
unfolding input_gates
input_holds zero k w h = absurd (omega arith)
input_holds (suc n) k w h =
    let long = length-input_gates n in
    let more = gates_extend (input_gates n) (Input n) in
    ⊎_elim
    (λ lt. more.same (lit_of (k + 1)) (omega arith) w ∙ input_holds n k w lt)
    (λ le. let e : k ≡ n = omega arith in
    newest (input_gates n) (Input n) (k + 1) w (omega arith) ∙ ap (λ i. get_or w i false) (sym e))
    (cases_lt k n)

-- ---- the bits of a word, one input after another

pub record FreshSoFar (first : ℕ) (gates : List Gate) (bits : List Lit) (i : ℕ) : Type 0 where
  pub alone : gates ≡ input_gates (first + i)
  pub inputs : HasInputs first i bits

pub fresh_none : (gates : List Gate) → gates ≡ input_gates (length gates) → FreshSoFar (length gates) gates (replicate 64 no_lit) 0
fresh_none gates e =
    let none : length gates ≡ length gates + 0 = omega arith in
    record {
      alone = e ∙ ap input_gates none;
      inputs = record {
        size = length-replicate 64 no_lit;
        own = λ k lt. absurd (omega arith);
        wires = λ all h. let zero_wire : IsWire all no_lit = omega arith in All-replicate (IsWire all) 64 no_lit zero_wire;
      };
    }

pub fresh_more : {first : ℕ} {gates new : List Gate} {bits : List Lit} {i : ℕ} (l : Lit) → FreshSoFar first gates bits i → i < 64 → new ≡ gates ++ Input (input_count gates) ∷ [] → l ≡ lit_of (length new) → FreshSoFar first new (set bits i l) (i + 1)
fresh_more {first} {gates} {new} {bits} {i} l r lt more is =
    let size = r.inputs.size in
    let next : first + i + 1 ≡ first + (i + 1) = omega arith in
    let now : new ≡ input_gates (first + i + 1) = more ∙ input_gates-more (first + i) gates r.alone in
    let long : length new ≡ first + i + 1 = ap length now ∙ length-input_gates (first + i + 1) in
    let own : l ≡ lit_of (first + i + 1) = is ∙ ap lit_of long in
    let wire : l.wire ≡ first + i + 1 = ap (λ (x : Lit). x.wire) own in
    record {
      alone = now ∙ ap input_gates next;
      inputs = record {
        size = length-set bits i l ∙ size;
        own = below_more (λ k. (d : Lit) → get_or (set bits i l) k d ≡ lit_of (first + k + 1)) i
            (λ k h d. get_or-set_other bits i k l d (omega arith) ∙ r.inputs.own k h d)
            (λ d. get_or-set_same bits i l d (omega arith) ∙ own);
        wires = λ all h. let there : IsWire all l = omega arith in All-set (IsWire all) bits i l there (r.inputs.wires all (omega arith));
      };
    }
