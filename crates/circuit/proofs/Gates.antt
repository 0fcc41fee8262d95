-- One more gate, and what the wires hold then.
use Rattle.std.proofs.Common.{subst, ◌≡◌, ℕ, zero, suc, ◌+◌, ◌≤◌, ◌<◌, ◌^◌, Bool, true, false, not, ◌&&◌, ◌||◌, if◌then◌else◌, List, [], ◌∷◌, ◌++◌, length, get_or, take, drop, refl, sym, ◌∙◌, ap, arith, append_assoc, length-append}
use Rattle.std.proofs.lemmas.List.{append-nil, take_more, take-append-drop, length-take-le}
use Rattle.std.proofs.lemmas.List.Elements.{All-append, All-take}
use Rattle.std.specs.List.{All}
use Rattle.circuit.specs.Truth.{World, Extends, extends_self, extends_again}
use Rattle.circuit.specs.declared.lit.Lit.{Lit}
use Rattle.circuit.specs.declared.lit.Gate.{Gate}
use Rattle.circuit.specs.declared.lit.Gate.TheVariants.{Input, And}
use Rattle.circuit.specs.Wires.{lit_value, gate_value, held_from, held, lit_holds, IsWire, input_count, PartsUpTo, PartsLieBelow, HasNumber, InputsAreNumbered, IsReduced, IsCircuit}
use Rattle.circuit.specs.Growth.{input_count-append}

pub held_more : (below : List Bool) (gates : List Gate) (g : Gate) (w : World) → held_from below (gates ++ g ∷ []) w ≡ held_from below gates w ++ gate_value (held_from below gates w) w g ∷ []
held_more below [] g w = refl
held_more below (x ∷ gates) g w = held_more (below ++ gate_value below w x ∷ []) gates g w

pub length-held_from : (below : List Bool) (gates : List Gate) (w : World) → length (held_from below gates w) ≡ length below + length gates
length-held_from below [] w = omega arith
length-held_from below (x ∷ gates) w = let e = length-held_from (below ++ gate_value below w x ∷ []) gates w in omega (arith, length-append below (gate_value below w x ∷ []))

index_below : (xs ys : List Bool) (n : ℕ) → n < length xs → get_or (xs ++ ys) n false ≡ get_or xs n false
index_below [] ys n lt = absurd (omega arith)
index_below (x ∷ xs) ys zero lt = refl
index_below (x ∷ xs) ys (suc n) lt = index_below xs ys n (omega arith)

pub index_last : (xs : List Bool) (y : Bool) (n : ℕ) → n ≡ length xs → get_or (xs ++ y ∷ []) n false ≡ y
index_last [] y zero e = refl
index_last [] y (suc n) e = absurd (omega arith)
index_last (x ∷ xs) y zero e = absurd (omega arith)
index_last (x ∷ xs) y (suc n) e = index_last xs y n (omega arith)

module _ (gates : List Gate) (g : Gate) where
  kept : (l : Lit) (w : World) → IsWire gates l → lit_holds (gates ++ g ∷ []) l w ≡ lit_holds gates l w
  kept l w small =
      let size = length-held_from (true ∷ []) gates w in
      let e : get_or (held (gates ++ g ∷ []) w) l.wire false ≡ get_or (held gates w) l.wire false =
      ap (λ xs. get_or xs l.wire false) (held_more (true ∷ []) gates g w) ∙ index_below (held gates w) _ l.wire (omega arith) in
      ap (λ b. if l.negated then not b else b) e

  -- older literals are wires still, and hold what they held
  pub gates_extend : Extends IsWire lit_holds gates (gates ++ g ∷ [])
  gates_extend = record {
    bit = λ l small. omega (arith, length-append gates (g ∷ []));
    same = λ l small w. kept l w small;
  }

  -- the new wire
  pub newest : (wire : ℕ) (w : World) → wire ≡ suc (length gates) → get_or (held (gates ++ g ∷ []) w) wire false ≡ gate_value (held gates w) w g
  newest wire w e =
      let size = length-held_from (true ∷ []) gates w in
      ap (λ xs. get_or xs wire false) (held_more (true ∷ []) gates g w) ∙ index_last (held gates w) _ wire (omega arith)

pub neither : (a b : Bool) → not (not a && not b) ≡ (a || b)
neither true b = refl
neither false true = refl
neither false false = refl

pub lit_not : (a : List Bool) (l : Lit) (b : Bool) → b ≡ not l.negated → lit_value a (record { wire = l.wire; negated = b }) ≡ not (lit_value a l)
lit_not a l b e = ap (λ x. if x then not (get_or a l.wire false) else get_or a l.wire false) e ∙ flipped l.negated (get_or a l.wire false)
  where
    flipped : (n x : Bool) → (if not n then not x else x) ≡ not (if n then not x else x)
    flipped true true = refl
    flipped true false = refl
    flipped false x = refl

first_stays : (x : Bool) (below : List Bool) (gates : List Gate) (w : World) → get_or (held_from (x ∷ below) gates w) 0 false ≡ x
first_stays x below [] w = refl
first_stays x below (g ∷ gates) w = first_stays x (below ++ gate_value (x ∷ below) w g ∷ []) gates w

-- wire 0 is yes
pub constant_wire : (gates : List Gate) (w : World) → get_or (held gates w) 0 false ≡ true
constant_wire gates w = first_stays true [] gates w

-- the gates with one more
pub record AfterGate (old new : List Gate) (g : Gate) : Type 0 where
  pub older : Extends IsWire lit_holds old new
  pub used : length new ≡ length old + 1
  pub newest : (wire : ℕ) (w : World) → wire ≡ length old + 1 → get_or (held new w) wire false ≡ gate_value (held old w) w g

pub after_gate : (old new : List Gate) (g : Gate) → new ≡ old ++ g ∷ [] → AfterGate old new g
after_gate old new g e = subst (λ gates. AfterGate old gates g) (sym e) (record {
  older = gates_extend old g;
  used = length-append old (g ∷ []);
  newest = λ wire w k. newest old g wire w (omega arith);
})

pub input_count_more : (gates : List Gate) (number : ℕ) → input_count (gates ++ Input number ∷ []) ≡ input_count gates + 1
input_count_more [] number = refl
input_count_more (Input k ∷ gates) number = omega (arith, input_count_more gates number)
input_count_more (And left right ∷ gates) number = input_count_more gates number

pub input_count_same : (gates : List Gate) (left right : Lit) → input_count (gates ++ And left right ∷ []) ≡ input_count gates
input_count_same [] left right = refl
input_count_same (Input k ∷ gates) left right = ap (λ n. 1 + n) (input_count_same gates left right)
input_count_same (And l r ∷ gates) left right = input_count_same gates left right

pub input_count_within : (gates : List Gate) → input_count gates ≤ length gates
input_count_within [] = omega arith
input_count_within (Input k ∷ gates) = omega (arith, input_count_within gates)
input_count_within (And left right ∷ gates) = omega (arith, input_count_within gates)

pub below_more : (below : ℕ) (gates : List Gate) (g : Gate) → PartsLieBelow below gates → PartsUpTo (below + length gates) g → PartsLieBelow below (gates ++ g ∷ [])
below_more below [] g h k = let e : below + 0 ≡ below = omega arith in (subst (λ n. PartsUpTo n g) e k, tt)
below_more below (x ∷ gates) g h k = let e : below + suc (length gates) ≡ suc below + length gates = omega arith in
    (h.0, below_more (suc below) gates g h.1 (subst (λ n. PartsUpTo n g) e k))

-- what the wires hold, one gate further
pub held_next : (gates : List Gate) (i : ℕ) (d : Gate) (w : World) → i < length gates
    → held (take (i + 1) gates) w ≡ held (take i gates) w ++ gate_value (held (take i gates) w) w (get_or gates i d) ∷ []
held_next gates i d w lt = ap (λ gs. held gs w) (take_more gates i d lt) ∙ held_more (true ∷ []) (take i gates) (get_or gates i d) w

numbered_more : (below : ℕ) (gates : List Gate) (g : Gate) → InputsAreNumbered below gates → HasNumber (input_count gates + below) g → InputsAreNumbered below (gates ++ g ∷ [])
numbered_more below [] g h k = let e : 0 + below ≡ below = omega arith in (subst (λ n. HasNumber n g) e k, tt)
numbered_more below (Input number ∷ gates) g h k =
    let e : (1 + input_count gates) + below ≡ input_count gates + (1 + below) = omega arith in
    (h.0, numbered_more (1 + below) gates g h.1 (subst (λ n. HasNumber n g) e k))
numbered_more below (And left right ∷ gates) g h k =
    let e : input_count gates + below ≡ input_count gates + (0 + below) = omega arith in
    (h.0, numbered_more (0 + below) gates g h.1 (subst (λ n. HasNumber n g) e k))

-- one more gate of lower wires, an input with the next number if it is one
pub circuit_more : (gates : List Gate) (g : Gate) → IsCircuit gates → length gates < 2 ^ 30 → PartsUpTo (length gates) g → HasNumber (input_count gates) g → IsReduced g → IsCircuit (gates ++ g ∷ [])
circuit_more gates g h room parts number reduced =
    let e : 0 + length gates ≡ length gates = omega arith in
    let f : input_count gates + 0 ≡ input_count gates = omega arith in
    record {
      few = omega (arith, length-append gates (g ∷ []));
      below = below_more 0 gates g h.below (subst (λ n. PartsUpTo n g) (sym e) parts);
      numbered = numbered_more 0 gates g h.numbered (subst (λ n. HasNumber n g) (sym f) number);
      reduced = All-append IsReduced gates (g ∷ []) h.reduced (only g reduced);
    }
  where
    only : (x : Gate) → IsReduced x → All IsReduced (x ∷ [])
    only x here zero d lt = here
    only x here (suc k) d lt = absurd (omega arith)

below_at : (below : ℕ) (gates : List Gate) (k : ℕ) (d : Gate) → PartsLieBelow below gates → k < length gates → PartsUpTo (k + below) (get_or gates k d)
below_at below [] k d h lt = absurd (omega arith)
below_at below (g ∷ gates) zero d h lt = let e : 0 + below ≡ below = omega arith in subst (λ n. PartsUpTo n g) (sym e) h.0
below_at below (g ∷ gates) (suc k) d h lt =
    let e : k + suc below ≡ suc k + below = omega arith in
    subst (λ n. PartsUpTo n (get_or gates k d)) e (below_at (suc below) gates k d h.1 (omega arith))

numbered_at : (below : ℕ) (gates : List Gate) (k : ℕ) (d : Gate) → InputsAreNumbered below gates → k < length gates → HasNumber (input_count (take k gates) + below) (get_or gates k d)
numbered_at below [] k d h lt = absurd (omega arith)
numbered_at below (g ∷ gates) zero d h lt = let e : 0 + below ≡ below = omega arith in subst (λ n. HasNumber n g) (sym e) h.0
numbered_at below (g ∷ gates) (suc k) d h lt =
    let n = input_count (g ∷ []) + below in
    let e : input_count (take k gates) + (input_count (g ∷ []) + below) ≡ input_count (g ∷ take k gates) + below =
    omega (arith, input_count-append (g ∷ []) (take k gates)) in
    subst (λ n. HasNumber n (get_or gates k d)) e (numbered_at n gates k d h.1 (omega arith))

-- what is known of a gate of a circuit
pub record GateAt (gates : List Gate) (k : ℕ) (g : Gate) : Type 0 where
  pub parts : PartsUpTo k g
  pub number : HasNumber (input_count (take k gates)) g
  pub reduced : IsReduced g

pub gate_at : (gates : List Gate) (k : ℕ) (d : Gate) → IsCircuit gates → k < length gates → GateAt gates k (get_or gates k d)
gate_at gates k d h lt =
    let e : k + 0 ≡ k = omega arith in
    let f : input_count (take k gates) + 0 ≡ input_count (take k gates) = omega arith in
    record {
      parts = subst (λ n. PartsUpTo n (get_or gates k d)) e (below_at 0 gates k d h.below lt);
      number = subst (λ n. HasNumber n (get_or gates k d)) f (numbered_at 0 gates k d h.numbered lt);
      reduced = h.reduced k d lt;
    }

-- ---- a cut

below_first : (below : ℕ) (xs ys : List Gate) → PartsLieBelow below (xs ++ ys) → PartsLieBelow below xs
below_first below [] ys h = tt
below_first below (x ∷ xs) ys h = (h.0, below_first (suc below) xs ys h.1)

numbered_first : (below : ℕ) (xs ys : List Gate) → InputsAreNumbered below (xs ++ ys) → InputsAreNumbered below xs
numbered_first below [] ys h = tt
numbered_first below (x ∷ xs) ys h = (h.0, numbered_first (input_count (x ∷ []) + below) xs ys h.1)

pub extend_by : (gates more : List Gate) → Extends IsWire lit_holds gates (gates ++ more)
extend_by gates [] = subst (Extends IsWire lit_holds gates) (sym (append-nil gates)) (extends_self gates)
extend_by gates (g ∷ more) =
    subst (Extends IsWire lit_holds gates) (append_assoc gates (g ∷ []) more)
    (extends_again (gates_extend gates g) (extend_by (gates ++ g ∷ []) more))

-- the first gates, and what their wires hold
pub record AfterCut (old new : List Gate) (wires : ℕ) : Type 0 where
  pub circuit : IsCircuit new
  pub kept : (l : Lit) → l.wire ≤ wires → (w : World) → lit_holds new l w ≡ lit_holds old l w
  pub inputs : input_count new ≡ input_count old

pub after_cut : (old new : List Gate) (wires : ℕ) → new ≡ take wires old → IsCircuit old → wires ≤ length old → input_count (drop wires old) ≡ 0 → AfterCut old new wires
after_cut old new wires e h le none =
    let parts : take wires old ++ drop wires old ≡ old = take-append-drop wires old in
    let size : length (take wires old) ≡ wires = length-take-le wires old le in
    let longer : Extends IsWire lit_holds (take wires old) old = subst (Extends IsWire lit_holds (take wires old)) parts (extend_by (take wires old) (drop wires old)) in
    let count = ap input_count (sym parts) ∙ input_count-append (take wires old) (drop wires old) in
    let whole : IsCircuit (take wires old ++ drop wires old) = subst IsCircuit (sym parts) h in
    subst (λ gates. AfterCut old gates wires) (sym e) (record {
      circuit = record {
        few = (let f = h.few in omega arith);
        below = below_first 0 (take wires old) (drop wires old) whole.below;
        numbered = numbered_first 0 (take wires old) (drop wires old) whole.numbered;
        reduced = All-take IsReduced wires old h.reduced;
      };
      kept = λ l small w. sym (longer.same l (omega arith) w);
      inputs = omega arith;
    })
