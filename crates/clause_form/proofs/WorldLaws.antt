-- What a wire holds, by its gate, and the world of an assignment.
use Rattle.std.proofs.Common.{◌≡◌, ℕ, zero, suc, ◌+◌, ◌-◌, ◌≤◌, ◌<◌, Bool, true, false, ◌&&◌, List, [], ◌∷◌, ◌++◌, length, get_or, take, drop, refl, sym, ◌∙◌, ap, subst, arith, length-drop}
use Rattle.std.proofs.lemmas.List.{get_or-drop, take-append-drop, length-take-le}
use Rattle.std.specs.Prelude.{Option, None, Some, slice_get}
use Rattle.std.specs.Option.{option_map_or}
use Rattle.std.specs.List.{filter_map, range_with_len}
use Rattle.circuit.specs.Truth.{World, Extends}
use Rattle.circuit.specs.declared.lit.Lit.{Lit}
use Rattle.circuit.specs.declared.lit.Gate.{Gate}
use Rattle.circuit.specs.declared.lit.Gate.TheVariants.{Input, And}
use Rattle.circuit.specs.Wires.{gate_value, held, lit_holds, IsWire, PartsUpTo, input_count}
use Rattle.circuit.specs.Sharing.{lit_of}
use Rattle.circuit.proofs.Gates.{extend_by, length-held_from, newest}
use Rattle.clause_form.specs.Worlds.{assignment_of, values_of, world_of}
use Rattle.clause_form.proofs.NumberLaws.{numbered_at}

-- a place with something at it
pub within_get : {A : Type 0} (xs : List A) (k : ℕ) (x : A) → slice_get xs k ≡ Some x → k < length xs
within_get [] k x e = cc
within_get (y ∷ xs) zero x e = omega arith
within_get (y ∷ xs) (suc k) x e = let r = within_get xs k x e in omega arith

pub get_within : {A : Type 0} (xs : List A) (k : ℕ) → k < length xs → (x : A) × (slice_get xs k ≡ Some x)
get_within [] k lt = absurd (omega arith)
get_within (y ∷ xs) zero lt = (y, refl)
get_within (y ∷ xs) (suc k) lt = get_within xs k (omega arith)

take_at : {A : Type 0} (xs : List A) (k : ℕ) (x : A) → slice_get xs k ≡ Some x → take (suc k) xs ≡ take k xs ++ x ∷ []
take_at [] k x e = cc
take_at (y ∷ xs) zero x e = let f : y ≡ x = cc in ap (λ z. z ∷ []) f
take_at (y ∷ xs) (suc k) x e = ap (λ zs. y ∷ zs) (take_at xs k x e)

-- the first wires hold the same without those above them
first_wires : (gates : List Gate) (k : ℕ) (world : World) (l : Lit) → k ≤ length gates → l.wire ≤ k → lit_holds gates l world ≡ lit_holds (take k gates) l world
first_wires gates k world l le small =
    let parts : take k gates ++ drop k gates ≡ gates = take-append-drop k gates in
    let size : length (take k gates) ≡ k = length-take-le k gates le in
    let longer : Extends IsWire lit_holds (take k gates) gates = subst (Extends IsWire lit_holds (take k gates)) parts (extend_by (take k gates) (drop k gates)) in
    longer.same l (omega arith) world

same_gate : (gates : List Gate) (k : ℕ) (world : World) (g : Gate) → k ≤ length gates → PartsUpTo k g → gate_value (held (take k gates) world) world g ≡ gate_value (held gates world) world g
same_gate gates k world (Input number) le parts = refl
same_gate gates k world (And a b) le parts =
    let p = first_wires gates k world a le parts.0 in
    let q = first_wires gates k world b le parts.1 in
    ap (λ x. x && lit_holds (take k gates) b world) (sym p) ∙ ap (λ y. lit_holds gates a world && y) (sym q)

-- a wire holds what its gate does
pub held_on : (gates : List Gate) (k : ℕ) (world : World) (g : Gate) → slice_get gates k ≡ Some g → PartsUpTo k g → get_or (held gates world) (suc k) false ≡ gate_value (held gates world) world g
held_on gates k world g at parts =
    let lt = within_get gates k g at in
    let size : length (take k gates) ≡ k = length-take-le k gates (omega arith) in
    let up : get_or (held gates world) (suc k) false ≡ get_or (held (take (suc k) gates) world) (suc k) false = first_wires gates (suc k) world (lit_of (suc k)) (omega arith) (omega arith) in
    let here : get_or (held (take (suc k) gates) world) (suc k) false ≡ gate_value (held (take k gates) world) world g =
    ap (λ gs. get_or (held gs world) (suc k) false) (take_at gates k g at) ∙ newest (take k gates) g (suc k) world (omega arith) in
    up ∙ here ∙ same_gate gates k world g (omega arith) parts

-- the world of an assignment has at an input's place what its variable is
pub world_at : (gates : List Gate) (variable : List (Option ℕ)) (value : ℕ → Bool) (k number place n : ℕ) → slice_get gates k ≡ Some (Input number) → place ≡ input_count (take k gates) → get_or variable k None ≡ Some n
    → get_or (world_of gates variable value) place false ≡ value n
world_at [] variable value k number place n at is there = cc
world_at (g ∷ gates) [] value k number place n at is there = cc
world_at (Input x ∷ gates) (v ∷ variable) value zero number place n at is there =
    let e : place ≡ 0 = is in
    subst (λ i. get_or (option_map_or value v false ∷ world_of gates variable value) i false ≡ value n) (sym e) (ap (λ o. option_map_or value o false) there)
world_at (Input x ∷ gates) (v ∷ variable) value (suc k) number place n at is there =
    let e : place ≡ suc (input_count (take k gates)) = omega (arith, is) in
    subst (λ i. get_or (option_map_or value v false ∷ world_of gates variable value) i false ≡ value n) (sym e)
    (world_at gates variable value k number (input_count (take k gates)) n at refl there)
world_at (And a b ∷ gates) (v ∷ variable) value zero number place n at is there = cc
world_at (And a b ∷ gates) (v ∷ variable) value (suc k) number place n at is there = world_at gates variable value k number place n at is there

-- the assignment of a world has at a variable what its wire holds
value_at : (variable : List (Option ℕ)) (wires : List Bool) (a count k n : ℕ) → filter_map (λ v. v) variable ≡ range_with_len a count → length variable ≤ length wires → get_or variable k None ≡ Some n
    → get_or (values_of variable wires) (n - a) false ≡ get_or wires k false
value_at [] wires a count k n numbers le there = cc
value_at (v ∷ variable) [] a count k n numbers le there = absurd (omega arith)
value_at (None ∷ variable) (b ∷ wires) a count zero n numbers le there = cc
value_at (None ∷ variable) (b ∷ wires) a count (suc k) n numbers le there = value_at variable wires a count k n numbers (omega arith) there
value_at (Some x ∷ variable) (b ∷ wires) a zero k n numbers le there = cc
value_at (Some x ∷ variable) (b ∷ wires) a (suc count) zero n numbers le there =
    let f : x ≡ a = cc in
    let g : x ≡ n = cc in
    let e : n - a ≡ 0 = omega arith in
    ap (λ i. get_or (b ∷ values_of variable wires) i false) e
value_at (Some x ∷ variable) (b ∷ wires) a (suc count) (suc k) n numbers le there =
    let rest : filter_map (λ v. v) variable ≡ range_with_len (a + 1) count = cc in
    let within = numbered_at variable (a + 1) count k n rest there in
    let e : n - a ≡ suc (n - (a + 1)) = omega arith in
    ap (λ i. get_or (b ∷ values_of variable wires) i false) e ∙ value_at variable wires (a + 1) count k n rest (omega arith) there

pub assigned : (gates : List Gate) (variable : List (Option ℕ)) (count k n : ℕ) (world : World) → filter_map (λ v. v) variable ≡ range_with_len 1 count → length variable ≡ length gates → get_or variable k None ≡ Some n
    → assignment_of gates variable world n ≡ get_or (held gates world) (suc k) false
assigned gates variable count k n world numbers size there =
    let long = length-held_from (true ∷ []) gates world in
    let more = length-drop 1 (held gates world) in
    value_at variable (drop 1 (held gates world)) 1 count k n numbers (omega arith) there ∙ get_or-drop 1 (held gates world) k false ∙ ap (λ i. get_or (held gates world) i false) (let e : 1 + k ≡ suc k = omega arith in e)
