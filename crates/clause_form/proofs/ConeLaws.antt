-- Marks of a cone, and the variables of what is marked.
use Rattle.std.proofs.Common.{◌≡◌, ℕ, zero, suc, ◌+◌, ◌-◌, ◌^◌, ◌≤◌, ◌<◌, Bool, true, false, ◌&&◌, ◌||◌, List, [], ◌∷◌, length, get_or, drop, take, map, refl, set, replicate, ◌≢◌, sym, ◌∙◌, ap, subst, arith, length-set, length-drop}
use Rattle.std.specs.Prelude.{Option, None, Some, IsSome, IsSomeAnd, ◌==◌, ◌↔◌}
use Rattle.std.specs.List.{filter_map, range_with_len}
use Rattle.std.specs.Option.{is_some}
use Rattle.std.proofs.lemmas.Bool.{eqb-true, eq-eqb}
use Rattle.std.proofs.lemmas.List.{take_all, get_or-set_same, get_or-set_other, length-replicate}
use Rattle.circuit.specs.Wires.{PartsUpTo}
use Rattle.circuit.specs.declared.lit.Lit.{Lit}
use Rattle.circuit.specs.declared.lit.Gate.{Gate}
use Rattle.circuit.specs.declared.lit.Gate.TheVariants.{Input, And}
use Rattle.clause_form.specs.Cone.{gate_on, IsInCone, own, left, right}
use Rattle.clause_form.specs.Encoding.{variable_of}
use Rattle.std.proofs.Math.ListN.{get_or-map}
use Rattle.clause_form.specs.Parts.{AreVariables, HasRootVariable, IsGateAt, IsMarkedFrom, is_part}
use Rattle.clause_form.proofs.NumberLaws.{wire_number}
use Rattle.clause_form.proofs.WorldLaws.{get_within}

or_cases : (a b : Bool) → (a || b) ≡ true → (P : Type 0) → (a ≡ true → P) → (b ≡ true → P) → P
or_cases true b h P f g = f refl
or_cases false b h P f g = g h

or_first : (a b : Bool) → a ≡ true → (a || b) ≡ true
or_first true b h = refl
or_first false b h = cc

or_rest : (a b : Bool) → b ≡ true → (a || b) ≡ true
or_rest true b h = refl
or_rest false b h = h

both_true : (a b : Bool) → a ≡ true → b ≡ true → (a && b) ≡ true
both_true true b h k = k
both_true false b h k = cc

and_first : (a b : Bool) → (a && b) ≡ true → a ≡ true
and_first true b h = refl
and_first false b h = cc

and_rest : (a b : Bool) → (a && b) ≡ true → b ≡ true
and_rest true b h = h
and_rest false b h = cc

number_same : (n : ℕ) → (n == n) ≡ true
number_same n = eq-eqb n n refl

part_in_cone : (gates : List Gate) (root : Lit) (w wire : ℕ) (g : Gate) → IsInCone gates root w → gate_on gates w ≡ Some g → is_part wire g ≡ true → IsInCone gates root wire
part_in_cone gates root w wire (Input number) h at part = cc
part_in_cone gates root w wire (And a b) h at part =
    or_cases (a.wire == wire) (b.wire == wire) part (IsInCone gates root wire)
    (λ e. subst (IsInCone gates root) (eqb-true a.wire wire e) (left w a b h at))
    (λ e. subst (IsInCone gates root) (eqb-true b.wire wire e) (right w a b h at))

le_cases : (k j : ℕ) → k ≤ j → (P : Type 0) → (k ≡ j → P) → (k < j → P) → P
le_cases zero zero h P f g = f refl
le_cases zero (suc j) h P f g = g (omega arith)
le_cases (suc k) zero h P f g = absurd (omega arith)
le_cases (suc k) (suc j) h P f g = le_cases k j (omega arith) P (λ e. f (ap suc e)) (λ lt. g (omega arith))

-- a part of a gate lies below it
part_below : (k wire : ℕ) (g : Gate) → PartsUpTo k g → is_part wire g ≡ true → wire ≤ k
part_below k wire (Input number) h part = cc
part_below k wire (And a b) h part =
    or_cases (a.wire == wire) (b.wire == wire) part (wire ≤ k)
    (λ e. let f = eqb-true a.wire wire e in omega (arith, h.0))
    (λ e. let f = eqb-true b.wire wire e in omega (arith, h.1))

-- ---- one visit

module _ (gates : List Gate) (root : Lit) (k : ℕ) (old new : List Bool) (g : Gate) (at : gate_on gates (suc k) ≡ Some g) (before : IsMarkedFrom gates root (suc k) old)
    (size : length new ≡ length old) (more : (w : ℕ) → get_or new w false ≡ (get_or old w false || (get_or old (suc k) false && is_part w g)))
    (sound : get_or old (suc k) false ≡ true → IsGateAt gates k g) where
  still : (w : ℕ) → get_or old w false ≡ true → get_or new w false ≡ true
  still w h = more w ∙ or_first (get_or old w false) _ h

  -- what is marked was so, or is a part of the gate, whose wire was
  was : (w : ℕ) → get_or new w false ≡ true → (P : Type 0) → (get_or old w false ≡ true → P) → (get_or old (suc k) false ≡ true → is_part w g ≡ true → P) → P
  was w h P f step =
      or_cases (get_or old w false) (get_or old (suc k) false && is_part w g) (sym (more w) ∙ h) P f
      (λ both. step (and_first (get_or old (suc k) false) (is_part w g) both) (and_rest (get_or old (suc k) false) (is_part w g) both))

  -- no mark is new above the parts
  was_above : (w : ℕ) → k < w → get_or new w false ≡ true → get_or old w false ≡ true
  was_above w lt h = was w h (get_or old w false ≡ true) (λ e. e) (λ there part. absurd (let le = part_below k w g (sound there).parts part in omega arith))

  here_closed : (h : Gate) → gate_on gates (suc k) ≡ Some h → get_or new (suc k) false ≡ true → (w : ℕ) → is_part w h ≡ true → get_or new w false ≡ true
  here_closed h there marked w part =
      let same : g ≡ h = cc in
      let part' : is_part w g ≡ true = subst (λ x. is_part w x ≡ true) (sym same) part in
      let old_marked = was_above (suc k) (omega arith) marked in
      more w ∙ or_rest (get_or old w false) _ (both_true _ _ old_marked part')

  here_sound : (h : Gate) → gate_on gates (suc k) ≡ Some h → get_or new (suc k) false ≡ true → IsGateAt gates k h
  here_sound h there marked = let same : g ≡ h = cc in subst (IsGateAt gates k) same (sound (was_above (suc k) (omega arith) marked))

  pub visited : IsMarkedFrom gates root k new
  visited = record {
    size = size ∙ before.size;
    own = still root.wire before.own;
    inside = λ w h. was w h (IsInCone gates root w) (before.inside w) (λ there part. part_in_cone gates root (suc k) w g (before.inside (suc k) there) at part);
    closed = λ j h le marked there w part.
        le_cases k j le (get_or new w false ≡ true)
        (λ e. here_closed h (subst (λ x. gate_on gates (suc x) ≡ Some h) (sym e) there) (subst (λ x. get_or new (suc x) false ≡ true) (sym e) marked) w part)
        (λ lt. still w (before.closed j h lt (was_above (suc j) (omega arith) marked) there w part));
    gate = λ j h le marked there.
        le_cases k j le (IsGateAt gates j h)
        (λ e. subst (λ x. IsGateAt gates x h) e (here_sound h (subst (λ x. gate_on gates (suc x) ≡ Some h) (sym e) there) (subst (λ x. get_or new (suc x) false ≡ true) (sym e) marked)))
        (λ lt. before.gate j h lt (was_above (suc j) (omega arith) marked) there);
  }

-- a visit, with what its gate is left to be found
pub visit_more : (gates : List Gate) (root : Lit) (k wire place : ℕ) (old new : List Bool) → wire ≡ suc k → place ≡ k → k < length gates → IsMarkedFrom gates root (suc k) old → length new ≡ length old
    → ((g : Gate) → gate_on gates wire ≡ Some g → (w : ℕ) → get_or new w false ≡ (get_or old w false || (get_or old wire false && is_part w g)))
    → (get_or old wire false ≡ true → (g : Gate) → gate_on gates wire ≡ Some g → IsGateAt gates place g)
    → IsMarkedFrom gates root k new
visit_more gates root k wire place old new e f lt before size more sound =
    let found = get_within gates k lt in
    let there : gate_on gates wire ≡ Some found.0 = subst (λ x. gate_on gates x ≡ Some found.0) (sym e) found.1 in
    visited gates root k old new found.0 found.1 before size
    (λ w. subst (λ x. get_or new w false ≡ (get_or old w false || (get_or old x false && is_part w found.0))) e (more found.0 there w))
    (λ marked. subst (λ x. IsGateAt gates x found.0) f (sound (subst (λ x. get_or old x false ≡ true) (sym e) marked) found.0 there))

-- ---- the first mark

pub own_marked : (gates : List Gate) (root : Lit) (marks : List Bool) (size : ℕ) → size ≡ length gates + 1 → root.wire ≤ length gates → marks ≡ set (replicate size false) root.wire true → IsMarkedFrom gates root root.wire marks
own_marked gates root marks size long within is =
    let len : length (replicate size false) ≡ size = length-replicate size false in
    let there : root.wire < length (replicate size false) = omega arith in
    let only : (w : ℕ) → get_or marks w false ≡ true → w ≡ root.wire = λ w h. only_one (replicate size false) root.wire w (λ i. none_in size i) (subst (λ xs. get_or xs w false ≡ true) is h) in
    record {
      size = ap length is ∙ length-set (replicate size false) root.wire true ∙ len ∙ long;
      own = ap (λ xs. get_or xs root.wire false) is ∙ get_or-set_same (replicate size false) root.wire true false there;
      inside = λ w h. subst (IsInCone gates root) (sym (only w h)) own;
      closed = λ j h le marked at w part. absurd (let e = only (suc j) marked in omega arith);
      gate = λ j h le marked at. absurd (let e = only (suc j) marked in omega arith);
    }
  where
    none_in : (n i : ℕ) → get_or (replicate n false) i false ≡ false
    none_in zero i = refl
    none_in (suc n) zero = refl
    none_in (suc n) (suc i) = none_in n i

    only_one : (xs : List Bool) (i w : ℕ) → ((j : ℕ) → get_or xs j false ≡ false) → get_or (set xs i true) w false ≡ true → w ≡ i
    only_one xs i w none h = from_test (w == i) refl
      where
        from_test : (b : Bool) → (w == i) ≡ b → w ≡ i
        from_test true e = eqb-true w i e
        from_test false e =
            let other : w ≢ i = λ same. absurd (let t = eq-eqb w i same in let c : true ≡ false = cc in cc) in
            absurd (let t : true ≡ false = sym h ∙ get_or-set_other xs i w true false other ∙ none w in cc)

-- the first mark, as the code makes it
pub first_marked : (gates : List Gate) (root : Lit) (marks : List Bool) (size i place : ℕ) → marks ≡ replicate size false → size ≡ length gates + 1 → i ≡ root.wire → place ≡ root.wire → root.wire ≤ length gates
    → IsMarkedFrom gates root place (set marks i true)
first_marked gates root marks size i place is long e f within =
    subst (λ p. IsMarkedFrom gates root p (set marks i true)) (sym f)
    (own_marked gates root (set marks i true) size long within (ap (λ xs. set xs i true) is ∙ ap (λ w. set (replicate size false) w true) e))

-- ---- variables of what is marked

part_marked : (gates : List Gate) (root : Lit) (marks : List Bool) → IsMarkedFrom gates root 0 marks → (w : ℕ) (a b : Lit) → gate_on gates w ≡ Some (And a b) → get_or marks w false ≡ true
    → (wire : ℕ) → is_part wire (And a b) ≡ true → get_or marks wire false ≡ true
part_marked gates root marks h zero a b at there wire part = cc
part_marked gates root marks h (suc k) a b at there wire part = h.closed k (And a b) (omega arith) there at wire part

in_cone_marked : (gates : List Gate) (root : Lit) (marks : List Bool) → IsMarkedFrom gates root 0 marks → (wire : ℕ) → IsInCone gates root wire → get_or marks wire false ≡ true
in_cone_marked gates root marks h wire own = h.own
in_cone_marked gates root marks h wire (left w a b there at) = part_marked gates root marks h w a b at (in_cone_marked gates root marks h w there) a.wire (or_first (a.wire == a.wire) _ (number_same a.wire))
in_cone_marked gates root marks h wire (right w a b there at) = part_marked gates root marks h w a b at (in_cone_marked gates root marks h w there) b.wire (or_rest (a.wire == b.wire) _ (number_same b.wire))

module _ (gates : List Gate) (root : Lit) (marks : List Bool) (variable : List (Option ℕ)) (count : ℕ) (h : IsMarkedFrom gates root 0 marks) (marked : map is_some variable ≡ drop 1 marks) where
  same_mark : (k : ℕ) → is_some (get_or variable k None) ≡ get_or marks (suc k) false
  same_mark k = sym (get_or-map is_some variable k None) ∙ ap (λ xs. get_or xs k false) marked ∙ behind marks k
    where
      behind : (xs : List Bool) (k : ℕ) → get_or (drop 1 xs) k false ≡ get_or xs (suc k) false
      behind [] k = refl
      behind (x ∷ xs) k = refl

  map_size : (vs : List (Option ℕ)) → length (map is_some vs) ≡ length vs
  map_size [] = refl
  map_size (v ∷ vs) = ap suc (map_size vs)

  same_size : length variable ≡ length gates
  same_size = let e = ap length marked in let f : length (map is_some variable) ≡ length variable = map_size variable in let g = length-drop 1 marks in let s = h.size in omega arith

  -- a wire has a variable exactly where it lies in the cone
  pub variable_in_cone : (wire : ℕ) → 0 < wire → (is_some (variable_of variable wire) ≡ true) ↔ IsInCone gates root wire
  variable_in_cone zero lt = absurd (omega arith)
  variable_in_cone (suc k) lt = (λ some. h.inside (suc k) (sym (same_mark k) ∙ some), λ inside. same_mark k ∙ in_cone_marked gates root marks h (suc k) inside)

  has_variable : (w : ℕ) → 0 < w → get_or marks w false ≡ true → IsSome (variable_of variable w)
  has_variable zero lt there = absurd (omega arith)
  has_variable (suc k) lt there = same_mark k ∙ there

  part_has : (k wire : ℕ) (a b : Lit) → IsSome (variable_of variable (suc k)) → gate_on gates (suc k) ≡ Some (And a b) → is_part wire (And a b) ≡ true → 0 < wire → IsSome (variable_of variable wire)
  part_has k wire a b some at part lt = has_variable wire lt (h.closed k (And a b) (omega arith) (sym (same_mark k) ∙ some) at wire part)

  pub variables : filter_map (λ v. v) variable ≡ range_with_len 1 count → AreVariables gates variable count
  variables numbers = record {
    size = same_size;
    numbers = numbers;
    left = λ k a b some at. part_has k a.wire a b some at (or_first (a.wire == a.wire) _ (number_same a.wire)) (let g = h.gate k (And a b) (omega arith) (sym (same_mark k) ∙ some) at in g.reduced.0);
    right = λ k a b some at. part_has k b.wire a b some at (or_rest (a.wire == b.wire) _ (number_same b.wire))
        (let g = h.gate k (And a b) (omega arith) (sym (same_mark k) ∙ some) at in omega (arith, g.reduced.0, g.reduced.1));
    gate = λ k g some at. h.gate k g (omega arith) (sym (same_mark k) ∙ some) at;
  }

  pub root_variable : filter_map (λ v. v) variable ≡ range_with_len 1 count → count ≤ 2 ^ 30 → HasRootVariable variable root
  root_variable numbers few lt = by_variable (variable_of variable root.wire) refl
    where
      by_variable : (o : Option ℕ) → variable_of variable root.wire ≡ o → IsSomeAnd (variable_of variable root.wire) (λ n. (0 < n) × (n < 2 ^ 31))
      by_variable None there = absurd (let some = has_variable root.wire lt h.own in let no = ap is_some there in let t : true ≡ false = sym some ∙ no in cc)
      by_variable (Some n) there =
          let P : Option ℕ → Type 0 = λ o. IsSomeAnd o (λ n. (0 < n) × (n < 2 ^ 31)) in
          let w = wire_number variable count root.wire n numbers there in
          subst P (sym there) (omega (arith, w.0), omega (arith, w.1))

-- marks without the first, as the code cuts them off
pub behind_first : {A : Type 0} (xs ys : List A) → xs ≡ ys → take (length xs - 1) (drop 1 xs) ≡ drop 1 ys
behind_first xs ys e = all_behind xs ∙ ap (drop 1) e
  where
    all_behind : {A : Type 0} (xs : List A) → take (length xs - 1) (drop 1 xs) ≡ drop 1 xs
    all_behind [] = refl
    all_behind (x ∷ xs) = take_all (length (x ∷ xs) - 1) xs (omega arith)
