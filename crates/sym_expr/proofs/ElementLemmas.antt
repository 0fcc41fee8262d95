-- Selections of one element of many.
use Rattle.std.proofs.Common.{◌≡◌, ℕ, suc, [], ◌∷◌, length-drop, ◌+◌, ◌-◌, ◌*◌, ◌<◌, ◌≤◌, Bool, true, false, ◌||◌, ◌&&◌, cond, pos, subst, List, length, take, drop, get_or, Option, Some, None, refl, sym, ap, ◌∙◌, ⊎_elim, arith}
use Rattle.std.specs.Prelude.{All, ◌⊎◌, ◌==◌, nat_lt, slice_index, option_and_then}
use Rattle.std.specs.List.{slice_range}
use Rattle.std.proofs.lemmas.Bool.{cases_lt, lt-ltb, le-ltb}
use Rattle.std.proofs.lemmas.Bool.Decides.{eqb_tells}
use Rattle.std.proofs.lemmas.List.{get_or-map, get_or-take, get_or-drop, take-map, drop-map, length-take}
use Rattle.std.proofs.lemmas.List.Elements.{All-take, All-drop}
use Rattle.circuit.specs.Truth.{World}
use Rattle.circuit.specs.Wires.{IsWire, lit_holds}
use Rattle.circuit.specs.declared.lit.Lit.{Lit}
use Rattle.circuit.specs.declared.lit.Gate.{Gate}
use Rattle.c_values.specs.declared.kinds.Kind.{Kind}
use Rattle.c_values.specs.Kind.{IsKind, IsValue, wrapped}
use Rattle.c_values.proofs.Fitting.{by_width, IsValue-zero}
use Rattle.bit_words.specs.Words.{Grows, IsWord, word_value}
use Rattle.bit_words.proofs.Steps.{grows_none, grows_then, grows_within, same}
use Rattle.bit_words.proofs.Digits.{all_still}
use Rattle.bit_words.proofs.Values.{no_holds, word_value-later}
use Rattle.sym_expr.specs.Stores.{cells_in, outcome_in}

-- ---- cells of an older circuit

pub cells_still : {a b : List Gate} {n : ℕ} → Grows a b n → (cells : List (List Lit)) → All (All (IsWire a)) cells → All (All (IsWire b)) cells
cells_still {a} {b} f cells h = λ k d lt. all_still f (get_or cells k d) (h k d lt)

pub outcome_later : {a b : List Gate} {n : ℕ} → Grows a b n → (r : List Lit × Lit) → All (IsWire a) r.0 → IsWire a r.1 → (w : World) → outcome_in b r w ≡ outcome_in a r w
outcome_later {a} {b} f r word wire w =
    ap (λ t. cond t (Some (word_value b r.0 w)) None) (same f r.1 wire w) ∙ ap (λ v. cond (lit_holds a r.1 w) (Some v) None) (word_value-later f r.0 word w)

pub cells_later : {a b : List Gate} {n : ℕ} → Grows a b n → (cells : List (List Lit)) → All (All (IsWire a)) cells → (w : World) → cells_in b cells w ≡ cells_in a cells w
cells_later f [] h w = refl
cells_later {a} {b} f (x ∷ xs) h w =
    ap (λ v. v ∷ cells_in b xs w) (word_value-later f x (h 0 x (omega arith)) w)
    ∙ ap (λ vs. word_value a x w ∷ vs) (cells_later f xs (λ k d lt. h (suc k) d (omega arith)) w)

-- ---- one element

pub chosen_outcome : (t p : Bool) (x y : ℕ) → cond (t || p) (Some (cond t x y)) None ≡ cond t (Some x) (cond p (Some y) None)
chosen_outcome true p x y = refl
chosen_outcome false p x y = refl

pub with_word : {g0 g1 g2 g3 : List Gate} {m n k : ℕ} (here : Lit) (element word : List Lit) (before : List Lit × Lit) (t : Bool) (w : World) → Grows g0 g1 m → Grows g1 g2 n → Grows g2 g3 k
    → All (IsWire g0) element → All (IsWire g0) before.0 → All (IsWire g2) word
    → lit_holds g1 here w ≡ t → word_value g2 word w ≡ cond (lit_holds g1 here w) (word_value g1 element w) (word_value g1 before.0 w)
    → word_value g3 word w ≡ cond t (word_value g0 element w) (word_value g0 before.0 w)
with_word {g0} {g1} {g2} {g3} here element word before t w f g h ew bw ww is value =
    word_value-later h word ww w ∙ value ∙ ap (λ b. cond b (word_value g1 element w) (word_value g1 before.0 w)) is
    ∙ ap (λ v. cond t v (word_value g1 before.0 w)) (word_value-later f element ew w) ∙ ap (λ v. cond t (word_value g0 element w) v) (word_value-later f before.0 bw w)

pub with_named : {g0 g1 g2 : List Gate} {m n : ℕ} (g3 : List Gate) (here named before : Lit) (t : Bool) (w : World) → Grows g0 g1 m → Grows g1 g2 n → IsWire g1 here → IsWire g0 before
    → lit_holds g1 here w ≡ t → lit_holds g3 named w ≡ (lit_holds g2 here w || lit_holds g2 before w) → lit_holds g3 named w ≡ (t || lit_holds g0 before w)
with_named {g0} {g1} {g2} g3 here named before t w f g hw bw is either =
    either ∙ ap (λ b. b || lit_holds g2 before w) (same g here hw w ∙ is) ∙ ap (λ b. t || b) (same (grows_then f g) before bw w)

pub with_one : (g3 : List Gate) (named : Lit) (word : List Lit) (t p : Bool) (x y : ℕ) (w : World) → word_value g3 word w ≡ cond t x y → lit_holds g3 named w ≡ (t || p)
    → outcome_in g3 (word, named) w ≡ cond t (Some x) (cond p (Some y) None)
with_one g3 named word t p x y w worth held =
    ap (λ b. cond b (Some (word_value g3 word w)) None) held ∙ ap (λ v. cond (t || p) (Some v) None) worth ∙ chosen_outcome t p x y

-- ---- the elements below a place

pub record SelectedSoFar (old new : List Gate) (elements : List (List Lit)) (index : List Lit) (r : List Lit × Lit) (k : ℕ) : Type 0 where
  pub grows : Grows old new (385 * k)
  pub word : All (IsWire new) r.0
  pub wire : IsWire new r.1
  pub value : (w : World) → outcome_in new r w ≡ cond (nat_lt (word_value old index w) k) (Some (slice_index (cells_in old elements w) (word_value old index w))) None

pub selected_none : (gates : List Gate) (elements : List (List Lit)) (index word : List Lit) → All (IsWire gates) word → SelectedSoFar gates gates elements index (word, record { wire = 0; negated = true }) 0
selected_none gates elements index word h = record {
  grows = grows_none gates 0;
  word = h;
  wire = omega arith;
  value = λ w.
      ap (λ t. cond t (Some (word_value gates word w)) None) (no_holds gates w)
      ∙ ap (λ t. cond t (Some (slice_index (cells_in gates elements w) (word_value gates index w))) None) (sym (le-ltb (word_value gates index w) 0 (omega arith)));
}

next_place : (i k : ℕ) (f : ℕ → Option ℕ) (before : Option ℕ) → before ≡ cond (nat_lt i k) (f i) None → cond (i == k) (f k) before ≡ cond (nat_lt i (k + 1)) (f i) None
next_place i k f before e = ⊎_elim
    (λ here. ap (λ t. cond t (f k) before) here.0 ∙ ap f (sym here.1) ∙ ap (λ t. cond t (f i) None) (sym (lt-ltb i (k + 1) (let same = here.1 in omega arith))))
    (λ other. ap (λ t. cond t (f k) before) other.0 ∙ e ∙ ap (λ t. cond t (f i) None) (same_test other.1 (cases_lt i k)))
    (eqb_tells i k)
  where
    same_test : (i ≡ k → ⊥) → (i < k) ⊎ (k ≤ i) → nat_lt i k ≡ nat_lt i (k + 1)
    same_test n t = ⊎_elim
        (λ lt. lt-ltb i k lt ∙ sym (lt-ltb i (k + 1) (omega arith)))
        (λ le. le-ltb i k le ∙ sym (le-ltb i (k + 1) (omega arith)))
        t

pub selected_more : {old mid new : List Gate} {elements : List (List Lit)} {index : List Lit} {r : List Lit × Lit} {k : ℕ} (s : List Lit × Lit) (d : List Lit) → SelectedSoFar old mid elements index r k → Grows mid new 385 → k < length elements
    → All (All (IsWire old)) elements → All (IsWire old) index → All (IsWire new) s.0 → IsWire new s.1
    → ((w : World) → outcome_in new s w ≡ cond (word_value mid index w == k) (Some (word_value mid (get_or elements k d) w)) (outcome_in mid r w))
    → SelectedSoFar old new elements index s (k + 1)
selected_more {old} {mid} {new} {elements} {index} {r} {k} s d so g lt cells at word wire is = record {
  grows = grows_within (385 * (k + 1)) (grows_then so.grows g) (omega arith);
  word = word;
  wire = wire;
  value = λ w.
      let i = word_value old index w in
      let f : ℕ → Option ℕ = λ n. Some (slice_index (cells_in old elements w) n) in
      let cell : Some (word_value mid (get_or elements k d) w) ≡ f k =
      ap Some (word_value-later so.grows (get_or elements k d) (cells k d lt) w ∙ sym (get_or-map (λ word. word_value old word w) elements k d 0 lt)) in
      is w
      ∙ ap (λ v. cond (v == k) (Some (word_value mid (get_or elements k d) w)) (outcome_in mid r w)) (word_value-later so.grows index at w)
      ∙ ap (λ o. cond (i == k) o (outcome_in mid r w)) cell
      ∙ next_place i k f (outcome_in mid r w) (so.value w);
}

-- ---- an array's elements among the cells

pub element_among : (gates : List Gate) (cells : List (List Lit)) (w : World) (start end i : ℕ) → i < end - start → slice_index (cells_in gates (slice_range cells start end) w) i ≡ slice_index (cells_in gates cells w) (start + i)
element_among gates cells w start end i lt =
    ap (λ xs. get_or xs i 0) (sym (take-map (λ word. word_value gates word w) (end - start) (drop start cells)) ∙ ap (λ xs. take (end - start) xs) (sym (drop-map (λ word. word_value gates word w) start cells)))
    ∙ get_or-take (end - start) (drop start (cells_in gates cells w)) i 0 lt
    ∙ get_or-drop start (cells_in gates cells w) i 0

pub elements_among : (P : List Lit → Type 0) (cells : List (List Lit)) (start end : ℕ) → All P cells → All P (slice_range cells start end)
elements_among P cells start end h = All-take P (end - start) (drop start cells) (All-drop P start cells h)

pub count_among : (cells : List (List Lit)) (start n : ℕ) → start + n ≤ length cells → length (slice_range cells start (start + n)) ≡ n
count_among cells start n within = omega (arith, length-take (start + n - start) (drop start cells), length-drop start cells)

-- selections by the same index
pub same_selected : (o : Option ℕ) (n m : ℕ) (f g : ℕ → Option ℕ) → n ≡ m → ((i : ℕ) → i < m → f i ≡ g i)
    → option_and_then (λ i. cond (nat_lt i n) (f i) None) o ≡ option_and_then (λ i. cond (nat_lt i m) (g i) None) o
same_selected None n m f g e h = refl
same_selected (Some i) n m f g e h = ⊎_elim
    (λ lt. ap (λ t. cond t (f i) None) (lt-ltb i n (omega arith)) ∙ h i lt ∙ ap (λ t. cond t (g i) None) (sym (lt-ltb i m lt)))
    (λ le. ap (λ t. cond t (f i) None) (le-ltb i n (omega arith)) ∙ ap (λ t. cond t (g i) None) (sym (le-ltb i m le)))
    (cases_lt i m)

-- ---- the element of an index with its literal

-- what the selection and its literal may use
pub element_room : (kind : Kind) (n : ℕ) → IsKind kind → 0 < n → 385 * n + 1 ≤ 31 * (4 * (kind.width * n))
element_room kind n k some = by_width (λ w. 385 * n + 1 ≤ 31 * (4 * (w * n))) (omega arith) (omega arith) (omega arith) (omega arith) kind.width k

-- 0 is a word of every kind
pub zero_is_word : (gates : List Gate) (word : List Lit) (kind : Kind) → IsKind kind → All (IsWire gates) word → ((w : World) → word_value gates word w ≡ 0) → IsWord gates kind word
zero_is_word gates word kind k h is = record {
  wires = h;
  values = λ w. subst (IsValue kind) (sym (is w)) (IsValue-zero kind k);
}

-- there is no element of none
pub none_selected : (gates : List Gate) (w : World) (word : List Lit) (n : ℕ) (f : ℕ → Option ℕ) (o : Option ℕ) → n ≡ 0 → outcome_in gates (word, record { wire = 0; negated = true }) w ≡ option_and_then (λ i. cond (nat_lt i n) (f i) None) o
none_selected gates w word n f o zero = ap (λ t. cond t (Some (word_value gates word w)) None) (no_holds gates w) ∙ none o
  where
    none : (o : Option ℕ) → None ≡ option_and_then (λ i. cond (nat_lt i n) (f i) None) o
    none None = refl
    none (Some i) = ap (λ t. cond t (f i) None) (sym (le-ltb i n (omega arith)))

-- of what was selected the kind is taken
selected_as : (n s : Bool) (v x : ℕ) (f : ℕ → ℕ) → cond n (Some v) None ≡ cond s (Some x) None → cond n (Some (f v)) None ≡ cond s (Some (f x)) None
selected_as true true v x f e = ap Some (ap f (let same : v ≡ x = cc in same))
selected_as true false v x f e = absurd (cc)
selected_as false true v x f e = absurd (cc)
selected_as false false v x f e = refl

both_given : (p q n : Bool) (a c : ℕ) (f : ℕ → Option ℕ) → cond n (Some c) None ≡ f a → q ≡ (p && n) → cond q (Some c) None ≡ option_and_then f (cond p (Some a) None)
both_given true q n a c f h e = ap (λ t. cond t (Some c) None) e ∙ h
both_given false q n a c f h e = ap (λ t. cond t (Some c) None) e

pub element_value : {g0 g1 g2 : List Gate} {m k : ℕ} (kind : Kind) (elements : List (List Lit)) (index : List Lit × Lit) (word result : List Lit) (named fine : Lit) (w : World) → Grows g0 g1 m → Grows g1 g2 k
    → IsWire g0 index.1 → All (IsWire g1) word
    → (let i = word_value g0 index.0 w in outcome_in g1 (word, named) w ≡ cond (nat_lt i (length elements)) (Some (slice_index (cells_in g0 elements w) i)) None)
    → lit_holds g2 fine w ≡ (lit_holds g1 index.1 w && lit_holds g1 named w)
    → word_value g2 result w ≡ wrapped kind (pos (word_value g2 word w))
    → outcome_in g2 (result, fine) w ≡ option_and_then (λ i. cond (nat_lt i (length elements)) (Some (wrapped kind (pos (slice_index (cells_in g0 elements w) i)))) None) (outcome_in g0 index w)
element_value {g0} {g1} {g2} kind elements index word result named fine w f g wire wires is held worth =
    let i = word_value g0 index.0 w in
    let x = slice_index (cells_in g0 elements w) i in
    let v = word_value g1 word w in
    let value : word_value g2 result w ≡ wrapped kind (pos v) = worth ∙ ap (λ n. wrapped kind (pos n)) (word_value-later g word wires w) in
    ap (λ n. cond (lit_holds g2 fine w) (Some n) None) value
    ∙ both_given (lit_holds g0 index.1 w) (lit_holds g2 fine w) (lit_holds g1 named w) i (wrapped kind (pos v))
    (λ i. cond (nat_lt i (length elements)) (Some (wrapped kind (pos (slice_index (cells_in g0 elements w) i)))) None)
    (selected_as (lit_holds g1 named w) (nat_lt i (length elements)) v x (λ n. wrapped kind (pos n)) is)
    (held ∙ ap (λ b. b && lit_holds g1 named w) (same f index.1 wire w))
