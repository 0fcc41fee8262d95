-- Cells that are chosen one by one.
use Rattle.std.proofs.Common.{◌≡◌, ℕ, ◌+◌, ◌*◌, ◌<◌, Bool, true, false, cond, List, [], ◌∷◌, ◌++◌, length, take, drop, set, get_or, refl, sym, ap, ◌∙◌, append_assoc, add-one, length-take, length-set, arith}
use Rattle.std.specs.Prelude.{All}
use Rattle.std.proofs.lemmas.List.{append-nil, drop_all, drop_more, get_or-map, length-map, length-take-le, map-set, set-get_or, set_at, take_all, take_more}
use Rattle.std.proofs.lemmas.List.Elements.{All-set}
use Rattle.circuit.specs.Truth.{World}
use Rattle.circuit.specs.Wires.{IsWire, lit_holds}
use Rattle.circuit.specs.declared.lit.Lit.{Lit}
use Rattle.circuit.specs.declared.lit.Gate.{Gate}
use Rattle.bit_words.specs.Words.{Grows, word_value}
use Rattle.bit_words.proofs.Steps.{grows_none, grows_then, grows_within, same}
use Rattle.bit_words.proofs.Values.{word_value-later}
use Rattle.sym_expr.specs.Stores.{cells_in}
use Rattle.sym_expr.proofs.ElementLemmas.{cells_later, cells_still}

-- ---- one cell

-- a cell whose word is the one to be chosen
pub chosen_same : (p : Bool) (values : List ℕ) (cell v : ℕ) → cell < length values → get_or values cell 0 ≡ v → values ≡ cond p (set values cell v) values
chosen_same true values cell v lt is = sym (ap (λ x. set values cell x) (sym is) ∙ set-get_or values cell 0)
chosen_same false values cell v lt is = refl

-- a cell into which the choice was put
pub chosen_put : (p : Bool) (values : List ℕ) (cell v x : ℕ) → x ≡ cond p v (get_or values cell 0) → set values cell x ≡ cond p (set values cell v) values
chosen_put true values cell v x is = ap (λ y. set values cell y) is
chosen_put false values cell v x is = ap (λ y. set values cell y) is ∙ set-get_or values cell 0

module _ {old new : List Gate} {most : ℕ} (cells : List (List Lit)) (test : Lit) (these : List Lit) (cell : ℕ) (grown : Grows old new most) (wires : All (All (IsWire old)) cells) (within : cell < length cells) where
  pub cell_same : (those : List Lit) (w : World) → get_or cells cell those ≡ those → these ≡ those → cells_in old cells w ≡ cond (lit_holds old test w) (set (cells_in old cells w) cell (word_value old these w)) (cells_in old cells w)
  cell_same those w there is =
      chosen_same (lit_holds old test w) (cells_in old cells w) cell (word_value old these w) (omega (arith, length-map cells (λ word. word_value old word w)))
      (get_or-map (λ word. word_value old word w) cells cell those 0 within ∙ ap (λ word. word_value old word w) (there ∙ sym is))

  pub cell_chosen : (those word : List Lit) (w : World) → get_or cells cell those ≡ those → word_value new word w ≡ cond (lit_holds old test w) (word_value old these w) (word_value old those w)
      → cells_in new (set cells cell word) w ≡ cond (lit_holds old test w) (set (cells_in old cells w) cell (word_value old these w)) (cells_in old cells w)
  cell_chosen those word w there is =
      let one : word_value new word w ≡ cond (lit_holds old test w) (word_value old these w) (get_or (cells_in old cells w) cell 0) =
      is ∙ ap (λ v. cond (lit_holds old test w) (word_value old these w) v) (sym (get_or-map (λ q. word_value old q w) cells cell those 0 within ∙ ap (λ q. word_value old q w) there)) in
      map-set (λ q. word_value new q w) cells cell word
      ∙ ap (λ xs. set xs cell (word_value new word w)) (cells_later grown cells wires w)
      ∙ chosen_put (lit_holds old test w) (cells_in old cells w) cell (word_value old these w) (word_value new word w) one

-- ---- all cells

-- the first cells were chosen, so many
pub record ChosenSoFar (old new : List Gate) (test : Lit) (these those cells : List (List Lit)) (i : ℕ) : Type 0 where
  pub grows : Grows old new (256 * i)
  pub count : length cells ≡ length those
  pub wires : All (All (IsWire new)) cells
  pub value : (w : World) → cells_in new cells w ≡ cond (lit_holds old test w) (take i (cells_in old these w) ++ drop i (cells_in old those w)) (cells_in old those w)

pub chosen_none : (gates : List Gate) (test : Lit) (these those : List (List Lit)) → All (All (IsWire gates)) those → ChosenSoFar gates gates test these those those 0
chosen_none gates test these those wires = record {
  grows = grows_none gates 0;
  count = refl;
  wires = wires;
  value = λ w. either (lit_holds gates test w) (cells_in gates those w);
}
  where
    either : (b : Bool) (xs : List ℕ) → xs ≡ cond b xs xs
    either true xs = refl
    either false xs = refl

-- the next of two lists' places
next_place : (xs ys : List ℕ) (i : ℕ) → length xs ≡ length ys → i < length ys → set (take i xs ++ drop i ys) i (get_or xs i 0) ≡ take (i + 1) xs ++ drop (i + 1) ys
next_place xs ys i long lt =
    let front : length (take i xs) ≡ i = length-take-le i xs (omega arith) in
    ap (λ zs. set (take i xs ++ zs) i (get_or xs i 0)) (drop_more ys i 0 lt)
    ∙ set_at (take i xs) (get_or ys i 0) (drop (i + 1) ys) (get_or xs i 0) i front
    ∙ sym (append_assoc (take i xs) (get_or xs i 0 ∷ []) (drop (i + 1) ys))
    ∙ ap (λ zs. zs ++ drop (i + 1) ys) (sym (take_more xs i 0 (omega arith)))

pub chosen_more : {old mid new : List Gate} {test : Lit} {these those cells : List (List Lit)} {i : ℕ} (after : List (List Lit)) (word : List Lit) → ChosenSoFar old mid test these those cells i → length these ≡ length those → i < length those → get_or these i word ≡ word
    → IsWire old test → All (All (IsWire old)) these → Grows mid new 256 → All (All (IsWire new)) after → length after ≡ length cells
    → ((w : World) → cells_in new after w ≡ cond (lit_holds mid test w) (set (cells_in mid cells w) i (word_value mid word w)) (cells_in mid cells w))
    → ChosenSoFar old new test these those after (i + 1)
chosen_more {old} {mid} {new} {test} {these} {those} {cells} {i} after word r long lt there t wires g still count is = record {
  grows = grows_within (256 * (i + 1)) (grows_then r.grows g) (omega arith);
  count = count ∙ r.count;
  wires = still;
  value = λ w.
      let p = lit_holds old test w in
      let xs = cells_in old these w in
      let ys = cells_in old those w in
      let v : word_value mid word w ≡ get_or xs i 0 =
      ap (λ q. word_value mid q w) (sym there) ∙ word_value-later r.grows (get_or these i word) (wires i word (omega arith)) w ∙ sym (get_or-map (λ q. word_value old q w) these i word 0 (omega arith)) in
      let many : length xs ≡ length ys = length-map these (λ q. word_value old q w) ∙ long ∙ sym (length-map those (λ q. word_value old q w)) in
      is w
      ∙ ap (λ b. cond b (set (cells_in mid cells w) i (word_value mid word w)) (cells_in mid cells w)) (same r.grows test t w)
      ∙ ap (λ x. cond p (set (cells_in mid cells w) i x) (cells_in mid cells w)) v
      ∙ ap (λ zs. cond p (set zs i (get_or xs i 0)) zs) (r.value w)
      ∙ by p xs ys many (omega (arith, length-map those (λ q. word_value old q w)));
}
  where
    by : (p : Bool) (xs ys : List ℕ) → length xs ≡ length ys → i < length ys → cond p (set (cond p (take i xs ++ drop i ys) ys) i (get_or xs i 0)) (cond p (take i xs ++ drop i ys) ys) ≡ cond p (take (i + 1) xs ++ drop (i + 1) ys) ys
    by true xs ys many lt = next_place xs ys i many lt
    by false xs ys many lt = refl

pub chosen_all : {old new : List Gate} {test : Lit} {these those cells : List (List Lit)} (i : ℕ) → ChosenSoFar old new test these those cells i → length these ≡ length those → i ≡ length those → (w : World) → cells_in new cells w ≡ cond (lit_holds old test w) (cells_in old these w) (cells_in old those w)
chosen_all {old} {new} {test} {these} {those} {cells} i r long end w =
    let m = length-map these (λ q. word_value old q w) in
    let n = length-map those (λ q. word_value old q w) in
    r.value w ∙ ap (λ zs. cond (lit_holds old test w) zs (cells_in old those w)) (all_of (cells_in old these w) (cells_in old those w) (omega arith) (omega arith))
  where
    all_of : (xs ys : List ℕ) → i ≡ length xs → i ≡ length ys → take i xs ++ drop i ys ≡ xs
    all_of xs ys same end = ap (λ zs. zs ++ drop i ys) (take_all i xs (omega arith)) ∙ ap (λ zs. xs ++ zs) (drop_all i ys (omega arith)) ∙ append-nil xs
