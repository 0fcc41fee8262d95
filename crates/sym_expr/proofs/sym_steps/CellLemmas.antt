-- Rows of words, and what they are in a world.
use Rattle.std.proofs.Common.{◌≡◌, ℕ, zero, suc, ◌+◌, ◌-◌, ◌<◌, List, [], ◌∷◌, ◌++◌, length, take, drop, map, set, refl, sym, ap, ◌∙◌, append_assoc, length-take, arith}
use Rattle.std.specs.Prelude.{All, replicate}
use Rattle.std.proofs.lemmas.List.{map-append, take-map, drop-map, length-map, length-replicate, set-append_right, replicate_more}
use Rattle.std.proofs.Math.Seq.{drop-cons}
use Rattle.std.proofs.lemmas.List.Elements.{All-take, All-drop, All-append, All-replicate, All-cons}
use Rattle.circuit.specs.Truth.{World}
use Rattle.circuit.specs.Wires.{IsWire}
use Rattle.circuit.specs.declared.lit.Lit.{Lit}
use Rattle.circuit.specs.declared.lit.Gate.{Gate}
use Rattle.bit_words.specs.Words.{word_value}
use Rattle.c_meaning.specs.Steps.{cleared}
use Rattle.sym_expr.specs.Stores.{cells_in}
use Rattle.sym_expr.specs.sym_steps.Cells.{new_cells}

map_replicate : {X Y : Type 0} (f : X → Y) (n : ℕ) (x : X) → map f (replicate n x) ≡ replicate n (f x)
map_replicate f zero x = refl
map_replicate f (suc n) x = ap (λ ys. f x ∷ ys) (map_replicate f n x)

-- one more cell set to a word
pub set_next : {X : Type 0} (cells : List X) (first k : ℕ) (word : X) → first + k < length cells → set (take first cells ++ (replicate k word ++ drop (first + k) cells)) (first + k) word ≡ take first cells ++ (replicate (k + 1) word ++ drop (first + (k + 1)) cells)
set_next cells first k word lt =
    let front : length (take first cells) ≡ first = (let l = length-take first cells in omega arith) in
    let back : first + k - first ≡ k = omega arith in
    let none : k - k ≡ 0 = omega arith in
    let next : suc (first + k) ≡ first + (k + 1) = omega arith in
    set-append_right (take first cells) (replicate k word ++ drop (first + k) cells) first (first + k) word front (omega arith)
    ∙ ap (λ n. take first cells ++ set (replicate k word ++ drop (first + k) cells) n word) back
    ∙ ap (λ xs. take first cells ++ xs) (
    set-append_right (replicate k word) (drop (first + k) cells) k k word (length-replicate k word) (omega arith)
    ∙ ap (λ n. replicate k word ++ set (drop (first + k) cells) n word) none
    ∙ ap (λ xs. replicate k word ++ set xs 0 word) (drop-cons cells (first + k) word lt)
    ∙ ap (λ n. replicate k word ++ word ∷ drop n cells) next
    ∙ sym (append_assoc (replicate k word) (word ∷ []) (drop (first + (k + 1)) cells))
    ∙ ap (λ xs. xs ++ drop (first + (k + 1)) cells) (replicate_more k word))

module _ (gates : List Gate) (w : World) (zero_word : List Lit) (is : word_value gates zero_word w ≡ 0) where
  abbrev value : List Lit → ℕ
  value word = word_value gates word w

  zeros : (n : ℕ) → map value (replicate n zero_word) ≡ replicate n 0
  zeros n = map_replicate value n zero_word ∙ ap (replicate n) is

  -- cells that are set to 0
  pub cells_cleared : (cells : List (List Lit)) (first count : ℕ) → cells_in gates (take first cells ++ (replicate count zero_word ++ drop (first + count) cells)) w ≡ cleared (cells_in gates cells w) first count
  cells_cleared cells first count =
      map-append value (take first cells) (replicate count zero_word ++ drop (first + count) cells)
      ∙ ap (λ xs. map value (take first cells) ++ xs) (map-append value (replicate count zero_word) (drop (first + count) cells))
      ∙ ap (λ xs. xs ++ (map value (replicate count zero_word) ++ map value (drop (first + count) cells))) (sym (take-map value first cells))
      ∙ ap (λ xs. take first (map value cells) ++ (xs ++ map value (drop (first + count) cells))) (zeros count)
      ∙ ap (λ xs. take first (map value cells) ++ (replicate count 0 ++ xs)) (sym (drop-map value (first + count) cells))

  -- cells behind which a frame's are pushed
  pub cells_pushed : (cells words : List (List Lit)) (count : ℕ) → cells_in gates (cells ++ zero_word ∷ (words ++ replicate (count - (length words + 1)) zero_word)) w ≡ cells_in gates cells w ++ new_cells count (cells_in gates words w)
  cells_pushed cells words count =
      let more = count - (length words + 1) in
      map-append value cells (zero_word ∷ (words ++ replicate more zero_word))
      ∙ ap (λ v. map value cells ++ v ∷ map value (words ++ replicate more zero_word)) is
      ∙ ap (λ xs. map value cells ++ 0 ∷ xs) (map-append value words (replicate more zero_word))
      ∙ ap (λ xs. map value cells ++ 0 ∷ (map value words ++ xs)) (zeros more)
      ∙ ap (λ n. map value cells ++ 0 ∷ (map value words ++ replicate (count - (n + 1)) 0)) (sym (length-map words value))

module _ (gates : List Gate) (zero_word : List Lit) (wires : All (IsWire gates) zero_word) where
  pub all_cleared : (cells : List (List Lit)) (first count : ℕ) → All (All (IsWire gates)) cells → All (All (IsWire gates)) (take first cells ++ (replicate count zero_word ++ drop (first + count) cells))
  all_cleared cells first count h =
      All-append (All (IsWire gates)) _ _ (All-take (All (IsWire gates)) first cells h)
      (All-append (All (IsWire gates)) _ _ (All-replicate (All (IsWire gates)) count zero_word wires) (All-drop (All (IsWire gates)) (first + count) cells h))

  pub all_pushed : (cells words : List (List Lit)) (more : ℕ) → All (All (IsWire gates)) cells → All (All (IsWire gates)) words → All (All (IsWire gates)) (cells ++ zero_word ∷ (words ++ replicate more zero_word))
  all_pushed cells words more h k =
      All-append (All (IsWire gates)) _ _ h (All-cons (All (IsWire gates)) zero_word _ wires (All-append (All (IsWire gates)) _ _ k (All-replicate (All (IsWire gates)) more zero_word wires)))
