-- Laws of the inputs of a text, part by part.
use Rattle.std.proofs.Common.{◌≡◌, ℕ, suc, ◌+◌, ◌-◌, ◌≤◌, Bool, true, false, cond, List, [], ◌∷◌, ◌++◌, length, map, take, drop, get_or, Some, None, option_map, refl, sym, ◌∙◌, ap, arith, append_assoc, Bor, ◌<◌}
use Rattle.std.specs.Prelude.{◌||◌, Option, nat_lt, not, position}
use Rattle.std.specs.Option.{option_map_or}
use Rattle.std.specs.List.{list_any, onto_first, position_or_len, slice_split}
use Rattle.std.proofs.lemmas.Bool.{le-ltb, lt-ltb, ltb-true, ltb-false}
use Rattle.std.proofs.lemmas.List.{drop_more, length-map, take_rest}
use Rattle.std.proofs.lemmas.List.Splits.{slice_split_first}
use Rattle.containers.specs.Lists.{all_there, before}
use Rattle.fq_core.specs.declared.word.WordText.{WordText}
use Rattle.fq_core.specs.declared.word.WordText.TheVariants as word
use Rattle.fq_core.specs.Word.{word_of_text}
use Rattle.c_meaning.specs.declared.input.Input.{Input}
use Rattle.input_text.specs.Lines.{filled, texts_in, word_in, words_in}

module _ (ends : ℕ → Bool) where
  -- ---- the first part

  found_or_not : (text : List ℕ) (found : Bool) (first place : ℕ) → nat_lt first (length text) ≡ found → first ≡ position_or_len ends text
      → cond found (Some first) None ≡ Some place → slice_split ends text ≡ take place text ∷ slice_split ends (drop (place + 1) text)
  found_or_not text true first place within is here =
      let same : place ≡ position_or_len ends text = let at : first ≡ place = cc in sym at ∙ is in
      rw same (slice_split_first ends text 0 (rw is at (ltb-true first (length text) within)))
  found_or_not text false first place within is here = cc

  pub part_found : (text : List ℕ) (place : ℕ) → position ends text ≡ Some place
      → slice_split ends text ≡ take place text ∷ slice_split ends (take (length text - (place + 1)) (drop (place + 1) text))
  part_found text place here =
      rw (take_rest text (place + 1)) (found_or_not text _ (position_or_len ends text) place refl refl here)

  one_more : (byte : ℕ) (text : List ℕ) (here : Bool) (rest : ℕ) → suc (length text) ≤ cond (not here) (1 + rest) 0
      → (length text ≤ rest → slice_split ends text ≡ text ∷ [])
      → cond here ([] ∷ slice_split ends text) (onto_first byte (slice_split ends text)) ≡ (byte ∷ text) ∷ []
  one_more byte text true rest none whole = absurd (omega arith)
  one_more byte text false rest more whole = rw (whole (omega arith)) refl

  slice_split-none : (text : List ℕ) → length text ≤ position_or_len ends text → slice_split ends text ≡ text ∷ []
  slice_split-none [] whole = refl
  slice_split-none (byte ∷ text) whole = one_more byte text (ends byte) (position_or_len ends text) whole (slice_split-none text)

  missing_or_not : (text : List ℕ) (found : Bool) → nat_lt (position_or_len ends text) (length text) ≡ found
      → cond found (Some (position_or_len ends text)) None ≡ None → slice_split ends text ≡ text ∷ []
  missing_or_not text true within here = cc
  missing_or_not text false within here = slice_split-none text (ltb-false _ _ within)

  pub part_missing : (text : List ℕ) → position ends text ≡ None → slice_split ends text ≡ text ∷ []
  part_missing text here = missing_or_not text _ refl here

  -- the parts that are left
  abbrev pub parts_left : Option (Bor (List ℕ)) → List (List ℕ)
  parts_left left = option_map_or (λ text. slice_split ends text.now) left []

-- these, and then those
abbrev pub after : {A : Type 0} → List A → Option (List A) → Option (List A)
after first = option_map (λ more. first ++ more)

-- ---- the words of a line

no_word : (w : WordText) → ((x : ℕ) → w ≡ word.Number x → ⊥) → word_in w ≡ None
no_word (word.Number value) not = absurd (not value refl)
no_word word.NotNumber not = refl
no_word word.OutOfRange not = refl

-- a text that writes no word
pub word_missing : (texts : List (Bor (List ℕ))) (i : ℕ) (d : Bor (List ℕ)) (w : WordText) (words : List ℕ) (total : Option (List ℕ)) → i < length texts
    → w ≡ word_of_text (get_or texts i d).now → ((x : ℕ) → w ≡ word.Number x → ⊥)
    → total ≡ after words (words_in (map (λ (text : Bor (List ℕ)). text.now) (drop i texts))) → None ≡ total
word_missing texts i d w words total within is not all =
    let none : word_in (word_of_text (get_or texts i d).now) ≡ None = rw is at (no_word w not) in
    sym (all ∙ rw (drop_more texts i d within, none) refl)

-- ---- the inputs of lines

module _ (line : List ℕ) (lines : List (List ℕ)) (row : List (Bor (List ℕ))) (is : map (λ (text : Bor (List ℕ)). text.now) row ≡ texts_in line) where
  row_length : length (texts_in line) ≡ length row
  row_length = sym (ap length is) ∙ length-map row (λ (text : Bor (List ℕ)). text.now)

  -- a line that isn't blank
  pub line_filled : 0 < length row → filled (map texts_in (line ∷ lines)) ≡ map (λ (text : Bor (List ℕ)). text.now) row ∷ filled (map texts_in lines)
  line_filled some = rw (lt-ltb 0 (length (texts_in line)) (omega (arith, row_length)), is) refl

  -- a blank line
  pub line_blank : length row ≤ 0 → filled (map texts_in (line ∷ lines)) ≡ filled (map texts_in lines)
  line_blank none = rw (le-ltb 0 (length (texts_in line)) (omega (arith, row_length))) refl

-- ---- texts that write no word

pub list_any-map : {X Y : Type 0} (test : Y → Bool) (f : X → Y) (xs : List X) → list_any test (map f xs) ≡ list_any (λ x. test (f x)) xs
list_any-map test f [] = refl
list_any-map test f (x ∷ xs) = ap (λ rest. test (f x) || rest) (list_any-map test f xs)
