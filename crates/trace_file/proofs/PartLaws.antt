-- Laws of the parts of a text.
use Rattle.std.proofs.Common.{◌≡◌, ℕ, ◌+◌, ◌<◌, true, false, List, [], ◌∷◌, ◌++◌, length, map, take, drop, get_or, Some, None, refl, sym, ◌∙◌, ap, Bor, All, take-append-drop}
use Rattle.std.specs.Prelude.{Option}
use Rattle.std.specs.Str.{bytes_eq}
use Rattle.std.proofs.lemmas.List.{drop_more, map-append}
use Rattle.std.proofs.lemmas.List.Elements.{All-head, All-map, All-tail}
use Rattle.trace_file.specs.Form.{cut_at}

-- the texts behind these references
abbrev pub texts : List (Bor (List ℕ)) → List (List ℕ)
texts row = map (λ (text : Bor (List ℕ)). text.now) row

module _ (mark : List ℕ) where
  -- the part is another word
  abbrev pub IsOther : List ℕ → Type 0
  IsOther part = bytes_eq part mark ≡ false

  -- a cut at the first part that is the word
  pub cut_here : (front : List (List ℕ)) (part : List ℕ) (back : List (List ℕ)) → All IsOther front → bytes_eq part mark ≡ true → cut_at mark (front ++ part ∷ back) ≡ Some (front, back)
  cut_here [] part back others here = rw here refl
  cut_here (first ∷ front) part back others here =
      rw (All-head IsOther first front others, cut_here front part back (All-tail IsOther first front others) here) refl

  -- no part is the word
  pub cut_nowhere : (parts : List (List ℕ)) → All IsOther parts → cut_at mark parts ≡ None
  cut_nowhere [] others = refl
  cut_nowhere (part ∷ parts) others = rw (All-head IsOther part parts others, cut_nowhere parts (All-tail IsOther part parts others)) refl

  abbrev pub IsOtherBehind : Bor (List ℕ) → Type 0
  IsOtherBehind part = IsOther part.now

  pub cut_row : (row : List (Bor (List ℕ))) (i : ℕ) (d : Bor (List ℕ)) → i < length row → All IsOtherBehind (take i row) → bytes_eq (get_or row i d).now mark ≡ true
      → cut_at mark (texts row) ≡ Some (texts (take i row), texts (drop (i + 1) row))
  cut_row row i d within others here =
      let whole : row ≡ take i row ++ get_or row i d ∷ drop (i + 1) row = sym (take-append-drop i row) ∙ ap (λ rest. take i row ++ rest) (drop_more row i d within) in
      let split : texts row ≡ texts (take i row) ++ (get_or row i d).now ∷ texts (drop (i + 1) row) = ap texts whole ∙ map-append (λ (text : Bor (List ℕ)). text.now) (take i row) (get_or row i d ∷ drop (i + 1) row) in
      ap (cut_at mark) split
      ∙ cut_here (texts (take i row)) (get_or row i d).now (texts (drop (i + 1) row)) (All-map IsOther (λ (text : Bor (List ℕ)). text.now) (take i row) others) here
