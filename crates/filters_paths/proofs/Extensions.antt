-- The lists that begin with a prefix and pass a test, in order.
use Rattle.std.proofs.Common.{◌≡◌, ℕ, zero, suc, ◌+◌, ◌-◌, ◌<◌, Bool, false, cond, List, [], ◌∷◌, ◌++◌, length, map, sym, ◌∙◌, ap, inl, inr, arith}
use Rattle.std.proofs.lemmas.Bool.{cases_lt}
use Rattle.std.proofs.lemmas.List.{append-nil, append_assoc, length_push}
use Rattle.std.proofs.lemmas.List.Elements.{filter-append}
use Rattle.std.specs.List.{filter, flat_map, range_with_len}
use Rattle.filters_paths.specs.Paths.{ordered_lists}
use Rattle.filters_paths.specs.Walking.{extensions, behind}
use Rattle.filters_paths.proofs.Lists.{filter-flat_map, map-flat_map, flat_map_agree, map-map, filter_none, flat_map_none}

-- the list itself, if it passes
abbrev pub own : (List ℕ → Bool) → List ℕ → List (List ℕ)
own test p = filter test (p ∷ [])

pub extensions_zero : (limit : ℕ) (test : List ℕ → Bool) (p : List ℕ) → extensions limit test zero p ≡ own test p
unfolding extensions ordered_lists
extensions_zero limit test p = ap (λ q. filter test (q ∷ [])) (append-nil p)

deeper : (limit : ℕ) (test : List ℕ → Bool) (most : ℕ) (p : List ℕ) (e : ℕ)
    → filter test (map (λ rest. p ++ rest) (map (λ rest. e ∷ rest) (ordered_lists limit most))) ≡ extensions limit test most (p ++ e ∷ [])
unfolding extensions
deeper limit test most p e = ap (filter test) (map-map (λ rest. p ++ rest) (λ rest. e ∷ rest) (ordered_lists limit most))
    ∙ (λ i. filter test (map (λ rest. sym (append_assoc p (e ∷ []) rest) i) (ordered_lists limit most)))

pub extensions_suc : (limit : ℕ) (test : List ℕ → Bool) (most : ℕ) (p : List ℕ)
    → extensions limit test (suc most) p ≡ own test p ++ flat_map (λ e. extensions limit test most (p ++ e ∷ [])) (range_with_len 0 limit)
unfolding extensions ordered_lists
extensions_suc limit test most p =
    let numbers = range_with_len 0 limit in
    let behind = flat_map (λ e. map (λ rest. e ∷ rest) (ordered_lists limit most)) numbers in
    filter-append test ((p ++ []) ∷ []) (map (λ rest. p ++ rest) behind)
    ∙ ap (λ q. filter test (q ∷ []) ++ filter test (map (λ rest. p ++ rest) behind)) (append-nil p)
    ∙ ap (λ xs. own test p ++ filter test xs) (map-flat_map (λ rest. p ++ rest) (λ e. map (λ rest. e ∷ rest) (ordered_lists limit most)) numbers)
    ∙ ap (λ xs. own test p ++ xs) (filter-flat_map test (λ e. map (λ rest. p ++ rest) (map (λ rest. e ∷ rest) (ordered_lists limit most))) numbers)
    ∙ ap (λ xs. own test p ++ xs) (flat_map_agree _ _ (deeper limit test most p) numbers)

-- what begins with a prefix that no list which passes begins with
pub none_behind : (limit : ℕ) (test : List ℕ → Bool) (most : ℕ) (p : List ℕ) → ((rest : List ℕ) → test (p ++ rest) ≡ false) → extensions limit test most p ≡ []
unfolding extensions
none_behind limit test most p none = filter_none test (λ rest. p ++ rest) none (ordered_lists limit most)

-- ---- the lists of at most so many numbers that begin with a prefix and pass

own_none : (test : List ℕ → Bool) (p : List ℕ) → test p ≡ false → own test p ≡ []
own_none test p h = ap (λ b. cond b (p ∷ []) []) h

pub behind_is : (limit : ℕ) (test : List ℕ → Bool) (longest : ℕ) (p : List ℕ) → ((q : List ℕ) → longest < length q → test q ≡ false)
    → behind limit test longest p ≡ own test p ++ flat_map (λ e. behind limit test longest (p ++ e ∷ [])) (range_with_len 0 limit)
unfolding behind
behind_is limit test longest p short = elim (cases_lt (length p) longest) [
  | inl lt ↦
      let fuel : longest - length p ≡ suc (longest - (length p + 1)) = omega arith in
      ap (λ n. extensions limit test n p) fuel ∙ extensions_suc limit test (longest - (length p + 1)) p
      ∙ ap (λ xs. own test p ++ xs) (flat_map_agree _ _ (λ e. ap (λ n. extensions limit test (longest - n) (p ++ e ∷ [])) (sym (length_push p e))) (range_with_len 0 limit))
  | inr ge ↦
      let fuel : longest - length p ≡ zero = omega arith in
      let nothing : (e : ℕ) → extensions limit test (longest - length (p ++ e ∷ [])) (p ++ e ∷ []) ≡ [] = λ e.
      let long = length_push p e in
      let none : longest - length (p ++ e ∷ []) ≡ zero = omega arith in
      ap (λ n. extensions limit test n (p ++ e ∷ [])) none ∙ extensions_zero limit test (p ++ e ∷ []) ∙ own_none test (p ++ e ∷ []) (short (p ++ e ∷ []) (omega arith)) in
      ap (λ n. extensions limit test n p) fuel ∙ extensions_zero limit test p ∙ sym (append-nil (own test p))
      ∙ ap (λ xs. own test p ++ xs) (sym (flat_map_none _ nothing (range_with_len 0 limit)))
]
