-- Replacements that loop, and those that have an end.
use Rattle.std.proofs.Common.{◌≡◌, ◌⊎◌, inl, inr, ℕ, zero, suc, ◌+◌, ◌<◌, ◌≤◌, Bool, true, false, List, [], ◌∷◌, ◌++◌, length, length-set, get_or, replicate, refl, arith, ap, sym, ◌∙◌, append_assoc, append-nil, zero-add, subst}
use Rattle.std.specs.Prelude.{Option, Some, None, slice_set}
use Rattle.std.proofs.lemmas.Bool.{cases_eq}
use Rattle.std.proofs.lemmas.List.{get_or-set_other}
use Rattle.c_lex.specs.declared.macros.Replacement.{Replacement}
use Rattle.c_lex.specs.declared.macros.Macro.{Macro}
use Rattle.c_lex.specs.Macros.{index_of, list_at, Expands, nothing, stays, is_replaced, Meets, here, within, later, Loops, Ends}
use Rattle.c_lex.proofs.Runs.{when_replaced}
use Rattle.c_lex.proofs.TakingLaws.{found, unknown}

-- ---- derivations of lists in a row

pub both : {table : List Macro} {xs us : List Replacement} {m : ℕ} → Expands table xs us m → (ys vs : List Replacement) (n : ℕ) → Expands table ys vs n → Expands table (xs ++ ys) (us ++ vs) (m + n)
both nothing ys vs n e = rw zero-add e
both (stays none d) ys vs n e = stays none (both d ys vs n e)
both (is_replaced {rs = rs} {n = m} list some d) ys vs n e =
    let k : suc m + n ≡ suc (m + n) = omega arith in rw k (is_replaced {n = m + n} list some (rw append_assoc at (both d ys vs n e)))

record Part (table : List Macro) (ys : List Replacement) (most : ℕ) : Type 0 where
  given : List Replacement
  count : ℕ
  fits : count ≤ most
  goes : Expands table ys given count

-- what stands behind
suffix : {table : List Macro} {zs us : List Replacement} {n : ℕ} → Expands table zs us n → (xs ys : List Replacement) → zs ≡ xs ++ ys → Part table ys n
suffix {us = us} {n = n} d [] ys e = record { given = us; count = n; fits = omega arith; goes = rw e at d }
suffix nothing (x ∷ xs) ys e = cc
suffix (stays none d) (x ∷ xs) ys e = suffix d xs ys (cc)
suffix (is_replaced {rs = rs} list some d) (x ∷ xs) ys e =
    let k : rs ≡ xs ++ ys = cc in
    let p = suffix d (list ++ xs) ys (ap (λ ts. list ++ ts) k ∙ sym (append_assoc list xs ys)) in
    let f = p.fits in
    record { given = p.given; count = p.count; fits = omega arith; goes = p.goes }

-- what stands in front
prefix : {table : List Macro} {zs us : List Replacement} {n : ℕ} → Expands table zs us n → (xs ys : List Replacement) → zs ≡ xs ++ ys → Part table xs n
prefix d [] ys e = record { given = []; count = 0; fits = omega arith; goes = nothing }
prefix nothing (x ∷ xs) ys e = cc
prefix (stays {r = r} none d) (x ∷ xs) ys e =
    let k : r ≡ x = cc in
    let p = prefix d xs ys (cc) in
    record { given = x ∷ p.given; count = p.count; fits = p.fits; goes = stays (rw (← k) none) p.goes }
prefix (is_replaced {r = r} {rs = rs} list some d) (x ∷ xs) ys e =
    let k : r ≡ x = cc in
    let g : rs ≡ xs ++ ys = cc in
    let p = prefix d (list ++ xs) ys (ap (λ ts. list ++ ts) g ∙ sym (append_assoc list xs ys)) in
    let f = p.fits in
    record { given = p.given; count = suc p.count; fits = omega arith; goes = is_replaced list (rw (← k) some) p.goes }

-- ---- what has an end

module _ (table : List Macro) where
  pub ends_none : Ends table []
  ends_none = ([], 0, nothing)

  pub ends_both : (xs ys : List Replacement) → Ends table xs → Ends table ys → Ends table (xs ++ ys)
  ends_both xs ys d e = (d.0 ++ e.0, d.1 + e.1, both d.2 ys e.0 e.1 e.2)

  pub ends_plain : (r : Replacement) → index_of table r.text ≡ None → Ends table (r ∷ [])
  ends_plain r e = (r ∷ [], 0, stays (unknown table r.text e) nothing)

  pub ends_word : (r : Replacement) (i : ℕ) → index_of table r.text ≡ Some i → Ends table (list_at table i) → Ends table (r ∷ [])
  ends_word r i e d = (d.0, suc d.1, is_replaced (list_at table i) (found table r.text i e).list (rw append-nil d.2))

-- ---- a word that is met has an expansion of its own, with fewer replacements

record Fewer (table : List Macro) (ys : List Replacement) (n : ℕ) : Type 0 where
  given : List Replacement
  count : ℕ
  fewer : count < n
  goes : Expands table ys given count

of_word : {table : List Macro} {r : Replacement} {rs us : List Replacement} {n : ℕ} (i : ℕ) → index_of table r.text ≡ Some i → Expands table (r ∷ rs) us n → Fewer table (list_at table i) n
of_word {table = table} {r = r} {rs = rs} i e d =
    let q = when_replaced (list_at table i) d (found table r.text i e).list in
    let s = prefix q.goes (list_at table i) rs refl in
    let a = s.fits in
    record { given = s.given; count = s.count; fewer = omega (arith, q.one, a); goes = s.goes }

of_met : {table : List Macro} {rs : List Replacement} {p : ℕ} → Meets table rs p → (us : List Replacement) (n : ℕ) → Expands table rs us n → Fewer table (list_at table p) n
of_met {p = p} (here e) us n d = of_word p e d
of_met (within q e m) us n d =
    let s = of_word q e d in
    let t = of_met m s.given s.count s.goes in
    let a = s.fewer in
    let b = t.fewer in
    record { given = t.given; count = t.count; fewer = omega arith; goes = t.goes }
of_met (later {r = r} {rs = rs} m) us n d =
    let s = suffix d (r ∷ []) rs refl in
    let t = of_met m s.given s.count s.goes in
    let a = s.fits in
    let b = t.fewer in
    record { given = t.given; count = t.count; fewer = omega arith; goes = t.goes }

within_itself : (fuel : ℕ) (table : List Macro) (p : ℕ) → Meets table (list_at table p) p → (us : List Replacement) (n : ℕ) → n ≤ fuel → Expands table (list_at table p) us n → ⊥
within_itself zero table p m us n le d = let s = of_met m us n d in let a = s.fewer in absurd (omega arith)
within_itself (suc fuel) table p m us n le d = let s = of_met m us n d in let a = s.fewer in within_itself fuel table p m s.given s.count (omega arith) s.goes

pub no_end : (table : List Macro) (rs : List Replacement) → Loops table rs → Ends table rs → ⊥
no_end table rs l d = let s = of_met l.1 d.0 d.1 d.2 in within_itself s.count table l.0 l.2 s.given s.count (omega arith) s.goes

-- ---- words that are met

pub meets_through : {table : List Macro} {rs : List Replacement} {p : ℕ} → Meets table rs p → (q : ℕ) → Meets table (list_at table p) q → Meets table rs q
meets_through {p = p} (here e) q m = within p e m
meets_through (within i e d) q m = within i e (meets_through d q m)
meets_through (later d) q m = later (meets_through d q m)

pub meets_within : {table : List Macro} {rs : List Replacement} {p : ℕ} → Meets table rs p → p < length table
meets_within {table = table} {p = p} (here {r = r} e) = (found table r.text p e).within
meets_within (within i e d) = meets_within d
meets_within (later d) = meets_within d

-- ---- each list loops or has an end

-- how many macros are not marked
unmarked : List Bool → ℕ
unmarked [] = 0
unmarked (true ∷ marks) = unmarked marks
unmarked (false ∷ marks) = suc (unmarked marks)

unmarked-set : (marks : List Bool) (i : ℕ) → i < length marks → get_or marks i true ≡ false → unmarked marks ≡ suc (unmarked (slice_set marks i true))
unfolding unmarked
unmarked-set [] i h e = absurd (omega arith)
unmarked-set (true ∷ marks) zero h e = cc
unmarked-set (false ∷ marks) zero h e = refl
unmarked-set (true ∷ marks) (suc i) h e = unmarked-set marks i (omega arith) e
unmarked-set (false ∷ marks) (suc i) h e = ap suc (unmarked-set marks i (omega arith) e)

module _ (table : List Macro) where
  abbrev Either : List Replacement → Type 0
  Either rs = Loops table rs ⊎ Ends table rs

  -- the word of a macro is met within its own replacement, or this loops or has an end
  abbrev Tried : ℕ → Type 0
  Tried q = Meets table (list_at table q) q ⊎ Either (list_at table q)

  behind : (r : Replacement) (rs : List Replacement) → Ends table (r ∷ []) → Either rs → Either (r ∷ rs)
  behind r rs d (inl l) = inl (l.0, later l.1, l.2)
  behind r rs d (inr e) = inr (ends_both table (r ∷ []) rs d e)

  word_tried : (r : Replacement) (rs : List Replacement) (q : ℕ) → index_of table r.text ≡ Some q → Tried q → Either rs → Either (r ∷ rs)
  word_tried r rs q e (inl m) rest = inl (q, here e, m)
  word_tried r rs q e (inr (inl l)) rest = inl (l.0, within q e l.1, l.2)
  word_tried r rs q e (inr (inr d)) rest = behind r rs (ends_word table r q e d) rest

  by_word : (r : Replacement) (rs : List Replacement) (o : Option ℕ) → index_of table r.text ≡ o → ((q : ℕ) → Meets table (r ∷ rs) q → Tried q) → Either rs → Either (r ∷ rs)
  by_word r rs None e h rest = behind r rs (ends_plain table r e) rest
  by_word r rs (Some q) e h rest = word_tried r rs q e (h q (here e)) rest

  by_words : (rs : List Replacement) → ((q : ℕ) → Meets table rs q → Tried q) → Either rs
  by_words [] h = inr (ends_none table)
  by_words (r ∷ rs) h = by_word r rs (index_of table r.text) refl h (by_words rs (λ q m. h q (later m)))

  -- each macro that is marked meets what these tokens meet
  abbrev AreAbove : List Bool → List Replacement → Type 0
  AreAbove marks rs = (p : ℕ) → get_or marks p true ≡ true → p < length table → (q : ℕ) → Meets table rs q → Meets table (list_at table p) q

  above_more : (marks : List Bool) (rs : List Replacement) (q : ℕ) → AreAbove marks rs → Meets table rs q → AreAbove (slice_set marks q true) (list_at table q)
  above_more marks rs q up m p e lt k n =
      elim (cases_eq p q) [
        | inl same ↦ subst (λ (j : ℕ). Meets table (list_at table j) k) (sym same) n
        | inr other ↦ up p (sym (get_or-set_other marks q p true true other) ∙ e) lt k (meets_through m k n)
      ]

  try_marked : (marks : List Bool) (rs : List Replacement) (q : ℕ) (v : Bool) → get_or marks q true ≡ v → AreAbove marks rs → Meets table rs q → (get_or marks q true ≡ false → Either (list_at table q)) → Tried q
  try_marked marks rs q true e up m rest = inl (up q e (meets_within m) q m)
  try_marked marks rs q false e up m rest = inr (rest e)

  either_by : (fuel : ℕ) (marks : List Bool) (rs : List Replacement) → length marks ≡ length table → unmarked marks ≤ fuel → AreAbove marks rs → Either rs
  either_by zero marks rs l le up =
      by_words rs (λ q m. try_marked marks rs q (get_or marks q true) refl up m (λ e.
      let a = meets_within m in absurd (omega (arith, unmarked-set marks q (omega arith) e))))
  either_by (suc fuel) marks rs l le up =
      by_words rs (λ q m. try_marked marks rs q (get_or marks q true) refl up m (λ e.
      let a = meets_within m in
      either_by fuel (slice_set marks q true) (list_at table q) (length-set marks q true ∙ l) (omega (arith, unmarked-set marks q (omega arith) e)) (above_more marks rs q up m)))

none_at : (n k : ℕ) → k < n → get_or (replicate n false) k true ≡ false
none_at zero k h = absurd (omega arith)
none_at (suc n) zero h = refl
none_at (suc n) (suc k) h = none_at n k (omega arith)

length_none : (n : ℕ) → length (replicate n false) ≡ n
length_none zero = refl
length_none (suc n) = ap suc (length_none n)

pub loops_or_ends : (table : List Macro) (rs : List Replacement) → Loops table rs ⊎ Ends table rs
loops_or_ends table rs =
    let marks = replicate (length table) false in
    either_by table (unmarked marks) marks rs (length_none (length table)) (omega arith) (λ p e lt q m. let n : get_or marks p true ≡ false = none_at (length table) p lt in cc)
