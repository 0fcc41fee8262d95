-- A certificate can write a formula and a derivation that checks over it.
use Rattle.std.proofs.Common.{◌≡◌, ◌⊎◌, ℕ, zero, suc, ◌+◌, ◌<◌, ◌^◌, Bool, true, false, ◌&&◌, ◌||◌, List, [], ◌∷◌, ◌++◌, length, map, take, Option, None, Some, refl, sym, subst, inl, inr, All, arith}
use Rattle.std.specs.Prelude.{ℤ, slice_get, option_and_then, IfSome, IsSomeAnd, if◌then◌else◌}
use Rattle.std.specs.List.{list_all}
use Rattle.std.proofs.lemmas.List.{append-nil, append_assoc, length-append}
use Rattle.std.proofs.lemmas.List.Elements.{All-head, All-tail}
use Rattle.std.proofs.lemmas.Option.{slice_get_within}
use Rattle.certificate.specs.Certificates.{AreClausesOver, AreLinesOver, AreStepsOver, IsLineOver, IsLiteralOver, IsNumber, RisesWithin}
use Rattle.cnf.specs.Checks.{IsRight, chain_of, numbered, resolved}
use Rattle.cnf.specs.Clauses.{IsClause, RisesFrom, has_literal, literal_key}
use Rattle.cnf.specs.Resolution.{can_resolve, resolvent}
use Rattle.cnf.specs.declared.derivation.DerivationLine.{DerivationLine}
use Rattle.search.proofs.KeptLaws.{has_over, is_over-tells, line_over, numbered_over}
use Rattle.search.specs.Laws.{is_over}
use Rattle.search_checked.specs.Laws.{ChecksArePairs, HasClause}

and_left : (a b : Bool) → (a && b) ≡ true → a ≡ true
and_left true b e = refl
and_left false b e = e

and_right : (a b : Bool) → (a && b) ≡ true → b ≡ true
and_right true b e = e
and_right false b e = absurd cc

both_hold : (a b : Bool) → a ≡ true → b ≡ true → (a && b) ≡ true
both_hold a b e f = rw (e, f) refl

-- ---- literals and numbers

literal_over : (n : ℕ) (x : ℤ) → is_over n x ≡ true → IsLiteralOver n x
literal_over n x e = let is = is_over-tells n x e in (omega (arith, is.0), omega (arith, is.1))

rises_within : (n low : ℕ) (xs : List ℤ) → RisesFrom low xs → list_all (is_over n) xs ≡ true → RisesWithin n low xs
rises_within n low [] h e = tt
rises_within n low (x ∷ xs) h e =
    (h.0, (literal_over n x (and_left _ _ e)).1, rises_within n (literal_key x) xs h.2 (and_right _ _ e))

clauses_over : (n : ℕ) (clauses : List (List ℤ)) → All IsClause clauses → list_all (list_all (is_over n)) clauses ≡ true → AreClausesOver n clauses
clauses_over n [] rise e = tt
clauses_over n (c ∷ clauses) rise e = (rises_within n 0 c (All-head IsClause c clauses rise) (and_left _ _ e), clauses_over n clauses (All-tail IsClause c clauses rise) (and_right _ _ e))

is_number : (clauses : List (List ℤ)) (number : ℕ) (clause : List ℤ) → length clauses < 2 ^ 32 → numbered clauses number ≡ Some clause → IsNumber number
is_number clauses zero clause few e = absurd cc
is_number clauses (suc k) clause few e = let within = slice_get_within clauses k clause e in (omega arith, omega (arith, within, few))

-- ---- a line

-- the steps of a chain that exists are over the variables, and their antecedents have numbers
steps_over : (n : ℕ) (earlier : List (List ℤ)) (set : ℤ → Bool) (steps : List (ℕ × ℤ)) (result : ℤ → Bool) → length earlier < 2 ^ 32 → list_all (list_all (is_over n)) earlier ≡ true
    → ((x : ℤ) → set x ≡ true → is_over n x ≡ true) → resolved earlier set steps ≡ Some result → AreStepsOver n steps
steps_over n earlier set [] result few a over e = tt
steps_over n earlier set (step ∷ steps) result few a over e =
    by_clause (numbered earlier step.0) refl e (λ next all is. steps_over n earlier next steps result few a all is)
  where
    both : (p q r s : Bool) → ((p && q) || (r && s)) ≡ true → (p ≡ true) ⊎ (r ≡ true)
    both true q r s g = inl refl
    both false q true s g = inr refl
    both false q false s g = absurd cc

    by_clause : (c : Option (List ℤ)) → numbered earlier step.0 ≡ c
        → option_and_then (λ antecedent. if can_resolve set step.1 (has_literal antecedent) then resolved earlier (resolvent set step.1 (has_literal antecedent)) steps else None) c ≡ Some result
        → ((next : ℤ → Bool) → ((y : ℤ) → next y ≡ true → is_over n y ≡ true) → resolved earlier next steps ≡ Some result → AreStepsOver n steps) → AreStepsOver n (step ∷ steps)
    by_clause None f g rest = absurd cc
    by_clause (Some c) f g rest = by_test (can_resolve set step.1 (has_literal c)) refl g
      where
        own : list_all (is_over n) c ≡ true
        own = numbered_over n earlier step.0 c a f

        by_test : (b : Bool) → can_resolve set step.1 (has_literal c) ≡ b → (if b then resolved earlier (resolvent set step.1 (has_literal c)) steps else None) ≡ Some result → AreStepsOver n (step ∷ steps)
        by_test false t q = absurd cc
        by_test true t q =
            ((is_number earlier step.0 c few f, literal_over n step.1 (over step.1 (and_left _ _ t))), rest (resolvent set step.1 (has_literal c)) (λ y m. by_side y (both _ _ _ _ m)) q)
          where
            by_side : (y : ℤ) → (set y ≡ true) ⊎ (has_literal c y ≡ true) → is_over n y ≡ true
            by_side y (inl m) = over y m
            by_side y (inr m) = has_over n c y own m

right_line : (n : ℕ) (earlier : List (List ℤ)) (line : DerivationLine) → length earlier < 2 ^ 32 → list_all (list_all (is_over n)) earlier ≡ true → HasClause line → IsRight earlier line → IsLineOver n line
right_line n earlier line few a rise right = (rises_within n 0 line.clause rise (line_over n earlier line a right), chain.0, chain.1)
  where
    by_clause : (c : Option (List ℤ)) (set : ℤ → Bool) → numbered earlier line.first ≡ c → option_and_then (λ clause. resolved earlier (has_literal clause) line.steps) c ≡ Some set
        → IsNumber line.first × AreStepsOver n line.steps
    by_clause None set f g = absurd cc
    by_clause (Some c) set f g =
        (is_number earlier line.first c few f, steps_over n earlier (has_literal c) line.steps set few a (λ y m. has_over n c y (numbered_over n earlier line.first c a f) m) g)

    by_chain : (c : Option (ℤ → Bool)) → chain_of earlier line ≡ c → IsSomeAnd c (λ set. (x : ℤ) → set x ≡ has_literal line.clause x) → IsNumber line.first × AreStepsOver n line.steps
    by_chain None f g = absurd g
    by_chain (Some set) f g = by_clause (numbered earlier line.first) set refl f

    chain : IsNumber line.first × AreStepsOver n line.steps
    chain = by_chain (chain_of earlier line) refl right

-- ---- all lines

abbrev clause_of : DerivationLine → List ℤ
clause_of line = line.clause

-- each line is right over the clauses before it
abbrev AreRight : List (List ℤ) → List DerivationLine → Type 0
AreRight earlier lines = (k : ℕ) → k < length lines → IfSome (slice_get lines k) (IsRight (earlier ++ map clause_of (take k lines)))

right_first : (earlier : List (List ℤ)) (line : DerivationLine) (lines : List DerivationLine) → AreRight earlier (line ∷ lines) → IsRight earlier line
right_first earlier line lines h = subst (λ z. IsRight z line) (append-nil earlier) (h 0 (omega arith))

right_rest : (earlier : List (List ℤ)) (line : DerivationLine) (lines : List DerivationLine) → AreRight earlier (line ∷ lines) → AreRight (earlier ++ line.clause ∷ []) lines
right_rest earlier line lines h = λ k within.
    subst (λ z. IfSome (slice_get lines k) (IsRight z)) (sym (append_assoc earlier (line.clause ∷ []) (map clause_of (take k lines)))) (h (suc k) (omega (arith, within)))

over_more : (n : ℕ) (earlier : List (List ℤ)) (clause : List ℤ) → list_all (list_all (is_over n)) earlier ≡ true → list_all (is_over n) clause ≡ true → list_all (list_all (is_over n)) (earlier ++ clause ∷ []) ≡ true
over_more n [] clause a e = both_hold (list_all (is_over n) clause) true e refl
over_more n (c ∷ earlier) clause a e =
    both_hold (list_all (is_over n) c) (list_all (list_all (is_over n)) (earlier ++ clause ∷ [])) (and_left _ _ a) (over_more n earlier clause (and_right _ _ a) e)

lines_over : (n : ℕ) (earlier : List (List ℤ)) (lines : List DerivationLine) → length earlier + length lines < 2 ^ 32 → list_all (list_all (is_over n)) earlier ≡ true → All HasClause lines
    → AreRight earlier lines → AreLinesOver n lines
lines_over n earlier [] few a rise right = tt
lines_over n earlier (line ∷ lines) few a rise right =
    let first = right_first earlier line lines right in
    let longer : length (earlier ++ line.clause ∷ []) ≡ length earlier + 1 = length-append earlier (line.clause ∷ []) in (
      right_line n earlier line (omega (arith, few)) a (All-head HasClause line lines rise) first,
      lines_over n (earlier ++ line.clause ∷ []) lines (omega (arith, few, longer)) (over_more n earlier line.clause a (line_over n earlier line a first)) (All-tail HasClause line lines rise) (right_rest earlier line lines right),
    )

pub checks_are_pairs : ChecksArePairs
checks_are_pairs formula derivation small over rise lines_rise few checks = record {
  variables = small;
  clause_count = omega (arith, few);
  clauses = clauses_over formula.variables formula.clauses rise over;
  line_count = omega (arith, few);
  lines = lines_over formula.variables formula.clauses derivation.lines few over lines_rise checks.0;
}
