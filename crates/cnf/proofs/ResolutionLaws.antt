-- The literals of a resolvent.
use Rattle.std.proofs.Common.{◌≡◌, Bool, true, false, List, ◌++◌, refl, ◌∙◌}
use Rattle.std.specs.Prelude.{ℤ, All, not, neg_ℤ, filter, ◌&&◌}
use Rattle.std.specs.Ordering.{int_eq}
use Rattle.std.proofs.lemmas.List.Folds.{list_any-append}
use Rattle.std.proofs.lemmas.List.Elements.{All-filter, All-append}
use Rattle.std.proofs.lemmas.Map.Views.{any-filter_same}
use Rattle.cnf.specs.Clauses.{IsLiteral, IsClause, has_literal}
use Rattle.cnf.specs.Resolution.{resolvent}
use Rattle.cnf.proofs.ClauseLaws.{literals_of_clause, same_literal}

-- the literals other than one
abbrev pub without : ℤ → List ℤ → List ℤ
without pivot xs = filter (λ x. not (int_eq x pivot)) xs

and_comm : (a b : Bool) → (a && b) ≡ (b && a)
and_comm true true = refl
and_comm true false = refl
and_comm false true = refl
and_comm false false = refl

has_literal-without : (pivot : ℤ) (xs : List ℤ) (x : ℤ) → has_literal (without pivot xs) x ≡ (has_literal xs x && not (int_eq x pivot))
has_literal-without pivot xs x =
    any-filter_same (λ y. int_eq y x) (λ y. not (int_eq y pivot)) (not (int_eq x pivot)) (λ y e. rw (same_literal y x e) refl) xs
    ∙ and_comm (not (int_eq x pivot)) (has_literal xs x)

pub has_literal-joined : (left : List ℤ) (pivot : ℤ) (right : List ℤ) (x : ℤ)
    → has_literal (without pivot left ++ without (neg_ℤ pivot) right) x ≡ resolvent (has_literal left) pivot (has_literal right) x
has_literal-joined left pivot right x =
    list_any-append (λ y. int_eq y x) (without pivot left) (without (neg_ℤ pivot) right)
    ∙ rw (has_literal-without pivot left x, has_literal-without (neg_ℤ pivot) right x) refl

pub literals_of_joined : (left : List ℤ) (pivot other : ℤ) (right : List ℤ) → IsClause left → IsClause right → All IsLiteral (without pivot left ++ without other right)
literals_of_joined left pivot other right l r =
    All-append IsLiteral (without pivot left) (without other right)
    (All-filter (λ x. not (int_eq x pivot)) IsLiteral left (literals_of_clause 0 left l))
    (All-filter (λ x. not (int_eq x other)) IsLiteral right (literals_of_clause 0 right r))
