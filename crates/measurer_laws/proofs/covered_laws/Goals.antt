-- Goals of filters and of conditions.
use Rattle.std.proofs.Common.{◌≡◌, ℕ, zero, suc, ◌+◌, ◌<◌, ◌≤◌, Bool, true, false, cond, ◌||◌, ◌&&◌, ◌==◌, List, [], ◌∷◌, length, filter, Option, Some, None, refl, sym, ap, ◌∙◌, ⊎_elim, eqb-true, arith}
use Rattle.std.specs.Prelude.{slice_get}
use Rattle.std.specs.List.{range_with_len}
use Rattle.std.specs.Option.{option_map_or}
use Rattle.std.proofs.lemmas.Bool.{cases_eq, cases_lt, eq-eqb, ne_eqb}
use Rattle.std.proofs.lemmas.Option.{slice_get_within}
use Rattle.fq_core.specs.declared.span.Span.{Span}
use Rattle.cfa.specs.declared.parts.Edge.{Edge}
use Rattle.cfa.specs.declared.parts.GraphParts.{GraphParts}
use Rattle.c_lower_rules.specs.graph_of.GraphOf.{graph_of}
use Rattle.tree_events.specs.declared.edge_events.event.Event.{Event}
use Rattle.fql_read.specs.declared.filter.Filter.{Filter}
use Rattle.filters.specs.Kept.{kept_by}
use Rattle.filters.specs.Parts.{edge_has, is_among, whole}
use Rattle.goals.specs.applied_clauses.Applied.{kept, numbers}
use Rattle.measurer_laws.specs.covered_laws.Conditions.{ConditionCovered, GuardCovered, decides_so, guards, guards_at, same_place}
use Rattle.measurer_laws.specs.covered_laws.Covered.{AreTelling, tells_one}
use Rattle.measurer_laws.specs.covered_laws.Filters.{FilterCovered, Selects}
use Rattle.measurer_laws.proofs.covered_laws.Covered.{covered_where_happens}
use Rattle.measurer_laws.proofs.covered_laws.Tells.{decided_of, first_passes}

-- ---- the numbers that are kept

among_filter : (p : ℕ → Bool) (xs : List ℕ) (k : ℕ) → is_among (filter p xs) k ≡ (is_among xs k && p k)
among_filter p [] k = refl
among_filter p (x ∷ xs) k = by (p x) (x == k) refl refl (among_filter p xs k)
  where
    with : (a : Bool) → p x ≡ a → is_among (filter p (x ∷ xs)) k ≡ is_among (cond a (x ∷ filter p xs) (filter p xs)) k
    with a is = ap (λ b. is_among (cond b (x ∷ filter p xs) (filter p xs)) k) is

    same : (x == k) ≡ true → p k ≡ p x
    same e = ap p (sym (eqb-true x k e))

    and_none : (b : Bool) → (b && false) ≡ false
    and_none true = refl
    and_none false = refl

    by : (a b : Bool) → p x ≡ a → (x == k) ≡ b → is_among (filter p xs) k ≡ (is_among xs k && p k) → is_among (filter p (x ∷ xs)) k ≡ (((x == k) || is_among xs k) && p k)
    by true true kept at rest = with true kept ∙ ap (λ b. b || is_among (filter p xs) k) at ∙ sym (same at ∙ kept) ∙ ap (λ b. (b || is_among xs k) && p k) (sym at)
    by true false kept at rest = with true kept ∙ ap (λ b. b || is_among (filter p xs) k) at ∙ rest ∙ ap (λ b. (b || is_among xs k) && p k) (sym at)
    by false true kept at rest =
        let none : p k ≡ false = same at ∙ kept in
        with false kept ∙ rest ∙ ap (λ b. is_among xs k && b) none ∙ and_none (is_among xs k) ∙ sym none ∙ ap (λ b. (b || is_among xs k) && p k) (sym at)
    by false false kept at rest = with false kept ∙ rest ∙ ap (λ b. (b || is_among xs k) && p k) (sym at)

in_range : (n a k : ℕ) → a ≤ k → k < a + n → is_among (range_with_len a n) k ≡ true
in_range zero a k le lt = absurd (omega arith)
in_range (suc n) a k le lt =
    ⊎_elim
    (λ same. ap (λ b. b || is_among (range_with_len (a + 1) n) k) (eq-eqb a k same))
    (λ other. ap (λ b. b || is_among (range_with_len (a + 1) n) k) (ne_eqb a k other) ∙ in_range n (a + 1) k (omega (arith, other)) (omega arith))
    (cases_eq a k)

over_range : (n a k : ℕ) → a + n ≤ k → is_among (range_with_len a n) k ≡ false
over_range zero a k le = refl
over_range (suc n) a k le =
    let other : (a == k) ≡ false = ne_eqb a k (λ same. absurd (omega (arith, same))) in
    ap (λ b. b || is_among (range_with_len (a + 1) n) k) other ∙ over_range n (a + 1) k (omega arith)

no_edge : (parts : GraphParts) (property : Edge → Bool) (k : ℕ) → length parts.edges ≤ k → edge_has parts property k ≡ false
no_edge parts property k le = by (slice_get parts.edges k) refl
  where
    by : (o : Option Edge) → slice_get parts.edges k ≡ o → option_map_or property o false ≡ false
    by None is = refl
    by (Some e) is = let lt = slice_get_within parts.edges k e is in absurd (omega (arith, lt, le))

-- those that have a property, by number
pub numbers_tell : (parts : GraphParts) (property : Edge → Bool) (k : ℕ) → is_among (numbers (edge_has parts property) (length parts.edges)) k ≡ edge_has parts property k
numbers_tell parts property k =
    let p = edge_has parts property in
    let n = length parts.edges in
    among_filter p (range_with_len 0 n) k
    ∙ ⊎_elim
    (λ lt. ap (λ b. b && p k) (in_range n 0 k (omega arith) (omega arith)))
    (λ le. ap (λ b. b && p k) (over_range n 0 k (omega arith)) ∙ sym (no_edge parts property k le))
    (cases_lt k n)

pub kept_tell : (parts : GraphParts) (f : Filter) (test : Event → Bool) → Selects parts f test → AreTelling parts (kept parts (whole parts) f).edges test
kept_tell parts f test selects k =
    let p = (kept_by parts f (whole parts)).edge in
    let n = length parts.edges in
    among_filter p (range_with_len 0 n) k
    ∙ ⊎_elim
    (λ lt. ap (λ b. b && p k) (in_range n 0 k (omega arith) (omega arith)) ∙ selects k)
    (λ le. ap (λ b. b && p k) (over_range n 0 k (omega arith)) ∙ sym (no_edge parts (tells_one test) k le))
    (cases_lt k n)

pub filter_covered : FilterCovered
filter_covered t files entry f input p plan ends goal filter test made there starts asks selects =
    covered_where_happens t files entry f input p plan ends goal (kept (graph_of t files) (whole (graph_of t files)) filter).edges test made there starts asks (kept_tell (graph_of t files) filter test selects)

-- ---- conditions

no_and : (b : Bool) → (b && false) ≡ false
no_and true = refl
no_and false = refl

guard_tells : (place : Span) (truth : Bool) (e : Edge) → tells_one (decides_so place truth) e ≡ guards_at place truth e
guard_tells place truth e = first_passes (decides_so place truth) e (no_and (same_place place e.span)) ∙ ap (λ b. same_place place e.span && b) (decided_of truth e e.operation)

guards_tell : (parts : GraphParts) (place : Span) (truth : Bool) (k : ℕ) → edge_has parts (guards_at place truth) k ≡ edge_has parts (tells_one (decides_so place truth)) k
guards_tell parts place truth k = by (slice_get parts.edges k)
  where
    by : (o : Option Edge) → option_map_or (guards_at place truth) o false ≡ option_map_or (tells_one (decides_so place truth)) o false
    by None = refl
    by (Some e) = sym (guard_tells place truth e)

pub condition_covered : ConditionCovered
condition_covered t files entry f input p plan ends goal edges place truth made there starts asks exact =
    covered_where_happens t files entry f input p plan ends goal edges (decides_so place truth) made there starts asks (λ k. exact k ∙ guards_tell (graph_of t files) place truth k)

pub own_place : (a : Span) → same_place a a ≡ true
own_place a = λ i. eq-eqb a.file a.file refl i && (eq-eqb a.line a.line refl i && (eq-eqb a.column a.column refl i && (eq-eqb a.start a.start refl i && eq-eqb a.end a.end refl i)))

alone : (parts : GraphParts) (k : ℕ) (e : Edge) (truth : Bool) → slice_get parts.edges k ≡ Some e → guards truth e.operation ≡ true
    → ((j : ℕ) (g : Edge) → slice_get parts.edges j ≡ Some g → guards_at e.span truth g ≡ true → j ≡ k)
    → (j : ℕ) → is_among (k ∷ []) j ≡ edge_has parts (guards_at e.span truth) j
alone parts k e truth there own others j =
    ⊎_elim
    (λ same. ap (λ b. b || false) (eq-eqb k j same) ∙ sym (ap (λ i. option_map_or (guards_at e.span truth) (slice_get parts.edges i) false) (sym same) ∙ ap (λ o. option_map_or (guards_at e.span truth) o false) there ∙ (λ i. own_place e.span i && own i)))
    (λ other. ap (λ b. b || false) (ne_eqb k j other) ∙ by other (slice_get parts.edges j) refl)
    (cases_eq k j)
  where
    not_one : (k ≡ j → ⊥) → (g : Edge) → slice_get parts.edges j ≡ Some g → (b : Bool) → guards_at e.span truth g ≡ b → false ≡ b
    not_one other g is true t = absurd (other (sym (others j g is t)))
    not_one other g is false t = refl

    by : (k ≡ j → ⊥) → (o : Option Edge) → slice_get parts.edges j ≡ o → false ≡ option_map_or (guards_at e.span truth) o false
    by other None is = refl
    by other (Some g) is = not_one other g is (guards_at e.span truth g) refl

pub guard_covered : GuardCovered
guard_covered t files entry f input p plan ends goal k e truth made there starts asks own guard others =
    condition_covered t files entry f input p plan ends goal (k ∷ []) e.span truth made there starts asks (alone (graph_of t files) k e truth own guard others)
