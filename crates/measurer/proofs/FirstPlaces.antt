-- The first places of edges in a run, and the matches that begin with an edge.
use Rattle.std.proofs.Common.{◌≡◌, ◌≢◌, ℕ, zero, suc, ◌+◌, ◌-◌, ◌≤◌, ◌<◌, ◌==◌, ◌↔◌, inl, inr, Bool, true, false, not, cond, List, [], ◌∷◌, Option, Some, Result, Ok, Err, IfOk, length, get_or, set, drop, replicate, refl, sym, ◌∙◌, ap, subst, arith, eqb-true, eq-eqb, get_or-set_other}
use Rattle.std.proofs.lemmas.Bool.{cases_lt, false≢true}
use Rattle.std.proofs.lemmas.Grind.{get_or-set_at}
use Rattle.std.proofs.lemmas.List.Sums.{fails_before_first}
use Rattle.std.proofs.Math.Seq.{drop-cons, drop-length}
use Rattle.patterns.specs.Match.{Form}
use Rattle.patterns.specs.declared.letter.Letter.{Letter}
use Rattle.patterns.specs.declared.path_view.PathView.{PathView}
use Rattle.measurer_hits.specs.run_match.Later.{path_from}
use Rattle.patterns.specs.Segments.{HasSegment}
use Rattle.measurer_hits.proofs.run_match.LaterMatches.{later_segment, segment_of_later}
use Rattle.measurer.specs.Openings.{BeginsWith, IsOpening, first_place}

-- ---- the table

-- what a table has once the edges from a place on are noted
abbrev pub HasPlacesFrom : List ℕ → List ℕ → ℕ → Type 0
HasPlacesFrom edges table n = (edge : ℕ) → get_or table edge (length edges) ≡ n + first_place (drop n edges) edge

get_or-same : (n i a : ℕ) → get_or (replicate n a) i a ≡ a
get_or-same zero i a = refl
get_or-same (suc n) zero a = refl
get_or-same (suc n) (suc i) a = get_or-same n i a

-- before any is noted
pub none_noted : (edges table : List ℕ) (n size : ℕ) → n ≡ length edges → table ≡ replicate size (length edges) → HasPlacesFrom edges table n
none_noted edges table n size is filled edge =
    let rest : drop n edges ≡ [] = ap (λ k. drop k edges) is ∙ drop-length edges in
    let place : first_place (drop n edges) edge ≡ 0 = ap (λ xs. first_place xs edge) rest in
    let here : get_or table edge (length edges) ≡ length edges = ap (λ xs. get_or xs edge (length edges)) filled ∙ get_or-same size edge (length edges) in
    omega arith

first_at : (b : Bool) (x edge : ℕ) (rest : List ℕ) → x == edge ≡ b → first_place (x ∷ rest) edge ≡ cond (not b) (1 + first_place rest edge) 0
first_at b x edge rest e = ap (λ t. cond (not t) (1 + first_place rest edge) 0) e

-- the edge before is noted
pub one_noted : (edges table : List ℕ) (n : ℕ) → 0 < n → n ≤ length edges → get_or edges (n - 1) 0 < length table → HasPlacesFrom edges table n → HasPlacesFrom edges (set table (get_or edges (n - 1) 0) (n - 1)) (n - 1)
one_noted edges table n above within room h edge = by_test (get_or edges (n - 1) 0 == edge) refl
  where
    split : drop (n - 1) edges ≡ get_or edges (n - 1) 0 ∷ drop n edges
    split =
        let next : suc (n - 1) ≡ n = omega arith in
        drop-cons edges (n - 1) 0 (omega arith) ∙ ap (λ k. get_or edges (n - 1) 0 ∷ drop k edges) next

    by_test : (b : Bool) → get_or edges (n - 1) 0 == edge ≡ b → get_or (set table (get_or edges (n - 1) 0) (n - 1)) edge (length edges) ≡ n - 1 + first_place (drop (n - 1) edges) edge
    by_test true e =
        let same : edge ≡ get_or edges (n - 1) 0 = sym (eqb-true (get_or edges (n - 1) 0) edge e) in
        let written = get_or-set_at table (get_or edges (n - 1) 0) edge (n - 1) (length edges) same room in
        let place : first_place (drop (n - 1) edges) edge ≡ 0 = ap (λ xs. first_place xs edge) split ∙ first_at true (get_or edges (n - 1) 0) edge (drop n edges) e in
        omega arith
    by_test false e =
        let ne : edge ≢ get_or edges (n - 1) 0 = λ f. false≢true (sym e ∙ eq-eqb (get_or edges (n - 1) 0) edge (sym f)) in
        let kept : get_or (set table (get_or edges (n - 1) 0) (n - 1)) edge (length edges) ≡ get_or table edge (length edges) = rw get_or-set_other refl in
        let place : first_place (drop (n - 1) edges) edge ≡ 1 + first_place (drop n edges) edge = ap (λ xs. first_place xs edge) split ∙ first_at false (get_or edges (n - 1) 0) edge (drop n edges) e in
        let old = h edge in
        omega arith

-- all are noted
pub all_noted : (edges table : List ℕ) (n : ℕ) → n ≤ 0 → HasPlacesFrom edges table n → (edge : ℕ) → get_or table edge (length edges) ≡ first_place edges edge
all_noted edges table n le h edge =
    let e : n ≡ 0 = omega arith in
    let all : first_place (drop n edges) edge ≡ first_place edges edge = ap (λ k. first_place (drop k edges) edge) e in
    let here = h edge in
    omega arith

-- ---- where matches begin

-- an edge isn't taken before its first place
pub no_earlier : (edges : List ℕ) (edge k : ℕ) → get_or edges k 0 ≡ edge → first_place edges edge ≤ k
no_earlier edges edge k is = elim (cases_lt k (first_place edges edge)) [
  | inl before ↦ absurd (false≢true (sym (fails_before_first (λ e. e == edge) edges k 0 before) ∙ eq-eqb (get_or edges k 0) edge is))
  | inr after ↦ after
]

module _ (path : PathView) (edge : ℕ) (last : Bool) (pattern : Form Letter) (begins : BeginsWith edge pattern) where
  pub begins_after : (s : HasSegment false last pattern path) → first_place path.edges edge ≤ s.from
  begins_after s = no_earlier path.edges edge s.from (begins path s.from s.to s.matches).1

  -- a path that never takes the edge has no match
  none_without : length path.edges ≤ first_place path.edges edge → HasSegment false last pattern path → ⊥
  none_without le s =
      let after = begins_after s in
      let forward = (begins path s.from s.to s.matches).0 in
      let within = s.within in
      omega arith

  -- else it has a match where it has one from the first place of the edge on
  match_from : first_place path.edges edge ≤ length path.edges → HasSegment false last pattern (path_from (first_place path.edges edge) path) ↔ HasSegment false last pattern path
  match_from le = (
    later_segment (first_place path.edges edge) path le last pattern,
    λ s. segment_of_later (first_place path.edges edge) path le last pattern s (begins_after s),
  )

module _ (opening : Option ℕ) (edge start : ℕ) (first last : Bool) (pattern : Form Letter) (path : PathView) (is : opening ≡ Some edge) (opens : IsOpening opening first pattern) (place : start ≡ first_place path.edges edge) where
  opens_with : (first ≡ false) × BeginsWith edge pattern
  opens_with = subst (λ o. IsOpening o first pattern) is opens

  pub never_opened : length path.edges ≤ start → (false ≡ true) ↔ HasSegment first last pattern path
  never_opened le =
      let begins = opens_with.1 in (
        λ e. absurd (false≢true e),
        λ s. absurd (none_without path edge last pattern begins (omega arith) (subst (λ f. HasSegment f last pattern path) opens_with.0 s)),
      )

  segments_from : start < length path.edges → HasSegment first last pattern (path_from start path) ↔ HasSegment first last pattern path
  segments_from lt =
      let m = match_from path edge last pattern opens_with.1 (omega arith) in
      let any : HasSegment false last pattern (path_from start path) ↔ HasSegment false last pattern path = subst (λ n. HasSegment false last pattern (path_from n path) ↔ HasSegment false last pattern path) (sym place) m in
      subst (λ f. HasSegment f last pattern (path_from start path) ↔ HasSegment f last pattern path) (sym opens_with.0) any

  pub opened : {E : Type 0} (r : Result Bool E) (later : PathView) → start < length path.edges → later ≡ path_from start path → IfOk r (λ b. (b ≡ true) ↔ HasSegment first last pattern later) → IfOk r (λ b. (b ≡ true) ↔ HasSegment first last pattern path)
  opened (Ok b) later lt e h =
      let s = segments_from lt in
      let g : (b ≡ true) ↔ HasSegment first last pattern (path_from start path) = subst (λ p. (b ≡ true) ↔ HasSegment first last pattern p) e h in
      (λ t. s.0 (g.0 t), λ m. g.1 (s.1 m))
  opened (Err x) later lt e h = tt
