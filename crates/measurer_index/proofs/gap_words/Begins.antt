-- Where gaps begin.
use Rattle.std.proofs.Common.{◌≡◌, ℕ, ◌+◌, ◌-◌, ◌≤◌, ◌<◌, ◌==◌, ◌⊎◌, inl, inr, true, false, List, [], ◌∷◌, ◌++◌, Some, None, length, get_or, sym, ◌∙◌, ap, subst, arith}
use Rattle.std.specs.Prelude.{slice_index, slice_index_or}
use Rattle.std.specs.List.{list_any, slice_get}
use Rattle.std.proofs.lemmas.Bool.{cases_lt, false≢true}
use Rattle.std.proofs.lemmas.List.{get_or_append_left, get_or_push, get_or_past}
use Rattle.std.proofs.lemmas.Option.{slice_get_within, slice_get-get_or, get_or_from_slice_get}
use Rattle.patterns.specs.Match.{AtMost}
use Rattle.measurer_index.specs.gap_words.Placed.{Placed}
use Rattle.measurer_index.specs.gap_words.Parts.{AreAllBegins, AreBegins, IsBegin, IsGapBegin}
use Rattle.measurer_index.specs.declared.gap_words.piece.Span.{Span}

module _ (set edges : List ℕ) where
  pub begin_first : IsBegin set edges 0 0
  begin_first = record { within = omega arith; from = λ i le. (λ h. omega arith, λ ge k above below. absurd (omega arith)) }

  -- one more edge of the set
  pub begin_in : (state begin : ℕ) → list_any (λ member. member == slice_index edges state) set ≡ true → IsBegin set edges state begin → IsBegin set edges (state + 1) begin
  begin_in state begin is h = let within = h.within in record {
    within = omega arith;
    from = λ i le. elim (cases_lt state i) [
      | inl past ↦ (λ all. omega arith, λ ge k above below. absurd (omega arith))
      | inr before ↦ (
        λ all. (h.from i before).0 (λ k above below. all k above (omega arith)),
        λ ge k above below. elim (cases_lt k state) [
          | inl early ↦ (h.from i before).1 ge k above early
          | inr late ↦ let e : state ≡ k = omega arith in subst (λ x. list_any (λ member. member == slice_index edges x) set ≡ true) e is
        ],
      )
    ];
  }

  -- one that isn't
  pub begin_out : (state : ℕ) → list_any (λ member. member == slice_index edges state) set ≡ false → IsBegin set edges (state + 1) (state + 1)
  begin_out state is = record {
    within = omega arith;
    from = λ i le. (
      λ all. elim (cases_lt state i) [
        | inl past ↦ omega arith
        | inr before ↦ absurd (false≢true (sym is ∙ all state before (omega arith)))
      ],
      λ ge k above below. absurd (omega arith),
    );
  }

  -- ---- the table

  abbrev pub AreBegun : List ℕ → ℕ → Type 0
  AreBegun begins count = (state : ℕ) → state < count → IsBegin set edges state (slice_index begins state)

  pub none_begun : AreBegun [] 0
  none_begun state lt = absurd (omega arith)

  pub one_begun : (begins : List ℕ) (count begin : ℕ) → length begins ≡ count → IsBegin set edges count begin → AreBegun begins count → AreBegun (begins ++ begin ∷ []) (count + 1)
  one_begun begins count begin size is h state lt = elim (cases_lt state count) [
    | inl early ↦ subst (λ b. IsBegin set edges state b) (sym (get_or_append_left begins (begin ∷ []) 0 state (omega arith))) (h state early)
    | inr late ↦
        let e : state ≡ count = omega arith in
        subst (λ b. IsBegin set edges state b) (sym (get_or_push begins begin 0 state (omega arith))) (subst (λ s. IsBegin set edges s begin) (sym e) is)
  ]

  pub all_begun : (begins : List ℕ) (count : ℕ) → length edges < count → AreBegun begins count → AreBegins set edges begins
  all_begun begins count past h state le = h state (omega arith)

-- ---- the tables of all sets

module _ (sets : List (List ℕ)) (edges : List ℕ) where
  abbrev pub AreTabled : List (List ℕ) → ℕ → Type 0
  AreTabled begins count = (place : ℕ) → place < count → AreBegins (slice_index_or sets place []) edges (slice_index_or begins place [])

  pub none_tabled : AreTabled [] 0
  none_tabled place lt = absurd (omega arith)

  pub one_tabled : (begins : List (List ℕ)) (count : ℕ) (set table : List ℕ) → length begins ≡ count → set ≡ slice_index_or sets count [] → AreBegins set edges table → AreTabled begins count → AreTabled (begins ++ table ∷ []) (count + 1)
  one_tabled begins count set table size e is h place lt = elim (cases_lt place count) [
    | inl early ↦ subst (λ b. AreBegins (slice_index_or sets place []) edges b) (sym (get_or_append_left begins (table ∷ []) [] place (omega arith))) (h place early)
    | inr late ↦
        let same : place ≡ count = omega arith in
        let mine : AreBegins (slice_index_or sets place []) edges table = subst (λ s. AreBegins s edges table) (e ∙ ap (λ p. slice_index_or sets p []) (sym same)) is in
        subst (λ b. AreBegins (slice_index_or sets place []) edges b) (sym (get_or_push begins table [] place (omega arith))) mine
  ]

  -- no set stands at this place
  pub no_set : (place state : ℕ) → length sets ≤ place → IsBegin (slice_index_or sets place []) edges state state
  no_set place state past = subst (λ set. IsBegin set edges state state) (sym (get_or_past sets place [] past)) (record {
    within = omega arith;
    from = λ i le. (
      λ all. elim (cases_lt i state) [
        | inl before ↦ absurd (false≢true (all i (omega arith) before))
        | inr at ↦ at
      ],
      λ ge k above below. absurd (omega arith),
    );
  })

-- ---- a greatest number of edges

module _ (path : Placed) (span : Span) (state begin : ℕ) (h : IsBegin (slice_index_or path.sets span.set []) path.edges state begin) where
  pub no_most : span.most ≡ None → IsGapBegin path span state begin
  no_most none = record {
    within = h.within;
    from = λ i le. (λ (fits, all). (h.from i le).0 all, λ ge. (subst (λ o. AtMost (state - i) o) (sym none) tt, (h.from i le).1 ge));
  }

  pub with_most : (most nearer : ℕ) → span.most ≡ Some most → begin ≤ nearer → state - most ≤ nearer → ((nearer ≡ begin) ⊎ (nearer ≡ state - most)) → IsGapBegin path span state nearer
  with_most most nearer is a b either = let within = h.within in record {
    within = elim either [ inl e ↦ omega arith | inr e ↦ omega arith ];
    from = λ i le. (
      λ (fits, all).
          let bound : state - i ≤ most = subst (λ o. AtMost (state - i) o) is fits in
          let low = (h.from i le).0 all in
          elim either [ inl e ↦ omega arith | inr e ↦ omega arith ],
      λ ge. (subst (λ o. AtMost (state - i) o) (sym is) (let bound : state - i ≤ most = omega arith in bound), (h.from i le).1 (omega arith)),
    );
  }

-- ---- what the tables tell

module _ (sets : List (List ℕ)) (edges : List ℕ) (begins : List (List ℕ)) (place state : ℕ) (h : AreAllBegins sets edges begins) where
  pub no_table : None ≡ slice_get begins place → IsBegin (slice_index_or sets place []) edges state state
  no_table none = elim (cases_lt place (length begins)) [
    | inl within ↦ let some : slice_get begins place ≡ Some (get_or begins place []) = slice_get-get_or begins place [] within in absurd (cc)
    | inr past ↦ let size = h.size in no_set sets edges place state (omega arith)
  ]

  pub one_table : (table : List ℕ) → Some table ≡ slice_get begins place → state ≤ length edges → IsBegin (slice_index_or sets place []) edges state (slice_index table state)
  one_table table is le =
      let within = slice_get_within begins place table (sym is) in
      let e : get_or begins place [] ≡ table = get_or_from_slice_get begins place table [] (sym is) in
      let size = h.size in
      subst (λ t. IsBegin (slice_index_or sets place []) edges state (slice_index t state)) e (h.each place (omega arith) state le)
