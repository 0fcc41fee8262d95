-- A part of a word, a gap and the rest.
use Rattle.std.proofs.Common.{◌≡◌, ℕ, ◌+◌, ◌-◌, ◌≤◌, ◌<◌, ◌↔◌, inl, inr, Bool, true, false, List, [], ◌∷◌, Option, Some, None, length, take, drop, refl, sym, subst, arith}
use Rattle.std.specs.Prelude.{slice_index_or, count_by}
use Rattle.std.proofs.lemmas.Bool.{cases_lt, false≢true}
use Rattle.patterns.specs.Match.{AtMost, Form}
use Rattle.patterns.specs.Segments.{HasSegment}
use Rattle.patterns.specs.declared.letter.Letter.{Letter}
use Rattle.measurer_index.specs.gap_words.Placed.{Placed, path_of}
use Rattle.measurer_index.specs.gap_words.Walks.{AreIn, Goes, GoesFrom, Walks, IsWordOf}
use Rattle.measurer_index.specs.gap_words.Parts.{IsFirstGap, IsFirstStart, IsFirstStartOrNone, IsGapBegin, is_edge}
use Rattle.measurer_index.specs.declared.gap_words.piece.Piece.{Piece}
use Rattle.measurer_index.specs.declared.gap_words.piece.Piece.TheVariants.{Gap}
use Rattle.measurer_index.specs.declared.gap_words.piece.Span.{Span}
use Rattle.measurer_index.proofs.gap_words.Going.{walks_append, walks_forward, walks_length}

at_most_less : (n m : ℕ) (most : Option ℕ) → m ≤ n → AtMost n most → AtMost m most
at_most_less n m None le h = tt
at_most_less n m (Some most) le h = omega arith

-- Up to this state the word goes from none. The rest goes from a later one, and from none before it that is far enough.
pub record IsSought (path : Placed) (last : Bool) (word : List Piece) (k : ℕ) (span : Span) (start from next : ℕ) : Type 0 where
  pub after : start ≤ from
  pub none_before : (i : ℕ) → start ≤ i → i < from → GoesFrom path last word i → ⊥
  pub goes : GoesFrom path last (drop (k + 1) word) next
  pub skipped : (i : ℕ) → from + count_by is_edge (take k word) + span.least ≤ i → i < next → GoesFrom path last (drop (k + 1) word) i → ⊥

module _ (path : Placed) (last : Bool) (word : List Piece) (k : ℕ) (span : Span) (gap : IsFirstGap word k span) where
  -- what goes is the part, the gap and the rest
  pub record IsSplit (i : ℕ) : Type 0 where
    pub part : GoesFrom path false (take k word) i
    pub state : ℕ
    pub over : Goes path (Gap span) (i + count_by is_edge (take k word)) state
    pub behind : GoesFrom path last (drop (k + 1) word) state

  pub split : (i : ℕ) → GoesFrom path last word i → IsSplit i
  split i g =
      let r = (walks_append path (take k word) (Gap span ∷ drop (k + 1) word) i g.target).0 (subst (λ w. Walks path w i g.target) gap.gap g.walks) in
      let m : ℕ = r.0 in
      let l : ℕ = r.1.1.0 in
      let e : m ≡ i + count_by is_edge (take k word) = walks_length path (take k word) gap.letters i m r.1.0 in
      let over : Goes path (Gap span) m l = r.1.1.1.0 in
      let reach = over.0 in
      let ahead = walks_forward path (drop (k + 1) word) l g.target r.1.1.1.1 in
      let within = g.within in
      record {
        part = record { target = m; within = omega arith; at_last = λ t. absurd (false≢true t); walks = r.1.0 };
        state = l;
        over = subst (λ x. Goes path (Gap span) x l) e over;
        behind = record { target = g.target; within = g.within; at_last = g.at_last; walks = r.1.1.1.1 };
      }

  pub join : (i l : ℕ) → GoesFrom path false (take k word) i → Goes path (Gap span) (i + count_by is_edge (take k word)) l → GoesFrom path last (drop (k + 1) word) l → GoesFrom path last word i
  join i l part over behind =
      let e = walks_length path (take k word) gap.letters i part.target part.walks in
      let all = (walks_append path (take k word) (Gap span ∷ drop (k + 1) word) i behind.target).1 (part.target, (part.walks, (l, (subst (λ x. Goes path (Gap span) x l) (sym e) over, behind.walks)))) in
      record { target = behind.target; within = behind.within; at_last = behind.at_last; walks = subst (λ w. Walks path w i behind.target) (sym gap.gap) all }

  pub begin : (start next : ℕ) → IsFirstStart path last (drop (k + 1) word) start next → IsSought path last word k span start start next
  begin start next h = record {
    after = omega arith;
    none_before = λ i ge lt g. absurd (omega arith);
    goes = h.goes;
    skipped = λ i ge lt g. h.none_before i (omega arith) lt g;
  }

  -- the rest goes nowhere
  pub no_rest_at_all : (start : ℕ) → IsFirstStartOrNone path last (drop (k + 1) word) start None → IsFirstStartOrNone path last word start None
  no_rest_at_all start none i ge g = let s = split i g in let reach = s.over.0 in none s.state (omega arith) s.behind

  module _ (start from next : ℕ) (h : IsSought path last word k span start from next) where
    -- the part goes nowhere
    pub no_part : IsFirstStartOrNone path false (take k word) from None → IsFirstStartOrNone path last word start None
    no_part none i ge g = elim (cases_lt i from) [
      | inl early ↦ h.none_before i ge early g
      | inr late ↦ none i late (split i g).part
    ]

    module _ (at : ℕ) (first : IsFirstStart path false (take k word) from at) where
      none_to : (i : ℕ) → start ≤ i → i < at → GoesFrom path last word i → ⊥
      none_to i ge lt g = elim (cases_lt i from) [
        | inl early ↦ h.none_before i ge early g
        | inr late ↦ first.none_before i late lt (split i g).part
      ]

      -- the part ends within the path
      pub part_ends : at + count_by is_edge (take k word) ≤ length path.edges
      part_ends =
          let g = first.goes in
          let e = walks_length path (take k word) gap.letters at g.target g.walks in
          let within = g.within in
          omega arith

      -- the rest goes nowhere far enough
      pub no_rest : IsFirstStartOrNone path last (drop (k + 1) word) (at + count_by is_edge (take k word) + span.least) None → IsFirstStartOrNone path last word start None
      no_rest none i ge g = elim (cases_lt i at) [
        | inl early ↦ none_to i ge early g
        | inr late ↦ let s = split i g in let reach = s.over.0 in none s.state (omega arith) s.behind
      ]

      -- there is no room for the gap
      pub no_room_for_gap : length path.edges < at + count_by is_edge (take k word) + span.least → IsFirstStartOrNone path last word start None
      no_room_for_gap short = no_rest (λ i ge g.
          let forward = walks_forward path (drop (k + 1) word) i g.target g.walks in
          let within = g.within in
          absurd (omega arith))

      -- what was found is far enough
      pub rest_kept : at + count_by is_edge (take k word) + span.least ≤ next → IsFirstStart path last (drop (k + 1) word) (at + count_by is_edge (take k word) + span.least) next
      rest_kept far = let after = first.after in record { after = far; goes = h.goes; none_before = λ i ge lt g. h.skipped i (omega arith) lt g }

      module _ (later : ℕ) (behind : IsFirstStart path last (drop (k + 1) word) (at + count_by is_edge (take k word) + span.least) later) (b : ℕ) (reach : IsGapBegin path span later b) where
        -- the gap reaches it
        pub found : b ≤ at + count_by is_edge (take k word) → IsFirstStart path last word start at
        found le =
            let far = behind.after in
            let r = (reach.from (at + count_by is_edge (take k word)) (omega arith)).1 le in
            let from_start = h.after in
            let ahead = first.after in
            record {
              after = omega arith;
              goes = join at later first.goes (far, r) behind.goes;
              none_before = none_to;
            }

        none_between : (i : ℕ) → at ≤ i → i + count_by is_edge (take k word) < b → GoesFrom path last word i → ⊥
        none_between i ge lt g =
            let s = split i g in
            let reaches = s.over.0 in
            let within = reach.within in
            elim (cases_lt s.state later) [
              | inl early ↦ behind.none_before s.state (omega arith) early s.behind
              | inr late ↦
                  let fits : AtMost (later - (i + count_by is_edge (take k word))) span.most = at_most_less (s.state - (i + count_by is_edge (take k word))) (later - (i + count_by is_edge (take k word))) span.most (omega arith) s.over.1.0 in
                  let all : AreIn (slice_index_or path.sets span.set []) path.edges (i + count_by is_edge (take k word)) later = λ x above below. s.over.1.1 x above (omega arith) in
                  let early_end = (reach.from (i + count_by is_edge (take k word)) (omega arith)).0 (fits, all) in
                  absurd (omega arith)
            ]

        -- it doesn't
        pub go_on : at + count_by is_edge (take k word) < b → IsSought path last word k span start (b - count_by is_edge (take k word)) later
        go_on lt =
            let from_start = h.after in
            let ahead = first.after in
            record {
              after = omega arith;
              none_before = λ i ge below g. elim (cases_lt i at) [
                | inl early ↦ none_to i ge early g
                | inr late ↦ none_between i late (omega arith) g
              ];
              goes = behind.goes;
              skipped = λ i ge below g. behind.none_before i (omega arith) below g;
            }

        pub ends : b ≤ length path.edges
        ends =
            let g = behind.goes in
            let forward = walks_forward path (drop (k + 1) word) later g.target g.walks in
            let within = g.within in
            let no_later = reach.within in
            omega arith

-- a state from which a word goes is one of the path
pub start_within : (path : Placed) (last : Bool) (word : List Piece) (i : ℕ) → GoesFrom path last word i → i ≤ length path.edges
start_within path last word i g = let forward = walks_forward path word i g.target g.walks in let within = g.within in omega arith

-- the word of a pattern goes along a path exactly where the path has a match of the pattern
module _ (path : Placed) (pattern : Form Letter) (word : List Piece) (of : IsWordOf path.sets pattern word) (first last : Bool) where
  pub none_is_no_segment : IsFirstStartOrNone path last word 0 None → (false ≡ true) ↔ HasSegment first last pattern (path_of path)
  none_is_no_segment none = (
    λ t. absurd (false≢true t),
    λ s. absurd (none s.from (omega arith) (record { target = s.to; within = s.within; at_last = s.at_last; walks = (of (path_of path) s.from s.to).0 s.matches })),
  )

  pub start_is_segment : (i : ℕ) (b : Bool) → IsFirstStart path last word 0 i → (b ≡ true → first ≡ true → i ≡ 0) → (b ≡ false → (first ≡ true) × (¬ (i ≡ 0))) → (b ≡ true) ↔ HasSegment first last pattern (path_of path)
  start_is_segment i true h free tied = (
    λ t. record {
      from = i;
      to = h.goes.target;
      forward = walks_forward path word i h.goes.target h.goes.walks;
      within = h.goes.within;
      at_first = free refl;
      at_last = h.goes.at_last;
      matches = (of (path_of path) i h.goes.target).1 h.goes.walks;
    },
    λ s. refl,
  )
  start_is_segment i false h free tied = (
    λ t. absurd (false≢true t),
    λ s.
        let other = tied refl in
        let at_first = s.at_first other.0 in
        absurd (h.none_before s.from (omega arith) (omega arith) (record { target = s.to; within = s.within; at_last = s.at_last; walks = (of (path_of path) s.from s.to).0 s.matches })),
  )
