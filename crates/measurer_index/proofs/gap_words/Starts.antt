-- The first states from which rows of letters go.
use Rattle.std.proofs.Common.{◌≡◌, ℕ, ◌+◌, ◌-◌, ◌≤◌, ◌<◌, inl, inr, true, false, List, [], ◌∷◌, length, get_or, Option, Some, None, refl, sym, subst, arith}
use Rattle.std.specs.Prelude.{count_by}
use Rattle.std.proofs.lemmas.Bool.{cases_lt, false≢true}
use Rattle.patterns.specs.Paths.{IsPath}
use Rattle.measurer_index.specs.occurrences.Places.{IsFirstOrNone}
use Rattle.measurer_index.specs.gap_words.Placed.{Placed, path_of}
use Rattle.measurer_index.specs.gap_words.Walks.{Walks}
use Rattle.measurer_index.specs.gap_words.Parts.{AreLetters, IsEnd, IsNoLater, IsFirstStart, IsFirstStartOrNone, is_edge}
use Rattle.measurer_index.specs.declared.gap_words.piece.Piece.{Piece}
use Rattle.measurer_index.specs.declared.gap_words.piece.Piece.TheVariants.{Edge, Node}
use Rattle.measurer_index.proofs.gap_words.Going.{walks_forward, walks_length}

module _ (path : Placed) where
  -- ---- where rows may begin

  pub edge_start : (e : ℕ) (w : List Piece) (start : ℕ) (o : Option ℕ) → IsFirstOrNone path.edges e start o → IsNoLater path (Edge e ∷ w) start o
  edge_start e w start None h = λ i j from le (m, (g, rest)).
      let a = g.0 in let b = walks_forward path w m j rest in
      h (i, (from, (omega arith, g.1)))
  edge_start e w start (Some s) h =
      let within = h.within in
      (h.after, (omega arith, λ i j from below le (m, (g, rest)). h.none_before (i, (from, (below, g.1)))))

  pub node_start : IsPath (path_of path) → (n : ℕ) (w : List Piece) (start : ℕ) (o : Option ℕ) → IsFirstOrNone path.nodes n start o → IsNoLater path (Node n ∷ w) start o
  node_start is n w start None h = λ i j from le (m, (g, rest)).
      let a = g.0 in let b = walks_forward path w m j rest in let size = is.nodes_fit in
      h (i, (from, (omega arith, g.1)))
  node_start is n w start (Some s) h =
      let within = h.within in let size = is.nodes_fit in
      (h.after, (omega arith, λ i j from below le (m, (g, rest)). h.none_before (i, (from, (below, g.1)))))

  -- by the first letter of a row
  pub edge_first : (e : ℕ) (w : List Piece) (d : Piece) → 1 ≤ length w → get_or w 0 d ≡ Edge e → (start : ℕ) (o : Option ℕ) → IsFirstOrNone path.edges e start o → IsNoLater path w start o
  edge_first e [] d some is start o h = absurd (omega arith)
  edge_first e (p ∷ w) d some is start o h = subst (λ q. IsNoLater path (q ∷ w) start o) (sym is) (edge_start e w start o h)

  pub node_first : IsPath (path_of path) → (n : ℕ) (w : List Piece) (d : Piece) → 1 ≤ length w → get_or w 0 d ≡ Node n → (start : ℕ) (o : Option ℕ) → IsFirstOrNone path.nodes n start o → IsNoLater path w start o
  node_first fits n [] d some is start o h = absurd (omega arith)
  node_first fits n (p ∷ w) d some is start o h = subst (λ q. IsNoLater path (q ∷ w) start o) (sym is) (node_start fits n w start o h)

  pub any_start : (w : List Piece) (start : ℕ) → start ≤ length path.edges → IsNoLater path w start (Some start)
  any_start w start le = (omega arith, (le, λ i j from below within g. absurd (omega arith)))

  pub no_start : (w : List Piece) (start : ℕ) → length path.edges < start → IsNoLater path w start None
  no_start w start past i j from within g = let a = walks_forward path w i j g in absurd (omega arith)

  -- ---- rows that begin anywhere from a state on

  module _ (w : List Piece) (start : ℕ) where
    -- the row goes from no state before this one
    abbrev pub IsNoneBefore : ℕ → Type 0
    IsNoneBefore from = (i j : ℕ) → start ≤ i → i < from → j ≤ length path.edges → Walks path w i j → ⊥

    pub none_first : IsNoneBefore start
    none_first i j after below within g = absurd (omega arith)

    none_to : (from at : ℕ) → IsNoneBefore from → IsNoLater path w from (Some at) → IsNoneBefore at
    none_to from at none later i j after below within g = elim (cases_lt i from) [
      | inl early ↦ none i j after early within g
      | inr late ↦ later.1.1 i j late below within g
    ]

    pub none_more : (from at : ℕ) → IsNoneBefore from → IsNoLater path w from (Some at) → IsEnd path w at None → IsNoneBefore (at + 1)
    none_more from at none later never i j after below within g = elim (cases_lt i at) [
      | inl early ↦ none_to from at none later i j after early within g
      | inr late ↦ let e : i ≡ at = omega arith in never j within (subst (λ k. Walks path w k j) e g)
    ]

    pub none_left : (from : ℕ) → IsNoneBefore from → IsNoLater path w from None → IsFirstStartOrNone path false w start None
    none_left from none later i after g = elim (cases_lt i from) [
      | inl early ↦ none i g.target after early g.within g.walks
      | inr late ↦ later i g.target late g.within g.walks
    ]

    -- the row goes from here
    pub start_here : (from at end : ℕ) → start ≤ from → IsNoneBefore from → IsNoLater path w from (Some at) → IsEnd path w at (Some end) → IsFirstStart path false w start at
    start_here from at end ge none later h = let ahead = later.0 in record {
      after = omega arith;
      goes = record { target = end; within = h.0; at_last = λ t. absurd (false≢true t); walks = h.1 };
      none_before = λ i after below g. none_to from at none later i g.target after below g.within g.walks;
    }

    -- no later state is left to go from
    pub none_past : (from at : ℕ) → IsNoneBefore from → IsNoLater path w from (Some at) → IsEnd path w at None → length path.edges ≤ at → IsFirstStartOrNone path false w start None
    none_past from at none later h past i after g =
        let forward = walks_forward path w i g.target g.walks in
        let within = g.within in
        none_more from at none later h i g.target after (omega arith) g.within g.walks

  -- ---- the last part

  module _ (w : List Piece) (letters : AreLetters w) (start : ℕ) where
    -- there is no room for it
    pub no_room : length path.edges < count_by is_edge w → IsFirstStartOrNone path true w start None
    no_room short i after g =
        let size = walks_length path w letters i g.target g.walks in
        let within = g.within in
        absurd (omega arith)

    -- it would begin at an earlier state
    pub too_early : length path.edges - count_by is_edge w < start → IsFirstStartOrNone path true w start None
    too_early early i after g =
        let size = walks_length path w letters i g.target g.walks in
        let at_last = g.at_last refl in
        absurd (omega arith)

    pub not_last : (at : ℕ) → count_by is_edge w ≤ length path.edges → at ≡ length path.edges - count_by is_edge w → IsEnd path w at None → IsFirstStartOrNone path true w start None
    not_last at room is none i after g =
        let size = walks_length path w letters i g.target g.walks in
        let at_last = g.at_last refl in
        let e : i ≡ at = omega arith in
        none g.target g.within (subst (λ k. Walks path w k g.target) e g.walks)

    pub at_last : (at end : ℕ) → count_by is_edge w ≤ length path.edges → at ≡ length path.edges - count_by is_edge w → start ≤ at → IsEnd path w at (Some end) → IsFirstStart path true w start at
    at_last at end room is after h =
        let size = walks_length path w letters at end h.1 in
        record {
          after = after;
          goes = record { target = end; within = h.0; at_last = λ t. omega arith; walks = h.1 };
          none_before = λ i ge below g.
              let length_of = walks_length path w letters i g.target g.walks in
              let ends = g.at_last refl in
              absurd (omega arith);
        }
