-- The truth of predicates as literals, one after another.
use Rattle.std.proofs.Common.{◌≡◌, ℕ, suc, ◌+◌, ◌-◌, ◌*◌, ◌<◌, ◌≤◌, Bool, true, false, not, ◌&&◌, cond, List, [], ◌∷◌, ◌++◌, length, map, take, get_or, Option, Some, None, refl, sym, ap, subst, ◌∙◌, length-append, arith}
use Rattle.std.specs.Prelude.{All, IsTrue, Result, Ok, Err, ◌==◌, slice_get, sum_by, unwrap_or}
use Rattle.std.specs.Option.{option_map}
use Rattle.std.specs.Result.{result_ok}
use Rattle.std.proofs.lemmas.List.{map_push, take_all, take_more}
use Rattle.std.proofs.lemmas.List.Elements.{All-push}
use Rattle.std.proofs.lemmas.List.Sums.{sum_by_push, sum_by-take-le}
use Rattle.std.proofs.lemmas.Option.{get_or_from_slice_get, same_Some, slice_get-get_or, slice_get_past, slice_get_within}
use Rattle.circuit.specs.Truth.{World}
use Rattle.circuit.specs.Wires.{IsWire, lit_holds}
use Rattle.circuit.specs.declared.lit.Gate.{Gate}
use Rattle.circuit.specs.declared.lit.Lit.{Lit}
use Rattle.bit_words.specs.Words.{Grows}
use Rattle.bit_words.proofs.Digits.{all_still}
use Rattle.bit_words.proofs.Steps.{grows_none, grows_then, grows_within, same}
use Rattle.bit_words.proofs.Values.{no_holds}
use Rattle.cfa.specs.declared.expr.Expr.{Expr}
use Rattle.cfa.specs.declared.parts.GraphParts.{GraphParts}
use Rattle.cfa.specs.declared.parts.Node.{Node}
use Rattle.cfa.specs.declared.state.Frame.{Frame}
use Rattle.cfa.specs.declared.state.Predicates.{Predicates}
use Rattle.cfa.specs.declared.state.State.{State}
use Rattle.cfa.specs.declared.state.Trap.{Trap}
use Rattle.cfa.specs.Each.{Each}
use Rattle.cfa.specs.Graph.{IsGraph}
use Rattle.cfa.specs.Predicates.{IsPredicates}
use Rattle.cfa.specs.Rules.{expr_fits}
use Rattle.c_meaning.specs.Places.{room_in}
use Rattle.c_meaning.proofs.StateLaws.{running}
use Rattle.path_runner.specs.Masks.{expr_holds, holds, is_nonzero}
use Rattle.sym_expr.specs.Stores.{FitsWithin}
use Rattle.sym_expr.proofs.ElementLemmas.{cells_later}
use Rattle.sym_expr.specs.declared.sym_steps.state.SymState.{SymState}
use Rattle.sym_expr.specs.sym_steps.Steps.{AreStates, running_of, state_in}
use Rattle.sym_expr.proofs.sym_steps.StepLemmas.{fits_here}
use Rattle.unwinder_reach.specs.unwinding_size.Sizes.{meaning_weight, node_weight, predicates_weight}
use Rattle.unwinder.specs.Lists.{truths_at, truths_in}

-- ---- one predicate

-- the last frame is the one that runs
pub runs_last : (frames items : List Frame) (n : ℕ) (f : Frame) → items ≡ frames → n ≡ length frames → 1 ≤ length frames → f ≡ get_or items (n - 1) f → f ≡ running_of frames
runs_last frames items n f same long some is =
    let last : get_or items (n - 1) f ≡ get_or frames (length frames - 1) f = ap (λ m. get_or items (m - 1) f) long ∙ ap (λ (fs : List Frame). get_or fs (length frames - 1) f) same in
    let lt : length frames - 1 < length frames = omega arith in
    is ∙ last ∙ ap (λ o. unwrap_or o (record { call = None; base = 0; arrays = [] })) (sym (slice_get-get_or frames (length frames - 1) f lt))

-- a test that holds and doesn't trap has a value other than 0
pub told_nonzero : (nonzero fine : Bool) (r : Result ℕ Trap) → cond fine (Some nonzero) None ≡ option_map (λ v. not (v == 0)) (result_ok r) → (nonzero && fine) ≡ is_nonzero r
told_nonzero true true (Ok v) e = cc
told_nonzero false true (Ok v) e = cc
told_nonzero nonzero true (Err t) e = absurd (cc)
told_nonzero nonzero false (Ok v) e = absurd (cc)
told_nonzero true false (Err t) e = refl
told_nonzero false false (Err t) e = refl

-- a predicate without an expression in the scope holds in no state
pub no_scope : (gates : List Gate) (scope : ℕ) (s : State) (row : List (Option Expr)) (w : World) → length row ≤ scope → lit_holds gates (record { wire = 0; negated = true }) w ≡ holds scope s row
no_scope gates scope s row w past = no_holds gates w ∙ sym (ap (expr_holds s) (slice_get_past row scope past))

pub no_meaning : (gates : List Gate) (scope : ℕ) (s : State) (row : List (Option Expr)) (item : Option Expr) (w : World) → scope < length row → item ≡ get_or row scope item → item ≡ None → lit_holds gates (record { wire = 0; negated = true }) w ≡ holds scope s row
no_meaning gates scope s row item w lt read none = no_holds gates w ∙ sym (ap (expr_holds s) (slice_get-get_or row scope item lt ∙ ap Some (sym read ∙ none)))

-- ---- the predicates where a state is

pub node_there : (parts : GraphParts) (gates : List Gate) (s : SymState) → IsGraph parts → AreStates parts gates s → s.node < length parts.nodes
node_there parts gates s g h =
    let at = (running parts (state_in gates s []) g (h [])).at in
    slice_get_within parts.nodes s.node at.place at.node_is

-- for the predicates, and the scope of the state's node
module _ (parts : GraphParts) (gates : List Gate) (s : SymState) (predicates : Predicates) (nodes : List Node) (d : Node) (rows : List (List (Option Expr))) (g : IsGraph parts) (h : AreStates parts gates s) (nodes_are : nodes ≡ parts.nodes) (rows_are : rows ≡ predicates.meanings) where
  abbrev pub scope : ℕ
  scope = (get_or nodes s.node d).scope

  there : slice_get parts.nodes s.node ≡ Some (get_or nodes s.node d)
  there = slice_get-get_or parts.nodes s.node d (node_there parts gates s g h) ∙ ap (λ (ns : List Node). Some (get_or ns s.node d)) (sym nodes_are)

  -- each expression in the scope names what the state has
  pub rows_fit : IsPredicates parts predicates → Each rows (λ k row. (e : Expr) → slice_get row scope ≡ Some (Some e) → FitsWithin (length s.store.cells) (running_of s.frames) e)
  rows_fit p k row row_is e is =
      let at = (running parts (state_in gates s []) g (h [])).at in
      let place : at.place ≡ get_or nodes s.node d = same_Some at.place (get_or nodes s.node d) (sym at.node_is ∙ there) in
      let own = subst (λ (m : Node). slice_get parts.functions m.function ≡ Some at.own) place at.own_is in
      let fits = p.rules k row (ap (λ (rs : List (List (Option Expr))). slice_get rs k) (sym rows_are) ∙ row_is) s.node (get_or nodes s.node d) there e at.own is own in
      fits_here parts gates s g h e (subst (λ q. IsTrue (expr_fits q e)) (sym (ap (room_in parts) at.found)) fits)

  -- what the predicates weigh, with the wires of each
  pub weight_is : 31 * sum_by (λ row. meaning_weight (slice_get row scope)) rows + 65 * length rows ≡ 31 * predicates_weight parts predicates s.node + 65 * length predicates.meanings
  weight_is =
      ap (λ (rs : List (List (Option Expr))). 31 * sum_by (λ row. meaning_weight (slice_get row scope)) rs + 65 * length rs) rows_are
      ∙ ap (λ n. 31 * n + 65 * length predicates.meanings) (sym (ap (node_weight predicates) there))

  pub truths_are : (w : World) → map (holds scope (state_in gates s w)) rows ≡ truths_in parts predicates (state_in gates s w)
  truths_are w = ap (map (holds scope (state_in gates s w))) rows_are ∙ sym (ap (truths_at predicates (state_in gates s w)) there)

-- ---- one predicate after another

abbrev pub Row : Type 0
Row = List (Option Expr)

abbrev row_weight : ℕ → Row → ℕ
row_weight scope row = meaning_weight (slice_get row scope)

-- the truth of so many predicates was told
pub record TruthsSoFar (old new : List Gate) (rows : List Row) (scope : ℕ) (s : SymState) (literals : List Lit) (k : ℕ) : Type 0 where
  pub grows : Grows old new (31 * sum_by (λ row. meaning_weight (slice_get row scope)) (take k rows) + 65 * k)
  pub wires : All (IsWire new) literals
  pub count : length literals ≡ k
  pub value : (w : World) → map (λ l. lit_holds new l w) literals ≡ map (holds scope (state_in old s w)) (take k rows)

pub truths_none : (gates : List Gate) (rows : List Row) (scope : ℕ) (s : SymState) → TruthsSoFar gates gates rows scope s [] 0
truths_none gates rows scope s = record {
  grows = grows_none gates _;
  wires = λ k d lt. absurd (omega arith);
  count = refl;
  value = λ w. refl;
}

-- older literals keep what they hold
held_later : {a b : List Gate} {n : ℕ} → Grows a b n → (literals : List Lit) → All (IsWire a) literals → (w : World) → map (λ l. lit_holds b l w) literals ≡ map (λ l. lit_holds a l w) literals
held_later f [] h w = refl
held_later {a} {b} f (l ∷ literals) h w =
    ap (λ v. v ∷ map (λ q. lit_holds b q w) literals) (same f l (h 0 l (omega arith)) w)
    ∙ ap (λ vs. lit_holds a l w ∷ vs) (held_later f literals (λ k d lt. h (suc k) d (omega arith)) w)

take_with : (rows : List Row) (k : ℕ) (row : Row) → slice_get rows k ≡ Some row → take (k + 1) rows ≡ take k rows ++ row ∷ []
take_with rows k row at = take_more rows k row (slice_get_within rows k row at) ∙ ap (λ y. take k rows ++ y ∷ []) (get_or_from_slice_get rows k row row at)

-- the element that a loop is at
pub row_at : (rows : List Row) (k : ℕ) (item row : Row) → k < length rows → row ≡ item → item ≡ get_or rows k item → slice_get rows k ≡ Some row
row_at rows k item row lt same is = slice_get-get_or rows k item lt ∙ ap Some (sym is ∙ sym same)

-- a predicate and those before it weigh no more than all
pub rows_weigh : (scope : ℕ) (rows : List Row) (k : ℕ) (row : Row) → slice_get rows k ≡ Some row
    → sum_by (λ row. meaning_weight (slice_get row scope)) (take k rows) + meaning_weight (slice_get row scope) ≤ sum_by (λ row. meaning_weight (slice_get row scope)) rows
rows_weigh scope rows k row at =
    let most = sum_by-take-le (row_weight scope) rows (k + 1) in
    omega (arith, most, ap (sum_by (row_weight scope)) (take_with rows k row at), sum_by_push (row_weight scope) (take k rows) row)

-- what holds of the state in one circuit does in a later one
holds_later : {old mid : List Gate} {n : ℕ} → Grows old mid n → (scope : ℕ) (s : SymState) (row : Row) (w : World) → All (All (IsWire old)) s.store.cells → holds scope (state_in mid s w) row ≡ holds scope (state_in old s w) row
holds_later f scope s row w cells = ap (λ vs. holds scope (record { node = s.node; frames = s.frames; cells = vs; taken = s.taken }) row) (cells_later f s.store.cells cells w)

pub truths_more : {old mid new : List Gate} {rows : List Row} {scope : ℕ} {s : SymState} {literals : List Lit} {k : ℕ} (row : Row) (literal : Lit)
    → slice_get rows k ≡ Some row → All (All (IsWire old)) s.store.cells → TruthsSoFar old mid rows scope s literals k
    → Grows mid new (31 * meaning_weight (slice_get row scope) + 65) → IsWire new literal
    → ((w : World) → lit_holds new literal w ≡ holds scope (state_in mid s w) row)
    → TruthsSoFar old new rows scope s (literals ++ literal ∷ []) (k + 1)
truths_more {old} {mid} {new} {rows} {scope} {s} {literals} {k} row literal at cells so g wire is =
    let more = take_with rows k row at in
    let weight = ap (sum_by (row_weight scope)) more ∙ sum_by_push (row_weight scope) (take k rows) row in
    let count = so.count in
    record {
      grows = grows_within _ (grows_then so.grows g) (omega (arith, weight));
      wires = All-push (IsWire new) literals literal (all_still g literals so.wires) wire;
      count = omega (arith, length-append literals (literal ∷ []));
      value = λ w.
          map_push (λ l. lit_holds new l w) literals literal
          ∙ ap (λ bs. bs ++ lit_holds new literal w ∷ []) (held_later g literals so.wires w ∙ so.value w)
          ∙ ap (λ b. map (holds scope (state_in old s w)) (take k rows) ++ b ∷ []) (is w ∙ holds_later so.grows scope s row w cells)
          ∙ sym (map_push (holds scope (state_in old s w)) (take k rows) row)
          ∙ ap (map (holds scope (state_in old s w))) (sym more);
    }

-- all were told
pub truths_all : {old new : List Gate} {rows : List Row} {scope : ℕ} {s : SymState} {literals : List Lit} {k : ℕ} → TruthsSoFar old new rows scope s literals k → length rows ≤ k → (w : World) → map (λ l. lit_holds new l w) literals ≡ map (holds scope (state_in old s w)) rows
truths_all {old} {rows = rows} {scope} {s} {k = k} so le w = so.value w ∙ ap (map (holds scope (state_in old s w))) (take_all k rows le)
