-- What the entries that hold tell is what is recorded of the run.
use Rattle.std.proofs.Common.{◌≡◌, ℕ, zero, suc, ◌+◌, ◌-◌, ◌*◌, ◌/◌, ◌%◌, ◌==◌, ◌≤◌, Bool, true, false, not, ◌||◌, List, [], ◌∷◌, map, length, get_or, Option, Some, None, refl, sym, ap, ◌∙◌, arith}
use Rattle.std.proofs.lemmas.List.{length-map}
use Rattle.std.specs.Prelude.{slice_get, slice_index}
use Rattle.std.specs.Int.{bit_at}
use Rattle.std.specs.List.{AllZip, list_any}
use Rattle.std.proofs.lemmas.Nat.Bits.{bit_at-suc, bit_at-zero, bit_at_lowest}
use Rattle.bit_words.proofs.Values.{no_holds}
use Rattle.c_meaning.specs.Runs.{AreMoves, Move, Run, counts, last_state, states_of}
use Rattle.c_meaning.specs.Steps.{next}
use Rattle.c_meaning.specs.declared.ends.Ends.{Ends}
use Rattle.c_meaning.specs.declared.input.Input.{Input}
use Rattle.cfa.specs.declared.parts.GraphParts.{GraphParts}
use Rattle.cfa.specs.declared.parts.Node.{Node}
use Rattle.cfa.specs.declared.state.Predicates.{Predicates}
use Rattle.cfa.specs.declared.state.State.{State}
use Rattle.circuit.specs.Sharing.{inverse, no_lit, yes_lit}
use Rattle.circuit.specs.Truth.{World}
use Rattle.circuit.specs.Wires.{lit_holds}
use Rattle.circuit.specs.declared.lit.Gate.{Gate}
use Rattle.circuit.specs.declared.lit.Lit.{Lit}
use Rattle.measurer_hits.specs.hits.Hits.{path_in}
use Rattle.path_runner.specs.Masks.{holds, mask_at, mask_of, number_of_bits}
use Rattle.path_runner.specs.Paths.{record_of}
use Rattle.patterns.specs.Match.{Step}
use Rattle.patterns.specs.Paths.{edge_in, state_in, step_of}
use Rattle.patterns.specs.declared.letter.Letter.{Letter}
use Rattle.patterns.specs.declared.letter.Letter.TheVariants.{Nodes, Edges, Predicate, Absent}
use Rattle.automata.specs.Standing.{step_at}
use Rattle.unwinder.specs.Lists.{Reached, Tells, after_move, reached_in, truths_at}
use Rattle.unwinder.specs.declared.unwound.Entry.{Entry}
use Rattle.goal_formula.specs.Steps.{tells_edge, entry_step, tells_state}
use Rattle.goal_formula.proofs.Paths.{AreSame}
use Rattle.goal_formula.proofs.StepLaws.{inverse_holds}

-- ---- bits of masks

-- a bit of the number of some bits
pub bit_of_number : (bits : List Bool) (k : ℕ) → (bit_at (number_of_bits bits) k == 1) ≡ get_or bits k false
bit_of_number [] k = ap (λ n. n == 1) (bit_at-zero k)
bit_of_number (true ∷ bits) zero =
    let n = number_of_bits bits in
    let odd : (1 + 2 * n) % 2 ≡ 1 = omega arith in
    ap (λ x. x == 1) (bit_at_lowest (1 + 2 * n) ∙ odd)
bit_of_number (false ∷ bits) zero =
    let n = number_of_bits bits in
    let even : (0 + 2 * n) % 2 ≡ 0 = omega arith in
    ap (λ x. x == 1) (bit_at_lowest (0 + 2 * n) ∙ even)
bit_of_number (true ∷ bits) (suc k) =
    let n = number_of_bits bits in
    let half : (1 + 2 * n) / 2 ≡ n = omega arith in
    ap (λ x. x == 1) (bit_at-suc (1 + 2 * n) k ∙ ap (λ m. bit_at m k) half) ∙ bit_of_number bits k
bit_of_number (false ∷ bits) (suc k) =
    let n = number_of_bits bits in
    let half : (0 + 2 * n) / 2 ≡ n = omega arith in
    ap (λ x. x == 1) (bit_at-suc (0 + 2 * n) k ∙ ap (λ m. bit_at m k) half) ∙ bit_of_number bits k

all_no : {A : Type 0} (xs : List A) (k : ℕ) → get_or (map (λ (x : A). false) xs) k false ≡ false
all_no [] k = refl
all_no (x ∷ xs) zero = refl
all_no (x ∷ xs) (suc k) = all_no xs k

truth_of_bit : (predicates : Predicates) (s : State) (o : Option Node) (k : ℕ) → get_or (truths_at predicates s o) k false ≡ (bit_at (mask_at predicates s o) k == 1)
truth_of_bit predicates s None k = all_no predicates.meanings k ∙ sym (ap (λ n. n == 1) (bit_at-zero k))
truth_of_bit predicates s (Some n) k = sym (bit_of_number (map (holds n.scope s) predicates.meanings) k)

-- ---- literals by their numbers

held_at : (gates : List Gate) (w : World) (ls : List Lit) (k : ℕ) → lit_holds gates (get_or ls k no_lit) w ≡ get_or (map (λ l. lit_holds gates l w) ls) k false
held_at gates w [] k = no_holds gates w
held_at gates w (l ∷ ls) zero = refl
held_at gates w (l ∷ ls) (suc k) = held_at gates w ls k

absent_at : (gates : List Gate) (w : World) (ls : List Lit) (k : ℕ) → lit_holds gates (get_or (map inverse ls) k yes_lit) w ≡ not (lit_holds gates (get_or ls k no_lit) w)
absent_at gates w [] k = inverse_holds gates no_lit w
absent_at gates w (l ∷ ls) zero = inverse_holds gates l w
absent_at gates w (l ∷ ls) (suc k) = absent_at gates w ls k

-- ---- entries and states

-- what a state of a run tells: the edge into it, its node and its mask
abbrev pub reached_step : GraphParts → Predicates → Reached → Step Letter
reached_step parts predicates at = record {
  edge = λ l. tells_edge at.0 l;
  state = λ l. state_in at.1.node (mask_of parts predicates at.1) l;
}

module _ (parts : GraphParts) (predicates : Predicates) (ends : Ends) (gates : List Gate) (w : World) (input : Input) where
  module _ (e : Entry) (at : Reached) (t : Tells parts predicates ends gates w input e at) where
    predicate_told : (k : ℕ) → lit_holds gates (get_or e.predicates k no_lit) w ≡ (bit_at (mask_of parts predicates at.1) k == 1)
    predicate_told k =
        held_at gates w e.predicates k
        ∙ ap (λ bs. get_or bs k false) t.truths
        ∙ truth_of_bit predicates at.1 (slice_get parts.nodes at.1.node) k

    state_told : (l : Letter) → tells_state gates e.node e.predicates (map inverse e.predicates) w l ≡ state_in at.1.node (mask_of parts predicates at.1) l
    state_told (Nodes nodes) = ap (λ n. state_in n 0 (Nodes nodes)) t.node
    state_told (Edges edges) = refl
    state_told (Predicate number) = predicate_told number
    state_told (Absent number) = absent_at gates w e.predicates number ∙ ap not (predicate_told number)

    pub step_told : entry_step gates w e ≡ reached_step parts predicates at
    step_told = λ i. record { edge = λ l. tells_edge (t.edge i) l; state = λ l. state_told l i }

  pub steps_told : (es : List Entry) (rs : List Reached) → AllZip (Tells parts predicates ends gates w input) es rs → map (entry_step gates w) es ≡ map (reached_step parts predicates) rs
  steps_told [] [] h = refl
  steps_told [] (r ∷ rs) h = absurd h
  steps_told (e ∷ es) [] h = absurd h
  steps_told (e ∷ es) (r ∷ rs) h = λ i. step_told e r h.0 i ∷ steps_told es rs h.1 i

  or_no : (b : Bool) → (b || false) ≡ b
  or_no true = refl
  or_no false = refl

  -- some entry that holds ends the run exactly where the run ends, in a way that counts, after its last state
  pub end_told : (es : List Entry) (o : Option ℕ) (first : State) (moves : List Move) → AllZip (Tells parts predicates ends gates w input) es ((o, first) ∷ map after_move moves) → AreMoves parts input first moves
      → list_any (λ (e : Entry). lit_holds gates e.ended w) es ≡ counts ends (next parts input (last_state first moves))
  end_told [] o first moves h are = absurd h
  end_told (e ∷ []) o first [] h are = or_no (lit_holds gates e.ended w) ∙ h.0.ended
  end_told (e ∷ x ∷ es) o first [] h are = absurd h.1
  end_told (e ∷ es) o first (m ∷ moves) h are =
      let here : lit_holds gates e.ended w ≡ false = h.0.ended ∙ ap (counts ends) are.1 in
      ap (λ b. b || list_any (λ (x : Entry). lit_holds gates x.ended w) es) here ∙ end_told es (Some m.edge) m.target moves h.1 are.2

-- ---- states of a run and its record

module _ (parts : GraphParts) (predicates : Predicates) where
  abbrev told_from : Option ℕ → State → List Move → List (Step Letter)
  told_from o first moves = map (reached_step parts predicates) ((o, first) ∷ map after_move moves)

  state_at : (o : Option ℕ) (first : State) (moves : List Move) (k : ℕ) (l : Letter) → k ≤ length moves
      → (step_at (told_from o first moves) k).state l ≡ state_in (slice_index (map (λ (s : State). s.node) (states_of first moves)) k) (slice_index (map (mask_of parts predicates) (states_of first moves)) k) l
  state_at o first moves zero l le = refl
  state_at o first [] (suc k) l le = absurd (omega arith)
  state_at o first (m ∷ moves) (suc k) l le = state_at (Some m.edge) m.target moves k l (omega arith)

  edge_at : (o : Option ℕ) (first : State) (moves : List Move) (k : ℕ) (l : Letter) → suc k ≤ length moves
      → (step_at (told_from o first moves) (suc k)).edge l ≡ edge_in (slice_index (map (λ (m : Move). m.edge) moves) k) l
  edge_at o first [] k l le = absurd (omega arith)
  edge_at o first (m ∷ moves) zero l le = refl
  edge_at o first (m ∷ moves) (suc k) l le = edge_at (Some m.edge) m.target moves k l (omega arith)

  module _ (input : Input) (r : Run) where
    pub run_size : length (map (reached_step parts predicates) (reached_in r)) ≡ suc (length (path_in (record_of parts input predicates r)).edges)
    run_size =
        let a = length-map (reached_in r) (reached_step parts predicates) in
        let b = length-map r.moves after_move in
        let c = length-map r.moves (λ (m : Move). m.edge) in
        omega arith

    pub run_same : AreSame (length (path_in (record_of parts input predicates r)).edges) (step_at (map (reached_step parts predicates) (reached_in r))) (step_of (path_in (record_of parts input predicates r)))
    run_same =
        let c = length-map r.moves (λ (m : Move). m.edge) in
        record {
          states = λ k l le. state_at None r.first r.moves k l (omega arith);
          edges = λ k l le.
              let same : k ≡ suc k - 1 = omega arith in
              edge_at None r.first r.moves k l (omega arith)
              ∙ ap (λ n. edge_in (slice_index (map (λ (m : Move). m.edge) r.moves) n) l) same;
        }
