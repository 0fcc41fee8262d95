-- A run is the same for the input that has exactly the answers that it reads, and whose words are alike by the parameters' kinds.
use Rattle.std.proofs.Common.{◌≡◌, ℕ, ◌+◌, List, [], ◌∷◌, ◌++◌, map, length, get_or, Some, None, Option, refl, sym, ap, subst, ◌∙◌, arith, pos, All, append_assoc, length-append}
use Rattle.std.specs.Prelude.{IsTrue, slice_get, slice_index, filter_map}
use Rattle.std.specs.List.{cons_option}
use Rattle.std.specs.Option.{option_to_list}
use Rattle.std.proofs.lemmas.List.{length-map}
use Rattle.std.proofs.lemmas.List.Elements.{All-cons, All-nil}
use Rattle.std.proofs.lemmas.Option.{same_Some}
use Rattle.bit_words.proofs.Values.{wrapped-value}
use Rattle.c_meaning.proofs.RunLaws.{counted_over, runs_by_ends}
use Rattle.c_meaning.specs.Runs.{AreMoves, IsRun, Move, Run, counts, last_in, states_of}
use Rattle.c_meaning.specs.Starts.{fitted, fitted_words, frame_cells, first_frame, first_globals, start_of}
use Rattle.c_meaning.specs.Steps.{answer_of, next}
use Rattle.c_meaning.specs.declared.ends.Ends.{Ends}
use Rattle.c_meaning.specs.declared.input.Input.{Input}
use Rattle.c_values.proofs.Fitting.{IsValue-wrapped}
use Rattle.c_values.specs.Kind.{IsValue}
use Rattle.c_values.specs.declared.kinds.Kind.{Kind}
use Rattle.cfa.specs.Graph.{IsGraph}
use Rattle.cfa.specs.declared.parts.Edge.{Edge}
use Rattle.cfa.specs.declared.parts.Function.{Function}
use Rattle.cfa.specs.declared.parts.GraphParts.{GraphParts}
use Rattle.cfa.specs.declared.parts.InputFunction.{InputFunction}
use Rattle.cfa.specs.declared.parts.Operation.{Operation}
use Rattle.cfa.specs.declared.parts.Operation.TheVariants.{Skip, Assign, Clear, Guard, Call, Return, Answer, Assert, Assume}
use Rattle.cfa.specs.declared.state.Predicates.{Predicates}
use Rattle.cfa.specs.declared.state.State.{State}
use Rattle.path_runner.specs.Masks.{mask_of}
use Rattle.path_runner.specs.Paths.{answer_along, answer_at, answer_by, answer_on, answer_read, end_at, record_of}
use Rattle.measurer_hits.proofs.run_laws.Nexts.{ReadsAlike, next_goes, next_stops, next_takes}

abbrev Taken : Type 0
Taken = Kind × ℕ

abbrev pub values : List Taken → List ℕ
values taken = map (λ (answer : Taken). answer.1) taken

-- ---- lists

index_behind : (front back : List ℕ) (v : ℕ) → get_or (front ++ v ∷ back) (length front) 0 ≡ v
index_behind [] back v = refl
index_behind (x ∷ front) back v = index_behind front back v

values_cons : (o : Option Taken) (rest : List Taken) → values (cons_option o rest) ≡ values (option_to_list o) ++ values rest
values_cons None rest = refl
values_cons (Some a) rest = refl

cons_alike : (a b : Option Taken) (more rest : List Taken) → a ≡ b → more ≡ rest → cons_option a more ≡ cons_option b rest
cons_alike a b more rest e f = λ i. cons_option (e i) (f i)

-- ---- what is read

module _ (parts : GraphParts) (graph : IsGraph parts) (x : Input) where
  by_fits : (number function : ℕ) (o : Option InputFunction) (a : Taken) → slice_get parts.inputs function ≡ o → answer_by x number o ≡ Some a → IsValue a.0 a.1
  by_fits number function None a there is = absurd cc
  by_fits number function (Some g) a there is =
      let value : IsValue g.result (fitted g.result (slice_index x.answers number)) = IsValue-wrapped g.result (pos (slice_index x.answers number)) (graph.rest.inputs function g there) in
      let P : Taken → Type 0 = λ b. IsValue b.0 b.1 in
      subst P (same_Some (g.result, answer_of x g.result number) a is) value

  at_fits : (number : ℕ) (op : Operation) (a : Taken) → answer_at parts x number op ≡ Some a → IsValue a.0 a.1
  at_fits number Skip a is = absurd cc
  at_fits number (Assign place value) a is = absurd cc
  at_fits number (Clear array count) a is = absurd cc
  at_fits number (Guard test truth) a is = absurd cc
  at_fits number (Call callee words arrays) a is = absurd cc
  at_fits number (Return call dest) a is = absurd cc
  at_fits number (Answer function dest) a is = by_fits number function (slice_get parts.inputs function) a refl is
  at_fits number (Assert test) a is = absurd cc
  at_fits number (Assume test) a is = absurd cc

  on_fits : (number : ℕ) (o : Option Edge) (a : Taken) → answer_on parts x number o ≡ Some a → IsValue a.0 a.1
  on_fits number None a is = absurd cc
  on_fits number (Some e) a is = at_fits number e.operation a is

  one_fits : (o : Option Taken) (rest : List Taken) → ((a : Taken) → o ≡ Some a → IsValue a.0 a.1) → All (λ (a : Taken). IsValue a.0 a.1) rest → All (λ (a : Taken). IsValue a.0 a.1) (cons_option o rest)
  one_fits None rest one all = all
  one_fits (Some a) rest one all = All-cons (λ (b : Taken). IsValue b.0 b.1) a rest (one a refl) all

  -- each answer that is read is a value of its kind
  pub answers_fit : (ms : List Move) → All (λ (a : Taken). IsValue a.0 a.1) (filter_map (answer_read parts x) ms)
  answers_fit [] = All-nil (λ (a : Taken). IsValue a.0 a.1)
  answers_fit (m ∷ ms) = one_fits (answer_read parts x m) (filter_map (answer_read parts x) ms) (λ a is. on_fits m.source.taken (slice_get parts.edges m.edge) a is) (answers_fit ms)

  module _ (y : Input) where
    -- where the answer that is read stands at its number, as a value of its kind, it is read so
    alike_from : (at number : ℕ) (front back : List ℕ) → length front ≡ number → y.answers ≡ front ++ (values (option_to_list (answer_along parts x at number)) ++ back) → ReadsAlike parts x y at number
    alike_from at number front back long is e function dest g there operation own =
        let v = answer_of x g.result number in
        let read : answer_along parts x at number ≡ Some (g.result, v) = ap (answer_on parts x number) there ∙ ap (answer_at parts x number) operation ∙ ap (answer_by x number) own in
        let all : y.answers ≡ front ++ v ∷ back = is ∙ ap (λ o. front ++ (values (option_to_list o) ++ back)) read in
        let word : slice_index y.answers number ≡ v = (λ i. slice_index (all i) (sym long i)) ∙ index_behind front back v in
        let value : IsValue g.result v = IsValue-wrapped g.result (pos (slice_index x.answers number)) (graph.rest.inputs function g own) in
        ap (fitted g.result) word ∙ wrapped-value g.result v value

    read_by : (number function : ℕ) (o : Option InputFunction) → slice_get parts.inputs function ≡ o → ((g : InputFunction) → slice_get parts.inputs function ≡ Some g → answer_of y g.result number ≡ answer_of x g.result number) → answer_by y number o ≡ answer_by x number o
    read_by number function None there alike = refl
    read_by number function (Some g) there alike = ap (λ v. Some (g.result, v)) (alike g there)

    read_at : (at number : ℕ) (e : Edge) (op : Operation) → slice_get parts.edges at ≡ Some e → e.operation ≡ op → ReadsAlike parts x y at number → answer_at parts y number op ≡ answer_at parts x number op
    read_at at number e Skip there is alike = refl
    read_at at number e (Assign place value) there is alike = refl
    read_at at number e (Clear array count) there is alike = refl
    read_at at number e (Guard test truth) there is alike = refl
    read_at at number e (Call callee words arrays) there is alike = refl
    read_at at number e (Return call dest) there is alike = refl
    read_at at number e (Answer function dest) there is alike = read_by number function (slice_get parts.inputs function) refl (λ g own. alike e function dest g there is own)
    read_at at number e (Assert test) there is alike = refl
    read_at at number e (Assume test) there is alike = refl

    read_on : (at number : ℕ) (o : Option Edge) → slice_get parts.edges at ≡ o → ReadsAlike parts x y at number → answer_on parts y number o ≡ answer_on parts x number o
    read_on at number None there alike = refl
    read_on at number (Some e) there alike = read_at at number e e.operation there refl alike

    -- the moves are those of the other input, and read the same
    pub same_moves : (s : State) (ms : List Move) (front : List ℕ) → AreMoves parts x s ms → length front ≡ s.taken → y.answers ≡ front ++ values (filter_map (answer_read parts x) ms)
        → AreMoves parts y s ms × (filter_map (answer_read parts y) ms ≡ filter_map (answer_read parts x) ms)
    same_moves s [] front h long is = (tt, refl)
    same_moves s (m ∷ ms) front h long is =
        let number = m.source.taken in
        let source : number ≡ s.taken = ap (λ (t : State). t.taken) h.0 in
        let own = values (option_to_list (answer_along parts x m.edge number)) in
        let back = values (filter_map (answer_read parts x) ms) in
        let split : y.answers ≡ front ++ (own ++ back) = is ∙ ap (λ vs. front ++ vs) (values_cons (answer_along parts x m.edge number) (filter_map (answer_read parts x) ms)) in
        let alike : ReadsAlike parts x y m.edge number = alike_from m.edge number front back (long ∙ sym source) split in
        let here : ReadsAlike parts x y m.edge s.taken = subst (ReadsAlike parts x y m.edge) source alike in
        let goes = next_goes parts x y s m.target m.edge here h.1 in
        let read = read_on m.edge number (slice_get parts.edges m.edge) refl alike in
        let taken : m.target.taken ≡ s.taken + length (option_to_list (answer_along parts x m.edge s.taken)) = next_takes parts x s m.edge m.target h.1 in
        let count : length own ≡ length (option_to_list (answer_along parts x m.edge s.taken)) = length-map (option_to_list (answer_along parts x m.edge number)) (λ (a : Taken). a.1) ∙ ap (λ n. length (option_to_list (answer_along parts x m.edge n))) source in
        let more : length (front ++ own) ≡ m.target.taken = omega (arith, length-append front own, long, count, taken) in
        let rest = same_moves m.target ms (front ++ own) h.2 more (split ∙ sym (append_assoc front own back)) in
        ((h.0, goes, rest.0), cons_alike _ _ _ _ read rest.1)

-- ---- runs

module _ (parts : GraphParts) (graph : IsGraph parts) (f : Function) (p : Predicates) (ends : Ends) (x : Input) (r : Run) (h : IsRun parts f x ends r) (words : List ℕ)
    (alike : fitted_words words f.parameters ≡ fitted_words x.words f.parameters) where
  -- the input with other words that are alike, and the answers that the run reads
  abbrev pub reworded : Input
  reworded = record { words = words; answers = values (record_of parts x p r).taken }

  same_start : start_of parts f x.words ≡ start_of parts f words
  same_start = ap (λ (fit : List ℕ). record {
    node = f.entry;
    frames = first_frame parts ∷ [];
    cells = first_globals parts ++ frame_cells f fit;
    taken = 0;
  }) (sym alike)

  nothing_taken : 0 ≡ r.first.taken
  nothing_taken = sym (ap (λ (s : State). s.taken) h.begins.start)

  both : AreMoves parts reworded r.first r.moves × (filter_map (answer_read parts reworded) r.moves ≡ filter_map (answer_read parts x) r.moves)
  both = same_moves parts graph x reworded r.first r.moves [] h.begins.moves nothing_taken refl

  same_end : next parts reworded (last_in r) ≡ next parts x (last_in r)
  same_end = next_stops parts x reworded (last_in r) (counted_over ends (next parts x (last_in r)) h.counted)

  pub reworded_run : IsRun parts f reworded ends r
  reworded_run = runs_by_ends parts f reworded ends r (record { start = h.begins.start ∙ same_start; moves = both.0 }) (subst (λ n. IsTrue (counts ends n)) (sym same_end) h.counted)

  pub reworded_record : record_of parts reworded p r ≡ record_of parts x p r
  reworded_record = λ i. record {
    nodes = map (λ (s : State). s.node) (states_of r.first r.moves);
    edges = map (λ (m : Move). m.edge) r.moves;
    masks = map (mask_of parts p) (states_of r.first r.moves);
    taken = both.1 i;
    end = end_at (same_end i);
  }

module _ (parts : GraphParts) (graph : IsGraph parts) (f : Function) (p : Predicates) (ends : Ends) (x : Input) (r : Run) (h : IsRun parts f x ends r) where
  -- the input with the answers that the run reads
  abbrev pub trimmed : Input
  trimmed = reworded parts graph f p ends x r h x.words refl

  pub trimmed_run : IsRun parts f trimmed ends r
  trimmed_run = reworded_run parts graph f p ends x r h x.words refl

  pub trimmed_record : record_of parts trimmed p r ≡ record_of parts x p r
  trimmed_record = reworded_record parts graph f p ends x r h x.words refl
