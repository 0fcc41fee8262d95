-- When inputs are alike for a run: by the answers that it takes.
use Rattle.std.proofs.Common.{◌≡◌, ℕ, ◌+◌, ◌<◌, ◌≤◌, List, [], ◌∷◌, ◌++◌, map, length, get_or, Some, None, Option, refl, sym, ap, subst, ◌∙◌, arith, append_assoc, length-append}
use Rattle.std.proofs.lemmas.List.{length-map}
use Rattle.std.specs.List.{AllZip, cons_option}
use Rattle.std.specs.Option.{option_to_list}
use Rattle.std.specs.Prelude.{filter_map, slice_get, slice_index}
use Rattle.c_meaning.proofs.PairLaws.{runs_walk}
use Rattle.c_meaning.specs.Pairs.{Fits, last_pair_in, pair_along, pair_along_all, pairs_along}
use Rattle.c_meaning.specs.Runs.{AreMoves, Move, edges_in, last_state, states_of}
use Rattle.c_meaning.specs.Starts.{fitted, fitted_words}
use Rattle.c_meaning.specs.Steps.{answer_of}
use Rattle.c_meaning.specs.declared.input.Input.{Input}
use Rattle.c_values.specs.declared.kinds.Kind.{Kind}
use Rattle.cfa.specs.Contexts.{Pair, first_pair}
use Rattle.cfa.specs.Graph.{IsGraph}
use Rattle.cfa.specs.declared.parts.Edge.{Edge}
use Rattle.cfa.specs.declared.parts.GraphParts.{GraphParts}
use Rattle.cfa.specs.declared.parts.InputFunction.{InputFunction}
use Rattle.cfa.specs.declared.parts.Operation.{Operation}
use Rattle.cfa.specs.declared.parts.Operation.TheVariants.{Skip, Assign, Clear, Guard, Call, Return, Answer, Assert, Assume}
use Rattle.cfa.specs.declared.state.State.{State}
use Rattle.measurer_hits.specs.hits.Hits.{Hits}
use Rattle.path_runner.specs.Paths.{answer_along, answer_at, answer_by, answer_on, answer_read}
use Rattle.measurer_hits.proofs.run_laws.Alike.{alike_beginnings, alike_longest, alike_records, alike_runs}
use Rattle.measurer_hits.proofs.run_laws.Fitting.{fitted-fitted}
use Rattle.measurer_hits.proofs.run_laws.Nexts.{next_takes}
use Rattle.measurer_hits.specs.run_laws.Alike.{AnswerAlike, ReadAlike}
use Rattle.measurer_hits.specs.run_laws.Laws.{AlikeByNumbers, AnswersAlike, FittedLongest, FittedWords, TakenAlike, TakenWithin}

abbrev Taken : Type 0
Taken = Kind × ℕ

abbrev values : List Taken → List ℕ
values taken = map (λ (answer : Taken). answer.1) taken

-- ---- by the numbers of the answers

module _ (parts : GraphParts) (x y : Input) where
  -- an answer is alike, if one is read
  abbrev IfRead : ℕ → Option Taken → Type 0
  IfRead number o = 1 ≤ length (option_to_list o) → AnswerAlike parts x y number

  by_alike : (number function : ℕ) (o : Option InputFunction) → slice_get parts.inputs function ≡ o → IfRead number (answer_by x number o) → answer_by x number o ≡ answer_by y number o
  by_alike number function None own alike = refl
  by_alike number function (Some g) own alike = ap (λ v. Some (g.result, v)) (alike (omega arith) function g own)

  at_alike : (number : ℕ) (op : Operation) → IfRead number (answer_at parts x number op) → answer_at parts x number op ≡ answer_at parts y number op
  at_alike number Skip alike = refl
  at_alike number (Assign place value) alike = refl
  at_alike number (Clear array count) alike = refl
  at_alike number (Guard test truth) alike = refl
  at_alike number (Call callee words arrays) alike = refl
  at_alike number (Return call dest) alike = refl
  at_alike number (Answer function dest) alike = by_alike number function (slice_get parts.inputs function) refl alike
  at_alike number (Assert test) alike = refl
  at_alike number (Assume test) alike = refl

  on_alike : (number : ℕ) (o : Option Edge) → IfRead number (answer_on parts x number o) → answer_on parts x number o ≡ answer_on parts y number o
  on_alike number None alike = refl
  on_alike number (Some e) alike = at_alike number e.operation alike

  -- the answers taken never become fewer
  taken_rise : (s : State) (ms : List Move) → AreMoves parts x s ms → s.taken ≤ (last_state s ms).taken
  taken_rise s [] h = omega arith
  taken_rise s (m ∷ ms) h =
      let here = next_takes parts x s m.edge m.target h.1 in
      let rest = taken_rise m.target ms h.2 in
      omega (arith, here, rest)

  read_by_numbers : (s : State) (ms : List Move) → AreMoves parts x s ms → ((n : ℕ) → n < (last_state s ms).taken → AnswerAlike parts x y n) → ReadAlike parts x y ms
  read_by_numbers s [] h alike = refl
  read_by_numbers s (m ∷ ms) h alike =
      let source : m.source.taken ≡ s.taken = ap (λ (t : State). t.taken) h.0 in
      let takes = next_takes parts x s m.edge m.target h.1 in
      let rise = taken_rise m.target ms h.2 in
      let at_s : answer_on parts x s.taken (slice_get parts.edges m.edge) ≡ answer_on parts y s.taken (slice_get parts.edges m.edge) =
      on_alike s.taken (slice_get parts.edges m.edge) (λ read. alike s.taken (omega (arith, takes, rise, read))) in
      let here : answer_read parts x m ≡ answer_read parts y m =
      subst (λ n. answer_on parts x n (slice_get parts.edges m.edge) ≡ answer_on parts y n (slice_get parts.edges m.edge)) (sym source) at_s in
      let rest = read_by_numbers m.target ms h.2 alike in
      λ i. here i ∷ rest i

pub alike_by_numbers : AlikeByNumbers
alike_by_numbers parts entry x y r h words alike = record { words = words; answers = read_by_numbers parts x y r.first r.moves h.moves alike }

pub answers_alike : AnswersAlike
answers_alike parts entry x y p r h words same =
    let alike = alike_by_numbers parts entry x y r h (ap (λ ws. fitted_words ws entry.parameters) words) (λ n lt at g own. ap (fitted g.result) (same n lt)) in
    (alike_beginnings parts entry x y r alike h, alike_records parts entry x y p r alike)

-- ---- within bounds

-- the last pair fits the last state
last_fits : (parts : GraphParts) (p : Pair) (s : State) (ms : List Move) → AllZip Fits (p ∷ pairs_along parts p (map (λ (m : Move). m.edge) ms)) (states_of s ms) → Fits (pair_along_all parts p (map (λ (m : Move). m.edge) ms)) (last_state s ms)
last_fits parts p s [] h = h.0
last_fits parts p s (m ∷ ms) h = last_fits parts (pair_along parts p m.edge) m.target ms h.1

last_there : (parts : GraphParts) (p : Pair) (edges : List ℕ) → slice_get (p ∷ pairs_along parts p edges) (length edges) ≡ Some (pair_along_all parts p edges)
last_there parts p [] = refl
last_there parts p (at ∷ edges) = last_there parts (pair_along parts p at) edges

pub taken_within : TakenWithin
taken_within turns frames answers parts k entry input r graph own can h within =
    let walk = runs_walk parts k entry input r graph own can h in
    let fits = last_fits parts (first_pair entry) r.first r.moves walk.1 in
    let last = within (length (edges_in r)) (last_pair_in parts entry r) (last_there parts (first_pair entry) (edges_in r)) in
    let taken = fits.taken in
    let few = last.answers_kept in
    omega (arith, taken, few)

pub fitted_words_alike : FittedWords
fitted_words_alike turns frames answers parts k entry p plan ends goal x y graph own can words alike h =
    let begins = h.is_run.begins in
    let few = taken_within turns frames answers parts k entry x h.run graph own can begins h.within in
    let same = alike_by_numbers parts entry x y h.run begins words (λ n lt. alike n (omega (arith, few, lt))) in
    record { run = h.run; is_run = alike_runs parts entry x y ends h.run same h.is_run; within = h.within; hits = subst (λ path. Hits plan ends goal path) (alike_records parts entry x y p h.run same) h.hits }

pub fitted_longest : FittedLongest
fitted_longest turns frames answers parts k entry x y r graph own can words alike h =
    let few = taken_within turns frames answers parts k entry x r graph own can h.begins h.within in
    let same = alike_by_numbers parts entry x y r h.begins words (λ n lt. alike n (omega (arith, few, lt))) in
    alike_longest turns frames answers parts entry x y r same h

-- ---- the answers that are read

index_behind : (front back : List ℕ) (v : ℕ) → get_or (front ++ v ∷ back) (length front) 0 ≡ v
index_behind [] back v = refl
index_behind (x ∷ front) back v = index_behind front back v

values_cons : (o : Option Taken) (rest : List Taken) → values (cons_option o rest) ≡ values (option_to_list o) ++ values rest
values_cons None rest = refl
values_cons (Some a) rest = refl

module _ (parts : GraphParts) (graph : IsGraph parts) (x y : Input) where
  -- where the answer that is read stands at its number, as a value of its kind, it is read so
  by_behind : (number function : ℕ) (o : Option InputFunction) (front back : List ℕ) → slice_get parts.inputs function ≡ o → length front ≡ number → y.answers ≡ front ++ (values (option_to_list (answer_by x number o)) ++ back) → answer_by x number o ≡ answer_by y number o
  by_behind number function None front back own long is = refl
  by_behind number function (Some g) front back own long is =
      let v = answer_of x g.result number in
      let word : slice_index y.answers number ≡ v = (λ i. slice_index (is i) (sym long i)) ∙ index_behind front back v in
      let read : answer_of y g.result number ≡ v = ap (fitted g.result) word ∙ fitted-fitted g.result (slice_index x.answers number) (graph.rest.inputs function g own) in
      ap (λ (n : ℕ). Some (g.result, n)) (sym read)

  at_behind : (number : ℕ) (op : Operation) (front back : List ℕ) → length front ≡ number → y.answers ≡ front ++ (values (option_to_list (answer_at parts x number op)) ++ back) → answer_at parts x number op ≡ answer_at parts y number op
  at_behind number Skip front back long is = refl
  at_behind number (Assign place value) front back long is = refl
  at_behind number (Clear array count) front back long is = refl
  at_behind number (Guard test truth) front back long is = refl
  at_behind number (Call callee words arrays) front back long is = refl
  at_behind number (Return call dest) front back long is = refl
  at_behind number (Answer function dest) front back long is = by_behind number function (slice_get parts.inputs function) front back refl long is
  at_behind number (Assert test) front back long is = refl
  at_behind number (Assume test) front back long is = refl

  on_behind : (number : ℕ) (o : Option Edge) (front back : List ℕ) → length front ≡ number → y.answers ≡ front ++ (values (option_to_list (answer_on parts x number o)) ++ back) → answer_on parts x number o ≡ answer_on parts y number o
  on_behind number None front back long is = refl
  on_behind number (Some e) front back long is = at_behind number e.operation front back long is

  taken_read : (s : State) (ms : List Move) (front : List ℕ) → AreMoves parts x s ms → length front ≡ s.taken → y.answers ≡ front ++ values (filter_map (answer_read parts x) ms) → ReadAlike parts x y ms
  taken_read s [] front h long is = refl
  taken_read s (m ∷ ms) front h long is =
      let number = m.source.taken in
      let source : number ≡ s.taken = ap (λ (t : State). t.taken) h.0 in
      let own = values (option_to_list (answer_along parts x m.edge number)) in
      let back = values (filter_map (answer_read parts x) ms) in
      let split : y.answers ≡ front ++ (own ++ back) = is ∙ ap (λ vs. front ++ vs) (values_cons (answer_along parts x m.edge number) (filter_map (answer_read parts x) ms)) in
      let here : answer_read parts x m ≡ answer_read parts y m = on_behind number (slice_get parts.edges m.edge) front back (long ∙ sym source) split in
      let taken : m.target.taken ≡ s.taken + length (option_to_list (answer_along parts x m.edge s.taken)) = next_takes parts x s m.edge m.target h.1 in
      let count : length own ≡ length (option_to_list (answer_along parts x m.edge s.taken)) = length-map (option_to_list (answer_along parts x m.edge number)) (λ (a : Taken). a.1) ∙ ap (λ n. length (option_to_list (answer_along parts x m.edge n))) source in
      let more : length (front ++ own) ≡ m.target.taken = omega (arith, length-append front own, long, count, taken) in
      let rest = taken_read m.target ms (front ++ own) h.2 more (split ∙ sym (append_assoc front own back)) in
      λ i. here i ∷ rest i

pub taken_alike : TakenAlike
taken_alike parts entry x y p r graph h words is =
    let none : 0 ≡ r.first.taken = sym (ap (λ (s : State). s.taken) h.start) in
    record { words = words; answers = taken_read parts graph x y r.first r.moves [] h.moves none is }
