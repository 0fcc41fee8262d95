-- Inputs between which a run makes no difference.
use Rattle.std.proofs.Common.{◌≡◌, ℕ, List, [], ◌∷◌, ◌++◌, map, Some, Option, refl, sym, ap, subst, ◌∙◌, arith}
use Rattle.std.proofs.lemmas.Option.{same_Some}
use Rattle.std.specs.List.{cons_option}
use Rattle.std.specs.Prelude.{IsTrue, Result, Ok, Err, filter_map}
use Rattle.c_meaning.proofs.Longest.{longest_by_ends}
use Rattle.c_meaning.proofs.RunLaws.{counted_over, runs_by_ends}
use Rattle.c_meaning.specs.Runs.{AreMoves, Move, counts, last_in, states_of}
use Rattle.c_meaning.specs.Starts.{first_frame, first_globals, frame_cells}
use Rattle.c_meaning.specs.Steps.{answer_of, next}
use Rattle.c_meaning.specs.declared.input.Input.{Input}
use Rattle.c_meaning.specs.declared.stepped.Stepped.{Stepped}
use Rattle.c_meaning.specs.declared.stepped.Stepped.TheVariants.{Moved, Returned, Trapped, Blocked, TooDeep}
use Rattle.c_values.specs.declared.kinds.Kind.{Kind}
use Rattle.cfa.specs.declared.parts.GraphParts.{GraphParts}
use Rattle.cfa.specs.declared.state.State.{State}
use Rattle.measurer_hits.specs.hits.Hits.{Hits}
use Rattle.path_runner.specs.Masks.{mask_of}
use Rattle.path_runner.specs.Paths.{answer_along, answer_at, answer_by, answer_on, answer_read, end_at}
use Rattle.path_runner.specs.declared.path.PathRecord.{PathRecord}
use Rattle.path_runner.specs.declared.path.RunEnd.{RunEnd}
use Rattle.path_runner.specs.declared.path.RunEnd.TheVariants as ended
use Rattle.measurer_hits.proofs.run_laws.Leaving.{one_more, within_more}
use Rattle.measurer_hits.proofs.run_laws.Nexts.{ReadsAlike, next_goes, next_same, next_stops, same_shape, shape}
use Rattle.measurer_hits.specs.run_laws.Alike.{ReadAlike}
use Rattle.measurer_hits.specs.run_laws.Laws.{AlikeBack, AlikeBeginnings, AlikeHits, AlikeLongest, AlikeNexts, AlikeRecords, AlikeRuns, SameEdges, SameEnds, WordsStart}

abbrev Taken : Type 0
Taken = Kind × ℕ

-- ---- lists

same_head : {A : Type 0} (a b : A) (xs ys : List A) → a ∷ xs ≡ b ∷ ys → a ≡ b
same_head a b xs ys e = cc

same_tail : {A : Type 0} (a b : A) (xs ys : List A) → a ∷ xs ≡ b ∷ ys → xs ≡ ys
same_tail a b xs ys e = cc

filter_alike : (f g : Move → Option Taken) (ms : List Move) → map f ms ≡ map g ms → filter_map f ms ≡ filter_map g ms
filter_alike f g [] e = refl
filter_alike f g (m ∷ ms) e =
    let here = same_head (f m) (g m) (map f ms) (map g ms) e in
    let rest = filter_alike f g ms (same_tail (f m) (g m) (map f ms) (map g ms) e) in
    λ i. cons_option (here i) (rest i)

-- ---- what comes next

abbrev end_by : Result ℕ Stepped → RunEnd
end_by (Ok at) = ended.Cut
end_by (Err x) = end_at x

end_shape : (x : Stepped) → end_at x ≡ end_by (shape x)
end_shape (Moved at to) = refl
end_shape (Returned value) = refl
end_shape (Trapped t) = refl
end_shape Blocked = refl
end_shape TooDeep = refl

moved_shape : (x : Stepped) (at : ℕ) → shape x ≡ Ok at → (to : State) × (x ≡ Moved at to)
moved_shape (Moved k to) at e = let same : k ≡ at = cc in (to, ap (λ n. Moved n to) same)
moved_shape (Returned value) at e = absurd cc
moved_shape (Trapped t) at e = absurd cc
moved_shape Blocked at e = absurd cc
moved_shape TooDeep at e = absurd cc

pub same_ends : SameEnds
same_ends parts x y s = end_shape (next parts x s) ∙ ap end_by (same_shape parts x y s) ∙ sym (end_shape (next parts y s))

pub same_edges : SameEdges
same_edges parts x y s to at is = moved_shape (next parts y s) at (sym (same_shape parts x y s) ∙ ap shape is)

pub alike_nexts : AlikeNexts
alike_nexts parts x y s alike = next_same parts x y s alike

-- ---- moves that read alike

module _ (parts : GraphParts) (x y : Input) where
  from_read : (at number : ℕ) → answer_along parts x at number ≡ answer_along parts y at number → ReadsAlike parts x y at number
  from_read at number same e function dest g there operation own =
      let here : answer_along parts x at number ≡ Some (g.result, answer_of x g.result number) = ap (answer_on parts x number) there ∙ ap (answer_at parts x number) operation ∙ ap (answer_by x number) own in
      let other : answer_along parts y at number ≡ Some (g.result, answer_of y g.result number) = ap (answer_on parts y number) there ∙ ap (answer_at parts y number) operation ∙ ap (answer_by y number) own in
      let pair = same_Some (g.result, answer_of y g.result number) (g.result, answer_of x g.result number) (sym other ∙ sym same ∙ here) in
      ap (λ (a : Taken). a.1) pair

  moves_alike : (s : State) (ms : List Move) → AreMoves parts x s ms → ReadAlike parts x y ms → AreMoves parts y s ms
  moves_alike s [] h alike = tt
  moves_alike s (m ∷ ms) h alike =
      let here = same_head (answer_read parts x m) (answer_read parts y m) (map (answer_read parts x) ms) (map (answer_read parts y) ms) alike in
      let rest = same_tail (answer_read parts x m) (answer_read parts y m) (map (answer_read parts x) ms) (map (answer_read parts y) ms) alike in
      let source : m.source.taken ≡ s.taken = ap (λ (t : State). t.taken) h.0 in
      let reads : ReadsAlike parts x y m.edge s.taken = subst (ReadsAlike parts x y m.edge) source (from_read m.edge m.source.taken here) in
      (h.0, next_goes parts x y s m.target m.edge reads h.1, moves_alike m.target ms h.2 rest)

pub words_start : WordsStart
words_start parts entry x y alike =
    let begun : List ℕ → State = λ words. record { node = entry.entry; frames = first_frame parts ∷ []; cells = first_globals parts ++ frame_cells entry words; taken = 0 } in
    ap begun alike

pub alike_beginnings : AlikeBeginnings
alike_beginnings parts entry x y r alike h =
    record { start = h.start ∙ words_start parts entry x y alike.words; moves = moves_alike parts x y r.first r.moves h.moves alike.answers }

pub alike_records : AlikeRecords
alike_records parts entry x y p r alike =
    let taken = filter_alike (answer_read parts x) (answer_read parts y) r.moves alike.answers in
    let end = same_ends parts x y (last_in r) in
    λ i. record {
      nodes = map (λ (s : State). s.node) (states_of r.first r.moves);
      edges = map (λ (m : Move). m.edge) r.moves;
      masks = map (mask_of parts p) (states_of r.first r.moves);
      taken = taken i;
      end = end i;
    }

pub alike_runs : AlikeRuns
alike_runs parts entry x y ends r alike h =
    let same = next_stops parts x y (last_in r) (counted_over ends (next parts x (last_in r)) h.counted) in
    runs_by_ends parts entry y ends r (alike_beginnings parts entry x y r alike h.begins) (subst (λ n. IsTrue (counts ends n)) (sym same) h.counted)

pub alike_longest : AlikeLongest
alike_longest turns frames answers parts entry x y r alike h =
    longest_by_ends turns frames answers parts entry y r (alike_beginnings parts entry x y r alike h.begins) h.within
    (λ at to comes within.
    let on = same_edges parts y x (last_in r) to at comes in
    let more = one_more turns frames answers parts entry x r at on.0 h.begins on.1 in
    let all = within_more turns frames answers parts entry x r at on.0 h.begins on.1 h.within within in
    let le = h.longest more.0 more.1 all in
    absurd (omega (arith, le, more.2)))

pub alike_back : AlikeBack
alike_back parts entry x y r alike = record { words = sym alike.words; answers = sym alike.answers }

pub alike_hits : AlikeHits
alike_hits parts entry p plan ends goal x y h alike =
    let P : PathRecord → Type 0 = λ path. Hits plan ends goal path in
    record { run = h.run; is_run = alike_runs parts entry x y ends h.run alike h.is_run; hits = subst P (alike_records parts entry x y p h.run alike) h.hits }
