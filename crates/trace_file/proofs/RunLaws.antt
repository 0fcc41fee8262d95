-- When the recorded path of a line's input makes the line right.
use Rattle.std.proofs.Common.{◌≡◌, ℕ, suc, ◌+◌, ◌≤◌, List, [], ◌∷◌, ◌++◌, length, refl, sym, ap, subst, ◌∙◌, arith, Some, None, All}
use Rattle.std.specs.Prelude.{IsTrue, Option}
use Rattle.std.specs.Option.{IsSomeAnd}
use Rattle.std.proofs.lemmas.List.{length-map}
use Rattle.std.specs.List.{AllZip}
use Rattle.std.proofs.lemmas.List.Elements.{All-cons, All-nil}
use Rattle.fq_core.specs.declared.refusal.Fault.{Fault}
use Rattle.fq_core.specs.declared.refusal.Fault.TheVariants as fault
use Rattle.fq_core.specs.Refusals.{IfRefused}
use Rattle.cfa.specs.declared.parts.Function.{Function}
use Rattle.cfa.specs.declared.parts.GraphParts.{GraphParts}
use Rattle.cfa.specs.declared.state.Predicates.{Predicates}
use Rattle.c_meaning.specs.declared.ends.Ends.{Ends}
use Rattle.c_meaning.specs.Runs.{Move}
use Rattle.c_meaning.specs.Starts.{start_of}
use Rattle.path_runner.specs.declared.path.PathRecord.{PathRecord}
use Rattle.path_runner.specs.Counted.{counts_end}
use Rattle.path_runner.specs.Paths.{path_of, record_of}
use Rattle.path_runner.proofs.Records.{paths_counted, runs_recorded}
use Rattle.trace_file.specs.declared.line.Line.{Line}
use Rattle.trace_file.specs.declared.trace.Trace.{Trace}
use Rattle.trace_file.specs.Reading.{HasWrongLine, IsRight, IsRunOf, IsTraceOf, line_place, refused_at}

module _ (parts : GraphParts) (p : Predicates) (ends : Ends) (line : Line) (path : PathRecord) (limit : ℕ) where
  -- the path is that of the line's input, up to the limit
  abbrev pub IsPath : Function → Type 0
  IsPath f = path ≡ path_of parts line.input p limit (start_of parts f line.input.words)

  pub right_by : (o : Option Function) → IsSomeAnd o IsPath → IsTrue (counts_end ends path.end) → path.edges ≡ line.edges → IsSomeAnd o (λ f. IsRunOf parts f ends p line path)
  right_by None is counted same = is
  right_by (Some f) is counted same =
      let found = paths_counted parts f line.input p limit ends (subst (λ (q : PathRecord). IsTrue (counts_end ends q.end)) is counted) in
      let whole : path ≡ record_of parts line.input p found.0 = is ∙ found.2 in
      record { run = found.0; is_run = found.1; edges = sym (ap (λ (q : PathRecord). q.edges) whole) ∙ same; recorded = whole }

  pub wrong_by : (o : Option Function) → IsSomeAnd o IsPath → limit ≡ length line.edges → (IsTrue (counts_end ends path.end) → path.edges ≡ line.edges → ⊥) → IsSomeAnd o (λ f. ¬ IsRight parts f ends line)
  wrong_by None is long other = is
  wrong_by (Some f) is long other = λ right.
      let moves = length-map right.run.moves (λ (m : Move). m.edge) in
      let few : length right.run.moves ≤ limit = omega (arith, moves, ap length right.edges, long) in
      let recorded = runs_recorded parts f line.input p limit ends right.run right.is_run few in
      let whole : path ≡ record_of parts line.input p right.run = is ∙ recorded.0 in
      other (subst (λ (q : PathRecord). IsTrue (counts_end ends q.end)) (sym whole) recorded.1) (ap (λ (q : PathRecord). q.edges) whole ∙ right.edges)

-- ---- the traces of lines

-- one more line, and its trace
AllZip_push : {A B : Type 0} (R : A → B → Type 0) (xs : List A) (ys : List B) (x : A) (y : B) → AllZip R xs ys → R x y → AllZip R (xs ++ x ∷ []) (ys ++ y ∷ [])
AllZip_push R [] [] x y before here = (here, tt)
AllZip_push R [] (b ∷ ys) x y before here = absurd before
AllZip_push R (a ∷ xs) [] x y before here = absurd before
AllZip_push R (a ∷ xs) (b ∷ ys) x y before here = (before.0, AllZip_push R xs ys x y before.1 here)

AllZip_length : {A B : Type 0} (R : A → B → Type 0) (xs : List A) (ys : List B) → AllZip R xs ys → length xs ≡ length ys
AllZip_length R [] [] each = refl
AllZip_length R [] (b ∷ ys) each = absurd each
AllZip_length R (a ∷ xs) [] each = absurd each
AllZip_length R (a ∷ xs) (b ∷ ys) each = ap suc (AllZip_length R xs ys each.1)

module _ (parts : GraphParts) (p : Predicates) (ends : Ends) where
  abbrev pub AreTraces : List Line → List Trace → Function → Type 0
  AreTraces lines traces f = AllZip (IsTraceOf parts f ends p) lines traces

  pub one_more : (o : Option Function) (lines : List Line) (traces : List Trace) (line : Line) (trace : Trace) → IsSomeAnd o (AreTraces lines traces)
      → IsSomeAnd o (λ f. IsRunOf parts f ends p line trace.run) → trace.input ≡ line.input → IsSomeAnd o (AreTraces (lines ++ line ∷ []) (traces ++ trace ∷ []))
  one_more None lines traces line trace before run input = before
  one_more (Some f) lines traces line trace before run input =
      AllZip_push (IsTraceOf parts f ends p) lines traces line trace before (record { input = input; run = run })

  all_right : (f : Function) (lines : List Line) (traces : List Trace) → AreTraces lines traces f → All (IsRight parts f ends) lines
  all_right f [] [] each = All-nil (IsRight parts f ends)
  all_right f [] (trace ∷ traces) each = absurd each
  all_right f (line ∷ lines) [] each = absurd each
  all_right f (line ∷ lines) (trace ∷ traces) each =
      let own = each.0.run in
      All-cons (IsRight parts f ends) line lines (record { run = own.run; is_run = own.is_run; edges = own.edges }) (all_right f lines traces each.1)

  pub first_wrong : (o : Option Function) (all before : List Line) (traces : List Trace) (line : Line) (rest : List Line) (number : ℕ) (answer : Fault) → IsSomeAnd o (AreTraces before traces)
      → IsSomeAnd o (λ f. ¬ IsRight parts f ends line) → all ≡ before ++ line ∷ rest → number ≡ length traces + 2 → answer ≡ fault.Refused (refused_at 56 (line_place number))
      → IfRefused answer (λ refusal. IsSomeAnd o (λ f. HasWrongLine parts f ends all refusal))
  first_wrong o all before traces line rest number answer each wrong is at refused = rw refused (by o each wrong)
    where
      by : (o : Option Function) → IsSomeAnd o (AreTraces before traces) → IsSomeAnd o (λ f. ¬ IsRight parts f ends line) → IsSomeAnd o (λ f. HasWrongLine parts f ends all (refused_at 56 (line_place number)))
      by None each wrong = each
      by (Some f) each wrong = record {
        before = before;
        line = line;
        rest = rest;
        all = is;
        right = all_right f before traces each;
        wrong = wrong;
        is = ap (λ n. refused_at 56 (line_place n)) (at ∙ ap (λ n. n + 2) (sym (AllZip_length (IsTraceOf parts f ends p) before traces each)));
      }
