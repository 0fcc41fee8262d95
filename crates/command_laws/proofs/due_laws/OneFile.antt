-- The bytes of a trace file determine what is read of it.
use Rattle.std.proofs.Common.{◌≡◌, ℕ, ◌+◌, All, List, [], ◌∷◌, ◌++◌, length, suc, refl, sym, ap, subst, ◌∙◌, inl, inr, arith}
use Rattle.std.specs.Prelude.{max, Ok, Err}
use Rattle.std.specs.List.{AllZip}
use Rattle.std.proofs.lemmas.List.Elements.{All-cons, All-head, All-nil, All-tail}
use Rattle.fq_core.specs.declared.refusal.Refusal.{Refusal}
use Rattle.cfa.specs.declared.parts.Function.{Function}
use Rattle.cfa.specs.declared.parts.GraphParts.{GraphParts}
use Rattle.cfa.specs.declared.state.Predicates.{Predicates}
use Rattle.c_meaning.specs.declared.ends.Ends.{Ends}
use Rattle.c_meaning.specs.declared.input.Input.{Input}
use Rattle.path_runner.specs.declared.path.PathRecord.{PathRecord}
use Rattle.trace_file.specs.declared.line.Line.{Line}
use Rattle.trace_file.specs.declared.trace.Trace.{Trace}
use Rattle.trace_file.specs.Form.{Form}
use Rattle.trace_file.specs.Reading.{IsReadAs, IsRefusedAs, IsRight, IsTraceOf, line_place, refused_at}
use Rattle.command.specs.TraceFile.{inputs_in, longest}

heads : (a b : Line) (rest more : List Line) → a ∷ rest ≡ b ∷ more → a ≡ b
heads a b rest more e = cc

tails : (a b : Line) (rest more : List Line) → a ∷ rest ≡ b ∷ more → rest ≡ more
tails a b rest more e = cc

-- what lines say of the traces: the inputs, and the most edges
abbrev inputs_of_lines : List Line → List Input
inputs_of_lines [] = []
inputs_of_lines (line ∷ lines) = line.input ∷ inputs_of_lines lines

abbrev longest_of_lines : List Line → ℕ
longest_of_lines [] = 0
longest_of_lines (line ∷ lines) = max (length line.edges) (longest_of_lines lines)

module _ (graph : GraphParts) (f : Function) (ends : Ends) where
  abbrev Right : Line → Type 0
  Right = IsRight graph f ends

  -- the first line that isn't right is one
  one_wrong : (before : List Line) (line : Line) (rest others : List Line) (other : Line) (more : List Line) → before ++ line ∷ rest ≡ others ++ other ∷ more
      → All Right before → ¬ Right line → All Right others → ¬ Right other → length before ≡ length others
  one_wrong [] line rest [] other more e a b c d = refl
  one_wrong [] line rest (o ∷ os) other more e a b c d = absurd (b (subst Right (sym (heads line o rest (os ++ other ∷ more) e)) (All-head Right o os c)))
  one_wrong (l ∷ ls) line rest [] other more e a b c d = absurd (d (subst Right (heads l other (ls ++ line ∷ rest) more e) (All-head Right l ls a)))
  one_wrong (l ∷ ls) line rest (o ∷ os) other more e a b c d =
      ap suc (one_wrong ls line rest os other more (tails l o (ls ++ line ∷ rest) (os ++ other ∷ more) e) (All-tail Right l ls a) b (All-tail Right o os c) d)

  -- a form is refused once
  pub refused_once : (form : Form) (x y : Refusal) → IsRefusedAs graph f ends form x → IsRefusedAs graph f ends form y → x ≡ y
  refused_once (Err number) x y a b = a ∙ sym b
  refused_once (Ok lines) x y (inl a) (inl b) = a.1 ∙ sym b.1
  refused_once (Ok lines) x y (inl a) (inr b) = absurd (omega (arith, a.0, b.0))
  refused_once (Ok lines) x y (inr a) (inl b) = absurd (omega (arith, a.0, b.0))
  refused_once (Ok lines) x y (inr a) (inr b) =
      let same = one_wrong a.1.before a.1.line a.1.rest b.1.before b.1.line b.1.rest (sym a.1.all ∙ b.1.all) a.1.right a.1.wrong b.1.right b.1.wrong in
      a.1.is ∙ ap (λ (n : ℕ). refused_at 56 (line_place (n + 2))) same ∙ sym b.1.is

  module _ (p : Predicates) where
    all_right : (lines : List Line) (given : List Trace) → AllZip (IsTraceOf graph f ends p) lines given → All Right lines
    all_right [] given each = All-nil Right
    all_right (line ∷ lines) [] each = absurd each
    all_right (line ∷ lines) (trace ∷ given) each =
        All-cons Right line lines (record { run = each.0.run.run; is_run = each.0.run.is_run; edges = each.0.run.edges }) (all_right lines given each.1)

    right_at : (before : List Line) (line : Line) (rest : List Line) → All Right (before ++ line ∷ rest) → Right line
    right_at [] line rest all = All-head Right line rest all
    right_at (l ∷ ls) line rest all = right_at ls line rest (All-tail Right l (ls ++ line ∷ rest) all)

    -- a form that is read isn't refused
    pub read_is_kept : (form : Form) (x : Refusal) (given : List Trace) → IsRefusedAs graph f ends form x → IsReadAs graph f ends p form given → ⊥
    read_is_kept (Err number) x given a b = b
    read_is_kept (Ok lines) x given (inl a) b = absurd (omega (arith, a.0, b.0))
    read_is_kept (Ok lines) x given (inr a) b =
        a.1.wrong (right_at a.1.before a.1.line a.1.rest (subst (All Right) a.1.all (all_right lines given b.1)))

    read_inputs : (lines : List Line) (given : List Trace) → AllZip (IsTraceOf graph f ends p) lines given → inputs_in given ≡ inputs_of_lines lines
    read_inputs [] [] each = refl
    read_inputs [] (trace ∷ given) each = absurd each
    read_inputs (line ∷ lines) [] each = absurd each
    read_inputs (line ∷ lines) (trace ∷ given) each =
        let one = each.0.input in
        let more = read_inputs lines given each.1 in
        λ i. one i ∷ more i

    read_longest : (lines : List Line) (given : List Trace) → AllZip (IsTraceOf graph f ends p) lines given → longest given ≡ longest_of_lines lines
    read_longest [] [] each = refl
    read_longest [] (trace ∷ given) each = absurd each
    read_longest (line ∷ lines) [] each = absurd each
    read_longest (line ∷ lines) (trace ∷ given) each =
        let one = ap (λ (run : PathRecord). length run.edges) each.0.run.recorded ∙ ap length each.0.run.edges in
        let more = read_longest lines given each.1 in
        λ i. max (one i) (more i)

    -- what is read of a form has one list of inputs, and is as long
    pub read_alike : (form : Form) (xs ys : List Trace) → IsReadAs graph f ends p form xs → IsReadAs graph f ends p form ys → (inputs_in xs ≡ inputs_in ys) × (longest xs ≡ longest ys)
    read_alike (Err number) xs ys a b = absurd a
    read_alike (Ok lines) xs ys a b = (read_inputs lines xs a.1 ∙ sym (read_inputs lines ys b.1), read_longest lines xs a.1 ∙ sym (read_longest lines ys b.1))
