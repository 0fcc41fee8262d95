-- A line that is written is read again.
use Rattle.std.proofs.Common.{◌≡◌, ℕ, ◌<◌, ◌^◌, Bool, true, false, List, [], ◌∷◌, ◌++◌, length, map, Some, None, refl, sym, ap, ◌∙◌, All, suc, append_assoc, append-nil, arith}
use Rattle.std.specs.Prelude.{◌==◌, Option, codes}
use Rattle.std.specs.Fmt.{decimal, signed_decimal}
use Rattle.std.specs.List.{flat_map, list_all}
use Rattle.std.specs.Str.{bytes_eq}
use Rattle.std.proofs.lemmas.Bool.Decides.{Decides-eqb}
use Rattle.std.proofs.lemmas.List.Concat.{flat_map-append}
use Rattle.std.proofs.lemmas.List.Elements.{All-append, All-cons, All-head, All-nil, All-tail}
use Rattle.std.proofs.lemmas.List.Splits.{slice_split_at, slice_split_none}
use Rattle.std.proofs.lemmas.Slice.Eq.{bytes_eq-Decides}
use Rattle.containers.specs.Lists.{before}
use Rattle.c_meaning.specs.Starts.{fitted, fitted_words}
use Rattle.c_values.specs.Kind.{IsValue, is_kind, number_of}
use Rattle.c_values.specs.declared.kinds.Kind.{Kind}
use Rattle.c_values.proofs.Fitting.{and_left, and_right}
use Rattle.suite.proofs.Trimming.{values}
use Rattle.trace_file.specs.declared.line.Line.{Line}
use Rattle.trace_file.specs.declared.trace.Trace.{Trace}
use Rattle.trace_file.specs.Form.{answers_in, arguments_in, edge_in, edges_of, input_cut, input_from, input_in, input_with, line_cut, line_from, line_in, line_of_parts, line_with, parts_of, word_in, words_in}
use Rattle.trace_file.specs.Written.{answers_text, arguments_text, edges_text, spaced_value, trace_line}
use Rattle.trace_file.proofs.NumberLaws.{IsWritten, Lacks, lacks_by, decimal_lacks, edge_in-decimal, value_written}
use Rattle.trace_file.proofs.PartLaws.{IsOther, cut_here, cut_nowhere}
use Rattle.trace_file.proofs.SameRuns.{AreKinds, fitted_value, value_small}

-- the answers are values of their kinds
abbrev pub AreValues : List (Kind × ℕ) → Type 0
AreValues taken = All (λ (answer : Kind × ℕ). IsValue answer.0 answer.1) taken

-- the edges are numbers of 32 bits
abbrev pub AreSmall : List ℕ → Type 0
AreSmall edges = All (λ edge. edge < 2 ^ 32) edges

-- ---- parts, each after a space

abbrev pub spaced : List (List ℕ) → List ℕ
spaced parts = flat_map (λ part. 32 ∷ part) parts

abbrev Whole : List ℕ → Type 0
Whole part = All (Lacks 32) part

-- ---- the texts of a line

abbrev value_text : Kind → ℕ → List ℕ
value_text kind value = signed_decimal (number_of kind value)

abbrev argument_texts : List ℕ → List Kind → List (List ℕ)
argument_texts [] kinds = []
argument_texts (word ∷ words) [] = []
argument_texts (word ∷ words) (kind ∷ kinds) = value_text kind (fitted kind word) ∷ argument_texts words kinds

abbrev taken_texts : List (Kind × ℕ) → List (List ℕ)
taken_texts taken = map (λ (answer : Kind × ℕ). value_text answer.0 answer.1) taken

abbrev answer_parts : List (Kind × ℕ) → List (List ℕ)
answer_parts [] = []
answer_parts (first ∷ rest) = codes "answers" ∷ taken_texts (first ∷ rest)

abbrev front_parts : List ℕ → List Kind → List (Kind × ℕ) → List (List ℕ)
front_parts words kinds taken = codes "args" ∷ (argument_texts words kinds ++ answer_parts taken)

abbrev back_parts : List ℕ → List (List ℕ)
back_parts edges = map decimal edges

arguments_spaced : (words : List ℕ) (kinds : List Kind) → arguments_text words kinds ≡ spaced (argument_texts words kinds)
arguments_spaced [] kinds = refl
arguments_spaced (word ∷ words) [] = refl
arguments_spaced (word ∷ words) (kind ∷ kinds) = ap (λ rest. spaced_value kind (fitted kind word) ++ rest) (arguments_spaced words kinds)

taken_spaced : (taken : List (Kind × ℕ)) → flat_map (λ (answer : Kind × ℕ). spaced_value answer.0 answer.1) taken ≡ spaced (taken_texts taken)
taken_spaced [] = refl
taken_spaced (answer ∷ taken) = ap (λ rest. spaced_value answer.0 answer.1 ++ rest) (taken_spaced taken)

answers_spaced : (taken : List (Kind × ℕ)) → answers_text taken ≡ spaced (answer_parts taken)
answers_spaced [] = refl
answers_spaced (first ∷ rest) = ap (λ more. codes " answers" ++ more) (taken_spaced (first ∷ rest))

edges_spaced : (edges : List ℕ) → edges_text edges ≡ spaced (back_parts edges)
edges_spaced [] = refl
edges_spaced (edge ∷ edges) = ap (λ rest. (codes " " ++ decimal edge) ++ rest) (edges_spaced edges)

-- a line of these, without its line feed
abbrev pub line_text : List ℕ → List Kind → List (Kind × ℕ) → List ℕ → List ℕ
line_text words kinds taken edges = codes "args" ++ spaced ((argument_texts words kinds ++ answer_parts taken) ++ codes "edges" ∷ back_parts edges)

regrouped : (front a b e : List ℕ) → (((front ++ a) ++ b) ++ codes " edges") ++ e ≡ front ++ ((a ++ b) ++ (codes " edges" ++ e))
regrouped front a b e = simp append_assoc

line_is : (words : List ℕ) (kinds : List Kind) (taken : List (Kind × ℕ)) (edges : List ℕ)
    → (((codes "args" ++ arguments_text words kinds) ++ answers_text taken) ++ codes " edges") ++ edges_text edges ≡ line_text words kinds taken edges
line_is words kinds taken edges =
    rw (arguments_spaced words kinds, answers_spaced taken, edges_spaced edges)
    (regrouped (codes "args") (spaced (argument_texts words kinds)) (spaced (answer_parts taken)) (spaced (back_parts edges))
    ∙ ap (λ rest. codes "args" ++ rest) (sym (flat_map-append (λ part. 32 ∷ part) (argument_texts words kinds ++ answer_parts taken) (codes "edges" ∷ back_parts edges)
    ∙ ap (λ more. more ++ spaced (codes "edges" ∷ back_parts edges)) (flat_map-append (λ part. 32 ∷ part) (argument_texts words kinds) (answer_parts taken)))))

pub trace_line_is : (kinds : List Kind) (trace : Trace) (rest : List ℕ) → trace_line kinds trace ++ rest ≡ line_text trace.input.words kinds trace.run.taken trace.run.edges ++ 10 ∷ rest
trace_line_is kinds trace rest =
    append_assoc ((((codes "args" ++ arguments_text trace.input.words kinds) ++ answers_text trace.run.taken) ++ codes " edges") ++ edges_text trace.run.edges) (codes "\n") rest
    ∙ ap (λ text. text ++ 10 ∷ rest) (line_is trace.input.words kinds trace.run.taken trace.run.edges)

-- ---- parts without a byte

module _ (mark : ℕ) where
  All-flat : (parts : List (List ℕ)) → Lacks mark 32 → All (All (Lacks mark)) parts → All (Lacks mark) (spaced parts)
  All-flat [] here each = All-nil (Lacks mark)
  All-flat (part ∷ parts) here each =
      All-append (Lacks mark) (32 ∷ part) (spaced parts) (All-cons (Lacks mark) 32 part here (All-head (All (Lacks mark)) part parts each)) (All-flat parts here (All-tail (All (Lacks mark)) part parts each))

parts_spaced : (first : List ℕ) (parts : List (List ℕ)) → Whole first → All Whole parts → parts_of (first ++ spaced parts) ≡ first ∷ parts
parts_spaced first [] own each = ap parts_of (append-nil first) ∙ slice_split_none (λ byte. byte == 32) first own
parts_spaced first (part ∷ parts) own each =
    slice_split_at (λ byte. byte == 32) first 32 (part ++ spaced parts) own refl
    ∙ ap (λ rest. first ∷ rest) (parts_spaced part parts (All-head Whole part parts each) (All-tail Whole part parts each))

-- ---- the parts of a line are read

-- a text that writes a number is none of these words
reads_other : (mark text : List ℕ) (value : ℕ) → word_in mark ≡ None → word_in text ≡ Some value → IsOther mark text
reads_other mark text value none some = by (bytes_eq text mark) refl
  where
    by : (b : Bool) → bytes_eq text mark ≡ b → b ≡ false
    by false is = refl
    by true is = let same : text ≡ mark = (bytes_eq-Decides text mark).0 is in let no : Some value ≡ None = sym some ∙ ap word_in same ∙ none in cc

there_cons : (x : ℕ) (o : Option ℕ) (rest : Option (List ℕ)) (xs : List ℕ) → o ≡ Some x → rest ≡ Some xs → before o rest ≡ Some (x ∷ xs)
there_cons x o rest xs e f = rw (e, f) refl

-- these are numbers, which are written so
pub record AreWritten (numbers : List ℕ) (texts : List (List ℕ)) : Type 0 where
  pub reads : words_in texts ≡ Some numbers
  pub others : (mark : List ℕ) → word_in mark ≡ None → All (IsOther mark) texts
  pub lacks : (mark : ℕ) (low : mark < 45) → All (All (Lacks mark)) texts

none_written : AreWritten [] []
none_written = record { reads = refl; others = λ mark none. All-nil (IsOther mark); lacks = λ mark low. All-nil (All (Lacks mark)) }

one_written : (number : ℕ) (text : List ℕ) (numbers : List ℕ) (texts : List (List ℕ)) → IsWritten number text → AreWritten numbers texts → AreWritten (number ∷ numbers) (text ∷ texts)
one_written number text numbers texts here there = record {
  reads = there_cons number (word_in text) (words_in texts) numbers here.reads there.reads;
  others = λ mark none. All-cons (IsOther mark) text texts (reads_other mark text number none here.reads) (there.others mark none);
  lacks = λ mark low. All-cons (All (Lacks mark)) text texts (here.lacks mark low) (there.lacks mark low);
}

arguments_written : (words : List ℕ) (kinds : List Kind) → length words ≡ length kinds → AreKinds kinds → AreWritten (fitted_words words kinds) (argument_texts words kinds)
arguments_written [] kinds same own = none_written
arguments_written (word ∷ words) [] same own = none_written
arguments_written (word ∷ words) (kind ∷ kinds) same own =
    let value = fitted_value kind word (and_left (is_kind kind) (list_all is_kind kinds) own) in
    one_written (fitted kind word) (value_text kind (fitted kind word)) (fitted_words words kinds) (argument_texts words kinds) (value_written kind (fitted kind word) (value_small kind (fitted kind word) value))
    (arguments_written words kinds (omega (arith, same)) (and_right (is_kind kind) (list_all is_kind kinds) own))

argument_count : (words : List ℕ) (kinds : List Kind) → length words ≡ length kinds → length (argument_texts words kinds) ≡ length kinds
argument_count [] kinds same = same
argument_count (word ∷ words) [] same = absurd (omega (arith, same))
argument_count (word ∷ words) (kind ∷ kinds) same = ap suc (argument_count words kinds (omega (arith, same)))

taken_written : (taken : List (Kind × ℕ)) → AreValues taken → AreWritten (values taken) (taken_texts taken)
taken_written [] own = none_written
taken_written (answer ∷ taken) own =
    let here = All-head (λ (a : Kind × ℕ). IsValue a.0 a.1) answer taken own in
    one_written answer.1 (value_text answer.0 answer.1) (values taken) (taken_texts taken) (value_written answer.0 answer.1 (value_small answer.0 answer.1 here))
    (taken_written taken (All-tail (λ (a : Kind × ℕ). IsValue a.0 a.1) answer taken own))

edges_written : (edges : List ℕ) → AreSmall edges → edges_of (back_parts edges) ≡ Some edges
edges_written [] own = refl
edges_written (edge ∷ edges) own =
    there_cons edge (edge_in (decimal edge)) (edges_of (back_parts edges)) edges (edge_in-decimal edge (All-head (λ e. e < 2 ^ 32) edge edges own)) (edges_written edges (All-tail (λ e. e < 2 ^ 32) edge edges own))

edges_lack : (mark : ℕ) (low : mark < 45) (edges : List ℕ) → AreSmall edges → All (All (Lacks mark)) (back_parts edges)
edges_lack mark low [] own = All-nil (All (Lacks mark))
edges_lack mark low (edge ∷ edges) own =
    let small : edge < 2 ^ 32 = All-head (λ e. e < 2 ^ 32) edge edges own in
    All-cons (All (Lacks mark)) (decimal edge) (back_parts edges) (decimal_lacks mark low edge (omega arith)) (edges_lack mark low edges (All-tail (λ e. e < 2 ^ 32) edge edges own))

-- ---- the line

module _ (words : List ℕ) (kinds : List Kind) (taken : List (Kind × ℕ)) (edges : List ℕ)
    (same : length words ≡ length kinds) (own : AreKinds kinds) (answers : AreValues taken) (small : AreSmall edges) where
  args : AreWritten (fitted_words words kinds) (argument_texts words kinds)
  args = arguments_written words kinds same own

  args_read : arguments_in (length kinds) (codes "args" ∷ argument_texts words kinds) ≡ Some (fitted_words words kinds)
  args_read = rw ((Decides-eqb (length (argument_texts words kinds)) (length kinds)).1 (argument_count words kinds same)) args.reads

  no_answers : All (IsOther (codes "answers")) (codes "args" ∷ argument_texts words kinds)
  no_answers = All-cons (IsOther (codes "answers")) (codes "args") (argument_texts words kinds) refl (args.others (codes "answers") refl)

  input_read : (taken : List (Kind × ℕ)) → AreValues taken
      → input_in (length kinds) (front_parts words kinds taken) ≡ Some (input_with (fitted_words words kinds) (values taken))
  input_read [] own =
      let parts : front_parts words kinds [] ≡ codes "args" ∷ argument_texts words kinds = ap (λ texts. codes "args" ∷ texts) (append-nil (argument_texts words kinds)) in
      ap (input_in (length kinds)) parts
      ∙ ap (input_cut (length kinds) (codes "args" ∷ argument_texts words kinds)) (cut_nowhere (codes "answers") (codes "args" ∷ argument_texts words kinds) no_answers)
      ∙ ap (λ o. input_from o (Some [])) args_read
  input_read (first ∷ rest) own =
      ap (input_cut (length kinds) (front_parts words kinds (first ∷ rest))) (cut_here (codes "answers") (codes "args" ∷ argument_texts words kinds) (codes "answers") (taken_texts (first ∷ rest)) no_answers refl)
      ∙ ap (λ o. input_from o (answers_in (taken_texts (first ∷ rest)))) args_read
      ∙ ap (input_from (Some (fitted_words words kinds))) (taken_written (first ∷ rest) own).reads

  answers_others : (taken : List (Kind × ℕ)) → AreValues taken → All (IsOther (codes "edges")) (answer_parts taken)
  answers_others [] own = All-nil (IsOther (codes "edges"))
  answers_others (first ∷ rest) own = All-cons (IsOther (codes "edges")) (codes "answers") (taken_texts (first ∷ rest)) refl ((taken_written (first ∷ rest) own).others (codes "edges") refl)

  front_others : All (IsOther (codes "edges")) (front_parts words kinds taken)
  front_others =
      All-cons (IsOther (codes "edges")) (codes "args") (argument_texts words kinds ++ answer_parts taken) refl
      (All-append (IsOther (codes "edges")) (argument_texts words kinds) (answer_parts taken) (args.others (codes "edges") refl) (answers_others taken answers))

  -- what the line says
  abbrev pub written_line : Line
  written_line = line_with (input_with (fitted_words words kinds) (values taken)) edges

  parts_read : line_of_parts (length kinds) (front_parts words kinds taken ++ codes "edges" ∷ back_parts edges) ≡ Some written_line
  parts_read =
      ap (line_cut (length kinds)) (cut_here (codes "edges") (front_parts words kinds taken) (codes "edges") (back_parts edges) front_others refl)
      ∙ ap (λ o. line_from o (edges_of (back_parts edges))) (input_read taken answers)
      ∙ ap (line_from (Some (input_with (fitted_words words kinds) (values taken)))) (edges_written edges small)

  -- ---- its bytes

  module _ (mark : ℕ) (low : mark < 45) where
    answers_lack : (taken : List (Kind × ℕ)) → AreValues taken → All (Lacks mark) (codes "answers") → All (All (Lacks mark)) (answer_parts taken)
    answers_lack [] own head = All-nil (All (Lacks mark))
    answers_lack (first ∷ rest) own head = All-cons (All (Lacks mark)) (codes "answers") (taken_texts (first ∷ rest)) head ((taken_written (first ∷ rest) own).lacks mark low)

    all_lack : All (Lacks mark) (codes "answers") → All (Lacks mark) (codes "edges") → All (All (Lacks mark)) ((argument_texts words kinds ++ answer_parts taken) ++ codes "edges" ∷ back_parts edges)
    all_lack one two =
        All-append (All (Lacks mark)) (argument_texts words kinds ++ answer_parts taken) (codes "edges" ∷ back_parts edges)
        (All-append (All (Lacks mark)) (argument_texts words kinds) (answer_parts taken) (args.lacks mark low) (answers_lack taken answers one))
        (All-cons (All (Lacks mark)) (codes "edges") (back_parts edges) two (edges_lack mark low edges small))

  pub line_read : line_in (length kinds) (line_text words kinds taken edges) ≡ Some written_line
  line_read =
      ap (line_of_parts (length kinds)) (parts_spaced (codes "args") ((argument_texts words kinds ++ answer_parts taken) ++ codes "edges" ∷ back_parts edges) (lacks_by 32 (codes "args") refl) (all_lack 32 (omega arith) (lacks_by 32 (codes "answers") refl) (lacks_by 32 (codes "edges") refl)))
      ∙ parts_read

  pub no_feed : All (λ byte. (byte == 10) ≡ false) (line_text words kinds taken edges)
  no_feed =
      All-append (Lacks 10) (codes "args") (spaced ((argument_texts words kinds ++ answer_parts taken) ++ codes "edges" ∷ back_parts edges)) (lacks_by 10 (codes "args") refl)
      (All-flat 10 ((argument_texts words kinds ++ answer_parts taken) ++ codes "edges" ∷ back_parts edges) refl (all_lack 10 (omega arith) (lacks_by 10 (codes "answers") refl) (lacks_by 10 (codes "edges") refl)))
