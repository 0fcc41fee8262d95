-- From the form and the runs of a file to what it is answered with.
use Rattle.std.proofs.Common.{◌≡◌, ℕ, ◌+◌, ◌≤◌, Bool, true, false, cond, List, [], ◌∷◌, length, map, refl, sym, ◌∙◌, ap, suc, inr, All}
use Rattle.std.specs.Prelude.{◌==◌, ◌&&◌, Option, None, Some, Result, Ok, Err, IfErr, codes}
use Rattle.std.specs.List.{AllZip}
use Rattle.std.specs.Option.{IsSomeAnd}
use Rattle.std.specs.Str.{bytes_eq}
use Rattle.std.proofs.lemmas.Bool.{eqb-true}
use Rattle.std.proofs.lemmas.List.{length-map}
use Rattle.std.proofs.lemmas.List.Elements.{All-cons, All-nil}
use Rattle.containers.specs.Lists.{all_there, before}
use Rattle.fq_core.specs.declared.refusal.Fault.{Fault}
use Rattle.fq_core.specs.declared.refusal.Fault.TheVariants as fault
use Rattle.fq_core.specs.declared.refusal.Refusal.{Refusal}
use Rattle.fq_core.specs.Refusals.{IfRefused}
use Rattle.cfa.specs.declared.parts.Function.{Function}
use Rattle.cfa.specs.declared.parts.GraphParts.{GraphParts}
use Rattle.cfa.specs.declared.state.Predicates.{Predicates}
use Rattle.c_meaning.specs.declared.ends.Ends.{Ends}
use Rattle.c_meaning.specs.declared.input.Input.{Input}
use Rattle.c_meaning.specs.Starts.{CanStart}
use Rattle.trace_file.specs.declared.line.Line.{Line}
use Rattle.trace_file.specs.declared.trace.Trace.{Trace}
use Rattle.trace_file.specs.Form.{Cut, Form, answers_in, arguments_in, cut_at, edges_of, ended, form_of, input_cut, input_from, input_in, line_before, line_cut, line_from, line_in, lines_from, parts_of, title, titled, word_in, words_in}
use Rattle.trace_file.proofs.FormLaws.{split}
use Rattle.trace_file.specs.Reading.{HasWrongLine, IsFileOf, IsRefused, IsTraceOf, most_traces}

-- ---- each line has an argument for each parameter

before_length : {A : Type 0} (x : A) (rest : Option (List A)) (ys : List A) (count : ℕ) → ((zs : List A) → rest ≡ Some zs → length zs ≡ count) → before (Some x) rest ≡ Some ys → length ys ≡ suc count
before_length x None ys count there is = cc
before_length x (Some zs) ys count there is = let same : x ∷ zs ≡ ys = cc in rw (← same) (ap suc (there zs refl))

all_there_length : {A : Type 0} (xs : List (Option A)) (ys : List A) → all_there xs ≡ Some ys → length ys ≡ length xs
all_there_length [] ys is = let same : [] ≡ ys = cc in rw (← same) refl
all_there_length (None ∷ xs) ys is = cc
all_there_length (Some x ∷ xs) ys is = before_length x (all_there xs) ys (length xs) (λ zs same. all_there_length xs zs same) is

module _ (parameters : ℕ) where
  abbrev pub HasArguments : Line → Type 0
  HasArguments line = length line.input.words ≡ parameters

  second : (a b : Bool) → (a && b) ≡ true → b ≡ true
  second true b e = e
  second false b e = cc

  arguments_fit : (parts : List (List ℕ)) (words : List ℕ) → arguments_in parameters parts ≡ Some words → length words ≡ parameters
  arguments_fit [] words is = cc
  arguments_fit (first ∷ texts) words is = by _ refl is
    where
      by : (b : Bool) → (bytes_eq first (codes "args") && (length texts == parameters)) ≡ b → cond b (words_in texts) None ≡ Some words → length words ≡ parameters
      by true test there = all_there_length (map word_in texts) words there ∙ length-map texts word_in ∙ eqb-true (length texts) parameters (second (bytes_eq first (codes "args")) (length texts == parameters) test)
      by false test there = cc

  from_fits : (words answers : Option (List ℕ)) (input : Input) → ((ws : List ℕ) → words ≡ Some ws → length ws ≡ parameters) → input_from words answers ≡ Some input → length input.words ≡ parameters
  from_fits None answers input fit is = cc
  from_fits (Some ws) None input fit is = cc
  from_fits (Some ws) (Some answers) input fit is = let same : ws ≡ input.words = cc in rw (← same) (fit ws refl)

  input_fits : (parts : List (List ℕ)) (cut : Option Cut) (input : Input) → input_cut parameters parts cut ≡ Some input → length input.words ≡ parameters
  input_fits parts None input is = from_fits (arguments_in parameters parts) (Some []) input (λ ws. arguments_fit parts ws) is
  input_fits parts (Some cut) input is = from_fits (arguments_in parameters cut.0) (answers_in cut.1) input (λ ws. arguments_fit cut.0 ws) is

  made_fits : (input : Option Input) (edges : Option (List ℕ)) (line : Line) → ((i : Input) → input ≡ Some i → length i.words ≡ parameters) → line_from input edges ≡ Some line → HasArguments line
  made_fits None edges line fit is = cc
  made_fits (Some input) None line fit is = cc
  made_fits (Some input) (Some edges) line fit is = let same : input ≡ line.input = cc in rw (← same) (fit input refl)

  cut_fits : (cut : Option Cut) (line : Line) → line_cut parameters cut ≡ Some line → HasArguments line
  cut_fits None line is = cc
  cut_fits (Some cut) line is = made_fits (input_in parameters cut.0) (edges_of cut.1) line (λ i. input_fits cut.0 (cut_at (codes "answers") cut.0) i) is

  line_fits : (text : List ℕ) (line : Line) → line_in parameters text ≡ Some line → HasArguments line
  line_fits text line is = cut_fits (cut_at (codes "edges") (parts_of text)) line is

  ended_fits : (number : ℕ) (last : List ℕ) (lines : List Line) → ended number last ≡ Ok lines → All HasArguments lines
  ended_fits number [] lines is = let none : [] ≡ lines = cc in rw (← none) (All-nil HasArguments)
  ended_fits number (byte ∷ bytes) lines is = cc

  before_fits : (number : ℕ) (line : Option Line) (form : Form) (lines : List Line) → ((l : Line) → line ≡ Some l → HasArguments l) → ((more : List Line) → form ≡ Ok more → All HasArguments more)
      → line_before number line form ≡ Ok lines → All HasArguments lines
  before_fits number None form lines one rest is = cc
  before_fits number (Some line) (Err other) lines one rest is = cc
  before_fits number (Some line) (Ok more) lines one rest is =
      let same : line ∷ more ≡ lines = cc in rw (← same) (All-cons HasArguments line more (one line refl) (rest more refl))

  lines_fit : (number : ℕ) (texts : List (List ℕ)) (lines : List Line) → lines_from parameters number texts ≡ Ok lines → All HasArguments lines
  lines_fit number [] lines is = let none : [] ≡ lines = cc in rw (← none) (All-nil HasArguments)
  lines_fit number (last ∷ []) lines is = ended_fits number last lines is
  lines_fit number (line ∷ next ∷ more) lines is =
      before_fits number (line_in parameters line) (lines_from parameters (number + 1) (next ∷ more)) lines (λ l. line_fits line l) (λ ls. lines_fit (number + 1) (next ∷ more) ls) is

  titled_fits : (texts : List (List ℕ)) (lines : List Line) → titled parameters texts ≡ Ok lines → All HasArguments lines
  titled_fits [] lines is = cc
  titled_fits (last ∷ []) lines is = cc
  titled_fits (first ∷ next ∷ more) lines is = by (bytes_eq first title) is
    where
      by : (b : Bool) → cond b (lines_from parameters 2 (next ∷ more)) (Err 1) ≡ Ok lines → All HasArguments lines
      by true there = lines_fit 2 (next ∷ more) lines there
      by false there = cc

-- ---- the answer

pub refused_weaker : {T : Type 0} (r : Result T Fault) (P Q : Refusal → Type 0) → ((refusal : Refusal) → P refusal → Q refusal) → IfErr r (λ answer. IfRefused answer P) → IfErr r (λ answer. IfRefused answer Q)
refused_weaker (Ok x) P Q f h = tt
refused_weaker (Err fault.Memory) P Q f h = tt
refused_weaker (Err (fault.Refused refusal)) P Q f h = f refusal h

module _ (parts : GraphParts) (p : Predicates) (ends : Ends) (bytes : List ℕ) (parameters : ℕ) where
  abbrev pub Counts : Function → Type 0
  Counts f = parameters ≡ length f.parameters

  form_is : (f : Function) (form : Form) → Counts f → form_of parameters bytes ≡ form → form_of (length f.parameters) bytes ≡ form
  form_is f form counts is = ap (λ n. form_of n bytes) (sym counts) ∙ is

  pub can_start : (o : Option Function) (lines : List Line) → IsSomeAnd o (λ f. f.arrays ≡ []) → IsSomeAnd o Counts → form_of parameters bytes ≡ Ok lines
      → IsSomeAnd o (λ f. All (λ line. CanStart f line.input.words) lines)
  can_start None lines plain counts is = plain
  can_start (Some f) lines plain counts is = λ k d within. (titled_fits parameters (split bytes) lines is k d within ∙ counts, plain)

  pub file_is : (o : Option Function) (lines : List Line) (traces : List Trace) → IsSomeAnd o Counts → form_of parameters bytes ≡ Ok lines → length lines ≤ most_traces
      → IsSomeAnd o (λ f. AllZip (IsTraceOf parts f ends p) lines traces) → IsSomeAnd o (λ f. IsFileOf parts f ends p bytes traces)
  file_is None lines traces counts is few each = each
  file_is (Some f) lines traces counts is few each = rw (form_is f (Ok lines) counts is) (few, each)

  pub wrong_is : (o : Option Function) (lines : List Line) (refusal : Refusal) → IsSomeAnd o Counts → form_of parameters bytes ≡ Ok lines → length lines ≤ most_traces
      → IsSomeAnd o (λ f. HasWrongLine parts f ends lines refusal) → IsSomeAnd o (λ f. IsRefused parts f ends bytes refusal)
  wrong_is None lines refusal counts is few wrong = wrong
  wrong_is (Some f) lines refusal counts is few wrong = rw (form_is f (Ok lines) counts is) (inr (few, wrong))
