-- Laws of the form of a trace file, line by line.
use Rattle.std.proofs.Common.{◌≡◌, ℕ, ◌+◌, ◌<◌, ◌≤◌, Bool, true, false, cond, List, [], ◌∷◌, ◌++◌, length, refl, sym, ◌∙◌, ap, arith, append_assoc, append-nil}
use Rattle.std.specs.Prelude.{◌==◌, None, Some, Ok, Err}
use Rattle.std.specs.List.{onto_first, slice_split}
use Rattle.std.specs.Str.{bytes_eq}
use Rattle.fq_core.specs.declared.refusal.Fault.{Fault}
use Rattle.fq_core.specs.declared.refusal.Fault.TheVariants as fault
use Rattle.fq_core.specs.Refusals.{IfRefused}
use Rattle.trace_file.specs.declared.line.Line.{Line}
use Rattle.trace_file.specs.Form.{Form, ended, form_of, line_before, line_in, lines_from, title, titled}
use Rattle.trace_file.specs.Reading.{IsOtherForm, line_place, refused_at}

-- the lines of a text, and what stands after the last line feed
abbrev pub split : List ℕ → List (List ℕ)
split text = slice_split (λ byte. byte == 10) text

-- there is one part at least
record HasPart (parts : List (List ℕ)) : Type 0 where
  first : List ℕ
  more : List (List ℕ)
  is : parts ≡ first ∷ more

onto_part : (byte : ℕ) (parts : List (List ℕ)) → HasPart (onto_first byte parts)
onto_part byte [] = record { first = byte ∷ []; more = []; is = refl }
onto_part byte (part ∷ parts) = record { first = byte ∷ part; more = parts; is = refl }

has_part : (text : List ℕ) → HasPart (split text)
has_part [] = record { first = []; more = []; is = refl }
has_part (byte ∷ text) = by (byte == 10)
  where
    by : (b : Bool) → HasPart (cond b ([] ∷ split text) (onto_first byte (split text)))
    by true = record { first = []; more = split text; is = refl }
    by false = onto_part byte (split text)

module _ (parameters : ℕ) where
  -- a line that ends with a line feed
  pub line_more : (number : ℕ) (line rest : List ℕ) → lines_from parameters number (line ∷ split rest) ≡ line_before number (line_in parameters line) (lines_from parameters (number + 1) (split rest))
  line_more number line rest = by (split rest) (has_part rest)
    where
      by : (parts : List (List ℕ)) → HasPart parts → lines_from parameters number (line ∷ parts) ≡ line_before number (line_in parameters line) (lines_from parameters (number + 1) parts)
      by parts h = rw h.is refl

  pub title_more : (first rest : List ℕ) → titled parameters (first ∷ split rest) ≡ cond (bytes_eq first title) (lines_from parameters 2 (split rest)) (Err 1)
  title_more first rest = by (split rest) (has_part rest)
    where
      by : (parts : List (List ℕ)) → HasPart parts → titled parameters (first ∷ parts) ≡ cond (bytes_eq first title) (lines_from parameters 2 parts) (Err 1)
      by parts h = rw h.is refl

  pub form_more : (bytes first rest : List ℕ) → split bytes ≡ first ∷ split rest → form_of parameters bytes ≡ cond (bytes_eq first title) (lines_from parameters 2 (split rest)) (Err 1)
  form_more bytes first rest is = ap (titled parameters) is ∙ title_more first rest

-- these lines, and then those
abbrev pub after : List Line → Form → Form
after lines (Ok more) = Ok (lines ++ more)
after lines (Err number) = Err number

pub after_more : (number : ℕ) (lines : List Line) (line : Line) (form : Form) → after lines (line_before number (Some line) form) ≡ after (lines ++ line ∷ []) form
after_more number lines line (Ok more) = ap Ok (sym (append_assoc lines (line ∷ []) more))
after_more number lines line (Err other) = refl

-- a line that doesn't end with a line feed
pub open_line : (number : ℕ) (text : List ℕ) → 0 < length text → ended number text ≡ Err number
open_line number [] some = absurd (omega arith)
open_line number (byte ∷ text) some = refl

-- ---- how the reading of lines ends

pub other_form : (form : Form) (number : ℕ) (answer : Fault) → form ≡ Err number → answer ≡ fault.Refused (refused_at 55 (line_place number)) → IfRefused answer (IsOtherForm form)
other_form form number answer is refused = rw (refused, is) refl

module _ (parameters : ℕ) (lines : List Line) (whole : Form) (rest : List ℕ) (number : ℕ) (so_far : whole ≡ after lines (lines_from parameters number (split rest))) where
  pub open_here : 0 < length rest → split rest ≡ rest ∷ [] → whole ≡ Err number
  open_here some is = so_far ∙ ap (λ parts. after lines (lines_from parameters number parts)) is ∙ ap (after lines) (open_line number rest some)

  module _ (line more : List ℕ) (is : split rest ≡ line ∷ split more) where
    next_is : whole ≡ after lines (line_before number (line_in parameters line) (lines_from parameters (number + 1) (split more)))
    next_is = so_far ∙ ap (λ parts. after lines (lines_from parameters number parts)) is ∙ ap (after lines) (line_more parameters number line more)

    pub other_here : None ≡ line_in parameters line → whole ≡ Err number
    other_here none = next_is ∙ ap (λ o. after lines (line_before number o (lines_from parameters (number + 1) (split more)))) (sym none)

    pub line_here : (l : Line) (next : ℕ) → Some l ≡ line_in parameters line → next ≡ number + 1 → whole ≡ after (lines ++ l ∷ []) (lines_from parameters next (split more))
    line_here l next some at =
        next_is ∙ ap (λ o. after lines (line_before number o (lines_from parameters (number + 1) (split more)))) (sym some)
        ∙ after_more number lines l (lines_from parameters (number + 1) (split more))
        ∙ ap (λ n. after (lines ++ l ∷ []) (lines_from parameters n (split more))) (sym at)

  pub all_read : length rest ≤ 0 → whole ≡ Ok lines
  all_read none = by rest so_far none
    where
      by : (text : List ℕ) → whole ≡ after lines (lines_from parameters number (split text)) → length text ≤ 0 → whole ≡ Ok lines
      by [] is none = is ∙ ap Ok (append-nil lines)
      by (byte ∷ text) is none = absurd (omega arith)
