-- Which codes a refusal of each stage has.
use Rattle.std.proofs.Common.{◌≡◌, ℕ, ◌+◌, Bool, true, false, List, [], ◌∷◌, ◌++◌, Option, Some, None, Result, Ok, Err, inl, inr, length, refl, sym, subst}
use Rattle.std.specs.Prelude.{◌==◌, ◌||◌, IfSome, IsSomeAnd, IsTrue, cond, nat_le, option_map}
use Rattle.std.specs.List.{AllByRecursion, list_any}
use Rattle.std.proofs.lemmas.Bool.Decides.{Decides-eqb}
use Rattle.fq_core.specs.declared.refusal.Fault.TheVariants as fault
use Rattle.fq_core.specs.declared.refusal.Place.{Place}
use Rattle.fq_core.specs.declared.refusal.Place.TheVariants as place
use Rattle.fq_core.specs.declared.refusal.Refusal.{Refusal}
use Rattle.c_front.specs.Codes.{RefusedByTheseCodes, text_codes}
use Rattle.cfa.specs.declared.parts.Function.{Function}
use Rattle.cfa.specs.declared.parts.GraphParts.{GraphParts}
use Rattle.c_meaning.specs.declared.ends.Ends.{Ends}
use Rattle.c_meaning.specs.declared.input.Input.{Input}
use Rattle.certificate.specs.Refusals.{IsRefusedAtLine}
use Rattle.fql_read.specs.Asks as asks
use Rattle.fql_read.specs.declared.query.Query.{Query}
use Rattle.fql_tokens.specs.Accepted as cut
use Rattle.goals.specs.Plans.{causes, first_cause}
use Rattle.input_text.specs.Inputs.{begins_array, inputs_of, inputs_of_array}
use Rattle.input_text.specs.Json.{array_of, object_parts}
use Rattle.input_text.specs.Lines.{line_parts}
use Rattle.input_text.specs.Outcome.{Outcome, after, most_inputs, numbered, refused_at}
use Rattle.input_text.specs.declared.misfit.Misfit.{Misfit}
use Rattle.input_text.specs.declared.misfit.Misfit.TheVariants as misfit
use Rattle.predicates.specs.Outcome as predicates
use Rattle.c_types_laws.specs.typing_faults.Laws.{IsOneOf}
use Rattle.trace_file.specs.Form.{Form, form_of}
use Rattle.trace_file.specs.Reading.{IsRefusedAs, line_place, most_traces}
use Rattle.trace_file.specs.Reading as reading
use Rattle.command_words.specs.Reading.{Text}
use Rattle.command.specs.CertificateFile as certificates
use Rattle.command.specs.Codes.{NoneIsUsage, RefusalsHaveTheirCodes, certificate_codes, input_codes, is_usage, query_codes, trace_codes, unread_codes}
use Rattle.command.specs.Inputs as inputs
use Rattle.command.specs.Queries as queries
use Rattle.command.specs.Reads.{Reads}
use Rattle.command.specs.Refusal.{status_of}
use Rattle.command.specs.Sources.{IsUnread, fails, is_past, most_source}
use Rattle.command.specs.TraceFile as traces

-- ---- files

unread_told : (r : Reads) (limit : ℕ) (file : List ℕ) (more : List ℕ) (x : Refusal) → IsUnread r limit file x → IsOneOf (unread_codes ++ more) x.code
unread_told r limit file more x (fails failed) = refl
unread_told r limit file more x (is_past past) = refl

-- ---- the query

abbrev Asked : ℕ → Type 0
Asked = IsOneOf query_codes

text_told : {bytes : List ℕ} {code : ℕ} {p : Place} → cut.IsRefusedText bytes code p → Asked code
text_told (cut.too_long h) = refl
text_told (cut.no_token column h k) = refl
text_told (cut.too_deep tokens h k l) = refl

asked_told : {bytes : List ℕ} {code : ℕ} {p : Place} → asks.IsRefusedQuery bytes code p → Asked code
asked_told (asks.no_tokens h) = text_told h
asked_told (asks.no_query ts h k) = refl
asked_told (asks.repeats ts q column h k l) = refl
asked_told (asks.out_of_bounds ts q column h k l m) = refl
asked_told (asks.too_many ts q h k l m n) = refl

predicates_told : {graph : GraphParts} {texts : List (List ℕ)} {code : ℕ} {p : Place} → predicates.IsRefused graph texts code p → Asked code
predicates_told (predicates.too_many h) = refl
predicates_told (predicates.unread h k) = refl
predicates_told (predicates.nowhere trees h k l) = refl

abbrev CauseTold : Option Refusal → Type 0
CauseTold cause = IfSome cause (λ x. Asked x.code)

first_told : (list : List (Option Refusal)) → AllByRecursion CauseTold list → IfSome (first_cause list) (λ x. Asked x.code)
first_told [] h = tt
first_told (None ∷ list) h = first_told list h.1
first_told (Some x ∷ list) h = h.0

mapped_told : {X : Type 0} (f : X → Refusal) → ((x : X) → Asked (f x).code) → (o : Option X) → CauseTold (option_map f o)
mapped_told f h None = tt
mapped_told f h (Some x) = h x

chosen_told : (b : Bool) (x : Refusal) → Asked x.code → CauseTold (cond b (Some x) None)
chosen_told true x h = h
chosen_told false x h = tt

other_told : (b : Bool) (x : Refusal) → Asked x.code → CauseTold (cond b None (Some x))
other_told true x h = tt
other_told false x h = h

causes_told : (graph : GraphParts) (q : Query) → AllByRecursion CauseTold (causes graph q)
causes_told graph q = (
  mapped_told _ (λ column. refl) _,
  (
    mapped_told _ (λ column. refl) _,
    (
      mapped_told _ (λ column. refl) _,
      (
        mapped_told _ (λ limit. refl) _,
        (mapped_told _ (λ limit. refl) _, (chosen_told _ _ refl, (chosen_told _ _ refl, (other_told _ _ refl, tt)))),
      ),
    ),
  ),
)

query_told : (graph : GraphParts) (bytes : List ℕ) (x : Refusal) → queries.IsRefused graph bytes x → Asked x.code
query_told graph bytes x (queries.at_query h) = asked_told h
query_told graph bytes x (queries.at_predicates q h k) = predicates_told k
query_told graph bytes x (queries.at_goals q p h k l) =
    subst (λ (o : Option Refusal). IfSome o (λ y. Asked y.code)) l (first_told (causes graph q) (causes_told graph q))

-- ---- inputs

abbrev FormTold : Outcome → Type 0
FormTold (Ok given) = Unit {0}
FormTold (Err x) = IsOneOf input_codes x.code

after_told : (given : List Input) (o : Outcome) → FormTold o → FormTold (after given o)
after_told given (Ok more) h = tt
after_told given (Err x) h = h

numbered_told : (number : ℕ) (parts : List (Result Input Misfit)) → FormTold (numbered number parts)
numbered_told number [] = tt
numbered_told number (Err misfit.Shape ∷ parts) = refl
numbered_told number (Err misfit.Range ∷ parts) = refl
numbered_told number (Ok input ∷ parts) = by (nat_le number most_inputs) (numbered_told (number + 1) parts)
  where
    by : (b : Bool) → FormTold (numbered (number + 1) parts) → FormTold (cond b (after (input ∷ []) (numbered (number + 1) parts)) (refused_at 53 (place.Limit most_inputs)))
    by true h = after_told (input ∷ []) (numbered (number + 1) parts) h
    by false h = refl

array_told : (parameters : ℕ) (bytes : List ℕ) → FormTold (inputs_of_array parameters (array_of bytes))
array_told parameters bytes =
    elim (array_of bytes) as (λ o. FormTold (inputs_of_array parameters o)) [
      | None ↦ refl
      | Some items ↦ numbered_told 1 (object_parts parameters items)
    ]

form_told : (parameters : ℕ) (bytes : List ℕ) → FormTold (inputs_of parameters bytes)
form_told parameters bytes = by (begins_array bytes)
  where
    by : (b : Bool) → FormTold (cond b (inputs_of_array parameters (array_of bytes)) (numbered 1 (line_parts parameters bytes)))
    by true = array_told parameters bytes
    by false = numbered_told 1 (line_parts parameters bytes)

inputs_told : (r : Reads) (file : Text) (parameters : ℕ) (x : Refusal) → inputs.AreRefused r file parameters x → IsOneOf input_codes x.code
inputs_told r file parameters x (inputs.at_read h) = unread_told r inputs.most_inputs file (50 ∷ 51 ∷ 52 ∷ 53 ∷ []) x h
inputs_told r file parameters x (inputs.at_form bytes seen short h) = subst FormTold h (form_told parameters bytes)

-- ---- traces

module _ (graph : GraphParts) (entry : Function) (ends : Ends) where
  trace_code : (x y : Refusal) → x ≡ y → IsOneOf trace_codes y.code → IsOneOf trace_codes x.code
  trace_code x y is told = subst (λ (z : Refusal). IsOneOf trace_codes z.code) (sym is) told

  lines_told : (form : Form) (x : Refusal) → IsRefusedAs graph entry ends form x → IsOneOf trace_codes x.code
  lines_told (Err number) x is = trace_code x (reading.refused_at 55 (line_place number)) is refl
  lines_told (Ok lines) x (inl many) = trace_code x (reading.refused_at 53 (place.Limit most_traces)) many.1 refl
  lines_told (Ok lines) x (inr wrong) = trace_code x (reading.refused_at 56 (line_place (length wrong.1.before + 2))) wrong.1.is refl

  traces_told : (r : Reads) (file : Text) (x : Refusal) → traces.AreRefused r graph entry ends file x → IsOneOf trace_codes x.code
  traces_told r file x (traces.at_read h) = unread_told r traces.most_trace_bytes file (53 ∷ 55 ∷ 56 ∷ []) x h
  traces_told r file x (traces.at_form bytes seen short h) = lines_told (form_of (length entry.parameters) bytes) x h

-- ---- certificates

line_told : (bytes : List ℕ) (x : Refusal) → IsRefusedAtLine bytes x → IsOneOf certificate_codes x.code
line_told bytes x h =
    let same : x ≡ record { code = 90; place = place.Line h.line } = refused_is x (record { code = 90; place = place.Line h.line }) h.is in
    subst (λ (y : Refusal). IsOneOf certificate_codes y.code) (sym same) refl
  where
    refused_is : (y z : Refusal) → fault.Refused y ≡ fault.Refused z → y ≡ z
    refused_is y z e = cc

certificate_told : (r : Reads) (file : Text) (x : Refusal) → certificates.IsRefused r file x → IsOneOf certificate_codes x.code
certificate_told r file x (certificates.at_read h) = unread_told r certificates.most_certificate file (90 ∷ []) x h
certificate_told r file x (certificates.at_form bytes seen short h) = line_told bytes x h

pub their_codes : RefusedByTheseCodes → RefusalsHaveTheirCodes
their_codes law = record {
  unread = λ r files x h. unread_told r most_source h.file [] x h.unread;
  sources = λ r files x h. law h.texts x.code x.place h.cause;
  query = query_told;
  inputs = inputs_told;
  traces = λ r graph entry ends. traces_told graph entry ends r;
  certificate = certificate_told;
}

-- ---- statuses

abbrev NoUsage : ℕ → Type 0
NoUsage code = IsSomeAnd (status_of code) (λ s. is_usage s ≡ false)

this_or : (P : ℕ → Type 0) (c code : ℕ) (rest b : Bool) → (c == code) ≡ b → P c → (IsTrue rest → P code) → IsTrue (b || rest) → P code
this_or P c code rest true e here there k = subst P ((Decides-eqb c code).0 e) here
this_or P c code rest false e here there k = there k

pub one_of : (P : ℕ → Type 0) (codes : List ℕ) → AllByRecursion P codes → (code : ℕ) → IsOneOf codes code → P code
one_of P [] h code k = absurd (cc)
one_of P (c ∷ codes) h code k = this_or P c code (list_any (λ (d : ℕ). d == code) codes) (c == code) refl h.0 (one_of P codes h.1 code) k

abbrev all_codes : List ℕ
all_codes = unread_codes ++ text_codes ++ query_codes ++ input_codes ++ trace_codes ++ certificate_codes

pub none_is_usage : NoneIsUsage
none_is_usage code h = one_of NoUsage all_codes statuses code h
  where
    statuses : AllByRecursion NoUsage all_codes
    statuses = (refl, (refl, (refl, (refl, (refl, (refl, (refl, (refl, (refl, (refl, (refl, (refl, (refl, (refl, (refl, (refl, (refl, (refl, (refl, (refl, (refl, (refl, (refl, (refl, (refl, (refl, (refl, (refl, (refl, (refl, (refl, (refl, (refl, (refl, (refl, (refl, (refl, (refl, (refl, (refl, (refl, (refl, (refl, (refl, (refl, (refl, (refl, (refl, tt))))))))))))))))))))))))))))))))))))))))))))))))
