use Rattle.std.proofs.Common.{◌≡◌, ◌∙◌, sym, subst, true, false, Ok, Err, refl}
use Rattle.std.specs.Prelude.{IfOk, IfErr}
use Rattle.std.specs.Str.{bytes_eq}
use Rattle.fq_core.specs.Refusals.{IfRefused}
use Rattle.trace_file.specs.Form.{Form, form_of, lines_from, title}
use Rattle.trace_file.specs.Reading.{IsOtherForm}
use Rattle.trace_file.proofs.FormLaws.{form_more, other_form, split}
use Rattle.trace_file.proofs.form.form_of.Goals as goal

pub returns-then-is_text-clause-ok : goal.returns-then-is_text-clause-ok
returns-then-is_text-clause-ok c =
    let titled : bytes_eq c.in-Some.first.now title ≡ true = sym c.is_text.ensures ∙ c.if-is_text.true in
    let is : form_of c.args.parameters c.args.bytes.now ≡ lines_from c.args.parameters 2 (split c.in-Some.rest.now) = form_more c.args.parameters c.args.bytes.now c.in-Some.first.now c.in-Some.rest.now c.in-Some.ensures.lines ∙ rw titled refl in
    subst (λ (form : Form). IfOk c.lines_in.result (λ lines. form ≡ Ok lines.items)) (sym is) c.lines_in.ensures.ok

pub returns-then-is_text-clause-refused : goal.returns-then-is_text-clause-refused
returns-then-is_text-clause-refused c =
    let titled : bytes_eq c.in-Some.first.now title ≡ true = sym c.is_text.ensures ∙ c.if-is_text.true in
    let is : form_of c.args.parameters c.args.bytes.now ≡ lines_from c.args.parameters 2 (split c.in-Some.rest.now) = form_more c.args.parameters c.args.bytes.now c.in-Some.first.now c.in-Some.rest.now c.in-Some.ensures.lines ∙ rw titled refl in
    subst (λ (form : Form). IfErr c.lines_in.result (λ answer. IfRefused answer (IsOtherForm form))) (sym is) c.lines_in.ensures.refused

pub returns-else-is_text-clause-refused : goal.returns-else-is_text-clause-refused
returns-else-is_text-clause-refused c =
    let untitled : bytes_eq c.in-Some.first.now title ≡ false = sym c.is_text.ensures ∙ c.if-is_text.false in
    let is : form_of c.args.parameters c.args.bytes.now ≡ Err 1 = form_more c.args.parameters c.args.bytes.now c.in-Some.first.now c.in-Some.rest.now c.in-Some.ensures.lines ∙ rw untitled refl in
    other_form (form_of c.args.parameters c.args.bytes.now) 1 c.refused_at-else-is_text.result is c.refused_at-else-is_text.ensures
