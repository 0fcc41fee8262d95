use Rattle.std.proofs.Common.{◌≡◌, true, false, List, ℕ, refl, sym, ◌∙◌, Bor, map}
use Rattle.std.specs.List.{list_any}
use Rattle.input_text.proofs.LineLaws.{list_any-map}
use Rattle.fq_core.specs.Word.{word_of_text}
use Rattle.input_text.specs.Lines.{is_no_number}
use Rattle.input_text.proofs.lines.misfit.Goals as goal

pub returns-then-any_is_no_number : goal.returns-then-any_is_no_number
returns-then-any_is_no_number c =
    let some : list_any (λ text. is_no_number (word_of_text text)) (map (λ text. text.now) c.args.texts.now) ≡ true =
    list_any-map (λ (text : List ℕ). is_no_number (word_of_text text)) (λ (text : Bor (List ℕ)). text.now) c.args.texts.now
    ∙ sym c.any_is_no_number.ensures ∙ c.if-any_is_no_number.true in
    rw some refl

pub returns-else-any_is_no_number : goal.returns-else-any_is_no_number
returns-else-any_is_no_number c =
    let none : list_any (λ text. is_no_number (word_of_text text)) (map (λ text. text.now) c.args.texts.now) ≡ false =
    list_any-map (λ (text : List ℕ). is_no_number (word_of_text text)) (λ (text : Bor (List ℕ)). text.now) c.args.texts.now
    ∙ sym c.any_is_no_number.ensures ∙ c.if-any_is_no_number.false in
    rw none refl
