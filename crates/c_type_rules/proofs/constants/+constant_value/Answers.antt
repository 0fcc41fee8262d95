use Rattle.std.proofs.Common.{◌≡◌, sym, ap, ◌∙◌}
use Rattle.c_type_rules.specs.Constants.{folded, both_folded, choice_folded}
use Rattle.c_type_rules.proofs.ConstantLaws.{both_folds, choice_folds}
use Rattle.c_type_rules.proofs.constants.+constant_value.Goals as goal

pub returns-in-Both : goal.returns-in-Both
returns-in-Both t c =
    let l : c.constant_value-first.result ≡ folded c.in-Both.left = c.constant_value-first.ensures ∙ ap folded c.deref-in-Both.ensures in
    let r : c.constant_value-in-Both.result ≡ folded c.in-Both.right = c.constant_value-in-Both.ensures ∙ ap folded c.deref-in-Both-2.ensures in
    c.both_folded.ensures ∙ ap (λ x. both_folded x c.constant_value-in-Both.result) l ∙ ap (both_folded (folded c.in-Both.left)) r
    ∙ sym (both_folds c.args.e.now c.in-Both.left c.in-Both.right c.in-Both.cell c.in-Both.is)

pub returns-in-Choice : goal.returns-in-Choice
returns-in-Choice t c =
    let x : c.constant_value-test.result ≡ folded c.in-Choice.test = c.constant_value-test.ensures ∙ ap folded c.deref-in-Choice.ensures in
    let y : c.constant_value-yes.result ≡ folded c.in-Choice.yes = c.constant_value-yes.ensures ∙ ap folded c.deref-in-Choice-2.ensures in
    let z : c.constant_value-in-Choice.result ≡ folded c.in-Choice.no = c.constant_value-in-Choice.ensures ∙ ap folded c.deref-in-Choice-3.ensures in
    c.choice_folded.ensures ∙ (λ i. choice_folded (x i) (y i) (z i))
    ∙ sym (choice_folds c.args.e.now c.in-Choice.test c.in-Choice.yes c.in-Choice.no c.in-Choice.cell c.in-Choice.is)
