use Rattle.std.proofs.Common.{◌≡◌, refl, ◌+◌, ◌-◌, ◌*◌, length, take, drop, sym, ap, subst, ◌∙◌}
use Rattle.unwinder.specs.input_words.Worlds.{total_width}
use Rattle.goal_formula.specs.Parts.{AreInputVariables}
use Rattle.goal_formula.proofs.InputBits.{count_is}
use Rattle.goal_formula.proofs.Rooted.{all_rows, rooted}
use Rattle.goal_formula.proofs.encoding.literal_formula.Goals as goal

pub returns : goal.returns
returns c =
    let gates = c.args.circuit.now in
    let parameters = c.args.parameters.now in
    let form = c.in_ok-form.ensures in
    let variable = c.in_ok-form.form.variable in
    let bits = c.in_ok-bits.bits.items in
    let inputs : AreInputVariables gates variable (length gates) bits = subst (λ vs. AreInputVariables gates vs (length gates) bits) c.deref.ensures c.in_ok-bits.ensures in
    let long : length bits ≡ total_width parameters + 64 * c.args.answers = count_is gates variable bits inputs ∙ c.requires.inputs in
    let count = c.len.ensures ∙ sym c.deref-3.ensures.len ∙ ap length c.deref-3.ensures.value in
    let all = all_rows bits c.in_ok-words.words c.in_ok-answers.answers (total_width parameters) c.args.answers (length bits - 64 * c.args.answers) long refl
    (c.in_ok-words.ensures.bits ∙ ap (take (total_width parameters)) c.deref-2.ensures.value)
    (c.in_ok-answers.ensures.bits ∙ (λ i. take (64 * c.args.answers) (drop (count i - 64 * c.args.answers) (c.deref-3.ensures.value i)))) in
    rooted gates c.args.literal parameters c.args.answers variable bits (record { formula = c.in_ok-form.form.formula; variable = c.in_ok-form.form.variable; words = c.in_ok-words.words; answers = c.in_ok-answers.answers })
    inputs all (record { words = c.in_ok-words.ensures.widths; answers_are = c.in_ok-answers.ensures.widths }) c.requires.inputs form.wires form.cone form.numbers refl form.world form.determined form.sound form.assignment form.complete
    c.requires.literal c.requires.few form.clauses form.few_variables form.over form.few_clauses
