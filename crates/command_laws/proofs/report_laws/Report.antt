-- The answers in a report are those of the generation.
use Rattle.std.proofs.Common.{◌≡◌, ℕ, suc, ◌+◌, ◌-◌, ◌<◌, ◌^◌, false, List, [], ◌∷◌, ◌++◌, All, length, Option, Some, refl, sym, ap, subst, ◌∙◌, append_assoc, arith, length-append}
use Rattle.std.specs.Prelude.{◌==◌, codes, slice_get}
use Rattle.std.specs.List.{AllZip, flat_map}
use Rattle.std.specs.Option.{option_map_or}
use Rattle.std.proofs.lemmas.List.{append_cancel_left}
use Rattle.std.proofs.lemmas.List.Elements.{All-cons, All-nil}
use Rattle.std.proofs.lemmas.Option.{slice_get_within}
use Rattle.cfa.specs.declared.parts.Function.{Function}
use Rattle.cfa.specs.declared.parts.GraphParts.{GraphParts}
use Rattle.cfa.specs.declared.state.Predicates.{Predicates}
use Rattle.c_meaning.specs.declared.ends.Ends.{Ends}
use Rattle.c_meaning.specs.declared.input.Input.{Input}
use Rattle.c_values.specs.Kind.{IsValue}
use Rattle.c_values.specs.declared.kinds.Kind.{Kind}
use Rattle.goals.specs.GoalForm.{GoalForm}
use Rattle.goals.specs.declared.answer.Answer.{Answer}
use Rattle.goals.specs.declared.answer.Answer.TheVariants.{Covered, Missed, Refuted, Undecided}
use Rattle.goals.specs.declared.plan.Plan.{Plan}
use Rattle.path_runner.specs.Paths.{record_of}
use Rattle.unwinder_reach.specs.declared.reached.bounds.Bounds.{Bounds}
use Rattle.report.specs.Generated.{generated_head, generated_text, generated_total}
use Rattle.report.specs.Made.{made_lines, parameter_kinds}
use Rattle.report.specs.Texts.{goal_lines, spaced, suite_line}
use Rattle.suite.specs.Generated.{IsAnswer, IsGenerated, Shown}
use Rattle.suite_problem.specs.declared.generated.Generated.{Generated}
use Rattle.command_laws.specs.report_laws.Laws.{AnswersAreRead, HasAnswers, IsInLine, IsSmall, line_of_input}
use Rattle.command_laws.proofs.report_laws.Answers.{one_list}
use Rattle.command_laws.proofs.report_laws.Inputs.{AreValues, IsAnswered, behind_words, inputs_short, lines_are, words_in_line}
use Rattle.command_laws.proofs.report_laws.Lines.{behind_inputs}

-- ---- behind the first line

-- a text that begins with no line of an input
record BeginsApart (text : List ℕ) : Type 0 where
  byte : ℕ
  rest : List ℕ
  is : text ≡ byte ∷ rest
  apart : (byte == 105) ≡ false

five : (a b c d e : List ℕ) → a ++ b ++ c ++ d ++ e ≡ a ++ (b ++ (c ++ (d ++ e)))
five a b c d e = simp append_assoc

begins_apart : (graph : GraphParts) (plan : Plan) (number : ℕ) (answers : List Answer) (goals : List GoalForm) (rest : List ℕ) → BeginsApart (goal_lines graph plan number answers goals ++ (codes "suite" ++ rest))
begins_apart graph plan number [] goals rest = record { byte = 115; rest = codes "uite" ++ rest; is = refl; apart = refl }
begins_apart graph plan number (a ∷ answers) [] rest = record { byte = 115; rest = codes "uite" ++ rest; is = refl; apart = refl }
begins_apart graph plan number (a ∷ answers) (g ∷ goals) rest = record { byte = 103; rest = _; is = refl; apart = refl }

behind : (lines others : List (List ℕ)) (x y : List ℕ) → BeginsApart x → BeginsApart y → All IsInLine lines → All IsInLine others → flat_map line_of_input lines ++ x ≡ flat_map line_of_input others ++ y → x ≡ y
behind lines others x y g h free more e =
    g.is ∙ behind_inputs lines others g.byte h.byte g.rest h.rest g.apart h.apart free more
    (sym (ap (λ (t : List ℕ). flat_map line_of_input lines ++ t) g.is) ∙ e ∙ ap (λ (t : List ℕ). flat_map line_of_input others ++ t) h.is) ∙ sym h.is

-- ---- places of lists

zipped : {A B : Type 0} (R : A → B → Type 0) (xs : List A) (ys : List B) → length ys ≡ length xs → ((place : ℕ) (x : A) (y : B) → slice_get xs place ≡ Some x → slice_get ys place ≡ Some y → R x y) → AllZip R xs ys
zipped R [] [] count each = tt
zipped R [] (y ∷ ys) count each = absurd (omega (arith, count))
zipped R (x ∷ xs) [] count each = absurd (omega (arith, count))
zipped R (x ∷ xs) (y ∷ ys) count each = (each 0 x y refl refl, zipped R xs ys (omega (arith, count)) (λ place u v here there. each (suc place) u v here there))

each_small : (answers : List Answer) (goals : List GoalForm) → length answers ≡ length goals → ((place : ℕ) (goal : GoalForm) (answer : Answer) → slice_get goals place ≡ Some goal → slice_get answers place ≡ Some answer → IsSmall answer) → All IsSmall answers
each_small [] goals count each = All-nil IsSmall
each_small (a ∷ answers) [] count each = absurd (omega (arith, count))
each_small (a ∷ answers) (g ∷ goals) count each =
    All-cons IsSmall a answers (each 0 g a refl refl) (each_small answers goals (omega (arith, count)) (λ place goal answer here there. each (suc place) goal answer here there))

-- ---- what was made

module _ (graph : GraphParts) (entry : ℕ) (f : Function) (p : Predicates) (plan : Plan) (bounds : Bounds) (ends : Ends) (budget : ℕ) (made : Generated) (shown : List Shown)
    (there : slice_get graph.functions entry ≡ Some f) (is : IsGenerated graph f p plan bounds ends budget made shown) where
  abbrev kinds : List Kind
  kinds = parameter_kinds graph entry

  own_kinds : f.parameters ≡ kinds
  own_kinds = ap (λ (o : Option Function). option_map_or (λ (g : Function). g.parameters) o []) (sym there)

  -- the inputs that were made have values of their kinds
  values_at : (place : ℕ) (input : Input) (taken : List (Kind × ℕ)) → slice_get made.inputs place ≡ Some input → slice_get made.taken place ≡ Some taken → AreValues kinds input taken
  values_at place input taken here told =
      let it = is.answered.inputs place input here in
      let same : (record_of graph input p it.run).taken ≡ taken = (let both : Some (record_of graph input p it.run).taken ≡ Some taken = sym it.taken ∙ told in cc) in
      record {
        words = subst (λ (ks : List Kind). AllZip IsValue ks input.words) own_kinds it.is_made.words_fit;
        answers = subst (λ (answers : List (Kind × ℕ)). All IsAnswered answers) same it.is_made.answers_fit;
      }

  small_answer : length made.inputs < 2 ^ 64 → (number : ℕ) (goal : GoalForm) (a : Answer) → IsAnswer graph f p plan bounds ends made.inputs is.made_for number goal a → IsSmall a
  small_answer few number goal (Covered covering) it = let within = slice_get_within made.inputs (covering - 1) it.input it.input_is in let some = it.some in omega (arith, within, some, few)
  small_answer few number goal Missed it = tt
  small_answer few number goal Refuted it = tt
  small_answer few number goal Undecided it = tt

  all_small : length made.inputs < 2 ^ 64 → All IsSmall made.answers
  all_small few = each_small made.answers plan.goals is.answer_count (λ place goal a here said. small_answer few (place + 1) goal a (is.answered.answers place goal a here said))

  -- the report's own lines, and those of any reading of it, have the same answers
  module _ (kept text : List ℕ) (answers : List Answer) (told : text ≡ generated_text graph plan entry made kept bounds budget ends) (short : length text < 2 ^ 64)
      (read : HasAnswers graph plan (generated_head (length plan.goals) bounds budget ends) text answers) where
    abbrev head : List ℕ
    head = generated_head (length plan.goals) bounds budget ends

    abbrev last : List ℕ
    last = (spaced kept ++ codes "\n") ++ generated_total made.answers (length plan.goals)

    abbrev own_lines : List ℕ
    own_lines = made_lines kinds 1 made.inputs made.taken ++ (goal_lines graph plan 1 made.answers plan.goals ++ (codes "suite" ++ last))

    abbrev read_lines : List ℕ
    read_lines = flat_map line_of_input read.inputs ++ (goal_lines graph plan 1 answers plan.goals ++ (codes "suite" ++ read.rest))

    parts : text ≡ head ++ own_lines
    parts = told ∙ five head (made_lines kinds 1 made.inputs made.taken) (goal_lines graph plan 1 made.answers plan.goals) (suite_line kept) (generated_total made.answers (length plan.goals))

    read_parts : text ≡ head ++ read_lines
    read_parts = read.is ∙ five head (flat_map line_of_input read.inputs) (goal_lines graph plan 1 answers plan.goals) (codes "suite") read.rest

    few : 1 + length made.inputs < 2 ^ 64
    few =
        let lines = inputs_short kinds 1 made.inputs made.taken is.answered.taken_count in
        let some : 0 < length head = omega arith in
        let whole = ap length parts ∙ length-append head own_lines in
        let own = length-append (made_lines kinds 1 made.inputs made.taken) (goal_lines graph plan 1 made.answers plan.goals ++ (codes "suite" ++ last)) in
        omega (arith, lines, some, whole, own, short)

    behind_head : own_lines ≡ read_lines
    behind_head = append_cancel_left head own_lines read_lines (sym parts ∙ read_parts)

    in_lines : All IsInLine (behind_words kinds 1 made.inputs made.taken)
    in_lines = words_in_line kinds 1 made.inputs made.taken few (zipped (AreValues kinds) made.inputs made.taken is.answered.taken_count values_at)

    same_goals : goal_lines graph plan 1 made.answers plan.goals ++ (codes "suite" ++ last) ≡ goal_lines graph plan 1 answers plan.goals ++ (codes "suite" ++ read.rest)
    same_goals =
        behind (behind_words kinds 1 made.inputs made.taken) read.inputs (goal_lines graph plan 1 made.answers plan.goals ++ (codes "suite" ++ last)) (goal_lines graph plan 1 answers plan.goals ++ (codes "suite" ++ read.rest))
        (begins_apart graph plan 1 made.answers plan.goals last) (begins_apart graph plan 1 answers plan.goals read.rest) in_lines read.in_lines
        (ap (λ (t : List ℕ). t ++ (goal_lines graph plan 1 made.answers plan.goals ++ (codes "suite" ++ last))) (sym (lines_are kinds 1 made.inputs made.taken)) ∙ behind_head)

    same_answers : made.answers ≡ answers
    same_answers =
        let fewer : length made.inputs < 2 ^ 64 = omega (arith, few) in
        one_list graph plan 1 plan.goals made.answers answers (codes "suite" ++ last) (codes "suite" ++ read.rest) is.answer_count read.count (all_small fewer) read.small same_goals

pub answers_are_read : AnswersAreRead
answers_are_read graph entry f p plan bounds ends budget made shown kept text answers there is told short read = same_answers graph entry f p plan bounds ends budget made shown there is kept text answers told short read
