-- The lines of goals have one list of answers.
use Rattle.std.proofs.Common.{◌≡◌, ℕ, ◌+◌, ◌<◌, ◌^◌, List, [], ◌∷◌, ◌++◌, All, length, refl, sym, ap, ◌∙◌, append_assoc, arith}
use Rattle.std.specs.Prelude.{codes}
use Rattle.std.specs.Fmt.{decimal}
use Rattle.std.proofs.lemmas.Fmt.{decimal_injective}
use Rattle.std.proofs.lemmas.List.{append_cancel_left}
use Rattle.std.proofs.lemmas.List.Elements.{All-head, All-tail}
use Rattle.cfa.specs.declared.parts.GraphParts.{GraphParts}
use Rattle.goals.specs.GoalForm.{GoalForm}
use Rattle.goals.specs.declared.answer.Answer.{Answer}
use Rattle.goals.specs.declared.answer.Answer.TheVariants.{Covered, Missed, Refuted, Undecided}
use Rattle.goals.specs.declared.plan.Plan.{Plan}
use Rattle.report.specs.Letters.{word_text}
use Rattle.report.specs.Texts.{answer_text, goal_line, goal_lines}
use Rattle.trace_file.proofs.NumberLaws.{decimal_lacks}
use Rattle.command_laws.specs.report_laws.Laws.{IsSmall}
use Rattle.command_laws.proofs.report_laws.Lines.{before_mark, begin_otherwise, tails}

-- ---- one answer

-- what is said of a goal, up to the space behind it
abbrev Said : Answer → List ℕ → List ℕ
Said a x = answer_text a ++ 32 ∷ x

-- the number of an input that covers a goal
one_number : (a b : ℕ) (x y : List ℕ) → a < 2 ^ 64 → b < 2 ^ 64 → decimal a ++ 32 ∷ x ≡ decimal b ++ 32 ∷ y → (a ≡ b) × (x ≡ y)
one_number a b x y small other e =
    let low : 32 < 45 = omega arith in
    let both = before_mark 32 refl (decimal a) (decimal b) x y (decimal_lacks 32 low a small) (decimal_lacks 32 low b other) e in
    (decimal_injective a b small other both.0, both.1)

covered_alike : (a b : ℕ) (x y : List ℕ) → IsSmall (Covered a) → IsSmall (Covered b) → Said (Covered a) x ≡ Said (Covered b) y → (Covered a ≡ Covered b) × (x ≡ y)
covered_alike a b x y small other e =
    let both = one_number a b x y small other (append_cancel_left (codes "covered ") (decimal a ++ 32 ∷ x) (decimal b ++ 32 ∷ y) e) in
    (ap Covered both.0, both.1)

same_word : (word x y : List ℕ) → word ++ 32 ∷ x ≡ word ++ 32 ∷ y → x ≡ y
same_word word x y e = tails 32 32 x y (append_cancel_left word (32 ∷ x) (32 ∷ y) e)

one_answer : (a b : Answer) (x y : List ℕ) → IsSmall a → IsSmall b → Said a x ≡ Said b y → (a ≡ b) × (x ≡ y)
one_answer (Covered a) (Covered b) x y small other e = covered_alike a b x y small other e
one_answer (Covered a) Missed x y small other e = absurd (begin_otherwise 99 109 _ _ refl refl e)
one_answer (Covered a) Refuted x y small other e = absurd (begin_otherwise 99 114 _ _ refl refl e)
one_answer (Covered a) Undecided x y small other e = absurd (begin_otherwise 99 117 _ _ refl refl e)
one_answer Missed (Covered b) x y small other e = absurd (begin_otherwise 109 99 _ _ refl refl e)
one_answer Missed Missed x y small other e = (refl, same_word (codes "missed") x y e)
one_answer Missed Refuted x y small other e = absurd (begin_otherwise 109 114 _ _ refl refl e)
one_answer Missed Undecided x y small other e = absurd (begin_otherwise 109 117 _ _ refl refl e)
one_answer Refuted (Covered b) x y small other e = absurd (begin_otherwise 114 99 _ _ refl refl e)
one_answer Refuted Missed x y small other e = absurd (begin_otherwise 114 109 _ _ refl refl e)
one_answer Refuted Refuted x y small other e = (refl, same_word (codes "refuted") x y e)
one_answer Refuted Undecided x y small other e = absurd (begin_otherwise 114 117 _ _ refl refl e)
one_answer Undecided (Covered b) x y small other e = absurd (begin_otherwise 117 99 _ _ refl refl e)
one_answer Undecided Missed x y small other e = absurd (begin_otherwise 117 109 _ _ refl refl e)
one_answer Undecided Refuted x y small other e = absurd (begin_otherwise 117 114 _ _ refl refl e)
one_answer Undecided Undecided x y small other e = (refl, same_word (codes "undecided") x y e)

-- ---- the line of a goal

-- parts of a line, and what stands behind it
grouped : (front number space said word end rest : List ℕ) → (front ++ number ++ space ++ said ++ space ++ word ++ end) ++ rest ≡ front ++ (number ++ (space ++ (said ++ (space ++ (word ++ (end ++ rest))))))
grouped front number space said word end rest = simp append_assoc

one_line : (number word : List ℕ) (a b : Answer) (x y : List ℕ) → IsSmall a → IsSmall b
    → (codes "goal " ++ number ++ codes " " ++ answer_text a ++ codes " " ++ word ++ codes "\n") ++ x ≡ (codes "goal " ++ number ++ codes " " ++ answer_text b ++ codes " " ++ word ++ codes "\n") ++ y
    → (a ≡ b) × (x ≡ y)
one_line number word a b x y small other e =
    let told = sym (grouped (codes "goal ") number (codes " ") (answer_text a) word (codes "\n") x) ∙ e ∙ grouped (codes "goal ") number (codes " ") (answer_text b) word (codes "\n") y in
    let front = append_cancel_left (codes "goal ") (number ++ (32 ∷ Said a (word ++ (10 ∷ x)))) (number ++ (32 ∷ Said b (word ++ (10 ∷ y)))) told in
    let behind = append_cancel_left number (32 ∷ Said a (word ++ (10 ∷ x))) (32 ∷ Said b (word ++ (10 ∷ y))) front in
    let both = one_answer a b (word ++ (10 ∷ x)) (word ++ (10 ∷ y)) small other (tails 32 32 (Said a (word ++ (10 ∷ x))) (Said b (word ++ (10 ∷ y))) behind) in
    (both.0, tails 10 10 x y (append_cancel_left word (10 ∷ x) (10 ∷ y) both.1))

-- ---- all of them

module _ (graph : GraphParts) (plan : Plan) where
  pub one_list : (number : ℕ) (goals : List GoalForm) (xs ys : List Answer) (r s : List ℕ) → length xs ≡ length goals → length ys ≡ length goals → All IsSmall xs → All IsSmall ys
      → goal_lines graph plan number xs goals ++ r ≡ goal_lines graph plan number ys goals ++ s → xs ≡ ys
  one_list number [] [] [] r s own count small other e = refl
  one_list number [] [] (y ∷ ys) r s own count small other e = absurd (omega (arith, count))
  one_list number [] (x ∷ xs) ys r s own count small other e = absurd (omega (arith, own))
  one_list number (goal ∷ goals) [] ys r s own count small other e = absurd (omega (arith, own))
  one_list number (goal ∷ goals) (x ∷ xs) [] r s own count small other e = absurd (omega (arith, count))
  one_list number (goal ∷ goals) (x ∷ xs) (y ∷ ys) r s own count small other e =
      let mine = append_assoc (goal_line graph plan number x goal) (goal_lines graph plan (number + 1) xs goals) r in
      let yours = append_assoc (goal_line graph plan number y goal) (goal_lines graph plan (number + 1) ys goals) s in
      let both = one_line (decimal number) (word_text graph plan goal.word) x y (goal_lines graph plan (number + 1) xs goals ++ r) (goal_lines graph plan (number + 1) ys goals ++ s)
      (All-head IsSmall x xs small) (All-head IsSmall y ys other) (sym mine ∙ e ∙ yours) in
      let rest = one_list (number + 1) goals xs ys r s (omega (arith, own)) (omega (arith, count)) (All-tail IsSmall x xs small) (All-tail IsSmall y ys other) both.1 in
      (let here = both.0 in λ i. here i ∷ rest i)
