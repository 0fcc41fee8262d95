-- A goal has one least input.
use Rattle.std.proofs.Common.{◌≡◌, ℕ, zero, suc, List, [], ◌∷◌, ◌++◌, length, refl, sym, ap, ◌∙◌, inl, inr, ⊎_elim, arith}
use Rattle.std.proofs.lemmas.Bool.{cases_lt}
use Rattle.std.proofs.lemmas.List.{length-append}
use Rattle.c_meaning.specs.declared.ends.Ends.{Ends}
use Rattle.c_meaning.specs.declared.input.Input.{Input}
use Rattle.cfa.specs.declared.parts.Function.{Function}
use Rattle.cfa.specs.declared.parts.GraphParts.{GraphParts}
use Rattle.cfa.specs.declared.state.Predicates.{Predicates}
use Rattle.goal_formula_laws.specs.formula_laws.Orders.{IsBefore}
use Rattle.goals.specs.GoalForm.{GoalForm}
use Rattle.goals.specs.declared.plan.Plan.{Plan}
use Rattle.least_input.specs.Least.{IsLeast}
use Rattle.least_input.specs.Order.{filled, numbers_of}
use Rattle.unwinder_reach.specs.declared.reached.bounds.Bounds.{Bounds}

-- ---- of lists as long one is before the other, or they are one

neither_before : (xs ys : List ℕ) → length xs ≡ length ys → ¬ IsBefore xs ys → ¬ IsBefore ys xs → xs ≡ ys
neither_before [] [] same a b = refl
neither_before [] (y ∷ ys) same a b = absurd (omega (arith, same))
neither_before (x ∷ xs) [] same a b = absurd (omega (arith, same))
neither_before (x ∷ xs) (y ∷ ys) same a b =
    ⊎_elim (λ less. absurd (a (inl less)))
    (λ rest. ⊎_elim (λ more. absurd (b (inl more)))
    (λ most.
    let first : x ≡ y = omega (arith, rest, most) in
    let later = neither_before xs ys (omega (arith, same)) (λ c. a (inr (first, c))) (λ c. b (inr (sym first, c))) in
    cc)
    (cases_lt y x))
    (cases_lt x y)

-- ---- the numbers of an input

filled_count : (count : ℕ) (numbers : List ℕ) → length (filled count numbers) ≡ count
filled_count zero numbers = refl
filled_count (suc count) [] = ap suc (filled_count count [])
filled_count (suc count) (n ∷ numbers) = ap suc (filled_count count numbers)

filled_whole : (count : ℕ) (numbers : List ℕ) → length numbers ≡ count → filled count numbers ≡ numbers
filled_whole zero [] h = refl
filled_whole zero (n ∷ numbers) h = absurd (omega (arith, h))
filled_whole (suc count) [] h = absurd (omega (arith, h))
filled_whole (suc count) (n ∷ numbers) h = ap (λ (ns : List ℕ). n ∷ ns) (filled_whole count numbers (omega (arith, h)))

record SameParts (a b c d : List ℕ) : Type 0 where
  front : a ≡ b
  back : c ≡ d

same_parts : (a b c d : List ℕ) → length a ≡ length b → a ++ c ≡ b ++ d → SameParts a b c d
same_parts [] [] c d h e = record { front = refl; back = e }
same_parts [] (y ∷ ys) c d h e = absurd (omega (arith, h))
same_parts (x ∷ xs) [] c d h e = absurd (omega (arith, h))
same_parts (x ∷ xs) (y ∷ ys) c d h e =
    let first : x ≡ y = cc in
    let tails : xs ++ c ≡ ys ++ d = cc in
    let later = same_parts xs ys c d (omega (arith, h)) tails in
    let rest = later.front in
    record { front = cc; back = later.back }

same_input : (x y : Input) → x.words ≡ y.words → x.answers ≡ y.answers → x ≡ y
same_input x y words answers = λ i. record { words = words i; answers = answers i }

-- ---- one input

module _ (graph : GraphParts) (f : Function) (p : Predicates) (plan : Plan) (bounds : Bounds) (ends : Ends) (goal : GoalForm) where
  -- two inputs that are the least, with all answers that the bounds allow
  pub one_least_input : (x y : Input) → IsLeast graph f p plan bounds ends goal x → IsLeast graph f p plan bounds ends goal y → length x.answers ≡ bounds.answers → length y.answers ≡ bounds.answers → x ≡ y
  one_least_input x y a b all whole =
      let count = bounds.answers in
      let words : length x.words ≡ length y.words = a.given.start.0 ∙ sym b.given.start.0 in
      let long : length (numbers_of count x) ≡ length (numbers_of count y) =
      (let m = filled_count count x.answers in let n = filled_count count y.answers in
      let i = length-append x.words (filled count x.answers) in let j = length-append y.words (filled count y.answers) in omega (arith, words, m, n, i, j)) in
      let same = neither_before (numbers_of count x) (numbers_of count y) long (b.least x a.given a.hits) (a.least y b.given b.hits) in
      let parts = same_parts x.words y.words (filled count x.answers) (filled count y.answers) words same in
      same_input x y parts.front (sym (filled_whole count x.answers all) ∙ parts.back ∙ filled_whole count y.answers whole)
