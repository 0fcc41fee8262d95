-- The weight of merges, as it is counted.
use Rattle.std.proofs.Common.{◌≡◌, ℕ, zero, suc, ◌-◌, ◌*◌, ◌<◌, ◌≤◌, ◌⊎◌, inl, inr, ⊎_elim, sym, ap, ◌∙◌, arith}
use Rattle.std.proofs.lemmas.Bool.{cases_lt}
use Rattle.unwinder_reach.specs.unwinding_size.Capped.{capped}
use Rattle.unwinder_reach.proofs.unwinding_size.CappedLaws.{capped-zero}

swap : {A B : Type 0} → A ⊎ B → B ⊎ A
swap (inl a) = inr a
swap (inr b) = inl b

at_least : (a b n : ℕ) → 1 ≤ a → n ≤ b → n ≤ a * b
at_least a b n one most = grind arith

capped_low : (a : ℕ) → a ≤ 4194305 → capped a ≡ a
unfolding capped
capped_low a h = omega arith

capped_high : (a : ℕ) → 4194305 ≤ a → capped a ≡ 4194305
unfolding capped
capped_high a h = omega arith

both_high : (a b : ℕ) → 4194305 ≤ a → 4194305 ≤ b → capped a ≡ capped b
both_high a b h g = capped_high a h ∙ sym (capped_high b g)

eight_times : (a : ℕ) → capped (8 * capped a) ≡ capped (8 * a)
unfolding capped
eight_times a = omega arith

some_more : (n : ℕ) → 1 < n → 1 ≤ capped n - 1
unfolding capped
some_more n h = omega arith

some_before : (n m : ℕ) → m ≡ capped n → 1 < m → 1 < n
unfolding capped
some_before n m e h = omega arith

-- as many cells and merges as there are, and as they are counted
counted_merges : (cells steps : ℕ) → 1 < steps → capped (8 * (capped cells * (capped steps - 1))) ≡ capped (8 * (cells * (steps - 1)))
counted_merges zero steps some =
    let left : 8 * (0 * (capped steps - 1)) ≡ 8 * (0 * (steps - 1)) = omega arith in
    ap (λ n. capped (8 * (n * (capped steps - 1)))) capped-zero ∙ ap capped left
counted_merges (suc m) steps some =
    ⊎_elim
    (λ few_cells.
    ⊎_elim
    (λ few_steps. ap (λ n. capped (8 * (n * (capped steps - 1)))) (capped_low (suc m) few_cells) ∙ ap (λ n. capped (8 * (suc m * (n - 1)))) (capped_low steps few_steps))
    (λ many_steps.
    let counted : capped steps ≡ 4194305 = capped_high steps (omega arith) in
    let own : capped (suc m) ≡ suc m = capped_low (suc m) few_cells in
    let low : 4194304 ≤ suc m * (capped steps - 1) = at_least (suc m) (capped steps - 1) 4194304 (omega arith) (omega arith) in
    let high : 4194304 ≤ suc m * (steps - 1) = at_least (suc m) (steps - 1) 4194304 (omega arith) (omega arith) in
    ap (λ n. capped (8 * (n * (capped steps - 1)))) own ∙ both_high (8 * (suc m * (capped steps - 1))) (8 * (suc m * (steps - 1))) (omega arith) (omega arith))
    (swap (cases_lt 4194305 steps)))
    (λ many_cells.
    let counted : capped (suc m) ≡ 4194305 = capped_high (suc m) (omega arith) in
    let merges : 1 ≤ capped steps - 1 = some_more steps some in
    let low : 4194305 ≤ (capped steps - 1) * capped (suc m) = at_least (capped steps - 1) (capped (suc m)) 4194305 merges (omega arith) in
    let high : 4194305 ≤ (steps - 1) * suc m = at_least (steps - 1) (suc m) 4194305 (omega arith) (omega arith) in
    both_high (8 * (capped (suc m) * (capped steps - 1))) (8 * (suc m * (steps - 1))) (omega arith) (omega arith))
    (swap (cases_lt 4194305 (suc m)))

few_before : (n m : ℕ) → m ≡ capped n → m ≤ 1 → n - 1 ≡ 0
unfolding capped
few_before n m e h = omega arith

pub one_step : (cells steps arrivals : ℕ) → arrivals ≡ capped steps → arrivals ≤ 1 → 0 ≡ capped (8 * (cells * (steps - 1)))
one_step cells steps arrivals counted few =
    let none : 0 ≡ 8 * (cells * 0) = omega arith in
    sym capped-zero ∙ ap capped none ∙ ap (λ n. capped (8 * (cells * n))) (sym (few_before steps arrivals counted few))

pub some_steps : (cells steps arrivals store merges all : ℕ) → arrivals ≡ capped steps → 1 < arrivals → store ≡ capped cells → merges ≡ capped (store * (arrivals - 1)) → all ≡ capped (8 * merges) → all ≡ capped (8 * (cells * (steps - 1)))
some_steps cells steps arrivals store merges all counted many stores merged made =
    made ∙ ap (λ n. capped (8 * n)) merged ∙ eight_times (store * (arrivals - 1)) ∙ ap (λ n. capped (8 * (n * (arrivals - 1)))) stores ∙ ap (λ n. capped (8 * (capped cells * (n - 1)))) counted
    ∙ counted_merges cells steps (some_before steps arrivals counted many)
