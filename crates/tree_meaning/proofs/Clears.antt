-- Cells that are set to 0, one after another.
use Rattle.std.proofs.Common.{◌≡◌, ◌<◌, ◌≤◌, ℕ, suc, ◌+◌, ◌-◌, refl, sym, ap, ◌∙◌, arith}
use Rattle.tree_meaning.specs.Outcomes.{Store}
use Rattle.tree_meaning.specs.Activations.{stored, cleared, zeros_at}

one_more : (s : Store) (cell n : ℕ) → cleared s cell (suc n) ≡ cleared (stored s cell 0) (cell + 1) n
unfolding zeros_at
one_more s cell n = refl

none_left : (s : Store) (cell : ℕ) → cleared s cell 0 ≡ s
unfolding zeros_at
none_left s cell = refl

pub clear_more : (whole s s' : Store) (first i count : ℕ) → i < count → whole ≡ cleared s (first + i) (count - i) → s' ≡ stored s (first + i) 0 → whole ≡ cleared s' (first + (i + 1)) (count - (i + 1))
clear_more whole s s' first i count lt e h =
    let left : count - i ≡ suc (count - (i + 1)) = omega (arith, lt) in
    let behind : first + i + 1 ≡ first + (i + 1) = omega arith in
    e ∙ ap (λ n. cleared s (first + i) n) left ∙ one_more s (first + i) (count - (i + 1)) ∙ ap (λ q. cleared q (first + i + 1) (count - (i + 1))) (sym h) ∙ ap (λ n. cleared s' n (count - (i + 1))) behind

pub clear_over : (old s : Store) (first cell i count : ℕ) → count ≤ i → cleared old first count ≡ cleared s cell (count - i) → s ≡ cleared old first count
clear_over old s first cell i count le e =
    let none : count - i ≡ 0 = omega (arith, le) in
    sym (e ∙ ap (cleared s cell) none ∙ none_left s cell)

pub ruleset clear_laws = (clear_more, clear_over)
