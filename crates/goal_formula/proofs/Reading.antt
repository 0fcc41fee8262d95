-- Reading a goal by its number.
use Rattle.std.proofs.Common.{◌≡◌, ℕ, ◌-◌, ◌<◌, ◌≤◌, List, length, get_or, Some, refl, sym, ap, ◌∙◌, arith}
use Rattle.std.specs.Prelude.{slice_get}
use Rattle.std.proofs.lemmas.Option.{same_Some, slice_get_read}
use Rattle.goals.specs.GoalForm.{GoalForm}

-- the goal that was read is the one of its number
pub read_goal : (goals read : List GoalForm) (goal : ℕ) (x g : GoalForm) → read ≡ goals → 0 < goal → goal ≤ length goals → x ≡ get_or read (goal - 1) x → slice_get goals (goal - 1) ≡ Some g → x ≡ g
read_goal goals read goal x g same some there is at =
    let within : goal - 1 < length read = omega (arith, ap length same) in
    same_Some x g (sym (slice_get_read read _ (goal - 1) x refl within is) ∙ ap (λ xs. slice_get xs (goal - 1)) same ∙ at)
