-- How large a goal's formula may become, and when it is refused.
use Rattle.std.specs.Prelude.{◌≡◌, ℕ, ◌+◌, ◌*◌, ◌<◌, Option, None, Some}
use Rattle.fq_core.specs.declared.refusal.Fault.{Fault}
use Rattle.fq_core.specs.declared.refusal.Fault.TheVariants as fault
use Rattle.fq_core.specs.declared.refusal.Place.TheVariants as place
use Rattle.fq_core.specs.Refusals.{refusal}
use Rattle.goals.specs.GoalForm.{GoalForm}
use Rattle.goals.specs.declared.plan.PassingPattern.{PassingPattern}
use Rattle.goals.specs.declared.plan.Plan.{Plan}
use Rattle.patterns.specs.Letters.{form, letter_count}
use Rattle.patterns.specs.Match.{Form}
use Rattle.patterns.specs.declared.letter.Letter.{Letter}

-- the square of a pattern's letters plus 2, repetitions unrolled
abbrev pub pattern_size : Form Letter → ℕ
pattern_size p = (letter_count p + 2) * (letter_count p + 2)

abbrev pub passing_size : Option PassingPattern → ℕ
passing_size None = 0
passing_size (Some p) = pattern_size (form p.pattern)

-- the size of a goal over so many pairs of node and context
abbrev pub size_of : Plan → Form Letter → ℕ → ℕ
size_of plan pattern pairs = (pattern_size pattern + passing_size plan.passing) * pairs

abbrev pub goal_size : Plan → GoalForm → ℕ → ℕ
goal_size plan goal pairs = size_of plan (form goal.pattern) pairs

-- code 82 says that the size is above its limit, and want of memory is free
abbrev pub IsFormulaFault : ℕ → Fault → Type 0
IsFormulaFault size (fault.Refused r) = (fault.Refused r ≡ refusal 82 (place.Limit 8388608)) × (8388608 < size)
IsFormulaFault size fault.Memory = Unit {0}
