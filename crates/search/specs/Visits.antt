-- What becomes of a clause one of whose watched literals is false.
use Rattle.std.specs.Prelude.{◌≡◌, ℤ, neg_ℤ, Bool, true, false, List, Some, if◌then◌else◌}
use Rattle.std.specs.List.{list_any}
use Rattle.std.specs.Ordering.{int_eq}
use Rattle.cnf.specs.Clauses.{IsLiteral, has_literal}
use Rattle.search.specs.declared.visit.Look.{Look}
use Rattle.search.specs.declared.visit.Look.TheVariants as look
use Rattle.search.specs.declared.watching.Pair.{Pair}
use Rattle.search.specs.Machine.{is_conflict, unit_of}

abbrev pub partner_of : Pair → ℤ → ℤ
partner_of pair x = if int_eq pair.left x then pair.right else pair.left

abbrev pub IsLook : (ℤ → Bool) → List ℤ → ℤ → Look → Type 0
IsLook true_literals clause partner look.Satisfied = list_any true_literals clause ≡ true
IsLook true_literals clause partner (look.Other x) =
    (has_literal clause x ≡ true) × (true_literals (neg_ℤ x) ≡ false) × (int_eq x partner ≡ false) × IsLiteral x
IsLook true_literals clause partner (look.Unit x) = (x ≡ partner) × (unit_of true_literals clause ≡ Some x) × IsLiteral x
IsLook true_literals clause partner look.Conflict = is_conflict true_literals clause ≡ true
