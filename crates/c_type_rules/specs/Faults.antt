-- Faults, and the first of a list.
use Rattle.std.specs.Prelude.{◌≡◌, ◌⊎◌, Bool, false, if◌then◌else◌, ◌==◌, nat_lt, List, [], ◌∷◌, Option, Some, None}
use Rattle.c_type_rules.specs.declared.faults.Found.{Found}

-- the earlier place, by its file and the first byte of its token, and at one place the lesser code
abbrev pub is_before : Found → Found → Bool
is_before a b =
    if a.span.file == b.span.file then
    (if a.span.start == b.span.start then nat_lt a.code b.code else nat_lt a.span.start b.span.start)
    else nat_lt a.span.file b.span.file

abbrev pub noted : Option Found → Found → Option Found
noted None next = Some next
noted (Some old) next = if is_before next old then Some next else Some old

-- the first of a fault that may be there and of those in a list
unfoldable pub first_with : Option Found → List Found → Option Found
first_with first [] = first
first_with first (f ∷ fs) = first_with (noted first f) fs

-- the first fault of a list
abbrev pub first_of : List Found → Option Found
first_of fs = first_with None fs

abbrev pub Among : Found → List Found → Type 0
Among f [] = ⊥
Among f (g ∷ gs) = (f ≡ g) ⊎ Among f gs

-- it is one of them, and none is before it
abbrev pub IsFirst : Found → List Found → Type 0
IsFirst f fs = Among f fs × ((g : Found) → Among g fs → is_before g f ≡ false)

-- the first of a list is that, and there is none exactly where the list is empty
abbrev pub FirstOfFaults : Type 0
FirstOfFaults = ((fs : List Found) (f : Found) → first_of fs ≡ Some f → IsFirst f fs) × ((fs : List Found) → first_of fs ≡ None → fs ≡ [])
