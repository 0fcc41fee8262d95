-- Why a unit is refused.
use Rattle.std.specs.Prelude.{◌≡◌, ℕ, if◌then◌else◌, ◌==◌, List, [], Result, Ok, Err, Option, Some, None}
use Rattle.fq_core.specs.declared.refusal.Place.{Place}
use Rattle.fq_core.specs.declared.refusal.Place.TheVariants as place
use Rattle.fq_core.specs.declared.refusal.Fault.{Fault}
use Rattle.c_parse.specs.declared.unit.Item.{Item}
use Rattle.fq_core.specs.Refusals.{refusal}
use Rattle.c_typed_trees.specs.declared.unit.Typed.{Typed}
use Rattle.c_type_rules.specs.declared.faults.Found.{Found}
use Rattle.c_type_rules.specs.Faults.{IsFirst, first_of}
use Rattle.c_types.specs.Units.{faults_of, typed_of}

-- a limit is told by its number, and any other fault by its line
abbrev pub place_of_fault : Found → Place
place_of_fault f =
    if f.code == 34 then place.Limit 1024
    else if f.code == 37 then place.Limit 16384
    else place.Source f.span.file f.span.line

abbrev pub refusal_of : Found → Fault
refusal_of f = refusal f.code (place_of_fault f)

-- nothing is wrong in the unit, and this is its typed tree
pub record IsTyped (items : List Item) (typed : Typed) : Type 0 where
  pub faultless : faults_of items ≡ []
  pub tree : typed ≡ typed_of items

-- this is a fault of the unit that none is before: none has an earlier place, by the file and the first byte of the
-- token, and none at that place has a lesser code
pub record IsRefused (items : List Item) (code : ℕ) (p : Place) : Type 0 where
  pub found : Found
  pub first : IsFirst found (faults_of items)
  pub code_is : code ≡ found.code
  pub place_is : p ≡ place_of_fault found

-- what is answered, by the first fault; nothing that is promised speaks of this
abbrev pub outcome_by : Option Found → Typed → Result Typed Fault
outcome_by None typed = Ok typed
outcome_by (Some f) typed = Err (refusal_of f)

unfoldable pub outcome : List Item → Result Typed Fault
outcome items = outcome_by (first_of (faults_of items)) (typed_of items)
