-- The depth-first search for a word that is met within its own replacement. The macros whose lists are being read are
-- open, each a frame, and the frames stand here with the last one first. Nothing that is promised speaks of this.
use Rattle.std.specs.Prelude.{◌≡◌, ◌⊎◌, ℕ, suc, ◌+◌, ◌<◌, Bool, true, false, List, [], ◌∷◌, length, take, Result, Ok, Err, ⊤, slice_index_or}
use Rattle.std.specs.declared.alloc.AllocError.{AllocError}
use Rattle.c_lex.specs.declared.expand.Frame.{Frame}
use Rattle.c_lex.specs.declared.looping.Mark.{Mark}
use Rattle.c_lex.specs.declared.looping.Mark.TheVariants as mark
use Rattle.c_lex.specs.declared.macros.Replacement.{Replacement}
use Rattle.c_lex.specs.declared.macros.Macro.{Macro}
use Rattle.c_lex.specs.Expanding.{unread_of}
use Rattle.c_lex.specs.Macros.{list_at, Meets, Loops, Ends}

-- the mark of the macro at an index
abbrev pub mark_at : List Mark → ℕ → Mark
mark_at marks i = slice_index_or marks i mark.New

-- the tokens of a frame's list that are read
abbrev pub read_of : List Macro → Frame → List Replacement
read_of table f = take f.at (list_at table f.index)

-- one of the frames reads the list of the macro at this index
abbrev pub HasFrame : List Frame → ℕ → Type 0
HasFrame [] i = ⊥
HasFrame (f ∷ fs) i = (f.index ≡ i) ⊎ HasFrame fs i

-- the frames, from that of the macro at `root` on, wait for the macro at an index: each of them meets it, and what it has
-- read ends if what it waits for does
abbrev pub Awaits : List Macro → (root index : ℕ) → List Frame → Type 0
Awaits table root index [] = index ≡ root
Awaits table root index (f ∷ fs) =
    Meets table (list_at table f.index) index × (Ends table (list_at table index) → Ends table (read_of table f)) × Awaits table root f.index fs

-- the frames were opened one from the other: the tokens of the last one end as far as they are read, and the others wait
-- for it; with no frame left, the first macro ends
abbrev pub AreOpened : List Macro → (root : ℕ) → List Frame → Type 0
AreOpened table root [] = Ends table (list_at table root)
AreOpened table root (f ∷ fs) = Ends table (read_of table f) × Awaits table root f.index fs

-- the search from the macro at `root` has come to these marks and frames
pub record Searched (table : List Macro) (root : ℕ) (marks : List Mark) (frames : List Frame) : Type 0 where
  pub done : (i : ℕ) → mark_at marks i ≡ mark.Done → Ends table (list_at table i)
  pub open_frame : (i : ℕ) → mark_at marks i ≡ mark.Open → HasFrame frames i
  pub reads : AreOpened table root frames

-- the tokens of the macros that are new, and one more for each of these
abbrev pub untried : List Macro → List Mark → ℕ
untried [] marks = 0
untried (m ∷ ms) [] = 0
untried (m ∷ ms) (mark.New ∷ marks) = suc (length m.list) + untried ms marks
untried (m ∷ ms) (mark.Open ∷ marks) = untried ms marks
untried (m ∷ ms) (mark.Done ∷ marks) = untried ms marks

-- the tokens that the frames have still to read, and one more for each frame
abbrev pub unread : List Macro → List Frame → ℕ
unread table [] = 0
unread table (f ∷ fs) = suc (length (unread_of table f)) + unread table fs

-- how much is left of the search
abbrev pub left : List Macro → List Mark → List Frame → ℕ
left table marks frames = untried table marks + unread table frames

-- one turn, from whichever macro the search began: a word is met within its own replacement, or the search comes on
abbrev pub TurnTaken : List Macro → (marks : List Mark) → (frames : List Frame) → (now : List Mark) → (above : List Frame) → Result Bool AllocError → Type 0
TurnTaken table marks frames now above (Ok true) = (root : ℕ) → Searched table root marks frames → Loops table (list_at table root)
TurnTaken table marks frames now above (Ok false) =
    ((root : ℕ) → Searched table root marks frames → Searched table root now above) × (left table now above < left table marks frames)
TurnTaken table marks frames now above (Err e) = ⊤
