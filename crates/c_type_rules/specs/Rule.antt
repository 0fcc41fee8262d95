-- What typing rules are made of: each says what a form becomes where certain names are in scope, and all that is wrong
-- in it.
use Rattle.std.specs.Prelude.{ℕ, ◌+◌, ◌-◌, Bool, true, false, List, [], ◌∷◌, ◌++◌, take, Option}
use Rattle.fq_core.specs.declared.span.Span.{Span}
use Rattle.c_type_rules.specs.declared.faults.Found.{Found}
use Rattle.c_type_rules.specs.declared.scopes.Bound.{Bound}
use Rattle.c_type_rules.specs.declared.typer.Typer.{Typer}
use Rattle.c_type_rules.specs.Faults.{noted, first_with}
use Rattle.c_type_rules.specs.Scopes.{newest, has_name, has_case}

infixr 20 ◌then◌
-- where a rule is used: the names that are bound, the oldest first, the labels that the function has so far, the values
-- of `case` that the innermost `switch` has so far, none standing for `default`, the level of the innermost scope, that
-- of the file being 0, and the numbers of the next local's cell and of the next temporary's; outside of all functions
-- the former is the next global's
pub record At : Type 0 where
  pub bound : List Bound
  pub labels : List (List ℕ)
  pub cases : List (Option ℕ)
  pub level : ℕ
  pub local : ℕ
  pub temporary : ℕ

-- what a rule gives: what is made, the faults, the names and the labels that it adds, and how many cells its locals and
-- its temporaries take
pub record Done (A : Type 0) : Type 0 where
  pub made : A
  pub faults : List Found
  pub bound : List Bound
  pub labels : List (List ℕ)
  pub cases : List (Option ℕ)
  pub locals : ℕ
  pub temporaries : ℕ

abbrev pub Rule : Type 0 → Type 0
Rule A = At → Done A

abbrev pub behind : {A : Type 0} → At → Done A → At
behind at d = record {
  bound = at.bound ++ d.bound;
  labels = at.labels ++ d.labels;
  cases = at.cases ++ d.cases;
  level = at.level;
  local = at.local + d.locals;
  temporary = at.temporary + d.temporaries;
}

-- this is made, and nothing else
abbrev pub only_made : {A : Type 0} → A → Done A
only_made a = record { made = a; faults = []; bound = []; labels = []; cases = []; locals = 0; temporaries = 0 }

-- nothing is wrong, and this is made
unfoldable pub pure : {A : Type 0} → A → Rule A
pure a at = only_made a

-- a rule, and then another for what it made
unfoldable pub ◌then◌ : {A B : Type 0} → Rule A → (A → Rule B) → Rule B
(m then k) at =
    let d = m at in
    let e = k d.made (behind at d) in
    record {
      made = e.made;
      faults = d.faults ++ e.faults;
      bound = d.bound ++ e.bound;
      labels = d.labels ++ e.labels;
      cases = d.cases ++ e.cases;
      locals = d.locals + e.locals;
      temporaries = d.temporaries + e.temporaries;
    }

-- a fault: what is made then stands for what is missing, so that typing goes on; no accepted unit has it
unfoldable pub fault : {A : Type 0} → ℕ → Span → A → Rule A
fault code span a at = record { made = a; faults = record { span = span; code = code } ∷ []; bound = []; labels = []; cases = []; locals = 0; temporaries = 0 }

-- a fault where something isn't so
unfoldable pub expect : ℕ → Span → Bool → Rule (Unit {0})
expect code span true = pure tt
expect code span false = fault code span tt

-- what a name was last bound to
unfoldable pub look : List ℕ → Rule (Option Bound)
look w at = only_made (newest w at.bound)

-- whether the function has a label already
unfoldable pub is_label : List ℕ → Rule Bool
is_label w at = only_made (has_name at.labels w)

-- whether the innermost `switch` has a value already
unfoldable pub is_case : Option ℕ → Rule Bool
is_case v at = only_made (has_case at.cases v)

-- the level of the innermost scope
unfoldable pub here : Rule ℕ
here at = only_made at.level

-- the number of a new temporary
unfoldable pub temporary : Rule ℕ
temporary at = record { made = at.temporary; faults = []; bound = []; labels = []; cases = []; locals = 0; temporaries = 1 }

-- the first cell of a new local
unfoldable pub local : ℕ → Rule ℕ
local cells at = record { made = at.local; faults = []; bound = []; labels = []; cases = []; locals = cells; temporaries = 0 }

-- a name is bound
unfoldable pub bind : Bound → Rule (Unit {0})
bind b at = record { made = tt; faults = []; bound = b ∷ []; labels = []; cases = []; locals = 0; temporaries = 0 }

-- a label stands
unfoldable pub bind_label : List ℕ → Rule (Unit {0})
bind_label w at = record { made = tt; faults = []; bound = []; labels = w ∷ []; cases = []; locals = 0; temporaries = 0 }

-- a value of `case` stands
unfoldable pub bind_case : Option ℕ → Rule (Unit {0})
bind_case v at = record { made = tt; faults = []; bound = []; labels = []; cases = v ∷ []; locals = 0; temporaries = 0 }

-- a scope of its own, whose names end with it; labels don't (6.2.1p3)
unfoldable pub in_scope : {A : Type 0} → Rule A → Rule A
in_scope m at =
    let d = m (record { bound = at.bound; labels = at.labels; cases = at.cases; level = at.level + 1; local = at.local; temporary = at.temporary }) in
    record { made = d.made; faults = d.faults; bound = []; labels = d.labels; cases = d.cases; locals = d.locals; temporaries = d.temporaries }

-- a `switch` of its own
unfoldable pub in_switch : {A : Type 0} → Rule A → Rule A
in_switch m at =
    let d = m (record { bound = at.bound; labels = at.labels; cases = []; level = at.level; local = at.local; temporary = at.temporary }) in
    record { made = d.made; faults = d.faults; bound = d.bound; labels = d.labels; cases = []; locals = d.locals; temporaries = d.temporaries }

-- what is never evaluated when the program runs has no temporaries
unfoldable pub uncounted : {A : Type 0} → Rule A → Rule A
uncounted m at =
    let d = m (record { bound = at.bound; labels = at.labels; cases = at.cases; level = at.level; local = at.local; temporary = 0 }) in
    record { made = d.made; faults = d.faults; bound = d.bound; labels = d.labels; cases = d.cases; locals = d.locals; temporaries = 0 }

-- the lists of several, one after another
unfoldable pub each : {X A : Type 0} → (X → Rule (List A)) → List X → Rule (List A)
each f [] = pure []
each f (x ∷ xs) = f x then λ ys. each f xs then λ zs. pure (ys ++ zs)

-- a rule that gives one thing, as a list
abbrev pub alone_in : {A : Type 0} → Rule A → Rule (List A)
alone_in m = m then λ x. pure (x ∷ [])

-- ---- what a rule does to the state of typing

abbrev pub at : Typer → At
at s = record { bound = s.bound; labels = s.labels; cases = s.cases; level = s.level; local = s.local; temporary = s.temporary }

unfoldable pub made_by : {A : Type 0} → Rule A → Typer → A
made_by m s = (m (at s)).made

unfoldable pub after : {A : Type 0} → Rule A → Typer → Typer
after m s =
    let d = m (at s) in
    record {
      bound = s.bound ++ d.bound;
      labels = s.labels ++ d.labels;
      cases = s.cases ++ d.cases;
      level = s.level;
      local = s.local + d.locals;
      temporary = s.temporary + d.temporaries;
      fault = first_with s.fault d.faults;
    }

-- the state behind a fault
unfoldable pub with_fault : ℕ → Span → Typer → Typer
with_fault code span s = record {
  bound = s.bound;
  labels = s.labels;
  cases = s.cases;
  level = s.level;
  local = s.local;
  temporary = s.temporary;
  fault = noted s.fault (record { span = span; code = code });
}

-- the state within a scope, and the state behind it, where so many names were bound before
unfoldable pub entered : Typer → Typer
entered s = record { bound = s.bound; labels = s.labels; cases = s.cases; level = s.level + 1; local = s.local; temporary = s.temporary; fault = s.fault }

unfoldable pub left : ℕ → Typer → Typer
left mark s = record { bound = take mark s.bound; labels = s.labels; cases = s.cases; level = s.level - 1; local = s.local; temporary = s.temporary; fault = s.fault }

-- the state with these values of `case`
unfoldable pub with_cases : List (Option ℕ) → Typer → Typer
with_cases vs s = record { bound = s.bound; labels = s.labels; cases = vs; level = s.level; local = s.local; temporary = s.temporary; fault = s.fault }

-- the state with this number for the next temporary
unfoldable pub numbered_from : ℕ → Typer → Typer
numbered_from n s = record { bound = s.bound; labels = s.labels; cases = s.cases; level = s.level; local = s.local; temporary = n; fault = s.fault }
