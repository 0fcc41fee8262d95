-- What names stand for (ISO/IEC 9899:2011, 6.2.1), which labels a function has, and which values a `switch`.
use Rattle.std.specs.Prelude.{ℕ, suc, Bool, true, false, ◌==◌, ◌||◌, if◌then◌else◌, List, [], ◌∷◌, Option, Some, None, slice_get}
use Rattle.std.specs.Str.{bytes_eq}
use Rattle.c_type_rules.specs.declared.scopes.Bound.{Bound}

abbrev pub or_first : Option ℕ → Bool → Option ℕ
or_first (Some i) here = Some (suc i)
or_first None here = if here then Some 0 else None

-- the last place of a name among the bound names, the oldest first
unfoldable pub last_place : List Bound → List ℕ → Option ℕ
last_place [] w = None
last_place (b ∷ bs) w = or_first (last_place bs w) (bytes_eq b.name w)

abbrev pub bound_at : List Bound → Option ℕ → Option Bound
bound_at bs None = None
bound_at bs (Some i) = slice_get bs i

-- what a name was last bound to: in the innermost of the scopes that have it
abbrev pub newest : List ℕ → List Bound → Option Bound
newest w bs = bound_at bs (last_place bs w)

-- a name is one of a list
unfoldable pub has_name : List (List ℕ) → List ℕ → Bool
has_name [] w = false
has_name (v ∷ vs) w = bytes_eq v w || has_name vs w

abbrev pub next_place : Option ℕ → Option ℕ
next_place None = None
next_place (Some i) = Some (suc i)

-- the first place of a name in a list
unfoldable pub name_place : List (List ℕ) → List ℕ → Option ℕ
name_place [] w = None
name_place (v ∷ vs) w = if bytes_eq v w then Some 0 else next_place (name_place vs w)

abbrev pub same_case : Option ℕ → Option ℕ → Bool
same_case None None = true
same_case (Some a) (Some b) = a == b
same_case None (Some b) = false
same_case (Some a) None = false

-- a value of `case`, or `default`, is one of a list
unfoldable pub has_case : List (Option ℕ) → Option ℕ → Bool
has_case [] v = false
has_case (w ∷ ws) v = same_case w v || has_case ws v
