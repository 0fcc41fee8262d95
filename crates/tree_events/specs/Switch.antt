-- What happens in a `switch` (ISO/IEC 9899:2011, 6.8.4.2).
use Rattle.std.specs.Prelude.{ℕ, Bool, true, false, ◌==◌, ◌||◌, if◌then◌else◌, List, [], ◌∷◌, ◌++◌, map, Option, Some, None}
use Rattle.std.specs.List.{flat_map}
use Rattle.fq_core.specs.declared.span.Span.{Span}
use Rattle.tree_events.specs.declared.edge_events.event.Event.{Event}
use Rattle.tree_events.specs.declared.edge_events.event.What.TheVariants.{Outcome, Valued, Straight}
use Rattle.tree_meaning.specs.Outcomes.{Store}
use Rattle.tree_meaning.specs.declared.way.Way.{Way}
use Rattle.tree_meaning.specs.declared.way.Way.TheVariants.{GoesOn, Breaks, Continues, Returns}
use Rattle.tree_meaning.specs.Switch.{has_label}
use Rattle.tree_events.specs.Outcomes.{Told, gives, behind, ◌thence◌, Meaning, Evaluation, At, happens, happens_at}
use Rattle.tree_events.specs.Statements.{sequence}

-- labels in a row, the values of `case`, and none for `default`, each with its place; and what the statements behind them
-- do, as a block
pub record Group : Type 0 where
  pub labels : List (Span × Option ℕ)
  pub does : Meaning

-- the groups from the one on that has a label
abbrev pub groups_from : Option ℕ → List Group → Option (List Group)
groups_from label [] = None
groups_from label (g ∷ rest) = if has_label label g.labels then Some (g ∷ rest) else groups_from label rest

abbrev pub groups_or : Option (List Group) → List Group → List Group
groups_or None other = other
groups_or (Some groups) other = groups

-- from the group of the `case` with the value, else from that of `default`, else none (p5, p7)
abbrev pub groups_at : ℕ → List Group → List Group
groups_at v groups = groups_or (groups_from (Some v) groups) (groups_or (groups_from None groups) [])

-- the `case` labels, each with its place and its value
abbrev pub case_of : Span × Option ℕ → List (Span × ℕ)
case_of (place, None) = []
case_of (place, Some v) = (place, v) ∷ []

abbrev pub cases : List Group → List (Span × ℕ)
cases groups = flat_map (λ (g : Group). flat_map case_of g.labels) groups

abbrev pub is_last : List (Span × ℕ) → Bool
is_last [] = true
is_last (label ∷ rest) = false

-- a value is compared with those of `case` in the order of the text, up to the equal one: an equal one settles, and so does the
-- last one
abbrev pub compared : At → ℕ → List (Span × ℕ) → List Event
compared at v [] = []
compared at v (label ∷ rest) = happens_at at label.0 (Outcome (v == label.1) (v == label.1 || is_last rest)) ++ (if v == label.1 then [] else compared at v rest)

-- without a `case` there is nothing to compare
abbrev pub goes_straight : At → List (Span × ℕ) → List Event
goes_straight at [] = happens at Straight
goes_straight at (label ∷ rest) = []

abbrev pub labels_told : At → ℕ → List (Span × ℕ) → List Event
labels_told at v labels = compared at v labels ++ goes_straight at labels

-- `break` ends the switch (6.8.6.3p2)
abbrev pub after_switch : Way → Store → Told Way
after_switch GoesOn s = gives GoesOn s
after_switch Breaks s = gives GoesOn s
after_switch Continues s = gives Continues s
after_switch Returns s = gives Returns s

abbrev pub chosen : At → List Group → ℕ → Store → Told Way
chosen at groups v s =
    behind (happens at Valued ++ labels_told at v (cases groups)) (sequence (map (λ (g : Group). g.does) (groups_at v groups)) s thence after_switch)

abbrev pub switch_on : At → Evaluation → List Group → Meaning
switch_on at value groups s = value s thence chosen at groups
