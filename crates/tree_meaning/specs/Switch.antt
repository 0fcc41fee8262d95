-- What `switch` does (ISO/IEC 9899:2011, 6.8.4.2).
use Rattle.std.specs.Prelude.{ℕ, Bool, true, false, ◌==◌, ◌||◌, if◌then◌else◌, List, [], ◌∷◌, map, Option, Some, None}
use Rattle.fq_core.specs.declared.span.Span.{Span}
use Rattle.tree_meaning.specs.Outcomes.{Store, Done, Gives, ◌andthen◌, Meaning, Evaluation}
use Rattle.tree_meaning.specs.declared.way.Way.{Way}
use Rattle.tree_meaning.specs.declared.way.Way.TheVariants.{GoesOn, Breaks, Continues, Returns}
use Rattle.tree_meaning.specs.Statements.{block}

-- labels in a row, the values of `case`, and none for `default`, each with its place; and what the statements behind them
-- do
pub record Group : Type 0 where
  pub labels : List (Span × Option ℕ)
  pub does : Meaning

abbrev pub is_label : Option ℕ → Option ℕ → Bool
is_label None None = true
is_label (Some v) (Some w) = v == w
is_label None (Some w) = false
is_label (Some v) None = false

abbrev pub has_label : Option ℕ → List (Span × Option ℕ) → Bool
has_label label [] = false
has_label label (l ∷ rest) = is_label label l.1 || has_label label rest

-- the groups from the one on that has a label
abbrev pub groups_from : Option ℕ → List Group → Option (List Group)
groups_from label [] = None
groups_from label (g ∷ rest) = if has_label label g.labels then Some (g ∷ rest) else groups_from label rest

abbrev pub groups_or : Option (List Group) → List Group → List Group
groups_or None other = other
groups_or (Some groups) other = groups

-- from the group of the `case` with the value, else from that of `default`, else none (p5, p7)
abbrev pub groups_at : ℕ → List Group → List Group
groups_at v groups = groups_or (groups_from (Some v) groups) (groups_or (groups_from None groups) [])

-- `break` ends the switch (6.8.6.3p2)
abbrev pub after_switch : Way → Store → Done Way
after_switch GoesOn s = Gives GoesOn s
after_switch Breaks s = Gives GoesOn s
after_switch Continues s = Gives Continues s
after_switch Returns s = Gives Returns s

abbrev pub switch_on : Evaluation → List Group → Meaning
switch_on value groups s = value s andthen λ v s'. block (map (λ (g : Group). g.does) (groups_at v groups)) s' andthen after_switch
