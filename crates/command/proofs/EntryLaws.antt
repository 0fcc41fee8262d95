-- Laws of the entry.
use Rattle.std.proofs.Common.{◌≡◌, ℕ, ◌<◌, ◌≤◌, Bool, true, false, cond, List, length, get_or, Some, None, slice_get, refl, sym, ap, ◌∙◌, arith}
use Rattle.std.specs.Prelude.{nat_lt, option_and_then}
use Rattle.std.specs.List.{position, position_or_len}
use Rattle.std.specs.Str.{bytes_eq}
use Rattle.std.proofs.lemmas.Bool.{eq-eqb, ltb-true, ne_eqb}
use Rattle.std.proofs.lemmas.Option.{slice_get-get_or}
use Rattle.cfa.specs.declared.parts.Function.{Function}
use Rattle.cfa.specs.declared.parts.GraphParts.{GraphParts}
use Rattle.cfa.specs.Names.{first_named}
use Rattle.command.specs.Runs.{entry_of, if_startable, startable_at}

module _ {X : Type 0} (test : X → Bool) (xs : List X) (i : ℕ) where
  within_by : (found : Bool) → nat_lt (position_or_len test xs) (length xs) ≡ found → cond found (Some (position_or_len test xs)) None ≡ Some i → i < length xs
  within_by true is some = let same : position_or_len test xs ≡ i = cc in rw same at (ltb-true _ _ is)
  within_by false is some = cc

  within : position test xs ≡ Some i → i < length xs
  within some = within_by _ refl some

pub entry_missing : (graph : GraphParts) (name : List ℕ) → first_named graph.functions name ≡ None → entry_of graph name ≡ None
entry_missing graph name none = ap (option_and_then (startable_at graph)) none

module _ (graph : GraphParts) (name : List ℕ) (i : ℕ) (f : Function) (named : first_named graph.functions name ≡ Some i) (is : f ≡ get_or graph.functions i f) where
  pub entry_there : slice_get graph.functions i ≡ Some f
  entry_there = slice_get-get_or graph.functions i f (within (λ (g : Function). bytes_eq g.name name) graph.functions i named) ∙ ap Some (sym is)

  entry_is : entry_of graph name ≡ if_startable i f
  entry_is = ap (option_and_then (startable_at graph)) named ∙ ap (option_and_then (if_startable i)) entry_there

  pub entry_lent : 0 < length f.arrays → None ≡ entry_of graph name
  entry_lent some = sym (entry_is ∙ rw (ne_eqb (length f.arrays) 0 (λ none. absurd (omega (arith, none, some)))) refl)

  pub entry_found : length f.arrays ≤ 0 → Some (record { number = i; function = f }) ≡ entry_of graph name
  entry_found none = sym (entry_is ∙ rw (eq-eqb (length f.arrays) 0 (omega arith)) refl)
