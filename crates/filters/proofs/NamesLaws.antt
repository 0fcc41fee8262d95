-- Names of variables.
use Rattle.std.proofs.Common.{◌≡◌, ℕ, ◌<◌, ◌≤◌, Bool, false, List, length, get_or, ◌∙◌, ap, refl}
use Rattle.std.specs.List.{slice_get, list_any}
use Rattle.std.specs.Option.{option_map_or}
use Rattle.std.proofs.lemmas.Option.{slice_get_past}
use Rattle.cfa.specs.declared.parts.GraphParts.{GraphParts}
use Rattle.cfa.specs.declared.parts.Node.{Node}
use Rattle.filters.specs.Names.{scope_has, sees}
use Rattle.filters.specs.Parts.{is_marked}
use Rattle.filters.proofs.MarksLaws.{table_is}

no_scope : (parts : GraphParts) (name : List ℕ) (i : ℕ) → length parts.scopes ≤ i → option_map_or (scope_has name) (slice_get parts.scopes i) false ≡ false
no_scope parts name i ge = rw (slice_get_past parts.scopes i ge) refl

pub scopes_are : (parts : GraphParts) (name : List ℕ) (xs : List Bool) → length xs ≡ length parts.scopes
    → ((k : ℕ) → k < length parts.scopes → get_or xs k false ≡ option_map_or (scope_has name) (slice_get parts.scopes k) false)
    → is_marked xs ≡ (λ i. option_map_or (scope_has name) (slice_get parts.scopes i) false)
scopes_are parts name xs size each = table_is (λ i. option_map_or (scope_has name) (slice_get parts.scopes i) false) xs (length parts.scopes) size each (no_scope parts name)

pub seen_by : (parts : GraphParts) (name : List ℕ) (xs ys : List Bool) (r : Bool) → ys ≡ xs → is_marked xs ≡ (λ i. option_map_or (scope_has name) (slice_get parts.scopes i) false)
    → r ≡ list_any (λ (n : Node). is_marked ys n.scope) parts.nodes → r ≡ list_any (sees parts name) parts.nodes
seen_by parts name xs ys r e h q = q ∙ ap (λ zs. list_any (λ (n : Node). is_marked zs n.scope) parts.nodes) e ∙ ap (λ (f : ℕ → Bool). list_any (λ (n : Node). f n.scope) parts.nodes) h
