-- The edges that may follow a prefix.
use Rattle.std.proofs.Common.{◌≡◌, ℕ, ◌+◌, ◌-◌, ◌==◌, cond, Bool, true, List, [], ◌∷◌, ◌++◌, Option, Some, None, length, map, refl, sym, ◌∙◌, ap, append_assoc, length-append}
use Rattle.std.specs.Prelude.{slice_get}
use Rattle.std.specs.Option.{IsSomeAnd, option_map}
use Rattle.std.specs.List.{filter, last_or, range_with_len}
use Rattle.std.proofs.lemmas.Cmp.{nat_eq_equiv}
use Rattle.std.proofs.lemmas.List.Elements.{filter_agree, filter_passes}
use Rattle.std.proofs.lemmas.Option.{slice_get_within, get_or_from_slice_get}
use Rattle.cfa.proofs.Exits.{taken}
use Rattle.cfa.specs.declared.parts.Edge.{Edge}
use Rattle.cfa.specs.declared.parts.GraphParts.{GraphParts}
use Rattle.cfa.specs.Table.{outgoing_of, places_from}
use Rattle.filters.specs.Parts.{Part, edge_has}
use Rattle.filters_paths.specs.declared.walk.Step.{Step}
use Rattle.filters_paths.specs.Paths.{leads_to}
use Rattle.filters_paths.specs.Walking.{edges_of, row_after, row_of}
use Rattle.filters_paths.proofs.Prefixes.{has_by, last_is}

at_end : {X : Type 0} (front xs : List X) (x : X) → slice_get (front ++ (x ∷ xs)) (length front) ≡ Some x
at_end [] xs x = refl
at_end (y ∷ front) xs x = at_end front xs x

-- the places of the edges with a property are their numbers
places_are : (parts : GraphParts) (property : Edge → Bool) (front xs : List Edge) → front ++ xs ≡ parts.edges
    → places_from property (length front) xs ≡ filter (edge_has parts property) (range_with_len (length front) (length xs))
places_are parts property front [] whole = refl
places_are parts property front (x ∷ xs) whole =
    let longer : length (front ++ x ∷ []) ≡ length front + 1 = length-append front (x ∷ []) in
    let rest : places_from property (length front + 1) xs ≡ filter (edge_has parts property) (range_with_len (length front + 1) (length xs)) =
    ap (λ n. places_from property n xs) (sym longer) ∙ places_are parts property (front ++ x ∷ []) xs (append_assoc front (x ∷ []) xs ∙ whole)
    ∙ ap (λ n. filter (edge_has parts property) (range_with_len n (length xs))) longer in
    let here : edge_has parts property (length front) ≡ property x = has_by parts property (length front) x (ap (λ es. slice_get es (length front)) (sym whole) ∙ at_end front xs x) in
    ap (λ ys. cond (property x) (length front ∷ ys) ys) rest
    ∙ ap (λ b. cond b (length front ∷ filter (edge_has parts property) (range_with_len (length front + 1) (length xs))) (filter (edge_has parts property) (range_with_len (length front + 1) (length xs)))) (sym here)

pub outgoing_is : (parts : GraphParts) (node : ℕ) → outgoing_of parts node ≡ filter (edge_has parts (λ (e : Edge). e.source == node)) (range_with_len 0 (length parts.edges))
outgoing_is parts node = places_are parts (λ (e : Edge). e.source == node) [] parts.edges refl

other_way : (n m : ℕ) → (n == m) ≡ (m == n)
other_way n m = nat_eq_equiv.symm n m

leads_alike : (parts : GraphParts) (k node : ℕ) (e : Edge) → slice_get parts.edges k ≡ Some e → e.target ≡ node → (l : ℕ) → edge_has parts (λ (f : Edge). f.source == node) l ≡ leads_to parts k l
leads_alike parts k node e is to l =
    (λ i. edge_has parts (λ (f : Edge). other_way f.source node i) l) ∙ ap (λ n. edge_has parts (λ (f : Edge). n == f.source) l) (sym to)
    ∙ sym (has_by parts (λ (g : Edge). edge_has parts (λ (f : Edge). g.target == f.source) l) k e is)

-- the edges that leave the node to which an edge leads
pub row_is : (parts : GraphParts) (k node : ℕ) → IsSomeAnd (slice_get parts.edges k) (λ e. e.target ≡ node) → outgoing_of parts node ≡ filter (leads_to parts k) (range_with_len 0 (length parts.edges))
row_is parts k node h =
    let there = taken (λ (e : Edge). e.target ≡ node) (slice_get parts.edges k) h in
    outgoing_is parts node ∙ filter_agree (edge_has parts (λ (e : Edge). e.source == node)) (leads_to parts k) (leads_alike parts k node there.0 there.1 there.2) (range_with_len 0 (length parts.edges))

last_mapped : {A B : Type 0} (f : A → B) (o : Option A) (xs : List A) → last_or (option_map f o) (map f xs) ≡ option_map f (last_or o xs)
last_mapped f o [] = refl
last_mapped f o (x ∷ xs) = last_mapped f (Some x) xs

-- the last step has the last edge
pub last_edge : (steps : List Step) (s : Step) → slice_get steps (length steps - 1) ≡ Some s → last_or None (edges_of steps) ≡ Some s.edge
last_edge [] s h = absurd (cc)
last_edge (x ∷ steps) s h = last_mapped (λ (t : Step). t.edge) None (x ∷ steps) ∙ ap (option_map (λ (t : Step). t.edge)) (sym (last_is None x steps) ∙ h)

pub row_behind : (parts : GraphParts) (a : Part) (steps : List Step) (s : Step) (node : ℕ) → slice_get steps (length steps - 1) ≡ Some s → IsSomeAnd (slice_get parts.edges s.edge) (λ e. e.target ≡ node)
    → outgoing_of parts node ≡ row_of parts a (edges_of steps)
row_behind parts a steps s node last to = row_is parts s.edge node to ∙ ap (row_after parts a) (sym (last_edge steps s last))

-- what stands in a filtered list passes
pub passes_at : (test : ℕ → Bool) (xs : List ℕ) (i e : ℕ) → slice_get (filter test xs) i ≡ Some e → test e ≡ true
passes_at test xs i e h =
    ap test (sym (get_or_from_slice_get (filter test xs) i e e h)) ∙ filter_passes test xs i e (slice_get_within (filter test xs) i e h)
