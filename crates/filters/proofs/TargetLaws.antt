-- Target graphs and tables of marks.
use Rattle.std.proofs.Common.{◌≡◌, ℕ, ◌<◌, Bool, true, false, List, length, get_or, inl, inr, sym, ◌∙◌, ap, subst, arith}
use Rattle.std.specs.Prelude.{nat_lt}
use Rattle.std.proofs.lemmas.Bool.{cases_lt, both_ways}
use Rattle.std.proofs.Math.ListN.{get_or-eq_default}
use Rattle.cfa.specs.declared.parts.Edge.{Edge}
use Rattle.cfa.specs.declared.parts.GraphParts.{GraphParts}
use Rattle.cfa.specs.declared.parts.Node.{Node}
use Rattle.filters.specs.declared.marks.Marks.{Marks}
use Rattle.filters.specs.declared.target_graph.TargetGraph.{TargetGraph}
use Rattle.filters.specs.Parts.{Part, is_marked, marked, part_of, whole, IsFull, IsWithin}
use Rattle.filters.proofs.PartsLaws.{part_equal}

in_table : (xs : List Bool) (n k : ℕ) → length xs ≡ n → get_or xs k false ≡ true → k < n
in_table xs n k size h = elim (cases_lt k n) [
  | inl lt ↦ lt
  | inr ge ↦ absurd (both_ways (get_or xs k false) (get_or-eq_default xs false (omega arith)) h)
]

full_within : (parts : GraphParts) (m : Marks) → IsFull parts m → IsWithin parts (marked m)
full_within parts m full = record {
  nodes = λ n h. in_table m.nodes.items (length parts.nodes) n full.nodes h;
  edges = λ k h. in_table m.edges.items (length parts.edges) k full.edges h;
}

pub within_by : (parts : GraphParts) (m : Marks) (t : TargetGraph) → IsFull parts m → part_of t ≡ marked m → IsWithin parts (part_of t)
within_by parts m t full e = let P : Part → Type 0 = λ p. IsWithin parts p in subst P (sym e) (full_within parts m full)

pub whole_is : (parts : GraphParts) (m : Marks) (nodes : List Node) (edges : List Edge) → nodes ≡ parts.nodes → edges ≡ parts.edges
    → is_marked m.nodes.items ≡ (λ n. nat_lt n (length nodes)) → is_marked m.edges.items ≡ (λ k. nat_lt k (length edges)) → marked m ≡ whole parts
whole_is parts m nodes edges p q h g = part_equal (marked m) (whole parts)
    (λ n. ap (λ f. f n) h ∙ ap (λ xs. nat_lt n (length xs)) p) (λ k. ap (λ f. f k) g ∙ ap (λ xs. nat_lt k (length xs)) q)
