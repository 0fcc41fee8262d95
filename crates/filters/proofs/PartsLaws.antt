-- Parts of a graph.
use Rattle.std.proofs.Common.{◌≡◌, ℕ, ◌&&◌, Bool, List, ◌∙◌, ap}
use Rattle.cfa.specs.declared.parts.Edge.{Edge}
use Rattle.cfa.specs.declared.parts.GraphParts.{GraphParts}
use Rattle.filters.specs.declared.marks.Marks.{Marks}
use Rattle.filters.specs.Parts.{Part, edge_has, is_end, with_ends, keeping, without, is_marked, marked}
use Rattle.std.specs.Prelude.{not}
use Rattle.filters.specs.declared.marks.Combination.{Combination}
use Rattle.filters.specs.declared.marks.Combination.TheVariants.{Without}
use Rattle.filters.specs.Combining.{combined_mark, joined}
use Rattle.filters.specs.Kept.{is_node_of, function_part}

pub part_equal : (p q : Part) → ((n : ℕ) → p.node n ≡ q.node n) → ((k : ℕ) → p.edge k ≡ q.edge k) → p ≡ q
part_equal p q h g = λ i. record { node = λ n. h n i; edge = λ k. g k i }

pub part_is : (parts : GraphParts) (m : Marks) (nodes edges : List Bool) → m.edges.items ≡ edges
    → ((n : ℕ) → is_marked m.nodes.items n ≡ (is_marked nodes n && is_end parts (is_marked edges) n))
    → marked m ≡ with_ends parts (is_marked nodes) (is_marked edges)
part_is parts m nodes edges e h = part_equal (marked m) (with_ends parts (is_marked nodes) (is_marked edges)) h (λ k. ap (λ xs. is_marked xs k) e)

pub marks_are : (m : Marks) (f g : ℕ → Bool) → is_marked m.nodes.items ≡ f → is_marked m.edges.items ≡ g → marked m ≡ record { node = f; edge = g }
marks_are m f g p q = part_equal (marked m) (record { node = f; edge = g }) (λ n. ap (λ h. h n) p) (λ k. ap (λ h. h k) q)

pub joined_is : (c : Combination) (m a b : Marks) (an bn ae be : List Bool) → an ≡ a.nodes.items → bn ≡ b.nodes.items → ae ≡ a.edges.items → be ≡ b.edges.items
    → is_marked m.nodes.items ≡ (λ k. combined_mark c (is_marked an k) (is_marked bn k)) → is_marked m.edges.items ≡ (λ k. combined_mark c (is_marked ae k) (is_marked be k))
    → marked m ≡ joined c (marked a) (marked b)
joined_is c m a b an bn ae be p q r s h g = marks_are m _ _
    (h ∙ ap (λ xs. λ (k : ℕ). combined_mark c (is_marked xs k) (is_marked bn k)) p ∙ ap (λ xs. λ (k : ℕ). combined_mark c (is_marked a.nodes.items k) (is_marked xs k)) q)
    (g ∙ ap (λ xs. λ (k : ℕ). combined_mark c (is_marked xs k) (is_marked be k)) r ∙ ap (λ xs. λ (k : ℕ). combined_mark c (is_marked a.edges.items k) (is_marked xs k)) s)

pub without_is : (parts : GraphParts) (a b : Marks) (n an bn es : List Bool) → n ≡ a.nodes.items → an ≡ a.edges.items → bn ≡ b.edges.items
    → is_marked es ≡ (λ k. combined_mark Without (is_marked an k) (is_marked bn k)) → with_ends parts (is_marked n) (is_marked es) ≡ without parts (marked a) (marked b)
without_is parts a b n an bn es p q r h =
    ap (λ xs. with_ends parts (is_marked xs) (is_marked es)) p
    ∙ ap (with_ends parts (is_marked a.nodes.items)) (h ∙ ap (λ xs. λ (k : ℕ). is_marked xs k && not (is_marked bn k)) q ∙ ap (λ xs. λ (k : ℕ). is_marked a.edges.items k && not (is_marked xs k)) r)

pub keeping_is : (parts : GraphParts) (property : Edge → Bool) (a : Marks) (n an es : List Bool) → n ≡ a.nodes.items → an ≡ a.edges.items
    → is_marked es ≡ (λ k. is_marked an k && edge_has parts property k) → with_ends parts (is_marked n) (is_marked es) ≡ keeping parts property (marked a)
keeping_is parts property a n an es p q h =
    ap (λ xs. with_ends parts (is_marked xs) (is_marked es)) p
    ∙ ap (with_ends parts (is_marked a.nodes.items)) (h ∙ ap (λ xs. λ (k : ℕ). is_marked xs k && edge_has parts property k) q)

pub function_is : (parts : GraphParts) (name : List ℕ) (property : Edge → Bool) (m a : Marks) (an ae : List Bool) → an ≡ a.nodes.items → ae ≡ a.edges.items
    → is_marked m.nodes.items ≡ (λ n. is_marked an n && is_node_of parts name n) → is_marked m.edges.items ≡ (λ k. is_marked ae k && edge_has parts property k)
    → marked m ≡ function_part parts name property (marked a)
function_is parts name property m a an ae p q h g = marks_are m _ _
    (h ∙ ap (λ xs. λ (n : ℕ). is_marked xs n && is_node_of parts name n) p)
    (g ∙ ap (λ xs. λ (k : ℕ). is_marked xs k && edge_has parts property k) q)
