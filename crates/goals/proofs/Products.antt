-- Products of words, and the number of words.
use Rattle.std.proofs.Common.{◌≡◌, ℕ, ◌+◌, ◌*◌, ◌<◌, List, [], ◌∷◌, ◌++◌, length, get_or, map, take, refl, sym, ap, ◌∙◌, arith, length-append}
use Rattle.std.specs.List.{flat_map}
use Rattle.std.proofs.lemmas.List.{append-nil, length-map, take_more}
use Rattle.std.proofs.Math.Nat.{suc-mul}
use Rattle.std.proofs.lemmas.Grind.{flat_map-append}
use Rattle.goals.specs.applied_clauses.Trees as tree
use Rattle.goals.specs.applied_clauses.Trees.{Tree}
use Rattle.goals.specs.Words.{Text, Word, edge_words, product, truth_words, words}
use Rattle.goals.specs.Counts.{truth_count, word_count}
use Rattle.goals.specs.declared.goal_letter.GoalLetter.TheVariants.{Node, Edge, Predicate, Absent}

-- one more first word
pub product_more : (vs ws : List Word) (i : ℕ) (v : Word) → i < length vs → v ≡ get_or vs i v → product (take (i + 1) vs) ws ≡ product (take i vs) ws ++ map (λ w. v ++ w) ws
product_more vs ws i v lt e =
    let f : Word → List Word = λ x. map (λ w. x ++ w) ws in
    let one : flat_map f (get_or vs i v ∷ []) ≡ f v = append-nil (f (get_or vs i v)) ∙ ap f (sym e) in
    ap (flat_map f) (take_more vs i v lt) ∙ flat_map-append f (take i vs) (get_or vs i v ∷ []) ∙ ap (λ x. flat_map f (take i vs) ++ x) one

length-product : (vs ws : List Word) → length (product vs ws) ≡ length vs * length ws
length-product [] ws = omega arith
length-product (v ∷ vs) ws =
    let rest = length-product vs ws in
    let each : length (map (λ w. v ++ w) ws) ≡ length ws = length-map ws (λ w. v ++ w) in
    length-append (map (λ w. v ++ w) ws) (product vs ws) ∙ omega (arith, suc-mul (length vs) (length ws))

-- the same number of words from each part
length-each : (f : ℕ → List Word) (c : ℕ) → ((n : ℕ) → length (f n) ≡ c) → (ns : List ℕ) → length (flat_map f ns) ≡ length ns * c
length-each f c each [] = omega arith
length-each f c each (n ∷ ns) =
    let here = each n in
    let rest = length-each f c each ns in
    length-append (f n) (flat_map f ns) ∙ omega (arith, suc-mul (length ns) c)

length-truths : (is : List ℕ) → length (truth_words is) ≡ truth_count is
length-truths [] = refl
length-truths (i ∷ is) = length-product ((Predicate i ∷ []) ∷ (Absent i ∷ []) ∷ []) (truth_words is) ∙ ap (λ c. 2 * c) (length-truths is)

length-behind : (is : List ℕ) (n : ℕ) → length (map (λ t. Node n ∷ t) (truth_words is)) ≡ truth_count is
length-behind is n = length-map (truth_words is) (λ t. Node n ∷ t) ∙ length-truths is

length-edge : (is : List ℕ) (e : ℕ) → length (edge_words (truth_words is) e) ≡ truth_count is * truth_count is
length-edge is e =
    let behind : length (map (λ t. Edge e ∷ t) (truth_words is)) ≡ truth_count is = length-map (truth_words is) (λ t. Edge e ∷ t) ∙ length-truths is in
    length-product (truth_words is) (map (λ t. Edge e ∷ t) (truth_words is)) ∙ (λ i. length-truths is i * behind i)

-- a clause has as many words as are counted
pub length-words : (ts : List Text) (t : Tree) → length (words ts t) ≡ word_count t
length-words ts (tree.nodes ns is) = length-each (λ n. map (λ t. Node n ∷ t) (truth_words is)) (truth_count is) (length-behind is) ns
length-words ts (tree.edges es is) = length-each (edge_words (truth_words is)) (truth_count is * truth_count is) (length-edge is) es
length-words ts (tree.paths ps) = length-map ps (λ path. map Edge path)
length-words ts (tree.predicate i) = refl
length-words ts (tree.quoted body text) = refl
length-words ts (tree.dot a b) = length-product (words ts a) (words ts b) ∙ (λ i. length-words ts a i * length-words ts b i)
length-words ts (tree.plus a b) = length-append (words ts a) (words ts b) ∙ (λ i. length-words ts a i + length-words ts b i)
length-words ts (tree.repeat body least most) = refl

no_length : {X : Type 0} (xs : List X) → length xs ≡ 0 → xs ≡ []
no_length [] h = refl
no_length (x ∷ xs) h = absurd (omega arith)

-- a clause of which no word is counted has none
pub no_words : (ts : List Text) (t : Tree) → word_count t ≡ 0 → words ts t ≡ []
no_words ts t h = no_length (words ts t) (length-words ts t ∙ h)

-- one more number
pub mapped_more : (f : ℕ → List Word) (ns : List ℕ) (i : ℕ) → i < length ns → flat_map f (take (i + 1) ns) ≡ flat_map f (take i ns) ++ f (get_or ns i 0)
mapped_more f ns i lt =
    ap (flat_map f) (take_more ns i 0 lt) ∙ flat_map-append f (take i ns) (get_or ns i 0 ∷ []) ∙ ap (λ x. flat_map f (take i ns) ++ x) (append-nil (f (get_or ns i 0)))
