-- Counts of words and letters, by cases, of which nothing has to be listed.
use Rattle.std.specs.Prelude.{ℕ, ◌+◌, ◌*◌, ◌==◌, ◌||◌, max, if◌then◌else◌, List, [], ◌∷◌, length, map, slice_get}
use Rattle.std.specs.Option.{option_map_or}
use Rattle.patterns.specs.Letters.{times}
use Rattle.filters_paths.specs.Outcome.{edge_count}
use Rattle.goals.specs.applied_clauses.Trees as tree
use Rattle.goals.specs.applied_clauses.Trees.{Tree}
use Rattle.goals.specs.Words.{Text, Quote, number_of, texts}

-- how many letters a clause has as a pattern, repetitions unrolled
abbrev pub tree_letters : Tree → ℕ
tree_letters (tree.nodes ns is) = 1
tree_letters (tree.edges es is) = 1
tree_letters (tree.paths ps) = edge_count ps
tree_letters (tree.predicate i) = 1
tree_letters (tree.quoted body text) = tree_letters body
tree_letters (tree.dot a b) = tree_letters a + tree_letters b
tree_letters (tree.plus a b) = tree_letters a + tree_letters b
tree_letters (tree.repeat body least most) = tree_letters body * times least most

-- how many truth words so many predicates have
abbrev pub truth_count : List ℕ → ℕ
truth_count [] = 1
truth_count (i ∷ is) = 2 * truth_count is

-- how many words a clause has
abbrev pub word_count : Tree → ℕ
word_count (tree.nodes ns is) = length ns * truth_count is
word_count (tree.edges es is) = length es * (truth_count is * truth_count is)
word_count (tree.paths ps) = length ps
word_count (tree.predicate i) = 1
word_count (tree.quoted body text) = 1
word_count (tree.dot a b) = word_count a * word_count b
word_count (tree.plus a b) = word_count a + word_count b
word_count (tree.repeat body least most) = 0

-- the greatest of these numbers, or 0
abbrev pub greatest : List ℕ → ℕ
greatest [] = 0
greatest (n ∷ ns) = max n (greatest ns)

-- this many, where there is one
abbrev pub one_of : List ℕ → ℕ → ℕ
one_of [] count = 0
one_of (n ∷ ns) count = count

-- the greatest number of letters of two words one after the other, from those of the parts and how many words these have
abbrev pub joined_letters : ℕ → ℕ → ℕ → ℕ → ℕ
joined_letters v w a b = if v == 0 || w == 0 then 0 else a + b

-- how many letters the pattern of a quoted letter of this text has
abbrev pub quote_letters : List Quote → Text → ℕ
quote_letters qs text = option_map_or (λ (q : Quote). tree_letters q.body) (slice_get qs (number_of (texts qs) text)) 0

-- the greatest number of letters of the pattern of a word of a clause, or 0
abbrev pub longest : List Quote → Tree → ℕ
longest qs (tree.nodes ns is) = one_of ns (length is + 1)
longest qs (tree.edges es is) = one_of es (2 * length is + 1)
longest qs (tree.paths ps) = greatest (map length ps)
longest qs (tree.predicate i) = 1
longest qs (tree.quoted body text) = quote_letters qs text
longest qs (tree.dot a b) = joined_letters (word_count a) (word_count b) (longest qs a) (longest qs b)
longest qs (tree.plus a b) = max (longest qs a) (longest qs b)
longest qs (tree.repeat body least most) = 0
