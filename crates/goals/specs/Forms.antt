-- The patterns of quoted expressions, passing clauses and goals.
use Rattle.std.specs.Prelude.{ℕ, fold, List, [], ◌∷◌, map, slice_index_or}
use Rattle.patterns.specs.declared.pattern.Pattern as declared
use Rattle.patterns.specs.declared.pattern.Pattern.TheVariants as pattern
use Rattle.patterns.specs.declared.letter.Letter.{Letter}
use Rattle.patterns.specs.declared.letter.Letter.TheVariants as letter
use Rattle.goals.specs.applied_clauses.Trees as tree
use Rattle.goals.specs.applied_clauses.Trees.{Tree}
use Rattle.goals.specs.Words.{Word, Quote}
use Rattle.goals.specs.declared.goal_letter.GoalLetter.{GoalLetter}
use Rattle.goals.specs.declared.goal_letter.GoalLetter.TheVariants.{Node, Edge, Predicate, Absent, Quoted}

abbrev pub Pattern : Type 0
Pattern = declared.Pattern Letter

-- one after another
abbrev pub dots : List Pattern → Pattern
dots [] = pattern.Nothing
dots (p ∷ ps) = fold pattern.Dot p ps

-- one of them
abbrev pub either_of : List Pattern → Pattern
either_of [] = pattern.Nothing
either_of (p ∷ ps) = fold pattern.Either p ps

-- one edge
abbrev pub edge_pattern : ℕ → Pattern
edge_pattern e = pattern.Letter (letter.Edges (e ∷ []))

-- a path is its edges one after another
abbrev pub path_pattern : List ℕ → Pattern
path_pattern path = dots (map edge_pattern path)

-- A clause as a regular pattern, where a letter over a set matches where some member does, so that PRED tells nothing apart.
-- Quotation marks group.
abbrev pub pattern_of : Tree → Pattern
pattern_of (tree.nodes ns is) = pattern.Letter (letter.Nodes ns)
pattern_of (tree.edges es is) = pattern.Letter (letter.Edges es)
pattern_of (tree.paths ps) = either_of (map path_pattern ps)
pattern_of (tree.predicate i) = pattern.Letter (letter.Predicate i)
pattern_of (tree.quoted body text) = pattern_of body
pattern_of (tree.dot a b) = pattern.Dot (pattern_of a) (pattern_of b)
pattern_of (tree.plus a b) = pattern.Either (pattern_of a) (pattern_of b)
pattern_of (tree.repeat body least most) = pattern.Repeat (pattern_of body) least most

-- the patterns of the quoted letters, by number
abbrev pub quote_patterns : List Quote → List Pattern
quote_patterns qs = map (λ (q : Quote). pattern_of q.body) qs

-- one letter of a word
abbrev pub letter_pattern : List Pattern → GoalLetter → Pattern
letter_pattern qs (Node n) = pattern.Letter (letter.Nodes (n ∷ []))
letter_pattern qs (Edge e) = edge_pattern e
letter_pattern qs (Predicate i) = pattern.Letter (letter.Predicate i)
letter_pattern qs (Absent i) = pattern.Letter (letter.Absent i)
letter_pattern qs (Quoted i) = slice_index_or qs i pattern.Nothing

-- a goal's pattern: its word's letters one after another
abbrev pub word_pattern : List Pattern → Word → Pattern
word_pattern qs word = dots (map (letter_pattern qs) word)
