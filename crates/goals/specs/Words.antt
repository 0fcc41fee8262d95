-- The words of a cover clause (FQL: Holzer, Schallhart, Tautschnig, Veith, VMCAI 2009 and ASE 2010).
use Rattle.std.specs.Prelude.{ℕ, Bool, false, ◌==◌, List, [], ◌∷◌, ◌++◌, map}
use Rattle.std.specs.List.{flat_map, position_or_len}
use Rattle.std.specs.Str.{bytes_eq}
use Rattle.std.specs.Cmp.Lexicographic.{pointwise}
use Rattle.indexmap.specs.IndexSet.{insert_all}
use Rattle.goals.specs.applied_clauses.Trees as tree
use Rattle.goals.specs.applied_clauses.Trees.{Tree}
use Rattle.goals.specs.declared.goal_letter.GoalLetter.{GoalLetter}
use Rattle.goals.specs.declared.goal_letter.GoalLetter.TheVariants.{Node, Edge, Predicate, Absent, Quoted}

abbrev pub Text : Type 0
Text = List ℕ

abbrev pub Word : Type 0
Word = List GoalLetter

-- ---- quoted letters

-- a quoted expression, with the bytes between its quotation marks
pub record Quote : Type 0 where
  pub text : Text
  pub body : Tree

-- those that are letters of a clause, in the order of the text
abbrev pub quoted : Tree → List Quote
quoted (tree.nodes ns is) = []
quoted (tree.edges es is) = []
quoted (tree.paths ps) = []
quoted (tree.predicate i) = []
quoted (tree.quoted body text) = record { text = text; body = body } ∷ []
quoted (tree.dot a b) = quoted a ++ quoted b
quoted (tree.plus a b) = quoted a ++ quoted b
quoted (tree.repeat body least most) = quoted body

-- two quoted letters are equal where their texts are
abbrev pub same_text : Quote → Quote → Bool
same_text p q = bytes_eq p.text q.text

-- the different ones, the first of each, in the order of first use
abbrev pub quotes_of : Tree → List Quote
quotes_of t = insert_all same_text [] (quoted t)

abbrev pub texts : List Quote → List Text
texts qs = map (λ (q : Quote). q.text) qs

-- the number of a quoted letter is the place of its text
abbrev pub number_of : List Text → Text → ℕ
number_of ts text = position_or_len (λ t. bytes_eq t text) ts

-- ---- words

-- each word of the first, followed by each word of the second
abbrev pub product : List Word → List Word → List Word
product vs ws = flat_map (λ v. map (λ w. v ++ w) ws) vs

-- the truth words of predicates: all lists of one letter for each, the predicate before the absent predicate, the first
-- predicate outermost
abbrev pub truth_words : List ℕ → List Word
truth_words [] = [] ∷ []
truth_words (i ∷ is) = product ((Predicate i ∷ []) ∷ (Absent i ∷ []) ∷ []) (truth_words is)

-- each of these words, the edge, and each of them again
abbrev pub edge_words : List Word → ℕ → List Word
edge_words ts e = product ts (map (λ t. Edge e ∷ t) ts)

-- The words of a clause, in order. A node is followed by each truth word, and an edge stands between each two of them.
-- Outside quotation marks there is no repetition.
abbrev pub words : List Text → Tree → List Word
words ts (tree.nodes ns is) = flat_map (λ n. map (λ t. Node n ∷ t) (truth_words is)) ns
words ts (tree.edges es is) = flat_map (edge_words (truth_words is)) es
words ts (tree.paths ps) = map (λ path. map Edge path) ps
words ts (tree.predicate i) = (Predicate i ∷ []) ∷ []
words ts (tree.quoted body text) = (Quoted (number_of ts text) ∷ []) ∷ []
words ts (tree.dot a b) = product (words ts a) (words ts b)
words ts (tree.plus a b) = words ts a ++ words ts b
words ts (tree.repeat body least most) = []

-- the words of a clause, with its quoted letters numbered in the order of first use
abbrev pub words_of : Tree → List Word
words_of t = words (texts (quotes_of t)) t

abbrev pub same_letter : GoalLetter → GoalLetter → Bool
same_letter (Node m) (Node n) = m == n
same_letter (Edge m) (Edge n) = m == n
same_letter (Predicate m) (Predicate n) = m == n
same_letter (Absent m) (Absent n) = m == n
same_letter (Quoted m) (Quoted n) = m == n
same_letter _ _ = false

abbrev pub same_word : Word → Word → Bool
same_word = pointwise same_letter

-- the words of the goals: each once, at the place of the first
abbrev pub goal_words : Tree → List Word
goal_words t = insert_all same_word [] (words_of t)
