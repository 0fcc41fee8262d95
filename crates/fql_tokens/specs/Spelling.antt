-- How words and marks are written.
use Rattle.std.specs.Prelude.{ℕ, Bool, ◌==◌, ◌&&◌, if◌then◌else◌, List, [], ◌∷◌, find, map, Option, Some, None, codes}
use Rattle.std.specs.Char.{to_ascii_lowercase}
use Rattle.std.specs.Str.{bytes_eq}
use Rattle.fql_tokens.specs.declared.token.Mark.{Mark}
use Rattle.fql_tokens.specs.declared.token.Mark.TheVariants as marks
use Rattle.fql_tokens.specs.declared.token.Keyword.{Keyword}
use Rattle.fql_tokens.specs.declared.token.Keyword.TheVariants as keywords
use Rattle.fql_tokens.specs.declared.token.FilterName.{FilterName}
use Rattle.fql_tokens.specs.declared.token.FilterName.TheVariants as filters

-- the same letters, in any ASCII case
abbrev pub is_written : List ℕ → List ℕ → Bool
is_written word text = bytes_eq (map to_ascii_lowercase word) (map to_ascii_lowercase text)

abbrev pub spelling : Keyword → List ℕ
spelling keywords.In = codes "in"
spelling keywords.Cover = codes "cover"
spelling keywords.Passing = codes "passing"
spelling keywords.Nodes = codes "NODES"
spelling keywords.Edges = codes "EDGES"
spelling keywords.Paths = codes "PATHS"
spelling keywords.Pred = codes "PRED"
spelling keywords.Id = codes "ID"
spelling keywords.Not = codes "NOT"
spelling keywords.Complement = codes "COMPLEMENT"
spelling keywords.Union = codes "UNION"
spelling keywords.Intersect = codes "INTERSECT"
spelling keywords.SetMinus = codes "SETMINUS"
spelling keywords.Compose = codes "COMPOSE"

abbrev pub filter_spelling : FilterName → List ℕ
filter_spelling filters.File = codes "FILE"
filter_spelling filters.Line = codes "LINE"
filter_spelling filters.Func = codes "FUNC"
filter_spelling filters.Label = codes "LABEL"
filter_spelling filters.Call = codes "CALL"
filter_spelling filters.Entry = codes "ENTRY"
filter_spelling filters.Exit = codes "EXIT"
filter_spelling filters.BasicBlockEntry = codes "BASICBLOCKENTRY"
filter_spelling filters.ConditionEdge = codes "CONDITIONEDGE"
filter_spelling filters.ConditionGraph = codes "CONDITIONGRAPH"
filter_spelling filters.DecisionEdge = codes "DECISIONEDGE"
filter_spelling filters.StatementType = codes "STMTTYPE"
filter_spelling filters.Definition = codes "DEF"
filter_spelling filters.Use = codes "USE"

abbrev pub all_keywords : List Keyword
all_keywords =
    keywords.In ∷ keywords.Cover ∷ keywords.Passing ∷ keywords.Nodes ∷ keywords.Edges ∷ keywords.Paths ∷ keywords.Pred ∷ keywords.Id ∷
    keywords.Not ∷ keywords.Complement ∷ keywords.Union ∷ keywords.Intersect ∷ keywords.SetMinus ∷ keywords.Compose ∷ []

abbrev pub all_filters : List FilterName
all_filters =
    filters.File ∷ filters.Line ∷ filters.Func ∷ filters.Label ∷ filters.Call ∷ filters.Entry ∷ filters.Exit ∷
    filters.BasicBlockEntry ∷ filters.ConditionEdge ∷ filters.ConditionGraph ∷ filters.DecisionEdge ∷
    filters.StatementType ∷ filters.Definition ∷ filters.Use ∷ []

-- the word of the query language that a text is
unfoldable pub keyword_of : List ℕ → Option Keyword
keyword_of text = find (λ k. is_written (spelling k) text) all_keywords

-- the filter of which a text is the name
unfoldable pub filter_of : List ℕ → Option FilterName
filter_of text = find (λ f. is_written (filter_spelling f) text) all_filters

-- the mark that is one byte
abbrev pub single_mark : ℕ → Option Mark
single_mark b =
    if b == 94 then Some marks.Start
    else (if b == 36 then Some marks.End
    else (if b == 43 then Some marks.Plus
    else (if b == 46 then Some marks.Dot
    else (if b == 42 then Some marks.Star
    else (if b == 40 then Some marks.Open
    else (if b == 41 then Some marks.Close
    else (if b == 44 then Some marks.Comma
    else (if b == 34 then Some marks.Quote
    else None))))))))

-- the mark that is two bytes: `->`, `==`, `<=` or `>=`
abbrev pub double_mark : ℕ → ℕ → Option Mark
double_mark a b =
    if a == 45 && b == 62 then Some marks.Arrow
    else (if a == 61 && b == 61 then Some marks.Exactly
    else (if a == 60 && b == 61 then Some marks.AtMost
    else (if a == 62 && b == 61 then Some marks.AtLeast
    else None)))
