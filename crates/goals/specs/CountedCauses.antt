-- What a query may be refused for once its filters have been applied, by counts, of which nothing has to be listed.
use Rattle.std.specs.Prelude.{Bool, false, ◌||◌, nat_lt, if◌then◌else◌, List, [], ◌∷◌, Option, Some, None}
use Rattle.std.specs.Option.{option_map_or}
use Rattle.fq_core.specs.declared.refusal.Place.TheVariants as place
use Rattle.fq_core.specs.declared.refusal.Refusal.{Refusal}
use Rattle.goals.specs.applied_clauses.Outcome.{too_many}
use Rattle.goals.specs.applied_clauses.Trees.{Tree}
use Rattle.goals.specs.Counts.{longest, tree_letters, word_count}
use Rattle.goals.specs.Plans.{most_letters, most_words, refused}
use Rattle.goals.specs.Words.{Quote}

abbrev pub is_long_tree : Tree → Bool
is_long_tree t = nat_lt most_letters (tree_letters t)

abbrev pub counted_causes : List Quote → Tree → Option Tree → List (Option Refusal)
counted_causes qs cover passing =
    (if nat_lt most_words (word_count cover) then Some (too_many most_words) else None) ∷
    (if nat_lt most_letters (longest qs cover) || option_map_or is_long_tree passing false then Some (refused 73 (place.Limit most_letters)) else None) ∷
    (if nat_lt 0 (word_count cover) then None else Some (refused 72 place.QueryWhole)) ∷ []
