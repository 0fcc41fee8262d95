-- The bytes `cover NODES(ID)$` ask for one query.
use Rattle.std.proofs.Common.{◌≡◌, false, true, List, [], Option, Some, None, Result, Ok, Err, refl, sym, ap, ◌∙◌}
use Rattle.bounds_check_laws.specs.ending_laws.Laws.{AllNodesAsk}
use Rattle.fq_core.specs.declared.refusal.Fault.{Fault}
use Rattle.fql_read.proofs.QueryLaws.{query_again}
use Rattle.fql_read.specs.Reading as reading
use Rattle.fql_tokens.proofs.OutcomeLaws.{text_accepts}
use Rattle.fql_tokens.specs.declared.token.Token.{Token}
use Rattle.fql_read.specs.declared.cover.CoverTree.TheVariants as cover
use Rattle.fql_read.specs.declared.cover.Split.{Split}
use Rattle.fql_read.specs.declared.filter.FilterForm.TheVariants as filter
use Rattle.fql_read.specs.declared.query.Query.{Query}
use Rattle.fql_read.specs.Forms.{kind_of}
use Rattle.fql_read.specs.QueryForm.{predicates_of}
use Rattle.fql_read.specs.QueryLimits.{preds}
use Rattle.fql_read.specs.Reading.{after_head, atom_at, behind, bracketed_at, closed_at, double_at, expr_at, filter_in, kinds_at, kinds_in, level_by, operand_at, operators_at, paths_at, pred_at, quoted_at, single_at, split_at, split_in}
use Rattle.fql_read.specs.ReadingQueries.{base_at, clause_at, cover_at, passing_at, query_at}
use Rattle.fql_read.specs.Usable.{is_within, quote_depth}
use Rattle.fql_tokens.specs.First.{beginning, file_at, filter_at, number_at, predicate_at, word_at}
use Rattle.fql_tokens.specs.Limits.{is_too_deep}
use Rattle.fql_tokens.specs.Outcome.{cut_at, cutting, text_outcome}
use Rattle.fql_tokens.specs.Spelling.{filter_of, keyword_of}
use Rattle.bounds_check_laws.specs.asked_ends.Laws.{AllEndsAreAsked, asking_for_ends}

abbrev all_nodes : Split
all_nodes = record { filter = record { column = 13; form = filter.Id }; predicates = [] }

abbrev own_query : Query
own_query = record { base = None; cover = record { first = false; body = cover.Nodes all_nodes; last = true }; passing = None; predicates = [] }

-- what is read of tokens, where there are some
read_of : Result (List Token) Fault → Option Query
read_of (Ok tokens) = query_at asking_for_ends (predicates_of tokens) tokens
read_of (Err cause) = None

read_is : read_of (text_outcome asking_for_ends) ≡ Some own_query
unfolding after_head atom_at base_at beginning behind bracketed_at clause_at closed_at cover_at cut_at cutting double_at expr_at file_at filter_at filter_in filter_of is_too_deep is_within keyword_of kind_of kinds_at kinds_in level_by number_at operand_at operators_at passing_at paths_at pred_at predicate_at predicates_of preds query_at quote_depth quoted_at read_of single_at split_at split_in text_outcome word_at reading.filter_at
read_is = refl

read_from : (tokens : List Token) (q : Query) → text_outcome asking_for_ends ≡ Ok tokens → query_at asking_for_ends (predicates_of tokens) tokens ≡ Some q → read_of (text_outcome asking_for_ends) ≡ Some q
unfolding read_of
read_from tokens q cut is = ap read_of cut ∙ is

same_query : (q r : Query) → (let a : Option Query = Some q in let b : Option Query = Some r in a ≡ b) → q ≡ r
same_query q r e = cc

pub all_ends_are_asked : AllNodesAsk → AllEndsAreAsked
all_ends_are_asked law graph k entry q g own asked =
    let same : q ≡ own_query = same_query q own_query (sym (read_from asked.tokens q (text_accepts asking_for_ends asked.tokens asked.cut) (query_again asking_for_ends (predicates_of asked.tokens) asked.spelled)) ∙ read_is) in
    law graph k entry q all_nodes g own (ap (λ (r : Query). r.cover.first) same) (ap (λ (r : Query). r.cover.last) same) (ap (λ (r : Query). r.passing) same) (ap (λ (r : Query). r.base) same)
    (ap (λ (r : Query). r.cover.body) same) refl refl
