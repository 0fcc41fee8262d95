-- What words name is a kind.
use Rattle.std.proofs.Common.{◌≡◌, List, Option, Some, refl, subst}
use Rattle.std.specs.Prelude.{IfSome}
use Rattle.std.specs.Map.{values_of}
use Rattle.std.proofs.lemmas.List.Sums.{AllPass-from_list_all}
use Rattle.std.proofs.lemmas.Map.Views.{IfSome-lookup_from_All}
use Rattle.c_values.specs.declared.kinds.Kind.{Kind}
use Rattle.c_values.specs.Kind.{is_kind, IsKind}
use Rattle.c_parse.specs.declared.sign.TypeWord.{TypeWord}
use Rattle.c_parse.specs.Types.{are_same_words, named_kinds, kind_of}

of_words : (ws : List TypeWord) → IfSome (kind_of ws) IsKind
unfolding kind_of
of_words ws = IfSome-lookup_from_All IsKind (λ name. are_same_words name ws) named_kinds (AllPass-from_list_all is_kind (values_of named_kinds) refl)

pub words_kind : (ws : List TypeWord) (kind : Kind) → kind_of ws ≡ Some kind → IsKind kind
words_kind ws kind e = subst (λ o. IfSome o IsKind) e (of_words ws)
