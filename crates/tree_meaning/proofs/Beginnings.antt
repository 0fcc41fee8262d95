-- The cells in which a run begins.
use Rattle.std.proofs.Common.{◌≡◌, ◌<◌, ◌≤◌, ℕ, ◌+◌, List, [], ◌∷◌, ◌++◌, map, take, drop, length, get_or, refl, sym, ap, ◌∙◌, append_assoc}
use Rattle.std.specs.Prelude.{filter_map}
use Rattle.std.specs.List.{flat_map}
use Rattle.std.proofs.lemmas.List.{append-nil, drop_all, take_more}
use Rattle.c_values.specs.declared.kinds.Kind.{Kind}
use Rattle.cfa.specs.declared.parts.Variable.{Variable}
use Rattle.c_meaning.specs.Starts.{fitted_words}
use Rattle.c_typed_trees.specs.Fitting.{word_kind}
use Rattle.c_typed_trees.specs.declared.unit.Global.{Global}

-- the first values of globals
abbrev pub values_of : List Global → List ℕ
values_of gs = map (λ (g : Kind × ℕ). g.1) (flat_map (λ (g : Global). map (λ value. (g.variable.kind, value)) g.first) gs)

own_values : (kind : Kind) (vs : List ℕ) (rest : List (Kind × ℕ)) → map (λ (g : Kind × ℕ). g.1) (map (λ value. (kind, value)) vs ++ rest) ≡ vs ++ map (λ (g : Kind × ℕ). g.1) rest
own_values kind [] rest = refl
own_values kind (v ∷ vs) rest = ap (λ l. v ∷ l) (own_values kind vs rest)

pub values_more : (g : Global) (gs : List Global) → values_of (g ∷ gs) ≡ g.first ++ values_of gs
values_more g gs = own_values g.variable.kind g.first _

values_push : (gs : List Global) (g : Global) → values_of (gs ++ g ∷ []) ≡ values_of gs ++ g.first
values_push [] g = values_more g [] ∙ append-nil g.first
values_push (h ∷ gs) g = values_more h (gs ++ g ∷ []) ∙ ap (λ l. h.first ++ l) (values_push gs g) ∙ sym (append_assoc h.first (values_of gs) g.first) ∙ ap (λ l. l ++ g.first) (sym (values_more h gs))

-- those of one global more
pub values_next : (gs : List Global) (i : ℕ) (g : Global) → i < length gs → g ≡ get_or gs i g → values_of (take (i + 1) gs) ≡ values_of (take i gs) ++ g.first
values_next gs i g lt is = ap values_of (take_more gs i g lt) ∙ ap (λ x. values_of (take i gs ++ x ∷ [])) (sym is) ∙ values_push (take i gs) g

-- ---- the words of parameters

no_kinds : (left : List ℕ) → fitted_words left [] ≡ []
no_kinds [] = refl
no_kinds (word ∷ left) = refl

-- behind all parameters
pub words_end : (vs : List Variable) (whole : List ℕ) (i : ℕ) (values left : List ℕ) → whole ≡ values ++ fitted_words left (filter_map word_kind (drop i vs)) → length vs ≤ i → values ≡ whole
words_end vs whole i values left h le =
    sym (append-nil values) ∙ ap (λ l. values ++ l) (sym (ap (λ ps. fitted_words left (filter_map word_kind ps)) (drop_all i vs le) ∙ no_kinds left)) ∙ sym h
