-- The labels and groups of a `switch`.
use Rattle.std.proofs.Common.{◌≡◌, ◌<◌, ◌≤◌, ℕ, zero, suc, ◌+◌, List, [], ◌∷◌, ◌++◌, map, length, get_or, take, drop, Bool, true, false, Option, Some, None, refl, sym, ap, subst, ◌∙◌, append_assoc, append-nil, length-append, arith}
use Rattle.std.specs.Prelude.{slice_get, MatchOption}
use Rattle.std.proofs.lemmas.List.{drop_all, take_more, map-append}
use Rattle.fq_core.specs.declared.span.Span.{Span}
use Rattle.c_values.specs.declared.kinds.Kind.{Kind}
use Rattle.c_typed_trees.specs.declared.statement.TypedForm.{the_lemmas}
use Rattle.c_typed_trees.specs.declared.statement.TypedGroup.{TypedGroup, out-TypedGroup}
use Rattle.c_lower_rules.specs.declared.graph_of.parts.Around.{Around}
use Rattle.c_lower_rules.specs.declared.graph_of.parts.Parts.{Parts}
use Rattle.c_lower_rules.specs.graph_of.Builder.{node, after}
use Rattle.c_lower_rules.specs.graph_of.Edges.{node_at, node_here, skip}
use Rattle.c_lower_rules.specs.graph_of.Switch.{Case, Group, cases_in, cases_from, has_default, default_at, default_from, case_guard, cases_row, group_nodes}
use Rattle.c_lower_rules.specs.graph_of.Table.{piece, group_of}
use Rattle.c_lower_rules.proofs.graph_of.After.{after_numbered}
use Rattle.c_lower.specs.Cases.{case_of}
use Rattle.c_lower.specs.Stopping.{IsStop}
use Rattle.c_lower.specs.declared.labels.CaseLabel.{CaseLabel}
use Rattle.c_lower.specs.declared.stop.Stop.{Stop}
use Rattle.c_lower.proofs.Lists.{none_behind, some_behind, here_behind}
use Rattle.c_lower.proofs.Stops.{stop_grows, memory_stops}

pub grouped : (g : TypedGroup) → group_of g ≡ record { labels = (out-TypedGroup g).labels; body = map piece (out-TypedGroup g).body }
unfolding group_of piece
grouped g = search (Rattle.std.proofs.Common.rules, the_lemmas)

-- ---- nodes of groups

pub no_group_nodes : (u : Around) (m : Parts) → after (group_nodes u []) m ≡ m
unfolding after
no_group_nodes u m = λ i. record { nodes = append-nil m.nodes i; edges = append-nil m.edges i; scopes = append-nil m.scopes i }

group_node_more : (u : Around) (xs : List Group) (g : Group) (m : Parts) → after (group_nodes u (xs ++ g ∷ [])) m ≡ after (node_here u) (after (group_nodes u xs) m)
unfolding after
group_node_more u xs g m = λ i. record {
  nodes = (ap (λ ns. m.nodes ++ ns) (map-append (λ (g : Group). node_at u u.span) xs (g ∷ [])) ∙ sym (append_assoc m.nodes (map (λ (g : Group). node_at u u.span) xs) (node_at u u.span ∷ []))) i;
  edges = sym (append-nil (m.edges ++ [])) i;
  scopes = sym (append-nil (m.scopes ++ [])) i;
}

pub group_nodes_turn : (u : Around) (groups : List TypedGroup) (i : ℕ) (g : TypedGroup) (m m1 m2 : Parts) → i < length groups → g ≡ get_or groups i g → m1 ≡ after (group_nodes u (map group_of (take i groups))) m → m2 ≡ after (node_here u) m1
    → m2 ≡ after (group_nodes u (map group_of (take (i + 1) groups))) m
group_nodes_turn u groups i g m m1 m2 within is e h =
    h ∙ ap (after (node_here u)) e ∙ sym (group_node_more u (map group_of (take i groups)) (group_of g) m)
    ∙ ap (λ gs. after (group_nodes u gs) m) (sym (ap (map group_of) (take_more groups i g within ∙ ap (λ x. take i groups ++ x ∷ []) (sym is)) ∙ map-append group_of (take i groups) (g ∷ [])))

pub group_nodes-length : (u : Around) (gs : List Group) (m : Parts) → length (after (group_nodes u gs) m).nodes ≡ length m.nodes + length gs
unfolding after
group_nodes-length u gs m = length-append m.nodes _ ∙ ap (λ k. length m.nodes + k) (mapped gs)
  where
    mapped : (gs : List Group) → length (map (λ (g : Group). node_at u u.span) gs) ≡ length gs
    mapped [] = refl
    mapped (g ∷ gs) = ap suc (mapped gs)

pub ruleset node_laws = (no_group_nodes)

-- ---- case labels

pub cases_turn : (labels : List (Span × Option ℕ)) (i : ℕ) (l : Span × Option ℕ) (g : ℕ) → i < length labels → l ≡ get_or labels i l → cases_in g (drop i labels) ≡ cases_in g (l ∷ []) ++ cases_in g (drop (i + 1) labels)
cases_turn labels i l g within is = ap (cases_in g) (here_behind labels i l within is) ∙ by l.0 l.1
  where
    by : (span : Span) (o : Option ℕ) → cases_in g ((span, o) ∷ drop (i + 1) labels) ≡ cases_in g ((span, o) ∷ []) ++ cases_in g (drop (i + 1) labels)
    by span None = refl
    by span (Some value) = refl

pub no_case : (all : List Case) (labels : List (Span × Option ℕ)) (i : ℕ) (l : Span × Option ℕ) (g : ℕ) (cases : List CaseLabel) → i < length labels → l ≡ get_or labels i l → l.1 ≡ None
    → all ≡ map case_of cases ++ cases_in g (drop i labels) → all ≡ map case_of cases ++ cases_in g (drop (i + 1) labels)
no_case all labels i l g cases within is e h = h ∙ ap (λ cs. map case_of cases ++ cs) (cases_turn labels i l g within is ∙ ap (λ o. cases_in g ((l.0, o) ∷ []) ++ cases_in g (drop (i + 1) labels)) e)

pub one_case : (all : List Case) (labels : List (Span × Option ℕ)) (i : ℕ) (l : Span × Option ℕ) (g value : ℕ) (cases more : List CaseLabel) → i < length labels → l ≡ get_or labels i l → l.1 ≡ Some value → more ≡ cases ++ record { span = l.0; value = value; target = g } ∷ []
    → all ≡ map case_of cases ++ cases_in g (drop i labels) → all ≡ map case_of more ++ cases_in g (drop (i + 1) labels)
one_case all labels i l g value cases more within is e k h =
    h ∙ ap (λ cs. map case_of cases ++ cs) (cases_turn labels i l g within is ∙ ap (λ o. cases_in g ((l.0, o) ∷ []) ++ cases_in g (drop (i + 1) labels)) e)
    ∙ sym (append_assoc (map case_of cases) (record { span = l.0; value = value; target = g } ∷ []) (cases_in g (drop (i + 1) labels)))
    ∙ ap (λ cs. cs ++ cases_in g (drop (i + 1) labels)) (sym (ap (map case_of) k ∙ map-append case_of cases (record { span = l.0; value = value; target = g } ∷ [])))

pub cases_end : (all : List Case) (labels : List (Span × Option ℕ)) (i : ℕ) (g : ℕ) (cases : List CaseLabel) → length labels ≤ i → all ≡ map case_of cases ++ cases_in g (drop i labels) → map case_of cases ≡ all
cases_end all labels i g cases end h = sym (h ∙ ap (λ ls. map case_of cases ++ cases_in g ls) (drop_all i labels end) ∙ append-nil (map case_of cases))

pub group_cases_turn : (all : List Case) (groups : List TypedGroup) (i : ℕ) (group : TypedGroup) (g : ℕ) (cases more : List CaseLabel) → i < length groups → group ≡ get_or groups i group → map case_of more ≡ map case_of cases ++ cases_in (g + i) (out-TypedGroup group).labels
    → all ≡ map case_of cases ++ cases_from (g + i) (map group_of (drop i groups)) → all ≡ map case_of more ++ cases_from (g + (i + 1)) (map group_of (drop (i + 1) groups))
group_cases_turn all groups i group g cases more within is e h =
    h ∙ ap (λ gs. map case_of cases ++ cases_from (g + i) (map group_of gs)) (here_behind groups i group within is)
    ∙ sym (append_assoc (map case_of cases) (cases_in (g + i) (group_of group).labels) (cases_from (g + i + 1) (map group_of (drop (i + 1) groups))))
    ∙ ap (λ (x : Group). (map case_of cases ++ cases_in (g + i) x.labels) ++ cases_from (g + i + 1) (map group_of (drop (i + 1) groups))) (grouped group)
    ∙ ap (λ cs. cs ++ cases_from (g + i + 1) (map group_of (drop (i + 1) groups))) (sym e)
    ∙ ap (λ k. map case_of more ++ cases_from k (map group_of (drop (i + 1) groups))) (let k : g + i + 1 ≡ g + (i + 1) = omega arith in k)

pub group_cases_end : (all : List Case) (groups : List TypedGroup) (i : ℕ) (g : ℕ) (cases : List CaseLabel) → length groups ≤ i → all ≡ map case_of cases ++ cases_from (g + i) (map group_of (drop i groups)) → map case_of cases ≡ all
group_cases_end all groups i g cases end h = sym (h ∙ ap (λ gs. map case_of cases ++ cases_from (g + i) (map group_of gs)) (drop_all i groups end) ∙ append-nil (map case_of cases))

-- ---- the default

pub default_here : (labels : List (Span × Option ℕ)) (i : ℕ) (l : Span × Option ℕ) (found : Bool) → i < length labels → l ≡ get_or labels i l → l.1 ≡ None → found ≡ has_default (drop i labels) → true ≡ found
default_here labels i l found within is e h = sym (h ∙ ap has_default (here_behind labels i l within is) ∙ ap (λ o. has_default ((l.0, o) ∷ drop (i + 1) labels)) e)

pub default_further : (labels : List (Span × Option ℕ)) (i : ℕ) (l : Span × Option ℕ) (value : ℕ) (found : Bool) → i < length labels → l ≡ get_or labels i l → l.1 ≡ Some value → found ≡ has_default (drop i labels) → found ≡ has_default (drop (i + 1) labels)
default_further labels i l value found within is e h = h ∙ ap has_default (here_behind labels i l within is) ∙ ap (λ o. has_default ((l.0, o) ∷ drop (i + 1) labels)) e

pub default_nowhere : (labels : List (Span × Option ℕ)) (i : ℕ) (found : Bool) → length labels ≤ i → found ≡ has_default (drop i labels) → false ≡ found
default_nowhere labels i found end h = sym (h ∙ ap has_default (drop_all i labels end))

module _ (groups : List TypedGroup) (i : ℕ) (group : TypedGroup) (g z node : ℕ) (within : i < length groups) (is : group ≡ get_or groups i group) (left : node ≡ default_from (g + i) (map group_of (drop i groups)) z) where
  default_step : node ≡ default_at (has_default (out-TypedGroup group).labels) (g + i) (default_from (g + (i + 1)) (map group_of (drop (i + 1) groups)) z)
  default_step =
      left ∙ ap (λ gs. default_from (g + i) (map group_of gs) z) (here_behind groups i group within is)
      ∙ ap (λ (x : Group). default_at (has_default x.labels) (g + i) (default_from (g + i + 1) (map group_of (drop (i + 1) groups)) z)) (grouped group)
      ∙ ap (λ k. default_at (has_default (out-TypedGroup group).labels) (g + i) (default_from k (map group_of (drop (i + 1) groups)) z)) (let k : g + i + 1 ≡ g + (i + 1) = omega arith in k)

  pub group_default : true ≡ has_default (out-TypedGroup group).labels → g + i ≡ node
  group_default e = sym (default_step ∙ ap (λ b. default_at b (g + i) (default_from (g + (i + 1)) (map group_of (drop (i + 1) groups)) z)) (sym e))

  pub other_group : false ≡ has_default (out-TypedGroup group).labels → node ≡ default_from (g + (i + 1)) (map group_of (drop (i + 1) groups)) z
  other_group e = default_step ∙ ap (λ b. default_at b (g + i) (default_from (g + (i + 1)) (map group_of (drop (i + 1) groups)) z)) (sym e)

pub no_group : (groups : List TypedGroup) (i g z node : ℕ) → length groups ≤ i → node ≡ default_from (g + i) (map group_of (drop i groups)) z → z ≡ node
no_group groups i g z node end h = sym (h ∙ ap (λ gs. default_from (g + i) (map group_of gs) z) (drop_all i groups end))

-- ---- the guards of labels

-- what stands past a list of labels
abbrev pub no_label : CaseLabel
no_label = record { span = record { file = 0; line = 0; column = 0; start = 0; end = 0 }; value = 0; target = 0 }

-- what is left to be made of the labels
abbrev pub labels_left : Around → ℕ → Kind → List Case → ℕ → ℕ → Parts → Parts
labels_left u cell kind [] other c m = m
labels_left u cell kind (l ∷ ls) other c m = after (cases_row u cell kind (l ∷ ls) other c) m

module _ (u : Around) (cell : ℕ) (kind : Kind) (other c : ℕ) (m : Parts) where
  pub no_labels : (cases : List CaseLabel) → cases ≡ [] → after (cases_row u cell kind (map case_of cases) other c) m ≡ after (skip u c other) m
  no_labels cases e = ap (λ cs. after (cases_row u cell kind (map case_of cs) other c) m) e

  pub labels_begin : (cases : List CaseLabel) → (cases ≡ [] → ⊥) → after (cases_row u cell kind (map case_of cases) other c) m ≡ labels_left u cell kind (map case_of cases) other c m
  labels_begin [] h = absurd (h refl)
  labels_begin (l ∷ ls) h = refl

pub ruleset label_laws = (no_labels, labels_begin, stop_grows, memory_stops)

abbrev two_guards : Around → ℕ → Kind → CaseLabel → Bool → ℕ → ℕ → Parts → Parts
two_guards u cell kind l last a z m = after (case_guard u cell kind (case_of l) false last a z) (after (case_guard u cell kind (case_of l) true true a l.target) m)

module _ (u : Around) (cell : ℕ) (kind : Kind) (other : ℕ) (l : CaseLabel) (rest : List CaseLabel) (here to : ℕ) (last : Bool) (m m1 : Parts) where
  last_label : rest ≡ [] → (to ≡ other) × (last ≡ true) × (m1 ≡ m) → labels_left u cell kind (map case_of (l ∷ rest)) other here m ≡ labels_left u cell kind (map case_of rest) other to (two_guards u cell kind l last here to m1)
  last_label e h =
      ap (λ ls. labels_left u cell kind (map case_of (l ∷ ls)) other here m) e
      ∙ after_numbered (λ n e' k. case_guard u cell kind (case_of l) true true here l.target ∷ case_guard u cell kind (case_of l) false true here other ∷ []) m
      ∙ (λ i. two_guards u cell kind l (sym h.1 i) here (sym h.0 i) (sym h.2 i))
      ∙ ap (λ ls. labels_left u cell kind (map case_of ls) other to (two_guards u cell kind l last here to m1)) (sym e)

  more_labels : (y : CaseLabel) (ys : List CaseLabel) → rest ≡ y ∷ ys → (to ≡ length m.nodes) × (last ≡ false) × (m1 ≡ after (node_here u) m)
      → labels_left u cell kind (map case_of (l ∷ rest)) other here m ≡ labels_left u cell kind (map case_of rest) other to (two_guards u cell kind l last here to m1)
  more_labels y ys e h =
      ap (λ ls. labels_left u cell kind (map case_of (l ∷ ls)) other here m) e
      ∙ after_numbered (λ n e' k. node_here u ∷ case_guard u cell kind (case_of l) true true here l.target ∷ case_guard u cell kind (case_of l) false false here n ∷ cases_row u cell kind (map case_of (y ∷ ys)) other n ∷ []) m
      ∙ (λ i. labels_left u cell kind (map case_of (y ∷ ys)) other (sym h.0 i) (two_guards u cell kind l (sym h.1 i) here (sym h.0 i) (sym h.2 i)))
      ∙ ap (λ ls. labels_left u cell kind (map case_of ls) other to (two_guards u cell kind l last here to m1)) (sym e)

labels_grow : (u : Around) (cell : ℕ) (kind : Kind) (other c : ℕ) (m : Parts) (ls : List Case) (stop : Stop) → IsStop stop m → IsStop stop (labels_left u cell kind ls other c m)
labels_grow u cell kind other c m [] stop h = h
labels_grow u cell kind other c m (l ∷ ls) stop h = stop_grows stop _ _ h

module _ (u : Around) (cell : ℕ) (kind : Kind) (other : ℕ) (list : List CaseLabel) (i : ℕ) (l : CaseLabel) (here to : ℕ) (last : Bool) (m m1 : Parts) (within : i < length list) (is : l ≡ get_or list i l)
    (next : MatchOption (slice_get list (i + 1)) ((to ≡ other) × (last ≡ true) × (m1 ≡ m)) (λ _. (to ≡ length m.nodes) × (last ≡ false) × (m1 ≡ after (node_here u) m))) where
  label_turn : labels_left u cell kind (map case_of (drop i list)) other here m ≡ labels_left u cell kind (map case_of (drop (i + 1) list)) other to (two_guards u cell kind l last here to m1)
  label_turn = ap (λ ls. labels_left u cell kind (map case_of ls) other here m) (here_behind list i l within is) ∙ by (slice_get list (i + 1)) refl next
    where
      by : (o : Option CaseLabel) → slice_get list (i + 1) ≡ o → MatchOption o ((to ≡ other) × (last ≡ true) × (m1 ≡ m)) (λ _. (to ≡ length m.nodes) × (last ≡ false) × (m1 ≡ after (node_here u) m))
          → labels_left u cell kind (map case_of (l ∷ drop (i + 1) list)) other here m ≡ labels_left u cell kind (map case_of (drop (i + 1) list)) other to (two_guards u cell kind l last here to m1)
      by None e h = last_label u cell kind other l (drop (i + 1) list) here to last m m1 (none_behind list (i + 1) e) h
      by (Some y) e h = more_labels u cell kind other l (drop (i + 1) list) here to last m m1 y (drop (i + 1 + 1) list) (some_behind list (i + 1) y e) h

  pub labels_go_on : (whole m2 : Parts) → m2 ≡ two_guards u cell kind l last here to m1 → whole ≡ labels_left u cell kind (map case_of (drop i list)) other here m → whole ≡ labels_left u cell kind (map case_of (drop (i + 1) list)) other to m2
  labels_go_on whole m2 e h = h ∙ label_turn ∙ ap (λ k. labels_left u cell kind (map case_of (drop (i + 1) list)) other to k) (sym e)

  pub labels_stop : (whole : Parts) (stop : Stop) → whole ≡ labels_left u cell kind (map case_of (drop i list)) other here m → IsStop stop (two_guards u cell kind l last here to m1) → IsStop stop whole
  labels_stop whole stop e h = subst (λ p. IsStop stop p) (sym (e ∙ label_turn)) (labels_grow u cell kind other to _ (map case_of (drop (i + 1) list)) stop h)

pub labels_end : (u : Around) (cell : ℕ) (kind : Kind) (other : ℕ) (list : List CaseLabel) (i here : ℕ) (m whole : Parts) → length list ≤ i → whole ≡ labels_left u cell kind (map case_of (drop i list)) other here m → m ≡ whole
labels_end u cell kind other list i here m whole end h = sym (h ∙ ap (λ ls. labels_left u cell kind (map case_of ls) other here m) (drop_all i list end))
