-- `@DEF` and `@LABEL` keep the edges that tell what is done with a name.
use Rattle.std.proofs.Common.{rules, ◌≡◌, ℕ, Bool, true, false, not, ◌||◌, ◌&&◌, if◌then◌else◌, List, [], ◌∷◌, Option, Some, None, refl, sym, ap, ◌∙◌, true≢false, bytes_eq}
use Rattle.fq_core.specs.declared.statement_kind.StatementKind.{StatementKind}
use Rattle.fq_core.specs.declared.statement_kind.StatementKind.TheVariants as kinds
use Rattle.cfa.specs.declared.expr.CellPlace.{CellPlace}
use Rattle.cfa.specs.declared.parts.Edge.{Edge}
use Rattle.cfa.specs.declared.parts.GraphParts.{GraphParts}
use Rattle.cfa.specs.declared.parts.Operation.{Operation}
use Rattle.cfa.specs.declared.parts.Operation.TheVariants.{Skip, Assign, Clear, Guard, Call, Return, Answer, Assert, Assume}
use Rattle.tree_events.specs.declared.edge_events.event.What.TheVariants.{Did, Valued, Enters, Again}
use Rattle.tree_events.specs.edge_events.Told.{first_name, is_result, kind_tells, label_tells, operation_tells, put_tells, skip_tells}
use Rattle.fql_read.specs.declared.filter.Filter.{the_lemmas as filter_lemmas}
use Rattle.fql_read.specs.declared.filter.FilterForm.TheVariants as form
use Rattle.filters.specs.Kept.{kept_by}
use Rattle.filters.specs.Parts.{Part, keeping, whole}
use Rattle.filters.specs.Properties.{has_name, is_name}
use Rattle.c_lower_rules.specs.graph_of.GraphOf.{graph_of}
use Rattle.measurer_laws.specs.table_laws.Marks.{AllNamesStand, IsLabelled, NamesStand, WritesOne, is_label, is_skip, puts}
use Rattle.measurer_laws.proofs.table_laws.Whole.{names_stand_in_graphs}
use Rattle.measurer_laws.specs.covered_laws.Covered.{tells_one}
use Rattle.measurer_laws.specs.covered_laws.Filters.{Selects, filter_of}
use Rattle.measurer_laws.specs.covered_laws.Names.{DefinitionsSelect, LabelsSelect, defines, is_done, labels}
use Rattle.measurer_laws.proofs.covered_laws.Selects.{selects_by}
use Rattle.measurer_laws.proofs.covered_laws.Tells.{first_passes}

and_none : (b : Bool) → (b && false) ≡ false
and_none true = refl
and_none false = refl

or_none : (b : Bool) → (b || false) ≡ b
or_none true = refl
or_none false = refl

module _ (name : List ℕ) where
  kind_done : (kind : StatementKind) → is_done name (kind_tells kind) ≡ false
  kind_done kinds.If = refl
  kind_done kinds.For = refl
  kind_done kinds.While = refl
  kind_done kinds.Do = refl
  kind_done kinds.Switch = refl
  kind_done kinds.Assign = refl
  kind_done kinds.Call = refl
  kind_done kinds.Return = refl
  kind_done kinds.Decl = refl
  kind_done kinds.Assert = refl
  kind_done kinds.Assume = refl
  kind_done kinds.Jump = refl
  kind_done kinds.Label = refl
  kind_done kinds.Empty = refl

  -- a Skip without a label
  skip_done : (e : Edge) → e.label ≡ None → is_done name (skip_tells e) ≡ false
  skip_done e none = by e.enter e.back e.label none
    where
      by : (a b : Bool) (o : Option (List ℕ)) → o ≡ None → is_done name (if a then Enters else if b then Again else label_tells o e.statement) ≡ false
      by true b o is = refl
      by false true o is = refl
      by false false None is = kind_done e.statement
      by false false (Some own) is = absurd cc

  no_writes : (ws : List (List ℕ)) (op : Operation) → puts op ≡ false → WritesOne ws op → false ≡ has_name ws name
  no_writes [] op is h = refl
  no_writes (x ∷ []) op is h = absurd (true≢false (sym h ∙ is))
  no_writes (x ∷ y ∷ rest) op is h = absurd h

  put_done : (ws : List (List ℕ)) (p : CellPlace) (op : Operation) → WritesOne ws op → is_done name (put_tells ws p) ≡ has_name ws name
  put_done [] p op h = by (is_result p)
    where
      by : (b : Bool) → is_done name (if b then Did None else Valued) ≡ false
      by true = refl
      by false = refl
  put_done (x ∷ []) p op h = sym (or_none (bytes_eq x name))
  put_done (x ∷ y ∷ rest) p op h = absurd h

  clear_done : (ws : List (List ℕ)) (op : Operation) → WritesOne ws op → is_done name (Did (first_name ws)) ≡ has_name ws name
  clear_done [] op h = refl
  clear_done (x ∷ []) op h = sym (or_none (bytes_eq x name))
  clear_done (x ∷ y ∷ rest) op h = absurd h

  -- of an edge without a label, what it does it does with a name that it writes
  writes_done : (e : Edge) (op : Operation) → e.label ≡ None → WritesOne e.writes op → is_done name (operation_tells e op) ≡ has_name e.writes name
  writes_done e Skip none h = skip_done e none ∙ no_writes e.writes Skip refl h
  writes_done e (Assign p value) none h = put_done e.writes p (Assign p value) h
  writes_done e (Clear array length) none h = clear_done e.writes (Clear array length) h
  writes_done e (Guard test truth) none h = no_writes e.writes (Guard test truth) refl h
  writes_done e (Call callee words arrays) none h = no_writes e.writes (Call callee words arrays) refl h
  writes_done e (Return call dest) none h = no_writes e.writes (Return call dest) refl h
  writes_done e (Answer input dest) none h = no_writes e.writes (Answer input dest) refl h
  writes_done e (Assert test) none h = no_writes e.writes (Assert test) refl h
  writes_done e (Assume test) none h = no_writes e.writes (Assume test) refl h

  skips_put_none : (op : Operation) → is_skip op ≡ true → puts op ≡ false
  skips_put_none Skip is = refl
  skips_put_none (Assign p value) is = absurd (true≢false (sym is))
  skips_put_none (Clear array length) is = absurd (true≢false (sym is))
  skips_put_none (Guard test truth) is = refl
  skips_put_none (Call callee words arrays) is = refl
  skips_put_none (Return call dest) is = refl
  skips_put_none (Answer input dest) is = refl
  skips_put_none (Assert test) is = refl
  skips_put_none (Assume test) is = refl

  -- what a labelled edge tells
  label_done : (e : Edge) (own : List ℕ) (op : Operation) → e.label ≡ Some own → is_skip op ≡ true → e.enter ≡ false → e.back ≡ false → is_done name (operation_tells e op) ≡ bytes_eq own name
  label_done e own Skip is skip enter back =
      ap (λ a. is_done name (if a then Enters else if e.back then Again else label_tells e.label e.statement)) enter
      ∙ ap (λ b. is_done name (if b then Again else label_tells e.label e.statement)) back ∙ ap (λ o. is_done name (label_tells o e.statement)) is
  label_done e own (Assign p value) is skip enter back = absurd (true≢false (sym skip))
  label_done e own (Clear array length) is skip enter back = absurd (true≢false (sym skip))
  label_done e own (Guard test truth) is skip enter back = absurd (true≢false (sym skip))
  label_done e own (Call callee words arrays) is skip enter back = absurd (true≢false (sym skip))
  label_done e own (Return call dest) is skip enter back = absurd (true≢false (sym skip))
  label_done e own (Answer input dest) is skip enter back = absurd (true≢false (sym skip))
  label_done e own (Assert test) is skip enter back = absurd (true≢false (sym skip))
  label_done e own (Assume test) is skip enter back = absurd (true≢false (sym skip))

  defines_alike : (e : Edge) → NamesStand e → has_name e.writes name ≡ tells_one (defines name) e
  defines_alike e h = sym (first_passes (defines name) e (and_none (not (is_label e.statement))) ∙ by e.label refl h.label)
    where
      by : (o : Option (List ℕ)) → e.label ≡ o → IsLabelled o e → (not (is_label e.statement) && is_done name (operation_tells e e.operation)) ≡ has_name e.writes name
      by None is stands = ap (λ b. not b && is_done name (operation_tells e e.operation)) stands ∙ writes_done e e.operation is h.writes
      by (Some own) is stands = ap (λ b. not b && is_done name (operation_tells e e.operation)) stands.0 ∙ no_writes e.writes e.operation (skips_put_none e.operation stands.1) h.writes

  labels_alike : (e : Edge) → NamesStand e → is_name e.label name ≡ tells_one (labels name) e
  labels_alike e h = sym (first_passes (labels name) e (and_none (is_label e.statement)) ∙ by e.label refl h.label)
    where
      by : (o : Option (List ℕ)) → e.label ≡ o → IsLabelled o e → (is_label e.statement && is_done name (operation_tells e e.operation)) ≡ is_name e.label name
      by None is stands = ap (λ b. b && is_done name (operation_tells e e.operation)) stands ∙ sym (ap (λ o. is_name o name) is)
      by (Some own) is stands =
          ap (λ b. b && is_done name (operation_tells e e.operation)) stands.0 ∙ label_done e own e.operation is stands.1 stands.2 stands.3 ∙ sym (ap (λ o. is_name o name) is)

definitions_kept : (parts : GraphParts) (column : ℕ) (name : List ℕ) (a : Part) → kept_by parts (filter_of column (form.Writes name)) a ≡ keeping parts (λ e. has_name e.writes name) a
unfolding kept_by
definitions_kept parts column name a = search (rules, filter_lemmas)

labels_kept : (parts : GraphParts) (column : ℕ) (name : List ℕ) (a : Part) → kept_by parts (filter_of column (form.Label name)) a ≡ keeping parts (λ e. is_name e.label name) a
unfolding kept_by
labels_kept parts column name a = search (rules, filter_lemmas)

definitions_by : (parts : GraphParts) (column : ℕ) (name : List ℕ) → AllNamesStand parts → Selects parts (filter_of column (form.Writes name)) (defines name)
definitions_by parts column name stand =
    selects_by parts (λ e. has_name e.writes name) (defines name) (λ k e is. defines_alike name e (stand k e is)) (filter_of column (form.Writes name)) (definitions_kept parts column name (whole parts))

labels_by : (parts : GraphParts) (column : ℕ) (name : List ℕ) → AllNamesStand parts → Selects parts (filter_of column (form.Label name)) (labels name)
labels_by parts column name stand =
    selects_by parts (λ e. is_name e.label name) (labels name) (λ k e is. labels_alike name e (stand k e is)) (filter_of column (form.Label name)) (labels_kept parts column name (whole parts))

pub definitions_select : DefinitionsSelect
definitions_select t files column name = definitions_by (graph_of t files) column name (names_stand_in_graphs t files)

pub labels_select : LabelsSelect
labels_select t files column name = labels_by (graph_of t files) column name (names_stand_in_graphs t files)
