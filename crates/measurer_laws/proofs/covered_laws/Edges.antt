-- Goals of single edges.
use Rattle.std.proofs.Common.{◌≡◌, ℕ, Bool, true, false, ◌||◌, ◌&&◌, ◌==◌, List, [], ◌∷◌, Option, Some, None, refl, sym, ap, subst, ◌∙◌, eqb-true, true≢false}
use Rattle.std.specs.Prelude.{slice_get, slice_index, slice_index_or}
use Rattle.std.specs.List.{list_any}
use Rattle.std.proofs.lemmas.Bool.{eq-eqb}
use Rattle.std.proofs.lemmas.Slice.Eq.{bytes_eq-Decides}
use Rattle.fq_core.specs.declared.span.Span.{Span}
use Rattle.fq_core.specs.declared.statement_kind.StatementKind.{StatementKind}
use Rattle.fq_core.specs.declared.statement_kind.StatementKind.TheVariants as kinds
use Rattle.cfa.specs.declared.parts.Edge.{Edge}
use Rattle.cfa.specs.declared.parts.GraphParts.{GraphParts}
use Rattle.c_lower_rules.specs.graph_of.GraphOf.{graph_of}
use Rattle.tree_events.specs.declared.edge_events.event.Event.{Event}
use Rattle.tree_events.specs.declared.edge_events.event.What.{What}
use Rattle.tree_events.specs.declared.edge_events.event.What.TheVariants.{Outcome, Did, Entered, Left, Answered, Valued, Enters, Again, Always, Straight}
use Rattle.tree_events.specs.edge_events.Told.{done_if, ends_call, told}
use Rattle.filters.specs.Kinds.{kind_number, same_kind}
use Rattle.filters.specs.Parts.{is_among, whole}
use Rattle.goals.specs.applied_clauses.Applied.{kept}
use Rattle.measurer_laws.specs.covered_laws.Conditions.{same_place, same_truth}
use Rattle.measurer_laws.specs.covered_laws.Covered.{AreTelling, tells_one}
use Rattle.measurer_laws.specs.covered_laws.Edges.{AlikeCovered, CoveredHappens, EdgeCovered, FilterSomeCovered, SameEvents, SomeCovered, event_at, same_event, same_name, same_what, telling}
use Rattle.measurer_laws.proofs.covered_laws.Covered.{AllTell, asked_by, covered_where_happens, hit_happens, so_taken, taken_hits, told_by}
use Rattle.measurer_laws.proofs.covered_laws.Goals.{kept_tell, numbers_tell, own_place}
use Rattle.measurer_laws.proofs.covered_laws.Moves.{edges_of}

and_both : (a b : Bool) → (a && b) ≡ true → (a ≡ true) × (b ≡ true)
and_both true b h = (refl, h)
and_both false b h = absurd (true≢false (sym h))

or_false : (b : Bool) → (b || false) ≡ b
or_false true = refl
or_false false = refl

-- ---- one event

same_truths : (a b : Bool) → same_truth a b ≡ true → a ≡ b
same_truths true b h = sym h
same_truths false true h = absurd (true≢false (sym h))
same_truths false false h = refl

own_truth : (a : Bool) → same_truth a a ≡ true
own_truth true = refl
own_truth false = refl

same_places : (a b : Span) → same_place a b ≡ true → a ≡ b
same_places a b h =
    let file = and_both (a.file == b.file) (a.line == b.line && (a.column == b.column && (a.start == b.start && a.end == b.end))) h in
    let line = and_both (a.line == b.line) (a.column == b.column && (a.start == b.start && a.end == b.end)) file.1 in
    let column = and_both (a.column == b.column) (a.start == b.start && a.end == b.end) line.1 in
    let ends = and_both (a.start == b.start) (a.end == b.end) column.1 in
    λ i. record {
      file = eqb-true a.file b.file file.0 i;
      line = eqb-true a.line b.line line.0 i;
      column = eqb-true a.column b.column column.0 i;
      start = eqb-true a.start b.start ends.0 i;
      end = eqb-true a.end b.end ends.1 i;
    }

-- the kinds by their numbers
abbrev all_kinds : List StatementKind
all_kinds =
    kinds.If ∷ kinds.For ∷ kinds.While ∷ kinds.Do ∷ kinds.Switch ∷ kinds.Assign ∷ kinds.Call ∷ kinds.Return ∷ kinds.Decl ∷ kinds.Assert ∷ kinds.Assume ∷ kinds.Jump ∷ kinds.Label ∷ kinds.Empty ∷ []

abbrev kind_at : ℕ → StatementKind
kind_at n = slice_index_or all_kinds n kinds.Empty

kind_there : (k : StatementKind) → kind_at (kind_number k) ≡ k
kind_there kinds.If = refl
kind_there kinds.For = refl
kind_there kinds.While = refl
kind_there kinds.Do = refl
kind_there kinds.Switch = refl
kind_there kinds.Assign = refl
kind_there kinds.Call = refl
kind_there kinds.Return = refl
kind_there kinds.Decl = refl
kind_there kinds.Assert = refl
kind_there kinds.Assume = refl
kind_there kinds.Jump = refl
kind_there kinds.Label = refl
kind_there kinds.Empty = refl

same_kinds : (a b : StatementKind) → same_kind a b ≡ true → a ≡ b
same_kinds a b h = sym (kind_there a) ∙ ap kind_at (eqb-true (kind_number a) (kind_number b) h) ∙ kind_there b

same_names : (a b : Option (List ℕ)) → same_name a b ≡ true → a ≡ b
same_names (Some a) (Some b) h = ap Some (sym ((bytes_eq-Decides b a).0 h))
same_names (Some a) None h = absurd (true≢false (sym h))
same_names None (Some b) h = absurd (true≢false (sym h))
same_names None None h = refl

own_name : (a : Option (List ℕ)) → same_name a a ≡ true
own_name (Some a) = (bytes_eq-Decides a a).1 refl
own_name None = refl

no_what : {A : Type 0} → false ≡ true → A
no_what h = absurd (true≢false (sym h))

same_whats : (v w : What) → same_what v w ≡ true → v ≡ w
same_whats (Outcome a s) (Outcome b r) h = let both = and_both (same_truth a b) (same_truth s r) h in λ i. Outcome (same_truths a b both.0 i) (same_truths s r both.1 i)
same_whats (Outcome a s) (Did b) h = no_what h
same_whats (Outcome a s) (Entered b) h = no_what h
same_whats (Outcome a s) Left h = no_what h
same_whats (Outcome a s) (Answered b) h = no_what h
same_whats (Outcome a s) Valued h = no_what h
same_whats (Outcome a s) Enters h = no_what h
same_whats (Outcome a s) Again h = no_what h
same_whats (Outcome a s) Always h = no_what h
same_whats (Outcome a s) Straight h = no_what h
same_whats (Did a) (Outcome b r) h = no_what h
same_whats (Did a) (Did b) h = ap Did (same_names a b h)
same_whats (Did a) (Entered b) h = no_what h
same_whats (Did a) Left h = no_what h
same_whats (Did a) (Answered b) h = no_what h
same_whats (Did a) Valued h = no_what h
same_whats (Did a) Enters h = no_what h
same_whats (Did a) Again h = no_what h
same_whats (Did a) Always h = no_what h
same_whats (Did a) Straight h = no_what h
same_whats (Entered a) (Outcome b r) h = no_what h
same_whats (Entered a) (Did b) h = no_what h
same_whats (Entered a) (Entered b) h = ap Entered (eqb-true a b h)
same_whats (Entered a) Left h = no_what h
same_whats (Entered a) (Answered b) h = no_what h
same_whats (Entered a) Valued h = no_what h
same_whats (Entered a) Enters h = no_what h
same_whats (Entered a) Again h = no_what h
same_whats (Entered a) Always h = no_what h
same_whats (Entered a) Straight h = no_what h
same_whats Left (Outcome b r) h = no_what h
same_whats Left (Did b) h = no_what h
same_whats Left (Entered b) h = no_what h
same_whats Left Left h = refl
same_whats Left (Answered b) h = no_what h
same_whats Left Valued h = no_what h
same_whats Left Enters h = no_what h
same_whats Left Again h = no_what h
same_whats Left Always h = no_what h
same_whats Left Straight h = no_what h
same_whats (Answered a) (Outcome b r) h = no_what h
same_whats (Answered a) (Did b) h = no_what h
same_whats (Answered a) (Entered b) h = no_what h
same_whats (Answered a) Left h = no_what h
same_whats (Answered a) (Answered b) h = ap Answered (eqb-true a b h)
same_whats (Answered a) Valued h = no_what h
same_whats (Answered a) Enters h = no_what h
same_whats (Answered a) Again h = no_what h
same_whats (Answered a) Always h = no_what h
same_whats (Answered a) Straight h = no_what h
same_whats Valued (Outcome b r) h = no_what h
same_whats Valued (Did b) h = no_what h
same_whats Valued (Entered b) h = no_what h
same_whats Valued Left h = no_what h
same_whats Valued (Answered b) h = no_what h
same_whats Valued Valued h = refl
same_whats Valued Enters h = no_what h
same_whats Valued Again h = no_what h
same_whats Valued Always h = no_what h
same_whats Valued Straight h = no_what h
same_whats Enters (Outcome b r) h = no_what h
same_whats Enters (Did b) h = no_what h
same_whats Enters (Entered b) h = no_what h
same_whats Enters Left h = no_what h
same_whats Enters (Answered b) h = no_what h
same_whats Enters Valued h = no_what h
same_whats Enters Enters h = refl
same_whats Enters Again h = no_what h
same_whats Enters Always h = no_what h
same_whats Enters Straight h = no_what h
same_whats Again (Outcome b r) h = no_what h
same_whats Again (Did b) h = no_what h
same_whats Again (Entered b) h = no_what h
same_whats Again Left h = no_what h
same_whats Again (Answered b) h = no_what h
same_whats Again Valued h = no_what h
same_whats Again Enters h = no_what h
same_whats Again Again h = refl
same_whats Again Always h = no_what h
same_whats Again Straight h = no_what h
same_whats Always (Outcome b r) h = no_what h
same_whats Always (Did b) h = no_what h
same_whats Always (Entered b) h = no_what h
same_whats Always Left h = no_what h
same_whats Always (Answered b) h = no_what h
same_whats Always Valued h = no_what h
same_whats Always Enters h = no_what h
same_whats Always Again h = no_what h
same_whats Always Always h = refl
same_whats Always Straight h = no_what h
same_whats Straight (Outcome b r) h = no_what h
same_whats Straight (Did b) h = no_what h
same_whats Straight (Entered b) h = no_what h
same_whats Straight Left h = no_what h
same_whats Straight (Answered b) h = no_what h
same_whats Straight Valued h = no_what h
same_whats Straight Enters h = no_what h
same_whats Straight Again h = no_what h
same_whats Straight Always h = no_what h
same_whats Straight Straight h = refl

own_what : (v : What) → same_what v v ≡ true
own_what (Outcome a s) = λ i. own_truth a i && own_truth s i
own_what (Did a) = own_name a
own_what (Entered a) = eq-eqb a a refl
own_what Left = refl
own_what (Answered a) = eq-eqb a a refl
own_what Valued = refl
own_what Enters = refl
own_what Again = refl
own_what Always = refl
own_what Straight = refl

same_event_is : (v w : Event) → same_event v w ≡ true → v ≡ w
same_event_is v w h =
    let place = and_both (same_place v.place w.place) (same_kind v.statement w.statement && same_what v.what w.what) h in
    let rest = and_both (same_kind v.statement w.statement) (same_what v.what w.what) place.1 in
    λ i. record { place = same_places v.place w.place place.0 i; statement = same_kinds v.statement w.statement rest.0 i; what = same_whats v.what w.what rest.1 i }

own_event : (v : Event) → same_event v v ≡ true
own_event v = λ i. own_place v.place i && (eq-eqb (kind_number v.statement) (kind_number v.statement) refl i && own_what v.what i)

pub same_events : SameEvents
same_events v w = (same_event_is v w, λ is. subst (λ x. same_event v x ≡ true) is (own_event v))

-- ---- what an edge tells

-- an edge tells its event
tells_own : (e : Edge) → tells_one (same_event (event_at e)) e ≡ true
unfolding told
tells_own e = ap (λ b. b || list_any (same_event (event_at e)) (done_if e (ends_call e.operation))) (own_event (event_at e))

only : (k j : ℕ) → is_among (k ∷ []) j ≡ true → k ≡ j
only k j h = eqb-true k j (sym (or_false (k == j)) ∙ h)

own_among : (k : ℕ) → is_among (k ∷ []) k ≡ true
own_among k = ap (λ b. b || false) (eq-eqb k k refl)

one_tells : (parts : GraphParts) (k : ℕ) (e : Edge) (test : Event → Bool) → slice_get parts.edges k ≡ Some e → tells_one test e ≡ true → AllTell parts (k ∷ []) test
one_tells parts k e test there t j h = (e, ap (slice_get parts.edges) (sym (only k j h)) ∙ there, t)

-- ---- the laws

pub some_covered : SomeCovered
some_covered t files entry f input p plan ends edges goals test made there starts asks tell = (
  λ h.
      let e = told_by (graph_of t files) edges test tell h.edge h.among in
      hit_happens t files entry f input p plan ends (goals h.edge) (h.edge ∷ []) test made there starts (asks h.edge h.among) (one_tells (graph_of t files) h.edge e.0 test e.1 e.2) h.hits,
  λ h.
      let one = so_taken t files entry f input ends test made there starts h in
      let k = slice_index (edges_of one.run.moves) one.number in
      let among = asked_by (graph_of t files) edges test tell k one.edge one.there one.tells in
      record { edge = k; among = among; hits = taken_hits t files entry f input p plan ends (goals k) (k ∷ []) test made there starts (asks k among) one (own_among k) },
)

tell_it : (parts : GraphParts) (v : Event) → AreTelling parts (telling parts v) (same_event v)
tell_it parts v k = numbers_tell parts (tells_one (same_event v)) k

pub alike_covered : AlikeCovered
alike_covered t files entry f input p plan ends goals v made there starts asks =
    some_covered t files entry f input p plan ends (telling (graph_of t files) v) goals (same_event v) made there starts asks (tell_it (graph_of t files) v)

pub edge_covered : EdgeCovered
edge_covered t files entry f input p plan ends goal k e made there starts asks own alone =
    covered_where_happens t files entry f input p plan ends goal (k ∷ []) (same_event (event_at e)) made there starts asks
    (subst (λ es. AreTelling (graph_of t files) es (same_event (event_at e))) alone (tell_it (graph_of t files) (event_at e)))

pub covered_happens : CoveredHappens
covered_happens t files entry f input p plan ends goal k e made there starts asks own =
    hit_happens t files entry f input p plan ends goal (k ∷ []) (same_event (event_at e)) made there starts asks (one_tells (graph_of t files) k e (same_event (event_at e)) own (tells_own e))

pub filter_some_covered : FilterSomeCovered
filter_some_covered t files entry f input p plan ends goals filter test made there starts asks selects =
    some_covered t files entry f input p plan ends (kept (graph_of t files) (whole (graph_of t files)) filter).edges goals test made there starts asks (kept_tell (graph_of t files) filter test selects)
