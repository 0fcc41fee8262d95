-- The words and the files determine what is due of the commands that measure and list.
use Rattle.std.proofs.Common.{◌≡◌, ℕ, ◌<◌, ◌≤◌, Bool, true, false, ◌&&◌, List, [], ◌∷◌, ◌++◌, length, Option, Some, None, Result, Ok, Err, refl, sym, ap, subst, ◌∙◌, inl, inr, arith}
use Rattle.std.specs.Prelude.{IfSome, IsTrue, MatchOption}
use Rattle.std.specs.Option.{is_some}
use Rattle.fq_core.specs.declared.refusal.Fault.{Fault}
use Rattle.fq_core.specs.declared.refusal.Place.TheVariants as place
use Rattle.fq_core.specs.declared.refusal.Refusal.{Refusal}
use Rattle.fq_core.specs.Refusals.{refusal}
use Rattle.fq_io.specs.Counts.{Rose}
use Rattle.c_values.proofs.Fitting.{and_left, and_right, and_both}
use Rattle.c_lex.specs.declared.token.SourceText.{SourceText}
use Rattle.c_front.specs.Automata.{IsAutomatonOf}
use Rattle.c_front.specs.Automata as automata
use Rattle.c_front.specs.Laws as front
use Rattle.cfa.specs.declared.parts.Function.{Function}
use Rattle.cfa.specs.declared.parts.GraphParts.{GraphParts}
use Rattle.cfa.specs.declared.state.Predicates.{Predicates}
use Rattle.c_meaning.specs.declared.ends.Ends.{Ends}
use Rattle.c_meaning.specs.declared.input.Input.{Input}
use Rattle.path_runner.specs.declared.path.PathRecord.{PathRecord}
use Rattle.fql_read.specs.declared.query.Query.{Query}
use Rattle.fql_read.specs.Asks.{Asks, IsRefusedQuery}
use Rattle.fql_read.proofs.QueryOutcome.{query_accepts, query_refuses}
use Rattle.predicates.specs.Laws as predicates
use Rattle.predicates.specs.Outcome.{ArePredicatesOf}
use Rattle.predicates.specs.Outcome as outcome
use Rattle.goals.specs.Plans.{causes, cover_tree, first_cause, passing_tree, plan_with}
use Rattle.goals.specs.declared.plan.Plan.{Plan}
use Rattle.measurer_hits.specs.hits.Laws.{OneListOfHits}
use Rattle.input_text.specs.Inputs.{inputs_of}
use Rattle.report.specs.GraphText.{graph_text}
use Rattle.report.specs.Texts.{goals_text}
use Rattle.trace_file.specs.Reading as reading
use Rattle.trace_file.specs.Form.{form_of}
use Rattle.trace_file.specs.declared.trace.Trace.{Trace}
use Rattle.c_front.specs.typed_sources.Laws as trees
use Rattle.c_front.specs.typed_sources.Trees.{IsTypedOf}
use Rattle.c_typed_trees.specs.declared.unit.Typed.{Typed}
use Rattle.command_words.specs.Reading.{Text}
use Rattle.command_words.specs.Request as asks
use Rattle.command_words.specs.Request.{Asked, measure, generate, goals, runs, prove, check, suffice, sample, Listing, Measuring, Replaying, Running, Tracing, request_of}
use Rattle.command_laws.specs.due_laws.Determined.{AtMostOneIsDue, IsTold, are_told, files_of}
use Rattle.command.specs.Due.{IsDueOf}
use Rattle.command.specs.Inputs.{AreInputsOf}
use Rattle.command.specs.Inputs as inputs
use Rattle.command.specs.Measure.{AreAllHits, IsMeasured, report_of}
use Rattle.command.specs.Trees.{ended}
use Rattle.command.specs.Queries.{IsPlanned}
use Rattle.command.specs.Queries as queries
use Rattle.command.specs.Reads.{Reads, Sees}
use Rattle.command.specs.Events.{AreEvents}
use Rattle.command.specs.RunList.{recorded}
use Rattle.command.specs.Refusal.{said_by}
use Rattle.command.specs.Runs.{EntryFunction, entry_of, runs_of}
use Rattle.command.specs.Said.{Said, answered}
use Rattle.command.specs.Sources.{AreRead, AreRefused, HaveAutomaton, HaveTrees, IsRead, IsReadUpTo, IsUnread, fails, is_past, most_source}
use Rattle.command.specs.Stages.{OfEntry, OfInputs, OfQuery, OfSources, OfTraces, OfTrees, Says, no_such_entry, usage}
use Rattle.command.specs.TraceFile as traces
use Rattle.command.specs.TraceFile.{AreTracesOf, inputs_in, longest}
use Rattle.command.specs.Traces.{traced}
use Rattle.command_laws.proofs.due_laws.OneFile.{read_alike, read_is_kept, refused_once}

-- at most one
abbrev pub Once : {X : Type 0} → (X → Type 0) → Type 0
Once {X} P = (x y : X) → P x → P y → x ≡ y

-- any two that are said are alike
abbrev pub AnyTwo : (Said → Said → Type 0) → (Said → Type 0) → Type 0
AnyTwo Alike P = (x y : Said) → P x → P y → Alike x y

-- what is the same is alike
abbrev pub TellsSame : (Said → Said → Type 0) → Type 0
TellsSame Alike = (x y : Said) → x ≡ y → Alike x y

-- they are one
abbrev pub IsSame : Said → Said → Type 0
IsSame x y = x ≡ y

pub is_same : TellsSame IsSame
is_same x y e = e

-- the same refusal is said, of whatever is refused
pub one_saying : (sources : List Text) (P : Refusal → Type 0) → Once P → (x y : Said) → Says sources P x → Says sources P y → x ≡ y
one_saying sources P once x y a b = a.2 ∙ ap (said_by sources) (once a.0 b.0 a.1 b.1) ∙ sym b.2

pub one_by : (Alike : Said → Said → Type 0) → TellsSame Alike → {E : Type 0} (o : Option E) (none : Said) (Then : E → Said → Type 0) → ((e : E) → AnyTwo Alike (Then e)) → AnyTwo Alike (λ said. MatchOption o (said ≡ none) (λ e. Then e said))
one_by Alike same None none Then alike x y a b = same x y (a ∙ sym b)
one_by Alike same (Some e) none Then alike x y a b = alike e x y a b

-- ---- the query

pub same_refusal : (x y : Refusal) → x.code ≡ y.code → x.place ≡ y.place → x ≡ y
same_refusal x y codes places = λ i. record { code = codes i; place = places i }

abbrev error : Refusal → Result Query Fault
error x = Err (refusal x.code x.place)

same_error : (x y : Refusal) → error x ≡ error y → x ≡ y
same_error x y e = cc

same_answer : (q r : Query) → (let a : Result Query Fault = Ok q in let b : Result Query Fault = Ok r in a ≡ b) → q ≡ r
same_answer q r e = cc

no_error : (q : Query) (x : Refusal) → (let a : Result Query Fault = Ok q in a ≡ error x) → ⊥
no_error q x e = absurd (cc)

module _ (bytes : List ℕ) where
  one_asked : Once (Asks bytes)
  one_asked q r a b = same_answer q r (sym (query_accepts bytes q a) ∙ query_accepts bytes r b)

  not_asked : (q : Query) (x : Refusal) → Asks bytes q → IsRefusedQuery bytes x.code x.place → ⊥
  not_asked q x a b = no_error q x (sym (query_accepts bytes q a) ∙ query_refuses b)

  one_unasked : Once (λ (x : Refusal). IsRefusedQuery bytes x.code x.place)
  one_unasked x y a b = same_error x y (sym (query_refuses a) ∙ query_refuses b)

some_none : (x : Refusal) → (let a : Option Refusal = Some x in let b : Option Refusal = None in a ≡ b) → ⊥
some_none x e = absurd (cc)

same_some : (x y : Refusal) → (let a : Option Refusal = Some x in let b : Option Refusal = Some y in a ≡ b) → x ≡ y
same_some x y e = cc

module _ (law : predicates.OneOutcome) (graph : GraphParts) (bytes : List ℕ) where
  -- what holds of the one query's predicates holds of the other's
  moved : (P : Query → Type 0) (q r : Query) → Asks bytes q → Asks bytes r → P q → P r
  moved P q r a b h = subst P (one_asked bytes q r a b) h

  one_refused : Once (queries.IsRefused graph bytes)
  one_refused x y (queries.at_query a) (queries.at_query b) = one_unasked bytes x y a b
  one_refused x y (queries.at_query a) (queries.at_predicates q b c) = absurd (not_asked bytes q x b a)
  one_refused x y (queries.at_query a) (queries.at_goals q p b c d) = absurd (not_asked bytes q x b a)
  one_refused x y (queries.at_predicates q a b) (queries.at_query c) = absurd (not_asked bytes q y a c)
  one_refused x y (queries.at_predicates q a b) (queries.at_predicates r c d) =
      let same = (law graph r.predicates).one_refusal x.code y.code x.place y.place (moved (λ (s : Query). outcome.IsRefused graph s.predicates x.code x.place) q r a c b) d in
      same_refusal x y same.0 same.1
  one_refused x y (queries.at_predicates q a b) (queries.at_goals r p c d e) =
      absurd ((law graph r.predicates).not_both p x.code x.place d (moved (λ (s : Query). outcome.IsRefused graph s.predicates x.code x.place) q r a c b))
  one_refused x y (queries.at_goals q p a b c) (queries.at_query d) = absurd (not_asked bytes q y a d)
  one_refused x y (queries.at_goals q p a b c) (queries.at_predicates r d e) =
      absurd ((law graph r.predicates).not_both p y.code y.place (moved (λ (s : Query). ArePredicatesOf graph s.predicates p) q r a d b) e)
  one_refused x y (queries.at_goals q p a b c) (queries.at_goals r s d e f) =
      same_some x y (sym (moved (λ (t : Query). first_cause (causes graph t) ≡ Some x) q r a d c) ∙ f)

  pub not_planned : (x : Refusal) (p : Predicates) (plan : Plan) → queries.IsRefused graph bytes x → IsPlanned graph bytes p plan → ⊥
  not_planned x p plan (queries.at_query a) b = not_asked bytes b.query x b.asked a
  not_planned x p plan (queries.at_predicates q a c) b =
      (law graph b.query.predicates).not_both p x.code x.place b.predicates (moved (λ (s : Query). outcome.IsRefused graph s.predicates x.code x.place) q b.query a b.asked c)
  not_planned x p plan (queries.at_goals q r a c d) b =
      some_none x (sym (moved (λ (t : Query). first_cause (causes graph t) ≡ Some x) q b.query a b.asked d) ∙ b.no_cause)

  pub record SamePlans (p r : Predicates) (plan other : Plan) : Type 0 where
    pub same_predicates : p ≡ r
    pub same_plan : plan ≡ other

  pub one_plan : (p r : Predicates) (plan other : Plan) → IsPlanned graph bytes p plan → IsPlanned graph bytes r other → SamePlans p r plan other
  one_plan p r plan other a b = record {
    same_predicates = (law graph b.query.predicates).one_answer p r (moved (λ (s : Query). ArePredicatesOf graph s.predicates p) a.query b.query a.asked b.asked a.predicates) b.predicates;
    same_plan = a.is ∙ ap (λ (q : Query). plan_of q) (one_asked bytes a.query b.query a.asked b.asked) ∙ sym b.is;
  }
    where
      plan_of : Query → Plan
      plan_of q = plan_with q (cover_tree graph q) (passing_tree graph q)

  pub one_of_query : (Alike : Said → Said → Type 0) → TellsSame Alike → (sources : List Text) (Then : Predicates → Plan → Said → Type 0) → ((p : Predicates) (plan : Plan) → AnyTwo Alike (Then p plan)) → AnyTwo Alike (OfQuery sources graph bytes Then)
  one_of_query Alike tells sources Then alike x y (inl a) (inl b) = tells x y (one_saying sources (queries.IsRefused graph bytes) one_refused x y a b)
  one_of_query Alike tells sources Then alike x y (inl a) (inr b) = absurd (not_planned a.0 b.0 b.1.0 a.1 b.1.1)
  one_of_query Alike tells sources Then alike x y (inr a) (inl b) = absurd (not_planned b.0 a.0 a.1.0 b.1 a.1.1)
  one_of_query Alike tells sources Then alike x y (inr a) (inr b) =
      let same = one_plan a.0 b.0 a.1.0 b.1.0 a.1.1 b.1.1 in
      alike b.0 b.1.0 x y (subst (λ (plan : Plan). Then b.0 plan x) same.same_plan (subst (λ (p : Predicates). Then p a.1.0 x) same.same_predicates a.1.2)) b.1.2

-- ---- files

module _ (r : Reads) (still : Rose r.faults_before r.faults_after → ⊥) where
  abbrev Holds : Text → List ℕ → Type 0
  Holds file held = r.holds file ≡ Some held

  abbrev pub Told : Text → Type 0
  Told file = IsTrue (is_some (r.holds file))

  told : (file : Text) → Told file → (held : List ℕ) × Holds file held
  told file h = by (r.holds file) refl h
    where
      by : (o : Option (List ℕ)) → r.holds file ≡ o → IsTrue (is_some o) → (held : List ℕ) × Holds file held
      by None e h = absurd (cc)
      by (Some held) e h = (held, e)

  seen_is : (file bytes held : List ℕ) → Holds file held → Sees r.holds file bytes → bytes ≡ held
  seen_is file bytes held e seen = subst (λ (o : Option (List ℕ)). IfSome o (λ h. bytes ≡ h)) e seen

  pub one_seen : (file bytes other : List ℕ) → Told file → Sees r.holds file bytes → Sees r.holds file other → bytes ≡ other
  one_seen file bytes other t a b = let h = told file t in seen_is file bytes h.0 h.1 a ∙ sym (seen_is file other h.0 h.1 b)

  abbrev pub too_long : Text → Refusal
  too_long file = record { code = 16; place = place.FileName file }

  pub unread_is : (limit : ℕ) (file : Text) (x : Refusal) → IsUnread r limit file x → x ≡ too_long file
  unread_is limit file x (fails failed) = absurd (still failed.rose)
  unread_is limit file x (is_past past) = refl

  -- a file that isn't read is too long for one that is seen and short
  pub not_seen : (limit : ℕ) (file : Text) (x : Refusal) (bytes : List ℕ) → Told file → IsUnread r limit file x → Sees r.holds file bytes → length bytes ≤ limit → ⊥
  not_seen limit file x bytes t (fails failed) seen short = still failed.rose
  not_seen limit file x bytes t (is_past past) seen short =
      let h = told file t in
      let long : limit < length h.0 = subst (λ (o : Option (List ℕ)). IfSome o (λ held. limit < length held)) h.1 past.long in
      let same = seen_is file bytes h.0 h.1 seen in
      absurd (omega (arith, long, short, ap length same))

  -- ---- sources

  abbrev pub AreTold : List Text → Type 0
  AreTold files = IsTrue (are_told r files)

  first_told : (file : Text) (files : List Text) → AreTold (file ∷ files) → Told file
  first_told file files t = and_left (is_some (r.holds file)) (are_told r files) t

  rest_told : (file : Text) (files : List Text) → AreTold (file ∷ files) → AreTold files
  rest_told file files t = and_right (is_some (r.holds file)) (are_told r files) t

  one_text : (file : Text) (t u : SourceText) → Told file → IsRead r.holds file t → IsRead r.holds file u → t ≡ u
  one_text file t u h a b = let same = one_seen file t.bytes u.bytes h a.bytes b.bytes in let named = a.name ∙ sym b.name in λ i. record { name = named i; bytes = same i }

  one_reading : (files : List Text) → AreTold files → Once (AreRead r.holds files)
  one_reading [] h [] [] a b = refl
  one_reading [] h (t ∷ ts) us a b = absurd a
  one_reading [] h [] (u ∷ us) a b = absurd b
  one_reading (file ∷ files) h [] us a b = absurd a
  one_reading (file ∷ files) h (t ∷ ts) [] a b = absurd b
  one_reading (file ∷ files) h (t ∷ ts) (u ∷ us) a b =
      let one = one_text file t u (first_told file files h) a.0 b.0 in
      let more = one_reading files (rest_told file files h) ts us a.1 b.1 in
      λ i. one i ∷ more i

  -- files of which one isn't read are not all read
  not_read : (front : List Text) (file : Text) (back : List Text) (x : Refusal) (texts : List SourceText) → AreTold (front ++ file ∷ back) → IsUnread r most_source file x → AreRead r.holds (front ++ file ∷ back) texts → ⊥
  not_read [] file back x [] h unread read = absurd read
  not_read [] file back x (t ∷ ts) h unread read = not_seen most_source file x t.bytes (first_told file back h) unread read.0.bytes read.0.short
  not_read (other ∷ front) file back x [] h unread read = absurd read
  not_read (other ∷ front) file back x (t ∷ ts) h unread read = not_read front file back x ts (rest_told other (front ++ file ∷ back) h) unread read.1

  pub not_all_read : (files : List Text) (x : Refusal) (texts : List SourceText) → AreTold files → IsReadUpTo r files x → AreRead r.holds files texts → ⊥
  not_all_read files x texts h a read =
      not_read a.front a.file a.back x texts (subst AreTold a.parts h) a.unread (subst (λ (fs : List Text). AreRead r.holds fs texts) a.parts read)

  abbrev Splits : List Text → List Text → Text → List Text → Type 0
  Splits files front file back = files ≡ front ++ file ∷ back

  heads : (a b : Text) (rest more : List Text) → a ∷ rest ≡ b ∷ more → a ≡ b
  heads a b rest more e = cc

  tails : (a b : Text) (rest more : List Text) → a ∷ rest ≡ b ∷ more → rest ≡ more
  tails a b rest more e = cc

  -- the first file that isn't read is one
  one_first : (front : List Text) (file : Text) (back others : List Text) (other : Text) (more : List Text) (x y : Refusal) (ts us : List SourceText) → AreTold (front ++ file ∷ back)
      → front ++ file ∷ back ≡ others ++ other ∷ more → AreRead r.holds front ts → AreRead r.holds others us → IsUnread r most_source file x → IsUnread r most_source other y → file ≡ other
  one_first [] file back [] other more x y ts us h e a b c d = heads file other back more e
  one_first [] file back (o ∷ os) other more x y ts [] h e a b c d = absurd b
  one_first [] file back (o ∷ os) other more x y ts (u ∷ us) h e a b c d =
      let same = heads file o back (os ++ other ∷ more) e in
      absurd (not_seen most_source file x u.bytes (first_told file back h) c (subst (λ (f : Text). Sees r.holds f u.bytes) (sym same) b.0.bytes) b.0.short)
  one_first (f ∷ fs) file back [] other more x y [] us h e a b c d = absurd a
  one_first (f ∷ fs) file back [] other more x y (t ∷ ts) us h e a b c d =
      let same = heads f other (fs ++ file ∷ back) more e in
      absurd (not_seen most_source f y t.bytes (first_told f (fs ++ file ∷ back) h) (subst (λ (g : Text). IsUnread r most_source g y) (sym same) d) a.0.bytes a.0.short)
  one_first (f ∷ fs) file back (o ∷ os) other more x y [] us h e a b c d = absurd a
  one_first (f ∷ fs) file back (o ∷ os) other more x y (t ∷ ts) [] h e a b c d = absurd b
  one_first (f ∷ fs) file back (o ∷ os) other more x y (t ∷ ts) (u ∷ us) h e a b c d =
      one_first fs file back os other more x y ts us (rest_told f (fs ++ file ∷ back) h) (tails f o (fs ++ file ∷ back) (os ++ other ∷ more) e) a.1 b.1 c d

  one_unread : (files : List Text) → AreTold files → Once (IsReadUpTo r files)
  one_unread files h x y a b =
      let same = one_first a.front a.file a.back b.front b.file b.back x y a.texts b.texts (subst AreTold a.parts h) (sym a.parts ∙ b.parts) a.before b.before a.unread b.unread in
      unread_is most_source a.file x a.unread ∙ ap too_long same ∙ sym (unread_is most_source b.file y b.unread)

  module _ (law : (texts : List SourceText) → front.HasOneOutcome texts) (files : List Text) (h : AreTold files) where
    one_refusal_of_texts : Once (AreRefused r.holds files)
    one_refusal_of_texts x y a b =
        let texts = one_reading files h a.texts b.texts a.read b.read in
        let same = (law b.texts).one_refusal x.code y.code x.place y.place (subst (λ (ts : List SourceText). automata.IsRefused ts x.code x.place) texts a.cause) b.cause in
        same_refusal x y same.0 same.1

    pub no_automaton : (x : Refusal) (graph : GraphParts) → AreRefused r.holds files x → HaveAutomaton r.holds files graph → ⊥
    no_automaton x graph a b =
        let texts = one_reading files h a.texts b.texts a.read b.read in
        (law b.texts).not_both graph x.code x.place b.automaton (subst (λ (ts : List SourceText). automata.IsRefused ts x.code x.place) texts a.cause)

    pub one_automaton : Once (HaveAutomaton r.holds files)
    one_automaton g k a b =
        let texts = one_reading files h a.texts b.texts a.read b.read in
        (law b.texts).one_answer g k (subst (λ (ts : List SourceText). IsAutomatonOf ts g) texts a.automaton) b.automaton

    pub one_of_sources : (Alike : Said → Said → Type 0) → TellsSame Alike → (Then : GraphParts → Said → Type 0) → ((graph : GraphParts) → AnyTwo Alike (Then graph)) → AnyTwo Alike (OfSources r files Then)
    one_of_sources Alike tells Then alike x y (inl a) (inl b) = tells x y (one_saying files (IsReadUpTo r files) (one_unread files h) x y a b)
    one_of_sources Alike tells Then alike x y (inl a) (inr (inl b)) = absurd (not_all_read files a.0 b.1.texts h a.1 b.1.read)
    one_of_sources Alike tells Then alike x y (inl a) (inr (inr b)) = absurd (not_all_read files a.0 b.1.texts h a.1 b.1.read)
    one_of_sources Alike tells Then alike x y (inr (inl a)) (inl b) = absurd (not_all_read files b.0 a.1.texts h b.1 a.1.read)
    one_of_sources Alike tells Then alike x y (inr (inl a)) (inr (inl b)) = tells x y (one_saying files (AreRefused r.holds files) one_refusal_of_texts x y a b)
    one_of_sources Alike tells Then alike x y (inr (inl a)) (inr (inr b)) = absurd (no_automaton a.0 b.0 a.1 b.1)
    one_of_sources Alike tells Then alike x y (inr (inr a)) (inl b) = absurd (not_all_read files b.0 a.1.texts h b.1 a.1.read)
    one_of_sources Alike tells Then alike x y (inr (inr a)) (inr (inl b)) = absurd (no_automaton b.0 a.0 b.1 a.1)
    one_of_sources Alike tells Then alike x y (inr (inr a)) (inr (inr b)) =
        alike b.0 x y (subst (λ (graph : GraphParts). Then graph x) (one_automaton a.0 b.0 a.1 b.1) a.2) b.2

    -- their typed tree
    module _ (trees_law : (texts : List SourceText) → trees.HasOneOutcome texts) where
      with_automaton : (g : GraphParts) (t : Typed) → HaveTrees r.holds files g t → HaveAutomaton r.holds files g
      with_automaton g t a = record { texts = a.texts; read = a.read; automaton = a.automaton }

      one_tree : (g k : GraphParts) (t u : Typed) → HaveTrees r.holds files g t → HaveTrees r.holds files k u → t ≡ u
      one_tree g k t u a b =
          let texts = one_reading files h a.texts b.texts a.read b.read in
          (trees_law b.texts).one_answer t u (subst (λ (ts : List SourceText). IsTypedOf ts t) texts a.tree) b.tree

      one_of_trees : (Then : GraphParts → Typed → Said → Type 0) → ((graph : GraphParts) (typed : Typed) → AnyTwo IsSame (Then graph typed)) → AnyTwo IsSame (OfTrees r files Then)
      one_of_trees Then once x y (inl a) (inl b) = one_saying files (IsReadUpTo r files) (one_unread files h) x y a b
      one_of_trees Then once x y (inl a) (inr (inl b)) = absurd (not_all_read files a.0 b.1.texts h a.1 b.1.read)
      one_of_trees Then once x y (inl a) (inr (inr b)) = absurd (not_all_read files a.0 b.1.1.texts h a.1 b.1.1.read)
      one_of_trees Then once x y (inr (inl a)) (inl b) = absurd (not_all_read files b.0 a.1.texts h b.1 a.1.read)
      one_of_trees Then once x y (inr (inl a)) (inr (inl b)) = one_saying files (AreRefused r.holds files) one_refusal_of_texts x y a b
      one_of_trees Then once x y (inr (inl a)) (inr (inr b)) = absurd (no_automaton a.0 b.0 a.1 (with_automaton b.0 b.1.0 b.1.1))
      one_of_trees Then once x y (inr (inr a)) (inl b) = absurd (not_all_read files b.0 a.1.1.texts h b.1 a.1.1.read)
      one_of_trees Then once x y (inr (inr a)) (inr (inl b)) = absurd (no_automaton b.0 a.0 b.1 (with_automaton a.0 a.1.0 a.1.1))
      one_of_trees Then once x y (inr (inr a)) (inr (inr b)) =
          let graphs = one_automaton a.0 b.0 (with_automaton a.0 a.1.0 a.1.1) (with_automaton b.0 b.1.0 b.1.1) in
          let typed = one_tree a.0 b.0 a.1.0 b.1.0 a.1.1 b.1.1 in
          once b.0 b.1.0 x y (subst (λ (t : Typed). Then b.0 t x) typed (subst (λ (graph : GraphParts). Then graph a.1.0 x) graphs a.1.2)) b.1.2

  -- ---- inputs

  module _ (file : Text) (h : Told file) (parameters : ℕ) where
    abbrev answer : List Input → Result (List Input) Refusal
    answer given = Ok given

    abbrev cause : Refusal → Result (List Input) Refusal
    cause x = Err x

    same_inputs : (a b : List Input) → answer a ≡ answer b → a ≡ b
    same_inputs a b e = cc

    same_cause : (x y : Refusal) → cause x ≡ cause y → x ≡ y
    same_cause x y e = cc

    no_cause : (a : List Input) (x : Refusal) → answer a ≡ cause x → ⊥
    no_cause a x e = absurd (cc)

    one_given : Once (AreInputsOf r file parameters)
    one_given xs ys a b =
        let same = one_seen file a.bytes b.bytes h a.seen b.seen in
        same_inputs xs ys (sym (subst (λ (bytes : List ℕ). inputs_of parameters bytes ≡ Ok xs) same a.is) ∙ b.is)

    one_refused_file : Once (inputs.AreRefused r file parameters)
    one_refused_file x y (inputs.at_read a) (inputs.at_read b) = unread_is inputs.most_inputs file x a ∙ sym (unread_is inputs.most_inputs file y b)
    one_refused_file x y (inputs.at_read a) (inputs.at_form bytes seen short b) = absurd (not_seen inputs.most_inputs file x bytes h a seen short)
    one_refused_file x y (inputs.at_form bytes seen short a) (inputs.at_read b) = absurd (not_seen inputs.most_inputs file y bytes h b seen short)
    one_refused_file x y (inputs.at_form bytes seen short a) (inputs.at_form others sight few b) =
        same_cause x y (sym (subst (λ (bs : List ℕ). inputs_of parameters bs ≡ Err x) (one_seen file bytes others h seen sight) a) ∙ b)

    not_given : (x : Refusal) (given : List Input) → inputs.AreRefused r file parameters x → AreInputsOf r file parameters given → ⊥
    not_given x given (inputs.at_read a) b = not_seen inputs.most_inputs file x b.bytes h a b.seen b.short
    not_given x given (inputs.at_form bytes seen short a) b =
        no_cause given x (sym b.is ∙ subst (λ (bs : List ℕ). inputs_of parameters bs ≡ Err x) (one_seen file bytes b.bytes h seen b.seen) a)

    one_of_inputs : (sources : List Text) (Then : List Input → Said → Type 0) → ((given : List Input) → AnyTwo IsSame (Then given)) → AnyTwo IsSame (OfInputs r sources file parameters Then)
    one_of_inputs sources Then once x y (inl a) (inl b) = one_saying sources (inputs.AreRefused r file parameters) one_refused_file x y a b
    one_of_inputs sources Then once x y (inl a) (inr b) = absurd (not_given a.0 b.0 a.1 b.1)
    one_of_inputs sources Then once x y (inr a) (inl b) = absurd (not_given b.0 a.0 b.1 a.1)
    one_of_inputs sources Then once x y (inr a) (inr b) = once b.0 x y (subst (λ (given : List Input). Then given x) (one_given a.0 b.0 a.1 b.1) a.2) b.2

  -- ---- traces

  module _ (file : Text) (h : Told file) (graph : GraphParts) (f : Function) (ends : Ends) where
    one_refused_traces : Once (traces.AreRefused r graph f ends file)
    one_refused_traces x y (traces.at_read a) (traces.at_read b) = unread_is traces.most_trace_bytes file x a ∙ sym (unread_is traces.most_trace_bytes file y b)
    one_refused_traces x y (traces.at_read a) (traces.at_form bytes seen short b) = absurd (not_seen traces.most_trace_bytes file x bytes h a seen short)
    one_refused_traces x y (traces.at_form bytes seen short a) (traces.at_read b) = absurd (not_seen traces.most_trace_bytes file y bytes h b seen short)
    one_refused_traces x y (traces.at_form bytes seen short a) (traces.at_form others sight few b) =
        refused_once graph f ends (form_of (length f.parameters) others) x y (subst (λ (bs : List ℕ). reading.IsRefused graph f ends bs x) (one_seen file bytes others h seen sight) a) b

    not_traces : (p : Predicates) (x : Refusal) (given : List Trace) → traces.AreRefused r graph f ends file x → AreTracesOf r graph f ends file p given → ⊥
    not_traces p x given (traces.at_read a) b = not_seen traces.most_trace_bytes file x b.bytes h a b.seen b.short
    not_traces p x given (traces.at_form bytes seen short a) b =
        read_is_kept graph f ends p (form_of (length f.parameters) b.bytes) x given (subst (λ (bs : List ℕ). reading.IsRefused graph f ends bs x) (one_seen file bytes b.bytes h seen b.seen) a) b.is

    one_of_traces : (p : Predicates) (sources : List Text) (Report : ℕ → List Input → Said → Type 0) → ((steps : ℕ) (given : List Input) → AnyTwo IsSame (Report steps given))
        → AnyTwo IsSame (OfTraces r sources graph f ends file p (λ given. Report (longest given) (inputs_in given)))
    one_of_traces p sources Report once x y (inl a) (inl b) = one_saying sources (traces.AreRefused r graph f ends file) one_refused_traces x y a b
    one_of_traces p sources Report once x y (inl a) (inr b) = absurd (not_traces p a.0 b.0 a.1 b.1)
    one_of_traces p sources Report once x y (inr a) (inl b) = absurd (not_traces p b.0 a.0 b.1 a.1)
    one_of_traces p sources Report once x y (inr a) (inr b) =
        let bytes = one_seen file a.1.bytes b.1.bytes h a.1.seen b.1.seen in
        let same = read_alike graph f ends p (form_of (length f.parameters) b.1.bytes) a.0 b.0 (subst (λ (bs : List ℕ). reading.IsFileOf graph f ends p bs a.0) bytes a.1.is) b.1.is in
        once (longest b.0) (inputs_in b.0) x y (subst (λ (n : ℕ). Report n (inputs_in b.0) x) same.1 (subst (λ (given : List Input). Report (longest a.0) given x) same.0 a.2)) b.2

-- ---- the report

module _ (law : OneListOfHits) (plan : Plan) (ends : Ends) where
  one_hits : (paths : List PathRecord) → Once (AreAllHits plan ends paths)
  one_hits [] [] [] a b = refl
  one_hits [] (x ∷ xs) ys a b = absurd a
  one_hits [] [] (y ∷ ys) a b = absurd b
  one_hits (path ∷ paths) [] ys a b = absurd a
  one_hits (path ∷ paths) (x ∷ xs) [] a b = absurd b
  one_hits (path ∷ paths) (x ∷ xs) (y ∷ ys) a b =
      let one = law plan ends path x y a.0 b.0 in
      let more = one_hits paths xs ys a.1 b.1 in
      λ i. one i ∷ more i

  one_measured : (graph : GraphParts) (entry : EntryFunction) (p : Predicates) (steps : ℕ) (json : Bool) (given : List Input) → Once (IsMeasured graph entry p plan ends steps json given)
  one_measured graph entry p steps json given x y a b =
      let paths = runs_of graph entry.function p steps given in
      a.2 ∙ ap (λ hits. answered (report_of graph entry.number plan ends json paths hits)) (one_hits paths a.0 b.0 a.1 b.1) ∙ sym b.2

-- ---- by command

module _ (front_law : (texts : List SourceText) → front.HasOneOutcome texts) (predicates_law : predicates.OneOutcome) (hits_law : OneListOfHits)
    (r : Reads) (still : Rose r.faults_before r.faults_after → ⊥) where
  pub both_told : (files : List Text) (file : Text) → IsTrue (are_told r (files ++ file ∷ [])) → IsTrue (are_told r files) × IsTrue (is_some (r.holds file))
  both_told [] file h = (refl, and_left (is_some (r.holds file)) true h)
  both_told (f ∷ files) file h =
      let rest = both_told files file (and_right (is_some (r.holds f)) (are_told r (files ++ file ∷ [])) h) in
      (and_both (is_some (r.holds f)) (are_told r files) (and_left (is_some (r.holds f)) (are_told r (files ++ file ∷ [])) h) rest.0, rest.1)

  pub measured_once : (m : Measuring) → IsTrue (are_told r (m.sources ++ m.inputs ∷ [])) → AnyTwo IsSame (IsDueOf r (measure m))
  measured_once m h said other c d =
      let t = both_told m.sources m.inputs h in
      let Reported : GraphParts → EntryFunction → Predicates → Plan → List Input → Said → Type 0 = λ graph entry p plan given. IsMeasured graph entry p plan m.ends m.steps m.json given in
      let Given : GraphParts → EntryFunction → Predicates → Plan → Said → Type 0 = λ graph entry p plan. OfInputs r m.sources m.inputs (length entry.function.parameters) (Reported graph entry p plan) in
      let Asking : GraphParts → EntryFunction → Said → Type 0 = λ graph entry. OfQuery m.sources graph m.query (Given graph entry) in
      one_of_sources r still front_law m.sources t.0 IsSame is_same (λ graph. OfEntry graph m.entry (Asking graph)) (λ graph.
      one_by IsSame is_same (entry_of graph m.entry) no_such_entry (Asking graph) (λ entry.
      one_of_query predicates_law graph m.query IsSame is_same m.sources (Given graph entry) (λ p plan.
      one_of_inputs r still m.inputs t.1 (length entry.function.parameters) m.sources (Reported graph entry p plan) (one_measured hits_law plan m.ends graph entry p m.steps m.json)))) said other c d

  pub listed_once : (m : Listing) → IsTrue (are_told r m.sources) → AnyTwo IsSame (IsDueOf r (goals m))
  listed_once m h said other c d =
      let Listed : GraphParts → Predicates → Plan → Said → Type 0 = λ graph p plan x. x ≡ answered (goals_text graph plan) in
      one_of_sources r still front_law m.sources h IsSame is_same (λ graph. OfQuery m.sources graph m.query (Listed graph)) (λ graph.
      one_of_query predicates_law graph m.query IsSame is_same m.sources (Listed graph) (λ p plan x y e f. e ∙ sym f)) said other c d

  pub recorded_once : (m : Running) → IsTrue (are_told r (m.sources ++ m.inputs ∷ [])) → AnyTwo IsSame (IsDueOf r (runs m))
  recorded_once m h said other c d =
      let t = both_told m.sources m.inputs h in
      let Listed : GraphParts → EntryFunction → List Input → Said → Type 0 = λ graph entry given x. x ≡ recorded graph entry m.steps given in
      let Given : GraphParts → EntryFunction → Said → Type 0 = λ graph entry. OfInputs r m.sources m.inputs (length entry.function.parameters) (Listed graph entry) in
      one_of_sources r still front_law m.sources t.0 IsSame is_same (λ graph. OfEntry graph m.entry (Given graph)) (λ graph.
      one_by IsSame is_same (entry_of graph m.entry) no_such_entry (Given graph) (λ entry.
      one_of_inputs r still m.inputs t.1 (length entry.function.parameters) m.sources (Listed graph entry) (λ given x y e f. e ∙ sym f))) said other c d

  pub traced_once : (m : Tracing) → IsTrue (are_told r (m.sources ++ m.inputs ∷ [])) → AnyTwo IsSame (IsDueOf r (asks.traces m))
  traced_once m h said other c d =
      let t = both_told m.sources m.inputs h in
      let Listed : GraphParts → EntryFunction → List Input → Said → Type 0 = λ graph entry given x. x ≡ traced graph entry m.ends m.steps given in
      let Given : GraphParts → EntryFunction → Said → Type 0 = λ graph entry. OfInputs r m.sources m.inputs (length entry.function.parameters) (Listed graph entry) in
      one_of_sources r still front_law m.sources t.0 IsSame is_same (λ graph. OfEntry graph m.entry (Given graph)) (λ graph.
      one_by IsSame is_same (entry_of graph m.entry) no_such_entry (Given graph) (λ entry.
      one_of_inputs r still m.inputs t.1 (length entry.function.parameters) m.sources (Listed graph entry) (λ given x y e f. e ∙ sym f))) said other c d

  pub replayed_once : (m : Replaying) → IsTrue (are_told r (m.sources ++ m.traces ∷ [])) → AnyTwo IsSame (IsDueOf r (asks.replay m))
  replayed_once m h said other c d =
      let t = both_told m.sources m.traces h in
      let Reported : GraphParts → EntryFunction → Predicates → Plan → ℕ → List Input → Said → Type 0 = λ graph entry p plan steps given. IsMeasured graph entry p plan m.ends steps m.json given in
      let Given : GraphParts → EntryFunction → Predicates → Plan → Said → Type 0 = λ graph entry p plan.
      OfTraces r m.sources graph entry.function m.ends m.traces p (λ given. Reported graph entry p plan (longest given) (inputs_in given)) in
      let Asking : GraphParts → EntryFunction → Said → Type 0 = λ graph entry. OfQuery m.sources graph m.query (Given graph entry) in
      one_of_sources r still front_law m.sources t.0 IsSame is_same (λ graph. OfEntry graph m.entry (Asking graph)) (λ graph.
      one_by IsSame is_same (entry_of graph m.entry) no_such_entry (Asking graph) (λ entry.
      one_of_query predicates_law graph m.query IsSame is_same m.sources (Given graph entry) (λ p plan.
      one_of_traces r still m.traces t.1 graph entry.function m.ends p m.sources (Reported graph entry p plan) (λ steps. one_measured hits_law plan m.ends graph entry p steps m.json)))) said other c d

  pub printed_once : (sources : List Text) → IsTrue (are_told r sources) → AnyTwo IsSame (IsDueOf r (asks.graph sources))
  printed_once sources h said other c d =
      let Printed : GraphParts → Said → Type 0 = λ graph x. x ≡ answered (graph_text graph) in
      one_of_sources r still front_law sources h IsSame is_same Printed (λ graph x y e f. e ∙ sym f) said other c d

  pub ended_once : ((texts : List SourceText) → trees.HasOneOutcome texts) → (m : Running) → IsTrue (are_told r (m.sources ++ m.inputs ∷ [])) → AnyTwo IsSame (IsDueOf r (asks.trees m))
  ended_once trees_law m h said other c d =
      let t = both_told m.sources m.inputs h in
      let Ended : GraphParts → Typed → EntryFunction → List Input → Said → Type 0 = λ graph typed entry given x. x ≡ ended graph typed entry m.steps given in
      let Given : GraphParts → Typed → EntryFunction → Said → Type 0 = λ graph typed entry. OfInputs r m.sources m.inputs (length entry.function.parameters) (Ended graph typed entry) in
      one_of_trees r still front_law m.sources t.0 trees_law (λ graph typed. OfEntry graph m.entry (Given graph typed)) (λ graph typed.
      one_by IsSame is_same (entry_of graph m.entry) no_such_entry (Given graph typed) (λ entry.
      one_of_inputs r still m.inputs t.1 (length entry.function.parameters) m.sources (Ended graph typed entry) (λ given x y e f. e ∙ sym f))) said other c d

  pub eventful_once : ((texts : List SourceText) → trees.HasOneOutcome texts) → (m : Running) → IsTrue (are_told r (m.sources ++ m.inputs ∷ [])) → AnyTwo IsSame (IsDueOf r (asks.events m))
  eventful_once trees_law m h said other c d =
      let t = both_told m.sources m.inputs h in
      let Listed : GraphParts → Typed → EntryFunction → List Input → Said → Type 0 = λ graph typed entry given. AreEvents graph typed entry m.steps given in
      let Given : GraphParts → Typed → EntryFunction → Said → Type 0 = λ graph typed entry. OfInputs r m.sources m.inputs (length entry.function.parameters) (Listed graph typed entry) in
      one_of_trees r still front_law m.sources t.0 trees_law (λ graph typed. OfEntry graph m.entry (Given graph typed)) (λ graph typed.
      one_by IsSame is_same (entry_of graph m.entry) no_such_entry (Given graph typed) (λ entry.
      one_of_inputs r still m.inputs t.1 (length entry.function.parameters) m.sources (Listed graph typed entry) (λ given x y e f. e.text ∙ sym f.text))) said other c d

none_told : (b : Bool) → IsTrue (false && b) → ⊥
none_told b h = absurd cc

pub at_most_one : ((texts : List SourceText) → front.HasOneOutcome texts) → ((texts : List SourceText) → trees.HasOneOutcome texts) → predicates.OneOutcome → OneListOfHits → AtMostOneIsDue
at_most_one front_law trees_law predicates_law hits_law r words still told said other a b = by (request_of words) told a b
  where
    asked_once : (asked : Asked) → IsTold r asked → IsDueOf r asked said → IsDueOf r asked other → said ≡ other
    asked_once (measure m) h c d = measured_once front_law predicates_law hits_law r still m h said other c d
    asked_once (goals m) h c d = listed_once front_law predicates_law hits_law r still m h said other c d
    asked_once (runs m) h c d = recorded_once front_law predicates_law hits_law r still m h said other c d
    asked_once (generate m) h c d = absurd (none_told (are_told r (files_of (generate m))) h)
    asked_once (prove m) h c d = absurd (none_told (are_told r (files_of (prove m))) h)
    asked_once (check m) h c d = absurd (none_told (are_told r (files_of (check m))) h)
    asked_once (suffice m) h c d = absurd (none_told (are_told r (files_of (suffice m))) h)
    asked_once (asks.prove_bounds m) h c d = absurd (none_told (are_told r (files_of (asks.prove_bounds m))) h)
    asked_once (asks.check_bounds m) h c d = absurd (none_told (are_told r (files_of (asks.check_bounds m))) h)
    asked_once (asks.least m) h c d = absurd (none_told (are_told r (files_of (asks.least m))) h)
    asked_once (asks.traces m) h c d = traced_once front_law predicates_law hits_law r still m h said other c d
    asked_once (asks.replay m) h c d = replayed_once front_law predicates_law hits_law r still m h said other c d
    asked_once (asks.trees m) h c d = ended_once front_law predicates_law hits_law r still trees_law m h said other c d
    asked_once (asks.events m) h c d = eventful_once front_law predicates_law hits_law r still trees_law m h said other c d
    asked_once (asks.graph sources) h c d = printed_once front_law predicates_law hits_law r still sources h said other c d
    asked_once (sample number) h c d = absurd (none_told (are_told r (files_of (sample number))) h)

    by : (o : Option Asked) → IfSome o (IsTold r) → MatchOption o (said ≡ usage) (λ asked. IsDueOf r asked said) → MatchOption o (other ≡ usage) (λ asked. IsDueOf r asked other) → said ≡ other
    by None h c d = c ∙ sym d
    by (Some asked) h c d = asked_once asked h c d
