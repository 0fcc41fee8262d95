-- Files that hold the same have one automaton.
use Rattle.std.proofs.Common.{◌≡◌, ℕ, List, [], ◌∷◌, map, Option, Some, refl, sym, subst, ◌∙◌}
use Rattle.std.specs.Prelude.{IfSome}
use Rattle.c_front.specs.Automata.{IsAutomatonOf}
use Rattle.c_front.specs.Laws as front
use Rattle.c_lex.specs.declared.token.SourceText.{SourceText}
use Rattle.cfa.specs.declared.parts.GraphParts.{GraphParts}
use Rattle.bounds_check.specs.Laws.{UnhitIsUnreachable}
use Rattle.bounds_check.specs.Leaving.{NoneLeaves}
use Rattle.unwinder_reach.specs.declared.reached.bounds.Bounds.{Bounds}
use Rattle.command_words.specs.Reading.{Text}
use Rattle.command.specs.Reads.{Reads}
use Rattle.command.specs.Runs.{EntryFunction, entry_of}
use Rattle.command.specs.Sources.{AreRead, HaveAutomaton, IsRead}
use Rattle.command_laws.specs.printed_laws.Named.{NamedEntry}
use Rattle.command_laws.specs.refuted_laws.Laws.{AreTold, HoldTheSame, RefutedIsUnreachable}

-- ---- the same texts

same_text : (x y : SourceText) → x.name ≡ y.name → x.bytes ≡ y.bytes → x ≡ y
same_text x y e f = λ i. record { name = e i; bytes = f i }

same_head : (a b : Option (List ℕ)) (xs ys : List (Option (List ℕ))) → a ∷ xs ≡ b ∷ ys → a ≡ b
same_head a b xs ys e = cc

same_tail : (a b : Option (List ℕ)) (xs ys : List (Option (List ℕ))) → a ∷ xs ≡ b ∷ ys → xs ≡ ys
same_tail a b xs ys e = cc

module _ (before after : Reads) where
  one_text : (file : Text) (x y : SourceText) → before.holds file ≡ after.holds file → (held : List ℕ) → after.holds file ≡ Some held → IsRead before.holds file x → IsRead after.holds file y → x ≡ y
  one_text file x y same held told a b =
      let first : x.bytes ≡ held = subst (λ (o : Option (List ℕ)). IfSome o (λ held. x.bytes ≡ held)) (same ∙ told) a.bytes in
      let second : y.bytes ≡ held = subst (λ (o : Option (List ℕ)). IfSome o (λ held. y.bytes ≡ held)) told b.bytes in
      same_text x y (a.name ∙ sym b.name) (first ∙ sym second)

  one_reading : (files : List Text) (xs ys : List SourceText) → map before.holds files ≡ map after.holds files → AreTold after files → AreRead before.holds files xs → AreRead after.holds files ys → xs ≡ ys
  one_reading [] [] [] same told a b = refl
  one_reading [] [] (y ∷ ys) same told a b = absurd b
  one_reading [] (x ∷ xs) ys same told a b = absurd a
  one_reading (f ∷ fs) [] ys same told a b = absurd a
  one_reading (f ∷ fs) (x ∷ xs) [] same told a b = absurd b
  one_reading (f ∷ fs) (x ∷ xs) (y ∷ ys) same told a b =
      let here = one_text f x y (same_head (before.holds f) (after.holds f) (map before.holds fs) (map after.holds fs) same) told.0.0 told.0.1 a.0 b.0 in
      let rest = one_reading fs xs ys (same_tail (before.holds f) (after.holds f) (map before.holds fs) (map after.holds fs) same) told.1 a.1 b.1 in
      λ i. here i ∷ rest i

  still_read : (files : List Text) (xs : List SourceText) → map before.holds files ≡ map after.holds files → AreRead before.holds files xs → AreRead after.holds files xs
  still_read [] [] same a = a
  still_read [] (x ∷ xs) same a = absurd a
  still_read (f ∷ fs) [] same a = absurd a
  still_read (f ∷ fs) (x ∷ xs) same a =
      let here = same_head (before.holds f) (after.holds f) (map before.holds fs) (map after.holds fs) same in (
        record { name = a.0.name; bytes = subst (λ (o : Option (List ℕ)). IfSome o (λ held. x.bytes ≡ held)) here a.0.bytes; short = a.0.short },
        still_read fs xs (same_tail (before.holds f) (after.holds f) (map before.holds fs) (map after.holds fs) same) a.1,
      )

  module _ (law : (texts : List SourceText) → front.HasOneOutcome texts) (files : List Text) (h : HoldTheSame before after files) where
    one_automaton : (g k : GraphParts) → HaveAutomaton before.holds files g → HaveAutomaton after.holds files k → g ≡ k
    one_automaton g k a b =
        let texts = one_reading files a.texts b.texts h.same h.told a.read b.read in
        (law b.texts).one_answer g k (subst (λ (ts : List SourceText). IsAutomatonOf ts g) texts a.automaton) b.automaton

    pub still_have : (g : GraphParts) → HaveAutomaton before.holds files g → HaveAutomaton after.holds files g
    still_have g a = record { texts = a.texts; read = still_read files a.texts h.same a.read; automaton = a.automaton }

    -- no input leaves bounds from an entry that was named before, where none leaves them from the one that is named after
    pub none_leaves : (name : Text) (bounds : Bounds) (x : NamedEntry before files name) (y : NamedEntry after files name) → NoneLeaves y.graph y.entry.function bounds → NoneLeaves x.graph x.entry.function bounds
    none_leaves name bounds x y none =
        let graphs = one_automaton x.graph y.graph x.automaton y.automaton in
        let named : entry_of x.graph name ≡ Some y.entry = subst (λ (g : GraphParts). entry_of g name ≡ Some y.entry) (sym graphs) y.entry_is in
        let entries : y.entry ≡ x.entry = (let both : Some y.entry ≡ Some x.entry = sym named ∙ x.entry_is in cc) in
        subst (λ (e : EntryFunction). NoneLeaves x.graph e.function bounds) entries (subst (λ (g : GraphParts). NoneLeaves g y.entry.function bounds) (sym graphs) none)

-- ---- goals

pub refuted_is_unreachable : ((texts : List SourceText) → front.HasOneOutcome texts) → UnhitIsUnreachable → RefutedIsUnreachable
refuted_is_unreachable law unhit before after sources name query number bounds ends said other same refuted suffices =
    let x = refuted.of in
    let entry : NamedEntry before sources name = record { graph = x.graph; automaton = x.automaton; entry = x.entry; entry_is = x.entry_is } in
    let none = none_leaves before after law sources same name bounds entry suffices.of suffices.none in
    record {
      of = record {
        graph = x.graph;
        automaton = still_have before after law sources same x.graph x.automaton;
        entry = x.entry;
        entry_is = x.entry_is;
        predicates = x.predicates;
        plan = x.plan;
        planned = x.planned;
        goal = x.goal;
        goal_is = x.goal_is;
      };
      none = unhit x.graph x.entry.function bounds x.predicates x.plan ends x.goal none refuted.none;
    }
