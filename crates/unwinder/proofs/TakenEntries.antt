-- What stands of an input's run when a place is taken.
use Rattle.std.proofs.Common.{◌≡◌, ℕ, true, false, List, [], ◌∷◌, ◌++◌, map, Some, sym, ap, subst, ◌∙◌}
use Rattle.std.specs.Prelude.{slice_get}
use Rattle.std.specs.List.{AllZip, filter}
use Rattle.std.proofs.lemmas.List.{append-nil}
use Rattle.std.proofs.lemmas.List.Elements.{filter-append}
use Rattle.circuit.specs.Bits.{at_same}
use Rattle.circuit.specs.Truth.{World}
use Rattle.circuit.specs.Wires.{IsWire, lit_holds}
use Rattle.circuit.specs.declared.lit.Gate.{Gate}
use Rattle.circuit.specs.declared.lit.Lit.{Lit}
use Rattle.bit_words.specs.Words.{Grows}
use Rattle.cfa.specs.declared.parts.GraphParts.{GraphParts}
use Rattle.cfa.specs.declared.state.Predicates.{Predicates}
use Rattle.c_meaning.specs.declared.ends.Ends.{Ends}
use Rattle.c_meaning.specs.declared.input.Input.{Input}
use Rattle.unwinder.specs.declared.arrival.Arrival.{Arrival}
use Rattle.unwinder.specs.declared.unwound.Entry.{Entry}
use Rattle.unwinder.specs.Agenda.{entry_at}
use Rattle.unwinder.specs.Lists.{Reached, Tells, entries_in}
use Rattle.unwinder.specs.Unwinding.{IsEntry}
use Rattle.unwinder.proofs.ListLaws.{filter_alone, filter_from, filter_none, filter_same, filter_through, zip_change}

-- ---- entries, over a circuit that has grown

module _ (parts : GraphParts) (predicates : Predicates) (ends : Ends) (old new : List Gate) (most : ℕ) (grows : Grows old new most) (w : World) (x : Input) where
  same_lit : (l : Lit) → IsWire old l → lit_holds new l w ≡ lit_holds old l w
  same_lit l h = grows.older.same l h w

  pub tells_later : (e : Entry) (at : Reached) → IsEntry predicates old e → Tells parts predicates ends old w x e at → Tells parts predicates ends new w x e at
  tells_later e at h t = record {
    edge = t.edge;
    node = t.node;
    truths = at_same e.predicates w grows.older h.truths ∙ t.truths;
    ended = same_lit e.ended h.ended ∙ t.ended;
  }

  module _ (entries : List Entry) (each : (i : ℕ) (e : Entry) → slice_get entries i ≡ Some e → IsEntry predicates old e) where
    pub entries_later : entries_in new entries w ≡ entries_in old entries w
    entries_later = filter_same _ _ entries (λ i e h. same_lit e.guard (each i e h).guard)

    pub told_later : (states : List Reached) → AllZip (Tells parts predicates ends old w x) (entries_in old entries w) states → AllZip (Tells parts predicates ends new w x) (entries_in new entries w) states
    told_later states h =
        let P : List Entry → Type 0 = λ es. AllZip (Tells parts predicates ends new w x) es states in
        subst P (sym entries_later)
        (zip_change (Tells parts predicates ends old w x) (Tells parts predicates ends new w x) (entries_in old entries w) states
        (λ l e at is t. let from = filter_from (λ (e : Entry). lit_holds old e.guard w) entries l e is in tells_later e at (each from.0 e from.1) t) h)

    module _ (node : ℕ) (truths : List Lit) (ended : Lit) (row : List Arrival) (wires : (k : ℕ) (a : Arrival) → slice_get row k ≡ Some a → IsWire old a.guard) where
      abbrev made : List Entry
      made = map (entry_at node truths ended) row

      all_entries : entries_in new (entries ++ made) w ≡ entries_in new entries w ++ map (entry_at node truths ended) (filter (λ (a : Arrival). lit_holds new a.guard w) row)
      all_entries = filter-append (λ (e : Entry). lit_holds new e.guard w) entries made ∙ ap (λ es. entries_in new entries w ++ es) (filter_through (λ (e : Entry). lit_holds new e.guard w) (entry_at node truths ended) row)

      -- where no arrival is taken, the same entries hold
      pub entries_none : ((k : ℕ) (a : Arrival) → slice_get row k ≡ Some a → lit_holds old a.guard w ≡ false) → entries_in new (entries ++ made) w ≡ entries_in new entries w
      entries_none none =
          let nothing = filter_none (λ (a : Arrival). lit_holds new a.guard w) row (λ k a e. same_lit a.guard (wires k a e) ∙ none k a e) in
          all_entries ∙ ap (λ rs. entries_in new entries w ++ map (entry_at node truths ended) rs) nothing ∙ append-nil (entries_in new entries w)

      -- where one alone is taken, its entry holds too
      pub entries_alone : (k : ℕ) (a : Arrival) → slice_get row k ≡ Some a → lit_holds old a.guard w ≡ true → ((l : ℕ) (b : Arrival) → slice_get row l ≡ Some b → lit_holds old b.guard w ≡ true → l ≡ k) → entries_in new (entries ++ made) w ≡ entries_in new entries w ++ entry_at node truths ended a ∷ []
      entries_alone k a is so alone =
          let one = filter_alone (λ (b : Arrival). lit_holds new b.guard w) row k a is (same_lit a.guard (wires k a is) ∙ so) (λ l b e t. alone l b e (sym (same_lit b.guard (wires l b e)) ∙ t)) in
          all_entries ∙ ap (λ rs. entries_in new entries w ++ map (entry_at node truths ended) rs) one
