-- The entries at which runs end in a way that counts.
use Rattle.std.proofs.Common.{◌≡◌, ℕ, ◌+◌, ◌*◌, ◌≤◌, Bool, true, false, ◌&&◌, ◌||◌, cond, List, [], ◌∷◌, ◌++◌, length, take, Some, refl, sym, ap, ◌∙◌, arith}
use Rattle.std.specs.Prelude.{slice_get}
use Rattle.std.specs.List.{list_any}
use Rattle.std.proofs.lemmas.List.{take_all, take_more}
use Rattle.std.proofs.lemmas.Option.{get_or_from_slice_get, slice_get_within}
use Rattle.bit_words.proofs.Steps.{grows_none, grows_then, grows_within}
use Rattle.bit_words.proofs.Values.{no_holds}
use Rattle.bit_words.specs.Words.{Grows}
use Rattle.circuit.specs.Sharing.{no_lit}
use Rattle.circuit.specs.Truth.{World}
use Rattle.circuit.specs.Wires.{IsWire, lit_holds}
use Rattle.circuit.specs.declared.lit.Gate.{Gate}
use Rattle.circuit.specs.declared.lit.Lit.{Lit}
use Rattle.unwinder.specs.Lists.{entries_in}
use Rattle.unwinder.specs.declared.unwound.Entry.{Entry}
use Rattle.goal_formula.specs.Steps.{HasWires}

any_push : {X : Type 0} (p : X → Bool) (xs : List X) (x : X) → list_any p (xs ++ x ∷ []) ≡ (list_any p xs || p x)
any_push p [] x = or_no (p x)
  where
    or_no : (b : Bool) → (b || false) ≡ b
    or_no true = refl
    or_no false = refl
any_push p (y ∷ xs) x = ap (λ b. p y || b) (any_push p xs x) ∙ or_again (p y) (list_any p xs) (p x)
  where
    or_again : (a b c : Bool) → (a || (b || c)) ≡ ((a || b) || c)
    or_again true b c = refl
    or_again false b c = refl

-- an entry holds, and the run ends there in a way that counts
abbrev pub ends_at : List Gate → World → Entry → Bool
ends_at gates w e = lit_holds gates e.guard w && lit_holds gates e.ended w

-- some entry that holds ends the run
pub ends_held : (gates : List Gate) (w : World) (entries : List Entry) → list_any (ends_at gates w) entries ≡ list_any (λ (e : Entry). lit_holds gates e.ended w) (entries_in gates entries w)
ends_held gates w [] = refl
ends_held gates w (e ∷ es) = by (lit_holds gates e.guard w) (ends_held gates w es)
  where
    by : (b : Bool) → list_any (ends_at gates w) es ≡ list_any (λ (x : Entry). lit_holds gates x.ended w) (entries_in gates es w)
        → ((b && lit_holds gates e.ended w) || list_any (ends_at gates w) es) ≡ list_any (λ (x : Entry). lit_holds gates x.ended w) (cond b (e ∷ entries_in gates es w) (entries_in gates es w))
    by true rest = ap (λ b. lit_holds gates e.ended w || b) rest
    by false rest = rest

-- a literal that holds where one of the first entries ends the run
pub record EndsSoFar (old now : List Gate) (entries : List Entry) (l : Lit) (k : ℕ) : Type 0 where
  pub grows : Grows old now (2 * k)
  pub wire : IsWire now l
  pub value : (w : World) → lit_holds now l w ≡ list_any (ends_at old w) (take k entries)

pub ends_none : (gates : List Gate) (entries : List Entry) → EndsSoFar gates gates entries no_lit 0
ends_none gates entries = record {
  grows = grows_none gates 0;
  wire = omega arith;
  value = λ w. no_holds gates w;
}

pub ends_more : {old now mid new : List Gate} {entries : List Entry} {l : Lit} {k : ℕ} (e : Entry) (here next : Lit) → slice_get entries k ≡ Some e → HasWires old e → EndsSoFar old now entries l k
    → Grows now mid 1 → IsWire mid here → ((w : World) → lit_holds mid here w ≡ (lit_holds now e.guard w && lit_holds now e.ended w))
    → Grows mid new 1 → IsWire new next → ((w : World) → lit_holds new next w ≡ (lit_holds mid l w || lit_holds mid here w))
    → EndsSoFar old new entries next (k + 1)
ends_more {old} {now} {mid} {new} {entries} {l} {k} e here next there own s first wire value second last is =
    let lt = slice_get_within entries k e there in
    let more : take (k + 1) entries ≡ take k entries ++ e ∷ [] = take_more entries k e lt ∙ ap (λ x. take k entries ++ x ∷ []) (get_or_from_slice_get entries k e e there) in
    record {
      grows = grows_within (2 * (k + 1)) (grows_then s.grows (grows_then first second)) (omega arith);
      wire = last;
      value = λ w.
          is w
          ∙ ap (λ b. b || lit_holds mid here w) (first.older.same l s.wire w ∙ s.value w)
          ∙ ap (λ b. list_any (ends_at old w) (take k entries) || b)
          (value w ∙ ap (λ b. b && lit_holds now e.ended w) (s.grows.older.same e.guard own.guard w) ∙ ap (λ b. lit_holds old e.guard w && b) (s.grows.older.same e.ended own.ended w))
          ∙ sym (any_push (ends_at old w) (take k entries) e)
          ∙ ap (list_any (ends_at old w)) (sym more);
    }

pub ends_all : {old now : List Gate} {entries : List Entry} {l : Lit} {k : ℕ} → EndsSoFar old now entries l k → length entries ≤ k → (w : World) → lit_holds now l w ≡ list_any (ends_at old w) entries
ends_all {old} {now} {entries} {l} {k} s end w = s.value w ∙ ap (list_any (ends_at old w)) (take_all k entries end)
