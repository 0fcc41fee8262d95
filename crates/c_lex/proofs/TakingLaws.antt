-- What tokens and directive lines come to.
use Rattle.std.proofs.Common.{◌≡◌, ℕ, suc, ◌<◌, Bool, true, false, List, [], ◌∷◌, ◌++◌, length, drop, refl, arith, ap, sym, ◌∙◌}
use Rattle.std.specs.Prelude.{Option, Some, None, option_map, if◌then◌else◌, is_some, Result}
use Rattle.std.specs.Str.{bytes_eq}
use Rattle.std.specs.Result.{IsErrAnd}
use Rattle.std.proofs.lemmas.Result.{err_from_is_err_and}
use Rattle.fq_core.specs.declared.refusal.Place.{Place}
use Rattle.fq_core.specs.declared.refusal.Fault.{Fault}
use Rattle.fq_core.specs.declared.refusal.Fault.TheVariants as fault
use Rattle.c_lex.specs.declared.macros.Macro.{Macro}
use Rattle.c_lex.specs.Macros.{macro_of, index_of, list_at}
use Rattle.c_lex.specs.declared.directive.Directive.TheVariants as says
use Rattle.c_lex.specs.declared.macros.Replacement.{Replacement}
use Rattle.c_lex.specs.declared.piece.Piece.{Piece}
use Rattle.c_lex.specs.Directives.{directive_of, list_of}
use Rattle.c_lex.specs.Lexed.{gives, stops, LineComesTo}
use Rattle.c_lex.specs.Pieces.{part, AreLineTokens}
use Rattle.c_lex.specs.Taking.{DirectiveTaken}
use Rattle.c_lex.proofs.TableLaws.{none_suc}

-- the index and the list of a macro
pub record Found (ms : List Macro) (q : List ℕ) (i : ℕ) : Type 0 where
  pub within : i < length ms
  pub list : macro_of ms q ≡ Some (list_at ms i)

found_more : (m : Macro) (ms : List Macro) (q : List ℕ) (v : Bool) (o : Option ℕ) (i : ℕ) → bytes_eq m.name q ≡ v → index_of ms q ≡ o → ((j : ℕ) → o ≡ Some j → Found ms q j)
    → (if v then Some 0 else option_map suc o) ≡ Some i → Found (m ∷ ms) q i
unfolding macro_of list_at
found_more m ms q true o i e f h g =
    let z : i ≡ 0 = cc in
    rw z (record { within = omega arith; list = rw e refl })
found_more m ms q false None i e f h g = cc
found_more m ms q false (Some j) i e f h g =
    let z : i ≡ suc j = cc in
    let k = h j refl in
    let within = k.within in
    rw z (record { within = omega arith; list = rw e k.list })

pub found : (ms : List Macro) (q : List ℕ) (i : ℕ) → index_of ms q ≡ Some i → Found ms q i
unfolding index_of
found [] q i h = cc
found (m ∷ ms) q i h = found_more m ms q (bytes_eq m.name q) (index_of ms q) i refl refl (found ms q) h

unknown_by : (m : Macro) (ms : List Macro) (q : List ℕ) (v : Bool) → bytes_eq m.name q ≡ v → (index_of ms q ≡ None → macro_of ms q ≡ None)
    → (if v then Some 0 else option_map suc (index_of ms q)) ≡ None → (if v then Some m.list else macro_of ms q) ≡ None
unknown_by m ms q true e h g = cc
unknown_by m ms q false e h g = h (none_suc _ g)

pub unknown : (ms : List Macro) (q : List ℕ) → index_of ms q ≡ None → macro_of ms q ≡ None
unfolding index_of macro_of
unknown [] q h = refl
unknown (m ∷ ms) q h = unknown_by m ms q (bytes_eq m.name q) refl (unknown ms q) h

none_is : (A : Type 0) (o : Option A) → is_some o ≡ false → o ≡ None
none_is A None h = refl
none_is A (Some x) h = cc

some_is : (o : Option ℕ) → is_some o ≡ true → (i : ℕ) × (o ≡ Some i)
some_is None h = absurd (let x : ⊥ = cc in x)
some_is (Some i) h = (i, refl)

module _ (ms : List Macro) (q name : List ℕ) (r : Option ℕ) (index : r ≡ index_of ms name) (b : Bool) (test : b ≡ is_some r) (same : name ≡ q) where
  pub is_known : b ≡ true → macro_of ms q ≡ None → ⊥
  is_known t n =
      let s = some_is (index_of ms name) (ap is_some (sym index) ∙ sym test ∙ t) in
      let f = found ms name s.0 s.1 in
      let e = ap (macro_of ms) same in
      let g = f.list in cc

  pub is_unknown : b ≡ false → macro_of ms q ≡ None
  is_unknown t = ap (macro_of ms) (sym same) ∙ unknown ms name (sym index ∙ none_is ℕ r (sym test ∙ t))

pub directive_memory : (line : List ℕ) (place : Place) (old new : List Macro) (r : Result Unit Fault) → IsErrAnd r (λ e. e ≡ fault.Memory) → DirectiveTaken line place old new r
directive_memory line place old new r h = let p = err_from_is_err_and r h in rw (p.1, p.2) tt

-- ---- what directive lines come to

module _ (table : List Macro) (line : List ℕ) (place : Place) (tokens : List Piece) (cut : AreLineTokens line tokens) where
  pub included : directive_of line tokens ≡ says.Include → LineComesTo table line place (gives [] 0 table)
  included e = record { tokens = tokens; cut = cut; effect = rw e refl }

  pub unknown_byte : directive_of line tokens ≡ says.UnknownByte → LineComesTo table line place (stops 10 place)
  unknown_byte e = record { tokens = tokens; cut = cut; effect = rw e refl }

  pub wrong : directive_of line tokens ≡ says.Wrong → LineComesTo table line place (stops 12 place)
  wrong e = record { tokens = tokens; cut = cut; effect = rw e refl }

  module _ (at n : ℕ) (e : directive_of line tokens ≡ says.Define at n) where
    twice_by : (o : Option (List Replacement)) → macro_of table (part line at n) ≡ o → (macro_of table (part line at n) ≡ None → ⊥) → LineComesTo table line place (stops 12 place)
    twice_by None m u = absurd (u m)
    twice_by (Some list) m u = record { tokens = tokens; cut = cut; effect = rw (e, m) refl }

    pub defined_twice : (macro_of table (part line at n) ≡ None → ⊥) → LineComesTo table line place (stops 12 place)
    defined_twice u = twice_by (macro_of table (part line at n)) refl u

    pub wide_list : macro_of table (part line at n) ≡ None → list_of line (drop 2 tokens) ≡ None → LineComesTo table line place (stops 13 place)
    wide_list m l = record { tokens = tokens; cut = cut; effect = rw (e, m, l) refl }

    pub defined : (list : List Replacement) (new : List Macro) → macro_of table (part line at n) ≡ None → list_of line (drop 2 tokens) ≡ Some list
        → new ≡ table ++ record { name = part line at n; list = list } ∷ [] → LineComesTo table line place (gives [] 0 new)
    defined list new m l s = record { tokens = tokens; cut = cut; effect = rw (e, m, l, s) refl }
