-- The table of macros.
use Rattle.std.proofs.Common.{◌≡◌, ℕ, suc, Bool, true, false, List, [], ◌∷◌, ◌++◌, length, refl, ap, sym, ◌∙◌, nat_cmp}
use Rattle.std.specs.Prelude.{Option, Some, None, option_map, if◌then◌else◌}
use Rattle.std.specs.Str.{bytes_eq}
use Rattle.std.specs.Cmp.Lexicographic.{slice_cmp}
use Rattle.std.specs.BTreeMap.{BTreeMap, get, Updates}
use Rattle.std.proofs.lemmas.Map.Text.{is_eq-slice_cmp}
use Rattle.std.proofs.lemmas.Bool.{and_parts, eqb-true, eq-eqb}
use Rattle.c_lex.specs.declared.macros.Macro.{Macro}
use Rattle.c_lex.specs.Macros.{index_of}

pub same_bytes : (xs ys : List ℕ) → bytes_eq xs ys ≡ true → xs ≡ ys
same_bytes [] [] h = refl
same_bytes [] (y ∷ ys) h = cc
same_bytes (x ∷ xs) [] h = cc
same_bytes (x ∷ xs) (y ∷ ys) h =
    let parts = and_parts _ _ h in
    let first : x ≡ y = eqb-true x y parts.0 in
    let rest : xs ≡ ys = same_bytes xs ys parts.1 in cc

pub bytes_same : (xs : List ℕ) → bytes_eq xs xs ≡ true
bytes_same [] = refl
bytes_same (x ∷ xs) = rw (eq-eqb x x refl) (bytes_same xs)

pub empty_get : (m : BTreeMap (List ℕ) ℕ) (ms : List Macro) → m.entries ≡ [] → ms ≡ [] → (q : List ℕ) → get (slice_cmp nat_cmp) m q ≡ index_of ms q
unfolding index_of
empty_get m ms e f q = rw (e, f) refl

pub none_suc : (o : Option ℕ) → option_map suc o ≡ None → o ≡ None
none_suc None h = refl
none_suc (Some n) h = cc

module _ (m : Macro) (q : List ℕ) where
  placed_by : (x : Macro) (xs : List Macro) (u v : Bool) → bytes_eq x.name q ≡ u → bytes_eq m.name q ≡ v → (bytes_eq x.name m.name ≡ false)
      → index_of (xs ++ m ∷ []) q ≡ (if v then Some (length xs) else index_of xs q)
      → (if u then Some 0 else option_map suc (index_of (xs ++ m ∷ []) q)) ≡ (if v then Some (suc (length xs)) else (if u then Some 0 else option_map suc (index_of xs q)))
  placed_by x xs true true e f n h =
      let a : x.name ≡ q = same_bytes _ _ e in
      let b : m.name ≡ q = same_bytes _ _ f in
      let c : x.name ≡ m.name = a ∙ sym b in
      let d : bytes_eq x.name m.name ≡ true = rw c (bytes_same m.name) in cc
  placed_by x xs true false e f n h = refl
  placed_by x xs false true e f n h = rw h refl
  placed_by x xs false false e f n h = rw h refl

  new_by : (x : Macro) (xs : List Macro) (w : Bool) → bytes_eq x.name m.name ≡ w → (if w then Some 0 else option_map suc (index_of xs m.name)) ≡ None → (w ≡ false) × (index_of xs m.name ≡ None)
  new_by x xs true e h = cc
  new_by x xs false e h = (refl, none_suc _ h)

  pub placed : (ms : List Macro) → index_of ms m.name ≡ None → index_of (ms ++ m ∷ []) q ≡ (if bytes_eq m.name q then Some (length ms) else index_of ms q)
  unfolding index_of
  placed [] new = refl
  placed (x ∷ xs) new =
      let n = new_by x xs (bytes_eq x.name m.name) refl new in
      placed_by x xs (bytes_eq x.name q) (bytes_eq m.name q) refl refl n.0 (placed xs n.1)

pub defined_get : (old new : BTreeMap (List ℕ) ℕ) (ms all : List Macro) (m : Macro) (key : List ℕ) (index : ℕ) → ((q : List ℕ) → get (slice_cmp nat_cmp) old q ≡ index_of ms q) → index_of ms m.name ≡ None
    → Updates (slice_cmp nat_cmp) old new key (Some index) → key ≡ m.name → index ≡ length ms → all ≡ ms ++ m ∷ [] → (q : List ℕ) → get (slice_cmp nat_cmp) new q ≡ index_of all q
defined_get old new ms all m key index was none u k p a q =
    rw a (u.0 q ∙ ap (λ b. if b then Some index else get (slice_cmp nat_cmp) old q) (is_eq-slice_cmp key q) ∙ rw (k, p, was q) (sym (placed m q ms none)))
