-- The table of the edges that lead into each node.
use Rattle.std.proofs.Common.{◌≡◌, ℕ, ◌+◌, ◌≤◌, ◌<◌, ◌==◌, Bool, true, false, List, [], ◌∷◌, ◌++◌, Option, Some, None, length, get_or, set, take, inl, inr, refl, sym, ◌∙◌, ap, subst, eq-eqb, get_or-set_same, get_or-set_other}
use Rattle.std.proofs.lemmas.Bool.{cases_eq, ne_eqb}
use Rattle.std.proofs.lemmas.List.{take_more}
use Rattle.std.proofs.lemmas.List.Elements.{filter-append}
use Rattle.std.proofs.lemmas.Option.{slice_get_read, get_or_from_slice_get}
use Rattle.std.specs.List.{filter, slice_get}
use Rattle.std.specs.Option.{IsSomeAnd}
use Rattle.cfa.specs.declared.parts.Edge.{Edge}
use Rattle.fql_read.specs.declared.filter.FilterForm.TheOpen.{FilterForm-F}
use Rattle.filters.specs.declared.blocks.Incoming.{Incoming}
use Rattle.filters.specs.declared.blocks.Incoming.TheVariants.{Nothing, One, Several}
use Rattle.std.proofs.lemmas.Option.{slice_get_past}
use Rattle.cfa.specs.declared.parts.GraphParts.{GraphParts}
use Rattle.filters.specs.Incoming.{incoming_of, with_source, begins_by, SourceBelow, AreBlocks}
use Rattle.filters.specs.Parts.{is_marked}
use Rattle.filters.specs.Properties.{begins_block, begins_behind, has_property}
use Rattle.filters.proofs.MarksLaws.{table_is}

pub read_at : {X : Type 0} (xs ys : List X) → ys ≡ xs → (i : ℕ) (x : X) → i < length xs → x ≡ get_or ys i x → slice_get xs i ≡ Some x
read_at xs ys e i x lt is = slice_get_read xs (length xs) i x refl lt (is ∙ ap (λ l. get_or l i x) e)

filter_true : {X : Type 0} (p : X → Bool) (x : X) → p x ≡ true → filter p (x ∷ []) ≡ x ∷ []
filter_true p x h = rw h refl

filter_false : {X : Type 0} (p : X → Bool) (x : X) → p x ≡ false → filter p (x ∷ []) ≡ []
filter_false p x h = rw h refl

append_none : {X : Type 0} (xs : List X) → xs ++ [] ≡ xs
append_none [] = refl
append_none (x ∷ xs) = ap (λ ys. x ∷ ys) (append_none xs)

one_more : (es : List Edge) (e : Edge) → incoming_of (es ++ e ∷ []) ≡ with_source (incoming_of es) e.source
one_more [] e = refl
one_more (a ∷ []) e = refl
one_more (a ∷ b ∷ rest) e = refl

taken_more : (edges : List Edge) (k : ℕ) (e : Edge) → k < length edges → slice_get edges k ≡ Some e → take (k + 1) edges ≡ take k edges ++ e ∷ []
taken_more edges k e lt h = take_more edges k e lt ∙ ap (λ x. take k edges ++ x ∷ []) (get_or_from_slice_get edges k e e h)

-- the edges into a node, up to one that leads there, and up to one that doesn't
kept_more : (edges : List Edge) (k n : ℕ) (e : Edge) → k < length edges → slice_get edges k ≡ Some e → e.target == n ≡ true
    → filter (λ (a : Edge). a.target == n) (take (k + 1) edges) ≡ filter (λ (a : Edge). a.target == n) (take k edges) ++ e ∷ []
kept_more edges k n e lt h here = ap (filter (λ (a : Edge). a.target == n)) (taken_more edges k e lt h) ∙ filter-append (λ (a : Edge). a.target == n) (take k edges) (e ∷ [])
    ∙ ap (λ xs. filter (λ (a : Edge). a.target == n) (take k edges) ++ xs) (filter_true (λ (a : Edge). a.target == n) e here)

same_kept : (edges : List Edge) (k n : ℕ) (e : Edge) → k < length edges → slice_get edges k ≡ Some e → e.target == n ≡ false
    → filter (λ (a : Edge). a.target == n) (take (k + 1) edges) ≡ filter (λ (a : Edge). a.target == n) (take k edges)
same_kept edges k n e lt h other = ap (filter (λ (a : Edge). a.target == n)) (taken_more edges k e lt h) ∙ filter-append (λ (a : Edge). a.target == n) (take k edges) (e ∷ [])
    ∙ ap (λ xs. filter (λ (a : Edge). a.target == n) (take k edges) ++ xs) (filter_false (λ (a : Edge). a.target == n) e other) ∙ append_none _

pub table_more : (edges : List Edge) (xs : List Incoming) (k at source : ℕ) (slot x : Incoming) → k < length edges → at < length xs
    → IsSomeAnd (slice_get edges k) (λ e. (e.source ≡ source) × (e.target ≡ at)) → slot ≡ get_or xs at Nothing → x ≡ with_source slot source
    → (bound : ℕ) → ((n : ℕ) → n < bound → get_or xs n Nothing ≡ incoming_of (filter (λ (e : Edge). e.target == n) (take k edges)))
    → (n : ℕ) → n < bound → get_or (set xs at x) n Nothing ≡ incoming_of (filter (λ (e : Edge). e.target == n) (take (k + 1) edges))
table_more edges xs k at source slot x lt within ends old new bound each n below = go (slice_get edges k) refl ends
  where
    go : (o : Option Edge) → slice_get edges k ≡ o → IsSomeAnd o (λ e. (e.source ≡ source) × (e.target ≡ at)) → get_or (set xs at x) n Nothing ≡ incoming_of (filter (λ (e : Edge). e.target == n) (take (k + 1) edges))
    go None h p = absurd p
    go (Some e) h p = elim (cases_eq at n) [
      | inl same ↦
          let here : e.target == n ≡ true = eq-eqb e.target n (p.1 ∙ same) in
          ap (λ m. get_or (set xs at x) m Nothing) (sym same) ∙ get_or-set_same xs at x Nothing within ∙ new
          ∙ ap (λ i. with_source i source) (old ∙ ap (λ m. get_or xs m Nothing) same ∙ each n below)
          ∙ ap (λ s. with_source (incoming_of (filter (λ (a : Edge). a.target == n) (take k edges))) s) (sym p.0)
          ∙ sym (one_more (filter (λ (a : Edge). a.target == n) (take k edges)) e)
          ∙ ap incoming_of (sym (kept_more edges k n e lt h here))
      | inr other ↦
          let there : e.target == n ≡ false = ne_eqb e.target n (λ q. other (sym p.1 ∙ q)) in
          get_or-set_other xs at n x Nothing (λ q. other (sym q)) ∙ each n below ∙ ap incoming_of (sym (same_kept edges k n e lt h there))
    ]

source_after : (N source : ℕ) (slot : Incoming) → source < N → SourceBelow N (with_source slot source)
source_after N source Nothing lt = lt
source_after N source (One r) lt = tt
source_after N source Several lt = tt

pub below_more : (N : ℕ) (xs : List Incoming) (at source : ℕ) (slot x : Incoming) → source < N → at < length xs → x ≡ with_source slot source
    → ((n : ℕ) → SourceBelow N (get_or xs n Nothing)) → (n : ℕ) → SourceBelow N (get_or (set xs at x) n Nothing)
below_more N xs at source slot x lt within new each n = let P : Incoming → Type 0 = λ i. SourceBelow N i in elim (cases_eq at n) [
  | inl same ↦ subst P (sym (ap (λ m. get_or (set xs at x) m Nothing) (sym same) ∙ get_or-set_same xs at x Nothing within ∙ new)) (source_after N source slot lt)
  | inr other ↦ subst P (sym (get_or-set_other xs at n x Nothing (λ q. other (sym q)))) (each n)
]

nowhere : (parts : GraphParts) (n : ℕ) → length parts.nodes ≤ n → begins_block parts n ≡ false
nowhere parts n ge = rw (slice_get_past parts.nodes n ge) refl

pub blocks_are : (parts : GraphParts) (xs : List Bool) → length xs ≡ length parts.nodes → ((k : ℕ) → k < length parts.nodes → get_or xs k false ≡ begins_block parts k) → is_marked xs ≡ begins_block parts
blocks_are parts xs size each = table_is (begins_block parts) xs (length parts.nodes) size each (nowhere parts)

begins_behind_by : (parts : GraphParts) (es : List Edge) → begins_by parts (incoming_of es) ≡ begins_behind parts es
begins_behind_by parts [] = refl
begins_behind_by parts (e ∷ []) = refl
begins_behind_by parts (e ∷ f ∷ rest) = refl

-- by the table, whether a block begins behind a node's edges
pub behind : (parts : GraphParts) (es : List Edge) (i : Incoming) → i ≡ incoming_of es → begins_by parts i ≡ begins_behind parts es
behind parts es i e = ap (begins_by parts) e ∙ begins_behind_by parts es

-- by the table, the property of edges that begin a basic block
pub blocks_property : {A B : Type 0} (parts : GraphParts) (form : FilterForm-F A B) (begins : List Bool) (e : Edge) (r : Bool) → form ≡ FilterForm-F.BasicBlockEntry → AreBlocks parts form begins → r ≡ is_marked begins e.source → r ≡ has_property parts form e
blocks_property {A} {B} parts form begins e r is blocks h =
    let P : FilterForm-F A B → Type 0 = λ f. AreBlocks parts f begins → r ≡ has_property parts f e in
    subst P (sym is) (λ b. h ∙ ap (λ f. f e.source) b) blocks
