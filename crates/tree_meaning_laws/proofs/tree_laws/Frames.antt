-- The context of a function that is called.
use Rattle.std.proofs.Common.{◌≡◌, ℕ, zero, suc, ◌+◌, ◌-◌, ◌<◌, ◌≤◌, Bool, true, false, List, [], ◌∷◌, ◌++◌, map, take, drop, length, min, replicate, Option, Some, None, refl, sym, ap, subst, ◌∙◌, arith, inl, ⊎_elim, length-append, length-take}
use Rattle.std.specs.Prelude.{IsTrue, ◌&&◌, not, nat_lt, if◌then◌else◌, slice_get, slice_index, unwrap_or}
use Rattle.std.specs.List.{AllByRecursion}
use Rattle.std.proofs.lemmas.Bool.{ltb-true, lt-ltb, eqb-true}
use Rattle.std.proofs.lemmas.List.{get_or-take, get_or_append_left, length-replicate}
use Rattle.std.proofs.lemmas.Option.{same_Some}
use Rattle.c_values.proofs.Fitting.{and_left, and_right}
use Rattle.cfa.specs.Each.{matched}
use Rattle.cfa.specs.Rules.{is_length, cell_count}
use Rattle.cfa.specs.declared.parts.Variable.{Variable}
use Rattle.cfa.specs.declared.state.Frame.{Frame}
use Rattle.cfa.specs.declared.state.State.{State}
use Rattle.cfa.specs.States.{running_frame}
use Rattle.c_meaning.proofs.Slices.{slice_get_last}
use Rattle.c_typed_trees.specs.declared.unit.TypedFunction.{TypedFunction}
use Rattle.c_typed_trees.specs.Fitting.{array_fits, array_lengths, is_variable}
use Rattle.tree_meaning_laws.specs.temporaries_apart.Named.{IsBelow}
use Rattle.tree_meaning_laws.specs.temporaries_apart.Laws.{IsApart}
use Rattle.tree_meaning_laws.proofs.temporaries_apart.Stands.{ascend_least}
use Rattle.tree_meaning.specs.declared.activation.Activation.{Activation}
use Rattle.tree_meaning.specs.Outcomes.{Store}
use Rattle.tree_meaning.specs.Activations.{start_of, first_cells, without_activation}
use Rattle.tree_meaning.specs.Calls.{called}
use Rattle.tree_meaning_laws.specs.expression_laws.Contexts.{Context, IsContext, Held, Related, Proper, Clear, names_of, own_frame, own_activation}
use Rattle.tree_meaning_laws.proofs.expression_laws.Values.{variable_owned}
use Rattle.tree_meaning_laws.proofs.tree_laws.Bodies.{function_has}

-- ---- lists

append_same : (xs ys zs : List ℕ) (i : ℕ) → length xs ≡ length ys → (i < length xs → slice_index xs i ≡ slice_index ys i) → slice_index (xs ++ zs) i ≡ slice_index (ys ++ zs) i
append_same [] [] zs i l h = refl
append_same [] (y ∷ ys) zs i l h = absurd (omega (arith, l))
append_same (x ∷ xs) [] zs i l h = absurd (omega (arith, l))
append_same (x ∷ xs) (y ∷ ys) zs zero l h = h (omega arith)
append_same (x ∷ xs) (y ∷ ys) zs (suc i) l h = append_same xs ys zs i (omega (arith, l)) (λ less. h (omega (arith, less)))

take_same : (n : ℕ) (xs ys : List ℕ) (i : ℕ) → i < n → slice_index xs i ≡ slice_index ys i → slice_index (take n xs) i ≡ slice_index (take n ys) i
take_same n xs ys i less h = get_or-take n xs i 0 less ∙ h ∙ sym (get_or-take n ys i 0 less)

-- the cells of an activation are as many as its function has
pub first_long : (count : ℕ) (words : List ℕ) → length words + 1 ≤ count → length (first_cells count words) ≡ count
first_long count words l =
    let zeros : List ℕ = replicate (count - (length words + 1)) 0 in
    let rest : length zeros ≡ count - (length words + 1) = length-replicate (count - (length words + 1)) 0 in
    let both : length (words ++ zeros) ≡ length words + length zeros = length-append words zeros in
    omega (arith, l, rest, both)

-- ---- the arrays that are lent

abbrev starts_of : Activation → List Variable → List ℕ
starts_of a lent = map (λ (v : Variable). start_of a v.place) lent

-- the variable that is lent for a parameter
lent_at : (c : Context) (lent : List Variable) (lengths : List ℕ) (p count : ℕ) → IsTrue (matched (array_fits (names_of c)) lent lengths) → AllByRecursion (IsBelow c.locals) lent → slice_get lengths p ≡ Some count
    → (v : Variable) × IsTrue (is_variable (names_of c) v) × IsBelow c.locals v × (v.length ≡ Some count) × (slice_index (starts_of (own_activation c) lent) p ≡ start_of (own_activation c) v.place)
lent_at c [] [] p count h b is = absurd cc
lent_at c [] (l ∷ ls) p count h b is = absurd cc
lent_at c (v ∷ lent) [] p count h b is = absurd cc
lent_at c (v ∷ lent) (l ∷ ls) zero count h b is =
    let own : IsTrue (is_variable (names_of c) v && is_length v.length l) = and_left _ _ h in
    (v, and_left _ _ own, b.0, known v.length (and_right _ _ own) ∙ is, refl)
  where
    known : (o : Option ℕ) → IsTrue (is_length o l) → o ≡ Some l
    known None t = absurd cc
    known (Some n) t = ap Some (eqb-true n l t)
lent_at c (v ∷ lent) (l ∷ ls) (suc p) count h b is = lent_at c lent ls p count (and_right _ _ h) b.1 is

-- ---- the context

module _ (c : Context) (ok : IsContext c) (callee at : ℕ) (f : TypedFunction) (there : slice_get c.typed.functions callee ≡ Some f) (apart : IsApart f) (few : length c.frames < 64) (lent : List Variable)
    (fits : IsTrue (matched (array_fits (names_of c)) lent (array_lengths f))) (below : AllByRecursion (IsBelow c.locals) lent) where
  abbrev pub frame : Frame
  frame = record { call = Some at; base = c.size; arrays = starts_of (own_activation c) lent }

  -- which cells are no temporaries
  abbrev pub keeps_in : ℕ → Bool
  keeps_in j = if nat_lt j c.size then c.keeps j else nat_lt j (c.size + apart.locals)

  abbrev pub inner : Context
  inner = record { typed = c.typed; files = c.files; fitting = c.fitting; input = c.input; own = f; frames = c.frames ++ frame ∷ []; size = c.size + f.cells; locals = apart.locals; keeps = keeps_in }

  pub more_frames : length inner.frames ≡ length c.frames + 1
  more_frames = length-append c.frames (frame ∷ [])

  pub frame_of : (to : State) → to.frames ≡ inner.frames → running_frame to ≡ frame
  frame_of to e =
      let none : Frame = record { call = None; base = 0; arrays = [] } in
      let long : length to.frames ≡ length c.frames + 1 = ap length e ∙ more_frames in
      let place : length to.frames - 1 ≡ length c.frames = omega (arith, long) in
      ap (λ n. unwrap_or (slice_get to.frames n) none) place ∙ ap (λ fs. unwrap_or (slice_get fs (length c.frames)) none) e ∙ ap (λ o. unwrap_or o none) (slice_get_last c.frames frame)

  pub own_is : own_frame inner ≡ frame
  own_is = frame_of (record { node = 0; frames = inner.frames; cells = []; taken = 0 }) refl

  pub base_is : (own_frame inner).base ≡ c.size
  base_is = ap (λ (x : Frame). x.base) own_is

  -- the activation that the tree's meaning has for the call
  pub activation_is : (s : Store) → length s.cells ≡ c.size → own_activation inner ≡ called (own_activation c) lent s
  activation_is s long = ap made more_frames ∙ ap based (base_is ∙ sym long) ∙ ap arrayed (ap (λ (x : Frame). x.arrays) own_is)
    where
      made : ℕ → Activation
      made n = record { depth = n; base = (own_frame inner).base; arrays = (own_frame inner).arrays }

      based : ℕ → Activation
      based n = record { depth = length c.frames + 1; base = n; arrays = (own_frame inner).arrays }

      arrayed : List ℕ → Activation
      arrayed xs = record { depth = length c.frames + 1; base = length s.cells; arrays = xs }

  locals_most : apart.locals ≤ f.cells
  locals_most = ascend_least apart.locals f.cells _ apart.temporaries

  -- ---- which cells are kept

  keeps_below : (j : ℕ) → j < c.size → keeps_in j ≡ c.keeps j
  keeps_below j less = ap (λ b. if b then c.keeps j else nat_lt j (c.size + apart.locals)) (lt-ltb j c.size less)

  pub keeps_above : (k : ℕ) → keeps_in (c.size + k) ≡ nat_lt (c.size + k) (c.size + apart.locals)
  keeps_above k = by (nat_lt (c.size + k) c.size) refl
    where
      by : (b : Bool) → nat_lt (c.size + k) c.size ≡ b → keeps_in (c.size + k) ≡ nat_lt (c.size + k) (c.size + apart.locals)
      by true e = let less = ltb-true (c.size + k) c.size e in absurd (omega (arith, less))
      by false e = ap (λ b. if b then c.keeps (c.size + k) else nat_lt (c.size + k) (c.size + apart.locals)) e

  kept_before : (j : ℕ) → IsTrue (c.keeps j) → IsTrue (keeps_in j)
  kept_before j kept = keeps_below j (ok.within j kept) ∙ kept

  local_kept : (k : ℕ) → k < apart.locals → IsTrue (keeps_in (c.size + k))
  local_kept k less = keeps_above k ∙ lt-ltb (c.size + k) (c.size + apart.locals) (omega (arith, less))

  lent_kept : (p count i : ℕ) → slice_get (array_lengths f) p ≡ Some count → i < count → IsTrue (keeps_in (slice_index (starts_of (own_activation c) lent) p + i))
  lent_kept p count i is less =
      let L = lent_at c lent (array_lengths f) p count fits below is in
      let own = variable_owned c ok L.0 L.1 L.2 i (omega (arith, less, ap cell_count L.3)) in
      kept_before _ (ap (λ j. c.keeps (j + i)) L.4 ∙ own)

  in_cells : (j : ℕ) → IsTrue (keeps_in j) → j < c.size + f.cells
  in_cells j kept = by (nat_lt j c.size) refl kept
    where
      by : (b : Bool) → nat_lt j c.size ≡ b → IsTrue (if b then c.keeps j else nat_lt j (c.size + apart.locals)) → j < c.size + f.cells
      by true e k = let less = ltb-true j c.size e in omega (arith, less)
      by false e k = let less = ltb-true j (c.size + apart.locals) k in omega (arith, less, locals_most)

  pub inner_ok : IsContext inner
  inner_ok = record {
    some_frame = omega (arith, more_frames);
    most_frames = omega (arith, more_frames, few);
    small = let most = (function_has c.typed (length c.files) c.fitting callee f there).most in omega (arith, ok.small, most, more_frames);
    result = omega (arith, apart.words);
    kept = λ cell own. ⊎_elim (λ less. kept_before cell (ok.kept cell (inl less))) (λ rest. ⊎_elim
        (λ k. subst (λ j. IsTrue (keeps_in j)) (sym (k.2 ∙ ap (λ b. b + k.0) base_is)) (local_kept k.0 k.1))
        (λ l. subst (λ j. IsTrue (keeps_in j)) (sym (l.5 ∙ ap (λ (x : Frame). slice_index x.arrays l.0 + l.2) own_is)) (lent_kept l.0 l.1 l.2 l.3 l.4)) rest) own;
    within = in_cells;
  }

  -- ---- all temporaries below are held

  module _ (st : State) where
    abbrev pub held_in : Held
    held_in j = if nat_lt j c.size && not (c.keeps j) then Some (slice_index st.cells j) else None

    held_is : (j v : ℕ) → held_in j ≡ Some v → (j < c.size) × (c.keeps j ≡ false) × (slice_index st.cells j ≡ v)
    held_is j v h = by (nat_lt j c.size) (c.keeps j) refl h
      where
        by : (b k : Bool) → nat_lt j c.size ≡ b → (if b && not k then Some (slice_index st.cells j) else None) ≡ Some v → (j < c.size) × (k ≡ false) × (slice_index st.cells j ≡ v)
        by true false e h = (ltb-true j c.size e, refl, same_Some (slice_index st.cells j) v h)
        by true true e h = absurd cc
        by false k e h = absurd cc

    pub inner_proper : Proper inner held_in
    inner_proper j v is = let q = held_is j v is in (omega (arith, q.0), keeps_below j q.0 ∙ q.1)

    held_none : (k : ℕ) → held_in (c.size + k) ≡ None
    held_none k = by (nat_lt (c.size + k) c.size) refl
      where
        by : (b : Bool) → nat_lt (c.size + k) c.size ≡ b → held_in (c.size + k) ≡ None
        by true e = let less = ltb-true (c.size + k) c.size e in absurd (omega (arith, less))
        by false e = ap (λ b. if b && not (c.keeps (c.size + k)) then Some (slice_index st.cells (c.size + k)) else None) e

    pub inner_clear : Clear inner held_in apart.locals f.cells
    inner_clear cell low high = record {
      temporary = ap (λ b. keeps_in (b + cell)) base_is ∙ keeps_above cell ∙ not_less (nat_lt (c.size + cell) (c.size + apart.locals)) refl;
      free = ap (λ b. held_in (b + cell)) base_is ∙ held_none cell;
      within = omega (arith, base_is, high);
    }
      where
        not_less : (b : Bool) → nat_lt (c.size + cell) (c.size + apart.locals) ≡ b → b ≡ false
        not_less true e = let less = ltb-true (c.size + cell) (c.size + apart.locals) e in absurd (omega (arith, less, low))
        not_less false e = refl

    -- ---- the frame is pushed

    pub entered_related : (ho : Held) (node node' : ℕ) (s s' : Store) (ws : List ℕ) (to : State) → length ws + 1 ≤ f.cells → Related c ho node s st → to.node ≡ node' → to.frames ≡ inner.frames → to.cells ≡ st.cells ++ first_cells f.cells ws → to.taken ≡ st.taken
        → s'.cells ≡ s.cells ++ first_cells f.cells ws → s'.answers ≡ s.answers → Related inner held_in node' s' to
    entered_related ho node node' s s' ws to short h at' fr cells taken own answers = record {
      node = at';
      frames = fr;
      size = ap length cells ∙ length-append st.cells (first_cells f.cells ws) ∙ ap (λ n. n + length (first_cells f.cells ws)) h.size ∙ ap (λ n. c.size + n) (first_long f.cells ws short);
      cells = record {
        long = ap length own ∙ length-append s.cells (first_cells f.cells ws) ∙ ap (λ n. n + length (first_cells f.cells ws)) h.cells.long ∙ sym (length-append st.cells (first_cells f.cells ws)) ∙ sym (ap length cells);
        same = λ j kept. ap (λ xs. slice_index xs j) own ∙ append_same s.cells st.cells (first_cells f.cells ws) j h.cells.long (λ less. h.cells.same j (sym (keeps_below j (omega (arith, less, h.cells.long, h.size))) ∙ kept)) ∙ ap (λ xs. slice_index xs j) (sym cells);
        holds = λ j v is. let t = held_is j v is in ap (λ xs. slice_index xs j) cells ∙ get_or_append_left st.cells (first_cells f.cells ws) 0 j (omega (arith, t.0, h.size)) ∙ t.2;
      };
      answers = answers ∙ h.answers ∙ ap (λ n. drop n c.input.answers) (sym taken);
    }

    -- ---- the frame is popped

    pub left_related : (ho : Held) (node node' : ℕ) (s0 s : Store) (to : State) (base : ℕ) → base ≡ c.size → Proper c ho → Related c ho node s0 st → Related inner held_in node' s to
        → (after : ℕ) → Related c ho after (without_activation base s) (record { node = after; frames = c.frames; cells = take c.size to.cells; taken = to.taken })
    left_related ho node node' s0 s to base is proper h0 h after = record {
      node = refl;
      frames = refl;
      size = let long : length (take c.size to.cells) ≡ _ = length-take c.size to.cells in omega (arith, long, h.size);
      cells = record {
        long = ap (λ n. length (take n s.cells)) is ∙ length-take c.size s.cells ∙ ap (λ n. min c.size n) h.cells.long ∙ sym (length-take c.size to.cells);
        same = λ j kept. let less = ok.within j kept in ap (λ n. slice_index (take n s.cells) j) is ∙ take_same c.size s.cells to.cells j less (h.cells.same j (keeps_below j less ∙ kept));
        holds = λ j v is'.
            let o = proper j v is' in
            let held : held_in j ≡ Some v = ap (λ b. if b && not (c.keeps j) then Some (slice_index st.cells j) else None) (lt-ltb j c.size o.0) ∙ ap (λ b. if not b then Some (slice_index st.cells j) else None) o.1 ∙ ap Some (h0.cells.holds j v is') in
            get_or-take c.size to.cells j 0 o.0 ∙ h.cells.holds j v held;
      };
      answers = h.answers;
    }
