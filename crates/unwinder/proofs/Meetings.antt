-- Ways into a place that become one, one by one.
use Rattle.std.proofs.Common.{◌≡◌, ◌⊎◌, ℕ, zero, suc, ◌+◌, ◌-◌, ◌*◌, ◌<◌, ◌≤◌, Bool, true, false, ◌||◌, cond, List, [], ◌∷◌, ◌++◌, length, take, Option, Some, None, refl, sym, ap, subst, ◌∙◌, ⊎_elim, arith}
use Rattle.std.specs.Prelude.{All, slice_get}
use Rattle.std.proofs.Math.Nat.{mul-le-mul_left, mul-suc}
use Rattle.std.proofs.lemmas.List.{length-map, take_all, take_more}
use Rattle.std.proofs.lemmas.Option.{get_or_from_slice_get, same_Some, slice_get_within}
use Rattle.circuit.specs.Truth.{World}
use Rattle.circuit.specs.Wires.{IsWire, lit_holds}
use Rattle.circuit.specs.declared.lit.Gate.{Gate}
use Rattle.bit_words.specs.Words.{Grows}
use Rattle.bit_words.proofs.Steps.{grows_none, grows_then, grows_within, same, still}
use Rattle.cfa.specs.declared.parts.Function.{Function}
use Rattle.cfa.specs.declared.parts.GraphParts.{GraphParts}
use Rattle.cfa.specs.Contexts.{Pair}
use Rattle.cfa.specs.Graph.{IsGraph}
use Rattle.cfa.proofs.Eaches.{element_at}
use Rattle.c_meaning.proofs.Slices.{slice_get_front, slice_get_last, slice_get_push, slice_get_taken}
use Rattle.sym_expr.specs.Stores.{cells_in}
use Rattle.sym_expr.proofs.ElementLemmas.{cells_later, cells_still}
use Rattle.sym_expr.specs.declared.sym_steps.state.SymState.{SymState}
use Rattle.sym_expr.specs.sym_steps.Steps.{state_in}
use Rattle.unwinder.specs.declared.arrival.Arrival.{Arrival}
use Rattle.unwinder.specs.declared.merging.Met.{Met}
use Rattle.unwinder.specs.Agenda.{IsArrival, IsSymAt, TakenAlone}
use Rattle.unwinder.specs.Frames.{IsAt}
use Rattle.unwinder.specs.Meeting.{IsMet, IsWired, IsWiredWay, Gathers, Meets, cells_at, cells_from, most_merge_wires}
use Rattle.unwinder.proofs.FrameLaws.{at_cells, cell_count, same_frames}
use Rattle.unwinder.proofs.ListLaws.{not_yes}

-- ---- states at one pair

-- two have the same frames
pub sym_frames : (parts : GraphParts) (entry : ℕ) (gates : List Gate) (p : Pair) (s t : SymState) → IsGraph parts → IsSymAt parts entry gates p s → IsSymAt parts entry gates p t → s.frames ≡ t.frames
sym_frames parts entry gates p s t g a b = same_frames parts entry p (state_in gates s []) (state_in gates t []) g (a.at []) (b.at [])

-- and as many cells
pub sym_count : (parts : GraphParts) (entry : ℕ) (gates : List Gate) (p : Pair) (s : SymState) → IsGraph parts → entry < length parts.functions → IsSymAt parts entry gates p s → length s.store.cells ≡ cells_at parts entry p
sym_count parts entry gates p s g lt a = by (slice_get parts.functions entry) refl
  where
    by : (o : Option Function) → slice_get parts.functions entry ≡ o → length s.store.cells ≡ cells_from parts o p
    by (Some f) is = sym (length-map s.store.cells _) ∙ cell_count parts entry f p (state_in gates s []) g is (a.at [])
    by None is = let f = element_at parts.functions entry lt in let both : None ≡ Some f.0 = sym is ∙ f.1 in absurd cc

-- over a circuit that has grown it is at the pair still
pub sym_later : (parts : GraphParts) (entry : ℕ) (old new : List Gate) (most : ℕ) (p : Pair) (s : SymState) → Grows old new most → IsSymAt parts entry old p s → IsSymAt parts entry new p s
sym_later parts entry old new most p s g a = record {
  at = λ w. subst (λ cs. IsAt parts entry p (record { node = s.node; frames = s.frames; cells = cs; taken = s.taken })) (sym (cells_later g s.store.cells a.cells w)) (a.at w);
  cells = cells_still g s.store.cells a.cells;
}

-- the same frames, and as many words over the circuit
pub sym_with : (parts : GraphParts) (entry : ℕ) (old new : List Gate) (p : Pair) (s t : SymState) → IsSymAt parts entry old p s → t.node ≡ s.node → t.frames ≡ s.frames → length t.store.cells ≡ length s.store.cells → All (All (IsWire new)) t.store.cells → IsSymAt parts entry new p t
sym_with parts entry old new p s t a node frames count wires = record {
  at = λ w.
      let long : length (cells_in new t.store.cells w) ≡ length (cells_in old s.store.cells w) = length-map t.store.cells _ ∙ count ∙ sym (length-map s.store.cells _) in
      let with = at_cells parts entry p (state_in old s w) (a.at w) (cells_in new t.store.cells w) t.taken long in
      subst (λ n. IsAt parts entry p (record { node = n; frames = t.frames; cells = cells_in new t.store.cells w; taken = t.taken })) (sym node)
      (subst (λ fs. IsAt parts entry p (record { node = s.node; frames = fs; cells = cells_in new t.store.cells w; taken = t.taken })) (sym frames) with);
  cells = wires;
}

-- ---- one way more

-- a way among one more is the last, or one of those before
among : (row : List Arrival) (a : Arrival) (k : ℕ) (b : Arrival) → slice_get (row ++ a ∷ []) k ≡ Some b → ((k < length row) × (slice_get row k ≡ Some b)) ⊎ ((k ≡ length row) × (b ≡ a))
among row a k b e = slice_get_push row a k b e

module _ (gates : List Gate) (row : List Arrival) (a : Arrival) (w : World) (k : ℕ) (b : Arrival) (s : SymState) (t : TakenAlone gates (row ++ a ∷ []) w k b s) where
  -- where one before is taken alone, it is so before, and the last isn't
  alone_before : slice_get row k ≡ Some b → TakenAlone gates row w k b s
  alone_before there = record {
    there = there;
    opened = t.opened;
    taken = t.taken;
    alone = λ l c e so. t.alone l c (slice_get_front row (a ∷ []) l (slice_get_within row l c e) ∙ e) so;
  }

  last_not : k < length row → lit_holds gates a.guard w ≡ false
  last_not lt = not_yes (lit_holds gates a.guard w) (λ so. let at = t.alone (length row) a (slice_get_last row a) so in absurd (omega (arith, at)))

-- a way that isn't open changes nothing
pub meets_closed : (parts : GraphParts) (entry : ℕ) (p : Pair) (old new : List Gate) (row : List Arrival) (a : Arrival) (o : Option Met) → a.state ≡ None → IsArrival parts entry old p a → IsMet parts entry p old new row o → IsMet parts entry p old new (row ++ a ∷ []) o
meets_closed parts entry p old new row a None closed h met = (met.0, λ k b e. ⊎_elim (λ before. met.1 k b before.1) (λ last. ap (λ (q : Arrival). q.state) last.1 ∙ closed) (among row a k b e))
meets_closed parts entry p old new row a (Some m) closed h met = record {
  guard = met.guard;
  at = met.at;
  none_taken = λ w none. met.none_taken w (λ k b e. none k b (slice_get_front row (a ∷ []) k (slice_get_within row k b e) ∙ e));
  one_taken = λ w k b e so. ⊎_elim
      (λ before. met.one_taken w k b before.1 so)
      (λ last. let off = ap (λ (q : Arrival). lit_holds old q.guard w) last.1 ∙ h.closed closed w in absurd cc)
      (among row a k b e);
  frames = λ w k b s t. ⊎_elim
      (λ before. met.frames w k b s (alone_before old row a w k b s t before.1))
      (λ last. let opened = t.opened in let is : None ≡ Some s = sym closed ∙ ap (λ (q : Arrival). q.state) (sym last.1) ∙ opened in absurd cc)
      (among row a k b t.there);
  cells = λ w k b s t. ⊎_elim
      (λ before. met.cells w k b s (alone_before old row a w k b s t before.1))
      (λ last. let opened = t.opened in let is : None ≡ Some s = sym closed ∙ ap (λ (q : Arrival). q.state) (sym last.1) ∙ opened in absurd cc)
      (among row a k b t.there);
}

-- the first way that is open
pub meets_first : (parts : GraphParts) (entry : ℕ) (p : Pair) (old : List Gate) (row : List Arrival) (a : Arrival) (s : SymState) → ((k : ℕ) (b : Arrival) → slice_get row k ≡ Some b → IsArrival parts entry old p b) → IsArrival parts entry old p a → a.state ≡ Some s → ((k : ℕ) (b : Arrival) → slice_get row k ≡ Some b → b.state ≡ None) → Meets parts entry p old old (row ++ a ∷ []) (record { guard = a.guard; state = s })
meets_first parts entry p old row a s each h opened closed =
    let only : (k : ℕ) (b : Arrival) (q : SymState) → slice_get row k ≡ Some b → b.state ≡ Some q → ⊥ = λ k b q e o. let is : None ≡ Some q = sym (closed k b e) ∙ o in cc in
    record {
      guard = h.guard;
      at = h.opened s opened;
      none_taken = λ w none. none (length row) a (slice_get_last row a);
      one_taken = λ w k b e so. ⊎_elim
          (λ before. let off = (each k b before.1).closed (closed k b before.1) w in absurd cc)
          (λ last. ap (λ (q : Arrival). lit_holds old q.guard w) (sym last.1) ∙ so)
          (among row a k b e);
      frames = λ w k b q t. ⊎_elim
          (λ before. absurd (only k b q before.1 t.opened))
          (λ last. let there = t.opened in let is : Some s ≡ Some q = sym opened ∙ ap (λ (c : Arrival). c.state) (sym last.1) ∙ there in ap (λ (c : SymState). c.frames) (same_Some s q is))
          (among row a k b t.there);
      cells = λ w k b q t. ⊎_elim
          (λ before. absurd (only k b q before.1 t.opened))
          (λ last. let there = t.opened in let is : Some s ≡ Some q = sym opened ∙ ap (λ (c : Arrival). c.state) (sym last.1) ∙ there in ap (λ (c : SymState). cells_in old c.store.cells w) (same_Some s q is))
          (among row a k b t.there);
    }

or_none : (x y : Bool) → x ≡ false → y ≡ false → (x || y) ≡ false
or_none x y e f = ap (λ b. b || y) e ∙ f

or_left : (x y : Bool) → x ≡ true → (x || y) ≡ true
or_left x y e = ap (λ b. b || y) e

or_right : (x y : Bool) → y ≡ true → (x || y) ≡ true
or_right true y e = refl
or_right false y e = e

-- one more way that is open
pub meets_more : (parts : GraphParts) (entry : ℕ) (p : Pair) (old mid new : List Gate) (first most : ℕ) (row : List Arrival) (a : Arrival) (s : SymState) (m n : Met) → IsGraph parts → Grows old mid first → Grows mid new most → Meets parts entry p old mid row m → IsArrival parts entry old p a → a.state ≡ Some s
    → IsWire new n.guard → All (All (IsWire new)) n.state.store.cells → length n.state.store.cells ≡ length m.state.store.cells → n.state.node ≡ m.state.node → n.state.frames ≡ m.state.frames
    → ((w : World) → lit_holds new n.guard w ≡ (lit_holds mid m.guard w || lit_holds mid a.guard w))
    → ((w : World) → cells_in new n.state.store.cells w ≡ cond (lit_holds mid a.guard w) (cells_in mid s.store.cells w) (cells_in mid m.state.store.cells w))
    → Meets parts entry p old new (row ++ a ∷ []) n
meets_more parts entry p old mid new first most row a s m n g f k met h opened guard wires count node frames holds value =
    let own = h.opened s opened in
    let same_guard = λ (w : World). same f a.guard h.guard w in
    let held = λ (w : World). holds w ∙ ap (λ b. lit_holds mid m.guard w || b) (same_guard w) in
    record {
      guard = guard;
      at = sym_with parts entry mid new p m.state n.state met.at node frames count wires;
      none_taken = λ w none. held w ∙ or_none (lit_holds mid m.guard w) (lit_holds old a.guard w) (met.none_taken w (λ i b e. none i b (slice_get_front row (a ∷ []) i (slice_get_within row i b e) ∙ e))) (none (length row) a (slice_get_last row a));
      one_taken = λ w i b e so. ⊎_elim
          (λ before. held w ∙ or_left (lit_holds mid m.guard w) (lit_holds old a.guard w) (met.one_taken w i b before.1 so))
          (λ last. held w ∙ or_right (lit_holds mid m.guard w) (lit_holds old a.guard w) (ap (λ (q : Arrival). lit_holds old q.guard w) (sym last.1) ∙ so))
          (among row a i b e);
      frames = λ w i b q t. ⊎_elim
          (λ before. frames ∙ met.frames w i b q (alone_before old row a w i b q t before.1))
          (λ last.
          let there = t.opened in
          let is : Some s ≡ Some q = sym opened ∙ ap (λ (c : Arrival). c.state) (sym last.1) ∙ there in
          frames ∙ sym_frames parts entry mid p m.state s g met.at (sym_later parts entry old mid first p s f own) ∙ ap (λ (c : SymState). c.frames) (same_Some s q is))
          (among row a i b t.there);
      cells = λ w i b q t. ⊎_elim
          (λ before. value w ∙ ap (λ b. cond b (cells_in mid s.store.cells w) (cells_in mid m.state.store.cells w)) (same_guard w ∙ last_not old row a w i b q t before.0) ∙ met.cells w i b q (alone_before old row a w i b q t before.1))
          (λ last.
          let there = t.opened in
          let taken = t.taken in
          let is : Some s ≡ Some q = sym opened ∙ ap (λ (c : Arrival). c.state) (sym last.1) ∙ there in
          let so : lit_holds mid a.guard w ≡ true = same_guard w ∙ ap (λ (c : Arrival). lit_holds old c.guard w) (sym last.1) ∙ taken in
          value w ∙ ap (λ b. cond b (cells_in mid s.store.cells w) (cells_in mid m.state.store.cells w)) so ∙ cells_later f s.store.cells own.cells w ∙ ap (λ (c : SymState). cells_in old c.store.cells w) (same_Some s q is))
          (among row a i b t.there);
    }

-- ---- all ways

pub record GatheredSoFar (parts : GraphParts) (entry : ℕ) (p : Pair) (old new : List Gate) (row : List Arrival) (met : Option Met) (i : ℕ) : Type 0 where
  pub grows : Grows old new (most_merge_wires (cells_at parts entry p) i)
  pub some : (m : Met) → met ≡ Some m → 1 ≤ i
  pub met_is : IsMet parts entry p old new (take i row) met

-- what was met is over the circuit's wires
pub met_wired : (parts : GraphParts) (entry : ℕ) (p : Pair) (old new : List Gate) (row : List Arrival) (o : Option Met) → IsGraph parts → entry < length parts.functions → IsMet parts entry p old new row o → IsWired new (cells_at parts entry p) o
met_wired parts entry p old new row o g lt met m is =
    let own : Meets parts entry p old new row m = subst (IsMet parts entry p old new row) is met in
    (own.guard, record { wires = own.at.cells; count_is = sym_count parts entry new p m.state g lt own.at })

-- so is a way, over a circuit that has grown
pub way_wired : (parts : GraphParts) (entry : ℕ) (p : Pair) (old new : List Gate) (most : ℕ) (a : Arrival) → IsGraph parts → entry < length parts.functions → Grows old new most → IsArrival parts entry old p a → IsWiredWay new (cells_at parts entry p) a
way_wired parts entry p old new most a g lt f h = (
  still f a.guard h.guard,
  λ s is. let own = h.opened s is in record { wires = cells_still f s.store.cells own.cells; count_is = sym_count parts entry old p s g lt own },
)

raised : (k i : ℕ) → 1 ≤ i → k * (i - 1) + k ≡ k * i
raised k zero h = absurd (omega (arith, h))
raised k (suc i) h =
    let less : suc i - 1 ≡ i = omega arith in
    ap (λ n. k * n + k) less ∙ sym (mul-suc k i)

pub gathered_none : (parts : GraphParts) (entry : ℕ) (p : Pair) (gates : List Gate) (row : List Arrival) → GatheredSoFar parts entry p gates gates row None 0
gathered_none parts entry p gates row = record {
  grows = grows_none gates _;
  some = λ m is. absurd cc;
  met_is = (refl, λ k a e. absurd cc);
}

-- the circuit after one way more
pub gathered_grows : (parts : GraphParts) (entry : ℕ) (p : Pair) (old mid new : List Gate) (row : List Arrival) (met : Option Met) (i : ℕ) → GatheredSoFar parts entry p old mid row met i → Grows mid new (256 * cells_at parts entry p + 1) → (met ≡ None → new ≡ mid) → Grows old new (most_merge_wires (cells_at parts entry p) (i + 1))
gathered_grows parts entry p old mid new row met i h g free = by met refl
  where
    by : (o : Option Met) → met ≡ o → Grows old new (most_merge_wires (cells_at parts entry p) (i + 1))
    by None is =
        let first : mid ≡ old = (subst (IsMet parts entry p old mid (take i row)) is h.met_is).0 in
        let all : old ≡ new = sym (free is ∙ first) in
        subst (λ q. Grows old q (most_merge_wires (cells_at parts entry p) (i + 1))) all (grows_none old _)
    by (Some m) is =
        let some = h.some m is in
        let k = 256 * cells_at parts entry p + 1 in
        let sum = raised k i some in
        let same : i + 1 - 1 ≡ i = omega arith in
        grows_within _ (grows_then h.grows g) (omega (arith, sum, ap (λ n. k * n) same))

pub gathered_more : (parts : GraphParts) (entry : ℕ) (p : Pair) (old mid new : List Gate) (row : List Arrival) (met o : Option Met) (i : ℕ) (a : Arrival) → GatheredSoFar parts entry p old mid row met i → Grows mid new (256 * cells_at parts entry p + 1) → (met ≡ None → new ≡ mid) → slice_get row i ≡ Some a
    → ((k : ℕ) (b : Arrival) → slice_get row k ≡ Some b → IsArrival parts entry old p b) → Gathers parts entry p mid new met a o → GatheredSoFar parts entry p old new row o (i + 1)
gathered_more parts entry p old mid new row met o i a h g free there each gathers =
    let whole : take (i + 1) row ≡ take i row ++ a ∷ [] = take_more row i a (slice_get_within row i a there) ∙ ap (λ b. take i row ++ b ∷ []) (get_or_from_slice_get row i a a there) in
    record {
      grows = gathered_grows parts entry p old mid new row met i h g free;
      some = λ m is. omega arith;
      met_is = subst (λ r. IsMet parts entry p old new r o) (sym whole) (gathers old (take i row) _ h.grows (λ k b e. let from = slice_get_taken i row k b e in each k b from.1) (each i a there) h.met_is);
    }

pub gathered_all : (parts : GraphParts) (entry : ℕ) (p : Pair) (old new : List Gate) (row : List Arrival) (met : Option Met) (i : ℕ) → GatheredSoFar parts entry p old new row met i → length row ≤ i → IsMet parts entry p old new row met
gathered_all parts entry p old new row met i h le = subst (λ r. IsMet parts entry p old new r met) (take_all i row le) h.met_is

-- fewer ways use no more wires
pub fewer_wires : (cells i n : ℕ) → i ≤ n → most_merge_wires cells i ≤ most_merge_wires cells n
fewer_wires cells i n le = mul-le-mul_left (256 * cells + 1) (omega (arith, le))

-- the first way that is open, where none before was
pub gathers_first : (parts : GraphParts) (entry : ℕ) (p : Pair) (gates : List Gate) (met : Option Met) (a : Arrival) (s t : SymState) → met ≡ None → a.state ≡ Some s → t ≡ s → Gathers parts entry p gates gates met a (Some (record { guard = a.guard; state = t }))
gathers_first parts entry p gates met a s t none opened same old row most g each h before =
    let own = subst (IsMet parts entry p old gates row) none before in
    let P : SymState → Type 0 = λ q. Meets parts entry p old gates (row ++ a ∷ []) (record { guard = a.guard; state = q }) in
    subst P (sym same) (subst (λ now. Meets parts entry p old now (row ++ a ∷ []) (record { guard = a.guard; state = s })) (sym own.0) (meets_first parts entry p old row a s each h opened own.1))

-- one more way that is open
pub gathers_more : (parts : GraphParts) (entry : ℕ) (p : Pair) (mid new : List Gate) (most : ℕ) (met : Option Met) (a : Arrival) (s : SymState) (m n : Met) → IsGraph parts → met ≡ Some m → a.state ≡ Some s → Grows mid new most
    → IsWire new n.guard → All (All (IsWire new)) n.state.store.cells → length n.state.store.cells ≡ length m.state.store.cells → (n.state.node ≡ m.state.node) × (n.state.frames ≡ m.state.frames)
    → ((w : World) → lit_holds new n.guard w ≡ (lit_holds mid m.guard w || lit_holds mid a.guard w))
    → ((w : World) → cells_in new n.state.store.cells w ≡ cond (lit_holds mid a.guard w) (cells_in mid s.store.cells w) (cells_in mid m.state.store.cells w))
    → Gathers parts entry p mid new met a (Some n)
gathers_more parts entry p mid new most met a s m n g is opened k guard wires count kept holds value old row first f each h before =
    meets_more parts entry p old mid new first most row a s m n g f k (subst (IsMet parts entry p old mid row) is before) h opened guard wires count kept.0 kept.1 holds value
