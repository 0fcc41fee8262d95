-- Cells that agree, and which temporaries are held.
use Rattle.std.proofs.Common.{◌≡◌, ◌⊎◌, ℕ, zero, suc, ◌+◌, ◌-◌, ◌<◌, ◌≤◌, Bool, true, false, List, [], ◌∷◌, length, Some, None, refl, sym, ap, ◌∙◌, arith, inl, inr, ⊎_elim}
use Rattle.std.specs.Prelude.{slice_index, slice_set, slice_get, if◌then◌else◌, ◌==◌}
use Rattle.std.proofs.lemmas.List.{length-set, get_or-set_same, get_or-set_other}
use Rattle.std.proofs.lemmas.Bool.{eqb-true, eqb-false, eq-eqb, ne_eqb, cases_lt}
use Rattle.std.proofs.lemmas.Option.{same_Some}
use Rattle.cfa.specs.declared.parts.Edge.{Edge}
use Rattle.cfa.specs.declared.state.Frame.{Frame}
use Rattle.cfa.specs.declared.state.State.{State}
use Rattle.cfa.specs.Graph.{IsGraph, is_return, is_guard}
use Rattle.cfa.specs.States.{running_frame}
use Rattle.c_meaning.specs.declared.stepped.Stepped.TheVariants.{Moved}
use Rattle.c_meaning.specs.Steps.{operated}
use Rattle.c_lower_rules.proofs.graph_rules.Whole.{graph_fits}
use Rattle.tree_meaning.specs.Outcomes.{Store}
use Rattle.tree_meaning_laws.specs.expression_laws.Follows.{Moves}
use Rattle.tree_meaning_laws.specs.expression_laws.Contexts.{Context, Held, holding, Agree, Related, Proper, Spare, Clear, Outside, parts_of, own_frame}
use Rattle.tree_meaning_laws.proofs.expression_laws.Follows.{move_one}
use Rattle.tree_meaning_laws.proofs.expression_laws.Going.{next_one}

-- ---- cells

pub set_same : (xs ys : List ℕ) (cell v i : ℕ) → length xs ≡ length ys → slice_index xs i ≡ slice_index ys i → slice_index (slice_set xs cell v) i ≡ slice_index (slice_set ys cell v) i
set_same [] [] cell v i l h = refl
set_same [] (y ∷ ys) cell v i l h = absurd (omega (arith, l))
set_same (x ∷ xs) [] cell v i l h = absurd (omega (arith, l))
set_same (x ∷ xs) (y ∷ ys) zero v zero l h = refl
set_same (x ∷ xs) (y ∷ ys) zero v (suc i) l h = h
set_same (x ∷ xs) (y ∷ ys) (suc cell) v zero l h = h
set_same (x ∷ xs) (y ∷ ys) (suc cell) v (suc i) l h = set_same xs ys cell v i (omega (arith, l)) h

set_other : (ys : List ℕ) (cell v i : ℕ) → (i ≡ cell → ⊥) → slice_index (slice_set ys cell v) i ≡ slice_index ys i
set_other ys cell v i h = get_or-set_other ys cell i v 0 h

module _ (keeps : ℕ → Bool) (ho : Held) (xs ys : List ℕ) (cell v : ℕ) (h : Agree keeps ho xs ys) where
  -- a cell that isn't held is set in both
  pub agree_set : ho cell ≡ None → Agree keeps ho (slice_set xs cell v) (slice_set ys cell v)
  agree_set free = record {
    long = length-set xs cell v ∙ h.long ∙ sym (length-set ys cell v);
    same = λ i kept. set_same xs ys cell v i h.long (h.same i kept);
    holds = λ i w is. set_other ys cell v i (λ e. let none : None ≡ Some w = sym free ∙ ap ho (sym e) ∙ is in cc) ∙ h.holds i w is;
  }

  -- a temporary is set in the state alone
  pub agree_put : keeps cell ≡ false → cell < length ys → Agree keeps (holding ho cell v) xs (slice_set ys cell v)
  agree_put spare within = record {
    long = h.long ∙ sym (length-set ys cell v);
    same = λ i kept. h.same i kept ∙ sym (set_other ys cell v i (λ e. let clash : false ≡ true = sym spare ∙ ap keeps (sym e) ∙ kept in cc));
    holds = λ i w is. by i w (i == cell) refl is;
  }
    where
      by : (i w : ℕ) (b : Bool) → (i == cell) ≡ b → (if b then Some v else ho i) ≡ Some w → slice_index (slice_set ys cell v) i ≡ w
      by i w true e is = ap (slice_index (slice_set ys cell v)) (eqb-true i cell e) ∙ get_or-set_same ys cell v 0 within ∙ same_Some v w is
      by i w false e is = set_other ys cell v i (eqb-false i cell e) ∙ h.holds i w is

-- what is no longer wanted is dropped
abbrev pub Drops : Held → Held → Type 0
Drops more less = (i v : ℕ) → less i ≡ Some v → more i ≡ Some v

pub agree_less : (keeps : ℕ → Bool) (more less : Held) (xs ys : List ℕ) → Drops more less → Agree keeps more xs ys → Agree keeps less xs ys
agree_less keeps more less xs ys d h = record { long = h.long; same = h.same; holds = λ i v is. h.holds i v (d i v is) }

pub related_less : (c : Context) (more less : Held) (node : ℕ) (s : Store) (st : State) → Drops more less → Related c more node s st → Related c less node s st
related_less c more less node s st d h = record { node = h.node; frames = h.frames; size = h.size; cells = agree_less c.keeps more less s.cells st.cells d h.cells; answers = h.answers }

-- a cell that wasn't held
pub drops_holding : (ho : Held) (cell v : ℕ) → ho cell ≡ None → Drops (holding ho cell v) ho
drops_holding ho cell v free i w is = by (i == cell) refl
  where
    by : (b : Bool) → (i == cell) ≡ b → (if b then Some v else ho i) ≡ Some w
    by true e = let none : None ≡ Some w = sym free ∙ ap ho (sym (eqb-true i cell e)) ∙ is in absurd cc
    by false e = is

-- with one more cell on both sides
pub drops_both : (more less : Held) (cell v : ℕ) → Drops more less → Drops (holding more cell v) (holding less cell v)
drops_both more less cell v d i w is = by (i == cell) is
  where
    by : (b : Bool) → (if b then Some v else less i) ≡ Some w → (if b then Some v else more i) ≡ Some w
    by true is = is
    by false is = d i w is

pub holds_own : (ho : Held) (cell v : ℕ) → holding ho cell v cell ≡ Some v
holds_own ho cell v = let own : (cell == cell) ≡ true = eq-eqb cell cell refl in ap (λ b. if b then Some v else ho cell) own

pub holds_other : (ho : Held) (cell v i : ℕ) → (i ≡ cell → ⊥) → holding ho cell v i ≡ ho i
holds_other ho cell v i other = let own : (i == cell) ≡ false = ne_eqb i cell other in ap (λ b. if b then Some v else ho i) own

-- ---- in a context

module _ (c : Context) where
  pub good : IsGraph (parts_of c)
  good = graph_fits c.typed c.files c.fitting

  -- cells of the frame from one to another, and others
  pub inside_or : (low high i : ℕ) → Outside c low high i ⊎ ((k : ℕ) × (low ≤ k) × (k < high) × (i ≡ (own_frame c).base + k))
  inside_or low high i = ⊎_elim (λ less. inl (inl less)) (λ more. ⊎_elim
      (λ less. inr (i - (own_frame c).base, omega (arith, more, less), omega (arith, more, less), omega (arith, more)))
      (λ beyond. inl (inr beyond)) (cases_lt i ((own_frame c).base + high))) (cases_lt i ((own_frame c).base + low))

  module _ (ho held : Held) (low high : ℕ) (proper : Proper c ho) (clear : Clear c ho low high) (outside : (i : ℕ) → Outside c low high i → held i ≡ ho i) where
    pub drops_after : Drops held ho
    drops_after i v is = ⊎_elim (λ o. outside i o ∙ is)
        (λ k. let none : None ≡ Some v = sym (clear k.0 k.1 k.2).free ∙ ap ho (sym k.3) ∙ is in absurd cc) (inside_or low high i)

    pub proper_after : Proper c held
    proper_after i v is = ⊎_elim (λ o. proper i v (sym (outside i o) ∙ is))
        (λ k. let S = clear k.0 k.1 k.2 in (omega (arith, S.within, k.3), ap c.keeps k.3 ∙ S.temporary)) (inside_or low high i)

    -- the cells behind are as clear as before
    pub clear_after : (top : ℕ) → Clear c ho high top → Clear c held high top
    clear_after top more cell l h =
        let S = more cell l h in
        record { temporary = S.temporary; free = outside ((own_frame c).base + cell) (inr (omega (arith, l))) ∙ S.free; within = S.within }

    -- so is a cell before
    pub spare_after : (cell : ℕ) → cell < low → Spare c ho cell → Spare c held cell
    spare_after cell l S = record { temporary = S.temporary; free = outside ((own_frame c).base + cell) (inl (omega (arith, l))) ∙ S.free; within = S.within }

  pub clear_less : (ho : Held) (low high low' high' : ℕ) → low ≤ low' → high' ≤ high → Clear c ho low high → Clear c ho low' high'
  clear_less ho low high low' high' l h clear cell k m = clear cell (omega (arith, l, k)) (omega (arith, h, m))

  pub frame_is : (ho : Held) (node : ℕ) (s : Store) (st : State) → Related c ho node s st → running_frame st ≡ own_frame c
  frame_is ho node s st h = ap (λ (fs : List Frame). running_frame (record { node = 0; frames = fs; cells = []; taken = 0 })) h.frames

  -- along an edge within the function
  pub along_one : (ho : Held) (node at : ℕ) (e : Edge) (s : Store) (st to : State) → slice_get (parts_of c).edges at ≡ Some e → is_return e.operation ≡ false → is_guard e.operation ≡ false
      → e.source ≡ node → Related c ho node s st → operated (parts_of c) c.input st at e e.operation ≡ Moved at to → Moves (parts_of c) c.input 1 st to
  along_one ho node at e s st to there plain one same h goes =
      move_one (parts_of c) c.input at st to (next_one (parts_of c) good c.input st at e there plain one (same ∙ sym h.node) ∙ goes)
