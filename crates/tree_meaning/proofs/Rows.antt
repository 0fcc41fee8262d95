-- Rows of tasks.
use Rattle.std.proofs.Common.{◌≡◌, List, [], ◌∷◌, ◌++◌, refl, sym, ap, subst, ◌∙◌}
use Rattle.tree_meaning.specs.declared.machine.Machine.{Machine}
use Rattle.tree_meaning.specs.declared.stop.Stop.{Stop}
use Rattle.tree_meaning.specs.declared.stop.Stop.TheVariants as stop
use Rattle.tree_meaning.specs.declared.task.Task.{Task}
use Rattle.tree_meaning.specs.declared.way.Way.{Way}
use Rattle.tree_meaning.specs.Stopping.{IsStop}
use Rattle.tree_meaning.specs.Outcomes.{Done, Gives}
use Rattle.tree_meaning.proofs.Then.{memory_stops}
use Rattle.tree_meaning.specs.Tasks.{Cont, task_does, row_does, behind, task_fits, row_fits, Leads, Stops}

row_push : (ts : List Task) (t : Task) (k : Cont) → row_does (ts ++ t ∷ []) k ≡ task_does t (row_does ts k)
unfolding row_does
row_push [] t k = refl
row_push (x ∷ xs) t k = row_push xs t (task_does x k)

pub behind_push : (ts : List Task) (t : Task) → behind (ts ++ t ∷ []) ≡ task_does t (behind ts)
unfolding behind
behind_push ts t = row_push ts t (λ m. Gives m.way m.store)

pub fits_none : row_fits []
unfolding row_fits
fits_none = tt

pub fits_push : (ts : List Task) (t : Task) → row_fits ts → task_fits t → row_fits (ts ++ t ∷ [])
unfolding row_fits
fits_push [] t h f = (f, tt)
fits_push (x ∷ xs) t h f = (h.0, fits_push xs t h.1 f)

pub fits_row : (ts : List Task) (t : Task) → row_fits (ts ++ t ∷ []) → row_fits ts
unfolding row_fits
fits_row [] t h = tt
fits_row (x ∷ xs) t h = (h.0, fits_row xs t h.1)

pub fits_last : (ts : List Task) (t : Task) → row_fits (ts ++ t ∷ []) → task_fits t
unfolding row_fits
fits_last [] t h = h.0
fits_last (x ∷ xs) t h = fits_last xs t h.1

pub ruleset row_laws = (behind_push, fits_none, fits_push, fits_row, fits_last)

-- ---- want of memory

pub stops_memory : (t : Task) (old : List Task) (m : Machine) (st : Stop) → st ≡ stop.Memory → Stops t old m st
stops_memory t old m st e = record { is = memory_stops st (task_does t (behind old) m) e }

pub ruleset memory_laws = (stops_memory)

-- ---- a run, a task at a time

module _ (whole : Done Way) (old : List Task) (m : Machine) (so_far : whole ≡ behind old m) where
  pub run_over : old ≡ [] → whole ≡ Gives m.way m.store
  unfolding behind row_does
  run_over e = so_far ∙ ap (λ ts. behind ts m) e

  module _ (t : Task) (mid : List Task) (popped : behind old ≡ task_does t (behind mid)) where
    here : whole ≡ task_does t (behind mid) m
    here = so_far ∙ ap (λ (k : Cont). k m) popped

    pub run_on : (new : List Task) (m' : Machine) → Leads t mid m new m' → whole ≡ behind new m'
    run_on new m' l = here ∙ l.same

    pub run_stops : (st : Stop) → Stops t mid m st → IsStop st whole
    run_stops st s = subst (λ d. IsStop st d) (sym here) s.is

pub run_short : (whole : Done Way) → IsStop stop.Memory whole
run_short whole = tt

pub ruleset run_laws = (run_over, run_on, run_stops, run_short)
