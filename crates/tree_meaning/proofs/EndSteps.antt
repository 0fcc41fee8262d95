-- How a run ends, from what its tasks did.
use Rattle.std.proofs.Common.{◌≡◌, ℕ, List, [], map, Option, Some, refl, sym, ap, ◌∙◌}
use Rattle.std.specs.Prelude.{slice_index}
use Rattle.std.specs.Borrow.{Bor}
use Rattle.std.specs.Option.{option_map}
use Rattle.c_meaning.specs.declared.input.Input.{Input}
use Rattle.c_typed_trees.specs.declared.statement.TypedStatement.{TypedStatement}
use Rattle.c_typed_trees.specs.declared.unit.Typed.{Typed}
use Rattle.c_typed_trees.specs.declared.unit.TypedFunction.{TypedFunction}
use Rattle.tree_meaning.specs.declared.ends.TreeEnd.{TreeEnd}
use Rattle.tree_meaning.specs.declared.ends.TreeEnd.TheVariants as ends
use Rattle.tree_meaning.specs.declared.machine.Machine.{Machine}
use Rattle.tree_meaning.specs.declared.stop.Stop.{Stop}
use Rattle.tree_meaning.specs.declared.stop.Stop.TheVariants as stop
use Rattle.tree_meaning.specs.declared.task.Task.{Task}
use Rattle.tree_meaning.specs.declared.task.StatementTask.TheVariants as statement
use Rattle.tree_meaning.specs.declared.way.Way.{Way}
use Rattle.tree_meaning.specs.Activations.{as_kind}
use Rattle.tree_meaning.specs.Ends.{first_activation, run_end, function_end}
use Rattle.tree_meaning.specs.Outcomes.{Store, Done, Gives, Ends, OutOfTurns, ◌andthen◌}
use Rattle.tree_meaning.specs.Running.{does_in}
use Rattle.tree_meaning.specs.Statements.{block}
use Rattle.tree_meaning.specs.Stopping.{IsStop, stop_end}
use Rattle.tree_meaning.specs.Tasks.{Cont, first_machine, statement_does, behind, row_does}

same : (d : Done Way) → (d andthen λ way s. Gives way s) ≡ d
same (Gives way s) = refl
same (Ends end) = refl
same OutOfTurns = refl

module _ (t : Typed) (f : TypedFunction) (input : Input) (turns : ℕ) where
  abbrev first : Machine
  first = first_machine t f input turns

  abbrev whole : Done Way
  whole = block (map (does_in first.scene) f.body) first.store

  function_is : function_end t f input turns ≡ run_end t f whole
  unfolding does_in
  function_is = refl

  module _ (m : Machine) (b : Bor (List TypedStatement)) (old ts : List Task) (e : m ≡ first) (n : old ≡ []) (h : b.now ≡ f.body) (g : behind ts ≡ statement_does (statement.Block b) (behind old)) where
    tasks_do : behind ts m ≡ whole
    unfolding behind row_does statement_does
    tasks_do =
        ap (λ (k : Cont). k m) g ∙ ap (λ l. statement_does (statement.Block b) (behind l) m) n ∙ ap (statement_does (statement.Block b) (behind [])) e
        ∙ same (block (map (does_in first.scene) b.now) first.store) ∙ ap (λ l. block (map (does_in first.scene) l) first.store) h

    pub end_returned : (way : Way) (s : Store) (value : Option ℕ) → behind ts m ≡ Gives way s → value ≡ option_map (λ kind. as_kind kind (slice_index s.cells (first_activation t f).base)) f.result → ends.Returned value ≡ function_end t f input turns
    end_returned way s value d v = ap ends.Returned v ∙ ap (run_end t f) (sym d ∙ tasks_do) ∙ sym function_is

    pub end_stopped : (st : Stop) (end : TreeEnd) → IsStop st (behind ts m) → stop_end st ≡ Some end → end ≡ function_end t f input turns
    end_stopped stop.Memory end d s = absurd (cc)
    end_stopped (stop.Trapped trap) end d s =
        let e : end ≡ ends.Trapped trap = cc in e ∙ ap (run_end t f) (sym d ∙ tasks_do) ∙ sym function_is
    end_stopped stop.Blocked end d s =
        let e : end ≡ ends.Blocked = cc in e ∙ ap (run_end t f) (sym d ∙ tasks_do) ∙ sym function_is
    end_stopped stop.TooDeep end d s =
        let e : end ≡ ends.TooDeep = cc in e ∙ ap (run_end t f) (sym d ∙ tasks_do) ∙ sym function_is
    end_stopped stop.OutOfTurns end d s =
        let e : end ≡ ends.OutOfTurns = cc in e ∙ ap (run_end t f) (sym d ∙ tasks_do) ∙ sym function_is
