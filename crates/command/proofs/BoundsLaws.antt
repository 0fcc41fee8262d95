-- Whether bounds suffice: what the call's answers say of an entry.
use Rattle.std.proofs.Common.{◌≡◌, ℕ, ◌<◌, ◌≤◌, ◌^◌, [], length, Some, slice_get, sym, ap, subst, ◌∙◌, arith}
use Rattle.std.specs.Prelude.{Option}
use Rattle.std.specs.Option.{IsSomeAnd, option_map_or}
use Rattle.std.proofs.lemmas.Slice.Zip.{AllZip-long}
use Rattle.bounds_check.specs.Leaving.{IsForLeaving}
use Rattle.bounds_check.specs.Sufficing.{IsSuffice}
use Rattle.bounds_check.specs.declared.suffice.Suffice.{Suffice}
use Rattle.bounds_check.specs.declared.suffice.Suffice.TheVariants.{Left, Open, Yes}
use Rattle.c_values.specs.Kind.{IsValue}
use Rattle.cfa.specs.declared.parts.Function.{Function}
use Rattle.cfa.specs.declared.parts.GraphParts.{GraphParts}
use Rattle.cnf.specs.declared.formula.Formula.{Formula}
use Rattle.fq_core.specs.Refusals.{IfRefused}
use Rattle.fq_core.specs.declared.refusal.Fault.{Fault}
use Rattle.fq_core.specs.declared.refusal.Fault.TheVariants as fault
use Rattle.unwinder_reach.specs.declared.reached.bounds.Bounds.{Bounds}
use Rattle.report.specs.Made.{parameter_kinds}
use Rattle.unwinder.specs.Unwinding.{IsUnwindFault}
use Rattle.command.specs.Runs.{no_predicates}
use Rattle.command.specs.Bounds.{HasInputFor}

pub some_function : (parts : GraphParts) (entry : ℕ) (f : Function) → slice_get parts.functions entry ≡ Some f → f.arrays ≡ []
    → IsSomeAnd (slice_get parts.functions entry) (λ h. h.arrays ≡ [])
some_function parts entry f there none = subst (λ (o : Option Function). IsSomeAnd o (λ h. h.arrays ≡ [])) (sym there) none

pub bounds_refused : (parts : GraphParts) (f : Function) (bounds : Bounds) (e : Fault) → IsUnwindFault parts no_predicates bounds f e
    → IfRefused e (λ x. IsUnwindFault parts no_predicates bounds f (fault.Refused x))
bounds_refused parts f bounds (fault.Refused x) why = why
bounds_refused parts f bounds fault.Memory why = tt

-- an input that leaves has a word for each parameter
pub input_for : (parts : GraphParts) (f : Function) (bounds : Bounds) (budget : ℕ) (s : Suffice) → IsSuffice parts f bounds budget s → (number : ℕ)
    → slice_get parts.functions number ≡ Some f → HasInputFor (parameter_kinds parts number) s
input_for parts f bounds budget (Yes formula derivation) is number there = tt
input_for parts f bounds budget (Left input) is number there =
    AllZip-long IsValue f.parameters input.words is.words_fit ∙ ap length (sym (ap (λ (o : Option Function). option_map_or (λ (g : Function). g.parameters) o []) there))
input_for parts f bounds budget (Open formula history) is number there = tt

-- the clauses of a formula of the inputs that leave bounds can be counted in 32 bits
pub few_clauses : (parts : GraphParts) (f : Function) (bounds : Bounds) (formula : Formula) → IsForLeaving parts f bounds formula → formula.variables ≤ 2 ^ 30
    → length formula.clauses < 2 ^ 32
few_clauses parts f bounds formula is small =
    let few = is.exact.few_clauses in
    let variables = ap (λ (g : Formula). g.variables) is.same in
    let clauses = ap (λ (g : Formula). length g.clauses) is.same in
    omega arith
