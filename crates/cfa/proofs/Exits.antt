-- Exits of functions.
use Rattle.std.proofs.Common.{◌≡◌, ℕ, Some, None, refl, sym, ◌∙◌, ap, subst}
use Rattle.std.specs.Prelude.{Option, ◌↔◌, slice_get}
use Rattle.std.specs.Option.{IsSomeAnd}
use Rattle.std.proofs.lemmas.Option.{same_Some}
use Rattle.cfa.specs.declared.parts.Function.{Function}
use Rattle.cfa.specs.declared.parts.GraphParts.{GraphParts}
use Rattle.cfa.specs.declared.parts.Node.{Node}
use Rattle.cfa.specs.Each.{Each}
use Rattle.cfa.specs.Graph.{IsExit, FunctionFits}

-- the value of which a fact holds
pub taken : {X : Type 0} (P : X → Type 0) (o : Option X) → IsSomeAnd o P → (x : X) × (o ≡ Some x) × P x
taken P None h = absurd h
taken P (Some x) h = (x, refl, h)

pub given : {X : Type 0} (P : X → Type 0) (o : Option X) (x : X) → o ≡ Some x → P x → IsSomeAnd o P
given P o x e h = subst (λ q. IsSomeAnd q P) (sym e) h

-- the node of an exit, and its function
exit_is : (parts : GraphParts) (node : ℕ) → Each parts.functions (FunctionFits parts) → IsExit parts node → (n : Node) × (slice_get parts.nodes node ≡ Some n) × ((f : Function) × (slice_get parts.functions n.function ≡ Some f) × (f.exit ≡ node))
exit_is parts node fits ex =
    let Ends : Function → Type 0 = λ f. f.exit ≡ node in
    let there = taken Ends (slice_get parts.functions ex.0) ex.1 in
    let own = (fits ex.0 there.0 there.1).exit in
    let Own : Node → Type 0 = λ n. n.function ≡ ex.0 in
    let here = taken Own (slice_get parts.nodes there.0.exit) own in
    (here.0, ap (slice_get parts.nodes) (sym there.2) ∙ here.1, (there.0, ap (slice_get parts.functions) here.2 ∙ there.1, there.2))

pub exit_no_node : (parts : GraphParts) (node : ℕ) → Each parts.functions (FunctionFits parts) → slice_get parts.nodes node ≡ None → ¬ IsExit parts node
exit_no_node parts node fits none ex = let is = exit_is parts node fits ex in let e = sym none ∙ is.1 in cc

pub exit_no_function : (parts : GraphParts) (node : ℕ) (n : Node) → Each parts.functions (FunctionFits parts) → slice_get parts.nodes node ≡ Some n → slice_get parts.functions n.function ≡ None → ¬ IsExit parts node
exit_no_function parts node n fits there none ex =
    let is = exit_is parts node fits ex in
    let same : n ≡ is.0 = same_Some n is.0 (sym there ∙ is.1) in
    let function = ap (λ (m : Node). slice_get parts.functions m.function) same in
    let e = sym none ∙ function ∙ is.2.1 in
    cc

pub exit_tells : (parts : GraphParts) (node : ℕ) (n : Node) (f : Function) → Each parts.functions (FunctionFits parts) → slice_get parts.nodes node ≡ Some n → slice_get parts.functions n.function ≡ Some f → (f.exit ≡ node) ↔ IsExit parts node
exit_tells parts node n f fits there at = (
  λ e. (n.function, let Ends : Function → Type 0 = λ g. g.exit ≡ node in given Ends (slice_get parts.functions n.function) f at e),
  λ ex.
      let is = exit_is parts node fits ex in
      let same : n ≡ is.0 = same_Some n is.0 (sym there ∙ is.1) in
      let function = ap (λ (m : Node). slice_get parts.functions m.function) same in
      let own : f ≡ is.2.0 = same_Some f is.2.0 (sym at ∙ function ∙ is.2.1) in
      ap (λ (g : Function). g.exit) own ∙ is.2.2,
)
