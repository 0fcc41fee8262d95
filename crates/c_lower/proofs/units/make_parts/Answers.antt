use Rattle.std.proofs.Common.{◌≡◌, ◌∙◌, map, sym, ap, subst}
use Rattle.std.specs.List.{flat_map}
use Rattle.std.proofs.lemmas.Result.{err_from_is_err_and}
use Rattle.c_typed_trees.specs.declared.unit.Global.{Global}
use Rattle.c_lower_rules.specs.graph_of.GraphOf.{functions_from, global_variables, global_cells, made}
use Rattle.c_lower.specs.Stopping.{IsStop}
use Rattle.c_lower.proofs.UnitLaws.{graph_is, graph_stops}
use Rattle.c_lower.proofs.units.make_parts.Goals as goal

pub returns-in_err-nodes-clause-err : goal.returns-in_err-nodes-clause-err
returns-in_err-nodes-clause-err c =
    let p = err_from_is_err_and c.from_residual.result c.from_residual.ensures.1 in
    rw (p.1, p.2)
    (graph_stops c.args.typed.now c.args.files c.in_err-nodes.field-0.0
    (subst (λ m. IsStop c.in_err-nodes.field-0.0 m) (λ i. made (map (λ (g : Global). g.variable) (c.deref.ensures i)) (c.deref-2.ensures i)) c.in_err-nodes.ensures.err))

pub returns-clause-ok : goal.returns-clause-ok
returns-clause-ok c =
    let t = c.args.typed.now in
    let p = c.in_ok-nodes.field-0 in
    let e : p ≡ made (global_variables t) t.functions = c.in_ok-nodes.ensures.ok ∙ (λ i. made (map (λ (g : Global). g.variable) (c.deref.ensures i)) (c.deref-2.ensures i)) in
    let functions : c.in_ok-functions_of.field-0 ≡ functions_from 0 t.functions = c.in_ok-functions_of.ensures ∙ ap (functions_from 0) c.deref-3.ensures in
    let inputs : c.in_ok-inputs_of.field-0 ≡ t.inputs = c.in_ok-inputs_of.ensures ∙ c.deref-4.ensures in
    let globals : c.in_ok-global_cells.field-0 ≡ global_cells t = c.in_ok-global_cells.ensures ∙ ap (flat_map (λ (g : Global). map (λ value. (g.variable.kind, value)) g.first)) c.deref-5.ensures in
    (λ i. record {
      files = c.args.files;
      nodes = p.nodes;
      edges = p.edges;
      functions = functions i;
      declared = c.in_ok-try_clone.ensures i;
      inputs = inputs i;
      scopes = p.scopes;
      globals = globals i;
    }) ∙ sym (graph_is t c.args.files p e)
