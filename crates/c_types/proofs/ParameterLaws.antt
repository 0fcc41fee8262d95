-- What parameters do to the state of typing, a law for each rule.
use Rattle.std.proofs.Common.{◌≡◌, ℕ, ◌+◌, ◌<◌, ◌≤◌, Bool, not, List, [], ◌∷◌, ◌++◌, length, get_or, drop, Option, Some, None, refl, sym, ap, subst, ◌∙◌, append_assoc, append-nil}
use Rattle.std.proofs.lemmas.List.{drop_more, drop_all}
use Rattle.fq_core.specs.declared.span.Span.{Span}
use Rattle.c_parse.specs.declared.expr.Ident.{Ident}
use Rattle.c_parse.specs.declared.unit.Parameter.{Parameter}
use Rattle.cfa.specs.declared.parts.Variable.{Variable}
use Rattle.c_type_rules.specs.declared.typer.Typer.{Typer}
use Rattle.c_type_rules.specs.Rule.{expect, made_by, after}
use Rattle.c_type_rules.proofs.RuleLaws.{pure_made, pure_after, then_made, then_after}
use Rattle.c_types.specs.declared.parameters.Parameters.{Parameters}
use Rattle.c_types.specs.Declarations.{unused, variable_of, bind_variable, length_at}
use Rattle.c_types.specs.Functions.{name_of, name_span, parameter_place, cell_behind, lent_behind, named_parameter, parameter_rule, with_parameter, parameters_from, parameters_rule, bind_parameters}

module _ (defined : Bool) (span : Span) (v : Variable) (s : Typer) where
  pub unnamed_made : (name : Option Ident) → name ≡ None → made_by (named_parameter defined span name v) s ≡ v
  unnamed_made name e = rw e (simp (then_made, pure_made))

  pub unnamed_after : (name : Option Ident) → name ≡ None → after (named_parameter defined span name v) s ≡ after (expect 29 span (not defined)) s
  unnamed_after name e = rw e (simp (then_after, pure_after))

  pub named_made : (name : Option Ident) (d : Ident) → name ≡ Some d → made_by (named_parameter defined span name v) s ≡ v
  named_made name d e = rw e (simp (then_made, pure_made))

  pub named_after : (name : Option Ident) (d : Ident) → name ≡ Some d → after (named_parameter defined span name v) s ≡ after (bind_variable v) (after (unused d) s)
  named_after name d e = rw e (simp (then_after, pure_after))

pub ruleset named_laws = (unnamed_made, unnamed_after, named_made, named_after)

module _ (defined : Bool) (cell lent : ℕ) (p : Parameter) (s : Typer) where
  pub parameter_made : made_by (parameter_rule defined cell lent p) s
      ≡ (let len = made_by (length_at (name_span p.span p.name) p.length) s in
      made_by (named_parameter defined p.span p.name (variable_of (name_of p.name) p.kind len (parameter_place cell lent len))) (after (length_at (name_span p.span p.name) p.length) s))
  unfolding parameter_rule
  parameter_made = simp then_made

  pub parameter_after : after (parameter_rule defined cell lent p) s
      ≡ (let len = made_by (length_at (name_span p.span p.name) p.length) s in
      after (named_parameter defined p.span p.name (variable_of (name_of p.name) p.kind len (parameter_place cell lent len))) (after (length_at (name_span p.span p.name) p.length) s))
  unfolding parameter_rule
  parameter_after = simp then_after

pub ruleset parameter_laws = (parameter_made, parameter_after)

-- ---- all parameters

-- parameters behind others
abbrev pub behind : List Variable → Parameters → Parameters
behind vs ps = record { cells = ps.cells; variables = vs ++ ps.variables }

-- those so far, and what those that are left make, is what all make
pub record Left (defined : Bool) (all : List Parameter) (s0 : Typer) (rest : List Parameter) (cell lent : ℕ) (vs : List Variable) (s : Typer) : Type 0 where
  pub made : made_by (parameters_rule defined all) s0 ≡ behind vs (made_by (parameters_from defined cell lent rest) s)
  pub state : after (parameters_rule defined all) s0 ≡ after (parameters_from defined cell lent rest) s

module _ (defined : Bool) (cell lent : ℕ) (s : Typer) where
  none_made : made_by (parameters_from defined cell lent []) s ≡ record { cells = cell; variables = [] }
  unfolding parameters_from
  none_made = pure_made _ s

  none_after : after (parameters_from defined cell lent []) s ≡ s
  unfolding parameters_from
  none_after = pure_after {A = Parameters} (record { cells = cell; variables = [] }) s

  module _ (p : Parameter) (ps : List Parameter) where
    more_made : made_by (parameters_from defined cell lent (p ∷ ps)) s
        ≡ (let v = made_by (parameter_rule defined cell lent p) s in
        with_parameter v (made_by (parameters_from defined (cell_behind cell v.length) (lent_behind lent v.length) ps) (after (parameter_rule defined cell lent p) s)))
    unfolding parameters_from
    more_made = simp (then_made, pure_made)

    more_after : after (parameters_from defined cell lent (p ∷ ps)) s
        ≡ (let v = made_by (parameter_rule defined cell lent p) s in
        after (parameters_from defined (cell_behind cell v.length) (lent_behind lent v.length) ps) (after (parameter_rule defined cell lent p) s))
    unfolding parameters_from
    more_after = simp (then_after, pure_after)

pub left_init : (defined : Bool) (all : List Parameter) (s : Typer) → Left defined all s all 1 0 [] s
left_init defined all s = record { made = refl; state = refl }

pub left_turn : (defined : Bool) (all : List Parameter) (s0 : Typer) (i : ℕ) (p : Parameter) (cell cell' lent lent' : ℕ) (vs vs' : List Variable) (v : Variable) (s s' : Typer) → i < length all → p ≡ get_or all i p
    → v ≡ made_by (parameter_rule defined cell lent p) s → s' ≡ after (parameter_rule defined cell lent p) s → cell' ≡ cell_behind cell v.length → lent' ≡ lent_behind lent v.length → vs' ≡ vs ++ v ∷ []
    → Left defined all s0 (drop i all) cell lent vs s → Left defined all s0 (drop (i + 1) all) cell' lent' vs' s'
left_turn defined all s0 i p cell cell' lent lent' vs vs' v s s' within is ev es ec el e l =
    let ps = drop (i + 1) all in
    let here : drop i all ≡ p ∷ ps = subst (λ (q : Parameter). drop i all ≡ q ∷ ps) (sym is) (drop_more all i p within) in
    record {
      made =
          l.made ∙ ap (λ zs. behind vs (made_by (parameters_from defined cell lent zs) s)) here ∙ ap (behind vs) (more_made defined cell lent s p ps)
          ∙ ap (λ (w : Variable). behind vs (with_parameter w (made_by (parameters_from defined (cell_behind cell w.length) (lent_behind lent w.length) ps) (after (parameter_rule defined cell lent p) s)))) (sym ev)
          ∙ ap (λ zs. record { cells = (made_by (parameters_from defined (cell_behind cell v.length) (lent_behind lent v.length) ps) (after (parameter_rule defined cell lent p) s)).cells; variables = zs }) (sym (append_assoc vs (v ∷ []) _))
          ∙ rw (e, ec, el, es) refl;
      state =
          l.state ∙ ap (λ zs. after (parameters_from defined cell lent zs) s) here ∙ more_after defined cell lent s p ps
          ∙ ap (λ (w : Variable). after (parameters_from defined (cell_behind cell w.length) (lent_behind lent w.length) ps) (after (parameter_rule defined cell lent p) s)) (sym ev)
          ∙ rw (ec, el, es) refl;
    }

module _ (defined : Bool) (all : List Parameter) (s0 : Typer) (i : ℕ) (cell lent : ℕ) (vs : List Variable) (s : Typer) (end : length all ≤ i) (l : Left defined all s0 (drop i all) cell lent vs s) where
  none_left : drop i all ≡ []
  none_left = drop_all i all end

  pub left_made : record { cells = cell; variables = vs } ≡ made_by (parameters_rule defined all) s0
  left_made =
      sym (l.made ∙ ap (λ zs. behind vs (made_by (parameters_from defined cell lent zs) s)) none_left ∙ ap (behind vs) (none_made defined cell lent s)
      ∙ ap (λ zs. record { cells = cell; variables = zs }) (append-nil vs))

  pub left_after : s ≡ after (parameters_rule defined all) s0
  left_after = sym (l.state ∙ ap (λ zs. after (parameters_from defined cell lent zs) s) none_left ∙ none_after defined cell lent s)

-- ---- parameters in scope

module _ (all : List Variable) (i : ℕ) (s : Typer) where
  pub bound_end : length all ≤ i → after (bind_parameters (drop i all)) s ≡ s
  unfolding bind_parameters
  bound_end h = ap (λ zs. after (bind_parameters zs) s) (drop_all i all h) ∙ pure_after tt s

  pub bound_more : (v : Variable) → i < length all → v ≡ get_or all i v → after (bind_parameters (drop i all)) s ≡ after (bind_parameters (drop (i + 1) all)) (after (bind_variable v) s)
  unfolding bind_parameters
  bound_more v h e =
      ap (λ zs. after (bind_parameters zs) s) (drop_more all i v h ∙ ap (λ (z : Variable). z ∷ drop (i + 1) all) (sym e))
      ∙ then_after (bind_variable v) (λ u. bind_parameters (drop (i + 1) all)) s
