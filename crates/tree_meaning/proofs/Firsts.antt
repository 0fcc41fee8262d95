-- What expressions do first, and their outermost parts.
use Rattle.std.proofs.Common.{◌≡◌, ℕ, List, Option, Some, None, sym, ap, ◌∙◌, rules}
use Rattle.std.specs.Option.{option_map}
use Rattle.c_values.specs.declared.operators.BinaryOp.{BinaryOp}
use Rattle.c_values.specs.declared.operators.UnaryOp.{UnaryOp}
use Rattle.c_typed_trees.specs.declared.expression.TypedCall.{TypedCall}
use Rattle.c_typed_trees.specs.declared.expression.TypedExpr.{TypedExpr}
use Rattle.c_typed_trees.specs.declared.expression.TypedExprForm.{TypedExprForm, out-TypedExprForm, the_lemmas}
use Rattle.c_typed_trees.specs.declared.expression.TypedExprForm.TheVariants as forms
use Rattle.c_typed_trees.specs.declared.expression.TypedPlace.{TypedPlace, out-TypedPlace}
use Rattle.tree_meaning.specs.Outcomes.{Store, Done, Gives, ◌andthen◌, Evaluation}
use Rattle.tree_meaning.specs.Expressions.{Meant, Placed, part_meant, placed_at, both_does, either_does, choice_does}
use Rattle.tree_meaning.specs.Running.{Scene, meant_in, placed_in, call_in, value_in, part_form, part_in}
use Rattle.tree_meaning.proofs.Forms.{constant_in, load_in, convert_in, unary_in, binary_in, both_in, either_in, choice_in, call_form_in, place_in}

module _ (c : Scene) (x : TypedExpr) where
  -- ---- parts

  part_by : (f : TypedExprForm) (made : Evaluation) → x.form ≡ f → part_form c (out-TypedExprForm f) ≡ made → part_in c x ≡ made
  unfolding part_in
  part_by f made e h = ap (λ (g : TypedExprForm). part_form c (out-TypedExprForm g)) e ∙ h

  pub both_part : (y z : TypedExpr) (cell : ℕ) → x.form ≡ forms.Both y z cell → part_in c x ≡ both_does (value_in c y) (value_in c z)
  both_part y z cell e = part_by _ _ e (search (rules, the_lemmas))

  pub either_part : (y z : TypedExpr) (cell : ℕ) → x.form ≡ forms.Either y z cell → part_in c x ≡ either_does (value_in c y) (value_in c z)
  either_part y z cell e = part_by _ _ e (search (rules, the_lemmas))

  pub choice_part : (w y z : TypedExpr) (cell : ℕ) → x.form ≡ forms.Choice w y z cell → part_in c x ≡ choice_does (value_in c w) (value_in c y) (value_in c z)
  choice_part w y z cell e = part_by _ _ e (search (rules, the_lemmas))

  pub call_part : (q : TypedCall) → x.form ≡ forms.Call q → part_in c x ≡ call_in c q
  call_part q e = part_by _ _ e (search (rules, the_lemmas))

  pub constant_part : (v : ℕ) (s : Store) → x.form ≡ forms.Constant v → part_in c x s ≡ Gives 0 s
  constant_part v s e = ap (λ (d : Evaluation). d s) (part_by _ (λ s'. Gives 0 s') e (search (rules, the_lemmas)))

  pub load_part : (p : TypedPlace) (s : Store) → x.form ≡ forms.Load p → part_in c x s ≡ Gives 0 s
  load_part p s e = ap (λ (d : Evaluation). d s) (part_by _ (λ s'. Gives 0 s') e (search (rules, the_lemmas)))

  pub convert_part : (y : TypedExpr) (s : Store) → x.form ≡ forms.Convert y → part_in c x s ≡ Gives 0 s
  convert_part y s e = ap (λ (d : Evaluation). d s) (part_by _ (λ s'. Gives 0 s') e (search (rules, the_lemmas)))

  pub unary_part : (op : UnaryOp) (y : TypedExpr) (s : Store) → x.form ≡ forms.Unary op y → part_in c x s ≡ Gives 0 s
  unary_part op y s e = ap (λ (d : Evaluation). d s) (part_by _ (λ s'. Gives 0 s') e (search (rules, the_lemmas)))

  pub binary_part : (op : BinaryOp) (y z : TypedExpr) (s : Store) → x.form ≡ forms.Binary op y z → part_in c x s ≡ Gives 0 s
  binary_part op y z s e = ap (λ (d : Evaluation). d s) (part_by _ (λ s'. Gives 0 s') e (search (rules, the_lemmas)))

  -- ---- first parts

  module _ (vs : List ℕ) (s : Store) where
    first_by : (m : Meant) → meant_in c x ≡ m → (meant_in c x).first vs s ≡ m.first vs s
    first_by m e = ap (λ (q : Meant). q.first vs s) e

    pub constant_first : (v : ℕ) → x.form ≡ forms.Constant v → (meant_in c x).first vs s ≡ Gives vs s
    constant_first v e = first_by _ (constant_in c x v e)

    pub load_first : (p : TypedPlace) → x.form ≡ forms.Load p → (meant_in c x).first vs s ≡ (placed_in c p).first vs s
    load_first p e = first_by _ (load_in c x p e)

    pub convert_first : (y : TypedExpr) → x.form ≡ forms.Convert y → (meant_in c x).first vs s ≡ (meant_in c y).first vs s
    convert_first y e = first_by _ (convert_in c x y e)

    pub unary_first : (op : UnaryOp) (y : TypedExpr) → x.form ≡ forms.Unary op y → (meant_in c x).first vs s ≡ (meant_in c y).first vs s
    unary_first op y e = first_by _ (unary_in c x y op e)

    pub binary_first : (op : BinaryOp) (y z : TypedExpr) → x.form ≡ forms.Binary op y z → (meant_in c x).first vs s ≡ ((meant_in c y).first vs s andthen (meant_in c z).first)
    binary_first op y z e = first_by _ (binary_in c x y z op e)

    abbrev part_first : Done (List ℕ)
    part_first = (part_meant (part_in c x) x.kind).first vs s

    part_is : (d : Evaluation) → meant_in c x ≡ part_meant d x.kind → part_in c x ≡ d → (meant_in c x).first vs s ≡ part_first
    part_is d e h = first_by _ e ∙ ap (λ (q : Evaluation). (part_meant q x.kind).first vs s) (sym h)

    pub both_first : (y z : TypedExpr) (cell : ℕ) → x.form ≡ forms.Both y z cell → (meant_in c x).first vs s ≡ part_first
    both_first y z cell e = part_is _ (both_in c x y z cell e) (both_part y z cell e)

    pub either_first : (y z : TypedExpr) (cell : ℕ) → x.form ≡ forms.Either y z cell → (meant_in c x).first vs s ≡ part_first
    either_first y z cell e = part_is _ (either_in c x y z cell e) (either_part y z cell e)

    pub choice_first : (w y z : TypedExpr) (cell : ℕ) → x.form ≡ forms.Choice w y z cell → (meant_in c x).first vs s ≡ part_first
    choice_first w y z cell e = part_is _ (choice_in c x w y z cell e) (choice_part w y z cell e)

    pub call_first : (q : TypedCall) → x.form ≡ forms.Call q → (meant_in c x).first vs s ≡ part_first
    call_first q e = part_is _ (call_form_in c x q e) (call_part q e)

-- ---- places

module _ (c : Scene) (p : TypedPlace) (vs : List ℕ) (s : Store) where
  placed_by : (o : Option TypedExpr) → (out-TypedPlace p).index ≡ o → (placed_in c p).first vs s ≡ (placed_at c.activation (out-TypedPlace p).variable (option_map (meant_in c) o)).first vs s
  placed_by o e = ap (λ (q : Placed). q.first vs s) (place_in c p ∙ ap (λ o'. placed_at c.activation (out-TypedPlace p).variable (option_map (meant_in c) o')) e)

  pub whole_first : (out-TypedPlace p).index ≡ None → (placed_in c p).first vs s ≡ Gives vs s
  whole_first e = placed_by None e

  pub element_first : (i : TypedExpr) → (out-TypedPlace p).index ≡ Some i → (placed_in c p).first vs s ≡ (meant_in c i).first vs s
  element_first i e = placed_by (Some i) e
