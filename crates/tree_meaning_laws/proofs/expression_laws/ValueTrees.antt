-- The trees of expressions do what they mean.
use Rattle.std.proofs.Common.{◌≡◌, ℕ, suc, ◌+◌, ◌<◌, ◌≤◌, Bool, List, [], ◌∷◌, ◌++◌, map, length, Option, Some, None, Ok, refl, sym, ap, subst, ◌∙◌, arith}
use Rattle.std.specs.Prelude.{IsTrue, IfSome, ◌&&◌, not, slice_get}
use Rattle.std.specs.Option.{option_map, is_none}
use Rattle.std.specs.List.{AllByRecursion}
use Rattle.std.proofs.lemmas.List.{length-map}
use Rattle.fq_core.specs.declared.span.Span.{Span}
use Rattle.c_values.specs.Kind.{int, is_kind, IsValue}
use Rattle.c_values.specs.Operations.{unary_kind, binary_kind}
use Rattle.c_values.specs.declared.kinds.Kind.{Kind}
use Rattle.c_values.specs.declared.operators.BinaryOp.{BinaryOp}
use Rattle.c_values.specs.declared.operators.UnaryOp.{UnaryOp}
use Rattle.c_values.specs.declared.operators.UnaryOp.TheVariants as unary
use Rattle.c_values.proofs.Fitting.{and_left, and_right}
use Rattle.cfa.specs.Each.{matched}
use Rattle.cfa.specs.Kinds.{same_kind}
use Rattle.cfa.specs.declared.expr.CellPlace.TheVariants as place
use Rattle.cfa.specs.declared.expr.Expr.TheVariants as expr
use Rattle.cfa.specs.declared.parts.InputFunction.{InputFunction}
use Rattle.cfa.specs.declared.parts.Variable.{Variable}
use Rattle.cfa.specs.declared.state.State.{State}
use Rattle.c_meaning.specs.Steps.{values_of, values_in}
use Rattle.c_typed_trees.specs.declared.expression.Callee.{Callee}
use Rattle.c_typed_trees.specs.declared.expression.Callee.TheVariants.{Defined, Input}
use Rattle.c_typed_trees.specs.declared.expression.TypedCall.{TypedCall, ind-TypedCall, roll-TypedCall}
use Rattle.c_typed_trees.specs.declared.expression.TypedExpr.{TypedExpr, ind-TypedExpr, roll-TypedExpr}
use Rattle.c_typed_trees.specs.declared.expression.TypedExprForm.{TypedExprForm, roll-TypedExprForm}
use Rattle.c_typed_trees.specs.declared.expression.TypedExprForm.TheOpen.{TypedCall-F, TypedExpr-F, TypedExprForm-F, TypedPlace-F}
use Rattle.c_typed_trees.specs.declared.expression.TypedPlace.{TypedPlace, ind-TypedPlace, map-TypedPlace, roll-TypedPlace}
use Rattle.c_typed_trees.specs.declared.unit.TypedFunction.{TypedFunction}
use Rattle.c_typed_trees.specs.Fitting.{Fit, CallFit, span_fits, is_cell, is_integer, is_array, is_variable, in_cell, callee_fits, defined_fits, input_fits, word_fits, word_kinds, expression_fit, place_fits, call_fit}
use Rattle.c_lower_rules.specs.declared.graph_of.parts.Around.{Around}
use Rattle.c_lower_rules.specs.declared.graph_of.parts.Operand.{Operand}
use Rattle.c_lower_rules.specs.graph_of.Builder.{ending}
use Rattle.c_lower_rules.specs.graph_of.Expressions.{Value, Spot, Shaped, Calling, shape_of, value_of, spot_of, calling_of, spot_cell, words_in_order, call_edges, element_of, both_cond, either_cond, truth_pure, choice_pure, call_pure, unary_pure, unary_value}
use Rattle.tree_meaning_laws.specs.temporaries_apart.Named.{Named, names_then, names_at, names_in_order, with_variables, named, place_named, call_named, IsBelow}
use Rattle.tree_meaning_laws.proofs.temporaries_apart.Stands.{Stands, stands_split, least, all_front, all_behind}
use Rattle.tree_meaning.specs.Outcomes.{Store, Evaluation}
use Rattle.tree_meaning.specs.Expressions.{Meant, Placed, evaluate, constant_meant, convert_meant, unary_meant, binary_meant, load_meant, placed_at, part_meant, both_does, either_does, choice_does}
use Rattle.tree_meaning.specs.Calls.{Calls, first_parts, word_values, call_of, answer}
use Rattle.tree_meaning.specs.Trees.{meant_form, meant, placed, call_does}
use Rattle.tree_meaning.proofs.TreeForms.{constant_is, load_is, convert_is, unary_is, binary_is, both_is, either_is, choice_is, call_form_is, expression_is, call_is, whole_is, element_is}
use Rattle.tree_meaning.proofs.ValueKinds.{same_kind_is, known, values_are_of_kinds}
use Rattle.tree_meaning_laws.specs.expression_laws.Sits.{Sits}
use Rattle.tree_meaning_laws.specs.expression_laws.Follows.{Follows}
use Rattle.tree_meaning_laws.specs.expression_laws.Contexts.{Context, IsContext, Held, Related, Proper, Spare, Clear, parts_of, names_of, own_frame, own_activation}
use Rattle.tree_meaning_laws.specs.expression_laws.Flows.{Ended, Flows, HasRest, NamesCell, Does, CallsDo, Came}
use Rattle.tree_meaning_laws.specs.expression_laws.Laws.{ExpressionsDo}
use Rattle.tree_meaning_laws.proofs.expression_laws.Sits.{all_sit}
use Rattle.tree_meaning_laws.proofs.expression_laws.Follows.{follows_then, follows_less}
use Rattle.tree_meaning_laws.proofs.expression_laws.Cells.{drops_after, proper_after, spare_after, frame_is}
use Rattle.tree_meaning_laws.proofs.expression_laws.Flows.{nil_behind, give_flows, map_flows, pair_flows}
use Rattle.tree_meaning_laws.proofs.expression_laws.Values.{variable_owned, constant_value, convert_has, unary_has, binary_has, load_has, whole_names, element_names}
use Rattle.tree_meaning_laws.proofs.expression_laws.Parts.{DecidesTruth, unsplit_does, both_decides, either_decides, truth_decides, not_decides, part_flows, truth_lands, choice_lands}
use Rattle.tree_meaning_laws.proofs.expression_laws.Calls.{HasValues, total, values_count, nothing_has, more_have, came_less, defined_lands, answer_lands}
use Rattle.tree_meaning_laws.proofs.expression_laws.Forms

module _ (c : Context) (ok : IsContext c) (calls : Calls) (works : CallsDo c calls) where
  abbrev pub meaning : TypedExpr → Meant
  meaning x = meant c.typed calls (own_activation c) x

  abbrev pub fit : TypedExpr → Fit
  fit x = expression_fit (names_of c) x

  -- a tree that names these cells stands where they are free
  pub record Room (names : Named) (ho : Held) (low high : ℕ) : Type 0 where
    pub proper : Proper c ho
    pub clear : Clear c ho low high
    pub stands : Stands c.locals low high names

  abbrev pub ValueDoes : TypedExpr → Type 0
  ValueDoes x = (ho : Held) (low high : ℕ) → Room (named x) ho low high → IsTrue (fit x).fits → Does c ho low high (meaning x) (value_of x)

  abbrev FormDoes : TypedExprForm → Type 0
  FormDoes f = (ho : Held) (low high : ℕ) → Room (Forms.form_named f) ho low high → (span : Span) (kind : Kind) → IsTrue (Forms.form_fits (names_of c) f kind)
      → Does c ho low high (meant_form c.typed calls (own_activation c) f kind) (shape_of f span kind) × ((meant_form c.typed calls (own_activation c) f kind).kind ≡ kind)

  -- the first part of a place's index, and its cell
  abbrev pub PlaceDoes : TypedPlace → Type 0
  PlaceDoes p = (ho : Held) (low high : ℕ) → Room (place_named p) ho low high → IsTrue (place_fits (names_of c) p) → (u : Around)
      → Flows c ho low high (placed c.typed calls (own_activation c) p).parts (placed c.typed calls (own_activation c) p).first (NamesCell c (placed c.typed calls (own_activation c) p).cell) (spot_cell (spot_of p) u)

  -- a temporary, if there is one, is this
  abbrev pub IsTemp : Option ℕ → ℕ → Type 0
  IsTemp temp cell = IfSome temp (λ (i : ℕ). i ≡ cell)

  abbrev pub CallDoes : TypedCall → Type 0
  CallDoes q = (ho : Held) (low high : ℕ) → Room (call_named q) ho low high → IsTrue (call_fit (names_of c) q).fits → (temp : Option ℕ) → IsTemp temp (calling_of q).cell → (u : Around) (z a n e k : ℕ)
      → Sits (parts_of c) (ending (words_in_order (calling_of q).words u) (λ ws b. call_edges (calling_of q).callee (calling_of q).arrays u ws (option_map place.Local temp) b z) a n e k) n e k
      → (s : Store) (st : State) → Related c ho a s st → Follows (parts_of c) c.input st s.turns s.turns (Came c ho temp z) (call_does c.typed calls (own_activation c) q s)

  -- ---- room

  pub room_at : (cell : ℕ) (names : Named) (ho : Held) (low high : ℕ) → Room (names_at cell names) ho low high → (low ≤ cell) × (cell < high) × Room names ho (cell + 1) high
  room_at cell names ho low high r =
      let inner : Stands c.locals (cell + 1) high names = record { ascend = r.stands.ascend.1; below = r.stands.below } in
      let l = r.stands.ascend.0 in
      let h = least c.locals (cell + 1) high names inner in
      (l, omega (arith, h), record { proper = r.proper; clear = λ i j q. r.clear i (omega (arith, l, j)) q; stands = inner })

  pub room_spare : (cell : ℕ) (names : Named) (ho : Held) (low high : ℕ) → Room (names_at cell names) ho low high → Spare c ho cell
  room_spare cell names ho low high r = let q = room_at cell names ho low high r in r.clear cell q.0 q.1

  pub room_is : (names names' : Named) (ho : Held) (low high : ℕ) → names ≡ names' → Room names ho low high → Room names' ho low high
  room_is names names' ho low high e r = subst (λ m. Room m ho low high) e r

  -- ---- the forms

  form_is : (x : TypedExprForm-F TypedExprForm TypedCall TypedExpr TypedPlace) (made : Shaped) (m : Kind → Meant) (names : Named) (fits : Kind → Bool)
      → shape_of (roll-TypedExprForm x) ≡ made → meant_form c.typed calls (own_activation c) (roll-TypedExprForm x) ≡ m → Forms.form_named (roll-TypedExprForm x) ≡ names → Forms.form_fits (names_of c) (roll-TypedExprForm x) ≡ fits
      → ((kind : Kind) → (m kind).kind ≡ kind) → ((ho : Held) (low high : ℕ) → Room names ho low high → (span : Span) (kind : Kind) → IsTrue (fits kind) → Does c ho low high (m kind) (made span kind)) → FormDoes (roll-TypedExprForm x)
  form_is x made m names fits e f g l k h ho low high room span kind is = (
    subst (λ (q : Shaped). Does c ho low high (meant_form c.typed calls (own_activation c) (roll-TypedExprForm x) kind) (q span kind)) (sym e)
        (subst (λ (q : Kind → Meant). Does c ho low high (q kind) (made span kind)) (sym f) (h ho low high (room_is _ _ ho low high g room) span kind (subst (λ (q : Kind → Bool). IsTrue (q kind)) l is))),
    ap (λ (q : Kind → Meant). (q kind).kind) f ∙ k kind,
  )

  constant_at : (v : ℕ) → FormDoes (roll-TypedExprForm (TypedExprForm-F.Constant v))
  constant_at v = form_is (TypedExprForm-F.Constant v) _ _ _ _ (Forms.made_constant v) (constant_is c.typed calls (own_activation c) v) (Forms.named_constant v) refl (λ kind. refl)
      (λ ho low high room span kind is. unsplit_does c ok ho low high (constant_meant v kind) span kind _ room.proper room.clear refl
      (λ u. give_flows c ho low high (HasRest c kind (constant_meant v kind).rest) _ (record { value = λ more xs ys agree. ap (λ q. q.value) (constant_value ys (own_frame c) v kind); kinds = λ ys. ap (λ q. q.kind) (constant_value ys (own_frame c) v kind) })))

  load_at : (p : TypedPlace) → PlaceDoes p → FormDoes (roll-TypedExprForm (TypedExprForm-F.Load p))
  load_at p h = form_is (TypedExprForm-F.Load p) _ _ _ _ (Forms.made_load p) (load_is c.typed calls (own_activation c) p) (Forms.named_load p) (Forms.fit_load (names_of c) p) (λ kind. refl)
      (λ ho low high room span kind is.
      let own = placed c.typed calls (own_activation c) p in
      unsplit_does c ok ho low high (load_meant own kind) span kind _ room.proper room.clear refl
      (λ u. map_flows c ho low high own.parts own.first (NamesCell c own.cell) (HasRest c kind (load_meant own kind).rest) (spot_cell (spot_of p) u) (λ t. record { value = expr.Load t.place kind; reads = (spot_of p).variable.name ∷ t.reads }) (h ho low high room is u)
      (λ held news t m. load_has c ok own kind held news t ((spot_of p).variable.name ∷ t.reads) m)))

  convert_at : (x : TypedExpr) → ValueDoes x → FormDoes (roll-TypedExprForm (TypedExprForm-F.Convert x))
  convert_at x h = form_is (TypedExprForm-F.Convert x) _ _ _ _ (Forms.made_convert x) (convert_is c.typed calls (own_activation c) x) (Forms.named_convert x) (Forms.fit_convert (names_of c) x) (λ kind. refl)
      (λ ho low high room span kind is.
      let m = meaning x in
      unsplit_does c ok ho low high (convert_meant m kind) span kind _ room.proper room.clear refl
      (λ u. map_flows c ho low high m.parts m.first (HasRest c m.kind m.rest) (HasRest c kind (convert_meant m kind).rest) ((value_of x).pure u) (λ o. record { value = expr.Convert o.value kind; reads = o.reads }) ((h ho low high room is).pure u)
      (λ held news o g. convert_has c ok m kind held news o g)))

  -- an expression that fits is of the kind of its fit, and has values of it
  pub same_fit : (x : TypedExpr) → IsTrue (fit x).fits → (fit x).kind ≡ (meaning x).kind
  same_fit x f = sym (known (names_of c) c.typed calls (own_activation c) x f).kind

  pub values_of_kind : (x : TypedExpr) → IsTrue (fit x).fits → (vs cells : List ℕ) (v : ℕ) → (meaning x).rest vs cells ≡ Ok v → IsValue (meaning x).kind v
  values_of_kind x f vs cells v is =
      subst (λ k. IsValue k v) (sym (Forms.fit_kind (names_of c) x) ∙ same_fit x f) (values_are_of_kinds (names_of c) c.typed calls (own_activation c) x vs cells v f is)

  unary_does : (ho : Held) (low high : ℕ) (op : UnaryOp) (x : TypedExpr) (span : Span) (kind : Kind) → Room (named x) ho low high → IsTrue (fit x).fits → kind ≡ unary_kind op (meaning x).kind → Does c ho low high (meaning x) (value_of x)
      → Does c ho low high (unary_meant op (meaning x) kind) (unary_value span kind op (value_of x))
  unary_does ho low high op x span kind room f e h = by op e
    where
      flow : (op : UnaryOp) → kind ≡ unary_kind op (meaning x).kind → (u : Around) → Flows c ho low high (meaning x).parts (meaning x).first (HasRest c kind (unary_meant op (meaning x) kind).rest) (unary_pure op (value_of x) u)
      flow op e u = map_flows c ho low high (meaning x).parts (meaning x).first (HasRest c (meaning x).kind (meaning x).rest) (HasRest c kind (unary_meant op (meaning x) kind).rest) ((value_of x).pure u) (λ o. record { value = expr.Unary op o.value (value_of x).kind; reads = o.reads }) (h.pure u)
          (λ held news o g. unary_has c ok op (meaning x) (value_of x).kind kind held news o h.kind e g)

      by : (op : UnaryOp) → kind ≡ unary_kind op (meaning x).kind → Does c ho low high (unary_meant op (meaning x) kind) (unary_value span kind op (value_of x))
      by unary.Not e = record { kind = refl; pure = flow unary.Not e; cond = not_decides c ok ho (meaning x) kind (value_of x) (values_of_kind x f) h.cond }
      by unary.Neg e = unsplit_does c ok ho low high (unary_meant unary.Neg (meaning x) kind) span kind _ room.proper room.clear refl (flow unary.Neg e)
      by unary.Complement e = unsplit_does c ok ho low high (unary_meant unary.Complement (meaning x) kind) span kind _ room.proper room.clear refl (flow unary.Complement e)

  unary_at : (op : UnaryOp) (x : TypedExpr) → ValueDoes x → FormDoes (roll-TypedExprForm (TypedExprForm-F.Unary op x))
  unary_at op x h = form_is (TypedExprForm-F.Unary op x) _ _ _ _ (Forms.made_unary op x) (unary_is c.typed calls (own_activation c) op x) (Forms.named_unary op x) (Forms.fit_unary (names_of c) op x) (λ kind. refl)
      (λ ho low high room span kind is.
      let f = and_left _ _ is in
      unary_does ho low high op x span kind room f (same_kind_is kind (unary_kind op (fit x).kind) (and_right _ _ is) ∙ ap (unary_kind op) (same_fit x f)) (h ho low high room f))

  -- two parts, one behind the other
  pub record Two (a b : Named) (ho : Held) (low high : ℕ) : Type 0 where
    pub mid : ℕ
    pub before : low ≤ mid
    pub behind : mid ≤ high
    pub first : Room a ho low mid
    pub second : (held : Held) → Proper c held → Clear c held mid high → Room b held mid high

  pub two : (a b : Named) (ho : Held) (low high : ℕ) → Room (names_then a b) ho low high → Two a b ho low high
  two a b ho low high room =
      let S = stands_split c.locals low high a b room.stands in
      let l = least c.locals low S.0 a S.1 in
      let h = least c.locals S.0 high b S.2 in
      record {
        mid = S.0;
        before = l;
        behind = h;
        first = record { proper = room.proper; clear = λ i j q. room.clear i j (omega (arith, q, h)); stands = S.1 };
        second = λ held proper clear. record { proper = proper; clear = clear; stands = S.2 };
      }

  -- the second part, where nothing is held for the first
  pub room_second : (a b : Named) (ho : Held) (low high : ℕ) (r : Room (names_then a b) ho low high) → Room b ho (two a b ho low high r).mid high
  room_second a b ho low high r = let t = two a b ho low high r in t.second ho r.proper (λ i j q. r.clear i (omega (arith, j, t.before)) q)

  binary_at : (op : BinaryOp) (x y : TypedExpr) → ValueDoes x → ValueDoes y → FormDoes (roll-TypedExprForm (TypedExprForm-F.Binary op x y))
  binary_at op x y h g = form_is (TypedExprForm-F.Binary op x y) _ _ _ _ (Forms.made_binary op x y) (binary_is c.typed calls (own_activation c) op x y) (Forms.named_binary op x y) (Forms.fit_binary (names_of c) op x y) (λ kind. refl)
      (λ ho low high room span kind is.
      let m = meaning x in
      let m' = meaning y in
      let both = and_left _ _ (and_left _ _ is) in
      let f = and_left _ _ both in
      let f' = and_right _ _ both in
      let T = two (named x) (named y) ho low high room in
      let X = h ho low T.mid T.first f in
      unsplit_does c ok ho low high (binary_meant op m m' kind) span kind _ room.proper room.clear refl
      (λ u. pair_flows c ho low T.mid high m.parts m'.parts m.first m'.first (HasRest c m.kind m.rest) (HasRest c m'.kind m'.rest) (HasRest c kind (binary_meant op m m' kind).rest) ((value_of x).pure u) ((value_of y).pure u)
      (λ o p. record { value = expr.Binary op o.value p.value (value_of x).kind; reads = o.reads ++ p.reads }) T.before T.behind room.proper room.clear (X.pure u)
      (λ held proper clear. (g held T.mid high (T.second held proper clear) f').pure u)
      (λ held held' news news' o p d long mo mp. binary_has c ok op m m' (value_of x).kind kind held held' news news' o p (o.reads ++ p.reads) X.kind (same_kind_is kind (binary_kind op (fit x).kind) (and_right _ _ is) ∙ ap (binary_kind op) (same_fit x f)) d long mo mp)))

  split_does : (ho : Held) (low high cell : ℕ) (names : Named) (does : Evaluation) (cond : _) (span : Span) (kind : Kind) → Room (names_at cell names) ho low high → kind ≡ int → DecidesTruth c ok ho does cond
      → Does c ho low high (part_meant does kind) (record { span = span; kind = kind; pure = truth_pure cond cell kind; cond = cond })
  split_does ho low high cell names does cond span kind room is decides =
      let R = room_at cell names ho low high room in
      record {
        kind = refl;
        pure = λ u. part_flows c ok ho low high cell kind does (truth_pure cond cell kind u) R.0 R.1 (λ a n e k sits s st at. truth_lands c ok ho cell kind does cond u (room_spare cell names ho low high room) decides a n e k sits s st at) (λ a n e k. refl);
        cond = truth_decides c ok ho does kind cond is decides;
      }

  both_at : (x y : TypedExpr) (cell : ℕ) → ValueDoes x → ValueDoes y → FormDoes (roll-TypedExprForm (TypedExprForm-F.Both x y cell))
  both_at x y cell h g = form_is (TypedExprForm-F.Both x y cell) _ _ _ _ (Forms.made_both x y cell) (both_is c.typed calls (own_activation c) x y cell) (Forms.named_both x y cell) (Forms.fit_both (names_of c) x y cell) (λ kind. refl)
      (λ ho low high room span kind is.
      let both = and_left _ _ (and_left _ _ is) in
      let inner = (room_at cell (names_then (named x) (named y)) ho low high room).2 in
      let T = two (named x) (named y) ho (cell + 1) high inner in
      split_does ho low high cell (names_then (named x) (named y)) (both_does (evaluate (meaning x)) (evaluate (meaning y))) (both_cond (value_of x) (value_of y)) span kind room (same_kind_is kind int (and_right _ _ is))
      (both_decides c ok ho (evaluate (meaning x)) (evaluate (meaning y)) (value_of x) (value_of y) (h ho (cell + 1) T.mid T.first (and_left _ _ both)).cond
      (g ho T.mid high (room_second (named x) (named y) ho (cell + 1) high inner) (and_right _ _ both)).cond))

  either_at : (x y : TypedExpr) (cell : ℕ) → ValueDoes x → ValueDoes y → FormDoes (roll-TypedExprForm (TypedExprForm-F.Either x y cell))
  either_at x y cell h g = form_is (TypedExprForm-F.Either x y cell) _ _ _ _ (Forms.made_either x y cell) (either_is c.typed calls (own_activation c) x y cell) (Forms.named_either x y cell) (Forms.fit_either (names_of c) x y cell) (λ kind. refl)
      (λ ho low high room span kind is.
      let both = and_left _ _ (and_left _ _ is) in
      let inner = (room_at cell (names_then (named x) (named y)) ho low high room).2 in
      let T = two (named x) (named y) ho (cell + 1) high inner in
      split_does ho low high cell (names_then (named x) (named y)) (either_does (evaluate (meaning x)) (evaluate (meaning y))) (either_cond (value_of x) (value_of y)) span kind room (same_kind_is kind int (and_right _ _ is))
      (either_decides c ok ho (evaluate (meaning x)) (evaluate (meaning y)) (value_of x) (value_of y) (h ho (cell + 1) T.mid T.first (and_left _ _ both)).cond
      (g ho T.mid high (room_second (named x) (named y) ho (cell + 1) high inner) (and_right _ _ both)).cond))

  choice_at : (t x y : TypedExpr) (cell : ℕ) → ValueDoes t → ValueDoes x → ValueDoes y → FormDoes (roll-TypedExprForm (TypedExprForm-F.Choice t x y cell))
  choice_at t x y cell ht hx hy = form_is (TypedExprForm-F.Choice t x y cell) _ _ _ _ (Forms.made_choice t x y cell) (choice_is c.typed calls (own_activation c) t x y cell) (Forms.named_choice t x y cell) (Forms.fit_choice (names_of c) t x y cell) (λ kind. refl)
      (λ ho low high room span kind is.
      let whole : IsTrue ((fit t).fits && (fit x).fits && (fit y).fits && is_cell (names_of c) cell && same_kind kind (fit x).kind && same_kind kind (fit y).kind) = is in
      let five : IsTrue ((fit t).fits && (fit x).fits && (fit y).fits && is_cell (names_of c) cell && same_kind kind (fit x).kind) = and_left _ _ whole in
      let four : IsTrue ((fit t).fits && (fit x).fits && (fit y).fits && is_cell (names_of c) cell) = and_left _ _ five in
      let all : IsTrue ((fit t).fits && (fit x).fits && (fit y).fits) = and_left _ _ four in
      let front : IsTrue ((fit t).fits && (fit x).fits) = and_left _ _ all in
      let names = names_then (named t) (names_then (named x) (named y)) in
      let R = room_at cell names ho low high room in
      let T = two (named t) (names_then (named x) (named y)) ho (cell + 1) high R.2 in
      let rest = room_second (named t) (names_then (named x) (named y)) ho (cell + 1) high R.2 in
      let U = two (named x) (named y) ho T.mid high rest in
      let does = choice_does (evaluate (meaning t)) (evaluate (meaning x)) (evaluate (meaning y)) in
      unsplit_does c ok ho low high (part_meant does kind) span kind _ room.proper room.clear refl
      (λ u. part_flows c ok ho low high cell kind does (choice_pure (value_of t) (value_of x) (value_of y) cell kind u) R.0 R.1
      (λ a n e k sits s st at. choice_lands c ok ho cell (cell + 1) T.mid U.mid high kind (meaning t) (meaning x) (meaning y) (value_of t) (value_of x) (value_of y) u (omega arith) T.before U.before U.behind room.proper R.2.clear (room_spare cell names ho low high room)
      (ht ho (cell + 1) T.mid T.first (and_left _ _ front)) (hx ho T.mid U.mid U.first (and_right _ _ front)) (hy ho U.mid high (room_second (named x) (named y) ho T.mid high rest) (and_right _ _ all)) a n e k sits s st at)
      (λ a n e k. refl)))

  -- ---- calls

  words_do : (xs : List TypedExpr) → AllByRecursion ValueDoes xs → (ho : Held) (low high : ℕ) → Room (names_in_order (map named xs)) ho low high → AllByRecursion (λ (x : TypedExpr). IsTrue (fit x).fits) xs → (u : Around)
      → Flows c ho low high (total (map meaning xs)) (first_parts (map meaning xs)) (HasValues c (map meaning xs)) (words_in_order (map value_of xs) u)
  words_do [] hs ho low high room fits u = give_flows c ho low high (HasValues c []) [] (nothing_has c ok ho)
  words_do (x ∷ xs) hs ho low high room fits u =
      let T = two (named x) (names_in_order (map named xs)) ho low high room in
      let m = meaning x in
      let ms = map meaning xs in
      pair_flows c ho low T.mid high m.parts (total ms) m.first (first_parts ms) (HasRest c m.kind m.rest) (HasValues c ms) (HasValues c (m ∷ ms)) ((value_of x).pure u) (words_in_order (map value_of xs) u) (λ o os. o ∷ os) T.before T.behind room.proper room.clear
      ((hs.0 ho low T.mid T.first fits.0).pure u) (λ held proper clear. words_do xs hs.1 held T.mid high (T.second held proper clear) fits.1 u)
      (λ held held' news news' o os d long h g. more_have c ok m ms held held' news news' o os d long h g)

  matched_words : (xs : List TypedExpr) (ks : List Kind) → IsTrue (matched (word_fits (names_of c)) (map fit xs) ks) → AllByRecursion (λ (x : TypedExpr). IsTrue (fit x).fits) xs × (length xs ≡ length ks)
  matched_words [] [] h = (tt, refl)
  matched_words [] (k ∷ ks) h = absurd cc
  matched_words (x ∷ xs) [] h = absurd cc
  matched_words (x ∷ xs) (k ∷ ks) h = let r = matched_words xs ks (and_right _ _ h) in ((and_left _ _ (and_left _ _ h), r.0), ap suc r.1)

  -- along the words, and then the edges
  defined_does : (i : ℕ) (xs : List TypedExpr) (lent : List Variable) (cell : ℕ) → AllByRecursion ValueDoes xs → (ho : Held) (low high : ℕ) → Room (names_at cell (with_variables lent (names_in_order (map named xs)))) ho low high
      → (o : Option TypedFunction) → slice_get c.typed.functions i ≡ o → IsTrue (defined_fits (names_of c) o (map fit xs) lent).fits → (temp : Option ℕ) → IsTemp temp cell → (u : Around) (z a n e k : ℕ)
      → Sits (parts_of c) (ending (words_in_order (map value_of xs) u) (λ ws b. call_edges (Defined i) lent u ws (option_map place.Local temp) b z) a n e k) n e k
      → (s : Store) (st : State) → Related c ho a s st → Follows (parts_of c) c.input st s.turns s.turns (Came c ho temp z) (call_of c.typed calls (own_activation c) (Defined i) (map meaning xs) lent s)
  defined_does i xs lent cell hs ho low high room None callee fits temp is u z a n e k sits s st at = absurd cc
  defined_does i xs lent cell hs ho low high room (Some f) callee fits temp is u z a n e k sits s st at =
      let S = all_sit (parts_of c) _ n e k sits in
      let ms = map meaning xs in
      let W = matched_words xs (word_kinds f) (and_left _ _ fits) in
      let R = (room_at cell (with_variables lent (names_in_order (map named xs))) ho low high room) in
      let inner : Room (names_in_order (map named xs)) ho (cell + 1) high = record { proper = R.2.proper; clear = R.2.clear; stands = record { ascend = R.2.stands.ascend; below = all_behind (IsBelow c.locals) lent _ R.2.stands.below } } in
      let y = words_in_order (map value_of xs) u a n e k in
      follows_then (parts_of c) c.input (Ended c ho (cell + 1) high (total ms) (HasValues c ms) [] y.end y.gives) (Came c ho temp z) st s.turns s.turns (first_parts ms [] s) _ (words_do xs hs ho (cell + 1) high inner W.0 u [] a n e k S.0 s st at)
      (λ ws s' to E few.
      let d = drops_after c ho E.held (cell + 1) high R.2.proper R.2.clear E.outside in
      let counted : (us : List ℕ) → word_values ms ws s'.cells ≡ Ok us → length us ≡ length (word_kinds f) = λ us q. values_count ms ws s'.cells us q ∙ length-map xs meaning ∙ W.1 in
      follows_less (parts_of c) c.input (Came c E.held temp z) (Came c ho temp z) to s'.turns s'.turns _ (λ v s'' too g. came_less c ok E.held ho temp z v s'' too d g)
      (defined_lands c ok calls works i f callee E.held (proper_after c ho E.held (cell + 1) high R.2.proper R.2.clear E.outside) u y.gives lent temp (spared temp is (spare_after c ho E.held (cell + 1) high R.2.proper R.2.clear E.outside cell (omega arith) (room_spare cell _ ho low high room)))
      (and_right _ _ fits) (all_front (IsBelow c.locals) lent _ R.2.stands.below) y.end z _ _ _ S.1.0 s' to E.related (word_values ms ws s'.cells) (given ms E.held E.news y.gives y.end ws s' to E.means E.are E.related) counted))
    where
      spared : {held : Held} (temp : Option ℕ) → IsTemp temp cell → Spare c held cell → IfSome temp (Spare c held)
      spared None is sp = tt
      spared {held} (Some j) is sp = subst (Spare c held) (sym is) sp

      given : (ms : List Meant) (held : Held) (news : List ℕ) (os : List Operand) (node : ℕ) (ws : List ℕ) (s : Store) (to : State) → HasValues c ms held news os → ws ≡ [] ++ news → Related c held node s to
          → values_in to (map (λ (w : Operand). w.value) os) ≡ word_values ms ws s.cells
      given ms held news os node ws s to h are r = ap (λ g. values_of to.cells g (map (λ (w : Operand). w.value) os)) (frame_is c held node s to r) ∙ h.values [] s.cells to.cells r.cells ∙ ap (λ ns. word_values ms ns s.cells) (nil_behind news ∙ sym are)

  -- a call, by what it is made into, what it names, when it fits and what it does
  abbrev CallIs : Calling → Named → CallFit → Evaluation → Type 0
  CallIs g names fits does = (ho : Held) (low high : ℕ) → Room names ho low high → IsTrue fits.fits → (temp : Option ℕ) → IsTemp temp g.cell → (u : Around) (z a n e k : ℕ)
      → Sits (parts_of c) (ending (words_in_order g.words u) (λ ws b. call_edges g.callee g.arrays u ws (option_map place.Local temp) b z) a n e k) n e k
      → (s : Store) (st : State) → Related c ho a s st → Follows (parts_of c) c.input st s.turns s.turns (Came c ho temp z) (does s)

  input_does : (i : ℕ) (xs : List TypedExpr) (lent : List Variable) (cell : ℕ) (names : Named) (o : Option InputFunction) → slice_get c.typed.inputs i ≡ o → (ho : Held) (low high : ℕ) → Room (names_at cell names) ho low high
      → IsTrue (input_fits (names_of c) o (map fit xs) lent).fits → (temp : Option ℕ) → IsTemp temp cell → (u : Around) (z a n e k : ℕ)
      → Sits (parts_of c) (ending (words_in_order (map value_of xs) u) (λ ws b. call_edges (Input i) lent u ws (option_map place.Local temp) b z) a n e k) n e k
      → (s : Store) (st : State) → Related c ho a s st → Follows (parts_of c) c.input st s.turns s.turns (Came c ho temp z) (answer o s)
  input_does i xs lent cell names None there ho low high room fits temp is u z a n e k sits s st at = absurd cc
  input_does i [] [] cell names (Some f) there ho low high room fits temp is u z a n e k sits s st at =
      let S = all_sit (parts_of c) _ n e k sits in
      answer_lands c ok i f there ho u [] [] temp (spared temp is) a z _ _ _ S.1.0 s st at
    where
      spared : (temp : Option ℕ) → IsTemp temp cell → IfSome temp (Spare c ho)
      spared None is = tt
      spared (Some j) is = subst (Spare c ho) (sym is) (room_spare cell names ho low high room)
  input_does i [] (v ∷ lent) cell names (Some f) there ho low high room fits temp is u z a n e k sits s st at = absurd cc
  input_does i (x ∷ xs) lent cell names (Some f) there ho low high room fits temp is u z a n e k sits s st at = absurd cc

  call_shaped : (callee : Callee) (xs : List TypedExpr) (lent : List Variable) (cell : ℕ) → AllByRecursion ValueDoes xs
      → CallIs (record { callee = callee; words = map value_of xs; arrays = lent; cell = cell }) (names_at cell (with_variables lent (names_in_order (map named xs)))) (in_cell (names_of c) cell (callee_fits (names_of c) callee (map fit xs) lent))
      (call_of c.typed calls (own_activation c) callee (map meaning xs) lent)
  call_shaped (Defined i) xs lent cell hs ho low high room fits temp is u z a n e k sits s st at =
      defined_does i xs lent cell hs ho low high room (slice_get c.typed.functions i) refl (and_left _ _ fits) temp is u z a n e k sits s st at
  call_shaped (Input i) xs lent cell hs ho low high room fits temp is u z a n e k sits s st at =
      input_does i xs lent cell (with_variables lent (names_in_order (map named xs))) (slice_get c.typed.inputs i) refl ho low high room (and_left _ _ fits) temp is u z a n e k sits s st at

  call_at : (x : TypedCall-F TypedExprForm TypedCall TypedExpr TypedPlace) → AllByRecursion ValueDoes x.words → CallDoes (roll-TypedCall x)
  call_at x hs =
      subst (λ g. CallIs g (call_named (roll-TypedCall x)) (call_fit (names_of c) (roll-TypedCall x)) (call_does c.typed calls (own_activation c) (roll-TypedCall x))) (sym (Forms.made_call x))
      (subst (λ m. CallIs (record { callee = x.callee; words = map value_of x.words; arrays = x.arrays; cell = x.cell }) m (call_fit (names_of c) (roll-TypedCall x)) (call_does c.typed calls (own_activation c) (roll-TypedCall x))) (sym (Forms.named_call x))
      (subst (λ f. CallIs (record { callee = x.callee; words = map value_of x.words; arrays = x.arrays; cell = x.cell }) (names_at x.cell (with_variables x.arrays (names_in_order (map named x.words)))) f (call_does c.typed calls (own_activation c) (roll-TypedCall x))) (sym (Forms.fit_call (names_of c) x))
      (subst (CallIs (record { callee = x.callee; words = map value_of x.words; arrays = x.arrays; cell = x.cell }) (names_at x.cell (with_variables x.arrays (names_in_order (map named x.words)))) (in_cell (names_of c) x.cell (callee_fits (names_of c) x.callee (map fit x.words) x.arrays)))
      (sym (call_is c.typed calls (own_activation c) x)) (call_shaped x.callee x.words x.arrays x.cell hs))))

  -- where a call's temporary is
  call_cell : (q : TypedCall) → (names : Named) × (call_named q ≡ names_at (calling_of q).cell names)
  call_cell q = ind-TypedCall (λ (f : TypedExprForm). Unit {0}) (λ (q : TypedCall). (names : Named) × (call_named q ≡ names_at (calling_of q).cell names)) (λ (x : TypedExpr). Unit {0}) (λ (p : TypedPlace). Unit {0})
      (λ x y e. tt) (λ x y e. (with_variables x.arrays (names_in_order (map named x.words)), Forms.named_call x ∙ ap (λ (g : Calling). names_at g.cell (with_variables x.arrays (names_in_order (map named x.words)))) (sym (Forms.made_call x)))) (λ x y e. tt) (λ x y e. tt) q

  call_form_at : (q : TypedCall) → CallDoes q → FormDoes (roll-TypedExprForm (TypedExprForm-F.Call q))
  call_form_at q h = form_is (TypedExprForm-F.Call q) _ _ _ _ (Forms.made_call_form q) (call_form_is c.typed calls (own_activation c) q) (Forms.named_call_form q) (Forms.fit_call_form (names_of c) q) (λ kind. refl)
      (λ ho low high room span kind is.
      let cell = (calling_of q).cell in
      let N = call_cell q in
      let R = room_at cell N.0 ho low high (room_is _ _ ho low high N.1 room) in
      let does = call_does c.typed calls (own_activation c) q in
      unsplit_does c ok ho low high (part_meant does kind) span kind _ room.proper room.clear refl
      (λ u. part_flows c ok ho low high cell kind does (call_pure (calling_of q) kind u) R.0 R.1
      (λ a n e k sits s st at. let S = all_sit (parts_of c) _ n e k sits in h ho low high room (and_left _ _ is) (Some cell) refl u n a _ _ _ S.1.0 s st at)
      (λ a n e k. refl)))

  -- ---- places

  abbrev PlaceIs : Placed → Spot → Named → Bool → Type 0
  PlaceIs own spot names fits = (ho : Held) (low high : ℕ) → Room names ho low high → IsTrue fits → (u : Around) → Flows c ho low high own.parts own.first (NamesCell c own.cell) (spot_cell spot u)

  place_is : (p : TypedPlace) (own : Placed) (spot : Spot) (names : Named) (fits : Bool) → placed c.typed calls (own_activation c) p ≡ own → spot_of p ≡ spot → place_named p ≡ names → place_fits (names_of c) p ≡ fits → PlaceIs own spot names fits → PlaceDoes p
  place_is p own spot names fits e f g l h =
      subst (λ q. PlaceIs q (spot_of p) (place_named p) (place_fits (names_of c) p)) (sym e) (subst (λ q. PlaceIs own q (place_named p) (place_fits (names_of c) p)) (sym f)
      (subst (λ q. PlaceIs own spot q (place_fits (names_of c) p)) (sym g) (subst (PlaceIs own spot names) (sym l) h)))

  whole_at : (v : Variable) → PlaceDoes (roll-TypedPlace (record { variable = v; index = None }))
  whole_at v = place_is _ (placed_at (own_activation c) v None) _ _ (is_integer (names_of c) v) (whole_is c.typed calls (own_activation c) v) (Forms.made_whole v) (Forms.named_whole v) (Forms.fit_whole (names_of c) v)
      (λ ho low high room is u.
      let own = variable_owned c ok v (and_left _ _ (and_left _ _ is)) room.stands.below.0 in
      give_flows c ho low high (NamesCell c (placed_at (own_activation c) v None).cell) _ (whole_names c ok v ho [] is own))

  element_at : (v : Variable) (i : TypedExpr) → ValueDoes i → PlaceDoes (roll-TypedPlace (record { variable = v; index = Some i }))
  element_at v i h = place_is _ (placed_at (own_activation c) v (Some (meaning i))) _ _ (is_array (names_of c) v && (fit i).fits) (element_is c.typed calls (own_activation c) v i) (Forms.made_element v i) (Forms.named_element v i) (Forms.fit_element (names_of c) v i)
      (λ ho low high room is u.
      let both : IsTrue (is_array (names_of c) v && (fit i).fits) = is in
      let array : IsTrue (is_variable (names_of c) v && not (is_none v.length)) = and_left (is_array (names_of c) v) (fit i).fits both in
      let f = and_right (is_array (names_of c) v) (fit i).fits both in
      let m = meaning i in
      let own = variable_owned c ok v (and_left _ _ array) room.stands.below.0 in
      let inner : Room (named i) ho low high = record { proper = room.proper; clear = room.clear; stands = record { ascend = room.stands.ascend; below = room.stands.below.1 } } in
      let long = some_length v.length (and_right _ _ array) in
      map_flows c ho low high m.parts m.first (HasRest c m.kind m.rest) (NamesCell c (placed_at (own_activation c) v (Some m)).cell) ((value_of i).pure u) (λ o. record { place = element_of v o.value; reads = o.reads }) ((h ho low high inner f).pure u)
      (λ held news o g. element_names c ok v long.0 m held news o o.reads long.1 own (values_of_kind i f) g))
    where
      some_length : (o : Option ℕ) → IsTrue (not (is_none o)) → (n : ℕ) × (o ≡ Some n)
      some_length None t = absurd cc
      some_length (Some n) t = (n, refl)

  place_at : (x : TypedPlace-F TypedExprForm TypedCall TypedExpr TypedPlace) → IfSome x.index ValueDoes → PlaceDoes (roll-TypedPlace x)
  place_at x h = by x.variable x.index h
    where
      by : (v : Variable) (o : Option TypedExpr) → IfSome o ValueDoes → PlaceDoes (roll-TypedPlace (record { variable = v; index = o }))
      by v None h = whole_at v
      by v (Some i) h = element_at v i h

  place_given : (y : TypedPlace-F ((f : TypedExprForm) × FormDoes f) ((q : TypedCall) × CallDoes q) ((x : TypedExpr) × ValueDoes x) ((p : TypedPlace) × PlaceDoes p))
      → PlaceDoes (roll-TypedPlace (map-TypedPlace _ _ _ _ TypedExprForm TypedCall TypedExpr TypedPlace (λ q. q.0) (λ q. q.0) (λ q. q.0) (λ q. q.0) y))
  place_given y = place_at _ (index y.variable y.index)
    where
      index : (v : Variable) (o : Option ((x : TypedExpr) × ValueDoes x))
          → IfSome (map-TypedPlace ((f : TypedExprForm) × FormDoes f) ((q : TypedCall) × CallDoes q) ((x : TypedExpr) × ValueDoes x) ((p : TypedPlace) × PlaceDoes p) TypedExprForm TypedCall TypedExpr TypedPlace (λ q. q.0) (λ q. q.0) (λ q. q.0) (λ q. q.0) (record { variable = v; index = o })).index ValueDoes
      index v None = tt
      index v (Some q) = q.1

  -- ---- expressions

  expression_at : (x : TypedExpr-F TypedExprForm TypedCall TypedExpr TypedPlace) → FormDoes x.form → ValueDoes (roll-TypedExpr x)
  expression_at x h ho low high room fits =
      let all : IsTrue (is_kind x.kind && span_fits (names_of c) x.span && Forms.form_fits (names_of c) x.form x.kind) = subst (λ (q : Fit). IsTrue q.fits) (Forms.fit_expression (names_of c) x) fits in
      let m = meant_form c.typed calls (own_activation c) x.form x.kind in
      let H = h ho low high (room_is _ _ ho low high (Forms.named_expression x) room) x.span x.kind (and_right _ _ all) in
      let D : Does c ho low high m (record { span = x.span; kind = x.kind; pure = (shape_of x.form x.span x.kind).pure; cond = (shape_of x.form x.span x.kind).cond }) = record { kind = sym H.1; pure = H.0.pure; cond = H.0.cond } in
      subst (λ (v : Value). Does c ho low high (meaning (roll-TypedExpr x)) v) (sym (Forms.made_expression x))
      (subst (λ (q : Meant). Does c ho low high q (record { span = x.span; kind = x.kind; pure = (shape_of x.form x.span x.kind).pure; cond = (shape_of x.form x.span x.kind).cond })) (sym (expression_is c.typed calls (own_activation c) x)) D)

  all_values : {X : Type 0} (f : X → TypedExpr) → ((x : X) → ValueDoes (f x)) → (ys : List X) → AllByRecursion ValueDoes (map f ys)
  all_values f g [] = tt
  all_values f g (y ∷ ys) = (g y, all_values f g ys)

  pub value_does : (x : TypedExpr) → ValueDoes x
  value_does x = ind-TypedExpr FormDoes CallDoes ValueDoes PlaceDoes
      (λ x'. elim [
        | TypedExprForm-F.Constant v ↦ λ e. subst (λ z. FormDoes (roll-TypedExprForm z)) e (constant_at v)
        | TypedExprForm-F.Load p ↦ λ e. subst (λ z. FormDoes (roll-TypedExprForm z)) e (load_at p.0 p.1)
        | TypedExprForm-F.Convert y ↦ λ e. subst (λ z. FormDoes (roll-TypedExprForm z)) e (convert_at y.0 y.1)
        | TypedExprForm-F.Unary op y ↦ λ e. subst (λ z. FormDoes (roll-TypedExprForm z)) e (unary_at op y.0 y.1)
        | TypedExprForm-F.Binary op y z' ↦ λ e. subst (λ z. FormDoes (roll-TypedExprForm z)) e (binary_at op y.0 z'.0 y.1 z'.1)
        | TypedExprForm-F.Both y z' cell ↦ λ e. subst (λ z. FormDoes (roll-TypedExprForm z)) e (both_at y.0 z'.0 cell y.1 z'.1)
        | TypedExprForm-F.Either y z' cell ↦ λ e. subst (λ z. FormDoes (roll-TypedExprForm z)) e (either_at y.0 z'.0 cell y.1 z'.1)
        | TypedExprForm-F.Choice t y z' cell ↦ λ e. subst (λ z. FormDoes (roll-TypedExprForm z)) e (choice_at t.0 y.0 z'.0 cell t.1 y.1 z'.1)
        | TypedExprForm-F.Call q ↦ λ e. subst (λ z. FormDoes (roll-TypedExprForm z)) e (call_form_at q.0 q.1)
      ])
      (λ x' y e. subst (λ z. CallDoes (roll-TypedCall z)) e (call_at (record { callee = y.callee; words = map (λ q. q.0) y.words; arrays = y.arrays; cell = y.cell }) (all_values (λ q. q.0) (λ q. q.1) y.words)))
      (λ x' y e. subst (λ z. ValueDoes (roll-TypedExpr z)) e (expression_at (record { span = y.span; kind = y.kind; form = y.form.0 }) y.form.1))
      (λ x' y e. subst (λ z. PlaceDoes (roll-TypedPlace z)) e (place_given y)) x

  pub place_does : (p : TypedPlace) → PlaceDoes p
  place_does p = ind-TypedPlace (λ (f : TypedExprForm). Unit {0}) (λ (q : TypedCall). Unit {0}) (λ (x : TypedExpr). Unit {0}) PlaceDoes (λ x y e. tt) (λ x y e. tt) (λ x y e. tt) (λ x y e. place_at x (index x.index)) p
    where
      index : (o : Option TypedExpr) → IfSome o ValueDoes
      index None = tt
      index (Some x) = value_does x

  pub does_call : (q : TypedCall) → CallDoes q
  does_call q = ind-TypedCall (λ (f : TypedExprForm). Unit {0}) CallDoes (λ (x : TypedExpr). Unit {0}) (λ (p : TypedPlace). Unit {0}) (λ x y e. tt) (λ x y e. call_at x (words x.words)) (λ x y e. tt) (λ x y e. tt) q
    where
      words : (xs : List TypedExpr) → AllByRecursion ValueDoes xs
      words [] = tt
      words (x ∷ xs) = (value_does x, words xs)

pub expressions_do : ExpressionsDo
expressions_do c calls ho low high x ok works proper clear ascend below fits = value_does c ok calls works x ho low high (record { proper = proper; clear = clear; stands = record { ascend = ascend; below = below } }) fits
