-- What expressions of the automaton come to, and the cells of variables.
use Rattle.std.proofs.Common.{◌≡◌, ℕ, zero, suc, ◌+◌, ◌^◌, ◌<◌, ◌≤◌, Bool, true, false, List, [], ◌∷◌, ◌++◌, drop, length, Option, Some, None, Result, Ok, Err, refl, sym, ap, subst, ◌∙◌, arith, rules, pos, inl, inr, append_assoc}
use Rattle.std.specs.Prelude.{IsTrue, not, if◌then◌else◌, slice_index, slice_get}
use Rattle.std.specs.Option.{is_none}
use Rattle.std.proofs.lemmas.Bool.{eqb-true, leb-true}
use Rattle.c_values.specs.Kind.{wrapped, converted, IsValue}
use Rattle.c_values.specs.Operations.{unary_value, unary_kind, binary_kind}
use Rattle.c_values.specs.declared.kinds.Kind.{Kind}
use Rattle.c_values.specs.declared.operators.BinaryOp.{BinaryOp}
use Rattle.c_values.specs.declared.operators.UnaryOp.{UnaryOp}
use Rattle.c_values.proofs.Fitting.{and_left, and_right}
use Rattle.cfa.specs.declared.expr.ArrayPlace.{ArrayPlace}
use Rattle.cfa.specs.declared.expr.CellPlace.{CellPlace, the_lemmas as place_lemmas}
use Rattle.cfa.specs.declared.expr.CellPlace.TheVariants as place
use Rattle.cfa.specs.declared.expr.Expr.{Expr}
use Rattle.cfa.specs.declared.expr.Expr.TheVariants as expr
use Rattle.cfa.specs.declared.parts.Variable.{Variable}
use Rattle.cfa.specs.declared.parts.VariablePlace.{VariablePlace}
use Rattle.cfa.specs.declared.parts.VariablePlace.TheVariants as variable
use Rattle.cfa.specs.declared.state.Frame.{Frame}
use Rattle.cfa.specs.declared.state.Trap.{Trap}
use Rattle.cfa.specs.declared.state.Trap.TheVariants as trap
use Rattle.cfa.specs.Graph.{variable_fits}
use Rattle.cfa.specs.Rules.{cell_count, is_length}
use Rattle.cfa.specs.Values.{valued, value_of, cell_of, after_value, operator_outcome, is_index, array_start, element_at as element_of_array}
use Rattle.cfa.proofs.Indexes.{indexes_of_elements}
use Rattle.c_typed_trees.specs.Fitting.{is_variable, is_integer, is_lent}
use Rattle.c_lower_rules.specs.declared.graph_of.parts.Operand.{Operand}
use Rattle.c_lower_rules.specs.declared.graph_of.parts.Target.{Target}
use Rattle.c_lower_rules.specs.graph_of.Expressions.{array_of, cell_of as graph_cell, length_of as graph_length, element_of, temporary}
use Rattle.tree_meaning_laws.specs.temporaries_apart.Named.{IsBelow, PlaceBelow}
use Rattle.tree_meaning.specs.Activations.{start_of, length_of, element_at, as_kind, read}
use Rattle.tree_meaning.specs.Expressions.{Rest, Meant, Placed, placed_at, load_meant, convert_meant, unary_meant, binary_meant}
use Rattle.tree_meaning_laws.specs.expression_laws.Contexts.{Context, IsContext, Held, Agree, names_of, own_frame, own_activation}
use Rattle.tree_meaning_laws.specs.expression_laws.Flows.{HasRest, NamesCell}
use Rattle.tree_meaning_laws.proofs.expression_laws.Cells.{Drops, agree_less}

-- ---- expressions of the automaton

module _ (ys : List ℕ) (frame : Frame) where
  pub constant_value : (n : ℕ) (kind : Kind) → valued ys frame (expr.Constant n kind) ≡ record { kind = kind; value = Ok n }
  unfolding valued
  constant_value n kind = search (rules, place_lemmas)

  pub load_value : (p : CellPlace) (kind : Kind) → valued ys frame (expr.Load p kind) ≡ record { kind = kind; value = after_value (cell_of ys frame p) (λ cell. Ok (wrapped kind (pos (slice_index ys cell)))) }
  unfolding valued cell_of
  load_value p kind = search (rules, place_lemmas)

  pub convert_value : (a : Expr) (kind : Kind) → valued ys frame (expr.Convert a kind) ≡ record { kind = kind; value = after_value (value_of ys frame a) (λ n. Ok (converted (valued ys frame a).kind kind n)) }
  unfolding valued
  convert_value a kind = search (rules, place_lemmas)

  pub unary_is : (op : UnaryOp) (a : Expr) (kind : Kind) → valued ys frame (expr.Unary op a kind) ≡ record { kind = unary_kind op kind; value = after_value (value_of ys frame a) (λ n. Ok (unary_value op kind n)) }
  unfolding valued
  unary_is op a kind = search (rules, place_lemmas)

  pub binary_is : (op : BinaryOp) (a b : Expr) (kind : Kind) → valued ys frame (expr.Binary op a b kind) ≡ record { kind = binary_kind op kind; value = after_value (value_of ys frame a) (λ n. after_value (value_of ys frame b) (λ m. operator_outcome ys frame op kind (valued ys frame b).kind n m)) }
  unfolding valued
  binary_is op a b kind = search (rules, place_lemmas)

  pub global_cell : (cell : ℕ) → cell_of ys frame (place.Global cell) ≡ Ok cell
  unfolding cell_of
  global_cell cell = search (rules, place_lemmas)

  pub local_cell : (cell : ℕ) → cell_of ys frame (place.Local cell) ≡ Ok (frame.base + cell)
  unfolding cell_of
  local_cell cell = search (rules, place_lemmas)

  pub element_cell : (a : ArrayPlace) (index : Expr) (m : ℕ) → cell_of ys frame (place.Element a index m) ≡ after_value (value_of ys frame index) (λ v. element_of_array ys frame a m (valued ys frame index).kind v)
  unfolding cell_of valued
  element_cell a index m = search (rules, place_lemmas)

some_value : (e n : ℕ) → (let r : Result ℕ Trap = Ok e in r) ≡ Ok n → e ≡ n
some_value e n h = cc

-- ---- variables

-- each cell of a variable is no temporary
abbrev pub Owned : Context → Variable → Type 0
Owned c v = (i : ℕ) → i < cell_count v.length → IsTrue (c.keeps (start_of (own_activation c) v.place + i))

module _ (c : Context) (ok : IsContext c) where
  place_owned : (length : Option ℕ) (p : VariablePlace) → IsTrue (variable_fits (names_of c).room length p) → PlaceBelow c.locals length p → (i : ℕ) → i < cell_count length → IsTrue (c.keeps (start_of (own_activation c) p + i))
  place_owned length (variable.Global first) h b i less =
      let all = leb-true (first + cell_count length) (names_of c).room.globals h in
      ok.kept (first + i) (inl (omega (arith, all, less)))
  place_owned length (variable.Local first) h b i less =
      ok.kept ((own_frame c).base + first + i) (inr (inl (first + i, omega (arith, b, less), omega arith)))
  place_owned None (variable.Lent p) h b i less = absurd cc
  place_owned (Some n) (variable.Lent p) h b i less = ok.kept (slice_index (own_frame c).arrays p + i) (inr (inr (p, n, i, is_there (slice_get (names_of c).room.arrays p) h, less, refl)))
    where
      is_there : (o : Option ℕ) → IsTrue (is_length o n) → o ≡ Some n
      is_there None h = absurd cc
      is_there (Some m) h = ap Some (eqb-true m n h)

  pub variable_owned : (v : Variable) → IsTrue (is_variable (names_of c) v) → IsBelow c.locals v → Owned c v
  variable_owned v h below = place_owned v.length v.place (and_right _ _ h) below

  -- an array is no longer than there are cells
  pub array_small : (v : Variable) (n : ℕ) → v.length ≡ Some n → Owned c v → n ≤ 2 ^ 63
  array_small v n e own = by n refl
    where
      by : (m : ℕ) → n ≡ m → n ≤ 2 ^ 63
      by zero is = omega (arith, is)
      by (suc m) is =
          let count : cell_count v.length ≡ n = ap cell_count e in
          let last = ok.within _ (own m (omega (arith, is, count))) in
          omega (arith, last, ok.small, ok.most_frames, is)

  pub start_is : (ys : List ℕ) (p : VariablePlace) → array_start ys (own_frame c) (array_of p) ≡ start_of (own_activation c) p
  start_is ys (variable.Global first) = refl
  start_is ys (variable.Local first) = refl
  start_is ys (variable.Lent p) = refl

  pub length_is : (o : Option ℕ) → graph_length o ≡ length_of o
  length_is None = refl
  length_is (Some n) = refl

  -- ---- operands and targets

  pub has_less : (kind : Kind) (rest : Rest) (held held' : Held) (news more' : List ℕ) (o : Operand) → Drops held' held → HasRest c kind rest held news o → (more xs ys : List ℕ) → Agree c.keeps held' xs ys → value_of ys (own_frame c) o.value ≡ rest ((news ++ more') ++ more) xs
  has_less kind rest held held' news more' o d h more xs ys agree = h.value (more' ++ more) xs ys (agree_less c.keeps held' held xs ys d agree) ∙ ap (λ (ns : List ℕ). rest ns xs) (sym (append_assoc news more' more))

  pub convert_has : (x : Meant) (kind : Kind) (held : Held) (news : List ℕ) (o : Operand) → HasRest c x.kind x.rest held news o → HasRest c kind (convert_meant x kind).rest held news (record { value = expr.Convert o.value kind; reads = o.reads })
  convert_has x kind held news o m = record {
    value = λ more xs ys agree. ap (λ q. q.value) (convert_value ys (own_frame c) o.value kind) ∙ ap (λ r. after_value r (λ n. Ok (converted (valued ys (own_frame c) o.value).kind kind n))) (m.value more xs ys agree)
        ∙ ap (λ k. after_value (x.rest (news ++ more) xs) (λ n. Ok (converted k kind n))) (m.kinds ys);
    kinds = λ ys. ap (λ q. q.kind) (convert_value ys (own_frame c) o.value kind);
  }

  pub unary_has : (op : UnaryOp) (x : Meant) (own kind : Kind) (held : Held) (news : List ℕ) (o : Operand) → own ≡ x.kind → kind ≡ unary_kind op x.kind → HasRest c x.kind x.rest held news o
      → HasRest c kind (unary_meant op x kind).rest held news (record { value = expr.Unary op o.value own; reads = o.reads })
  unary_has op x own kind held news o is e m = record {
    value = λ more xs ys agree. ap (λ q. q.value) (unary_is ys (own_frame c) op o.value own) ∙ ap (λ r. after_value r (λ n. Ok (unary_value op own n))) (m.value more xs ys agree)
        ∙ ap (λ k. after_value (x.rest (news ++ more) xs) (λ n. Ok (unary_value op k n))) is;
    kinds = λ ys. ap (λ q. q.kind) (unary_is ys (own_frame c) op o.value own) ∙ ap (unary_kind op) is ∙ sym e;
  }

  -- the values behind those of the first part
  pub drop_front : (xs ys : List ℕ) (n : ℕ) → length xs ≡ n → drop n (xs ++ ys) ≡ ys
  drop_front [] ys zero e = refl
  drop_front [] ys (suc n) e = absurd (omega (arith, e))
  drop_front (x ∷ xs) ys zero e = absurd (omega (arith, e))
  drop_front (x ∷ xs) ys (suc n) e = drop_front xs ys n (omega (arith, e))

  pub binary_has : (op : BinaryOp) (x y : Meant) (own kind : Kind) (held held' : Held) (news news' : List ℕ) (o p : Operand) (reads : _) → own ≡ x.kind → kind ≡ binary_kind op x.kind → Drops held' held → length news ≡ x.parts
      → HasRest c x.kind x.rest held news o → HasRest c y.kind y.rest held' news' p
      → HasRest c kind (binary_meant op x y kind).rest held' (news ++ news') (record { value = expr.Binary op o.value p.value own; reads = reads })
  binary_has op x y own kind held held' news news' o p reads is e d long mo mp = record {
    value = λ more xs ys agree.
        let frame = own_frame c in
        let vs = (news ++ news') ++ more in
        let behind : news' ++ more ≡ drop x.parts vs = sym (ap (drop x.parts) (append_assoc news news' more) ∙ drop_front news (news' ++ more) x.parts long) in
        ap (λ q. q.value) (binary_is ys frame op o.value p.value own)
        ∙ ap (λ r. after_value r (λ a. after_value (value_of ys frame p.value) (λ b. operator_outcome ys frame op own (valued ys frame p.value).kind a b))) (has_less x.kind x.rest held held' news news' o d mo more xs ys agree)
        ∙ ap (λ r. after_value (x.rest vs xs) (λ a. after_value r (λ b. operator_outcome ys frame op own (valued ys frame p.value).kind a b))) (mp.value more xs ys agree ∙ ap (λ (ns : List ℕ). y.rest ns xs) behind)
        ∙ ap (λ k. after_value (x.rest vs xs) (λ a. after_value (y.rest (drop x.parts vs) xs) (λ b. operator_outcome ys frame op own k a b))) (mp.kinds ys)
        ∙ ap (λ k. after_value (x.rest vs xs) (λ a. after_value (y.rest (drop x.parts vs) xs) (λ b. operator_outcome ys frame op k y.kind a b))) is;
    kinds = λ ys. ap (λ q. q.kind) (binary_is ys (own_frame c) op o.value p.value own) ∙ ap (binary_kind op) is ∙ sym e;
  }

  pub load_has : (p : Placed) (kind : Kind) (held : Held) (news : List ℕ) (t : Target) (reads : _) → NamesCell c p.cell held news t → HasRest c kind (load_meant p kind).rest held news (record { value = expr.Load t.place kind; reads = reads })
  load_has p kind held news t reads m = record {
    value = λ more xs ys agree. ap (λ q. q.value) (load_value ys (own_frame c) t.place kind) ∙ loaded xs ys (p.cell (news ++ more) xs) agree (m.cell more xs ys agree) (m.kept more xs);
    kinds = λ ys. ap (λ q. q.kind) (load_value ys (own_frame c) t.place kind);
  }
    where
      loaded : (xs ys : List ℕ) (r : Result ℕ Trap) → Agree c.keeps held xs ys → cell_of ys (own_frame c) t.place ≡ r → ((cell : ℕ) → r ≡ Ok cell → IsTrue (c.keeps cell))
          → after_value (cell_of ys (own_frame c) t.place) (λ cell. Ok (wrapped kind (pos (slice_index ys cell)))) ≡ after_value r (λ cell. Ok (read xs kind cell))
      loaded xs ys (Err t') agree e k = ap (λ r. after_value r (λ cell. Ok (wrapped kind (pos (slice_index ys cell))))) e
      loaded xs ys (Ok cell) agree e k = ap (λ r. after_value r (λ cell. Ok (wrapped kind (pos (slice_index ys cell))))) e ∙ ap (λ w. Ok (wrapped kind (pos w))) (sym (agree.same cell (k cell refl)))

  -- a temporary has the value that it holds
  pub temporary_has : (cell v : ℕ) (kind : Kind) (ho held : Held) (reads : _) → held ((own_frame c).base + cell) ≡ Some v → HasRest c kind (λ vs cells. Ok (as_kind kind (slice_index vs 0))) held (v ∷ []) (record { value = temporary cell kind; reads = reads })
  temporary_has cell v kind ho held reads is = record {
    value = λ more xs ys agree. ap (λ q. q.value) (load_value ys (own_frame c) (place.Local cell) kind) ∙ ap (λ r. after_value r (λ cell. Ok (wrapped kind (pos (slice_index ys cell))))) (local_cell ys (own_frame c) cell)
        ∙ ap (λ w. Ok (wrapped kind (pos w))) (agree.holds ((own_frame c).base + cell) v is);
    kinds = λ ys. ap (λ q. q.kind) (load_value ys (own_frame c) (place.Local cell) kind);
  }

  -- an integer's cell
  pub whole_names : (v : Variable) (held : Held) (reads : _) → IsTrue (is_integer (names_of c) v) → Owned c v → NamesCell c (placed_at (own_activation c) v None).cell held [] (record { place = graph_cell v.place; reads = reads })
  whole_names v held reads fits own = record {
    cell = λ more xs ys agree. by v.place (and_right _ _ fits) ys;
    kept = λ more xs cell e. let same = some_value (start_of (own_activation c) v.place) cell e in
        subst (λ i. IsTrue (c.keeps i)) (let sum : start_of (own_activation c) v.place + 0 ≡ cell = omega (arith, same) in sum) (own 0 (one v.length (and_right _ _ (and_left _ _ fits))));
  }
    where
      by : (p : VariablePlace) → IsTrue (not (is_lent p)) → (ys : List ℕ) → cell_of ys (own_frame c) (graph_cell p) ≡ Ok (start_of (own_activation c) p)
      by (variable.Global first) h ys = global_cell ys (own_frame c) first
      by (variable.Local first) h ys = local_cell ys (own_frame c) first
      by (variable.Lent p) h ys = absurd cc

      one : (o : Option ℕ) → IsTrue (is_none o) → 0 < cell_count o
      one None h = omega arith
      one (Some n) h = absurd cc

  -- an element's cell
  pub element_names : (v : Variable) (n : ℕ) (index : Meant) (held : Held) (news : List ℕ) (o : Operand) (reads : _) → v.length ≡ Some n → Owned c v
      → ((vs cells : List ℕ) (i : ℕ) → index.rest vs cells ≡ Ok i → IsValue index.kind i) → HasRest c index.kind index.rest held news o
      → NamesCell c (placed_at (own_activation c) v (Some index)).cell held news (record { place = element_of v o.value; reads = reads })
  element_names v n index held news o reads e own values m = record {
    cell = λ more xs ys agree.
        let frame = own_frame c in
        element_cell ys frame (array_of v.place) o.value (graph_length v.length)
        ∙ ap (λ r. after_value r (λ i. element_of_array ys frame (array_of v.place) (graph_length v.length) (valued ys frame o.value).kind i)) (m.value more xs ys agree)
        ∙ ap (λ k. after_value (index.rest (news ++ more) xs) (λ i. element_of_array ys frame (array_of v.place) (graph_length v.length) k i)) (m.kinds ys)
        ∙ ap (λ l. after_value (index.rest (news ++ more) xs) (λ i. element_of_array ys frame (array_of v.place) l index.kind i)) (length_is v.length)
        ∙ ap (λ a. after_value (index.rest (news ++ more) xs) (λ i. if is_index (length_of v.length) index.kind i then Ok (a + i) else Err trap.Index)) (start_is ys v.place);
    kept = λ more xs cell is. reached (index.rest (news ++ more) xs) (values (news ++ more) xs) cell is;
  }
    where
      named : (i cell : ℕ) (b : Bool) → is_index (length_of v.length) index.kind i ≡ b → IsValue index.kind i → (let r : Result ℕ Trap = if b then Ok (start_of (own_activation c) v.place + i) else Err trap.Index in r) ≡ Ok cell → IsTrue (c.keeps cell)
      named i cell true t value is =
          let same = some_value (start_of (own_activation c) v.place + i) cell is in
          let long : length_of v.length ≡ n = ap length_of e in
          let count : cell_count v.length ≡ n = ap cell_count e in
          let t' : IsTrue (is_index n index.kind i) = ap (λ l. is_index l index.kind i) (sym long) ∙ t in
          let less = (indexes_of_elements n i index.kind (array_small v n e own) value).0 t' in
          subst (λ j. IsTrue (c.keeps j)) same (own i (omega (arith, less, count)))
      named i cell false t value is = absurd cc

      reached : (r : Result ℕ Trap) → ((i : ℕ) → r ≡ Ok i → IsValue index.kind i) → (cell : ℕ) → after_value r (λ i. element_at (own_activation c) v index.kind i) ≡ Ok cell → IsTrue (c.keeps cell)
      reached (Ok i) value cell is = named i cell (is_index (length_of v.length) index.kind i) refl (value i refl) is
      reached (Err t) value cell is = absurd cc
