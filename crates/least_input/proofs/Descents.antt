-- How one more bit is set.
use Rattle.std.proofs.Common.{◌≡◌, ℕ, zero, suc, ◌+◌, ◌*◌, ◌<◌, ◌≤◌, ◌^◌, Bool, true, false, List, [], ◌∷◌, ◌++◌, length, map, take, refl, sym, ap, subst, ◌∙◌, arith, append_assoc, append-nil, to_z, of_z, w32}
use Rattle.std.specs.Prelude.{ℤ, negsuc, neg_ℤ}
use Rattle.std.specs.List.{list_all}
use Rattle.std.proofs.lemmas.Bool.{lt-ltb}
use Rattle.std.proofs.lemmas.Int.{to_z-of_z, to_z_pos}
use Rattle.std.proofs.lemmas.List.{length-map, length-take-le, map-append, take_at}
use Rattle.std.proofs.lemmas.List.Elements.{All-nil, All-push}
use Rattle.certificate.specs.Certificates.{IsPair}
use Rattle.cnf.specs.Clauses.{IsLiteral}
use Rattle.cnf.specs.Formulas.{Satisfies, is_true_literal}
use Rattle.cnf.specs.declared.derivation.Derivation.{Derivation}
use Rattle.cnf.specs.declared.formula.Formula.{Formula}
use Rattle.goal_formula_laws.proofs.formula_laws.Units.{units_hold, units_keep}
use Rattle.goal_formula_laws.specs.formula_laws.Units.{unit_clauses, with_units}
use Rattle.goal_formula.specs.Bits.{assignment}
use Rattle.search.specs.Laws.{IsFormula, is_over}
use Rattle.search.specs.Nexts.{IsModel, IsRefutation}
use Rattle.search.specs.declared.moves.History.{History}
use Rattle.suite.specs.Made.{IsSpent}
use Rattle.least_input.specs.Fixing.{AreRefuted, IsRefuted, literal_of, parts_of, variable_of}
use Rattle.least_input.specs.Parts.{Adds, HasUnits, IsDescent, IsLowest, IsStuck, set_as}
use Rattle.least_input.specs.declared.descent.Descent.{Descent}
use Rattle.least_input.specs.declared.least.Fixed.{Fixed}
use Rattle.least_input.proofs.Settings.{join_true, parts_one, parts_zero, set_by_true, set_true}

-- ---- literals

-- a literal of a variable is over as many variables
over_of : (n v : ℕ) (b : Bool) → 0 < v → v ≤ n → is_over n (literal_of b v) ≡ true
over_of n zero b some le = absurd (omega (arith, some))
over_of n (suc v) true some le = join_true _ _ (lt-ltb 1 (2 * suc v) (omega arith)) (lt-ltb (2 * suc v) (2 * n + 2) (omega (arith, le)))
over_of n (suc v) false some le = join_true _ _ (lt-ltb 1 (2 * v + 3) (omega arith)) (lt-ltb (2 * v + 3) (2 * n + 2) (omega (arith, le)))

variable_is : (b : Bool) (v : ℕ) → 0 < v → variable_of (literal_of b v) ≡ v
variable_is true v some = refl
variable_is false zero some = absurd (omega (arith, some))
variable_is false (suc v) some = omega arith

pub literal_is : (b : Bool) (v : ℕ) → 0 < v → v < 2 ^ 31 → IsLiteral (literal_of b v)
literal_is true zero some few = absurd (omega (arith, some))
literal_is true (suc v) some few = (omega arith, omega (arith, few))
literal_is false zero some few = absurd (omega (arith, some))
literal_is false (suc v) some few = (omega arith, omega (arith, few))

-- ---- as 32 bits

pub one_is : (v : ℕ) → v < 2 ^ 31 → to_z w32 v ≡ literal_of true v
one_is v few = to_z_pos w32 v few

pub zero_is : (v : ℕ) (z : ℤ) → 0 < v → v < 2 ^ 31 → z ≡ neg_ℤ (to_z w32 v) → to_z w32 (of_z w32 z) ≡ literal_of false v
zero_is v z some few e = ap (λ x. to_z w32 (of_z w32 x)) is ∙ own v some few
  where
    is : z ≡ literal_of false v
    is = e ∙ ap neg_ℤ (one_is v few)

    own : (n : ℕ) → 0 < n → n < 2 ^ 31 → to_z w32 (of_z w32 (literal_of false n)) ≡ literal_of false n
    own zero lt small = absurd (omega (arith, lt))
    own (suc n) lt small = to_z-of_z w32 (negsuc n) (record { sfits = omega (arith, small) })

-- ---- units

with_more : (base : Formula) (units : List ℤ) (x : ℤ) → with_units (with_units base units) (x ∷ []) ≡ with_units base (units ++ x ∷ [])
with_more base units x =
    let e : (base.clauses ++ unit_clauses units) ++ unit_clauses (x ∷ []) ≡ base.clauses ++ unit_clauses (units ++ x ∷ []) =
    append_assoc base.clauses (unit_clauses units) (unit_clauses (x ∷ [])) ∙ ap (λ cs. base.clauses ++ cs) (sym (map-append (λ (y : ℤ). y ∷ []) units (x ∷ []))) in
    λ i. record base { clauses = e i }

pub with_none : (base : Formula) → base ≡ with_units base []
with_none base = let e = sym (append-nil base.clauses) in λ i. record base { clauses = e i }

abbrev Drops : {A : Type 0} → List A → List A → Type 0
Drops {A} old new = (front : List A) (last : A) → old ≡ front ++ last ∷ [] → new ≡ front

-- without the last unit clause
pub unit_dropped : (before old : Descent) (literal : ℤ) (clauses : List (List ℤ)) (units : List ℤ) → Adds before literal old → Drops old.formula.clauses clauses → Drops old.units units
    → ◌≡◌ {A = Descent} (record old { formula = record old.formula { clauses = clauses }; units = units }) before
unit_dropped before old literal clauses units a drop_clause drop_literal =
    let front = drop_clause before.formula.clauses (literal ∷ []) (ap (λ (q : Formula). q.clauses) a.formula) in
    let left = drop_literal before.units literal a.units in
    let variables = ap (λ (q : Formula). q.variables) a.formula in
    λ i. record { formula = record { variables = variables i; clauses = front i }; units = left i; model = a.model i; fixed = a.fixed i }

module _ (base : Formula) (budget : ℕ) (vs : List ℕ) (d : Descent) (v : ℕ) (some : 0 < v) where
  abbrev More : List ℕ
  More = vs ++ v ∷ []

  has_more : (b : Bool) (after : Descent) → HasUnits base vs d → v ≤ d.formula.variables → Adds d (literal_of b v) after → HasUnits base More after
  has_more b after h there a =
      let x = literal_of b v in
      let n = d.formula.variables in
      let one : list_all (is_over n) (x ∷ []) ≡ true = join_true (is_over n x) true (over_of n v b some there) refl in
      record {
        formula = a.formula ∙ ap (λ q. with_units q (x ∷ [])) h.formula ∙ with_more base d.units x ∙ ap (with_units base) (sym a.units);
        set = ap (map variable_of) a.units ∙ map-append variable_of d.units (x ∷ []) ∙ (λ i. h.set i ++ variable_is b v some i ∷ []);
        over = subst IsFormula (sym a.formula) ((units_keep (is_over n) d.formula (x ∷ [])).1 (h.over, one));
      }

  model_more : (b : Bool) (after : Descent) → IsModel d.formula d.model → assignment d.model v ≡ b → Adds d (literal_of b v) after → IsModel after.formula after.model
  model_more b after m e a =
      let x = literal_of b v in
      let value = assignment d.model in
      let holds : list_all (is_true_literal value) (x ∷ []) ≡ true = join_true (is_true_literal value x) true (set_true value b v some e) refl in
      let model : IsModel (with_units d.formula (x ∷ [])) d.model = (m.0, (units_hold value d.formula (x ∷ [])).1 (m.1, holds)) in
      subst (λ q. IsModel q after.model) (sym a.formula) (subst (IsModel (with_units d.formula (x ∷ []))) (sym a.model) model)

  parts_as_zero : (after : Descent) → map (λ (part : Fixed). part.units) d.fixed ≡ parts_of d.units → Adds d (literal_of false v) after → map (λ (part : Fixed). part.units) after.fixed ≡ parts_of after.units
  parts_as_zero after h a = ap (map (λ (part : Fixed). part.units)) a.fixed ∙ h ∙ sym (same v some) ∙ ap parts_of (sym a.units)
    where
      same : (n : ℕ) → 0 < n → parts_of (d.units ++ literal_of false n ∷ []) ≡ parts_of d.units
      same zero lt = absurd (omega (arith, lt))
      same (suc n) lt = parts_zero d.units n

  -- set to 0, with a model of all that
  pub zero_found : (after : Descent) (model : List Bool) → IsDescent base budget vs d → v ≤ d.formula.variables → Adds d (literal_of false v) after → IsModel after.formula model → IsDescent base budget More (record after { model = model })
  zero_found after model h there a m =
      let has = has_more false after h.has there a in
      record {
        has = record { formula = has.formula; set = has.set; over = has.over };
        model = m;
        parts = parts_as_zero after h.parts a;
        refuted = subst (AreRefuted base budget) (sym a.fixed) h.refuted;
      }

  -- set to 0 where the model has 0
  pub zero_kept : (after : Descent) → IsDescent base budget vs d → v ≤ d.formula.variables → Adds d (literal_of false v) after → assignment d.model v ≡ false → IsDescent base budget More after
  zero_kept after h there a e = zero_found after after.model h there a (model_more false after h.model e a)

  -- a search spent its budget
  pub zero_open : (after : Descent) → IsDescent base budget vs d → v ≤ d.formula.variables → Adds d (literal_of false v) after → HasUnits base More after
  zero_open after h there a = has_more false after h.has there a

  -- set to 1, which can't be 0
  pub one_fixed : (unset last : Descent) (derivation : Derivation) (fixed : List Fixed) → IsDescent base budget vs d → v ≤ d.formula.variables → assignment d.model v ≡ true → Adds d (literal_of false v) unset
      → IsRefutation unset.formula budget derivation → IsPair unset.formula derivation → fixed ≡ d.fixed ++ record { units = unset.units; derivation = derivation } ∷ []
      → Adds (record d { fixed = fixed }) (literal_of true v) last → IsDescent base budget More last
  one_fixed unset last derivation fixed h there e a refutes pair more b =
      let own : Adds d (literal_of true v) (record last { fixed = d.fixed }) = record { formula = b.formula; units = b.units; model = b.model; fixed = refl } in
      let has = has_more true (record last { fixed = d.fixed }) h.has there own in
      let low = has_more false unset h.has there a in
      let part : Fixed = record { units = unset.units; derivation = derivation } in
      let refuted : IsRefuted base budget part = (subst (λ q. IsRefutation q budget derivation) low.formula refutes, subst (λ q. IsPair q derivation) low.formula pair) in
      let all : AreRefuted base budget (d.fixed ++ part ∷ []) = All-push (IsRefuted base budget) d.fixed part h.refuted refuted in
      record {
        has = record { formula = has.formula; set = has.set; over = has.over };
        model = model_more true (record last { fixed = d.fixed }) h.model e own;
        parts = ap (map (λ (x : Fixed). x.units)) (b.fixed ∙ more) ∙ map-append (λ (x : Fixed). x.units) d.fixed (part ∷ [])
            ∙ (λ i. h.parts i ++ a.units i ∷ []) ∙ sym (same v some) ∙ ap parts_of (sym b.units);
        refuted = subst (AreRefuted base budget) (sym (b.fixed ∙ more)) all;
      }
    where
      same : (n : ℕ) → 0 < n → parts_of (d.units ++ literal_of true n ∷ []) ≡ parts_of d.units ++ (d.units ++ literal_of false n ∷ []) ∷ []
      same zero lt = absurd (omega (arith, lt))
      same (suc n) lt = parts_one d.units n

-- ---- the beginning and the end

pub begun : (base : Formula) (budget : ℕ) (d : Descent) → d.formula ≡ base → d.units ≡ [] → d.fixed ≡ [] → IsFormula base → IsModel base d.model → IsDescent base budget [] d
begun base budget d formula units fixed over model = record {
  has = record {
    formula = formula ∙ with_none base ∙ ap (with_units base) (sym units);
    set = ap (map variable_of) units;
    over = subst IsFormula (sym formula) over;
  };
  model = subst (λ q. IsModel q d.model) (sym formula) model;
  parts = ap (map (λ (x : Fixed). x.units)) fixed ∙ ap parts_of (sym units);
  refuted = subst (AreRefuted base budget) (sym fixed) (All-nil (IsRefuted base budget));
}

pub ended : (base : Formula) (budget : ℕ) (vs : List ℕ) (d : Descent) → IsDescent base budget vs d → IsLowest base budget vs d.model d.fixed
ended base budget vs d h =
    let value = assignment d.model in
    let sat : Satisfies value (with_units base d.units) = subst (Satisfies value) h.has.formula h.model.1 in
    let both = (units_hold value base d.units).0 sat in
    let units : d.units ≡ set_as value vs = set_by_true value d.units both.1 ∙ ap (set_as value) h.has.set in
    let count : d.formula.variables ≡ base.variables = ap (λ (q : Formula). q.variables) h.has.formula in
    record { model_is = (h.model.0 ∙ count, both.0); parts = h.parts ∙ ap parts_of units; refuted = h.refuted }

-- a search spent its budget when so many of the variables were set
pub stuck : (base : Formula) (budget : ℕ) (vs : List ℕ) (d : Descent) (history : History) (n : ℕ) → n ≤ length vs → HasUnits base (take n vs) d → IsSpent d.formula budget history → IsStuck base budget vs d.formula history
stuck base budget vs d history n le h spent =
    let long : length d.units ≡ n = sym (length-map d.units variable_of) ∙ ap length h.set ∙ length-take-le n vs le in
    record { units = d.units; on_first = h.set ∙ ap (λ k. take k vs) (sym long); formula_is = h.formula; over = h.over; spent = spent }

-- the units are cut off again
pub cut_back : (base q : Formula) (units : List ℤ) (n : ℕ) → q ≡ with_units base units → n ≡ length base.clauses → ◌≡◌ {A = Formula} (record q { clauses = take n q.clauses }) base
cut_back base q units n e long =
    let front : take n (base.clauses ++ unit_clauses units) ≡ base.clauses = take_at base.clauses (unit_clauses units) n (sym long) in
    ap (λ (x : Formula). record x { clauses = take n x.clauses }) e ∙ (λ i. record base { clauses = front i })
