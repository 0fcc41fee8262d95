-- The first number of each name, one function at a time.
use Rattle.std.proofs.Common.{◌≡◌, ℕ, ◌+◌, ◌≤◌, Bool, true, false, cond, List, [], ◌∷◌, ◌++◌, Option, Some, None, length, refl, sym, ap, subst, ◌∙◌, ⊎_elim, arith, nat_cmp, length-append}
use Rattle.std.specs.Prelude.{Vec, ◌==◌, nat_lt, not}
use Rattle.std.specs.declared.alloc.Global.{Global}
use Rattle.std.specs.BTreeMap.{BTreeMap, UpdatesBy}
use Rattle.std.specs.Cmp.{eq_by_cmp_equiv}
use Rattle.std.specs.Cmp.Lexicographic.{slice_cmp, bytes_decides, nat_list_cmp_total, nat_list_eq_equiv}
use Rattle.std.specs.List.{position_or_len}
use Rattle.std.specs.Map.{KeepsOthers}
use Rattle.std.specs.Option.{is_some}
use Rattle.std.specs.Ordering.{is_eq}
use Rattle.std.specs.Str.{bytes_eq}
use Rattle.std.proofs.lemmas.Bool.{cases_Bool, cond-true, cond-false}
use Rattle.std.proofs.lemmas.Bool.Decides.{nat_tests}
use Rattle.std.proofs.lemmas.List.Folds.{position_or_len_push}
use Rattle.std.proofs.lemmas.List.Sums.{prefix_len-le-length}
use Rattle.std.proofs.lemmas.Map.Text.{is_eq-slice_cmp}
use Rattle.cfa.specs.declared.parts.Function.{Function}
use Rattle.cfa.specs.Names.{first_named, number_at, AreFirstNumbers}

-- ---- the first place, where one element more is there

by_places : (first long : ℕ) (t : Bool) → first ≤ long →
    cond (nat_lt (cond (first == long) (long + cond t 0 1) first) (long + 1)) (Some (cond (first == long) (long + cond t 0 1) first)) None ≡ cond (nat_lt first long) (Some first) (cond t (Some long) None)
by_places first long true h = grind (arith, nat_tests)
by_places first long false h = grind (arith, nat_tests)

abbrev is_first : Bool → ℕ → Option ℕ → Option ℕ
is_first t n o = cond (is_some o) o (cond t (Some n) None)

if_some : (t u : Bool) (first long : ℕ) → cond t (Some first) (cond u (Some long) None) ≡ is_first u long (cond t (Some first) None)
if_some true u first long = refl
if_some false u first long = refl

pub first_more : (functions : List Function) (f : Function) (name : List ℕ) → first_named (functions ++ f ∷ []) name ≡ is_first (bytes_eq f.name name) (length functions) (first_named functions name)
first_more functions f name =
    let test : Function → Bool = λ g. bytes_eq g.name name in
    let here = position_or_len test functions in
    let pushed = position_or_len_push test functions f in
    let long : length (functions ++ f ∷ []) ≡ length functions + 1 = length-append functions (f ∷ []) in
    ap (λ n. cond (nat_lt n (length (functions ++ f ∷ []))) (Some n) None) pushed
    ∙ ap (λ m. cond (nat_lt (cond (here == length functions) (length functions + cond (test f) 0 1) here) m) (Some (cond (here == length functions) (length functions + cond (test f) 0 1) here)) None) long
    ∙ by_places here (length functions) (test f) (prefix_len-le-length (λ g. not (test g)) functions)
    ∙ if_some (nat_lt here (length functions)) (test f) here (length functions)

-- ---- the map, where one name more is there

apart : (bs cs ks : List ℕ) → bytes_eq bs cs ≡ false → is_eq (slice_cmp nat_cmp bs ks) ≡ true → is_eq (slice_cmp nat_cmp cs ks) ≡ false
apart bs cs ks other same =
    is_eq-slice_cmp cs ks ∙ nat_list_eq_equiv.symm cs ks ∙ sym (nat_list_eq_equiv.congr bs ks cs (sym (is_eq-slice_cmp bs ks) ∙ same)) ∙ other

module _ (names new : BTreeMap (Vec ℕ Global) ℕ) (key : List ℕ) (n : ℕ) (updates : UpdatesBy (λ x y. slice_cmp nat_cmp x.items y.items) (λ k. slice_cmp nat_cmp key k.items) names new (Some n)) where
  others : (name : List ℕ) → bytes_eq key name ≡ false → number_at new name ≡ number_at names name
  unfolding KeepsOthers
  others name other = updates.3 (λ k. is_eq (slice_cmp nat_cmp name k.items)) (λ x y. (eq_by_cmp_equiv nat_list_cmp_total).congr name x.items y.items) (λ k. apart key name k.items other)

  pub number_more : (name : List ℕ) → number_at new name ≡ cond (bytes_eq key name) (Some n) (number_at names name)
  number_more name =
      ⊎_elim
      (λ same. subst (λ l. number_at new l ≡ Some n) ((bytes_decides key name).0 same) updates.1 ∙ sym (cond-true (bytes_eq key name) (Some n) (number_at names name) same))
      (λ other. others name other ∙ sym (cond-false (bytes_eq key name) (Some n) (number_at names name) other))
      (cases_Bool (bytes_eq key name))

-- ---- both together

module _ (functions : List Function) (names : BTreeMap (Vec ℕ Global) ℕ) (f : Function) (at : AreFirstNumbers functions names) where
  -- a name that is there keeps its number
  found : (name : List ℕ) → is_some (number_at names f.name) ≡ true → number_at names name ≡ is_first (bytes_eq f.name name) (length functions) (number_at names name)
  found name there = by (bytes_eq f.name name) refl (number_at names name) refl
    where
      by : (t : Bool) → bytes_eq f.name name ≡ t → (o : Option ℕ) → number_at names name ≡ o → o ≡ is_first t (length functions) o
      by t e (Some k) is = refl
      by true e None is = let same = ap (number_at names) ((bytes_decides f.name name).0 e) ∙ is in absurd (let no = ap is_some same in let both = sym there ∙ no in cc)
      by false e None is = refl

  pub names_kept : is_some (number_at names f.name) ≡ true → AreFirstNumbers (functions ++ f ∷ []) names
  names_kept there name =
      found name there ∙ ap (is_first (bytes_eq f.name name) (length functions)) (at name) ∙ sym (first_more functions f name)

  added : (name : List ℕ) → is_some (number_at names f.name) ≡ false → cond (bytes_eq f.name name) (Some (length functions)) (number_at names name) ≡ is_first (bytes_eq f.name name) (length functions) (number_at names name)
  added name none = by (bytes_eq f.name name) refl (number_at names name) refl
    where
      by : (t : Bool) → bytes_eq f.name name ≡ t → (o : Option ℕ) → number_at names name ≡ o → cond t (Some (length functions)) o ≡ is_first t (length functions) o
      by true e None is = refl
      by true e (Some k) is = let same = ap (number_at names) ((bytes_decides f.name name).0 e) ∙ is in absurd (let yes_some = ap is_some same in let both = sym none ∙ yes_some in cc)
      by false e None is = refl
      by false e (Some k) is = refl

  pub names_added : (new : BTreeMap (Vec ℕ Global) ℕ) (key : List ℕ) (n : ℕ) → is_some (number_at names f.name) ≡ false → key ≡ f.name → n ≡ length functions → UpdatesBy (λ x y. slice_cmp nat_cmp x.items y.items) (λ k. slice_cmp nat_cmp key k.items) names new (Some n) → AreFirstNumbers (functions ++ f ∷ []) new
  names_added new key n none same place updates name =
      number_more names new key n updates name ∙ ap (λ k. cond (bytes_eq k name) (Some n) (number_at names name)) same ∙ ap (λ m. cond (bytes_eq f.name name) (Some m) (number_at names name)) place
      ∙ added name none ∙ ap (is_first (bytes_eq f.name name) (length functions)) (at name) ∙ sym (first_more functions f name)
