-- The places of names, and the map of them.
use Rattle.std.proofs.Common.{◌≡◌, ℕ, suc, ◌-◌, take, Bool, true, false, List, [], ◌∷◌, ◌++◌, length, Option, Some, None, refl, ap, sym, ◌∙◌, append_assoc, append-nil, nat_cmp, subst, arith, rules}
use Rattle.std.specs.Prelude.{if◌then◌else◌, MatchOption}
use Rattle.std.specs.Str.{bytes_eq}
use Rattle.std.specs.Cmp.Lexicographic.{slice_cmp}
use Rattle.std.specs.BTreeMap.{BTreeMap, get, Updates}
use Rattle.std.proofs.lemmas.Map.Text.{is_eq-slice_cmp}
use Rattle.c_type_rules.specs.declared.scopes.Bound.{Bound}
use Rattle.std.proofs.lemmas.Slice.Eq.{bytes_eq-Decides}
use Rattle.std.specs.Prelude.{◌||◌}
use Rattle.std.specs.Option.{is_some, IsSome}
use Rattle.std.proofs.lemmas.List.{take_at, length-append}
use Rattle.c_type_rules.specs.Scopes.{last_place, has_name, next_place, name_place}
use Rattle.c_type_rules.specs.Indexed.{shadows, IsIndexed, IsNamed}
use Rattle.c_type_rules.proofs.ScopeLaws.{placed}

abbrev or_last : Option ℕ → ℕ → Bool → Option ℕ
or_last (Some k) n t = Some k
or_last None n t = if t then Some n else None

or_last_false : (o : Option ℕ) (n : ℕ) → o ≡ or_last o n false
or_last_false None n = refl
or_last_false (Some k) n = refl

some_is : (n : ℕ) → IsSome (Some n)
some_is n = search rules

bytes_same : (a b : List ℕ) → bytes_eq a b ≡ true → a ≡ b
bytes_same a b h = (bytes_eq-Decides a b).0 h

same_bytes : (a : List ℕ) → bytes_eq a a ≡ true
same_bytes a = (bytes_eq-Decides a a).1 refl

pub one_more : (before bs : List Bound) (b : Bound) → shadows before (bs ++ b ∷ []) ≡ shadows before bs ++ last_place (before ++ bs) b.name ∷ []
unfolding shadows
one_more before [] b = rw (append-nil before) refl
one_more before (x ∷ xs) b = ap (λ l. last_place before x.name ∷ l) (one_more (before ++ x ∷ []) xs b) ∙ ap (λ l. last_place before x.name ∷ (shadows (before ++ x ∷ []) xs ++ last_place l b.name ∷ [])) (append_assoc before (x ∷ []) xs)

pub empty_indexed : (m : BTreeMap (List ℕ) ℕ) (list : List Bound) (shadowed : List (Option ℕ)) → m.entries ≡ [] → list ≡ [] → shadowed ≡ [] → IsIndexed list m shadowed
unfolding last_place shadows
empty_indexed m list shadowed e f g = rw (f, g) (record { found = λ w. rw e refl; earlier = refl })

pub pushed_indexed : (old new : BTreeMap (List ℕ) ℕ) (list all : List Bound) (shadowed more : List (Option ℕ)) (b : Bound) (key : List ℕ) (place : ℕ) (earlier : Option ℕ) → IsIndexed list old shadowed
    → Updates (slice_cmp nat_cmp) old new key (Some place) → key ≡ b.name → place ≡ length list → earlier ≡ last_place list b.name → all ≡ list ++ b ∷ [] → more ≡ shadowed ++ earlier ∷ [] → IsIndexed all new more
pushed_indexed old new list all shadowed more b key place earlier i u k p e a s = record {
  found = λ q. rw a (u.0 q ∙ ap (λ t. if t then Some place else get (slice_cmp nat_cmp) old q) (is_eq-slice_cmp key q) ∙ rw (k, p, i.found q) (sym (placed q list b)));
  earlier = rw (s, a, e, i.earlier) (sym (one_more [] list b));
}

pub unchanged_indexed : (old new : BTreeMap (List ℕ) ℕ) (list list' : List Bound) (shadowed shadowed' : List (Option ℕ)) → IsIndexed list old shadowed
    → new.entries ≡ old.entries → list' ≡ list → shadowed' ≡ shadowed → IsIndexed list' new shadowed'
unchanged_indexed old new list list' shadowed shadowed' i e l s = rw (l, s) (record { found = λ w. rw e (i.found w); earlier = i.earlier })

same_front : {X : Type 0} (xs ys : List X) (a b : X) → xs ++ a ∷ [] ≡ ys ++ b ∷ [] → xs ≡ ys
same_front [] [] a b h = refl
same_front [] (y ∷ []) a b h = cc
same_front [] (y ∷ z ∷ ys) a b h = cc
same_front (x ∷ []) [] a b h = cc
same_front (x ∷ z ∷ xs) [] a b h = cc
same_front (x ∷ xs) (y ∷ ys) a b h =
    let rest : xs ++ a ∷ [] ≡ ys ++ b ∷ [] = cc in
    let e : xs ≡ ys = same_front xs ys a b rest in
    let f : x ≡ y = cc in cc

-- what was pushed last is taken off again
pub taken_off : {X : Type 0} (o : Option X) (old new list : List X) (x : X) → MatchOption o ((old ≡ []) × (new ≡ [])) (λ last. old ≡ new ++ last ∷ []) → old ≡ list ++ x ∷ [] → new ≡ list
taken_off None old new [] x h e = cc
taken_off None old new (y ∷ ys) x h e = cc
taken_off (Some last) old new list x h e = same_front new list last x (sym h ∙ e)

same_last : {X : Type 0} (xs ys : List X) (a b : X) → xs ++ a ∷ [] ≡ ys ++ b ∷ [] → a ≡ b
same_last [] [] a b h = cc
same_last [] (y ∷ []) a b h = cc
same_last [] (y ∷ z ∷ ys) a b h = cc
same_last (x ∷ []) [] a b h = cc
same_last (x ∷ z ∷ xs) [] a b h = cc
same_last (x ∷ xs) (y ∷ ys) a b h = let rest : xs ++ a ∷ [] ≡ ys ++ b ∷ [] = cc in same_last xs ys a b rest

pub before_last : {X : Type 0} (xs : List X) (a : X) (all : List X) → all ≡ xs ++ a ∷ [] → xs ≡ take (length all - 1) all
before_last xs a all e =
    let count : length xs ≡ length all - 1 = omega (arith, ap length e, length-append xs (a ∷ [])) in
    sym (ap (λ l. take (length all - 1) l) e ∙ take_at xs (a ∷ []) (length all - 1) count)

-- the name that was bound last is there
pub last_is_there : (m : BTreeMap (List ℕ) ℕ) (list all : List Bound) (shadowed : List (Option ℕ)) (b : Bound) → all ≡ list ++ b ∷ [] → IsIndexed all m shadowed → IsSome (get (slice_cmp nat_cmp) m b.name)
last_is_there m list all shadowed b e i =
    let here : get (slice_cmp nat_cmp) m b.name ≡ Some (length list) =
    i.found b.name ∙ ap (λ l. last_place l b.name) e ∙ placed b.name list b ∙ ap (λ t. if t then Some (length list) else last_place list b.name) (same_bytes b.name) in
    subst IsSome (sym here) (some_is (length list))

pub popped_indexed : (old new : BTreeMap (List ℕ) ℕ) (list all : List Bound) (shadowed less : List (Option ℕ)) (b : Bound) (earlier : Option ℕ) → IsIndexed all old shadowed
    → all ≡ list ++ b ∷ [] → shadowed ≡ less ++ earlier ∷ [] → Updates (slice_cmp nat_cmp) old new b.name earlier → IsIndexed list new less
popped_indexed old new list all shadowed less b earlier i a s u =
    let both : less ++ earlier ∷ [] ≡ shadows [] list ++ last_place list b.name ∷ [] = sym s ∙ i.earlier ∙ ap (shadows []) a ∙ one_more [] list b in
    let last : earlier ≡ last_place list b.name = same_last less (shadows [] list) earlier (last_place list b.name) both in
    record {
      found = λ q.
          u.0 q ∙ ap (λ t. if t then earlier else get (slice_cmp nat_cmp) old q) (is_eq-slice_cmp b.name q)
          ∙ ap (λ o. if bytes_eq b.name q then earlier else o) (i.found q ∙ ap (λ l. last_place l q) a ∙ placed q list b)
          ∙ by_test b.name q list earlier last (bytes_eq b.name q) refl;
      earlier = same_front less (shadows [] list) earlier (last_place list b.name) both;
    }
  where
    by_test : (n q : List ℕ) (l : List Bound) (o : Option ℕ) → o ≡ last_place l n → (t : Bool) → bytes_eq n q ≡ t → (if t then o else (if t then Some (length l) else last_place l q)) ≡ last_place l q
    by_test n q l o e true h = e ∙ ap (last_place l) (bytes_same n q h)
    by_test n q l o e false h = refl

-- ---- lists of names

module _ (w : List ℕ) where
  first_stays : (v : List ℕ) (o p : Option ℕ) (n : ℕ) (t u : Bool) → (if t then Some 0 else next_place (or_last o n u)) ≡ or_last (if t then Some 0 else next_place o) (suc n) u
  first_stays v o p n true u = refl
  first_stays v None p n false true = refl
  first_stays v None p n false false = refl
  first_stays v (Some k) p n false u = refl

  -- a name at the end is found there where it is not found before
  pub name_placed : (vs : List (List ℕ)) (v : List ℕ) → name_place (vs ++ v ∷ []) w ≡ or_last (name_place vs w) (length vs) (bytes_eq v w)
  unfolding name_place
  name_placed [] v = at_once (bytes_eq v w)
    where
      at_once : (t : Bool) → (if t then Some 0 else next_place None) ≡ or_last None 0 t
      at_once true = refl
      at_once false = refl
  name_placed (x ∷ xs) v = ap (λ o. if bytes_eq x w then Some 0 else next_place o) (name_placed xs v) ∙ first_stays x (name_place xs w) None (length xs) (bytes_eq x w) (bytes_eq v w)

  pub has_is_place : (vs : List (List ℕ)) → has_name vs w ≡ is_some (name_place vs w)
  unfolding has_name name_place
  has_is_place [] = refl
  has_is_place (x ∷ xs) = ap (λ b. bytes_eq x w || b) (has_is_place xs) ∙ at_head (bytes_eq x w) (name_place xs w)
    where
      at_head : (t : Bool) (o : Option ℕ) → (t || is_some o) ≡ is_some (if t then Some 0 else next_place o)
      at_head true o = refl
      at_head false None = refl
      at_head false (Some k) = refl

pub ruleset name_laws = (has_is_place)

pub empty_named : (m : BTreeMap (List ℕ) ℕ) (list : List (List ℕ)) → m.entries ≡ [] → list ≡ [] → IsNamed list m
unfolding name_place
empty_named m list e f = rw f (record { found = λ w. rw e refl })

pub unchanged_named : (old new : BTreeMap (List ℕ) ℕ) (list list' : List (List ℕ)) → IsNamed list old → new.entries ≡ old.entries → list' ≡ list → IsNamed list' new
unchanged_named old new list list' i e l = rw l (record { found = λ w. rw e (i.found w) })

-- a name that is there keeps its place
pub again_named : (m : BTreeMap (List ℕ) ℕ) (list all : List (List ℕ)) (name : List ℕ) (k : ℕ) → IsNamed list m → name_place list name ≡ Some k → all ≡ list ++ name ∷ [] → IsNamed all m
again_named m list all name k i e a = record { found = λ q. i.found q ∙ by_test q (bytes_eq name q) refl ∙ sym (ap (λ l. name_place l q) a ∙ name_placed q list name) }
  where
    kept : (o : Option ℕ) (n j : ℕ) (u : Bool) → o ≡ Some j → o ≡ or_last o n u
    kept None n j u h = cc
    kept (Some x) n j u h = refl

    by_test : (q : List ℕ) (t : Bool) → bytes_eq name q ≡ t → name_place list q ≡ or_last (name_place list q) (length list) t
    by_test q true h = kept (name_place list q) (length list) k true (ap (name_place list) (sym (bytes_same name q h)) ∙ e)
    by_test q false h = or_last_false (name_place list q) (length list)

pub pushed_named : (old new : BTreeMap (List ℕ) ℕ) (list all : List (List ℕ)) (name key : List ℕ) (place : ℕ) → IsNamed list old → name_place list name ≡ None
    → Updates (slice_cmp nat_cmp) old new key (Some place) → key ≡ name → place ≡ length list → all ≡ list ++ name ∷ [] → IsNamed all new
pushed_named old new list all name key place i none u k p a = record {
  found = λ q.
      u.0 q ∙ ap (λ t. if t then Some place else get (slice_cmp nat_cmp) old q) (is_eq-slice_cmp key q)
      ∙ ap (λ n. if bytes_eq n q then Some place else get (slice_cmp nat_cmp) old q) k ∙ ap (λ o. if bytes_eq name q then Some place else o) (i.found q)
      ∙ by_test q (bytes_eq name q) refl ∙ sym (ap (λ l. name_place l q) a ∙ name_placed q list name);
}
  where
    by_test : (q : List ℕ) (t : Bool) → bytes_eq name q ≡ t → (if t then Some place else name_place list q) ≡ or_last (name_place list q) (length list) t
    by_test q true h = ap Some p ∙ ap (λ o. or_last o (length list) true) (sym (ap (name_place list) (sym (bytes_same name q h)) ∙ none))
    by_test q false h = or_last_false (name_place list q) (length list)

pub there_named : (m : BTreeMap (List ℕ) ℕ) (list all : List (List ℕ)) (name : List ℕ) (earlier : Option ℕ) → IsNamed list m → earlier ≡ name_place list name → is_some earlier ≡ true → all ≡ list ++ name ∷ [] → IsNamed all m
there_named m list all name None i e t a = cc
there_named m list all name (Some k) i e t a = again_named m list all name k i (sym e) a

pub new_named : (old new : BTreeMap (List ℕ) ℕ) (list all : List (List ℕ)) (name key : List ℕ) (place : ℕ) (earlier : Option ℕ) → IsNamed list old → earlier ≡ name_place list name → is_some earlier ≡ false
    → Updates (slice_cmp nat_cmp) old new key (Some place) → key ≡ name → place ≡ length list → all ≡ list ++ name ∷ [] → IsNamed all new
new_named old new list all name key place None i e t u k p a = pushed_named old new list all name key place i (sym e) u k p a
new_named old new list all name key place (Some x) i e t u k p a = cc

pub none_shadowed : (m : BTreeMap (List ℕ) ℕ) (list all : List Bound) (shadowed : List (Option ℕ)) (b : Bound) → IsIndexed all m shadowed → all ≡ list ++ b ∷ [] → shadowed ≡ [] → ⊥
none_shadowed m list all shadowed b i a s = not_empty (shadows [] list) (last_place list b.name) (sym s ∙ i.earlier ∙ ap (shadows []) a ∙ one_more [] list b)
  where
    not_empty : {X : Type 0} (xs : List X) (x : X) → [] ≡ xs ++ x ∷ [] → ⊥
    not_empty [] x h = cc
    not_empty (y ∷ ys) x h = cc
