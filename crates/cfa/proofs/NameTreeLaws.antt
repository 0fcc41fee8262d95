-- A search tree by the bits of hashes finds what a list does.
use Rattle.std.proofs.Common.{◌≡◌, ℕ, Bool, true, false, List, [], ◌∷◌, ◌++◌, Option, Some, None, refl, sym, ap, ◌∙◌}
use Rattle.std.specs.Prelude.{cond, not}
use Rattle.std.specs.Str.{bytes_eq}
use Rattle.std.specs.Cmp.Lexicographic.{bytes_decides}
use Rattle.cfa.specs.declared.parts.Variable.{Variable}
use Rattle.cfa.specs.Names.{hash_of, is_named, visible}
use Rattle.cfa.specs.NameTree.{HasAlso, IsFork, in_part, is_low}
use Rattle.std.specs.declared.alloc.Global.{Global}
use Rattle.std.specs.declared.rc.Rc.{Rc}

true_and_false : {b : Bool} → b ≡ true → b ≡ false → ⊥
true_and_false p q = let both : true ≡ false = sym p ∙ q in cc

-- ---- a name in two lists, one after another

module _ (name : List ℕ) where
  in_first : (xs ys : List Variable) → visible name ys ≡ None → visible name (xs ++ ys) ≡ visible name xs
  in_first [] ys h = h
  in_first (x ∷ xs) ys h = ap (cond (is_named name x) (Some x)) (in_first xs ys h)

  first_case : (xs ys : List Variable) (x : Variable) (b : Bool) → (visible name xs ≡ None → visible name (xs ++ ys) ≡ visible name ys)
      → cond b (Some x) (visible name xs) ≡ None → cond b (Some x) (visible name (xs ++ ys)) ≡ visible name ys
  first_case xs ys x true f h = cc
  first_case xs ys x false f h = f h

  in_second : (xs ys : List Variable) → visible name xs ≡ None → visible name (xs ++ ys) ≡ visible name ys
  in_second [] ys h = refl
  in_second (x ∷ xs) ys h = first_case xs ys x (is_named name x) (in_second xs ys) h

-- ---- names and hashes

pub same_hash : (a b : List ℕ) → bytes_eq a b ≡ true → hash_of a ≡ hash_of b
same_hash a b h = ap hash_of ((bytes_decides a b).0 h)

-- names whose hashes go to different parts are different
other_part : (place : ℕ) (a b : List ℕ) (t : Bool) → is_low place (hash_of a) ≡ t → is_low place (hash_of b) ≡ not t → bytes_eq a b ≡ false
other_part place a b t one other = by _ refl
  where
    -- (a part isn't the other)
    apart : (t : Bool) → t ≡ not t → ⊥
    apart true e = cc
    apart false e = cc

    by : (equal : Bool) → bytes_eq a b ≡ equal → bytes_eq a b ≡ false
    by true e = absurd (apart t (sym one ∙ ap (is_low place) (same_hash a b e) ∙ other))
    by false e = e

-- whatever part a hash goes to
pub by_part : {A : Type 0} (place hash : ℕ) → (is_low place hash ≡ true → A) → (is_low place hash ≡ false → A) → A
by_part {A} place hash low high = by _ refl
  where
    by : (t : Bool) → is_low place hash ≡ t → A
    by true e = low e
    by false e = high e

-- ---- a fork

module _ (place h : ℕ) (u : Variable) (low high : List Variable) (is : IsFork place h u low high) where
  abbrev all : List Variable
  all = u ∷ (low ++ high)

  missed : (name : List ℕ) → is_named name u ≡ false → visible name all ≡ visible name (low ++ high)
  missed name miss = ap (λ t. cond t (Some u) (visible name (low ++ high))) miss

  pub found_here : (name : List ℕ) → is_named name u ≡ true → visible name all ≡ Some u
  found_here name hit = ap (λ t. cond t (Some u) (visible name (low ++ high))) hit

  pub found_low : (name : List ℕ) → is_named name u ≡ false → is_low place (hash_of name) ≡ true → visible name all ≡ visible name low
  found_low name miss near = missed name miss ∙ in_first name low high (is.low_alone name near)

  pub found_high : (name : List ℕ) → is_named name u ≡ false → is_low place (hash_of name) ≡ false → visible name all ≡ visible name high
  found_high name miss far = missed name miss ∙ in_second name low high (is.high_alone name far)

  -- ---- one variable more

  module _ (v : Variable) where
    -- in place of the fork's own
    module _ (same : is_named v.name u ≡ true) where
      own_name : u.name ≡ v.name
      own_name = (bytes_decides u.name v.name).0 same

      pub fork_here : IsFork place h v low high
      fork_here = record { own = is.own ∙ ap hash_of own_name; low_alone = is.low_alone; high_alone = is.high_alone }

      hidden : (name : List ℕ) (t : Bool) → is_named name v ≡ t → cond t (Some v) (visible name (low ++ high)) ≡ cond t (Some v) (visible name all)
      hidden name true e = refl
      hidden name false e = sym (missed name (ap (λ n. bytes_eq n name) own_name ∙ e))

      pub also_here : HasAlso all v (v ∷ (low ++ high))
      also_here name = hidden name _ refl

    module _ (apart : is_named v.name u ≡ false) where
      -- the fork's own name is no other's
      not_both : (name : List ℕ) → is_named name u ≡ true → is_named name v ≡ false
      not_both name here = by _ refl
        where
          by : (t : Bool) → is_named name v ≡ t → is_named name v ≡ false
          by true e =
              let names : u.name ≡ v.name = (bytes_decides u.name name).0 here ∙ sym ((bytes_decides v.name name).0 e) in
              absurd (true_and_false ((bytes_decides u.name v.name).1 names) apart)
          by false e = e

      both_here : (name : List ℕ) (rest : List Variable) → is_named name u ≡ true → visible name (u ∷ rest) ≡ cond (is_named name v) (Some v) (visible name all)
      both_here name rest here =
          ap (λ t. cond t (Some u) (visible name rest)) here ∙ sym (found_here name here)
          ∙ sym (ap (λ t. cond t (Some v) (visible name all)) (not_both name here))

      -- in the low part
      module _ (below : is_low place (hash_of v.name) ≡ true) (more : List Variable) (has : HasAlso low v more) where
        other_low : (name : List ℕ) → is_low place (hash_of name) ≡ false → is_named name v ≡ false
        other_low name far = other_part place v.name name true below far

        pub fork_low : IsFork place h u more high
        fork_low = record {
          own = is.own;
          low_alone = is.low_alone;
          high_alone = λ name far. has name ∙ ap (λ t. cond t (Some v) (visible name low)) (other_low name far) ∙ is.high_alone name far;
        }

        pub also_low : HasAlso all v (u ∷ (more ++ high))
        also_low name = by_name _ refl
          where
            miss_of : (name : List ℕ) → is_named name u ≡ false → visible name (u ∷ (more ++ high)) ≡ visible name (more ++ high)
            miss_of name miss = ap (λ t. cond t (Some u) (visible name (more ++ high))) miss

            near_side : is_named name u ≡ false → is_low place (hash_of name) ≡ true → visible name (u ∷ (more ++ high)) ≡ cond (is_named name v) (Some v) (visible name all)
            near_side miss near =
                miss_of name miss ∙ in_first name more high (is.low_alone name near) ∙ has name
                ∙ ap (cond (is_named name v) (Some v)) (sym (found_low name miss near))

            far_side : is_named name u ≡ false → is_low place (hash_of name) ≡ false → visible name (u ∷ (more ++ high)) ≡ cond (is_named name v) (Some v) (visible name all)
            far_side miss far =
                miss_of name miss ∙ in_second name more high (fork_low.high_alone name far)
                ∙ sym (ap (λ t. cond t (Some v) (visible name all)) (other_low name far) ∙ found_high name miss far)

            by_name : (t : Bool) → is_named name u ≡ t → visible name (u ∷ (more ++ high)) ≡ cond (is_named name v) (Some v) (visible name all)
            by_name true here = both_here name (more ++ high) here
            by_name false miss = by_part place (hash_of name) (near_side miss) (far_side miss)

      -- in the high part
      module _ (above : is_low place (hash_of v.name) ≡ false) (more : List Variable) (has : HasAlso high v more) where
        other_high : (name : List ℕ) → is_low place (hash_of name) ≡ true → is_named name v ≡ false
        other_high name near = other_part place v.name name false above near

        pub fork_high : IsFork place h u low more
        fork_high = record {
          own = is.own;
          low_alone = λ name near. has name ∙ ap (λ t. cond t (Some v) (visible name high)) (other_high name near) ∙ is.low_alone name near;
          high_alone = is.high_alone;
        }

        pub also_high : HasAlso all v (u ∷ (low ++ more))
        also_high name = by_name _ refl
          where
            miss_of : (name : List ℕ) → is_named name u ≡ false → visible name (u ∷ (low ++ more)) ≡ visible name (low ++ more)
            miss_of name miss = ap (λ t. cond t (Some u) (visible name (low ++ more))) miss

            near_side : is_named name u ≡ false → is_low place (hash_of name) ≡ true → visible name (u ∷ (low ++ more)) ≡ cond (is_named name v) (Some v) (visible name all)
            near_side miss near =
                miss_of name miss ∙ in_first name low more (fork_high.low_alone name near)
                ∙ sym (ap (λ t. cond t (Some v) (visible name all)) (other_high name near) ∙ found_low name miss near)

            far_side : is_named name u ≡ false → is_low place (hash_of name) ≡ false → visible name (u ∷ (low ++ more)) ≡ cond (is_named name v) (Some v) (visible name all)
            far_side miss far =
                miss_of name miss ∙ in_second name low more (is.high_alone name far) ∙ has name
                ∙ ap (cond (is_named name v) (Some v)) (sym (found_high name miss far))

            by_name : (t : Bool) → is_named name u ≡ t → visible name (u ∷ (low ++ more)) ≡ cond (is_named name v) (Some v) (visible name all)
            by_name true here = both_here name (low ++ more) here
            by_name false miss = by_part place (hash_of name) (near_side miss) (far_side miss)

-- ---- a part

pub also_nothing : (v : Variable) (part : Option (Rc (List Variable) Global)) (more : List Variable) → part ≡ None → more ≡ v ∷ [] → HasAlso (in_part part) v more
also_nothing v part more none e name = ap (visible name) e ∙ ap (λ o. cond (is_named name v) (Some v) (visible name (in_part o))) (sym none)

pub also_tree : (v : Variable) (part : Option (Rc (List Variable) Global)) (tree : Rc (List Variable) Global) (more : List Variable) → part ≡ Some tree → HasAlso tree.value v more → HasAlso (in_part part) v more
also_tree v part tree more some has name = has name ∙ ap (λ o. cond (is_named name v) (Some v) (visible name (in_part o))) (sym some)

-- what is seen as one of two lists has one variable more than another
pub also_either : (place hash : ℕ) (v : Variable) (old tree near far : List Variable) → (is_low place hash ≡ true → tree ≡ near) → (is_low place hash ≡ false → tree ≡ far) → (is_low place hash ≡ true → HasAlso old v near) → (is_low place hash ≡ false → HasAlso old v far) → HasAlso old v tree
also_either place hash v old tree near far a b f g name =
    by_part place hash (λ low. ap (visible name) (a low) ∙ f low name) (λ high. ap (visible name) (b high) ∙ g high name)
