-- How often a name may be handed over, as more is read.
use Rattle.std.proofs.Common.{◌≡◌, ◌≢◌, ℕ, ◌+◌, ◌<◌, ◌≤◌, ◌^◌, ◌-◌, Bool, true, false, List, length, Option, None, Some, get_or, take, refl, sym, ap, subst, ◌∙◌, arith}
use Rattle.std.specs.Prelude.{IsSome, is_some, min, nat_eq, if◌then◌else◌}
use Rattle.std.specs.Str.{bytes_eq}
use Rattle.std.proofs.lemmas.Bool.{eqb-true}
use Rattle.std.proofs.lemmas.List.{length-take}
use Rattle.std.proofs.lemmas.List.Sums.{count_by-le-length, count_by_more_no, count_by_more_yes}
use Rattle.std.proofs.lemmas.Slice.Eq.{bytes_eq-Decides}
use Rattle.fq_io_recorded.specs.declared.handed.Handed.{Handed}
use Rattle.fq_io_recorded.specs.declared.wanted.Wanted.{Wanted}
use Rattle.fq_io_recorded.specs.Handed.{times_of_file}
use Rattle.fq_io_recorded.specs.Read.{times_wanted}
use Rattle.fq_io_recorded.specs.Times.{more_times, times_with_one}

-- a file that is there
pub with_one_there : (o : Option Handed) → is_some o ≡ true → times_with_one o ≡ more_times (times_of_file o)
with_one_there None h = cc
with_one_there (Some file) h = refl

-- and one that isn't
pub with_one_new : (o : Option Handed) → o ≡ None → times_with_one o ≡ 1
with_one_new o h = ap times_with_one h

more_is : (n : ℕ) → 0 < n → n + 1 < 2 ^ 64 → more_times n ≡ n + 1
more_is n some small = by (nat_eq n 0) refl
  where
    by : (b : Bool) → nat_eq n 0 ≡ b → (if b then 0 else min (n + 1) (2 ^ 64 - 1)) ≡ n + 1
    by true is = let none = eqb-true n 0 is in absurd (omega (arith, some, none))
    by false is = omega (arith, small)

-- once more than so many times
pub one_more : (o : Option Handed) (count : ℕ) → times_of_file o ≡ count → (IsSome o → 0 < times_of_file o) → count + 1 < 2 ^ 64 → times_with_one o ≡ count + 1
one_more None count is some small = omega (arith, is)
one_more (Some file) count is some small = more_is file.times (some refl) (omega (arith, is, small)) ∙ ap (λ n. n + 1) is

-- no more often than there are files before it
pub few_wanted : (name : List ℕ) (all : List Wanted) (i : ℕ) → times_wanted name (take i all) ≤ i
few_wanted name all i = omega (arith, count_by-le-length (λ (wanted : Wanted). bytes_eq wanted.name.now name) (take i all), length-take i all)

-- as often as among the first files, and as among one more
module _ (name : List ℕ) (all : List Wanted) (i : ℕ) (d : Wanted) (lt : i < length all) (old now : Option Handed) (before : times_of_file old ≡ times_wanted name (take i all))
    (some : IsSome old → 0 < times_of_file old) (small : times_wanted name (take i all) + 1 < 2 ^ 64)
    (here : name ≡ (get_or all i d).name.now → times_of_file now ≡ times_with_one old) (apart : name ≢ (get_or all i d).name.now → now ≡ old) where
  abbrev is_it : Wanted → Bool
  is_it wanted = bytes_eq wanted.name.now name

  by_name : (b : Bool) → is_it (get_or all i d) ≡ b → times_of_file now ≡ times_wanted name (take (i + 1) all)
  by_name true is =
      here (sym ((bytes_eq-Decides (get_or all i d).name.now name).0 is)) ∙ one_more old (times_wanted name (take i all)) before some small ∙ sym (count_by_more_yes is_it all i d lt is)
  by_name false is =
      ap times_of_file (apart (λ e. no_name e)) ∙ before ∙ sym (count_by_more_no is_it all i d lt is)
    where
      no_name : name ≡ (get_or all i d).name.now → ⊥
      no_name e = let yes : is_it (get_or all i d) ≡ true = (bytes_eq-Decides (get_or all i d).name.now name).1 (sym e) in absurd (cc)

  pub often_more : times_of_file now ≡ times_wanted name (take (i + 1) all)
  often_more = by_name (is_it (get_or all i d)) refl

  some_by : (b : Bool) → is_it (get_or all i d) ≡ b → IsSome now → 0 < times_of_file now
  some_by true is there =
      let it = here (sym ((bytes_eq-Decides (get_or all i d).name.now name).0 is)) ∙ one_more old (times_wanted name (take i all)) before some small in omega (arith, it)
  some_by false is there = let same : now ≡ old = apart (λ e. no_name e) in subst (λ (o : Option Handed). 0 < times_of_file o) (sym same) (some (subst (λ (o : Option Handed). IsSome o) same there))
    where
      no_name : name ≡ (get_or all i d).name.now → ⊥
      no_name e = let yes : is_it (get_or all i d) ≡ true = (bytes_eq-Decides (get_or all i d).name.now name).1 (sym e) in absurd (cc)

  pub some_more : IsSome now → 0 < times_of_file now
  some_more = some_by (is_it (get_or all i d)) refl
