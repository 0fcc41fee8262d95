-- Loops of the parser of declarations and statements.
use Rattle.std.proofs.Common.{◌≡◌, ℕ, zero, suc, ◌-◌, ◌<◌, Bool, true, false, List, [], ◌∷◌, ◌++◌, length, Some, None, refl, sym, ap, ◌∙◌, append_assoc, arith}
use Rattle.std.specs.Prelude.{◌&&◌}
use Rattle.std.proofs.lemmas.List.{append-nil}
use Rattle.c_parse.specs.declared.sign.Terminal.{Terminal}
use Rattle.c_parse.specs.declared.sign.Symbol.{Symbol}
use Rattle.c_parse.specs.declared.sign.Symbol.TheVariants as symbols
use Rattle.c_parse.specs.declared.stop.Stop.{Stop}
use Rattle.c_parse.specs.declared.stop.Stop.TheVariants.{Memory, Syntax}
use Rattle.c_parse.specs.declared.statement.CaseLabel.{CaseLabel}
use Rattle.c_parse.specs.declared.statement.Group.{Group}
use Rattle.c_parse.specs.declared.statement.Statement.{Statement}
use Rattle.c_parse.specs.StatementTrees.{group}
use Rattle.c_parse.specs.Gives.{Fails}
use Rattle.c_parse.specs.Reading.{Read, ◌>>=◌, starts, tail, expect}
use Rattle.c_parse.specs.ReadingStatements.{separated_at, label_at, labels_at, starts_label, Reads, one_at, ends_body, body_at, groups_at}
use Rattle.c_parse.proofs.Loops.{with_front}

-- one more that was read stands before what is still read
regroup : {Y : Type 0} (front : List Y) (y : Y) (read : Read (List Y)) → with_front front (read >>= λ x. Some (y ∷ x.0, x.1)) ≡ with_front (front ++ y ∷ []) read
regroup front y None = refl
regroup front y (Some x) = ap (λ ys. Some (ys, x.1)) (sym (append_assoc front (y ∷ []) x.0))

-- The n of a loop is a bound on what is still read.
module _ {Y : Type 0} (one : List Terminal → Read Y) (comma : Bool) (last : Symbol) (list : List Y) (n : ℕ) (rest : List Terminal) (total : Read (List Y)) (so_far : with_front list (separated_at one comma last n rest) ≡ total) where
  no_form : separated_at one comma last n rest ≡ None → total ≡ None
  no_form e = sym so_far ∙ ap (λ (o : Read (List Y)). with_front list o) e

  pub one_fails : (e : Stop) → Fails e (one rest) → Fails e total
  unfolding separated_at
  one_fails Memory h = tt
  one_fails Syntax h = no_form (at n)
    where
      at : (m : ℕ) → separated_at one comma last m rest ≡ None
      at zero = refl
      at (suc m) = rw h refl

  module _ (d : Y) (after : List Terminal) (h : one rest ≡ Some (d, after)) where
    pub close_fails : (e : Stop) → starts symbols.Comma after ≡ false → Fails e (expect last after) → Fails e total
    unfolding separated_at
    close_fails Memory no_comma c = tt
    close_fails Syntax no_comma c = no_form (at n)
      where
        at : (m : ℕ) → separated_at one comma last m rest ≡ None
        at zero = refl
        at (suc m) = rw (h, no_comma, c) refl

    pub closes : (behind : List Terminal) → 0 < n → starts symbols.Comma after ≡ false → expect last after ≡ Some behind → total ≡ Some (list ++ d ∷ [], behind)
    unfolding separated_at
    closes behind lt no_comma c = let k : n ≡ suc (n - 1) = omega arith in sym so_far ∙ rw (k, h, no_comma, c) refl

    pub comma_closes : 0 < n → starts symbols.Comma after ≡ true → (comma && starts last (tail after)) ≡ true → total ≡ Some (list ++ d ∷ [], tail (tail after))
    unfolding separated_at
    comma_closes lt a b = let k : n ≡ suc (n - 1) = omega arith in sym so_far ∙ rw (k, h, a, b) refl

    pub goes_on : 0 < n → starts symbols.Comma after ≡ true → (comma && starts last (tail after)) ≡ false → with_front (list ++ d ∷ []) (separated_at one comma last (n - 1) (tail after)) ≡ total
    unfolding separated_at
    goes_on lt a b =
        let k : n ≡ suc (n - 1) = omega arith in
        let step : with_front list (separated_at one comma last n rest) ≡ with_front (list ++ d ∷ []) (separated_at one comma last (n - 1) (tail after)) = ap (λ (m : ℕ). with_front list (separated_at one comma last m rest)) k ∙ rw (h, a, b) (regroup list d (separated_at one comma last (n - 1) (tail after))) in
        sym step ∙ so_far

module _ (list : List CaseLabel) (n : ℕ) (rest : List Terminal) (total : Read (List CaseLabel)) (so_far : with_front list (labels_at n rest) ≡ total) where
  pub label_fails : (e : Stop) → Fails e (label_at rest) → Fails e total
  unfolding labels_at
  label_fails Memory h = tt
  label_fails Syntax h = sym so_far ∙ ap (λ (o : Read (List CaseLabel)). with_front list o) (at n)
    where
      at : (m : ℕ) → labels_at m rest ≡ None
      at zero = refl
      at (suc m) = rw h refl

  pub labels_end : (d : CaseLabel) (after : List Terminal) → 0 < n → label_at rest ≡ Some (d, after) → starts_label after ≡ false → total ≡ Some (list ++ d ∷ [], after)
  unfolding labels_at
  labels_end d after lt h e = let k : n ≡ suc (n - 1) = omega arith in sym so_far ∙ rw (k, h, e) refl

  pub labels_go_on : (d : CaseLabel) (after : List Terminal) → 0 < n → label_at rest ≡ Some (d, after) → starts_label after ≡ true → with_front (list ++ d ∷ []) (labels_at (n - 1) after) ≡ total
  unfolding labels_at
  labels_go_on d after lt h e =
      let k : n ≡ suc (n - 1) = omega arith in
      let step : with_front list (labels_at n rest) ≡ with_front (list ++ d ∷ []) (labels_at (n - 1) after) = ap (λ (m : ℕ). with_front list (labels_at m rest)) k ∙ rw (h, e) (regroup list d (labels_at (n - 1) after)) in
      sym step ∙ so_far

module _ (r : Reads) (list : List Statement) (n : ℕ) (rest : List Terminal) (total : Read (List Statement)) (so_far : with_front list (body_at r n rest) ≡ total) where
  pub body_ends : 0 < n → ends_body rest ≡ true → total ≡ Some (list, rest)
  unfolding body_at
  body_ends lt e = let k : n ≡ suc (n - 1) = omega arith in sym so_far ∙ rw (k, e, append-nil) refl

  pub one_of_body_fails : (e : Stop) → ends_body rest ≡ false → Fails e (one_at r rest) → Fails e total
  unfolding body_at
  one_of_body_fails Memory c h = tt
  one_of_body_fails Syntax c h = sym so_far ∙ ap (λ (o : Read (List Statement)). with_front list o) (at n)
    where
      at : (m : ℕ) → body_at r m rest ≡ None
      at zero = refl
      at (suc m) = rw (c, h) refl

  pub body_goes_on : (x : Statement) (after : List Terminal) → 0 < n → ends_body rest ≡ false → one_at r rest ≡ Some (x, after) → with_front (list ++ x ∷ []) (body_at r (n - 1) after) ≡ total
  unfolding body_at
  body_goes_on x after lt c h =
      let k : n ≡ suc (n - 1) = omega arith in
      let step : with_front list (body_at r n rest) ≡ with_front (list ++ x ∷ []) (body_at r (n - 1) after) = ap (λ (m : ℕ). with_front list (body_at r m rest)) k ∙ rw (c, h) (regroup list x (body_at r (n - 1) after)) in
      sym step ∙ so_far

module _ (r : Reads) (list : List Group) (n : ℕ) (rest : List Terminal) (total : Read (List Group)) (so_far : with_front list (groups_at r n rest) ≡ total) where
  no_groups : groups_at r n rest ≡ None → total ≡ None
  no_groups e = sym so_far ∙ ap (λ (o : Read (List Group)). with_front list o) e

  pub groups_closed : 0 < n → starts symbols.CloseBrace rest ≡ true → total ≡ Some (list, tail rest)
  unfolding groups_at
  groups_closed lt e = let k : n ≡ suc (n - 1) = omega arith in sym so_far ∙ rw (k, e, append-nil) refl

  pub labels_of_group_fail : (e : Stop) → starts symbols.CloseBrace rest ≡ false → Fails e (labels_at (length rest) rest) → Fails e total
  unfolding groups_at
  labels_of_group_fail Memory c h = tt
  labels_of_group_fail Syntax c h = no_groups (at n)
    where
      at : (m : ℕ) → groups_at r m rest ≡ None
      at zero = refl
      at (suc m) = rw (c, h) refl

  module _ (ls : List CaseLabel) (behind : List Terminal) (c : starts symbols.CloseBrace rest ≡ false) (l : labels_at (length rest) rest ≡ Some (ls, behind)) where
    pub body_of_group_fails : (e : Stop) → Fails e (body_at r (length behind) behind) → Fails e total
    unfolding groups_at
    body_of_group_fails Memory h = tt
    body_of_group_fails Syntax h = no_groups (at n)
      where
        at : (m : ℕ) → groups_at r m rest ≡ None
        at zero = refl
        at (suc m) = rw (c, l, h) refl

    pub groups_go_on : (ss : List Statement) (after : List Terminal) → 0 < n → body_at r (length behind) behind ≡ Some (ss, after) → with_front (list ++ group ls ss ∷ []) (groups_at r (n - 1) after) ≡ total
    unfolding groups_at
    groups_go_on ss after lt h =
        let k : n ≡ suc (n - 1) = omega arith in
        let step : with_front list (groups_at r n rest) ≡ with_front (list ++ group ls ss ∷ []) (groups_at r (n - 1) after) = ap (λ (m : ℕ). with_front list (groups_at r m rest)) k ∙ rw (c, l, h) (regroup list (group ls ss) (groups_at r (n - 1) after)) in
        sym step ∙ so_far
