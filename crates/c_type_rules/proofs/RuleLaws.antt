-- What rules do to the state of typing.
use Rattle.std.proofs.Common.{◌≡◌, ℕ, ◌+◌, ◌-◌, ◌<◌, ◌≤◌, List, [], ◌∷◌, ◌++◌, true, false, map, length, drop, get_or, Option, refl, sym, ap, subst, ◌∙◌, append_assoc, append-nil, arith}
use Rattle.std.proofs.lemmas.List.{take_at, drop_all, drop_more}
use Rattle.fq_core.specs.declared.span.Span.{Span}
use Rattle.c_type_rules.specs.declared.faults.Found.{Found}
use Rattle.c_type_rules.specs.declared.scopes.Bound.{Bound}
use Rattle.c_type_rules.specs.declared.typer.Typer.{Typer}
use Rattle.c_type_rules.specs.Faults.{noted, first_with}
use Rattle.c_type_rules.specs.Scopes.{newest, has_name, has_case}
use Rattle.c_type_rules.specs.Rule.{Rule, at, behind, pure, ◌then◌, fault, expect, with_fault, look, is_label, here, temporary, local, bind, bind_label, is_case, bind_case, in_scope, in_switch, uncounted, each, alone_in, entered, left, with_cases, numbered_from, made_by, after}

pub first_with-append : (first : Option Found) (fs gs : List Found) → first_with first (fs ++ gs) ≡ first_with (first_with first fs) gs
unfolding first_with
first_with-append first [] gs = refl
first_with-append first (f ∷ fs) gs = first_with-append (noted first f) fs gs

plus_assoc : (a b c : ℕ) → a + (b + c) ≡ (a + b) + c
plus_assoc a b c = omega arith

plus_zero : (a : ℕ) → a + 0 ≡ a
plus_zero a = omega arith

abbrev state : List Bound → List (List ℕ) → List (Option ℕ) → ℕ → ℕ → ℕ → Option Found → Typer
state b n v l c t f = record { bound = b; labels = n; cases = v; level = l; local = c; temporary = t; fault = f }

same_state : {b b' : List Bound} {n n' : List (List ℕ)} {v v' : List (Option ℕ)} {l c c' t t' : ℕ} {f f' : Option Found} → b ≡ b' → n ≡ n' → v ≡ v' → c ≡ c' → t ≡ t' → f ≡ f' → state b n v l c t f ≡ state b' n' v' l c' t' f'
same_state {l = l} p o u q r z = λ i. state (p i) (o i) (u i) l (q i) (r i) (z i)

-- nothing is added
nothing_added : (s : Typer) → state (s.bound ++ []) (s.labels ++ []) (s.cases ++ []) s.level (s.local + 0) (s.temporary + 0) s.fault ≡ s
nothing_added s = same_state (append-nil s.bound) (append-nil s.labels) (append-nil s.cases) (plus_zero s.local) (plus_zero s.temporary) refl

module _ {A : Type 0} (a : A) (s : Typer) where
  pub pure_made : made_by (pure a) s ≡ a
  unfolding made_by pure
  pure_made = refl

  pub pure_after : after (pure a) s ≡ s
  unfolding after pure first_with
  pure_after = nothing_added s

module _ {A B : Type 0} (m : Rule A) (k : A → Rule B) (s : Typer) where
  pub then_made : made_by (m then k) s ≡ made_by (k (made_by m s)) (after m s)
  unfolding made_by after ◌then◌
  then_made = refl

  pub then_after : after (m then k) s ≡ after (k (made_by m s)) (after m s)
  unfolding made_by after ◌then◌
  then_after =
      let d = m (at s) in
      let e = k d.made (behind (at s) d) in
      same_state (sym (append_assoc s.bound d.bound e.bound)) (sym (append_assoc s.labels d.labels e.labels)) (sym (append_assoc s.cases d.cases e.cases)) (plus_assoc s.local d.locals e.locals) (plus_assoc s.temporary d.temporaries e.temporaries) (first_with-append s.fault d.faults e.faults)

module _ {A : Type 0} (code : ℕ) (span : Span) (a : A) (s : Typer) where
  pub fault_made : made_by (fault code span a) s ≡ a
  unfolding made_by fault
  fault_made = refl

  pub fault_after : after (fault code span a) s ≡ with_fault code span s
  unfolding after fault with_fault first_with
  fault_after = same_state (append-nil s.bound) (append-nil s.labels) (append-nil s.cases) (plus_zero s.local) (plus_zero s.temporary) refl

module _ (w : List ℕ) (s : Typer) where
  pub look_made : made_by (look w) s ≡ newest w s.bound
  unfolding made_by look
  look_made = refl

  pub look_after : after (look w) s ≡ s
  unfolding after look first_with
  look_after = nothing_added s

  pub is_label_made : made_by (is_label w) s ≡ has_name s.labels w
  unfolding made_by is_label
  is_label_made = refl

  pub is_label_after : after (is_label w) s ≡ s
  unfolding after is_label first_with
  is_label_after = nothing_added s

  pub bind_label_after : after (bind_label w) s ≡ record { bound = s.bound; labels = s.labels ++ w ∷ []; cases = s.cases; level = s.level; local = s.local; temporary = s.temporary; fault = s.fault }
  unfolding after bind_label first_with
  bind_label_after = same_state (append-nil s.bound) refl (append-nil s.cases) (plus_zero s.local) (plus_zero s.temporary) refl

module _ (v : Option ℕ) (s : Typer) where
  pub is_case_made : made_by (is_case v) s ≡ has_case s.cases v
  unfolding made_by is_case
  is_case_made = refl

  pub is_case_after : after (is_case v) s ≡ s
  unfolding after is_case first_with
  is_case_after = nothing_added s

  pub bind_case_after : after (bind_case v) s ≡ record { bound = s.bound; labels = s.labels; cases = s.cases ++ v ∷ []; level = s.level; local = s.local; temporary = s.temporary; fault = s.fault }
  unfolding after bind_case first_with
  bind_case_after = same_state (append-nil s.bound) (append-nil s.labels) refl (plus_zero s.local) (plus_zero s.temporary) refl

module _ (s : Typer) where
  pub here_made : made_by here s ≡ s.level
  unfolding made_by here
  here_made = refl

  pub here_after : after here s ≡ s
  unfolding after here first_with
  here_after = nothing_added s

  pub temporary_made : made_by temporary s ≡ s.temporary
  unfolding made_by temporary
  temporary_made = refl

  pub temporary_after : after temporary s ≡ record { bound = s.bound; labels = s.labels; cases = s.cases; level = s.level; local = s.local; temporary = s.temporary + 1; fault = s.fault }
  unfolding after temporary first_with
  temporary_after = same_state (append-nil s.bound) (append-nil s.labels) (append-nil s.cases) (plus_zero s.local) refl refl

  pub local_made : (cells : ℕ) → made_by (local cells) s ≡ s.local
  unfolding made_by local
  local_made cells = refl

  pub local_after : (cells : ℕ) → after (local cells) s ≡ record { bound = s.bound; labels = s.labels; cases = s.cases; level = s.level; local = s.local + cells; temporary = s.temporary; fault = s.fault }
  unfolding after local first_with
  local_after cells = same_state (append-nil s.bound) (append-nil s.labels) (append-nil s.cases) refl (plus_zero s.temporary) refl

  pub bind_after : (b : Bound) → after (bind b) s ≡ record { bound = s.bound ++ b ∷ []; labels = s.labels; cases = s.cases; level = s.level; local = s.local; temporary = s.temporary; fault = s.fault }
  unfolding after bind first_with
  bind_after b = same_state refl (append-nil s.labels) (append-nil s.cases) (plus_zero s.local) (plus_zero s.temporary) refl

module _ {A : Type 0} (m : Rule A) (s : Typer) where
  pub scope_made : made_by (in_scope m) s ≡ made_by m (entered s)
  unfolding made_by in_scope entered
  scope_made = refl

  pub scope_after : after (in_scope m) s ≡ left (length s.bound) (after m (entered s))
  unfolding after in_scope entered left
  scope_after =
      let d = m (at (entered s)) in
      λ i. state ((append-nil s.bound ∙ sym (take_at s.bound d.bound (length s.bound) refl)) i) (s.labels ++ d.labels) (s.cases ++ d.cases) (one_less s.level i) (s.local + d.locals) (s.temporary + d.temporaries) (first_with s.fault d.faults)
    where
      one_less : (n : ℕ) → n ≡ n + 1 - 1
      one_less n = omega arith

  pub switch_made : made_by (in_switch m) s ≡ made_by m (with_cases [] s)
  unfolding made_by in_switch with_cases
  switch_made = refl

  pub switch_after : after (in_switch m) s ≡ with_cases s.cases (after m (with_cases [] s))
  unfolding after in_switch with_cases
  switch_after =
      let d = m (at (with_cases [] s)) in
      λ i. state (s.bound ++ d.bound) (s.labels ++ d.labels) (append-nil s.cases i) s.level (s.local + d.locals) (s.temporary + d.temporaries) (first_with s.fault d.faults)

  pub uncounted_made : made_by (uncounted m) s ≡ made_by m (numbered_from 0 s)
  unfolding made_by uncounted numbered_from
  uncounted_made = refl

  pub uncounted_after : after (uncounted m) s ≡ numbered_from s.temporary (after m (numbered_from 0 s))
  unfolding after uncounted numbered_from
  uncounted_after =
      let d = m (at (numbered_from 0 s)) in
      λ i. state (s.bound ++ d.bound) (s.labels ++ d.labels) (s.cases ++ d.cases) s.level (s.local + d.locals) (plus_zero s.temporary i) (first_with s.fault d.faults)

module _ (code : ℕ) (span : Span) (s : Typer) where
  pub expect_true : after (expect code span true) s ≡ s
  unfolding expect
  expect_true = pure_after tt s

  pub expect_false : after (expect code span false) s ≡ with_fault code span s
  unfolding expect
  expect_false = fault_after code span tt s

pub ruleset expect_laws = (expect_true, expect_false)

-- ---- one after another

pub each_map : {X Y A : Type 0} (f : Y → Rule (List A)) (g : X → Y) (xs : List X) → each f (map g xs) ≡ each (λ x. f (g x)) xs
unfolding each
each_map f g [] = refl
each_map f g (x ∷ xs) = ap (λ m. f (g x) then λ ys. m then λ zs. pure (ys ++ zs)) (each_map f g xs)

module _ {X A : Type 0} (f : X → Rule (List A)) (s : Typer) where
  none_made : made_by (each f []) s ≡ []
  unfolding each
  none_made = pure_made [] s

  none_after : after (each f []) s ≡ s
  unfolding each
  none_after = pure_after [] s

  more_made : (x : X) (xs : List X) → made_by (each f (x ∷ xs)) s ≡ made_by (f x) s ++ made_by (each f xs) (after (f x) s)
  unfolding each
  more_made x xs = simp (then_made, pure_made)

  more_after : (x : X) (xs : List X) → after (each f (x ∷ xs)) s ≡ after (each f xs) (after (f x) s)
  unfolding each
  more_after x xs = simp (then_after, pure_after)

-- what is made so far, and what is made of those that are left, is what is made of all
pub record Left {X A : Type 0} (f : X → Rule (List A)) (base : List A) (all : List X) (s0 : Typer) (rest : List X) (made : List A) (s : Typer) : Type 0 where
  pub made_is : base ++ made_by (each f all) s0 ≡ made ++ made_by (each f rest) s
  pub state_is : after (each f all) s0 ≡ after (each f rest) s

module _ {X A : Type 0} (f : X → Rule (List A)) (base : List A) (all : List X) (s0 : Typer) (i : ℕ) where
  pub left_turn : (x : X) (made made' : List A) (s s' : Typer) → i < length all → x ≡ get_or all i x
      → made' ≡ made ++ made_by (f x) s → s' ≡ after (f x) s → Left f base all s0 (drop i all) made s → Left f base all s0 (drop (i + 1) all) made' s'
  left_turn x made made' s s' within is em es l =
      let here : drop i all ≡ x ∷ drop (i + 1) all = subst (λ (y : X). drop i all ≡ y ∷ drop (i + 1) all) (sym is) (drop_more all i x within) in
      let ys = drop (i + 1) all in
      record {
        made_is =
            l.made_is ∙ ap (λ zs. made ++ made_by (each f zs) s) here ∙ ap (λ zs. made ++ zs) (more_made f s x ys)
            ∙ sym (append_assoc made (made_by (f x) s) _) ∙ rw (em, es) refl;
        state_is = l.state_is ∙ ap (λ zs. after (each f zs) s) here ∙ more_after f s x ys ∙ ap (after (each f ys)) (sym es);
      }

  module _ (made : List A) (s : Typer) (end : length all ≤ i) (l : Left f base all s0 (drop i all) made s) where
    none_left : drop i all ≡ []
    none_left = drop_all i all end

    pub left_made : made ≡ base ++ made_by (each f all) s0
    left_made = sym (l.made_is ∙ ap (λ zs. made ++ made_by (each f zs) s) none_left ∙ ap (λ zs. made ++ zs) (none_made f s) ∙ append-nil made)

    pub left_after : s ≡ after (each f all) s0
    left_after = sym (l.state_is ∙ ap (λ zs. after (each f zs) s) none_left ∙ none_after f s)

module _ {A : Type 0} (m : Rule A) (s : Typer) where
  pub one_made : made_by (alone_in m) s ≡ made_by m s ∷ []
  one_made = simp (then_made, pure_made)

  pub one_after : after (alone_in m) s ≡ after m s
  one_after = simp (then_after, pure_after)

-- where each gives one thing
module _ {X A : Type 0} (g : X → Rule A) (base : List A) (all : List X) (s0 : Typer) (i : ℕ) where
  pub left_one : (x : X) (v : A) (made made' : List A) (s s' : Typer) → i < length all → x ≡ get_or all i x
      → v ≡ made_by (g x) s → made' ≡ made ++ v ∷ [] → s' ≡ after (g x) s
      → Left (λ y. alone_in (g y)) base all s0 (drop i all) made s → Left (λ y. alone_in (g y)) base all s0 (drop (i + 1) all) made' s'
  left_one x v made made' s s' within is ev em es l =
      left_turn (λ y. alone_in (g y)) base all s0 i x made made' s s' within is
      (em ∙ ap (λ w. made ++ w ∷ []) ev ∙ ap (λ w. made ++ w) (sym (one_made (g x) s))) (es ∙ sym (one_after (g x) s)) l

pub ruleset cell_laws = (temporary_made, temporary_after, local_made, local_after)
