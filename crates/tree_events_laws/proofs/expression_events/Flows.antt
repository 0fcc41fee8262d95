-- What flows tell, one after another.
use Rattle.std.proofs.Common.{◌≡◌, ℕ, ◌+◌, ◌≤◌, List, [], ◌++◌, length, Result, refl, sym, ap, ◌∙◌, arith, inl, inr, ⊎_elim, append_assoc, length-append}
use Rattle.cfa.specs.declared.state.State.{State}
use Rattle.cfa.specs.declared.state.Trap.{Trap}
use Rattle.cfa.specs.States.{value_in}
use Rattle.c_values.specs.declared.kinds.Kind.{Kind}
use Rattle.c_lower_rules.specs.declared.graph_of.parts.Operand.{Operand}
use Rattle.c_lower_rules.specs.graph_of.Builder.{Builder, Flow, give, ◌then◌, ending}
use Rattle.tree_meaning.specs.Outcomes.{Store}
use Rattle.tree_meaning.specs.Expressions.{Rest}
use Rattle.tree_events.specs.Outcomes.{Told, ◌thence◌, unless_trap}
use Rattle.tree_events.specs.Expressions.{First, no_parts, both_parts}
use Rattle.tree_meaning_laws.specs.expression_laws.Sits.{Sits}
use Rattle.tree_meaning_laws.specs.expression_laws.Contexts.{Context, Held, Related, Proper, Clear, Outside, parts_of}
use Rattle.tree_meaning_laws.specs.expression_laws.Flows.{Ended, HasRest}
use Rattle.tree_meaning_laws.proofs.expression_laws.Sits.{all_sit}
use Rattle.tree_meaning_laws.proofs.expression_laws.Cells.{Drops, drops_after, proper_after, clear_after}
use Rattle.tree_meaning_laws.proofs.expression_laws.Flows.{nil_behind, rest_is}
use Rattle.tree_events_laws.specs.expression_events.Follows.{Follows}
use Rattle.tree_events_laws.specs.expression_events.Flows.{Flows}
use Rattle.tree_events_laws.proofs.expression_events.Follows.{follows_give, follows_then, follows_less}

module _ (c : Context) where
  pub give_flows : {A : Type 0} (ho : Held) (low high : ℕ) (Means : Held → List ℕ → A → Type 0) (x : A) → Means ho [] x → Flows c ho low high 0 no_parts Means (give x)
  give_flows ho low high Means x h vs a n e k sits s st at =
      follows_give (parts_of c) c.input (Ended c ho low high 0 Means vs a x) st vs s
      (record { held = ho; news = []; are = sym (nil_behind vs); long = refl; outside = λ i o. refl; related = at; means = h })

  -- what is given is made into another
  pub map_flows : {A B : Type 0} (ho : Held) (low high parts : ℕ) (first : First) (Means : Held → List ℕ → A → Type 0) (Means' : Held → List ℕ → B → Type 0) (x : Flow A) (g : A → B)
      → Flows c ho low high parts first Means x → ((held : Held) (news : List ℕ) (y : A) → Means held news y → Means' held news (g y)) → Flows c ho low high parts first Means' (x then λ y. give (g y))
  map_flows ho low high parts first Means Means' x g hx h vs a n e k sits s st at =
      let S = all_sit (parts_of c) _ n e k sits in
      let y = x a n e k in
      follows_less (parts_of c) c.input (Ended c ho low high parts Means vs y.end y.gives) (Ended c ho low high parts Means' vs y.end (g y.gives)) st s.turns s.turns (first vs s)
      (λ ws s' to E. record { held = E.held; news = E.news; are = E.are; long = E.long; outside = E.outside; related = E.related; means = h E.held E.news y.gives E.means })
      (hx vs a n e k S.0 s st at)

  -- outside of both, where one lies behind the other
  outside_first : (low mid high i : ℕ) → mid ≤ high → Outside c low high i → Outside c low mid i
  outside_first low mid high i l o = ⊎_elim (λ less. inl less) (λ more. inr (omega (arith, more, l))) o

  outside_second : (low mid high i : ℕ) → low ≤ mid → Outside c low high i → Outside c mid high i
  outside_second low mid high i l o = ⊎_elim (λ less. inl (omega (arith, less, l))) (λ more. inr more) o

  module _ {A B D : Type 0} (ho : Held) (low mid high p q : ℕ) (first second : First) (Means : Held → List ℕ → A → Type 0) (Means' : Held → List ℕ → B → Type 0) (Whole : Held → List ℕ → D → Type 0)
      (x : Flow A) (y : Flow B) (joined : A → B → D) (before : low ≤ mid) (after : mid ≤ high) (proper : Proper c ho) (clear : Clear c ho low high)
      (hx : Flows c ho low mid p first Means x)
      (hy : (held : Held) → Proper c held → Clear c held mid high → Flows c held mid high q second Means' y)
      (works : (held held' : Held) (news news' : List ℕ) (o : A) (o' : B) → Drops held' held → length news ≡ p → Means held news o → Means' held' news' o' → Whole held' (news ++ news') (joined o o')) where
    clear_low : Clear c ho low mid
    clear_low cell l h = clear cell l (omega (arith, h, after))

    clear_high : Clear c ho mid high
    clear_high cell l h = clear cell (omega (arith, l, before)) h

    -- Two flows: the first parts of both, in order. The second leaves alone what the first one holds.
    pub pair_flows : Flows c ho low high (p + q) (both_parts first second) Whole (x then λ o. y then λ o'. give (joined o o'))
    pair_flows vs a n e k sits s st at =
        let S = all_sit (parts_of c) _ n e k sits in
        let v = x a n e k in
        follows_then (parts_of c) c.input (Ended c ho low mid p Means vs v.end v.gives) _ st s.turns s.turns (first vs s) second (hx vs a n e k S.0 s st at)
        (λ ws s' to E few. behind_first v.end v.gives _ _ _ vs ws s' to E (all_sit (parts_of c) _ _ _ _ S.1.0).0)
      where
        behind_first : (b : ℕ) (o : A) (n e k : ℕ) (vs ws : List ℕ) (s' : Store) (to : State) → (E : Ended c ho low mid p Means vs b o ws s' to) → Sits (parts_of c) (y b n e k).made n e k
            → Follows (parts_of c) c.input to s'.turns s'.turns (Ended c ho low high (p + q) Whole vs (y b n e k).end (joined o (y b n e k).gives)) (second ws s')
        behind_first b o n e k vs ws s' to E sits =
            let own = clear_after c ho E.held low mid proper clear_low E.outside high clear_high in
            let pr = proper_after c ho E.held low mid proper clear_low E.outside in
            let w = y b n e k in
            follows_less (parts_of c) c.input (Ended c E.held mid high q Means' ws w.end w.gives) (Ended c ho low high (p + q) Whole vs w.end (joined o w.gives)) to s'.turns s'.turns (second ws s')
            (λ zs s'' too F. record {
              held = F.held;
              news = E.news ++ F.news;
              are = F.are ∙ ap (λ (us : List ℕ). us ++ F.news) E.are ∙ append_assoc vs E.news F.news;
              long = length-append E.news F.news ∙ ap (λ i. i + length F.news) E.long ∙ ap (λ i. p + i) F.long;
              outside = λ i out. F.outside i (outside_second low mid high i before out) ∙ E.outside i (outside_first low mid high i after out);
              related = F.related;
              means = works E.held F.held E.news F.news o w.gives (drops_after c E.held F.held mid high pr own F.outside) E.long E.means F.means;
            })
            (hy E.held pr own ws b n e k sits s' to E.related)

  -- ---- an expression, and what is made behind it

  pub value_then : {B : Type 0} (ho : Held) (low high parts : ℕ) (kind : Kind) (first : First) (rest : Rest) (x : Flow Operand) (f : Operand → ℕ → Builder) (Reach : B → Store → State → Type 0) (k' : ℕ → Store → Told B) → Proper c ho → Clear c ho low high
      → Flows c ho low high parts first (HasRest c kind rest) x
      → ((held : Held) → Drops held ho → Proper c held → ((i : ℕ) → Outside c low high i → held i ≡ ho i) → (o : Operand) (b n e k : ℕ) → Sits (parts_of c) (f o b n e k) n e k → (s : Store) (st : State) → Related c held b s st → (r : Result ℕ Trap) → value_in st o.value ≡ r
      → Follows (parts_of c) c.input st s.turns s.turns Reach (unless_trap r (λ v. k' v s)))
      → (a n e k : ℕ) → Sits (parts_of c) (ending x f a n e k) n e k → (s : Store) (st : State) → Related c ho a s st
      → Follows (parts_of c) c.input st s.turns s.turns Reach (first [] s thence λ vs s'. unless_trap (rest vs s'.cells) (λ v. k' v s'))
  value_then ho low high parts kind first rest x f Reach k' proper clear hx hf a n e k sits s st at =
      let S = all_sit (parts_of c) _ n e k sits in
      let y = x a n e k in
      follows_then (parts_of c) c.input (Ended c ho low high parts (HasRest c kind rest) [] y.end y.gives) Reach st s.turns s.turns (first [] s) (λ vs s'. unless_trap (rest vs s'.cells) (λ v. k' v s')) (hx [] a n e k S.0 s st at)
      (λ ws s' to E few.
      hf E.held (drops_after c ho E.held low high proper clear E.outside) (proper_after c ho E.held low high proper clear E.outside) E.outside y.gives y.end _ _ _ S.1.0 s' to E.related (rest ws s'.cells)
      (rest_is c kind rest E.held E.news y.gives y.end s' to E.means E.related ∙ ap (λ (ns : List ℕ). rest ns s'.cells) (sym E.are)))
