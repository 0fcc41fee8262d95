-- What is given of the nodes that parts are made between, and how it is carried on.
use Rattle.std.proofs.Common.{◌≡◌, ℕ, ◌+◌, ◌<◌, ◌≤◌, List, [], ◌∷◌, ◌++◌, length, refl, sym, ap, subst, ◌∙◌, arith, append_assoc, append-nil, length-append}
use Rattle.std.specs.List.{All}
use Rattle.std.proofs.lemmas.List.Elements.{All-weaker, All-push}
use Rattle.cfa.specs.declared.parts.Node.{Node}
use Rattle.c_lower_rules.specs.cfa_order.Order.{Standing, GoesOn, Enters, TurnsBack, Resumes}
use Rattle.c_lower_rules.specs.declared.graph_of.parts.Around.{Around}
use Rattle.c_lower_rules.specs.declared.graph_of.parts.Parts.{Parts}
use Rattle.c_lower_rules.proofs.graph_of.Fits.{Agrees, NodeStands, Fits, fits_given}

abbrev pub stand : ℕ → List ℕ → Standing
stand r loops = record { rank = r; loops = loops }

-- where control comes from
pub record From (at : ℕ → Standing) (lo : ℕ) (loops : List ℕ) (node : ℕ) : Type 0 where
  pub below : (at node).rank ≤ lo
  pub same : (at node).loops ≡ loops

-- where control goes to: behind all that is made, within the loops or out of some of them
pub record Behind (at : ℕ → Standing) (hi : ℕ) (loops : List ℕ) (node : ℕ) : Type 0 where
  pub above : hi ≤ (at node).rank
  pub left : List ℕ
  pub within : loops ≡ (at node).loops ++ left

pub record To (at : ℕ → Standing) (hi : ℕ) (loops : List ℕ) (node : ℕ) : Type 0 where
  pub above : hi ≤ (at node).rank
  pub same : (at node).loops ≡ loops

-- where `return`, `break` and `continue` lead
pub record Leaves (at : ℕ → Standing) (hi : ℕ) (loops : List ℕ) (to_exit to_break to_continue : ℕ) : Type 0 where
  pub exit : Behind at hi loops to_exit
  pub on_break : Behind at hi loops to_break
  pub on_continue : Behind at hi loops to_continue

abbrev pub LeavesFrom : (ℕ → Standing) → ℕ → List ℕ → Around → Type 0
LeavesFrom at hi loops u = Leaves at hi loops u.exit u.on_break u.on_continue

-- the loops around, one for each level of the depth, whose heads are not above what comes
pub record Deep (depth lo : ℕ) (loops : List ℕ) : Type 0 where
  pub deep : depth ≡ length loops
  pub heads : All (λ h. h ≤ lo) loops

pub record Arranged (m : Parts) (n lo : ℕ) (Given : (ℕ → Standing) → ℕ → Type 0) : Type 0 where
  pub standings : List Standing
  pub hi : ℕ
  pub wide : lo < hi
  pub fits : Fits m n standings (λ at. Given at hi)

pub arrange : {m : Parts} {n lo : ℕ} {Given : (ℕ → Standing) → ℕ → Type 0} {ss : List Standing} {G : (ℕ → Standing) → Type 0} (hi : ℕ) → lo < hi → Fits m n ss G → ((at : ℕ → Standing) → Agrees at n ss → Given at hi → G at) → Arranged m n lo Given
arrange {Given = Given} {ss = ss} hi wide f g = record { standings = ss; hi = hi; wide = wide; fits = fits_given (λ at. Given at hi) f g }

-- ---- what is given, carried on

module _ {at : ℕ → Standing} {loops : List ℕ} where
  pub to_behind : {hi node : ℕ} → To at hi loops node → Behind at hi loops node
  to_behind {node = node} t = record { above = t.above; left = []; within = sym t.same ∙ sym (append-nil (at node).loops) }

  pub behind : {hi hi' node : ℕ} → hi' ≤ hi → Behind at hi loops node → Behind at hi' loops node
  behind le b = record { above = omega arith; left = b.left; within = b.within }

  pub to : {hi hi' node : ℕ} → hi' ≤ hi → To at hi loops node → To at hi' loops node
  to le b = record { above = omega arith; same = b.same }

  pub leaves : {hi hi' x b c : ℕ} → hi' ≤ hi → Leaves at hi loops x b c → Leaves at hi' loops x b c
  leaves le b = record { exit = behind le b.exit; on_break = behind le b.on_break; on_continue = behind le b.on_continue }

  pub deeper : {hi node : ℕ} (h : ℕ) → Behind at hi loops node → Behind at hi (loops ++ h ∷ []) node
  deeper {node = node} h b = record { above = b.above; left = b.left ++ h ∷ []; within = ap (λ xs. xs ++ h ∷ []) b.within ∙ append_assoc (at node).loops b.left (h ∷ []) }

  pub goes : {lo hi a z : ℕ} → lo < hi → From at lo loops a → Behind at hi loops z → GoesOn (at a) (at z)
  goes wide f b = record { rises = omega (arith, f.below, b.above); left = b.left; loops = f.same ∙ b.within }

  pub resumes : {lo hi a z : ℕ} → lo < hi → From at lo loops a → To at hi loops z → Resumes (at a) (at z)
  resumes wide f b = record { rises = omega (arith, f.below, b.above); same = b.same ∙ sym f.same }

  pub from_at : {r lo node : ℕ} → at node ≡ stand r loops → r ≤ lo → From at lo loops node
  from_at e le = let rank = ap (λ (s : Standing). s.rank) e in record { below = omega arith; same = ap (λ (s : Standing). s.loops) e }

  pub to_at : {r hi node : ℕ} → at node ≡ stand r loops → hi ≤ r → To at hi loops node
  to_at e le = let rank = ap (λ (s : Standing). s.rank) e in record { above = omega arith; same = ap (λ (s : Standing). s.loops) e }

  pub from_up : {lo hi node : ℕ} → lo ≤ hi → From at lo loops node → From at hi loops node
  from_up le f = record { below = omega (arith, f.below); same = f.same }

  pub enters : {r lo a h : ℕ} → lo < r → From at lo loops a → at h ≡ stand r (loops ++ r ∷ []) → Enters (at a) (at h)
  enters {r = r} wide f e =
      let rank = ap (λ (s : Standing). s.rank) e in
      let inner = ap (λ (s : Standing). s.loops) e in
      record { rises = omega (arith, f.below); loops = rw (e, f.same) refl }

pub turns_back : (at : ℕ → Standing) (loops : List ℕ) {r q l h : ℕ} → at l ≡ stand q (loops ++ r ∷ []) → at h ≡ stand r (loops ++ r ∷ []) → TurnsBack (at l) (at h)
turns_back at loops at_l at_h = record { outer = loops; loops = rw (at_l, at_h) refl; same = rw (at_l, at_h) refl }

pub third : (at : ℕ → Standing) (n : ℕ) {c : Standing} → at (n + 1 + 1) ≡ c → at (n + 2) ≡ c
third at n {c = c} h = let e : n + 1 + 1 ≡ n + 2 = omega arith in subst (λ k. at k ≡ c) e h

pub later : {depth lo hi : ℕ} {loops : List ℕ} → lo ≤ hi → Deep depth lo loops → Deep depth hi loops
later {lo = lo} {hi = hi} {loops = loops} le d = record { deep = d.deep; heads = All-weaker (λ h. h ≤ lo) (λ h. h ≤ hi) (λ h k. omega arith) loops d.heads }

pub stands : {x : Node} {depth lo : ℕ} {loops : List ℕ} (r : ℕ) → lo ≤ r → x.depth ≡ depth → Deep depth lo loops → NodeStands x (stand r loops)
stands {lo = lo} {loops = loops} r le e d = record { deep = e ∙ d.deep; heads = All-weaker (λ h. h ≤ lo) (λ h. h ≤ r) (λ h k. omega arith) loops d.heads }

pub deep_inside : {depth lo : ℕ} {loops : List ℕ} (r : ℕ) → lo ≤ r → Deep depth lo loops → Deep (depth + 1) r (loops ++ r ∷ [])
deep_inside {loops = loops} r le d = record {
  deep = omega (arith, d.deep, length-append loops (r ∷ []));
  heads = All-push (λ h. h ≤ r) loops r (later le d).heads (omega arith);
}
