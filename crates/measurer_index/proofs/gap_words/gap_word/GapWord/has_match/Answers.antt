use Rattle.std.proofs.Common.{◌≡◌, ◌==◌, ℕ, Bool, true, false, not, None, sym, ◌∙◌, ap, subst, eqb-true, eq-eqb}
use Rattle.std.proofs.lemmas.Bool.{false≢true}
use Rattle.measurer_index.specs.gap_words.Parts.{IsFirstStart, IsFirstStartOrNone}
use Rattle.measurer_index.proofs.gap_words.Gaps.{none_is_no_segment, start_is_segment}
use Rattle.measurer_index.proofs.gap_words.gap_word.GapWord.has_match.Goals as goal

pub returns-in-None : goal.returns-in-None
returns-in-None c = λ pattern of. none_is_no_segment c.args.path.now pattern c.args.self.now.pieces.items of c.args.first c.args.last (λ i le. subst (λ w. IsFirstStartOrNone c.args.path.now c.args.last w 0 None) c.deref.ensures.value c.in-None.ensures i le)

-- what the answer says of the first state
anywhere : (first : Bool) (i : ℕ) → not first ≡ true → (not first ≡ true → first ≡ true → i ≡ 0) × (not first ≡ false → (first ≡ true) × (¬ (i ≡ 0)))
anywhere true i e = absurd (false≢true e)
anywhere false i e = (λ n t. absurd (false≢true t), λ n. absurd (false≢true (sym n)))

at_first : (first : Bool) (i : ℕ) → first ≡ true → ((i == 0) ≡ true → first ≡ true → i ≡ 0) × ((i == 0) ≡ false → (first ≡ true) × (¬ (i ≡ 0)))
at_first first i e = (λ n t. eqb-true i 0 n, λ n. (e, λ z. false≢true (sym n ∙ eq-eqb i 0 z)))

pub returns-then-not-first : goal.returns-then-not-first
returns-then-not-first c = λ pattern of.
    let h = subst (λ w. IsFirstStart c.args.path.now c.args.last w 0 c.in-Some.start) c.deref.ensures.value c.in-Some.ensures in
    let r = anywhere c.args.first c.in-Some.start (ap not c.if-not-first.true) in
    start_is_segment c.args.path.now pattern c.args.self.now.pieces.items of c.args.first c.args.last c.in-Some.start (not c.args.first) h r.0 r.1

pub returns-else-not-first : goal.returns-else-not-first
returns-else-not-first c = λ pattern of.
    let h = subst (λ w. IsFirstStart c.args.path.now c.args.last w 0 c.in-Some.start) c.deref.ensures.value c.in-Some.ensures in
    let r = at_first c.args.first c.in-Some.start c.if-not-first.false in
    start_is_segment c.args.path.now pattern c.args.self.now.pieces.items of c.args.first c.args.last c.in-Some.start (c.in-Some.start == 0) h r.0 r.1
