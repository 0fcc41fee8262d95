-- What is answered for a query, and why.
use Rattle.std.proofs.Common.{◌≡◌, ℕ, ◌≤◌, Bool, true, false, List, length, length-drop, suc, Option, Some, None, Result, Ok, Err, refl, sym, ap, subst, ◌∙◌, arith}
use Rattle.std.specs.Prelude.{IsErrOf, nat_le}
use Rattle.std.proofs.lemmas.Bool.{le-leb, lt-leb, leb-true, leb-false}
use Rattle.fq_core.specs.declared.refusal.Place.{Place}
use Rattle.fq_core.specs.declared.refusal.Place.TheVariants as place
use Rattle.fq_core.specs.declared.refusal.Fault.{Fault}
use Rattle.fq_core.specs.declared.refusal.Fault.TheVariants as fault
use Rattle.fql_tokens.specs.declared.token.Token.{Token}
use Rattle.fql_tokens.specs.Cuts.{Cutting, accepted, stopped, with_token, Cuts, ends, a_blank, a_token, unknown}
use Rattle.fq_core.specs.Refusals.{refusal, IsUnlessMemory}
use Rattle.fql_tokens.specs.Accepted.{AreTokens, IsRefusedText}
use Rattle.fql_tokens.specs.Outcome.{text_outcome}
use Rattle.fq_core.proofs.RefusalLaws.{same_refusal}
use Rattle.fql_tokens.proofs.OutcomeLaws.{text_accepted, text_accepts, text_refused, text_refuses}
use Rattle.fql_tokens.specs.declared.first.Mode.{Mode}
use Rattle.fql_tokens.proofs.Sizes.{token_fits}
use Rattle.fql_read.specs.declared.query.Query.{Query}
use Rattle.fql_read.specs.QueryForm.{predicates_of, Spells}
use Rattle.fql_read.specs.QueryLimits.{most_letters, first_repetition, bad_number, letters_of}
use Rattle.fql_read.specs.Asks.{Asks, IsRefusedQuery, no_tokens, no_query, repeats, out_of_bounds, too_many}
use Rattle.fql_read.specs.ReadingQueries.{query_at, by_letters, by_number, by_repetition, limited, spelled_of, by_query, tokens_outcome, by_text, query_outcome}
use Rattle.fql_read.proofs.QueryLaws.{query_takes, query_again}

-- the query that the tokens spell is read, and no other
read_spelled : (text : List ℕ) (ts : List Token) (q : Query) → query_at text (predicates_of ts) ts ≡ Some q → Spells text ts q
read_spelled text ts q e = let h = query_takes text (predicates_of ts) ts in rw e at h

spelled_read : (text : List ℕ) (ts : List Token) (q : Query) → Spells text ts q → query_at text (predicates_of ts) ts ≡ Some q
spelled_read text ts q d = query_again text (predicates_of ts) d

-- ---- by the tokens

abbrev Refused : ℕ → Place → Result Query Fault
Refused code p = Err (refusal code p)

tokens_accepted : (text : List ℕ) (ts : List Token) (q : Query) → AreTokens text ts → tokens_outcome text ts ≡ Ok q → Asks text q
unfolding tokens_outcome
tokens_accepted text ts q a e = at (query_at text (predicates_of ts) ts) refl e
  where
    few : (r : Query) (v : Bool) → nat_le (letters_of ts r) most_letters ≡ v → query_at text (predicates_of ts) ts ≡ Some r → first_repetition r.cover.body ≡ None → bad_number ts ≡ None → by_letters r v ≡ Ok q → Asks text q
    few r false l g h i e = absurd cc
    few r true l g h i e =
        let same : r ≡ q = cc in
        subst (λ (s : Query). Asks text s) same (record { tokens = ts; cut = a; spelled = read_spelled text ts r g; once = h; bounded = i; few = leb-true (letters_of ts r) most_letters l })

    bounded : (r : Query) (o : Option ℕ) → bad_number ts ≡ o → query_at text (predicates_of ts) ts ≡ Some r → first_repetition r.cover.body ≡ None → by_number ts r o ≡ Ok q → Asks text q
    bounded r (Some c) i g h e = absurd cc
    bounded r None i g h e = few r (nat_le (letters_of ts r) most_letters) refl g h i e

    once : (r : Query) (o : Option ℕ) → first_repetition r.cover.body ≡ o → query_at text (predicates_of ts) ts ≡ Some r → by_repetition ts r o ≡ Ok q → Asks text q
    once r (Some c) h g e = absurd cc
    once r None h g e = bounded r (bad_number ts) refl g h e

    at : (o : Option Query) → query_at text (predicates_of ts) ts ≡ o → by_query ts o ≡ Ok q → Asks text q
    at None g e = absurd cc
    at (Some r) g e = once r (first_repetition r.cover.body) refl g e

tokens_refused : (text : List ℕ) (ts : List Token) (code : ℕ) (p : Place) → AreTokens text ts → tokens_outcome text ts ≡ Refused code p → IsRefusedQuery text code p
unfolding tokens_outcome
tokens_refused text ts code p a e = at (query_at text (predicates_of ts) ts) refl e
  where
    few : (r : Query) (v : Bool) → nat_le (letters_of ts r) most_letters ≡ v → query_at text (predicates_of ts) ts ≡ Some r → first_repetition r.cover.body ≡ None → bad_number ts ≡ None → by_letters r v ≡ Refused code p → IsRefusedQuery text code p
    few r true l g h i e = absurd cc
    few r false l g h i e =
        same_refusal {X = Query} 63 code (place.Limit most_letters) p (IsRefusedQuery text) e
        (too_many ts r a (read_spelled text ts r g) h i (leb-false (letters_of ts r) most_letters l))

    bounded : (r : Query) (o : Option ℕ) → bad_number ts ≡ o → query_at text (predicates_of ts) ts ≡ Some r → first_repetition r.cover.body ≡ None → by_number ts r o ≡ Refused code p → IsRefusedQuery text code p
    bounded r (Some c) i g h e =
        same_refusal {X = Query} 64 code (place.Query c) p (IsRefusedQuery text) e (out_of_bounds ts r c a (read_spelled text ts r g) h i)
    bounded r None i g h e = few r (nat_le (letters_of ts r) most_letters) refl g h i e

    once : (r : Query) (o : Option ℕ) → first_repetition r.cover.body ≡ o → query_at text (predicates_of ts) ts ≡ Some r → by_repetition ts r o ≡ Refused code p → IsRefusedQuery text code p
    once r (Some c) h g e =
        same_refusal {X = Query} 62 code (place.Query c) p (IsRefusedQuery text) e (repeats ts r c a (read_spelled text ts r g) h)
    once r None h g e = bounded r (bad_number ts) refl g h e

    at : (o : Option Query) → query_at text (predicates_of ts) ts ≡ o → by_query ts o ≡ Refused code p → IsRefusedQuery text code p
    at None g e =
        same_refusal {X = Query} 61 code place.QueryWhole p (IsRefusedQuery text) e
        (no_query ts a (λ q d. let none : None ≡ Some q = sym g ∙ spelled_read text ts q d in absurd cc))
    at (Some r) g e = once r (first_repetition r.cover.body) refl g e

-- ---- by the text

pub query_accepted : (text : List ℕ) (q : Query) → query_outcome text ≡ Ok q → Asks text q
unfolding query_outcome
query_accepted text q e = at (text_outcome text) refl e
  where
    at : (o : Result (List Token) Fault) → text_outcome text ≡ o → by_text text o ≡ Ok q → Asks text q
    at (Err f) g e = absurd cc
    at (Ok ts) g e = tokens_accepted text ts q (text_accepted text ts g) e

pub query_accepts : (text : List ℕ) (q : Query) → Asks text q → query_outcome text ≡ Ok q
unfolding query_outcome tokens_outcome
query_accepts text q a =
    let few : nat_le (letters_of a.tokens q) most_letters ≡ true = le-leb _ _ a.few in
    rw (text_accepts text a.tokens a.cut, spelled_read text a.tokens q a.spelled, a.once, a.bounded, few) refl

pub query_refused : (text : List ℕ) (code : ℕ) (p : Place) → query_outcome text ≡ Refused code p → IsRefusedQuery text code p
unfolding query_outcome
query_refused text code p e = at (text_outcome text) refl e
  where
    at : (o : Result (List Token) Fault) → text_outcome text ≡ o → by_text text o ≡ Refused code p → IsRefusedQuery text code p
    at (Err f) g e = no_tokens (text_refused text code p (let same : f ≡ refusal code p = cc in rw same at g))
    at (Ok ts) g e = tokens_refused text ts code p (text_accepted text ts g) e

pub query_refuses : {text : List ℕ} {code : ℕ} {p : Place} → IsRefusedQuery text code p → query_outcome text ≡ Refused code p
unfolding query_outcome tokens_outcome
query_refuses (no_tokens d) = rw (text_refuses d) refl
query_refuses {text} (no_query ts a none) = rw (text_accepts text ts a) (at (query_at text (predicates_of ts) ts) refl)
  where
    at : (o : Option Query) → query_at text (predicates_of ts) ts ≡ o → by_query ts o ≡ Refused 61 place.QueryWhole
    at None g = refl
    at (Some q) g = absurd (none q (read_spelled text ts q g))
query_refuses {text} (repeats ts q c a d h) = rw (text_accepts text ts a, spelled_read text ts q d, h) refl
query_refuses {text} (out_of_bounds ts q c a d h i) = rw (text_accepts text ts a, spelled_read text ts q d, h, i) refl
query_refuses {text} (too_many ts q a d h i many) =
    let more : nat_le (letters_of ts q) most_letters ≡ false = lt-leb _ _ many in
    rw (text_accepts text ts a, spelled_read text ts q d, h, i, more) refl

pub one_query : (text : List ℕ) (q r : Query) → Asks text q → Asks text r → q ≡ r
one_query text q r a b = let e : Ok q ≡ Ok r = sym (query_accepts text q a) ∙ query_accepts text r b in same_ok q r e
  where
    same_ok : (q r : Query) → (let x : Result Query Fault = Ok q in let y : Result Query Fault = Ok r in x ≡ y) → q ≡ r
    same_ok q r e = cc

-- ---- what the calls say

-- by the query that the tokens spell
by_spelled : (ts : List Token) (o : Option Query) (q : Query) → spelled_of o ≡ Ok q → by_query ts o ≡ limited ts q
by_spelled ts None q e = absurd cc
by_spelled ts (Some r) q e = let same : r ≡ q = cc in ap (limited ts) same

itself : (r : Result Query Fault) → IsUnlessMemory r r
itself (Ok q) = refl
itself (Err fault.Memory) = tt
itself (Err (fault.Refused r)) = refl

pub spelled_outcome : (text : List ℕ) (ts : List Token) (q : Query) (r : Result Query Fault) → spelled_of (query_at text (predicates_of ts) ts) ≡ Ok q → r ≡ limited ts q → IsUnlessMemory r (tokens_outcome text ts)
unfolding tokens_outcome
spelled_outcome text ts q r e h = rw (by_spelled ts (query_at text (predicates_of ts) ts) q e, ← h) (itself r)

by_fault : (ts : List Token) (o : Option Query) (f : Fault) → IsUnlessMemory {X = Query} (Err f) (spelled_of o) → IsUnlessMemory {X = Query} (Err f) (by_query ts o)
by_fault ts None f h = h
by_fault ts (Some q) fault.Memory h = tt
by_fault ts (Some q) (fault.Refused r) h = absurd cc

pub fault_outcome : (text : List ℕ) (ts : List Token) (f : Fault) → IsUnlessMemory {X = Query} (Err f) (spelled_of (query_at text (predicates_of ts) ts)) → IsUnlessMemory {X = Query} (Err f) (tokens_outcome text ts)
unfolding tokens_outcome
fault_outcome text ts f h = by_fault ts (query_at text (predicates_of ts) ts) f h

-- where the text has tokens, they tell what is answered
pub by_tokens : (text : List ℕ) (ts : List Token) → AreTokens text ts → query_outcome text ≡ tokens_outcome text ts
unfolding query_outcome
by_tokens text ts a = rw (text_accepts text ts a) refl

-- where the text is refused, the query is
pub refused_text : (text : List ℕ) (f : Fault) → ((code : ℕ) (p : Place) → IsErrOf {T = List Token} (Err f) (refusal code p) → IsRefusedText text code p) → IsUnlessMemory {X = Query} (Err f) (query_outcome text)
refused_text text fault.Memory h = tt
refused_text text (fault.Refused r) h = query_refuses (no_tokens (h r.code r.place refl))

-- there are no more tokens than bytes
abbrev count : Cutting → ℕ
count (accepted ts) = length ts
count (stopped c) = 0

with_count : (t : Token) (o : Cutting) → count (with_token t o) ≤ suc (count o)
with_count t (accepted ts) = omega arith
with_count t (stopped c) = omega arith

few_cut : {c : ℕ} {m : Mode} {bs : List ℕ} {o : Cutting} → Cuts c m bs o → count o ≤ length bs
few_cut (ends e) = omega arith
few_cut {bs = bs} (a_blank e d) = omega (arith, few_cut d, length-drop 1 bs)
few_cut {c = c} {m = m} {bs = bs} (a_token {o = o} s n e d) =
    let f = token_fits m bs s n e in
    omega (arith, with_count (record { sign = s; column = c }) o, few_cut d, length-drop n bs, f.0, f.1)
few_cut (unknown e) = omega arith

pub few_tokens : (text : List ℕ) (ts : List Token) → AreTokens text ts → length ts ≤ 5000
few_tokens text ts a = omega (arith, few_cut a.cut, a.short)
