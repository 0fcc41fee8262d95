-- The command with a positional for all words, and some options.
use Rattle.std.proofs.Common.{◌≡◌, ◌∙◌, ◌+◌, ◌&&◌, ◌==◌, cond, add-zero, arith, ℕ, Bool, true, false, not, true≢false, inl, inr, refl, sym, ap, List, [], ◌∷◌, ◌++◌, map, fold, length, Option, Some, None, option_map, is_some}
use Rattle.std.specs.Prelude.{◌≤◌, IfSome, IsSomeAnd, count_by}
use Rattle.std.specs.List.{list_all, list_any}
use Rattle.std.specs.Str.{bytes_eq}
use Rattle.std.proofs.lemmas.Slice.Eq.{bytes_eq-Decides}
use Rattle.std.proofs.lemmas.List.{map-append}
use Rattle.clap.specs.Lexer.{long_of, usize_max}
use Rattle.clap.specs.Kinds.{HasKind, Kinds}
use Rattle.clap.specs.Values.{kind_of}
use Rattle.clap.specs.declared.error.Error.{Error}
use Rattle.clap.specs.declared.error.kind.ErrorKind.TheVariants.{OutOfMemory}
use Rattle.clap.specs.Faults.{built_fault, check_fault, default_fault, defaults_fault, entered_fault, fault_of, has_free_rules, is_free_app, is_simple_and_free, level_fault, settle_fault, walk_fault}
use Rattle.clap.specs.Takes.{is_given}
use Rattle.clap.specs.Walk.{Row, Rule, arg_by_id, arg_by_long, finished, has_row, idle, is_early_multiple, nothing_held, settled, walk, walk_from, with_default}
use Rattle.clap.specs.Simple.{App, Shape, built, entered, filled_from, is_buildable, is_ready, is_ready_leaf, is_simple, matches_of, names_of, new_shape, with_rule}
use Rattle.command_words.specs.declared.command_option.CommandOption.{CommandOption}
use Rattle.command_words.specs.Options.{name_of, takes_value}
use Rattle.command_words.specs.Made.{form, names_words, opt_arg, words_arg}
use Rattle.command_words.specs.Reading.{Text, Use, dashes, has_hyphen, has_short, is_short, option_named, option_use, plain_use, positional_id, with_use, word_use, reading, row_values, values}
use Rattle.command_words.proofs.Rules.{IsForm, flag_rule, opt_rule, opt_rule-flag, opt_rule-valued, valued_rule, words_rule}
use Rattle.command_words.proofs.Walks.{Ends, at, final, free, is_idle, nothing, passes, passes-or_else, total}

pub form-more : (name : Text) (opts : List CommandOption) (o : CommandOption) → with_rule (form name opts) (opt_arg o) ≡ form name (opts ++ o ∷ [])
form-more name opts o = ap (λ rules. record {
  top = record (new_shape name) { rules = words_arg ∷ rules; no_binary_name = true; disable_help_flag = true };
  subs = [];
}) (sym (map-append opt_arg opts (o ∷ [])))

-- ---- as it is built

filled-options : (i : ℕ) (opts : List CommandOption) → filled_from i (map opt_arg opts) ≡ map opt_rule opts
filled-options i [] = refl
filled-options i (o ∷ opts) = go (takes_value o) refl (filled-options i opts)
  where
    go : (b : Bool) → (takes_value o) ≡ b → filled_from i (map opt_arg opts) ≡ map opt_rule opts → filled_from i (map opt_arg (o ∷ opts)) ≡ map opt_rule (o ∷ opts)
    go true e later = rw (e, later) refl
    go false e later = rw (e, later) refl

abbrev pub built_rules : List CommandOption → List Rule
built_rules opts = words_rule ∷ map opt_rule opts

pub built-rules : (name : Text) (opts : List CommandOption) → (built (form name opts)).top.rules ≡ built_rules opts
built-rules name opts = ap (λ rules. words_rule ∷ rules) (filled-options 2 opts)

by_long : (name : Text) (opts : List CommandOption) → arg_by_long (map opt_rule opts) name ≡ option_map opt_rule (option_named opts name)
by_long name [] = refl
by_long name (o ∷ opts) = go (takes_value o) refl (bytes_eq (name_of o) name) refl (by_long name opts)
  where
    go : (b : Bool) → (takes_value o) ≡ b → (c : Bool) → bytes_eq (name_of o) name ≡ c → arg_by_long (map opt_rule opts) name ≡ option_map opt_rule (option_named opts name)
        → arg_by_long (map opt_rule (o ∷ opts)) name ≡ option_map opt_rule (option_named (o ∷ opts) name)
    go true e true f later = rw (e, f) (ap Some (sym (opt_rule-valued o e)))
    go true e false f later = rw (e, f) later
    go false e true f later = rw (e, f) (ap Some (sym (opt_rule-flag o e)))
    go false e false f later = rw (e, f) later

by_id : (name : Text) (opts : List CommandOption) → arg_by_id (map opt_rule opts) name ≡ option_map opt_rule (option_named opts name)
by_id name [] = refl
by_id name (o ∷ opts) = go (takes_value o) refl (bytes_eq (name_of o) name) refl (by_id name opts)
  where
    go : (b : Bool) → (takes_value o) ≡ b → (c : Bool) → bytes_eq (name_of o) name ≡ c → arg_by_id (map opt_rule opts) name ≡ option_map opt_rule (option_named opts name)
        → arg_by_id (map opt_rule (o ∷ opts)) name ≡ option_map opt_rule (option_named (o ∷ opts) name)
    go true e true f later = rw (e, f) (ap Some (sym (opt_rule-valued o e)))
    go true e false f later = rw (e, f) later
    go false e true f later = rw (e, f) (ap Some (sym (opt_rule-flag o e)))
    go false e false f later = rw (e, f) later

-- the option that is found has the name
named_is : (name : Text) (opts : List CommandOption) (o : CommandOption) → option_named opts name ≡ Some o → bytes_eq (name_of o) name ≡ true
named_is name [] o e = absurd (cc)
named_is name (q ∷ opts) o e = go (bytes_eq (name_of q) name) refl (named_is name opts o) e
  where
    go : (b : Bool) → bytes_eq (name_of q) name ≡ b → (option_named opts name ≡ Some o → bytes_eq (name_of o) name ≡ true)
        → option_named (q ∷ opts) name ≡ Some o → bytes_eq (name_of o) name ≡ true
    go true f later e =
        let same : q ≡ o = (let h = rw f at e in cc) in
        ap (λ (x : CommandOption). bytes_eq (name_of x) name) (sym same) ∙ f
    go false f later e = later (rw f at e)

-- and it is no positional
named_other : (name : Text) (opts : List CommandOption) (o : CommandOption) → names_words opts ≡ false → option_named opts name ≡ Some o
    → bytes_eq (name_of o) positional_id ≡ false
named_other name [] o other e = absurd (cc)
named_other name (q ∷ opts) o other e =
    go (bytes_eq (name_of q) name) refl (bytes_eq (name_of q) positional_id) refl (named_other name opts o) e
  where
    go : (b : Bool) → bytes_eq (name_of q) name ≡ b → (c : Bool) → bytes_eq (name_of q) positional_id ≡ c
        → (names_words opts ≡ false → option_named opts name ≡ Some o → bytes_eq (name_of o) positional_id ≡ false)
        → option_named (q ∷ opts) name ≡ Some o → bytes_eq (name_of o) positional_id ≡ false
    go b f true g later e = absurd (true≢false (rw g at other))
    go true f false g later e =
        let same : q ≡ o = (let h = rw f at e in cc) in
        ap (λ (x : CommandOption). bytes_eq (name_of x) positional_id) (sym same) ∙ g
    go false f false g later e = later (rw g at other) (rw f at e)

bytes_eq-swap : (xs ys : Text) → bytes_eq xs ys ≡ false → bytes_eq ys xs ≡ false
bytes_eq-swap xs ys e = go (bytes_eq ys xs) refl
  where
    go : (b : Bool) → bytes_eq ys xs ≡ b → bytes_eq ys xs ≡ false
    go false f = f
    go true f = absurd (true≢false (sym ((bytes_eq-Decides xs ys).1 (sym ((bytes_eq-Decides ys xs).0 f))) ∙ e))

known : (name : Text) (opts : List CommandOption) (o : CommandOption) → names_words opts ≡ false → option_named opts name ≡ Some o
    → (arg_by_id (built_rules opts) (name_of o) ≡ Some (opt_rule o)) × (bytes_eq (name_of o) positional_id ≡ false)
known name opts o other e =
    let apart = named_other name opts o other e in
    let is : (name_of o) ≡ name = (bytes_eq-Decides (name_of o) name).0 (named_is name opts o e) in
    let found : option_named opts (name_of o) ≡ Some o = ap (option_named opts) is ∙ e in
    (rw (bytes_eq-swap (name_of o) positional_id apart) (by_id (name_of o) opts ∙ ap (option_map opt_rule) found), apart)

-- a built form, with its rules written out
abbrev pub shape : Text → List CommandOption → Shape
shape name opts = record (built (form name opts)).top { rules = built_rules opts }

pub shape_is : (name : Text) (opts : List CommandOption) → (built (form name opts)).top ≡ shape name opts
shape_is name opts = ap (λ rules. record (built (form name opts)).top { rules = rules }) (built-rules name opts)

pub is_form : (name : Text) (opts : List CommandOption) → names_words opts ≡ false → IsForm (shape name opts) opts
is_form name opts other = record {
  again = refl;
  index = refl;
  id = refl;
  long = λ n. by_long n opts;
  known = λ n o e. known n opts o other e;
}

-- ---- the command is simple

raw_rules : (opts : List CommandOption) → (list_all (λ (a : Rule). a.is_simple) (map opt_arg opts) ≡ true)
raw_rules [] = refl
raw_rules (o ∷ opts) = go (takes_value o) refl (raw_rules opts)
  where
    go : (b : Bool) → (takes_value o) ≡ b → list_all (λ (a : Rule). a.is_simple) (map opt_arg opts) ≡ true → list_all (λ (a : Rule). a.is_simple) (map opt_arg (o ∷ opts)) ≡ true
    go true e later = rw e later
    go false e later = rw e later

-- what holds of each option holds of all
each : (p : Rule → Bool) → ((name : Text) → p (valued_rule name) ≡ true) → ((name : Text) → p (flag_rule name) ≡ true) → (opts : List CommandOption)
    → list_all p (map opt_rule opts) ≡ true
each p valued flag [] = refl
each p valued flag (o ∷ opts) = go (takes_value o) refl (each p valued flag opts)
  where
    go : (b : Bool) → (takes_value o) ≡ b → list_all p (map opt_rule opts) ≡ true → list_all p (map opt_rule (o ∷ opts)) ≡ true
    go true e later = rw (e, valued (name_of o)) later
    go false e later = rw (e, flag (name_of o)) later

none_of : (p : Rule → Bool) → ((name : Text) → p (valued_rule name) ≡ false) → ((name : Text) → p (flag_rule name) ≡ false) → (opts : List CommandOption)
    → list_any p (map opt_rule opts) ≡ false
none_of p valued flag [] = refl
none_of p valued flag (o ∷ opts) = go (takes_value o) refl (none_of p valued flag opts)
  where
    go : (b : Bool) → (takes_value o) ≡ b → list_any p (map opt_rule opts) ≡ false → list_any p (map opt_rule (o ∷ opts)) ≡ false
    go true e later = rw (e, valued (name_of o)) later
    go false e later = rw (e, flag (name_of o)) later

no_positional : (n : ℕ) (opts : List CommandOption) → fold (λ k (a : Rule). k + cond (is_some a.index) 1 0) n (map opt_rule opts) ≡ n
no_positional n [] = refl
no_positional n (o ∷ opts) = go (takes_value o) refl (no_positional n opts)
  where
    go : (b : Bool) → (takes_value o) ≡ b → fold (λ k (a : Rule). k + cond (is_some a.index) 1 0) n (map opt_rule opts) ≡ n
        → fold (λ k (a : Rule). k + cond (is_some a.index) 1 0) n (map opt_rule (o ∷ opts)) ≡ n
    go true e later =
        ap (λ (r : Rule). fold (λ k (a : Rule). k + cond (is_some a.index) 1 0) (n + cond (is_some r.index) 1 0) (map opt_rule opts)) (opt_rule-valued o e)
        ∙ rw add-zero later
    go false e later =
        ap (λ (r : Rule). fold (λ k (a : Rule). k + cond (is_some a.index) 1 0) (n + cond (is_some r.index) 1 0) (map opt_rule opts)) (opt_rule-flag o e)
        ∙ rw add-zero later

one_positional : (opts : List CommandOption) → count_by (λ (a : Rule). is_some a.index) (built_rules opts) ≡ 1
one_positional opts = no_positional 1 opts

pub built_is : (name : Text) (opts : List CommandOption) → ◌≡◌ {A = App} (built (form name opts)) (record { top = shape name opts; subs = [] })
built_is name opts = ap (λ (t : Shape). record { top = t; subs = [] }) (shape_is name opts)

shape_ready : (name : Text) (opts : List CommandOption) → is_ready (shape name opts) ≡ true
shape_ready name opts =
    rw (
      each (λ a. a.is_simple) (λ n. refl) (λ n. refl) opts,
      one_positional opts,
      none_of (is_early_multiple (count_by (λ (a : Rule). is_some a.index) (built_rules opts))) (λ n. refl) (λ n. refl) opts,
    ) refl

form_buildable : (name : Text) (opts : List CommandOption) → is_buildable (form name opts) ≡ true
form_buildable name opts = rw (raw_rules opts) refl

shape_free : (name : Text) (opts : List CommandOption) → has_free_rules (shape name opts) ≡ true
shape_free name opts = rw (each (λ a. a.is_free) (λ n. refl) (λ n. refl) opts) refl

pub form_simple : (name : Text) (opts : List CommandOption) → is_simple_and_free (form name opts) ≡ true
form_simple name opts =
    ap (λ (b : App). (is_buildable (form name opts) && (is_ready b.top && list_all is_ready_leaf b.subs)) && is_free_app b) (built_is name opts)
    ∙ rw (form_buildable name opts, shape_ready name opts, shape_free name opts) refl

-- ---- nothing comes after the walk

no_default : (rows : List Row) (a : Rule) → a.defaults ≡ [] → (default_fault rows a ≡ []) × (with_default rows a ≡ rows)
no_default rows a none = go (has_row a.id rows) refl
  where
    go : (b : Bool) → has_row a.id rows ≡ b → (default_fault rows a ≡ []) × (with_default rows a ≡ rows)
    go true e = (rw e refl, rw e refl)
    go false e = (rw (e, none) refl, rw (e, none) refl)

opt_default : (o : CommandOption) → (opt_rule o).defaults ≡ []
opt_default o = go (takes_value o) refl
  where
    go : (b : Bool) → (takes_value o) ≡ b → (opt_rule o).defaults ≡ []
    go true e = rw e refl
    go false e = rw e refl

no_defaults : (rows : List Row) (opts : List CommandOption) → (defaults_fault rows (map opt_rule opts) ≡ []) × (fold with_default rows (map opt_rule opts) ≡ rows)
unfolding defaults_fault
no_defaults rows [] = (refl, refl)
no_defaults rows (o ∷ opts) =
    let here = no_default rows (opt_rule o) (opt_default o) in
    let later = no_defaults rows opts in
    (rw (here.0, here.1) later.0, ap (λ r. fold with_default r (map opt_rule opts)) here.1 ∙ later.1)

form_defaults : (rows : List Row) (opts : List CommandOption) → (defaults_fault rows (built_rules opts) ≡ []) × (fold with_default rows (built_rules opts) ≡ rows)
unfolding defaults_fault
form_defaults rows opts =
    let here = no_default rows words_rule refl in
    let later = no_defaults rows opts in
    (rw (here.0, here.1) later.0, ap (λ r. fold with_default r (map opt_rule opts)) here.1 ∙ later.1)

no_check : (name : Text) (opts : List CommandOption) (rows : List Row) (has : Bool) → check_fault (shape name opts) rows has ≡ []
no_check name opts rows true = rw (none_of (λ a. a.required && not (is_given a.id rows)) (λ n. refl) (λ n. refl) opts) refl
no_check name opts rows false = rw (none_of (λ a. a.required && not (is_given a.id rows)) (λ n. refl) (λ n. refl) opts) refl

-- ---- what a parse comes to

nowhere : (name : Text) (opts : List CommandOption) (stop : Option (Text × List Text))
    → (is_some (entered (record { top = shape name opts; subs = [] }) stop) ≡ false) × (entered_fault (record { top = shape name opts; subs = [] }) stop ≡ [])
nowhere name opts None = (refl, refl)
nowhere name opts (Some p) = (refl, refl)

and_true : (b : Bool) → (b && true) ≡ b
and_true true = refl
and_true false = refl

level : (name : Text) (opts : List CommandOption) (words : List Text) (has : Bool)
    → passes (level_fault (shape name opts) [] nothing_held words has []) ≡ total (shape name opts) (at [] None idle false) words
level name opts words has =
    let s = shape name opts in
    let end = (walk s.rules [] nothing_held words).held in
    passes-or_else (walk_fault s [] (walk_from nothing_held) words) _
    ∙ ap (λ b. passes (walk_fault s [] (walk_from nothing_held) words) && b)
    (passes-or_else (settle_fault s.rules s.args_override_self end) _
    ∙ rw ((form_defaults (settled s.rules end).rows opts).0, no_check name opts (finished s.rules end) has) (and_true _))

fault_is : (name : Text) (opts : List CommandOption) (words : List Text)
    → passes (fault_of (form name opts) words) ≡ total (shape name opts) (at [] None idle false) words
fault_is name opts words =
    let b : App = record { top = shape name opts; subs = [] } in
    let stop = (walk (built_rules opts) [] nothing_held words).stopped in
    ap (λ (a : App). passes (built_fault a nothing_held words)) (built_is name opts)
    ∙ ap (λ (k : Kinds). passes (level_fault (shape name opts) [] nothing_held words (is_some (entered b stop)) k)) (nowhere name opts stop).1
    ∙ level name opts words (is_some (entered b stop))

matches_are : (name : Text) (opts : List CommandOption) (words : List Text) → matches_of (form name opts) words ≡ final (shape name opts) (at [] None idle false) words
matches_are name opts words =
    ap (λ (a : App). finished a.top.rules (walk a.top.rules (names_of a) nothing_held words).held) (built_is name opts)
    ∙ (form_defaults (final (shape name opts) (at [] None idle false) words) opts).1

-- what a parse of the command comes to: it passes exactly where the words have a reading, and each name has the values of that
pub record Reads (name : Text) (opts : List CommandOption) (words : List Text) (read : Option (List Use)) : Type 0 where
  pub all : passes (fault_of (form name opts) words) ≡ is_some read
  pub rows : IfSome read (λ uses. (other : Text) → row_values other (matches_of (form name opts) words) ≡ values other uses)

reads : (name : Text) (opts : List CommandOption) (words : List Text) (is : names_words opts ≡ false) (read : Option (List Use))
    → Ends (shape name opts) opts (is_form name opts is) (at [] None idle false) words (λ other. []) read → Reads name opts words read
reads name opts words is None ends = record { all = fault_is name opts words ∙ ends.all; rows = tt }
reads name opts words is (Some uses) ends = record {
  all = fault_is name opts words ∙ ends.all;
  rows = λ other. ap (row_values other) (matches_are name opts words) ∙ ends.rows other;
}

pub form_reads : (name : Text) (opts : List CommandOption) (words : List Text) → names_words opts ≡ false → has_short words ≡ false → length words ≤ usize_max
    → Reads name opts words (reading opts words None)
form_reads name opts words is short few =
    reads name opts words is (reading opts words None)
    (free (shape name opts) opts (is_form name opts is) words 0 [] None idle is_idle short (omega arith) nothing)

-- ---- words that `clap` isn't given

no_use : (id v : Text) (next : Option (List Use)) → next ≡ None → with_use id v next ≡ None
no_use id v next none = rw none refl

no_option : (found : Option CommandOption) (value : Option Text) (next : Option Text → Option (List Use)) → ((x : Option Text) → next x ≡ None)
    → option_use found value next ≡ None
no_option None value next none = refl
no_option (Some o) value next none = go value (takes_value o) refl
  where
    go : (value : Option Text) (b : Bool) → (takes_value o) ≡ b → option_use (Some o) value next ≡ None
    go None true e = rw e (none (Some (name_of o)))
    go None false e = rw e (no_use (name_of o) [] (next None) (none None))
    go (Some v) true e = rw e (no_use (name_of o) v (next None) (none None))
    go (Some v) false e = rw e refl

no_plain : (id word : Text) (next : Option Text → Option (List Use)) → ((x : Option Text) → next x ≡ None) → plain_use id word next ≡ None
no_plain id word next none = go (has_hyphen word) refl
  where
    go : (b : Bool) → has_hyphen word ≡ b → plain_use id word next ≡ None
    go true e = rw e refl
    go false e = rw e (no_use id word (next None) (none None))

no_word : (opts : List CommandOption) (word : Text) (long : Option (Text × Option Text)) (next : Option Text → Option (List Use)) → ((x : Option Text) → next x ≡ None)
    → word_use opts word long next ≡ None
no_word opts word None next none = no_plain positional_id word next none
no_word opts word (Some p) next none = no_option (option_named opts p.0) p.1 next none

both_true : (a b : Bool) → (a && b) ≡ true → (a ≡ true) × (b ≡ true)
both_true true b e = (refl, e)
both_true false b e = absurd (true≢false (sym e))

not_true : (b : Bool) → not b ≡ true → b ≡ false
not_true true e = absurd (true≢false (sym e))
not_true false e = refl

-- a short word begins with a hyphen, and names no option
short_word : (word : Text) → is_short word ≡ true → (has_hyphen word ≡ true) × (long_of word ≡ None)
short_word [] e = absurd (true≢false (sym e))
short_word (x ∷ []) e = (e, rw e refl)
short_word (x ∷ y ∷ rest) e =
    let parts = both_true (x == 45) (not (y == 45)) e in
    let second : (y == 45) ≡ false = not_true (y == 45) parts.1 in
    (parts.0, rw (parts.0, second) refl)

none_after : (opts : List CommandOption) (word : Text) (rest : List Text) (awaited : Option Text) → bytes_eq word dashes ≡ false
    → ((x : Option Text) → reading opts rest x ≡ None) → reading opts (word ∷ rest) awaited ≡ None
none_after opts word rest None d none = rw d (no_word opts word (long_of word) (reading opts rest) none)
none_after opts word rest (Some name) d none = no_plain name word (reading opts rest) none

none_here : (opts : List CommandOption) (word : Text) (rest : List Text) (awaited : Option Text) → bytes_eq word dashes ≡ false
    → (has_hyphen word ≡ true) × (long_of word ≡ None) → reading opts (word ∷ rest) awaited ≡ None
none_here opts word rest None d short = rw (d, short.1, short.0) refl
none_here opts word rest (Some name) d short = rw short.0 refl

-- words with a short one have no reading
pub short_none : (opts : List CommandOption) (words : List Text) (awaited : Option Text) → has_short words ≡ true → reading opts words awaited ≡ None
short_none opts [] awaited e = absurd (true≢false (sym e))
short_none opts (word ∷ rest) awaited e = go (bytes_eq word dashes) refl (is_short word) refl (λ x h. short_none opts rest x h) e
  where
    go : (d : Bool) → bytes_eq word dashes ≡ d → (b : Bool) → is_short word ≡ b → ((x : Option Text) → has_short rest ≡ true → reading opts rest x ≡ None)
        → has_short (word ∷ rest) ≡ true → reading opts (word ∷ rest) awaited ≡ None
    go true d b f later e = absurd (true≢false (sym (rw d at e)))
    go false d true f later e = none_here opts word rest awaited d (short_word word f)
    go false d false f later e = let h = rw (d, f) at e in none_after opts word rest awaited d (λ x. later x h)

-- ---- the outcomes of a parse

passes-nil : (kinds : Kinds) → kinds ≡ [] → passes kinds ≡ true
passes-nil kinds e = ap passes e

-- where nothing failed, the words have a reading, and the rows are of it
pub parsed : (name : Text) (opts : List CommandOption) (words : List Text) (a : App) (rows : List Row) → a ≡ form name opts → fault_of a words ≡ []
    → rows ≡ matches_of a words → (read : Option (List Use)) → Reads name opts words read
    → IsSomeAnd read (λ uses. (id : Text) → row_values id rows ≡ values id uses)
parsed name opts words a rows is none same None r =
    absurd (true≢false (sym (passes-nil (fault_of a words) none) ∙ ap (λ (b : App). passes (fault_of b words)) is ∙ r.all))
parsed name opts words a rows is none same (Some uses) r =
    λ id. ap (row_values id) (same ∙ ap (λ (b : App). matches_of b words) is) ∙ r.rows id

among-nil : (e : Error) (kinds : Kinds) → HasKind kinds e → (kind_of e ≡ OutOfMemory → ⊥) → passes kinds ≡ false
among-nil e [] (inl memory) other = absurd (other memory)
among-nil e [] (inr among) other = absurd among
among-nil e (k ∷ ks) among other = refl

-- where something failed besides memory, they have none
pub unparsed : (name : Text) (opts : List CommandOption) (words : List Text) (a : App) (e : Error) → a ≡ form name opts → HasKind (fault_of a words) e
    → (kind_of e ≡ OutOfMemory → ⊥) → (read : Option (List Use)) → Reads name opts words read → read ≡ None
unparsed name opts words a e is among other None r = refl
unparsed name opts words a e is among other (Some uses) r =
    absurd (true≢false (sym r.all ∙ sym (ap (λ (b : App). passes (fault_of b words)) is) ∙ among-nil e (fault_of a words) among other))

pub is_simple_of : (a : App) → is_simple_and_free a ≡ true → is_simple a ≡ true
is_simple_of a e = (both_true (is_simple a) (is_free_app (built a)) e).0
