-- Numbers that are written one after another are read again as words.
use Rattle.std.proofs.Common.{◌≡◌, ℕ, suc, ◌<◌, ◌^◌, Bool, true, false, List, [], ◌∷◌, ◌++◌, All, get_or, length, map, Some, None, refl, sym, ap, subst, ◌∙◌, arith, append-nil}
use Rattle.std.specs.Prelude.{◌==◌, nat_lt, reverse, Ok, if◌then◌else◌}
use Rattle.std.specs.Fmt.{decimal, signed_decimal}
use Rattle.std.specs.List.{AllZip, flat_map, slice_split}
use Rattle.std.proofs.lemmas.Bool.{eq-eqb}
use Rattle.std.proofs.lemmas.Bool.Decides.{Decides-ltb}
use Rattle.std.proofs.lemmas.List.{reverse-append}
use Rattle.std.proofs.lemmas.List.Elements.{All-append, All-cons, All-head, All-nil, All-tail}
use Rattle.std.proofs.lemmas.List.Splits.{slice_split_at, slice_split_none}
use Rattle.c_values.proofs.Fitting.{value_parts}
use Rattle.c_values.specs.Kind.{IsValue, number_of}
use Rattle.c_values.specs.declared.kinds.Kind.{Kind}
use Rattle.fq_core.specs.Word.{word_of_text}
use Rattle.fq_core.specs.declared.word.WordText.{WordText}
use Rattle.fq_core.specs.declared.word.WordText.TheVariants as word
use Rattle.input_text.specs.Lines.{filled, input_of, is_blank, line_input, texts_in, words_in}
use Rattle.report.specs.Ends.{spaced_value}
use Rattle.report.specs.Least.{numbers_text, without_first_zeros, without_last_zeros}
use Rattle.report.specs.Made.{arguments_text}
use Rattle.report.specs.Suffice.{long}
use Rattle.report.proofs.ValueLaws.{number_of-unsigned}
use Rattle.trace_file.specs.Form as trace
use Rattle.trace_file.specs.Form.{is_plain, word_said}
use Rattle.trace_file.proofs.LineTexts.{spaced}
use Rattle.trace_file.proofs.NumberLaws.{IsWritten, Lacks, value_written}

-- ---- a number

-- a word of 64 bits
abbrev pub IsSmall : ℕ → Type 0
IsSmall n = n < 2 ^ 64

-- no byte of it is blank
abbrev Unspaced : List ℕ → Type 0
Unspaced part = All (λ byte. is_blank byte ≡ false) part

abbrev HasByte : List ℕ → Type 0
HasByte part = 0 < length part

not_blank : (byte : ℕ) → Lacks 32 byte → Lacks 9 byte → Lacks 13 byte → is_blank byte ≡ false
not_blank byte a b c = rw (a, b, c) refl

said_number : (value : ℕ) (w : WordText) → word_said w ≡ Some value → w ≡ word.Number value
said_number value (word.Number n) e = cc
said_number value word.NotNumber e = absurd (cc)
said_number value word.OutOfRange e = absurd (cc)

plain_number : (text : List ℕ) (value : ℕ) → trace.word_in text ≡ Some value → word_of_text text ≡ word.Number value
plain_number text value e = by (is_plain text) e
  where
    by : (plain : Bool) → (if plain then word_said (word_of_text text) else None) ≡ Some value → word_of_text text ≡ word.Number value
    by true f = said_number value (word_of_text text) f
    by false f = absurd (cc)

number_has_byte : (text : List ℕ) (value : ℕ) → word_of_text text ≡ word.Number value → HasByte text
number_has_byte [] value e = absurd (cc)
number_has_byte (byte ∷ text) value e = omega arith

-- texts that are parted by blanks write these numbers
record AreWritten (values : List ℕ) (parts : List (List ℕ)) : Type 0 where
  plain : All Unspaced parts
  some : All HasByte parts
  says : words_in parts ≡ Some values

none_written : AreWritten [] []
none_written = record { plain = All-nil Unspaced; some = All-nil HasByte; says = refl }

one_more : (text : List ℕ) (value : ℕ) (values : List ℕ) (parts : List (List ℕ)) → IsWritten value text → AreWritten values parts → AreWritten (value ∷ values) (text ∷ parts)
one_more text value values parts written rest =
    let says = plain_number text value written.reads in
    let spaces = written.lacks 32 (omega arith) in
    let tabs = written.lacks 9 (omega arith) in
    let returns = written.lacks 13 (omega arith) in
    record {
      plain = All-cons Unspaced text parts (λ n d l. not_blank (get_or text n d) (spaces n d l) (tabs n d l) (returns n d l)) rest.plain;
      some = All-cons HasByte text parts (number_has_byte text value says) rest.some;
      says = rw (says, rest.says) refl;
    }

-- ---- texts, each after a space

split_spaced : (first : List ℕ) (parts : List (List ℕ)) → Unspaced first → All Unspaced parts → slice_split is_blank (first ++ spaced parts) ≡ first ∷ parts
split_spaced first [] own each = ap (slice_split is_blank) (append-nil first) ∙ slice_split_none is_blank first own
split_spaced first (part ∷ parts) own each =
    slice_split_at is_blank first 32 (part ++ spaced parts) own refl
    ∙ ap (λ rest. first ∷ rest) (split_spaced part parts (All-head Unspaced part parts each) (All-tail Unspaced part parts each))

filled_all : (parts : List (List ℕ)) → All HasByte parts → filled parts ≡ parts
filled_all [] each = refl
filled_all (part ∷ parts) each =
    let some : nat_lt 0 (length part) ≡ true = (Decides-ltb 0 (length part)).1 (All-head HasByte part parts each) in
    rw (some, filled_all parts (All-tail HasByte part parts each)) refl

texts_spaced : (values : List ℕ) (parts : List (List ℕ)) → AreWritten values parts → texts_in (spaced parts) ≡ parts
texts_spaced values parts are = ap filled (split_spaced [] parts (All-nil (λ byte. is_blank byte ≡ false)) are.plain) ∙ filled_all parts are.some

-- a line of these texts gives an input with these words
line_of_texts : (values : List ℕ) (parts : List (List ℕ)) (count : ℕ) → AreWritten values parts → length parts ≡ count → line_input count (texts_in (spaced parts)) ≡ Ok (input_of values)
line_of_texts values parts count are long =
    let texts = texts_spaced values parts are in
    let same : (length parts == count) ≡ true = eq-eqb (length parts) count long in
    rw (texts, same, are.says) refl

words_of_texts : (values : List ℕ) (parts : List (List ℕ)) → AreWritten values parts → words_in (texts_in (spaced parts)) ≡ Some values
words_of_texts values parts are = ap words_in (texts_spaced values parts are) ∙ are.says

-- ---- arguments as values of their kinds

argument_parts : List ℕ → List Kind → List (List ℕ)
argument_parts [] kinds = []
argument_parts (word ∷ words) [] = []
argument_parts (word ∷ words) (kind ∷ kinds) = signed_decimal (number_of kind word) ∷ argument_parts words kinds

arguments_spaced : (words : List ℕ) (kinds : List Kind) → arguments_text words kinds ≡ spaced (argument_parts words kinds)
unfolding argument_parts
arguments_spaced [] kinds = refl
arguments_spaced (word ∷ words) [] = refl
arguments_spaced (word ∷ words) (kind ∷ kinds) = ap (λ rest. spaced_value kind word ++ rest) (arguments_spaced words kinds)

arguments_count : (kinds : List Kind) (words : List ℕ) → AllZip IsValue kinds words → length (argument_parts words kinds) ≡ length kinds
unfolding argument_parts
arguments_count [] [] fit = refl
arguments_count [] (word ∷ words) fit = absurd fit
arguments_count (kind ∷ kinds) [] fit = absurd fit
arguments_count (kind ∷ kinds) (word ∷ words) fit = ap suc (arguments_count kinds words fit.1)

arguments_written : (kinds : List Kind) (words : List ℕ) → AllZip IsValue kinds words → AreWritten words (argument_parts words kinds)
unfolding argument_parts
arguments_written [] [] fit = none_written
arguments_written [] (word ∷ words) fit = absurd fit
arguments_written (kind ∷ kinds) [] fit = absurd fit
arguments_written (kind ∷ kinds) (word ∷ words) fit =
    one_more (signed_decimal (number_of kind word)) word words (argument_parts words kinds) (value_written kind word (value_parts kind word fit.0).pattern) (arguments_written kinds words fit.1)

pub arguments_read : (kinds : List Kind) (words : List ℕ) → AllZip IsValue kinds words → line_input (length kinds) (texts_in (arguments_text words kinds)) ≡ Ok (input_of words)
arguments_read kinds words fit =
    ap (λ text. line_input (length kinds) (texts_in text)) (arguments_spaced words kinds)
    ∙ line_of_texts words (argument_parts words kinds) (length kinds) (arguments_written kinds words fit) (arguments_count kinds words fit)

-- ---- answers as values of their kinds

abbrev value_of : Kind × ℕ → ℕ
value_of answer = answer.1

abbrev answer_part : Kind × ℕ → List ℕ
answer_part answer = signed_decimal (number_of answer.0 answer.1)

abbrev IsAnswer : Kind × ℕ → Type 0
IsAnswer answer = IsValue answer.0 answer.1

taken_spaced : (taken : List (Kind × ℕ)) → flat_map (λ (answer : Kind × ℕ). spaced_value answer.0 answer.1) taken ≡ spaced (map answer_part taken)
taken_spaced [] = refl
taken_spaced (answer ∷ taken) = ap (λ rest. spaced_value answer.0 answer.1 ++ rest) (taken_spaced taken)

taken_written : (taken : List (Kind × ℕ)) → All IsAnswer taken → AreWritten (map value_of taken) (map answer_part taken)
taken_written [] fit = none_written
taken_written (answer ∷ taken) fit =
    one_more (answer_part answer) answer.1 (map value_of taken) (map answer_part taken) (value_written answer.0 answer.1 (value_parts answer.0 answer.1 (All-head IsAnswer answer taken fit)).pattern)
    (taken_written taken (All-tail IsAnswer answer taken fit))

pub taken_read : (taken : List (Kind × ℕ)) → All IsAnswer taken → words_in (texts_in (flat_map (λ (answer : Kind × ℕ). spaced_value answer.0 answer.1) taken)) ≡ Some (map value_of taken)
taken_read taken fit = ap (λ text. words_in (texts_in text)) (taken_spaced taken) ∙ words_of_texts (map value_of taken) (map answer_part taken) (taken_written taken fit)

-- ---- answers as signed numbers of 64 bits

abbrev long_part : ℕ → List ℕ
long_part n = signed_decimal (number_of long n)

longs_spaced : (numbers : List ℕ) → flat_map (spaced_value long) numbers ≡ spaced (map long_part numbers)
longs_spaced [] = refl
longs_spaced (n ∷ numbers) = ap (λ rest. spaced_value long n ++ rest) (longs_spaced numbers)

longs_written : (numbers : List ℕ) → All IsSmall numbers → AreWritten numbers (map long_part numbers)
longs_written [] small = none_written
longs_written (n ∷ numbers) small =
    one_more (long_part n) n numbers (map long_part numbers) (value_written long n (All-head IsSmall n numbers small)) (longs_written numbers (All-tail IsSmall n numbers small))

pub longs_read : (numbers : List ℕ) → All IsSmall numbers → words_in (texts_in (flat_map (spaced_value long) numbers)) ≡ Some numbers
longs_read numbers small = ap (λ text. words_in (texts_in text)) (longs_spaced numbers) ∙ words_of_texts numbers (map long_part numbers) (longs_written numbers small)

-- ---- numbers without a sign

abbrev plain_kind : Kind
plain_kind = record { width = 64; signed = false }

decimal_written : (n : ℕ) → IsSmall n → IsWritten n (decimal n)
decimal_written n small = subst (λ z. IsWritten n (signed_decimal z)) (number_of-unsigned plain_kind n refl) (value_written plain_kind n small)

numbers_spaced : (numbers : List ℕ) → numbers_text numbers ≡ spaced (map decimal numbers)
numbers_spaced [] = refl
numbers_spaced (n ∷ numbers) = ap (λ rest. 32 ∷ (decimal n ++ rest)) (numbers_spaced numbers)

numbers_written : (numbers : List ℕ) → All IsSmall numbers → AreWritten numbers (map decimal numbers)
numbers_written [] small = none_written
numbers_written (n ∷ numbers) small = one_more (decimal n) n numbers (map decimal numbers) (decimal_written n (All-head IsSmall n numbers small)) (numbers_written numbers (All-tail IsSmall n numbers small))

decimals_count : (numbers : List ℕ) → length (map decimal numbers) ≡ length numbers
decimals_count [] = refl
decimals_count (n ∷ numbers) = ap suc (decimals_count numbers)

pub numbers_read : (numbers : List ℕ) → All IsSmall numbers → words_in (texts_in (numbers_text numbers)) ≡ Some numbers
numbers_read numbers small = ap (λ text. words_in (texts_in text)) (numbers_spaced numbers) ∙ words_of_texts numbers (map decimal numbers) (numbers_written numbers small)

pub plain_arguments_read : (words : List ℕ) (count : ℕ) → All IsSmall words → length words ≡ count → line_input count (texts_in (numbers_text words)) ≡ Ok (input_of words)
plain_arguments_read words count small long =
    ap (λ text. line_input count (texts_in text)) (numbers_spaced words)
    ∙ line_of_texts words (map decimal words) count (numbers_written words small) (decimals_count words ∙ long)

-- ---- without zeros at the end

small_reverse : (numbers : List ℕ) → All IsSmall numbers → All IsSmall (reverse numbers)
small_reverse [] small = small
small_reverse (n ∷ numbers) small =
    subst (All IsSmall) (sym (reverse-append (n ∷ []) numbers))
    (All-append IsSmall (reverse numbers) (n ∷ []) (small_reverse numbers (All-tail IsSmall n numbers small)) (All-cons IsSmall n [] (All-head IsSmall n numbers small) (All-nil IsSmall)))

small_dropped : (numbers : List ℕ) → All IsSmall numbers → All IsSmall (without_first_zeros numbers)
small_dropped [] small = small
small_dropped (n ∷ numbers) small = by (n == 0) (small_dropped numbers (All-tail IsSmall n numbers small))
  where
    by : (zero : Bool) → All IsSmall (without_first_zeros numbers) → All IsSmall (if zero then without_first_zeros numbers else n ∷ numbers)
    by true rest = rest
    by false rest = small

pub small_trimmed : (numbers : List ℕ) → All IsSmall numbers → All IsSmall (without_last_zeros numbers)
small_trimmed numbers small = small_reverse (without_first_zeros (reverse numbers)) (small_dropped (reverse numbers) (small_reverse numbers small))
