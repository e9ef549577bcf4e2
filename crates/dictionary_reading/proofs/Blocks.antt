-- The bytes of a block, and the values that they are.
use Rattle.std.proofs.Common.{◌≡◌, ◌≢◌, ◌∙◌, ◌<◌, ◌≤◌, ◌+◌, ◌-◌, ◌*◌, ◌^◌, ◌⊎◌, ◌++◌, ℕ, ℤ, true, List, length, get_or, Some, refl, sym, ap, subst, arith, inl, inr}
use Rattle.std.proofs.lemmas.Bool.{false≢true}
use Rattle.std.proofs.lemmas.Option.{slice_get-get_or}
use Rattle.std.proofs.lemmas.List.{length-append}
use Rattle.std.specs.List.{All, slice_get}
use Rattle.std.specs.Int.{w32, from_be_bytes}
use Rattle.std.specs.Str.{IsUtf8}
use Rattle.outside.specs.Files.{Files}
use Rattle.data_types.specs.Numbers.{is_in_range}
use Rattle.data_types.specs.declared.kind.FieldKind.{FieldKind}
use Rattle.data_types.specs.declared.kind.FieldKind.TheVariants as kind
use Rattle.values.specs.declared.value.Value.{Value}
use Rattle.values.specs.declared.value.Value.TheVariants as value
use Rattle.value_ids.specs.Dictionary.{Distinct, Fits, IsUnicode}
use Rattle.bit_column.specs.Sections.{section}
use Rattle.dictionary.specs.Spelling.{body, counted, number_bytes, numbers, offsets, text_bytes, texts}
use Rattle.dictionary.proofs.Bytes.{counted_back, length-counted}
use Rattle.dictionary.proofs.Numbers.{body_is_numbers, fits_long, length-numbers, no_text, number_once}
use Rattle.dictionary.proofs.Texts.{length-offsets}
use Rattle.outside.specs.declared.place.Place.{Place}
use Rattle.dictionary_reading.specs.declared.block.Block.{Block}
use Rattle.dictionary_reading.specs.InFile.{AreStarts, IsBlockOf, IsBodyOf, IsSpelledAt, part, start_of}
use Rattle.dictionary_reading.proofs.Parts.{length-part, number_part, offset_part, part-left, part-part, part-right, start_last, start_near, start_up, take_counted, text_part}

-- ---- what is spelled at a place

pub spelled_count : (k : FieldKind) (files : Files) (place : Place) (d : Distinct) (n : ℕ) → n < 2 ^ 32 → IsSpelledAt k files place d → counted n ≡ part 0 4 (section files place) → n ≡ length d.values
spelled_count k files place d n small is read =
    let few = is.stands.at_most in
    let front : part 0 4 (section files place) ≡ counted (length d.values) = ap (part 0 4) is.spelled ∙ part-left 0 4 (counted (length d.values)) (body d.kind d.values) (omega (arith, length-counted (length d.values))) ∙ take_counted (length d.values) in
    sym (counted_back n small) ∙ ap (from_be_bytes w32) (read ∙ front) ∙ counted_back (length d.values) (omega (arith, few))

pub spelled_numbers : (k : FieldKind) (files : Files) (place : Place) (d : Distinct) → k ≢ kind.Text → IsSpelledAt k files place d → section files place ≡ counted (length d.values) ++ numbers d.values
spelled_numbers k files place d some is = is.spelled ∙ ap (λ k'. counted (length d.values) ++ body k' d.values) is.kind_is ∙ ap (λ xs. counted (length d.values) ++ xs) (body_is_numbers k d.values some)

pub spelled_texts : (k : FieldKind) (files : Files) (place : Place) (d : Distinct) → k ≡ kind.Text → IsSpelledAt k files place d → section files place ≡ counted (length d.values) ++ (offsets 0 d.values ++ texts d.values)
spelled_texts k files place d text is = is.spelled ∙ ap (λ k'. counted (length d.values) ++ body k' d.values) (is.kind_is ∙ text)

-- the bytes of numbers
pub numbers_at : (k : FieldKind) (files : Files) (place : Place) (d : Distinct) (from count : ℕ) → k ≢ kind.Text → IsSpelledAt k files place d → part (4 + from) count (section files place) ≡ part from count (numbers d.values)
numbers_at k files place d from count some is = ap (part (4 + from) count) (spelled_numbers k files place d some is) ∙ part-right 4 from count (counted (length d.values)) (numbers d.values) (length-counted (length d.values))

-- where texts begin
pub starts_at : (k : FieldKind) (files : Files) (place : Place) (d : Distinct) (from count : ℕ) → k ≡ kind.Text → from + count ≤ 4 * length d.values + 4 → IsSpelledAt k files place d → part (4 + from) count (section files place) ≡ part from count (offsets 0 d.values)
starts_at k files place d from count text within is =
    ap (part (4 + from) count) (spelled_texts k files place d text is)
    ∙ part-right 4 from count (counted (length d.values)) (offsets 0 d.values ++ texts d.values) (length-counted (length d.values))
    ∙ part-left from count (offsets 0 d.values) (texts d.values) (omega (arith, within, length-offsets 0 d.values))

-- the bytes of texts
pub texts_at : (k : FieldKind) (files : Files) (place : Place) (d : Distinct) (n from count : ℕ) → k ≡ kind.Text → n ≡ length d.values → IsSpelledAt k files place d → part (8 + 4 * n + from) count (section files place) ≡ part from count (texts d.values)
texts_at k files place d n from count text same is =
    let e : 8 + 4 * n + from ≡ 4 + (4 * length d.values + 4 + from) = omega (arith, same) in
    (λ i. part (e i) count (spelled_texts k files place d text is i))
    ∙ part-right 4 (4 * length d.values + 4 + from) count (counted (length d.values)) (offsets 0 d.values ++ texts d.values) (length-counted (length d.values))
    ∙ part-right (4 * length d.values + 4) from count (offsets 0 d.values) (texts d.values) (length-offsets 0 d.values)

-- ---- how long it is

pub numbers_long : (k : FieldKind) (files : Files) (place : Place) (d : Distinct) → k ≢ kind.Text → IsSpelledAt k files place d → length (section files place) ≡ 4 + 8 * length d.values
numbers_long k files place d some is =
    omega (arith, ap length (spelled_numbers k files place d some is), length-append (counted (length d.values)) (numbers d.values), length-counted (length d.values), length-numbers k d.values some (subst (λ k'. All (Fits k') d.values) is.kind_is is.stands.fit))

pub texts_long : (k : FieldKind) (files : Files) (place : Place) (d : Distinct) → k ≡ kind.Text → IsSpelledAt k files place d → length (section files place) ≡ 8 + 4 * length d.values + length (texts d.values)
texts_long k files place d text is =
    omega (arith, ap length (spelled_texts k files place d text is), length-append (counted (length d.values)) (offsets 0 d.values ++ texts d.values), length-append (offsets 0 d.values) (texts d.values), length-counted (length d.values), length-offsets 0 d.values)

pub place_long : (k : FieldKind) (files : Files) (place : Place) (d : Distinct) → IsSpelledAt k files place d → length (section files place) ≡ place.length
place_long k files place d is = ap length is.spelled ∙ sym is.whole

-- ---- a value of a block

numbers_body : (k : FieldKind) (values : List Value) (b : Block) → k ≢ kind.Text → IsBodyOf k values b → b.body ≡ part (8 * b.from) (8 * (b.to - b.from)) (numbers values)
numbers_body kind.Int values b some is = is
numbers_body kind.Long values b some is = is
numbers_body kind.Text values b some is = absurd (some refl)

same_number : (k : FieldKind) (v : Value) (z : ℤ) → k ≢ kind.Text → Fits k v → is_in_range kind.Long z ≡ true → number_bytes (value.Whole z) ≡ number_bytes v → v ≡ value.Whole z
same_number k (value.Whole y) z some fit long same = ap value.Whole (number_once y z (fits_long k y fit) long (sym same))
same_number k (value.Text t) z some fit long same = absurd (no_text k t some fit)

-- the number of an id
pub number_of_block : (d : Distinct) (b : Block) (id : ℕ) (z : ℤ) → IsBlockOf d b → b.kind ≢ kind.Text → b.from ≤ id → id < b.to → is_in_range kind.Long z ≡ true → number_bytes (value.Whole z) ≡ part (8 * (id - b.from)) 8 b.body → slice_get d.values id ≡ Some (value.Whole z)
number_of_block d b id z is some low high long read =
    let within = is.within in
    let lt : id < length d.values = omega (arith, high, within) in
    let fit : All (Fits b.kind) d.values = subst (λ k. All (Fits k) d.values) is.kind_is is.stands.fit in
    let at : 8 * b.from + 8 * (id - b.from) ≡ 8 * id = omega (arith, low) in
    let bytes : number_bytes (value.Whole z) ≡ number_bytes (get_or d.values id (value.Whole z)) =
    (read
    ∙ ap (part (8 * (id - b.from)) 8) (numbers_body b.kind d.values b some is.body_is)
    ∙ part-part (8 * (id - b.from)) 8 (8 * b.from) (8 * (b.to - b.from)) (numbers d.values) (omega (arith, low, high))
    ∙ ap (λ k. part k 8 (numbers d.values)) at
    ∙ number_part b.kind d.values id (value.Whole z) some fit lt) in
    slice_get-get_or d.values id (value.Whole z) lt ∙ ap Some (same_number b.kind (get_or d.values id (value.Whole z)) z some (fit id (value.Whole z) lt) long bytes)

-- ---- a text of a block

fit_texts : (d : Distinct) (b : Block) → IsBlockOf d b → b.kind ≡ kind.Text → All (Fits kind.Text) d.values
fit_texts d b is text = subst (λ k. All (Fits k) d.values) (is.kind_is ∙ text) is.stands.fit

texts_body : (d : Distinct) (b : Block) → IsBlockOf d b → b.kind ≡ kind.Text → IsBodyOf kind.Text d.values b
texts_body d b is text = subst (λ k. IsBodyOf k d.values b) text is.body_is

-- the number that is read is where the text begins
pub start_at : (values : List Value) (from to id n : ℕ) (starts : List ℕ) → length values ≤ 1048576 → All (Fits kind.Text) values → to ≤ length values → from ≤ id → id ≤ to → n < 2 ^ 32 → AreStarts values from to starts → counted n ≡ part (4 * (id - from)) 4 starts → n ≡ start_of values id
start_at values from to id n starts few fit within low high small are read =
    let le : id ≤ length values = omega (arith, high, within) in
    let at : 4 * from + 4 * (id - from) ≡ 4 * id = omega (arith, low) in
    let bytes : counted n ≡ counted (0 + start_of values id) =
    (read
    ∙ ap (part (4 * (id - from)) 4) are
    ∙ part-part (4 * (id - from)) 4 (4 * from) (4 * (to - from) + 4) (offsets 0 values) (omega (arith, low, high))
    ∙ ap (λ k. part k 4 (offsets 0 values)) at
    ∙ offset_part 0 values id le) in
    let e : 0 + id ≡ id = omega arith in
    let none : start_of values 0 ≡ 0 = refl in
    let short : 0 + start_of values id < 2 ^ 32 = omega (arith, le, few, none, ap (start_of values) e, start_near values 0 id fit) in
    let same : n ≡ 0 + start_of values id = sym (counted_back n small) ∙ ap (from_be_bytes w32) bytes ∙ counted_back (0 + start_of values id) short in
    omega (arith, same)

pub start_is : (d : Distinct) (b : Block) (id n : ℕ) → IsBlockOf d b → b.kind ≡ kind.Text → b.from ≤ id → id ≤ b.to → n < 2 ^ 32 → counted n ≡ part (4 * (id - b.from)) 4 b.starts → n ≡ start_of d.values id
start_is d b id n is text low high small read = start_at d.values b.from b.to id n b.starts is.stands.at_most (fit_texts d b is text) is.within low high small (texts_body d b is text).0 read

pub up_to : (vs : Distinct) (i j : ℕ) → i ≤ j → start_of vs.values i ≤ start_of vs.values j
up_to vs i j le =
    let e : i + (j - i) ≡ j = omega (arith, le) in
    subst (λ k. start_of vs.values i ≤ start_of vs.values k) e (start_up vs.values i (j - i))

body_long : (d : Distinct) (b : Block) → IsBlockOf d b → b.kind ≡ kind.Text → b.from ≤ b.to → length b.body ≡ start_of d.values b.to - start_of d.values b.from
body_long d b is text order =
    let within = is.within in
    ap length (texts_body d b is text).1
    ∙ length-part (start_of d.values b.from) (start_of d.values b.to - start_of d.values b.from) (texts d.values) (omega (arith, up_to d b.from b.to order, up_to d b.to (length d.values) within, start_last d.values))

-- where a text of a block begins and ends, as its bytes say
pub record Said (b : Block) (id base start end : ℕ) : Type 0 where
  pub order : b.from ≤ id
  pub within : id < b.to
  pub kind_is : b.kind ≡ kind.Text
  pub base_small : base < 2 ^ 32
  pub start_small : start < 2 ^ 32
  pub end_small : end < 2 ^ 32
  pub base_is : counted base ≡ part 0 4 b.starts
  pub start_is : counted start ≡ part (4 * (id - b.from)) 4 b.starts
  pub end_is : counted end ≡ part (4 * (id - b.from) + 4) 4 b.starts

base_of : (d : Distinct) (b : Block) (id base start end : ℕ) → Said b id base start end → IsBlockOf d b → base ≡ start_of d.values b.from
base_of d b id base start end s is =
    let low = s.order in
    let high = s.within in
    let e : 0 ≡ 4 * (b.from - b.from) = omega arith in
    start_is d b b.from base is s.kind_is (omega arith) (omega (arith, low, high)) s.base_small (s.base_is ∙ ap (λ k. part k 4 b.starts) e)

start_of_said : (d : Distinct) (b : Block) (id base start end : ℕ) → Said b id base start end → IsBlockOf d b → start ≡ start_of d.values id
start_of_said d b id base start end s is =
    let high = s.within in
    start_is d b id start is s.kind_is s.order (omega (arith, high)) s.start_small s.start_is

end_of_said : (d : Distinct) (b : Block) (id base start end : ℕ) → Said b id base start end → IsBlockOf d b → end ≡ start_of d.values (id + 1)
end_of_said d b id base start end s is =
    let low = s.order in
    let high = s.within in
    let e : 4 * (id - b.from) + 4 ≡ 4 * (id + 1 - b.from) = omega (arith, low) in
    start_is d b (id + 1) end is s.kind_is (omega (arith, low)) (omega (arith, high)) s.end_small (s.end_is ∙ ap (λ k. part k 4 b.starts) e)

pub not_between : (d : Distinct) (b : Block) (id base start end : ℕ) → Said b id base start end → (start < base) ⊎ (end < start) ⊎ (length b.body + base < end) → IsBlockOf d b → ⊥
not_between d b id base start end s bad is =
    let low = s.order in
    let high = s.within in
    let first = base_of d b id base start end s is in
    let at = start_of_said d b id base start end s is in
    let to = end_of_said d b id base start end s is in
    let up = up_to d b.from id low in
    let one = up_to d id (id + 1) (omega arith) in
    let rest = up_to d (id + 1) b.to (omega (arith, high)) in
    let long = body_long d b is s.kind_is (omega (arith, low, high)) in
    elim bad [
      | inl a ↦ omega (arith, a, first, at, up)
      | inr c ↦ elim c [
        | inl a ↦ omega (arith, a, at, to, one)
        | inr a ↦ omega (arith, a, first, to, rest, long, up, one)
      ]
    ]

-- the bytes between are the text's
pub text_bytes_are : (d : Distinct) (b : Block) (id base start end : ℕ) (e : Value) (found : List ℕ) → Said b id base start end → found ≡ part (start - base) (end - start) b.body → IsBlockOf d b → found ≡ text_bytes (get_or d.values id e)
text_bytes_are d b id base start end e found s cut is =
    let low = s.order in
    let high = s.within in
    let within = is.within in
    let first = base_of d b id base start end s is in
    let at = start_of_said d b id base start end s is in
    let to = end_of_said d b id base start end s is in
    let up = up_to d b.from id low in
    let one = up_to d id (id + 1) (omega arith) in
    let rest = up_to d (id + 1) b.to (omega (arith, high)) in
    let vs = d.values in
    let from : start - base ≡ start_of vs id - start_of vs b.from = omega (arith, first, at) in
    let size : end - start ≡ start_of vs (id + 1) - start_of vs id = omega (arith, at, to) in
    let place : start_of vs b.from + (start_of vs id - start_of vs b.from) ≡ start_of vs id = omega (arith, up) in
    cut
    ∙ (λ i. part (from i) (size i) ((texts_body d b is s.kind_is).1 i))
    ∙ part-part (start_of vs id - start_of vs b.from) (start_of vs (id + 1) - start_of vs id) (start_of vs b.from) (start_of vs b.to - start_of vs b.from) (texts vs) (omega (arith, up, one, rest))
    ∙ ap (λ k. part k (start_of vs (id + 1) - start_of vs id) (texts vs)) place
    ∙ text_part vs id e (omega (arith, high, within))

text_there : (v : Value) → Fits kind.Text v → IsUnicode v → (v ≡ value.Text (text_bytes v)) × IsUtf8 (text_bytes v)
text_there (value.Whole z) fit unicode = absurd (false≢true fit)
text_there (value.Text t) fit unicode = (refl, unicode)

pub text_of_block : (d : Distinct) (b : Block) (id base start end : ℕ) (found : List ℕ) → Said b id base start end → found ≡ part (start - base) (end - start) b.body → IsBlockOf d b → slice_get d.values id ≡ Some (value.Text found)
text_of_block d b id base start end found s cut is =
    let high = s.within in
    let within = is.within in
    let lt : id < length d.values = omega (arith, high, within) in
    let e : Value = value.Text found in
    let there = text_there (get_or d.values id e) (fit_texts d b is s.kind_is id e lt) (is.stands.unicode id e lt) in
    slice_get-get_or d.values id e lt ∙ ap Some (there.0 ∙ ap value.Text (sym (text_bytes_are d b id base start end e found s cut is)))

pub not_unicode : (d : Distinct) (b : Block) (id base start end : ℕ) (found : List ℕ) → Said b id base start end → found ≡ part (start - base) (end - start) b.body → ¬ IsUtf8 found → IsBlockOf d b → ⊥
not_unicode d b id base start end found s cut bad is =
    let high = s.within in
    let within = is.within in
    let lt : id < length d.values = omega (arith, high, within) in
    let e : Value = value.Text found in
    let there = text_there (get_or d.values id e) (fit_texts d b is s.kind_is id e lt) (is.stands.unicode id e lt) in
    bad (subst IsUtf8 (sym (text_bytes_are d b id base start end e found s cut is)) there.1)
