-- The text of a record, field by field, and of rows, record by record.
use Rattle.std.proofs.Common.{◌≡◌, ◌∙◌, ◌<◌, ◌≤◌, ◌+◌, ◌^◌, ◌&&◌, ◌==◌, ℕ, ℤ, pos, negsuc, suc, true, false, List, [], ◌∷◌, ◌++◌, length, map, take, get_or, nat_lt, FitsSigned, w64, Some, slice_get, Result, Ok, Err, OnOk, refl, sym, ap, arith, append_assoc, length-append}
use Rattle.std.specs.Prelude.{if◌then◌else◌}
use Rattle.std.specs.Fmt.{decimal, signed_decimal}
use Rattle.std.specs.List.{list_any}
use Rattle.std.specs.Str.Parse.{AllDigits}
use Rattle.std.proofs.lemmas.Bool.{eq-eqb, eqb-false, eqb-true, le-ltb, ne_eqb}
use Rattle.std.proofs.lemmas.Fmt.{decimal_is_IsNumeral}
use Rattle.std.proofs.lemmas.Grind.{flat_map-append}
use Rattle.std.proofs.lemmas.List.{append-nil, length-map, length-take-le, map-append, take_more}
use Rattle.std.proofs.lemmas.Str.Parse.{digit_at}
use Rattle.csv.proofs.WriteFacts.{escaped-append}
use Rattle.csv.specs.Writing.{default_writer, escaped, field_text, fields_text, is_blank, needs_byte, next_sep, row_body, row_text}
use Rattle.values.specs.declared.value.Value.{Value}
use Rattle.values.specs.Printed.{text_of}
use Rattle.values.proofs.RowLemmas.{rows-more}
use Rattle.csv_text.specs.Rows.{end_of, records_text}

-- ---- numbers want no quotes

plain_digit : (b : ℕ) → 48 ≤ b → needs_byte default_writer b ≡ false
plain_digit b le =
    rw (ne_eqb b 44 (λ e. omega (arith, le, e))) (rw (ne_eqb b 34 (λ e. omega (arith, le, e))) (rw (ne_eqb b 13 (λ e. omega (arith, le, e))) (rw (ne_eqb b 10 (λ e. omega (arith, le, e))) refl)))

plain_digits : (ds : List ℕ) → AllDigits 10 ds → list_any (needs_byte default_writer) ds ≡ false
plain_digits [] all = refl
plain_digits (d ∷ ds) all = rw (plain_digit d (digit_at (d ∷ ds) 0 all (omega arith)).0) (plain_digits ds all.1)

plain_decimal : (n : ℕ) → n < 2 ^ 64 → list_any (needs_byte default_writer) (decimal n) ≡ false
plain_decimal n small = plain_digits (decimal n) (decimal_is_IsNumeral n small).0.1

plain_signed : (z : ℤ) → FitsSigned w64 z → list_any (needs_byte default_writer) (signed_decimal z) ≡ false
plain_signed (pos n) fits = plain_decimal n (omega (arith, fits.sfits))
plain_signed (negsuc n) fits = plain_decimal (suc n) (omega (arith, fits.sfits))

-- a number is written as it is
pub number_text : (z : ℤ) → FitsSigned w64 z → field_text default_writer (signed_decimal z) ≡ signed_decimal z
number_text z fits = rw (plain_signed z fits) refl

-- ---- a record, field by field

fields_more : (fs gs : List (List ℕ)) → fields_text default_writer (fs ++ gs) ≡ fields_text default_writer fs ++ fields_text default_writer gs
unfolding fields_text
fields_more [] gs = refl
fields_more (f ∷ fs) gs =
    ap (λ rest. 44 ∷ (field_text default_writer f ++ rest)) (fields_more fs gs)
    ∙ ap (λ rest. 44 ∷ rest) (sym (append_assoc (field_text default_writer f) (fields_text default_writer fs) (fields_text default_writer gs)))

one_more : (n : ℕ) (f : List ℕ) → fields_text default_writer (f ∷ []) ≡ next_sep default_writer (suc n) ++ field_text default_writer f
unfolding fields_text
one_more n f =
    ap (λ t. 44 ∷ t) (append-nil (field_text default_writer f))
    ∙ ap (λ b. (if b then [] else 44 ∷ []) ++ field_text default_writer f) (sym (ne_eqb (suc n) 0 (λ z. cc z)))

-- one more field
body_more : (fs : List (List ℕ)) (f : List ℕ) → row_body default_writer (fs ++ f ∷ []) ≡ row_body default_writer fs ++ (next_sep default_writer (length fs) ++ field_text default_writer f)
unfolding fields_text
body_more [] f = append-nil (field_text default_writer f)
body_more (g ∷ fs) f =
    ap (λ rest. field_text default_writer g ++ rest) (fields_more fs (f ∷ []) ∙ ap (λ t. fields_text default_writer fs ++ t) (one_more (length fs) f))
    ∙ sym (append_assoc (field_text default_writer g) (fields_text default_writer fs) (next_sep default_writer (suc (length fs)) ++ field_text default_writer f))

-- the same of the field of one more thing in a list
pub fields_done : {A : Type 0} (f : A → List ℕ) (xs : List A) (i : ℕ) (x : A) (start old mid new : List ℕ) → i < length xs → x ≡ get_or xs i x → old ≡ start ++ row_body default_writer (map f (take i xs)) → mid ≡ old ++ next_sep default_writer i
    → new ≡ mid ++ field_text default_writer (f x) → new ≡ start ++ row_body default_writer (map f (take (i + 1) xs))
fields_done f xs i x start old mid new lt is before between after =
    let B : List ℕ = row_body default_writer (map f (take i xs)) in
    let S : List ℕ = next_sep default_writer i in
    let F : List ℕ = field_text default_writer (f x) in
    let more : map f (take (i + 1) xs) ≡ map f (take i xs) ++ f x ∷ [] = ap (map f) (take_more xs i x lt ∙ ap (λ y. take i xs ++ y ∷ []) (sym is)) ∙ map-append f (take i xs) (x ∷ []) in
    let count : length (map f (take i xs)) ≡ i = length-map (take i xs) f ∙ length-take-le i xs (omega (arith, lt)) in
    let body : row_body default_writer (map f (take (i + 1) xs)) ≡ B ++ (S ++ F) = ap (row_body default_writer) more ∙ body_more (map f (take i xs)) (f x) ∙ ap (λ n. B ++ (next_sep default_writer n ++ F)) count in
    after ∙ ap (λ m. m ++ F) (between ∙ ap (λ o. o ++ S) before) ∙ append_assoc (start ++ B) S F ∙ append_assoc start B (S ++ F) ∙ ap (λ t. start ++ t) (sym body)

-- whether a record shows no byte
blank_so : (fs : List (List ℕ)) → is_blank default_writer fs ≡ (nat_lt (length fs) 2 && (length (row_body default_writer fs) == 0))
unfolding is_blank fields_text
blank_so [] = refl
blank_so (f ∷ []) = ap (λ t. length t == 0) (sym (append-nil (field_text default_writer f)))
blank_so (f ∷ g ∷ fs) = sym (ap (λ b. b && (length (row_body default_writer (f ∷ g ∷ fs)) == 0)) (le-ltb (length (f ∷ g ∷ fs)) 2 (omega arith)))

at_start : (first body : List ℕ) → (length (first ++ body) == length first) ≡ (length body == 0)
at_start first body =
    elim (length body == 0) as (λ b. (length body == 0) ≡ b → (length (first ++ body) == length first) ≡ b) [
      | true ↦ λ e. let none : length body ≡ 0 = eqb-true (length body) 0 e in eq-eqb (length (first ++ body)) (length first) (omega (arith, length-append first body, none))
      | false ↦ λ e. ne_eqb (length (first ++ body)) (length first) (λ same. eqb-false (length body) 0 e (omega (arith, length-append first body, same)))
    ] refl

-- a record with its end
pub record_done : (first : List ℕ) (fs : List (List ℕ)) (old new : List ℕ) (fields start : ℕ) → old ≡ first ++ row_body default_writer fs → fields ≡ length fs → start ≡ length first
    → new ≡ old ++ end_of (nat_lt fields 2 && (length old == start)) → new ≡ first ++ row_text default_writer fs
record_done first fs old new fields start is many at done =
    let B : List ℕ = row_body default_writer fs in
    let blank : (nat_lt fields 2 && (length old == start)) ≡ is_blank default_writer fs =
    ap (λ o. nat_lt fields 2 && (length o == start)) is ∙ ap (λ n. nat_lt n 2 && (length (first ++ B) == start)) many ∙ ap (λ s. nat_lt (length fs) 2 && (length (first ++ B) == s)) at
    ∙ ap (λ b. nat_lt (length fs) 2 && b) (at_start first B) ∙ sym (blank_so fs) in
    done ∙ ap (λ b. old ++ end_of b) blank ∙ ap (λ o. o ++ end_of (is_blank default_writer fs)) is ∙ append_assoc first B (end_of (is_blank default_writer fs))

-- ---- rows, record by record

-- one more record
pub records_more : (rows : List (List Value)) (at : ℕ) (row : List Value) (start old new : List ℕ) → slice_get rows at ≡ Some row → old ≡ start ++ records_text (take at rows) → new ≡ old ++ row_text default_writer (map text_of row)
    → new ≡ start ++ records_text (take (at + 1) rows)
records_more rows at row start old new got before after =
    let R : List ℕ = row_text default_writer (map text_of row) in
    let more : records_text (take (at + 1) rows) ≡ records_text (take at rows) ++ R =
    ap records_text (sym (rows-more rows (take at rows) at row refl got)) ∙ flat_map-append (λ r. row_text default_writer (map text_of r)) (take at rows) (row ∷ []) ∙ ap (λ t. records_text (take at rows) ++ t) (append-nil R) in
    after ∙ ap (λ o. o ++ R) before ∙ append_assoc start (records_text (take at rows)) R ∙ ap (λ t. start ++ t) (sym more)

-- ---- between quotes

-- one more byte
pub quoted_more : (bytes : List ℕ) (i : ℕ) (start old new : List ℕ) → i < length bytes → old ≡ start ++ (34 ∷ escaped default_writer (take i bytes))
    → new ≡ old ++ (if get_or bytes i 0 == 34 then 34 ∷ get_or bytes i 0 ∷ [] else get_or bytes i 0 ∷ []) → new ≡ start ++ (34 ∷ escaped default_writer (take (i + 1) bytes))
unfolding escaped
quoted_more bytes i start old new lt before after =
    let b : ℕ = get_or bytes i 0 in
    let E : List ℕ = if b == 34 then 34 ∷ b ∷ [] else b ∷ [] in
    let done : List ℕ = escaped default_writer (take i bytes) in
    let more : escaped default_writer (take (i + 1) bytes) ≡ done ++ E = ap (escaped default_writer) (take_more bytes i 0 lt) ∙ escaped-append default_writer (take i bytes) (b ∷ []) in
    after ∙ ap (λ o. o ++ E) before ∙ append_assoc start (34 ∷ done) E ∙ ap (λ t. start ++ (34 ∷ t)) (sym more)

pub quoted_begin : (start new : List ℕ) → new ≡ start ++ 34 ∷ [] → new ≡ start ++ (34 ∷ escaped default_writer [])
unfolding escaped
quoted_begin start new is = is

-- what follows where a call ended well
pub told : {E : Type 0} {A B : Type 0} (result : Result (Unit {0}) E) → (A → B) → OnOk result A → OnOk result B
told (Ok done) f a = f a
told (Err why) f a = tt
