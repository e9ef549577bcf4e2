-- The number in a field.
use Rattle.std.proofs.Common.{◌≡◌, ◌∙◌, ◌<◌, ℕ, zero, suc, ℤ, pos, List, [], ◌∷◌, get_or, Bool, true, false, Result, Ok, Err, Option, Some, None, option_map, ◌==◌, nat_le, length, IfSome, if◌then◌else◌, refl, sym, ap, subst, arith}
use Rattle.std.specs.List.{list_all}
use Rattle.std.specs.Str.{IsAscii, is_utf8}
use Rattle.std.specs.Prelude.{IsUtf8}
use Rattle.std.specs.Result.{result_ok}
use Rattle.std.proofs.lemmas.Bool.Decides.{nat_tests}
use Rattle.std.proofs.lemmas.List.Sums.{AllPass-from_list_all}
use Rattle.std.proofs.lemmas.Str.{IsUtf8-from_ascii, IsUtf8-from_is_utf8, is_utf8-from_IsUtf8}
use Rattle.std.proofs.lemmas.Str.Ascii.{IsAscii-from_all}
use Rattle.data_types.specs.Numbers.{is_digit, negative, place_value, ranged, spelled_number, unsigned_number, whole_of}
use Rattle.data_types.specs.declared.kind.FieldKind.{FieldKind}
use Rattle.data_types.specs.declared.kind.FieldKind.TheVariants as named
use Rattle.data_types.specs.declared.whole.WholeFault.{WholeFault}
use Rattle.data_types.specs.declared.whole.WholeFault.TheVariants.{NotANumber, OutOfRange}
use Rattle.values.specs.declared.read.ValueFault.{ValueFault}
use Rattle.values.specs.declared.read.ValueFault.TheVariants.{TooLong}
use Rattle.values.specs.declared.value.Value.{Value}
use Rattle.values.specs.declared.value.Value.TheVariants.{Whole, Text}
use Rattle.values.specs.Reading.{number_value, value_of}
use Rattle.csv_row.specs.declared.fault.CsvKind.TheVariants.{NotUtf8}
use Rattle.csv_row.specs.Row.{kinded, value_in}

digit_ascii : (b : ℕ) → is_digit b ≡ true → b < 128
digit_ascii b e = grind (arith, nat_tests)

digits_ascii : (text : List ℕ) → list_all is_digit text ≡ true → IsAscii text
digits_ascii text e = IsAscii-from_all text (λ k d lt. digit_ascii (get_or text k d) (AllPass-from_list_all is_digit text e k d lt))

passed : (b : Bool) (x n : ℕ) → (if b then Some x else None) ≡ Some n → b ≡ true
passed true x n e = refl
passed false x n e = absurd cc

unsigned_digits : (text : List ℕ) (n : ℕ) → unsigned_number text ≡ Some n → list_all is_digit text ≡ true
unsigned_digits [] n e = refl
unsigned_digits (d ∷ text) n e = passed (list_all is_digit (d ∷ text)) (place_value (d ∷ text)) n e

unsigned_by : (f : ℕ → ℤ) (text : List ℕ) (z : ℤ) (o : Option ℕ) → unsigned_number text ≡ o → option_map f o ≡ Some z → IsAscii text
unsigned_by f text z (Some n) is e = digits_ascii text (unsigned_digits text n is)
unsigned_by f text z None is e = absurd cc

ascii_cons : (c : ℕ) (text : List ℕ) → c < 128 → IsAscii text → IsAscii (c ∷ text)
ascii_cons c text lt ascii zero = lt
ascii_cons c text lt ascii (suc i) = ascii i

sign_ascii : (c sign : ℕ) → sign < 128 → (c == sign) ≡ true → c < 128
sign_ascii c sign lt e = grind (arith, nat_tests)

signed_ascii : (minus plus : Bool) (c : ℕ) (text : List ℕ) (z : ℤ) → (minus ≡ true → c < 128) → (plus ≡ true → c < 128)
    → (if minus then option_map negative (unsigned_number text) else (if plus then option_map pos (unsigned_number text) else option_map pos (unsigned_number (c ∷ text)))) ≡ Some z
    → IsAscii (c ∷ text)
signed_ascii true plus c text z m p e = ascii_cons c text (m refl) (unsigned_by negative text z (unsigned_number text) refl e)
signed_ascii false true c text z m p e = ascii_cons c text (p refl) (unsigned_by pos text z (unsigned_number text) refl e)
signed_ascii false false c text z m p e = unsigned_by pos (c ∷ text) z (unsigned_number (c ∷ text)) refl e

spelled_ascii : (text : List ℕ) (z : ℤ) → spelled_number text ≡ Some z → IsAscii text
spelled_ascii [] z e = absurd cc
spelled_ascii (c ∷ text) z e = signed_ascii (c == 45) (c == 43) c text z (sign_ascii c 45 (omega arith)) (sign_ascii c 43 (omega arith)) e

ranged_ascii : (kind : FieldKind) (text : List ℕ) (n : ℤ) (o : Option ℤ) → spelled_number text ≡ o → ranged kind o ≡ Ok n → IsAscii text
ranged_ascii kind text n (Some z) is e = spelled_ascii text z is
ranged_ascii kind text n None is e = absurd cc

-- a text that spells a number is ASCII
spelled-utf8 : (kind : FieldKind) (text : List ℕ) (n : ℤ) → whole_of kind text ≡ Ok n → is_utf8 text ≡ true
spelled-utf8 kind text n e = is_utf8-from_IsUtf8 text (IsUtf8-from_ascii text (ranged_ascii kind text n (spelled_number text) refl e))

-- a number that some bytes spell is the value that they are
pub number_ok : (kind : FieldKind) (text : List ℕ) (n : ℤ) → value_of kind text ≡ number_value (whole_of kind text) → whole_of kind text ≡ Ok n → value_in kind text ≡ Ok (Whole n)
number_ok kind text n is e =
    ap (λ b. if b then kinded (value_of kind text) else Err NotUtf8) (spelled-utf8 kind text n e)
    ∙ ap kinded is ∙ ap (λ r. kinded (number_value r)) e

number_by : (kind : FieldKind) (text : List ℕ) (found : Option ℤ) (o : Result ℤ WholeFault) → value_of kind text ≡ number_value (whole_of kind text) → whole_of kind text ≡ o → found ≡ result_ok o
    → IfSome found (λ n. value_in kind text ≡ Ok (Whole n))
number_by kind text found (Ok n) is e got = subst (λ r. IfSome r (λ m. value_in kind text ≡ Ok (Whole m))) (sym got) (number_ok kind text n is e)
number_by kind text found (Err fault) is e got = subst (λ r. IfSome r (λ m. value_in kind text ≡ Ok (Whole m))) (sym got) tt

-- the same for one of the two kinds of numbers
pub number-found : (kind named : FieldKind) (text : List ℕ) (found : Option ℤ) → kind ≡ named → value_of named text ≡ number_value (whole_of named text) → found ≡ result_ok (whole_of named text)
    → IfSome found (λ n. value_in kind text ≡ Ok (Whole n))
number-found kind named text found same is got =
    subst (λ k. IfSome found (λ n. value_in k text ≡ Ok (Whole n))) (sym same) (number_by named text found (whole_of named text) is refl got)

not_utf8_by : (bytes : List ℕ) (b : Bool) → is_utf8 bytes ≡ b → (IsUtf8 bytes → ⊥) → is_utf8 bytes ≡ false
not_utf8_by bytes true e never = absurd (never (IsUtf8-from_is_utf8 bytes e))
not_utf8_by bytes false e never = e

pub not-utf8 : (bytes : List ℕ) → (IsUtf8 bytes → ⊥) → is_utf8 bytes ≡ false
not-utf8 bytes never = not_utf8_by bytes (is_utf8 bytes) refl never

pub yes-utf8 : (bytes : List ℕ) → IsUtf8 bytes → is_utf8 bytes ≡ true
yes-utf8 bytes is = is_utf8-from_IsUtf8 bytes is

-- no text is a number where its reading gives none
kinded_none : (b : Bool) (r : Result Value ValueFault) (n : ℤ) → (kinded r ≡ Ok (Whole n) → ⊥) → (if b then kinded r else Err NotUtf8) ≡ Ok (Whole n) → ⊥
kinded_none true r n never e = never e
kinded_none false r n never e = absurd cc

fault_none : (fault : WholeFault) (n : ℤ) → kinded (number_value (Err fault)) ≡ Ok (Whole n) → ⊥
fault_none NotANumber n e = absurd cc
fault_none OutOfRange n e = absurd cc

number_none : (kind : FieldKind) (text : List ℕ) (found : Option ℤ) (o : Result ℤ WholeFault) → value_of kind text ≡ number_value (whole_of kind text) → whole_of kind text ≡ o → found ≡ result_ok o
    → found ≡ None → (n : ℤ) → value_in kind text ≡ Ok (Whole n) → ⊥
number_none kind text found (Ok m) is e got none n there = absurd cc
number_none kind text found (Err fault) is e got none n there =
    kinded_none (is_utf8 text) (value_of kind text) n (subst (λ r. kinded r ≡ Ok (Whole n) → ⊥) (sym (is ∙ ap number_value e)) (fault_none fault n)) there

pub number-missing : (kind named : FieldKind) (text : List ℕ) (found : Option ℤ) → kind ≡ named → value_of named text ≡ number_value (whole_of named text) → found ≡ result_ok (whole_of named text)
    → found ≡ None → (n : ℤ) → value_in kind text ≡ Ok (Whole n) → ⊥
number-missing kind named text found same is got =
    subst (λ k. found ≡ None → (n : ℤ) → value_in k text ≡ Ok (Whole n) → ⊥) (sym same) (number_none named text found (whole_of named text) is refl got)

text_none : (b : Bool) (text : List ℕ) (n : ℤ) → kinded (if b then Ok (Text text) else Err TooLong) ≡ Ok (Whole n) → ⊥
text_none true text n e = absurd cc
text_none false text n e = absurd cc

-- no value of a field of texts is a number
pub text-missing : (kind : FieldKind) (text : List ℕ) → kind ≡ named.Text → (n : ℤ) → value_in kind text ≡ Ok (Whole n) → ⊥
text-missing kind text is =
    subst (λ k. (n : ℤ) → value_in k text ≡ Ok (Whole n) → ⊥) (sym is) (λ n. kinded_none (is_utf8 text) (value_of named.Text text) n (text_none (nat_le (length text) 512) text n))
