-- The body of a dictionary of numbers: eight bytes a number.
use Rattle.std.proofs.Common.{◌≡◌, ◌≢◌, ◌∙◌, ◌<◌, ◌≤◌, ◌+◌, ◌-◌, ◌*◌, ◌^◌, ℕ, ℤ, pos, negsuc, true, List, [], ◌∷◌, ◌++◌, length, take, drop, refl, sym, ap, subst, arith, append_assoc, append-nil}
use Rattle.std.proofs.lemmas.Bool.{false≢true}
use Rattle.std.proofs.lemmas.Int.{to_z-of_z, of_z-to_z}
use Rattle.std.proofs.lemmas.List.{length-append, take-append-drop}
use Rattle.std.proofs.lemmas.Nat.{be_bytes_8, from_be_bytes-to_be_bytes_8}
use Rattle.std.specs.Int.{w64, from_be_bytes, cast_signed, cast_unsigned}
use Rattle.std.specs.Int.RustNames.{FitsSigned}
use Rattle.data_types.specs.Numbers.{is_in_range}
use Rattle.data_types.specs.declared.kind.FieldKind.{FieldKind}
use Rattle.data_types.specs.declared.kind.FieldKind.TheVariants as kind
use Rattle.values.specs.declared.value.Value.{Value}
use Rattle.values.specs.declared.value.Value.TheVariants as value
use Rattle.value_ids.specs.Dictionary.{Fits, IsUnicode, most_values}
use Rattle.dictionary.specs.Reading.{is_above_last, IsBody, NoBody}
use Rattle.dictionary.specs.Pieces.{AreNumbersOf, NoNumbers}
use Rattle.dictionary.proofs.Progress.{IsRead, above_from, not_whole}
use Rattle.dictionary.proofs.Written.{numbers-append}
use Rattle.value_ids.proofs.Ascending.{push_ascends}
use Rattle.value_ids.proofs.DistinctLemmas.{nil_ascends}
use Rattle.values.specs.Order.Laws.{value_order-total}
use Rattle.dictionary.specs.Spelling.{number_bytes, numbers, body}
use Rattle.dictionary.proofs.Bytes.{AreBytes, same_fronts, same_rests}
use Rattle.std.specs.List.{All, slice_get}
use Rattle.std.proofs.lemmas.List.Elements.{All-head, All-nil, All-push, All-tail}
use Rattle.values.specs.Kinds.{fits}
use borrow.Author.Tests.{ltb-true, lt-ltb}
use lib.Signed.{mag}

in_range_fits : (z : ℤ) → is_in_range kind.Long z ≡ true → FitsSigned w64 z
in_range_fits (pos n) e = record { sfits = ltb-true n (2 ^ 63) e }
in_range_fits (negsuc n) e = record { sfits = ltb-true n (2 ^ 63) e }

cast_below : (z : ℤ) → is_in_range kind.Long z ≡ true → cast_unsigned w64 z < 2 ^ 64
cast_below (pos n) e = let lt = ltb-true n (2 ^ 63) e in omega arith
cast_below (negsuc n) e = let lt = ltb-true n (2 ^ 63) e in omega arith

pub length-number : (z : ℤ) → length (number_bytes (value.Whole z)) ≡ 8
unfolding number_bytes
length-number z = refl

-- the number that eight bytes are, as they are read
number_of : List ℕ → ℤ
number_of bytes = cast_signed w64 (from_be_bytes w64 bytes)

number_back : (z : ℤ) → is_in_range kind.Long z ≡ true → number_of (number_bytes (value.Whole z)) ≡ z
unfolding number_bytes number_of
number_back z fit = ap (cast_signed w64) (from_be_bytes-to_be_bytes_8 (cast_unsigned w64 z) (cast_below z fit)) ∙ to_z-of_z w64 z (in_range_fits z fit)

-- eight bytes, read, are spelled so
pub number_read : (bytes : List ℕ) (n : ℕ) (z : ℤ) → length bytes ≡ 8 → AreBytes bytes → n < 2 ^ 64 → n ≡ from_be_bytes w64 bytes → z ≡ cast_signed w64 n → number_bytes (value.Whole z) ≡ bytes
unfolding number_bytes
number_read bytes n z lengths small below is cast = be_bytes_8 bytes (cast_unsigned w64 z) lengths small (ap (cast_unsigned w64) cast ∙ of_z-to_z w64 n below ∙ is)

pub within_range : (z : ℤ) → mag z < 2 ^ 63 → is_in_range kind.Long z ≡ true
within_range (pos n) lt = lt-ltb n (2 ^ 63) lt
within_range (negsuc n) lt = lt-ltb n (2 ^ 63) lt

pub fits_from_mag : (z : ℤ) → mag z < 2 ^ 63 → FitsSigned w64 z
fits_from_mag z lt = record { sfits = lt }

-- numbers are spelled apart
pub number_once : (y z : ℤ) → is_in_range kind.Long y ≡ true → is_in_range kind.Long z ≡ true → number_bytes (value.Whole y) ≡ number_bytes (value.Whole z) → y ≡ z
number_once y z fy fz e = sym (number_back y fy) ∙ ap number_of e ∙ number_back z fz

-- ---- bodies

pub fits_long : (kind' : FieldKind) (z : ℤ) → fits kind' (value.Whole z) ≡ true → is_in_range kind.Long z ≡ true
fits_long kind.Int (pos n) e = let lt = ltb-true n (2 ^ 31) e in lt-ltb n (2 ^ 63) (omega arith)
fits_long kind.Int (negsuc n) e = let lt = ltb-true n (2 ^ 31) e in lt-ltb n (2 ^ 63) (omega arith)
fits_long kind.Long z e = e
fits_long kind.Text z e = absurd (false≢true e)

pub body_is_numbers : (kind' : FieldKind) (vs : List Value) → kind' ≢ kind.Text → body kind' vs ≡ numbers vs
body_is_numbers kind.Int vs other = refl
body_is_numbers kind.Long vs other = refl
body_is_numbers kind.Text vs other = absurd (other refl)

pub no_text : (kind' : FieldKind) (t : List ℕ) → kind' ≢ kind.Text → fits kind' (value.Text t) ≡ true → ⊥
no_text kind.Int t other e = false≢true e
no_text kind.Long t other e = false≢true e
no_text kind.Text t other e = other refl

-- the number at the front of a body that begins with the bytes of one
pub number_front : (kind' : FieldKind) (e : Value) (more : List Value) (z : ℤ) (rest following : List ℕ) → kind' ≢ kind.Text → Fits kind' e → is_in_range kind.Long z ≡ true
    → rest ≡ number_bytes (value.Whole z) ++ following → rest ≡ numbers (e ∷ more) → (e ≡ value.Whole z) × (following ≡ numbers more)
number_front kind' (value.Text t) more z rest following other fit fz front all = absurd (no_text kind' t other fit)
number_front kind' (value.Whole y) more z rest following other fit fz front all =
    let same : number_bytes (value.Whole z) ++ following ≡ number_bytes (value.Whole y) ++ numbers more = sym front ∙ all in
    let len : length (number_bytes (value.Whole z)) ≡ length (number_bytes (value.Whole y)) = length-number z ∙ sym (length-number y) in (
      ap value.Whole (sym (number_once z y fz (fits_long kind' y fit) (same_fronts (number_bytes (value.Whole z)) (number_bytes (value.Whole y)) following (numbers more) len same))),
      same_rests (number_bytes (value.Whole z)) (number_bytes (value.Whole y)) following (numbers more) len same,
    )

pub length-numbers : (kind' : FieldKind) (vs : List Value) → kind' ≢ kind.Text → All (Fits kind') vs → length (numbers vs) ≡ 8 * length vs
length-numbers kind' [] other fit = refl
length-numbers kind' (value.Text t ∷ vs) other fit = absurd (no_text kind' t other (All-head (Fits kind') (value.Text t) vs fit))
length-numbers kind' (value.Whole z ∷ vs) other fit =
    let ih = length-numbers kind' vs other (All-tail (Fits kind') (value.Whole z) vs fit) in
    omega (arith, length-append (number_bytes (value.Whole z)) (numbers vs), length-number z)

-- ---- reading

in_range_of : (k : FieldKind) (z : ℤ) → fits k (value.Whole z) ≡ true → is_in_range k z ≡ true
in_range_of kind.Int z e = e
in_range_of kind.Long z e = e
in_range_of kind.Text z e = absurd (false≢true e)

fits_of : (k : FieldKind) (z : ℤ) → k ≢ kind.Text → is_in_range k z ≡ true → fits k (value.Whole z) ≡ true
fits_of kind.Int z other e = e
fits_of kind.Long z other e = e
fits_of kind.Text z other e = absurd (other refl)

-- numbers whose bytes begin with those of others begin with these
front_numbers : (k : FieldKind) (vs all : List Value) (tail : List ℕ) → k ≢ kind.Text → All (Fits k) vs → All (Fits k) all → numbers vs ++ tail ≡ numbers all → (more : List Value) × (all ≡ vs ++ more) × (tail ≡ numbers more)
front_numbers k [] all tail other fv fa e = (all, refl, e)
front_numbers k (value.Text t ∷ vs) all tail other fv fa e = absurd (no_text k t other (All-head (Fits k) (value.Text t) vs fv))
front_numbers k (value.Whole z ∷ vs) [] tail other fv fa e =
    absurd (omega (arith, ap length e, length-append (number_bytes (value.Whole z) ++ numbers vs) tail, length-append (number_bytes (value.Whole z)) (numbers vs), length-number z))
front_numbers k (value.Whole z ∷ vs) (x ∷ xs) tail other fv fa e =
    let f = number_front k x xs z ((number_bytes (value.Whole z) ++ numbers vs) ++ tail) (numbers vs ++ tail) other (All-head (Fits k) x xs fa) (fits_long k z (All-head (Fits k) (value.Whole z) vs fv))
    (append_assoc (number_bytes (value.Whole z)) (numbers vs) tail) e in
    let ih = front_numbers k vs xs tail other (All-tail (Fits k) (value.Whole z) vs fv) (All-tail (Fits k) x xs fa) f.1 in
    (ih.0, (λ i. f.0 i ∷ ih.1 i), ih.2)

-- the values that are read, so that those of the bytes after them are left
read_of : (k : FieldKind) (before tail : List ℕ) (vs : List Value) → k ≢ kind.Text → AreNumbersOf k before vs → IsRead k (λ all. before ++ tail ≡ numbers all) (λ more. tail ≡ numbers more) vs
read_of k before tail vs other r = record {
  forth = λ more h. (λ i. r.spelled i ++ h i) ∙ sym (numbers-append vs more);
  back = λ all d h. front_numbers k vs all tail other r.fit d.fit (ap (λ b. b ++ tail) (sym r.spelled) ∙ h);
  fit = r.fit;
  unicode = r.unicode;
  ascends = r.ascends;
}

pub none_of : (k : FieldKind) (vs : List Value) → vs ≡ [] → AreNumbersOf k [] vs
none_of k vs none = subst (AreNumbersOf k []) (sym none) (record { spelled = refl; fit = All-nil (Fits k); unicode = All-nil IsUnicode; ascends = nil_ascends })

-- eight bytes at the front
chunk_front : (rest chunk following : List ℕ) (z : ℤ) → number_bytes (value.Whole z) ≡ chunk → chunk ≡ take 8 rest → following ≡ drop 8 rest → rest ≡ number_bytes (value.Whole z) ++ following
chunk_front rest chunk following z spelled front back = sym (take-append-drop 8 rest) ∙ (λ i. sym (spelled ∙ front) i ++ sym back i)

one_more : (k : FieldKind) (before : List ℕ) (vs : List Value) (z : ℤ) → k ≢ kind.Text → is_in_range k z ≡ true → is_above_last vs (value.Whole z) ≡ true → AreNumbersOf k before vs → AreNumbersOf k (before ++ number_bytes (value.Whole z)) (vs ++ value.Whole z ∷ [])
one_more k before vs z other within above r = record {
  spelled = (λ i. r.spelled i ++ sym (append-nil (number_bytes (value.Whole z))) i) ∙ sym (numbers-append vs (value.Whole z ∷ []));
  fit = All-push (Fits k) vs (value.Whole z) r.fit (fits_of k z other within);
  unicode = All-push IsUnicode vs (value.Whole z) r.unicode tt;
  ascends = push_ascends value_order-total vs (value.Whole z) r.ascends (above_from (slice_get vs (length vs - 1)) (value.Whole z) above);
}

-- some of the bytes are read, and eight bytes a number are left
pub record PushesOn (k : FieldKind) (bytes rest : List ℕ) (old vs : List Value) : Type 0 where
  pub done : List ℕ
  pub parts : bytes ≡ done ++ rest
  pub eights : (n : ℕ) × (length rest ≡ 8 * n)
  pub reads : (before : List ℕ) → AreNumbersOf k before old → AreNumbersOf k (before ++ done) vs

pub push_begin : (k : FieldKind) (bytes : List ℕ) (vs : List Value) → (n : ℕ) × (length bytes ≡ 8 * n) → PushesOn k bytes bytes vs vs
push_begin k bytes vs eights = record {
  done = [];
  parts = refl;
  eights = eights;
  reads = λ before r. subst (λ b. AreNumbersOf k b vs) (sym (append-nil before)) r;
}

pub push_more : (k : FieldKind) (bytes rest chunk following : List ℕ) (old vs new : List Value) (z : ℤ) → k ≢ kind.Text → number_bytes (value.Whole z) ≡ chunk → chunk ≡ take 8 rest → following ≡ drop 8 rest
    → is_in_range k z ≡ true → is_above_last vs (value.Whole z) ≡ true → PushesOn k bytes rest old vs → new ≡ vs ++ value.Whole z ∷ [] → PushesOn k bytes following old new
push_more k bytes rest chunk following old vs new z other spelled front back within above p is =
    let split : rest ≡ number_bytes (value.Whole z) ++ following = chunk_front rest chunk following z spelled front back in
    let size : length rest ≡ 8 + length following = ap length split ∙ length-append (number_bytes (value.Whole z)) following ∙ ap (λ n. n + length following) (length-number z) in
    let (n, many) = p.eights in
    subst (PushesOn k bytes following old) (sym is) (record {
      done = p.done ++ number_bytes (value.Whole z);
      parts = p.parts ∙ ap (λ r. p.done ++ r) split ∙ sym (append_assoc p.done (number_bytes (value.Whole z)) following);
      eights = (n - 1, omega (arith, many, size));
      reads = λ before r. subst (λ b. AreNumbersOf k b (vs ++ value.Whole z ∷ [])) (append_assoc before p.done (number_bytes (value.Whole z))) (one_more k (before ++ p.done) vs z other within above (p.reads before r));
    })

nothing : (xs : List ℕ) → length xs ≡ 0 → xs ≡ []
nothing [] e = refl
nothing (x ∷ xs) e = absurd (omega arith)

pub push_end : (k : FieldKind) (bytes rest : List ℕ) (old vs : List Value) → length rest < 8 → PushesOn k bytes rest old vs → (before : List ℕ) → AreNumbersOf k before old → AreNumbersOf k (before ++ bytes) vs
push_end k bytes rest old vs short p before r =
    let (n, many) = p.eights in
    let none : rest ≡ [] = nothing rest (omega (arith, many)) in
    let all : bytes ≡ p.done = p.parts ∙ ap (λ b. p.done ++ b) none ∙ append-nil p.done in
    subst (λ b. AreNumbersOf k (before ++ b) vs) (sym all) (p.reads before r)

pub push_refused : (k : FieldKind) (bytes rest chunk following : List ℕ) (old vs : List Value) (z : ℤ) → k ≢ kind.Text → number_bytes (value.Whole z) ≡ chunk → chunk ≡ take 8 rest → following ≡ drop 8 rest
    → is_in_range kind.Long z ≡ true → PushesOn k bytes rest old vs → (is_in_range k z ≡ true → is_above_last vs (value.Whole z) ≡ true → ⊥)
    → (before after : List ℕ) → AreNumbersOf k before old → NoNumbers k (before ++ (bytes ++ after))
push_refused k bytes rest chunk following old vs z other spelled front back fz p refused before after r all d e =
    let split : rest ≡ number_bytes (value.Whole z) ++ following = chunk_front rest chunk following z spelled front back in
    let size : length rest ≡ 8 + length following = ap length split ∙ length-append (number_bytes (value.Whole z)) following ∙ ap (λ n. n + length following) (length-number z) in
    let ahead : rest ++ after ≡ number_bytes (value.Whole z) ++ (following ++ after) = ap (λ b. b ++ after) split ∙ append_assoc (number_bytes (value.Whole z)) following after in
    let whole : before ++ (bytes ++ after) ≡ (before ++ p.done) ++ (rest ++ after) =
    ap (λ b. before ++ (b ++ after)) p.parts ∙ ap (λ b. before ++ b) (append_assoc p.done rest after) ∙ sym (append_assoc before p.done (rest ++ after)) in
    not_whole k (λ xs. (before ++ p.done) ++ (rest ++ after) ≡ numbers xs) (λ more. rest ++ after ≡ numbers more) vs (read_of k (before ++ p.done) (rest ++ after) vs other (p.reads before r))
    (λ h. absurd (omega (arith, ap length h, length-append rest after, size)))
    (λ x xs fx ux above h.
    let f = number_front k x xs z (rest ++ after) (following ++ after) other fx fz ahead h in
    refused (in_range_of k z (ap (fits k) (sym f.0) ∙ fx)) (ap (is_above_last vs) (sym f.0) ∙ above))
    all d (sym whole ∙ e)

-- ---- all bytes at once

pub numbers_end : (k : FieldKind) (count : ℕ) (bytes : List ℕ) (vs : List Value) → k ≢ kind.Text → count ≤ most_values → length bytes ≡ 8 * count → AreNumbersOf k bytes vs → IsBody k count bytes vs
numbers_end k count bytes vs other at_most size r =
    let many : length vs ≡ count = omega (arith, size, ap length r.spelled, length-numbers k vs other r.fit) in
    record {
      stands = record { at_most = omega (arith, many); fit = r.fit; unicode = r.unicode; ascends = r.ascends };
      counted = many;
      spelled = r.spelled ∙ sym (body_is_numbers k vs other);
    }

pub numbers_none : (k : FieldKind) (count : ℕ) (bytes : List ℕ) → k ≢ kind.Text → NoNumbers k ([] ++ (bytes ++ [])) → NoBody k count bytes
numbers_none k count bytes other none all d n e = none all d (append-nil bytes ∙ e ∙ body_is_numbers k all other)

pub numbers_long : (k : FieldKind) (count : ℕ) (bytes : List ℕ) → k ≢ kind.Text → length bytes ≢ 8 * count → NoBody k count bytes
numbers_long k count bytes other lengths all d n e =
    lengths (ap length (e ∙ body_is_numbers k all other) ∙ length-numbers k all other d.fit ∙ ap (λ m. 8 * m) n)
