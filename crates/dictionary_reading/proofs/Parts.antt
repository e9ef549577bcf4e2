-- Where the bytes of a value are in the spelling of a dictionary.
use Rattle.std.proofs.Common.{◌≡◌, ◌≢◌, ◌∙◌, ◌<◌, ◌≤◌, ◌+◌, ◌-◌, ◌*◌, ℕ, zero, suc, List, [], ◌∷◌, ◌++◌, length, take, drop, get_or, refl, sym, ap, subst, arith}
use Rattle.std.proofs.Math.Seq.{drop-append-add, take-append_seam, take-length}
use Rattle.std.proofs.lemmas.Bool.{false≢true}
use Rattle.std.proofs.lemmas.List.{drop-append-le, drop-drop, drop-take, length-append, length-drop, length-take, take-append-le, take-take}
use Rattle.std.specs.List.{All}
use Rattle.std.proofs.lemmas.List.Elements.{All-head, All-tail}
use Rattle.data_types.specs.declared.kind.FieldKind.{FieldKind}
use Rattle.data_types.specs.declared.kind.FieldKind.TheVariants as kind
use Rattle.values.specs.declared.value.Value.{Value}
use Rattle.values.specs.declared.value.Value.TheVariants as value
use Rattle.value_ids.specs.Dictionary.{Fits}
use Rattle.dictionary.specs.Spelling.{counted, number_bytes, numbers, offsets, text_bytes, texts}
use Rattle.dictionary.proofs.Bytes.{length-counted}
use Rattle.dictionary.proofs.Numbers.{length-number, no_text}
use Rattle.dictionary_reading.specs.InFile.{part, start_of}
use borrow.Author.Tests.{leb-true}

-- ---- parts of lists

-- a part of a part
pub part-part : (a n b m : ℕ) (xs : List ℕ) → a + n ≤ m → part a n (part b m xs) ≡ part (b + a) n xs
part-part a n b m xs within =
    let e : m ≡ a + (m - a) = omega arith in
    ap (λ k. take n (drop a (take k (drop b xs)))) e ∙ ap (take n) (drop-take a (m - a) (drop b xs)) ∙ take-take n (m - a) (drop a (drop b xs)) (omega arith) ∙ ap (take n) (drop-drop a b xs)

-- a part of the first of two lists
pub part-left : (a n : ℕ) (xs ys : List ℕ) → a + n ≤ length xs → part a n (xs ++ ys) ≡ part a n xs
part-left a n xs ys within = ap (take n) (drop-append-le a xs ys (omega arith)) ∙ take-append-le n (drop a xs) ys (omega (arith, length-drop a xs))

-- a part of the second
pub part-right : (k a n : ℕ) (xs ys : List ℕ) → length xs ≡ k → part (k + a) n (xs ++ ys) ≡ part a n ys
part-right k a n xs ys e = ap (λ l. take n (drop (l + a) (xs ++ ys))) (sym e) ∙ ap (take n) (drop-append-add xs ys a)

-- all of the first
pub part-first : (n : ℕ) (xs ys : List ℕ) → length xs ≡ n → part 0 n (xs ++ ys) ≡ xs
part-first n xs ys e = ap (λ l. take l (xs ++ ys)) (sym e) ∙ take-append_seam xs ys

pub length-part : (a n : ℕ) (xs : List ℕ) → a + n ≤ length xs → length (part a n xs) ≡ n
length-part a n xs within = omega (arith, length-take n (drop a xs), length-drop a xs)

-- ---- numbers

number_width : (k : FieldKind) (v : Value) → k ≢ kind.Text → Fits k v → length (number_bytes v) ≡ 8
number_width k (value.Whole z) some fit = length-number z
number_width k (value.Text t) some fit = absurd (no_text k t some fit)

pub number_part : (k : FieldKind) (vs : List Value) (i : ℕ) (d : Value) → k ≢ kind.Text → All (Fits k) vs → i < length vs → part (8 * i) 8 (numbers vs) ≡ number_bytes (get_or vs i d)
number_part k [] i d some all lt = absurd (omega (arith, lt))
number_part k (v ∷ vs) zero d some all lt = part-first 8 (number_bytes v) (numbers vs) (number_width k v some (All-head (Fits k) v vs all))
number_part k (v ∷ vs) (suc i) d some all lt =
    let e : 8 * suc i ≡ 8 + 8 * i = omega arith in
    ap (λ k. part k 8 (number_bytes v ++ numbers vs)) e
    ∙ part-right 8 (8 * i) 8 (number_bytes v) (numbers vs) (number_width k v some (All-head (Fits k) v vs all))
    ∙ number_part k vs i d some (All-tail (Fits k) v vs all) (omega (arith, lt))

-- ---- texts

pub start_next : (v : Value) (vs : List Value) (i : ℕ) → start_of (v ∷ vs) (suc i) ≡ length (text_bytes v) + start_of vs i
start_next v vs i = length-append (text_bytes v) (texts (take i vs))

pub take_counted : (n : ℕ) → take 4 (counted n) ≡ counted n
take_counted n = ap (λ k. take k (counted n)) (sym (length-counted n)) ∙ take-length (counted n)

pub offset_part : (s : ℕ) (vs : List Value) (i : ℕ) → i ≤ length vs → part (4 * i) 4 (offsets s vs) ≡ counted (s + start_of vs i)
offset_part s [] zero le =
    let e : s ≡ s + 0 = omega arith in
    take_counted s ∙ ap counted e
offset_part s [] (suc i) le = absurd (omega (arith, le))
offset_part s (v ∷ vs) zero le =
    let e : s ≡ s + 0 = omega arith in
    part-first 4 (counted s) (offsets (s + length (text_bytes v)) vs) (length-counted s) ∙ ap counted e
offset_part s (v ∷ vs) (suc i) le =
    let n : ℕ = s + length (text_bytes v) in
    let e : 4 * suc i ≡ 4 + 4 * i = omega arith in
    let same : n + start_of vs i ≡ s + start_of (v ∷ vs) (suc i) = omega (arith, start_next v vs i) in
    ap (λ k. part k 4 (counted s ++ offsets n vs)) e
    ∙ part-right 4 (4 * i) 4 (counted s) (offsets n vs) (length-counted s)
    ∙ offset_part n vs i (omega (arith, le))
    ∙ ap counted same

pub text_part : (vs : List Value) (i : ℕ) (d : Value) → i < length vs → part (start_of vs i) (start_of vs (i + 1) - start_of vs i) (texts vs) ≡ text_bytes (get_or vs i d)
text_part [] i d lt = absurd (omega (arith, lt))
text_part (v ∷ vs) zero d lt =
    let size : start_of (v ∷ vs) (0 + 1) - start_of (v ∷ vs) 0 ≡ start_of (v ∷ vs) 1 = omega arith in
    ap (λ k. part 0 k (text_bytes v ++ texts vs)) size ∙ part-first (start_of (v ∷ vs) 1) (text_bytes v) (texts vs) (sym (start_next v vs 0 ∙ (omega arith)))
text_part (v ∷ vs) (suc i) d lt =
    let long : ℕ = length (text_bytes v) in
    let here = start_next v vs i in
    let there = start_next v vs (i + 1) in
    let k : suc (i + 1) ≡ suc i + 1 = omega arith in
    let size : start_of (v ∷ vs) (suc i + 1) - start_of (v ∷ vs) (suc i) ≡ start_of vs (i + 1) - start_of vs i = omega (arith, here, subst (λ m. start_of (v ∷ vs) m ≡ long + start_of vs (i + 1)) k there) in
    (λ j. part (here j) (size j) (text_bytes v ++ texts vs))
    ∙ part-right long (start_of vs i) (start_of vs (i + 1) - start_of vs i) (text_bytes v) (texts vs) refl
    ∙ text_part vs i d (omega (arith, lt))

none_at : (i : ℕ) → start_of [] i ≡ 0
none_at zero = refl
none_at (suc i) = refl

-- texts begin where those before them end
pub start_up : (vs : List Value) (i n : ℕ) → start_of vs i ≤ start_of vs (i + n)
start_up [] i n = omega (arith, none_at i, none_at (i + n))
start_up (v ∷ vs) zero n = omega arith
start_up (v ∷ vs) (suc i) n =
    let k : suc i + n ≡ suc (i + n) = omega arith in
    omega (arith, ap (start_of (v ∷ vs)) k, start_next v vs i, start_next v vs (i + n), start_up vs i n)

pub text_short : (v : Value) → Fits kind.Text v → length (text_bytes v) ≤ 512
text_short (value.Whole z) fit = absurd (false≢true fit)
text_short (value.Text t) fit = leb-true (length t) 512 fit

-- and have at most 512 bytes each
pub start_near : (vs : List Value) (i n : ℕ) → All (Fits kind.Text) vs → start_of vs (i + n) ≤ start_of vs i + 512 * n
start_near [] i n fit = omega (arith, none_at (i + n))
start_near (v ∷ vs) zero zero fit = omega arith
start_near (v ∷ vs) zero (suc n) fit =
    let k : 0 + suc n ≡ suc n = omega arith in
    let m : 0 + n ≡ n = omega arith in
    omega (arith, ap (start_of (v ∷ vs)) k, ap (start_of vs) m, start_next v vs n, text_short v (All-head (Fits kind.Text) v vs fit), start_near vs 0 n (All-tail (Fits kind.Text) v vs fit))
start_near (v ∷ vs) (suc i) n fit =
    let k : suc i + n ≡ suc (i + n) = omega arith in
    omega (arith, ap (start_of (v ∷ vs)) k, start_next v vs i, start_next v vs (i + n), start_near vs i n (All-tail (Fits kind.Text) v vs fit))

pub start_last : (vs : List Value) → start_of vs (length vs) ≡ length (texts vs)
start_last vs = ap (λ xs. length (texts xs)) (take-length vs)
