-- A table's file tells its texts.
use Rattle.std.proofs.Common.{◌≡◌, ◌≢◌, ◌≤◌, ◌<◌, ◌∙◌, ◌+◌, ◌++◌, ℕ, List, [], length, take, drop, get_or, Option, Some, None, true, false, eqb, ◌==◌, ◌∷◌, refl, sym, ap, arith, subst, append_assoc, append-nil, inl, inr}
use Rattle.std.proofs.Math.Seq.{take-append_seam, drop-append_seam}
use Rattle.std.proofs.lemmas.Bool.{cases_lt, eqb-true}
use Rattle.std.proofs.lemmas.List.{append_cancel_left, length-append, length-take, get_or-take, get_or_past, take-append-drop}
use Rattle.std.proofs.lemmas.Nat.{be_bytes_4, from_be_bytes-to_be_bytes_4}
use Rattle.std.specs.Cmp.Lexicographic.{pointwise, same_text}
use Rattle.std.specs.Int.{w32, from_be_bytes, to_be_bytes}
use Rattle.std.specs.List.{IsSplitAt}
use Rattle.std.specs.Prelude.{codes, MatchOption}
use Rattle.std.specs.Borrow.{Bor}
use Rattle.table_store.specs.State.{Texts}
use Rattle.table_store.specs.TableFile.{FitsTable, counted, table_file}

-- the length that a text stands after
length_first : (text rest : List ℕ) → length text ≤ 1048576 → from_be_bytes w32 (take 4 (counted text ++ rest)) ≡ length text
length_first text rest le = from_be_bytes-to_be_bytes_4 (length text) (omega arith)

pub text_following : (text rest : List ℕ) → drop 4 (counted text ++ rest) ≡ text ++ rest
text_following text rest = refl

-- two texts after their lengths, and what follows them
same_lengths : (a b x y : List ℕ) → length a ≤ 1048576 → length b ≤ 1048576 → counted a ++ x ≡ counted b ++ y → length a ≡ length b
same_lengths a b x y la lb e = sym (length_first a x la) ∙ ap (λ bytes. from_be_bytes w32 (take 4 bytes)) e ∙ length_first b y lb

same_tails : (a b x y : List ℕ) → counted a ++ x ≡ counted b ++ y → a ++ x ≡ b ++ y
same_tails a b x y e = ap (drop 4) e

same_fronts : (a b x y : List ℕ) → length a ≡ length b → a ++ x ≡ b ++ y → a ≡ b
same_fronts a b x y len e = sym (take-append_seam a x) ∙ ap (take (length a)) e ∙ ap (λ n. take n (b ++ y)) len ∙ take-append_seam b y

same_rests : (a b x y : List ℕ) → length a ≡ length b → a ++ x ≡ b ++ y → x ≡ y
same_rests a b x y len e = sym (drop-append_seam a x) ∙ ap (drop (length a)) e ∙ ap (λ n. drop n (b ++ y)) len ∙ drop-append_seam b y

pub texts_cancel : (a b x y : List ℕ) → length a ≤ 1048576 → length b ≤ 1048576 → counted a ++ x ≡ counted b ++ y → (a ≡ b) × (x ≡ y)
texts_cancel a b x y la lb e =
    let len : length a ≡ length b = same_lengths a b x y la lb e in
    let tails : a ++ x ≡ b ++ y = same_tails a b x y e in
    (same_fronts a b x y len tails, same_rests a b x y len tails)

counted_once : (a b : List ℕ) → length a ≤ 1048576 → length b ≤ 1048576 → counted a ≡ counted b → a ≡ b
counted_once a b la lb e = (texts_cancel a b [] [] la lb (append-nil (counted a) ∙ e ∙ sym (append-nil (counted b)))).0

-- files of tables within the limit are equal only of equal tables
pub same_table : (a b : Texts) → FitsTable a → FitsTable b → table_file a ≡ table_file b → a ≡ b
same_table a b fa fb e =
    let texts = append_cancel_left (codes "PINOTTB1") (counted a.schema ++ counted a.settings) (counted b.schema ++ counted b.settings) e in
    let both = texts_cancel a.schema b.schema (counted a.settings) (counted b.settings) fa.schema fb.schema texts in
    let settings = counted_once a.settings b.settings fa.settings fb.settings both.1 in
    (λ i. record { schema = both.0 i; settings = settings i })

-- ---- reading a text

abbrev pub IsBytes : List ℕ → Type 0
IsBytes bytes = (i : ℕ) → get_or bytes i 0 < 256

take_small : (n : ℕ) (bytes : List ℕ) → IsBytes bytes → IsBytes (take n bytes)
take_small n bytes small i =
    elim (cases_lt i n) [
      | inl lt ↦ rw (get_or-take n bytes i 0 lt) (small i)
      | inr le ↦ rw (get_or_past (take n bytes) i 0 (omega (arith, length-take n bytes))) (omega arith)
    ]

-- what was read after its length is spelled so
pub counted_parts : (bytes front rest : List ℕ) (n : ℕ) → IsBytes bytes → 4 ≤ length bytes → n ≡ from_be_bytes w32 (take 4 bytes) → length front ≡ n → drop 4 bytes ≡ front ++ rest → bytes ≡ counted front ++ rest
counted_parts bytes front rest n small lengths is len parts =
    let number : to_be_bytes w32 (length front) ≡ take 4 bytes = be_bytes_4 (take 4 bytes) (length front) (omega (arith, length-take 4 bytes)) (take_small 4 bytes small) (len ∙ is) in
    sym (take-append-drop 4 bytes) ∙ (λ i. sym number i ++ parts i) ∙ sym (append_assoc (to_be_bytes w32 (length front)) front rest)

-- bytes that end before the length, or before the text that it tells of, have no text at the front; nor have those with a length past the limit
pub no_length : (bytes text rest : List ℕ) → length bytes < 4 → bytes ≢ counted text ++ rest
no_length bytes text rest short e = absurd (omega (arith, ap length e))

pub past_limit : (bytes text rest : List ℕ) → 1048576 < from_be_bytes w32 (take 4 bytes) → length text ≤ 1048576 → bytes ≢ counted text ++ rest
past_limit bytes text rest past le e =
    let n : from_be_bytes w32 (take 4 bytes) ≡ length text = ap (λ b. from_be_bytes w32 (take 4 b)) e ∙ length_first text rest le in
    absurd (omega arith)

pub ends_early : (bytes text rest : List ℕ) → length (drop 4 bytes) < from_be_bytes w32 (take 4 bytes) → length text ≤ 1048576 → bytes ≢ counted text ++ rest
ends_early bytes text rest early le e =
    let n : from_be_bytes w32 (take 4 bytes) ≡ length text = ap (λ b. from_be_bytes w32 (take 4 b)) e ∙ length_first text rest le in
    let m : length (drop 4 bytes) ≡ length text + length rest = ap (λ b. length (drop 4 b)) e ∙ length-append text rest in
    absurd (omega arith)

-- what the test on the length and the cut after it say of the front of bytes
pub splits : {X : Type 0} (first second : X → List ℕ) (bytes : List ℕ) (n : ℕ) (r : Option X) → IsBytes bytes → 4 ≤ length bytes → n ≡ from_be_bytes w32 (take 4 bytes) → n ≤ 1048576
    → MatchOption r (length (drop 4 bytes) < n) (λ x. IsSplitAt (drop 4 bytes) n (first x) (second x))
    → MatchOption r ((text rest : List ℕ) → length text ≤ 1048576 → bytes ≢ counted text ++ rest) (λ x. (length (first x) ≤ 1048576) × (bytes ≡ counted (first x) ++ second x))
splits first second bytes n None small lengths is within early = λ text rest le. ends_early bytes text rest (subst (λ m. length (drop 4 bytes) < m) is early) le
splits first second bytes n (Some x) small lengths is within (mid, front, back, len, left) =
    let parts : drop 4 bytes ≡ first x ++ second x = sym (take-append-drop n (drop 4 bytes)) ∙ (λ i. sym front i ++ sym back i) in
    (omega arith, counted_parts bytes (first x) (second x) n small lengths is len parts)

-- ---- reading a file

-- the bytes of a file after its first eight
abbrev pub body : Texts → List ℕ
body t = counted t.schema ++ counted t.settings

pub no_settings : (file rest settings schema : List ℕ) (t : Texts) → FitsTable t → file ≡ codes "PINOTTB1" ++ rest → length schema ≤ 1048576 → rest ≡ counted schema ++ settings
    → ((text more : List ℕ) → length text ≤ 1048576 → settings ≢ counted text ++ more) → file ≢ table_file t
no_settings file rest settings schema t fits head short first none same =
    let bodies : rest ≡ body t = append_cancel_left (codes "PINOTTB1") rest (body t) (sym head ∙ same) in
    let both = texts_cancel schema t.schema settings (counted t.settings) short fits.schema (sym first ∙ bodies) in
    none t.settings [] fits.settings (both.1 ∙ sym (append-nil (counted t.settings)))

pub more_following : (file rest settings schema text more : List ℕ) (t : Texts) → FitsTable t → file ≡ codes "PINOTTB1" ++ rest → length schema ≤ 1048576 → rest ≡ counted schema ++ settings
    → length text ≤ 1048576 → settings ≡ counted text ++ more → more ≢ [] → file ≢ table_file t
more_following file rest settings schema text more t fits head short first short_text second some same =
    let bodies : rest ≡ body t = append_cancel_left (codes "PINOTTB1") rest (body t) (sym head ∙ same) in
    let both = texts_cancel schema t.schema settings (counted t.settings) short fits.schema (sym first ∙ bodies) in
    let last = texts_cancel text t.settings more [] short_text fits.settings (sym second ∙ both.1 ∙ sym (append-nil (counted t.settings))) in
    some last.1

pub spelled_so : (file rest settings schema text more : List ℕ) → file ≡ codes "PINOTTB1" ++ rest → rest ≡ counted schema ++ settings → settings ≡ counted text ++ more → more ≡ []
    → file ≡ table_file (record { schema = schema; settings = text })
spelled_so file rest settings schema text more head first second none =
    head ∙ ap (λ r. codes "PINOTTB1" ++ r) (first ∙ ap (λ s. counted schema ++ s) (second ∙ ap (λ m. counted text ++ m) none ∙ append-nil (counted text)))

-- what does not begin so is no such file
pub no_head : (file : List ℕ) (t : Texts) → take 8 file ≢ codes "PINOTTB1" → file ≢ table_file t
no_head file t other same = other (ap (take 8) same)

-- bytes that begin so
pub begins : (file rest : List ℕ) → pointwise eqb (take 8 file) (codes "PINOTTB1") ≡ true → rest ≡ drop 8 file → file ≡ codes "PINOTTB1" ++ rest
begins file rest same following = sym (take-append-drop 8 file) ∙ (λ i. same_text (take 8 file) (codes "PINOTTB1") (sym same) i ++ sym following i)

pub some_left : (rest : List ℕ) → false ≡ (length rest == 0) → rest ≢ []
some_left [] e same = cc
some_left (b ∷ bs) e same = absurd cc

pub none_left : (rest : List ℕ) → true ≡ (length rest == 0) → rest ≡ []
none_left [] e = refl
none_left (b ∷ bs) e = absurd (let le = eqb-true (length (b ∷ bs)) 0 (sym e) in omega arith)

-- what a file without such texts is told of
pub not_spelled : (file : List ℕ) (r : Option (Bor (List ℕ) × Bor (List ℕ))) → r ≡ None → ((t : Texts) → FitsTable t → file ≢ table_file t)
    → MatchOption r ((t : Texts) → FitsTable t → file ≢ table_file t) (λ t. let texts : Texts = record { schema = t.0.now; settings = t.1.now } in FitsTable texts × (file ≡ table_file texts))
not_spelled file None e none = none
not_spelled file (Some t) e none = absurd cc
