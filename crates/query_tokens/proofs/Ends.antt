-- A text may be cut after its blanks, and what stands in quotes is a text.
use Rattle.std.proofs.Common.{◌≡◌, ℕ, zero, suc, ◌+◌, ◌-◌, ◌<◌, ◌≤◌, Bool, true, false, not, ◌||◌, ◌==◌, cond, [], ◌∷◌, ◌++◌, length, take, drop, get_or, Option, Some, None, refl, sym, ap, ◌∙◌, subst, append_assoc, append-nil, eqb-true, arith}
use Rattle.std.specs.Str.{IsUtf8, IsAscii, IsCharBoundary}
use Rattle.std.specs.List.{prefix_len}
use Rattle.std.proofs.lemmas.Bool.{false≢true}
use Rattle.std.proofs.lemmas.Bool.Decides.{nat_tests}
use Rattle.std.proofs.lemmas.List.{length-append, drop_at}
use Rattle.std.proofs.Math.Seq.{take-append_seam, get_or-append_seam}
use Rattle.std.proofs.lemmas.Str.{IsUtf8-nil, IsUtf8-append, IsUtf8-take, IsUtf8-drop, IsUtf8-from_ascii, IsCharBoundary-before_ascii, IsCharBoundary-after_ascii}
use Rattle.query_tokens.specs.declared.lex.Class.{Class}
use Rattle.query_tokens.specs.declared.lex.Class.TheVariants as class
use Rattle.query_tokens.specs.Lex.{Bytes, is_in, blanks, longer, quoted, value_of, value}

-- ---- blanks, digits and the bytes of names are ASCII

pub ascii_in : (c : Class) (b : ℕ) → is_in c b ≡ true → b < 128
ascii_in class.Blank b e = grind (arith, nat_tests)
ascii_in class.Digit b e = grind (arith, nat_tests)
ascii_in class.Word b e = grind (arith, nat_tests)

following_first : (b : ℕ) (z : Bytes) → b < 128 → IsUtf8 (b ∷ z) → IsUtf8 z
following_first b z low u = IsUtf8-drop (b ∷ z) 1 u (IsCharBoundary-after_ascii (b ∷ z) 0 u (omega arith) low)

past_step : (b : ℕ) (z : Bytes) (q : Bool) → is_in class.Blank b ≡ q → (IsUtf8 z → IsUtf8 (drop (blanks z) z)) → IsUtf8 (b ∷ z) → IsUtf8 (drop (blanks (b ∷ z)) (b ∷ z))
past_step b z true e more u =
    let one : 1 + blanks z ≡ suc (blanks z) = omega arith in
    let count : blanks (b ∷ z) ≡ suc (blanks z) = ap (λ q. cond q (1 + blanks z) 0) e ∙ one in
    subst (λ n. IsUtf8 (drop n (b ∷ z))) (sym count) (more (following_first b z (ascii_in class.Blank b e) u))
past_step b z false e more u =
    let count : blanks (b ∷ z) ≡ 0 = ap (λ q. cond q (1 + blanks z) 0) e in
    subst (λ n. IsUtf8 (drop n (b ∷ z))) (sym count) u

pub utf8_past_blanks : (z : Bytes) → IsUtf8 z → IsUtf8 (drop (blanks z) z)
utf8_past_blanks [] u = u
utf8_past_blanks (b ∷ z) u = past_step b z (is_in class.Blank b) refl (utf8_past_blanks z) u

-- ---- values

one_more : (n : ℕ) → 1 + n ≡ suc n
one_more n = omega arith

ascii_step : (c : Class) (b : ℕ) (z : Bytes) (i : ℕ) (q : Bool) → is_in c b ≡ q → ((j : ℕ) → get_or (take (prefix_len (is_in c) z) z) j 0 < 128) → get_or (take (cond q (1 + prefix_len (is_in c) z) 0) (b ∷ z)) i 0 < 128
ascii_step c b z zero true e more = subst (λ n. get_or (take n (b ∷ z)) 0 0 < 128) (sym (one_more (prefix_len (is_in c) z))) (ascii_in c b e)
ascii_step c b z (suc i) true e more = subst (λ n. get_or (take n (b ∷ z)) (suc i) 0 < 128) (sym (one_more (prefix_len (is_in c) z))) (more i)
ascii_step c b z i false e more = omega arith

ascii_run : (c : Class) (z : Bytes) → IsAscii (take (prefix_len (is_in c) z) z)
ascii_run c [] i = omega arith
ascii_run c (b ∷ z) i = ascii_step c b z i (is_in c b) refl (ascii_run c z)

-- a text is cut at an ASCII byte
cut : (p z : Bytes) (q : ℕ) → q < 128 → IsUtf8 (p ++ q ∷ z) → IsUtf8 p × IsUtf8 (q ∷ z)
cut p z q low u =
    let more : length p < length (p ++ q ∷ z) = omega (arith, length-append p (q ∷ z)) in
    let here : get_or (p ++ q ∷ z) (length p) 0 ≡ q = get_or-append_seam p q z 0 in
    let below : get_or (p ++ q ∷ z) (length p) 0 < 128 = rw here low in
    let place = IsCharBoundary-before_ascii (p ++ q ∷ z) (length p) more below in (
      subst IsUtf8 (take-append_seam p (q ∷ z)) (IsUtf8-take (p ++ q ∷ z) (length p) u place),
      subst IsUtf8 (drop_at p (q ∷ z) (length p) refl) (IsUtf8-drop (p ++ q ∷ z) (length p) u place),
    )

-- the value is a text after what stands before it
abbrev IsTextBehind : Bytes → Option (Bytes × ℕ) → Type 0
IsTextBehind p None = Unit {0}
IsTextBehind p (Some r) = IsUtf8 (p ++ r.0)

longer_text : (p : Bytes) (b n : ℕ) (o : Option (Bytes × ℕ)) → IsTextBehind (p ++ b ∷ []) o → IsTextBehind p (longer b n o)
longer_text p b n None h = tt
longer_text p b n (Some r) h = subst IsUtf8 (append_assoc p (b ∷ []) r.0) h

closes : (p z : Bytes) (q : ℕ) → q < 128 → IsUtf8 (p ++ q ∷ z) → IsUtf8 (p ++ [])
closes p z q low u = subst IsUtf8 (sym (append-nil p)) (cut p z q low u).0

doubled : (p z : Bytes) (q : ℕ) → q < 128 → IsUtf8 (p ++ q ∷ q ∷ z) → IsUtf8 ((p ++ q ∷ []) ++ z)
doubled p z q low u =
    let parts = cut (p ++ q ∷ []) z q low (subst IsUtf8 (sym (append_assoc p (q ∷ []) (q ∷ z))) u) in
    IsUtf8-append (p ++ q ∷ []) z parts.0 (following_first q z low parts.1)

last_step : (q b : ℕ) (p : Bytes) (s : Bool) → (b == q) ≡ s → q < 128 → IsUtf8 (p ++ b ∷ []) → IsTextBehind p (cond s (Some ([], 1)) None)
last_step q b p true e low u = closes p [] q low (subst (λ x. IsUtf8 (p ++ x ∷ [])) (eqb-true b q e) u)
last_step q b p false e low u = tt

text_step : (q b c : ℕ) (p z : Bytes) (s t : Bool) → (b == q) ≡ s → (c == q) ≡ t → q < 128 → IsUtf8 (p ++ b ∷ c ∷ z)
    → IsTextBehind (p ++ b ∷ []) (quoted q (c ∷ z)) → (IsUtf8 ((p ++ q ∷ []) ++ z) → IsTextBehind (p ++ q ∷ []) (quoted q z))
    → IsTextBehind p (cond (not s) (longer b 1 (quoted q (c ∷ z))) (cond t (longer q 2 (quoted q z)) (Some ([], 1))))
text_step q b c p z false t d e low u one two = longer_text p b 1 (quoted q (c ∷ z)) one
text_step q b c p z true true d e low u one two =
    let first : b ≡ q = eqb-true b q d in
    let second : c ≡ q = eqb-true c q e in
    longer_text p q 2 (quoted q z) (two (doubled p z q low (subst (λ x. IsUtf8 (p ++ q ∷ x ∷ z)) second (subst (λ x. IsUtf8 (p ++ x ∷ c ∷ z)) first u))))
text_step q b c p z true false d e low u one two = closes p (c ∷ z) q low (subst (λ x. IsUtf8 (p ++ x ∷ c ∷ z)) (eqb-true b q d) u)

quoted_text : (q : ℕ) (z p : Bytes) → q < 128 → IsUtf8 (p ++ z) → IsTextBehind p (quoted q z)
unfolding quoted
quoted_text q [] p low u = tt
quoted_text q (b ∷ []) p low u = last_step q b p (b == q) refl low u
quoted_text q (b ∷ c ∷ z) p low u = text_step q b c p z (b == q) (c == q) refl refl low u
    (quoted_text q (c ∷ z) (p ++ b ∷ []) low (subst IsUtf8 (sym (append_assoc p (b ∷ []) (c ∷ z))) u))
    (λ v. quoted_text q z (p ++ q ∷ []) low v)

value_text : (o : Option (Bytes × ℕ)) → IsTextBehind [] o → IsUtf8 (value_of o)
value_text None h = IsUtf8-nil
value_text (Some r) h = h

value_step : (z : Bytes) (s : Bool) → (get_or z 0 0 == 34 || get_or z 0 0 == 39) ≡ s → IsUtf8 z → IsUtf8 (cond s (value_of (quoted (get_or z 0 0) (drop 1 z))) (take (prefix_len (is_in class.Word) z) z))
value_step z false e u = IsUtf8-from_ascii (take (prefix_len (is_in class.Word) z) z) (ascii_run class.Word z)
value_step [] true e u = absurd (false≢true e)
value_step (b ∷ z) true e u =
    let low : b < 128 = grind (arith, nat_tests) in
    value_text (quoted b z) (quoted_text b z [] low (following_first b z low u))

pub utf8_value : (z : Bytes) → IsUtf8 z → IsUtf8 (value z)
unfolding value
utf8_value z u = value_step z (get_or z 0 0 == 34 || get_or z 0 0 == 39) refl u

-- a text may be cut after an ASCII byte
pub utf8_following : (z : Bytes) (n : ℕ) → IsUtf8 z → 0 < n → n ≤ length z → get_or z (n - 1) 0 < 128 → IsUtf8 (drop n z)
utf8_following z n u some within low =
    let last : n - 1 + 1 ≡ n = omega arith in
    IsUtf8-drop z n u (subst (IsCharBoundary z) last (IsCharBoundary-after_ascii z (n - 1) u (omega arith) low))

pub has_bytes : (n : ℕ) (last : Bool) → false ≡ last → (n ≡ 0 → last ≡ true) → 0 < n
has_bytes zero last e h = absurd (false≢true (e ∙ h refl))
has_bytes (suc n) last e h = omega arith
