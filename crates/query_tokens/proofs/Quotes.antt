-- Steps of a text in quotes, at a place.
use Rattle.std.proofs.Common.{◌≡◌, ◌≢◌, ℕ, ◌+◌, ◌<◌, ◌≤◌, [], ◌∷◌, ◌++◌, length, drop, get_or, Option, Some, None, refl, ap, ap₂, sym, ◌∙◌, append_assoc, add-one, arith}
use Rattle.std.proofs.lemmas.List.{get_or-drop, drop_all}
use Rattle.std.proofs.Math.Seq.{drop-cons}
use Rattle.std.proofs.lemmas.Grind.{common_steps}
use Rattle.query_tokens.specs.Lex.{Bytes, quoted, longer, value_of, lengths}

quoted-other : (q b : ℕ) (z : Bytes) → b ≢ q → quoted q (b ∷ z) ≡ longer b 1 (quoted q z)
unfolding quoted
quoted-other q b [] ne = grind (arith, common_steps)
quoted-other q b (c ∷ z) ne = grind (arith, common_steps)

quoted-double : (q : ℕ) (z : Bytes) → quoted q (q ∷ q ∷ z) ≡ longer q 2 (quoted q z)
unfolding quoted
quoted-double q z = grind (arith, common_steps)

quoted-end : (q : ℕ) (z : Bytes) → get_or z 0 0 ≢ q → quoted q (q ∷ z) ≡ Some ([], 1)
unfolding quoted
quoted-end q [] ne = grind (arith, common_steps)
quoted-end q (c ∷ z) ne = grind (arith, common_steps)

-- ---- the same from a place of a text on

cons_at : (z : Bytes) (at b : ℕ) → at < length z → get_or z at 0 ≡ b → drop at z ≡ b ∷ drop (at + 1) z
cons_at z at b h e = rw (drop-cons z at 0, e, add-one)

pub other_at : (q : ℕ) (z : Bytes) (at : ℕ) → at < length z → get_or z at 0 ≢ q → quoted q (drop at z) ≡ longer (get_or z at 0) 1 (quoted q (drop (at + 1) z))
other_at q z at h ne = ap (quoted q) (cons_at z at (get_or z at 0) h refl) ∙ quoted-other q (get_or z at 0) (drop (at + 1) z) ne

pub double_at : (q : ℕ) (z : Bytes) (at : ℕ) → at + 1 < length z → get_or z at 0 ≡ q → get_or z (at + 1) 0 ≡ q → quoted q (drop at z) ≡ longer q 2 (quoted q (drop (at + 2) z))
double_at q z at h first second =
    let e : drop at z ≡ q ∷ drop (at + 1) z = cons_at z at q (omega arith) first in
    let two : at + 1 + 1 ≡ at + 2 = omega arith in
    let f : drop (at + 1) z ≡ q ∷ drop (at + 2) z = cons_at z (at + 1) q (omega arith) second ∙ ap (λ n. q ∷ drop n z) two in
    ap (quoted q) (e ∙ ap (λ t. q ∷ t) f) ∙ quoted-double q (drop (at + 2) z)

pub end_at : (q : ℕ) (z : Bytes) (at : ℕ) → at < length z → get_or z at 0 ≡ q → get_or z (at + 1) 0 ≢ q → quoted q (drop at z) ≡ Some ([], 1)
end_at q z at h first second =
    let none : at + 1 + 0 ≡ at + 1 = omega arith in
    let next : get_or (drop (at + 1) z) 0 0 ≡ get_or z (at + 1) 0 = get_or-drop (at + 1) z 0 0 ∙ ap (λ n. get_or z n 0) none in
    ap (quoted q) (cons_at z at q h first) ∙ quoted-end q (drop (at + 1) z) (λ e. second (sym next ∙ e))

pub over_at : (q : ℕ) (z : Bytes) (at : ℕ) → length z ≤ at → quoted q (drop at z) ≡ None
unfolding quoted
over_at q z at h = ap (quoted q) (drop_all at z h)

-- ---- what the loops keep

abbrev pub value_after : Bytes → Option (Bytes × ℕ) → Bytes
value_after v None = []
value_after v (Some p) = v ++ p.0

abbrev pub lengths_after : ℕ → ℕ → Option (Bytes × ℕ) → Option (ℕ × ℕ)
lengths_after v n None = None
lengths_after v n (Some p) = Some (v + length p.0, n + p.1)

pub value_after-longer : (v : Bytes) (b n : ℕ) (o : Option (Bytes × ℕ)) → value_after v (longer b n o) ≡ value_after (v ++ b ∷ []) o
value_after-longer v b n None = refl
value_after-longer v b n (Some p) = sym (append_assoc v (b ∷ []) p.0)

pub value_after-end : (v : Bytes) (n : ℕ) → value_after v (Some ([], n)) ≡ v
value_after-end [] n = refl
value_after-end (b ∷ v) n = ap (λ t. b ∷ t) (value_after-end v n)

pub value_after-nil : (o : Option (Bytes × ℕ)) → value_after [] o ≡ value_of o
value_after-nil None = refl
value_after-nil (Some p) = refl

pub lengths_after-longer : (v n b k : ℕ) (o : Option (Bytes × ℕ)) → lengths_after v n (longer b k o) ≡ lengths_after (v + 1) (n + k) o
lengths_after-longer v n b k None = refl
lengths_after-longer v n b k (Some p) =
    let e : v + length (b ∷ p.0) ≡ v + 1 + length p.0 = omega arith in
    let f : n + (k + p.1) ≡ n + k + p.1 = omega arith in
    ap₂ (λ x y. Some (x, y)) e f

pub lengths_after-zero : (o : Option (Bytes × ℕ)) → lengths_after 0 0 o ≡ lengths o
lengths_after-zero None = refl
lengths_after-zero (Some p) = ap₂ (λ x y. Some (x, y)) (omega arith) (omega arith)

pub ruleset values = (other_at, double_at, end_at, over_at, value_after-longer, value_after-end, value_after-nil)

pub ruleset lengths_steps = (other_at, double_at, end_at, over_at, lengths_after-longer, lengths_after-zero)
