-- Steps of the tokens of a text.
use Rattle.std.proofs.Common.{◌≡◌, ℕ, zero, suc, ◌+◌, ◌-◌, ◌≤◌, Bool, true, false, cond, [], ◌∷◌, length, drop, refl, ap, sym, ◌∙◌, arith}
use Rattle.query_tokens.specs.declared.lex.Class.TheVariants.{Blank}
use Rattle.query_tokens.specs.declared.token.Token.{Token}
use Rattle.query_tokens.specs.Lex.{Bytes, is_in, is_last, blanks, token, value}
use Rattle.query_tokens.specs.Stream.{Lexeme, Stream, lexeme, lexemes, first, kind, place, number, word, next}

abbrev following : Token → Bytes → ℕ → Stream
following t z at = cond (is_last t.kind) [] (lexemes (t.len - 1) z (at + 1))

lexemes-yes : (b : ℕ) (z : Bytes) (at : ℕ) → is_in Blank b ≡ true → lexemes 0 (b ∷ z) at ≡ lexemes 0 z (at + 1)
unfolding lexemes
lexemes-yes b z at e = ap (λ q. cond q (lexemes 0 z (at + 1)) (lexeme (token (b ∷ z)) (b ∷ z) at ∷ following (token (b ∷ z)) z at)) e

lexemes-no : (b : ℕ) (z : Bytes) (at : ℕ) → is_in Blank b ≡ false → lexemes 0 (b ∷ z) at ≡ lexeme (token (b ∷ z)) (b ∷ z) at ∷ following (token (b ∷ z)) z at
unfolding lexemes
lexemes-no b z at e = ap (λ q. cond q (lexemes 0 z (at + 1)) (lexeme (token (b ∷ z)) (b ∷ z) at ∷ following (token (b ∷ z)) z at)) e

blanks-yes : (b : ℕ) (z : Bytes) → is_in Blank b ≡ true → blanks (b ∷ z) ≡ suc (blanks z)
blanks-yes b z e = let one : 1 + blanks z ≡ suc (blanks z) = omega arith in ap (λ q. cond q (1 + blanks z) 0) e ∙ one

blanks-no : (b : ℕ) (z : Bytes) → is_in Blank b ≡ false → blanks (b ∷ z) ≡ 0
blanks-no b z e = ap (λ q. cond q (1 + blanks z) 0) e

no_blank : (b : ℕ) (z : Bytes) (q : Bool) → is_in Blank b ≡ q → blanks (b ∷ z) ≡ 0 → is_in Blank b ≡ false
no_blank b z true e h = let f = blanks-yes b z e in absurd (omega arith)
no_blank b z false e h = e

-- no token stands before the first n bytes are over
pub lexemes-drop : (n : ℕ) (z : Bytes) (at : ℕ) → n ≤ length z → lexemes n z at ≡ lexemes 0 (drop n z) (at + n)
unfolding lexemes
lexemes-drop zero z at h = let e : at ≡ at + 0 = omega arith in ap (lexemes 0 z) e
lexemes-drop (suc n) [] at h = absurd (omega arith)
lexemes-drop (suc n) (b ∷ z) at h =
    let e : at + 1 + n ≡ at + suc n = omega arith in
    lexemes-drop n z (at + 1) (omega arith) ∙ ap (lexemes 0 (drop n z)) e

blanks_step : (b : ℕ) (z : Bytes) (at : ℕ) (q : Bool) → is_in Blank b ≡ q → lexemes 0 z (at + 1) ≡ lexemes 0 (drop (blanks z) z) (at + 1 + blanks z)
    → lexemes 0 (b ∷ z) at ≡ lexemes 0 (drop (blanks (b ∷ z)) (b ∷ z)) (at + blanks (b ∷ z))
blanks_step b z at true e h =
    let k : at + 1 + blanks z ≡ at + suc (blanks z) = omega arith in
    lexemes-yes b z at e ∙ h ∙ ap (lexemes 0 (drop (blanks z) z)) k ∙ ap (λ n. lexemes 0 (drop n (b ∷ z)) (at + n)) (sym (blanks-yes b z e))
blanks_step b z at false e h =
    let k : at ≡ at + 0 = omega arith in
    ap (lexemes 0 (b ∷ z)) k ∙ ap (λ n. lexemes 0 (drop n (b ∷ z)) (at + n)) (sym (blanks-no b z e))

pub lexemes_blanks : (z : Bytes) (at : ℕ) → lexemes 0 z at ≡ lexemes 0 (drop (blanks z) z) (at + blanks z)
lexemes_blanks [] at = let k : at ≡ at + 0 = omega arith in ap (lexemes 0 []) k
lexemes_blanks (b ∷ z) at = blanks_step b z at (is_in Blank b) refl (lexemes_blanks z (at + 1))

over_step : (b : ℕ) (z : Bytes) (q : Bool) → is_in Blank b ≡ q → blanks (drop (blanks z) z) ≡ 0 → blanks (drop (blanks (b ∷ z)) (b ∷ z)) ≡ 0
over_step b z true e h = ap (λ n. blanks (drop n (b ∷ z))) (blanks-yes b z e) ∙ h
over_step b z false e h = ap (λ n. blanks (drop n (b ∷ z))) (blanks-no b z e) ∙ blanks-no b z e

-- at a token
pub lexemes-first : (z : Bytes) (at : ℕ) → blanks z ≡ 0 → first (lexemes 0 z at) ≡ lexeme (token z) z at
unfolding lexemes
lexemes-first [] at h = refl
lexemes-first (b ∷ z) at h = ap first (lexemes-no b z at (no_blank b z (is_in Blank b) refl h))

pub kind_of : (z : Bytes) (at : ℕ) → blanks z ≡ 0 → kind (lexemes 0 z at) ≡ (token z).kind
unfolding kind
kind_of z at h = ap (λ t. t.kind) (lexemes-first z at h)

pub place_of : (z : Bytes) (at : ℕ) → blanks z ≡ 0 → place (lexemes 0 z at) ≡ at
unfolding place
place_of z at h = ap (λ t. t.at) (lexemes-first z at h)

pub number_of : (z : Bytes) (at : ℕ) → blanks z ≡ 0 → number (lexemes 0 z at) ≡ (token z).number
unfolding number
number_of z at h = ap (λ t. t.number) (lexemes-first z at h)

pub word_of : (z : Bytes) (at : ℕ) → blanks z ≡ 0 → word (lexemes 0 z at) ≡ value z
unfolding word
word_of z at h = ap (λ t. t.value) (lexemes-first z at h)

next-last : (t : Lexeme) (ts : Stream) → is_last t.kind ≡ true → next (t ∷ ts) ≡ t ∷ ts
unfolding next
next-last t ts e = ap (λ q. cond q (t ∷ ts) ts) e

next-more : (t : Lexeme) (ts : Stream) → is_last t.kind ≡ false → next (t ∷ ts) ≡ ts
unfolding next
next-more t ts e = ap (λ q. cond q (t ∷ ts) ts) e

pub lexemes-last : (z : Bytes) (at : ℕ) → blanks z ≡ 0 → is_last (token z).kind ≡ true → next (lexemes 0 z at) ≡ lexemes 0 z at
unfolding lexemes
lexemes-last [] at h e = next-last (lexeme (token []) [] at) [] e
lexemes-last (b ∷ z) at h e =
    let cons = lexemes-no b z at (no_blank b z (is_in Blank b) refl h) in
    ap next cons ∙ next-last (lexeme (token (b ∷ z)) (b ∷ z) at) (following (token (b ∷ z)) z at) e ∙ sym cons

end_last : is_last (token []).kind ≡ true
unfolding token is_last
end_last = refl

more_step : (t : Token) (b : ℕ) (z : Bytes) (at len : ℕ) → t.len ≡ len → is_last t.kind ≡ false → 1 ≤ len → len ≤ suc (length z)
    → following t z at ≡ lexemes 0 (drop len (b ∷ z)) (at + len)
more_step t b z at zero l e some fits = absurd (omega arith)
more_step t b z at (suc n) l e some fits =
    let one : t.len - 1 ≡ n = omega arith in
    let k : at + 1 + n ≡ at + suc n = omega arith in
    ap (λ q. cond q [] (lexemes (t.len - 1) z (at + 1))) e ∙ ap (λ m. lexemes m z (at + 1)) one ∙ lexemes-drop n z (at + 1) (omega arith) ∙ ap (lexemes 0 (drop n z)) k

pub lexemes-next : (z : Bytes) (at : ℕ) → blanks z ≡ 0 → is_last (token z).kind ≡ false → 1 ≤ (token z).len → (token z).len ≤ length z
    → next (lexemes 0 z at) ≡ lexemes 0 (drop (token z).len z) (at + (token z).len)
lexemes-next [] at h e some fits = let conjunction : true ≡ false = sym end_last ∙ e in absurd (cc)
lexemes-next (b ∷ z) at h e some fits =
    let cons = lexemes-no b z at (no_blank b z (is_in Blank b) refl h) in
    ap next cons ∙ next-more (lexeme (token (b ∷ z)) (b ∷ z) at) (following (token (b ∷ z)) z at) e ∙ more_step (token (b ∷ z)) b z at (token (b ∷ z)).len refl e some (omega arith)

pub blanks_over : (z : Bytes) → blanks (drop (blanks z) z) ≡ 0
blanks_over [] = refl
blanks_over (b ∷ z) = over_step b z (is_in Blank b) refl (blanks_over z)

pub ruleset steps = (kind_of, place_of, number_of, word_of)

pub ruleset moves = (lexemes-next, lexemes-last, lexemes_blanks)
