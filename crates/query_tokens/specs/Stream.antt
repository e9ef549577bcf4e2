-- The tokens of a text. The last is the end of the text, or the first place where no token stands.
use Rattle.std.specs.Prelude.{ℕ, ℤ, pos, zero, suc, ◌+◌, ◌-◌, if◌then◌else◌, List, [], ◌∷◌, refl}
use Rattle.std.specs.Coded.{Coded, code_by, coded×, coded_ℕ, coded_ℤ, coded_list}
use Rattle.query_tokens.specs.contracts.token.Kind.{the_row}
use Rattle.query_tokens.specs.declared.token.Kind.{Kind}
use Rattle.query_tokens.specs.declared.token.Kind.TheVariants.{End}
use Rattle.query_tokens.specs.declared.token.Token.{Token}
use Rattle.query_tokens.specs.declared.lex.Class.TheVariants.{Blank}
use Rattle.query_tokens.specs.Lex.{Bytes, is_in, is_last, token, value}

-- a token, with its value where it is a name, a text or a number, and the place of its first byte
pub record Lexeme : Type 0 where
  pub kind : Kind
  pub number : ℤ
  pub value : Bytes
  pub at : ℕ

-- the tokens from a place on
abbrev pub Stream : Type 0
Stream = List Lexeme

-- a token of a text, at its place
abbrev pub lexeme : Token → Bytes → ℕ → Lexeme
lexeme t z at = record { kind = t.kind; number = t.number; value = value z; at = at }

-- The tokens of a text whose first byte is at a place. The first number counts the bytes that are
-- left of a token.
unfoldable pub lexemes : ℕ → Bytes → ℕ → Stream
lexemes left [] at = lexeme (token []) [] at ∷ []
lexemes (suc left) (b ∷ z) at = lexemes left z (at + 1)
lexemes zero (b ∷ z) at =
    if is_in Blank b then lexemes 0 z (at + 1)
    else (let t = token (b ∷ z) in lexeme t (b ∷ z) at ∷ (if is_last t.kind then [] else lexemes
    (t.len - 1) z (at + 1)))

-- the tokens of a whole text
abbrev pub tokens : Bytes → Stream
tokens text = lexemes 0 text 0

-- ---- what a parser sees of the tokens that are left

-- the next token
abbrev pub first : Stream → Lexeme
first [] = record { kind = End; number = pos 0; value = []; at = 0 }
first (t ∷ ts) = t

unfoldable pub kind : Stream → Kind
kind ts = (first ts).kind

unfoldable pub place : Stream → ℕ
place ts = (first ts).at

unfoldable pub number : Stream → ℤ
number ts = (first ts).number

unfoldable pub word : Stream → Bytes
word ts = (first ts).value

-- the tokens after the first; the last one stays
unfoldable pub next : Stream → Stream
next [] = []
next (t ∷ ts) = if is_last t.kind then t ∷ ts else ts

-- ---- how the logic stores them

-- tokens as lists of their parts
abbrev pub stream_code : Coded Stream
stream_code = coded_list (code_by (Kind × (ℤ × (Bytes × ℕ)))
    (coded× (the_row).coded (coded× coded_ℤ (coded× (coded_list coded_ℕ) coded_ℕ)))
    (λ t. (t.kind, (t.number, (t.value, t.at)))) (λ p. record {
      kind = p.0;
      number = p.1.0;
      value = p.1.1.0;
      at = p.1.1.1;
    }) (λ _. refl))
