-- What a `Tokens` shows, and what it keeps ready.
use Rattle.std.specs.Prelude.{◌≡◌, ◌<◌, ◌≤◌, ◌+◌, ◌-◌, true, length, slice_index}
use Rattle.std.specs.Str.{IsUtf8}
use Rattle.query_parser.specs.declared.cursor.Tokens.TheInside.{Inside}
use Rattle.query_tokens.specs.Lex.{token, blanks, is_last}
use Rattle.query_tokens.specs.Stream.{Stream, lexemes}

-- the tokens that are left of a text
abbrev pub stream_of : Inside → Stream
stream_of t = lexemes 0 t.ahead.now t.at

-- The token at the front is cut already; after it the text may be cut again.
pub record IsReady (t : Inside) : Type 0 where
  pub token_is : t.token ≡ token t.ahead.now
  pub within : t.token.len ≤ length t.ahead.now
  pub moves : t.token.len ≡ 0 → is_last t.token.kind ≡ true
  pub ends : 0 < t.token.len → slice_index t.ahead.now (t.token.len - 1) < 128
  pub no_blank : blanks t.ahead.now ≡ 0
  pub small : t.at + length t.ahead.now ≤ 65536
  pub text : ∥ IsUtf8 t.ahead.now ∥₁
