-- Texts that are parts of one block of bytes.
use Rattle.std.specs.Prelude.{◌≡◌, ◌+◌, ◌≤◌, ℕ, List, true, drop, length, map, take}
use Rattle.std.specs.List.{All}
use Rattle.std.specs.Str.{is_utf8}
use Rattle.data_types.specs.declared.text_pool.Span.{Span}

-- the part of the bytes that a text is
abbrev pub piece : List ℕ → Span → List ℕ
piece bytes span = take span.len (drop span.start bytes)

-- the texts of a pool, in the order of their spans
abbrev pub pieces : List ℕ → List Span → List (List ℕ)
pieces bytes spans = map (piece bytes) spans

-- there are so many bytes, and they are a text
pub record IsPiece (bytes : List ℕ) (span : Span) : Type 0 where
  pub within : span.start + span.len ≤ length bytes
  pub text : is_utf8 (piece bytes span) ≡ true

-- each span lies within the bytes and is a text
abbrev pub ArePieces : List ℕ → List Span → Type 0
ArePieces bytes spans = All (IsPiece bytes) spans
