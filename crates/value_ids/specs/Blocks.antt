-- Texts that are parts of a block of bytes.
use Rattle.std.specs.Prelude.{◌≡◌, ◌+◌, ◌≤◌, ℕ, List, true, drop, length, map, take}
use Rattle.std.specs.List.{All}
use Rattle.std.specs.Str.{is_utf8}
use Rattle.value_ids.specs.declared.text_block.TextPart.{TextPart}

-- the part of the bytes that a text is
abbrev pub text_in : List ℕ → TextPart → List ℕ
text_in bytes part = take part.len (drop part.start bytes)

-- the texts, in the order of their parts
abbrev pub texts_in : List ℕ → List TextPart → List (List ℕ)
texts_in bytes parts = map (text_in bytes) parts

-- there are so many bytes, and they are a text
pub record IsPart (bytes : List ℕ) (part : TextPart) : Type 0 where
  pub within : part.start + part.len ≤ length bytes
  pub text : is_utf8 (text_in bytes part) ≡ true

-- each part lies within the bytes and is a text
abbrev pub AreParts : List ℕ → List TextPart → Type 0
AreParts bytes parts = All (IsPart bytes) parts
