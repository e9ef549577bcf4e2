-- The token at the front of a text. Bytes are given by their ASCII numbers.
use Rattle.std.specs.Prelude.{◌≡◌, ◌<◌, ◌≤◌, ◌-◌, ℕ, ℤ, pos, ◌+◌, Bool, true, false, not, ◌&&◌, ◌||◌, if◌then◌else◌, ◌==◌, nat_lt, List, [], ◌∷◌, length, take, drop, codes, slice_index, Option, Some, None, Result, Ok, Err}
use Rattle.std.specs.Char.{is_ascii_digit, is_ascii_alphanumeric}
use Rattle.std.specs.List.{prefix_len}
use Rattle.std.specs.Str.{str_eq_ignore_ascii_case}
use denote.Enum.Bare.{sameb}
use Rattle.data_types.specs.declared.kind.FieldKind.TheVariants.{Long}
use Rattle.data_types.specs.declared.whole.WholeFault.{WholeFault}
use Rattle.data_types.specs.Numbers.{whole_of}
use Rattle.query_tokens.specs.contracts.token.Kind.{the_type}
use Rattle.query_tokens.specs.declared.lex.Class.{Class}
use Rattle.query_tokens.specs.declared.lex.Class.TheVariants as class
use Rattle.query_tokens.specs.declared.token.Kind.{Kind}
use Rattle.query_tokens.specs.declared.token.Kind.TheVariants as k
use Rattle.query_tokens.specs.declared.token.Token.{Token}

-- the text of a query, or what is left of it
abbrev pub Bytes : Type 0
Bytes = List ℕ

-- blanks, digits, and the bytes of names without quotes
abbrev pub is_in : Class → ℕ → Bool
is_in class.Blank b = b == 32 || b == 9 || b == 13 || b == 10
is_in class.Digit b = is_ascii_digit b
is_in class.Word b = is_ascii_alphanumeric b || b == 95 || b == 36

-- how many blanks a text begins with
abbrev pub blanks : Bytes → ℕ
blanks = prefix_len (is_in class.Blank)

-- `==` on kinds
unfoldable pub same_kind : Kind → Kind → Bool
same_kind = sameb the_type

-- the end and the faults, after which no token is read
unfoldable pub is_last : Kind → Bool
is_last k.End = true
is_last k.BadCharacter = true
is_last k.OpenText = true
is_last k.NumberTooWide = true
is_last k.NameTooLong = true
is_last k.TextTooLong = true
is_last _ = false

-- the kind that stands beside a word, in any case of its letters
abbrev pub lookup : List (Bytes × Kind) → Bytes → Kind
lookup [] word = k.Name
lookup (e ∷ es) word = if str_eq_ignore_ascii_case e.0 word then e.1 else lookup es word

-- the words that are no names unless they stand in quotes
abbrev pub keywords : List (Bytes × Kind)
keywords =
    (codes "SELECT", k.Select) ∷ (codes "FROM", k.From) ∷ (codes "WHERE", k.Where)
    ∷ (codes "GROUP", k.Group) ∷ (codes "BY", k.By) ∷ (codes "HAVING", k.Having)
    ∷ (codes "ORDER", k.Order) ∷ (codes "LIMIT", k.Limit) ∷ (codes "OFFSET", k.Offset)
    ∷ (codes "AND", k.And) ∷ (codes "OR", k.Or) ∷ (codes "NOT", k.Not)
    ∷ (codes "IN", k.In) ∷ (codes "BETWEEN", k.Between) ∷ (codes "AS", k.As) ∷ (codes "ASC", k.Asc)
    ∷ (codes "DESC", k.Desc) ∷ (codes "SET", k.Set) ∷ []

-- the keyword that a word is in any case, or else a name
unfoldable pub keyword : Bytes → Kind
keyword = lookup keywords

-- a token without a number
abbrev pub unnumbered : Kind → ℕ → Token
unnumbered kind len = record { kind = kind; len = len; number = pos 0 }

-- a token ends within the text, at a byte of ASCII, and takes some of it unless it is the last
pub record IsAtFront (z : Bytes) (token : Token) : Type 0 where
  pub within : token.len ≤ length z
  pub moves : token.len ≡ 0 → is_last token.kind ≡ true
  pub ends : 0 < token.len → slice_index z (token.len - 1) < 128

-- A name or a keyword. Faults and the end have no length.
unfoldable pub word : Bytes → Token
word z =
    let len = prefix_len (is_in class.Word) z in
    let kind = keyword (take len z) in
    if same_kind kind k.Name && nat_lt 128 len then unnumbered k.NameTooLong 0 else unnumbered kind
    len

-- ---- numbers

-- a number of so many bytes, or the fault where it is too wide
abbrev pub number_or_fault : ℕ → Result ℤ WholeFault → Token
number_or_fault len (Err fault) = unnumbered k.NumberTooWide 0
number_or_fault len (Ok n) = record { kind = k.Number; len = len; number = n }

-- an optional `-` and the digits after it, as far as they go
unfoldable pub number : Bytes → Token
number z =
    let front = if slice_index z 0 == 45 then 1 else 0 in
    let len = front + prefix_len is_ascii_digit (drop front z) in
    number_or_fault len (whole_of Long (take len z))

-- ---- quotes

-- one more byte of the value, which took n bytes
abbrev pub longer : ℕ → ℕ → Option (Bytes × ℕ) → Option (Bytes × ℕ)
longer b n None = None
longer b n (Some p) = Some (b ∷ p.0, n + p.1)

-- the value, and how many bytes there are up to and with the closing quote
unfoldable pub quoted : ℕ → Bytes → Option (Bytes × ℕ)
quoted quote [] = None
quoted quote (b ∷ []) = if b == quote then Some ([], 1) else None
quoted quote (b ∷ c ∷ z) =
    if not (b == quote) then longer b 1 (quoted quote (c ∷ z))
    else (if c == quote then longer quote 2 (quoted quote z) else Some ([], 1))

-- the value, if the quotes are closed
abbrev pub value_of : Option (Bytes × ℕ) → Bytes
value_of None = []
value_of (Some p) = p.0

-- the lengths of the two
abbrev pub lengths : Option (Bytes × ℕ) → Option (ℕ × ℕ)
lengths None = None
lengths (Some p) = Some (length p.0, p.1)

-- the token of what stands in quotes; the limit is on its value
abbrev pub quotes_token : Kind → Kind → ℕ → Option (Bytes × ℕ) → Token
quotes_token kind too_long longest None = unnumbered k.OpenText 0
quotes_token kind too_long longest (Some p) =
    if nat_lt longest (length p.0) then unnumbered too_long 0
    else (if length p.0 == 0 && same_kind kind k.Name then unnumbered k.EmptyName
    (p.1 + 1) else unnumbered kind (p.1 + 1))

-- a name or a text in quotes
unfoldable pub in_quotes : Kind → Kind → ℕ → Bytes → Token
in_quotes kind too_long longest z = quotes_token kind too_long longest
    (quoted (slice_index z 0) (drop 1 z))

-- ---- signs, by their first two bytes

-- the sign that two bytes begin with, or the fault where there is none
abbrev pub sign : ℕ → ℕ → Token
sign b next =
    if b == 40 then unnumbered k.LParen 1 else (if b == 41 then unnumbered k.RParen 1 else
    (if b == 44 then unnumbered k.Comma 1 else (if b == 59 then unnumbered k.Semi 1
    else (if b == 42 then unnumbered k.Star 1 else (if b == 61 then unnumbered k.Eq 1
    else (if b == 33 && next == 61 then unnumbered k.Ne 2
    else (if b == 60 && next == 62 then unnumbered k.Ne 2
    else (if b == 60 && next == 61 then unnumbered k.Le 2
    else (if b == 60 then unnumbered k.Lt 1
    else (if b == 62 && next == 61 then unnumbered k.Ge 2
    else (if b == 62 then unnumbered k.Gt 1
    else unnumbered k.BadCharacter 0)))))))))))

-- The token at the front of a text that does not begin with a blank.
unfoldable pub token : Bytes → Token
token [] = unnumbered k.End 0
token (b ∷ z) =
    if is_ascii_digit b || (b == 45 && is_ascii_digit (slice_index z 0)) then number (b ∷ z)
    else (if is_in class.Word b then word (b ∷ z)
    else (if b == 34 then in_quotes k.Name k.NameTooLong 128 (b ∷ z)
    else (if b == 39 then in_quotes k.Text k.TextTooLong 512 (b ∷ z)
    else sign b (slice_index z 0))))

-- the value of the name or text at the front
unfoldable pub value : Bytes → Bytes
value z =
    let b = slice_index z 0 in
    if b == 34 || b == 39 then value_of (quoted b (drop 1 z)) else take
    (prefix_len (is_in class.Word) z) z
