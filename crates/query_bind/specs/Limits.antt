-- How many group columns, aggregates and keys a query may have, and how many groups it answers.
use Rattle.std.specs.Prelude.{ℕ, ℤ, pos, negsuc, ◌+◌, Bool, true, false, ◌||◌, nat_lt, nat_le, List, [], ◌∷◌, length, Option, Some, None}
use Rattle.values.specs.declared.value.Value.{Value}
use Rattle.values.specs.declared.value.Value.TheVariants as value
use Rattle.query_tokens.specs.declared.tree.LiteralAt.{LiteralAt}
use Rattle.query_parser.specs.Query.{is_natural}
use Rattle.query_bind.specs.declared.fault.BindReason.TheVariants.{TooMany}
use Rattle.query_bind.specs.declared.terms.TermAt.{TermAt}
use Rattle.query_bind.specs.declared.terms.KeyAt.{KeyAt}
use Rattle.query_bind.specs.declared.terms.ColumnAt.{ColumnAt}
use Rattle.query_bind.specs.declared.terms.Terms.{Terms}
use Rattle.query_bind.specs.Faults.{Finding, fault_if}
use Rattle.query_bind.specs.Terms.{with_agg, with_column, aggs_from, aggs_before_keys}
use Rattle.table_schema.specs.declared.query.Agg.{Agg}
use Rattle.table_schema.specs.Firsts.{or_else, first_of}

-- the first term with which there are more than 16 aggregates, after those that are kept
abbrev pub aggs_finding : List Agg → List TermAt → Finding
aggs_finding kept [] = None
aggs_finding kept (t ∷ ts) = or_else
    (fault_if (nat_lt 16 (length (with_agg kept t.meaning))) TooMany t.offset)
    (aggs_finding (with_agg kept t.meaning) ts)

-- the first name with which there are more than 8 group columns
abbrev pub groups_finding : List ℕ → List ColumnAt → Finding
groups_finding kept [] = None
groups_finding kept (n ∷ ns) = or_else
    (fault_if (nat_lt 8 (length (with_column kept n.column))) TooMany n.offset)
    (groups_finding (with_column kept n.column) ns)

-- the first key after 16 others, or with which there are more than 16 aggregates
abbrev pub keys_finding : ℕ → List Agg → List KeyAt → Finding
keys_finding others kept [] = None
keys_finding others kept (k ∷ ks) = or_else
    (fault_if (nat_le 16 others
    || nat_lt 16 (length (with_agg kept k.term.meaning))) TooMany k.term.offset)
    (keys_finding (others + 1) (with_agg kept k.term.meaning) ks)

-- the first fault of the aggregates of the select list, of GROUP BY, of the aggregates of HAVING
-- and of ORDER BY, in this order
abbrev pub limits_finding : Terms → Finding
limits_finding terms = first_of (
    aggs_finding [] terms.items
    ∷ groups_finding [] terms.groups
    ∷ aggs_finding (aggs_from [] terms.items) terms.having
    ∷ keys_finding 0 (aggs_before_keys terms) terms.keys
    ∷ [])

-- ---- LIMIT and OFFSET

-- a whole number from 0 on
abbrev pub natural : ℤ → ℕ
natural (pos n) = n
natural (negsuc n) = 0

-- the number of a literal; 0 for a text, which no LIMIT or OFFSET has
abbrev pub number_in : Value → ℕ
number_in (value.Whole z) = natural z
number_in (value.Text t) = 0

-- the number after the word, or the usual one
abbrev pub count_or : ℕ → Option LiteralAt → ℕ
count_or usual None = usual
count_or usual (Some l) = number_in l.value

-- a whole number from 0 on, as the grammar has it
abbrev pub is_number : Value → Bool
is_number (value.Whole z) = is_natural z
is_number (value.Text t) = false

-- LIMIT or OFFSET is absent, or has such a number
abbrev pub is_count : Option LiteralAt → Bool
is_count None = true
is_count (Some l) = is_number l.value
