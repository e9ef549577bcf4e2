-- What a query is grouped by.
use Rattle.std.specs.Prelude.{Bool, true, false, List, [], ◌∷◌, None}
use Rattle.std.specs.List.{list_any}
use Rattle.std.specs.Str.{bytes_eq}
use Rattle.query_tokens.specs.declared.tree.NameAt.{NameAt}
use Rattle.query_tokens.specs.declared.tree.Term.{Term}
use Rattle.query_tokens.specs.declared.tree.Term.TheVariants as term
use Rattle.query_tokens.specs.declared.tree.Query.{Query}
use Rattle.query_bind.specs.declared.fault.BindReason.TheVariants.{NoAggregate, NotGrouped}
use Rattle.query_bind.specs.Faults.{Finding, fault_unless}
use Rattle.query_bind.specs.GroupTests.{GroupTest, having_finding}
use Rattle.query_bind.specs.Names.{term_of}
use Rattle.table_schema.specs.Firsts.{first_of, first_in}

-- ---- an aggregate in the select list

-- the term is an aggregate, and not a column
abbrev pub is_call : Term → Bool
is_call (term.Column n) = false
is_call (term.Call c) = true

-- some item is an aggregate; the place of the fault is that of SELECT
abbrev pub aggregate_finding : Query → Finding
aggregate_finding q = fault_unless (list_any (λ i. is_call i.term) q.items) NoAggregate q.select

-- ---- columns that GROUP BY names

-- whether a name is among those of GROUP BY
abbrev pub is_grouped : List NameAt → NameAt → Bool
is_grouped groups n = list_any (λ g. bytes_eq g.name n.name) groups

-- a column by itself is one that GROUP BY names
abbrev pub group_finding : List NameAt → NameAt → Finding
group_finding groups n = fault_unless (is_grouped groups n) NotGrouped n.offset

-- the same of a term; an aggregate may take any column
abbrev pub term_grouped : List NameAt → Term → Finding
term_grouped groups (term.Column n) = group_finding groups n
term_grouped groups (term.Call c) = None

-- the same of what a test of a group is of
abbrev pub test_grouped : List NameAt → GroupTest → Finding
test_grouped groups t = term_grouped groups t.tested

-- each column of the select list, of HAVING and of ORDER BY is grouped
abbrev pub grouped_finding : Query → Finding
grouped_finding q = first_of (
    first_in (λ i. term_grouped q.groups i.term) q.items
    ∷ having_finding (test_grouped q.groups) q.having
    ∷ first_in (λ k. term_grouped q.groups (term_of q.items k.term)) q.order
    ∷ [])
