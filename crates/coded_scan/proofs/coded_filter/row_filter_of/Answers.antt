use Rattle.std.proofs.Common.{◌∙◌, ap, sym}
use Rattle.values.specs.Columns.{row_of}
use Rattle.table_schema.specs.Conditions.{conjunct_holds}
use Rattle.table_schema.specs.declared.query.Conjunct.{Conjunct}
use Rattle.coded_columns.specs.Coded.{table_of}
use Rattle.coded_scan.proofs.coded_filter.row_filter_of.Goals as goal

pub returns-in_ok-row_filter-in-One-clause-lets : goal.returns-in_ok-row_filter-in-One-clause-lets
returns-in_ok-row_filter-in-One-clause-lets c = λ at lt.
    c.in_ok-row_filter-in-One.ensures.lets at lt ∙ sym (ap (λ (k : Conjunct). conjunct_holds (row_of (table_of c.args.segment.now).columns at) k) c.in-One.is)

pub returns-in_ok-row_filter-in-Many-clause-lets : goal.returns-in_ok-row_filter-in-Many-clause-lets
returns-in_ok-row_filter-in-Many-clause-lets c = λ at lt.
    c.in_ok-row_filter-in-Many.ensures.lets at lt ∙ sym (ap (λ (k : Conjunct). conjunct_holds (row_of (table_of c.args.segment.now).columns at) k) c.in-Many.is)
