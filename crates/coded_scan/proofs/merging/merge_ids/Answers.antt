use Rattle.std.proofs.Common.{rules, ◌≡◌, ◌∙◌, ℕ, List, Option, MatchOption, Err, length, get_or, pos, ap, sym, subst}
use Rattle.std.proofs.lemmas.List.{length-map}
use Rattle.std.specs.FinMap as finite
use Rattle.values.specs.declared.value.Value.{Value}
use Rattle.values.specs.declared.value.Value.TheVariants.{Whole}
use Rattle.values.specs.Columns.{row_of}
use Rattle.agg_laws.specs.declared.states.AggState.{AggState}
use Rattle.agg_laws.specs.Numbers.{most_values}
use Rattle.agg_laws.specs.Rows.{RowFits}
use Rattle.group_table.specs.declared.fault.TableFault.TheVariants.{TooManyGroups}
use Rattle.group_table.specs.Groups.{key_of, with_states}
use Rattle.group_table.specs.Kept.{IsNewKey, KeptGroups, Merges, groups_in}
use Rattle.group_table.specs.Pooled.{IsKeyAt, in_pool}
use Rattle.coded_columns.specs.Coded.{table_of}
use Rattle.coded_columns.specs.Keys.{AreIdsAt}
use Rattle.coded_scan.proofs.merging.merge_ids.Goals as goal

pub merge_at-requires-clause-at : goal.merge_at-requires-clause-at
merge_at-requires-clause-at c =
    let segment = c.args.segment.now in
    let columns : List ℕ = c.args.columns.now in
    let table = c.args.table.now in
    let old : KeptGroups = in_pool table c.args.pool.now in
    let states : List AggState = c.args.room.now.states in
    let told = c.requires.merges.row in
    let own : List Value = key_of columns (row_of (table_of segment).columns told.row) in
    let found : IsKeyAt table own c.in-Some.place =
    subst (λ (known : Option ℕ). MatchOption known (c.known_place.new.made.key ≡ own) (IsKeyAt table own)) c.in-Some.is
    (c.in-Ok.ensures told.row told.within (subst (λ (l : List ℕ). AreIdsAt segment columns told.row l) (sym c.deref-3.ensures.value) told.are)) in
    found.within

pub merge_at-requires-clause-fits : goal.merge_at-requires-clause-fits
merge_at-requires-clause-fits c =
    let segment = c.args.segment.now in
    let columns : List ℕ = c.args.columns.now in
    let table = c.args.table.now in
    let old : KeptGroups = in_pool table c.args.pool.now in
    let states : List AggState = c.args.room.now.states in
    let told = c.requires.merges.row in
    let own : List Value = key_of columns (row_of (table_of segment).columns told.row) in
    let found : IsKeyAt table own c.in-Some.place =
    subst (λ (known : Option ℕ). MatchOption known (c.known_place.new.made.key ≡ own) (IsKeyAt table own)) c.in-Some.is
    (c.in-Ok.ensures told.row told.within (subst (λ (l : List ℕ). AreIdsAt segment columns told.row l) (sym c.deref-3.ensures.value) told.are)) in
    subst (λ (k : List Value). RowFits (with_states (groups_in old) k states) most_values) (sym (found.is_key c.args.pool.now)) (c.requires.merges.fits told.row told.within told.are)

pub returns-in-Some-clause-ok : goal.returns-in-Some-clause-ok
returns-in-Some-clause-ok c = λ row lt are.
    let segment = c.args.segment.now in
    let columns : List ℕ = c.args.columns.now in
    let table = c.args.table.now in
    let old : KeptGroups = in_pool table c.args.pool.now in
    let states : List AggState = c.args.room.now.states in
    let own : List Value = key_of columns (row_of (table_of segment).columns row) in
    let found : IsKeyAt table own c.in-Some.place =
    subst (λ (known : Option ℕ). MatchOption known (c.known_place.new.made.key ≡ own) (IsKeyAt table own)) c.in-Some.is
    (c.in-Ok.ensures row lt (subst (λ (l : List ℕ). AreIdsAt segment columns row l) (sym c.deref-3.ensures.value) are)) in
    subst (λ (k : List Value). Merges k states old (in_pool table c.merge_at.new.pool)) (found.is_key c.args.pool.now) c.merge_at.ensures.merges

pub merge_row-requires-clause-key : goal.merge_row-requires-clause-key
merge_row-requires-clause-key c =
    let segment = c.args.segment.now in
    let columns : List ℕ = c.args.columns.now in
    let table = c.args.table.now in
    let old : KeptGroups = in_pool table c.args.pool.now in
    let states : List AggState = c.args.room.now.states in
    let told = c.requires.merges.row in
    let own : List Value = key_of columns (row_of (table_of segment).columns told.row) in
    let made : c.known_place.new.made.key ≡ own =
    subst (λ (known : Option ℕ). MatchOption known (c.known_place.new.made.key ≡ own) (IsKeyAt table own)) c.in_default.is
    (c.in-Ok.ensures told.row told.within (subst (λ (l : List ℕ). AreIdsAt segment columns told.row l) (sym c.deref-3.ensures.value) told.are)) in
    ap length made ∙ length-map columns (λ (g : ℕ). get_or (row_of (table_of segment).columns told.row) g (Whole (pos 0))) ∙ sym c.requires.merges.as_many

pub merge_row-requires-clause-fits : goal.merge_row-requires-clause-fits
merge_row-requires-clause-fits c =
    let segment = c.args.segment.now in
    let columns : List ℕ = c.args.columns.now in
    let table = c.args.table.now in
    let old : KeptGroups = in_pool table c.args.pool.now in
    let states : List AggState = c.args.room.now.states in
    let told = c.requires.merges.row in
    let own : List Value = key_of columns (row_of (table_of segment).columns told.row) in
    let made : c.known_place.new.made.key ≡ own =
    subst (λ (known : Option ℕ). MatchOption known (c.known_place.new.made.key ≡ own) (IsKeyAt table own)) c.in_default.is
    (c.in-Ok.ensures told.row told.within (subst (λ (l : List ℕ). AreIdsAt segment columns told.row l) (sym c.deref-3.ensures.value) told.are)) in
    subst (λ (k : List Value). RowFits (with_states (groups_in old) k states) most_values) (sym made) (c.requires.merges.fits told.row told.within told.are)

pub returns-in_err-merge_row-clause-full : goal.returns-in_err-merge_row-clause-full
returns-in_err-merge_row-clause-full c = λ bad.
    let segment = c.args.segment.now in
    let columns : List ℕ = c.args.columns.now in
    let table = c.args.table.now in
    let old : KeptGroups = in_pool table c.args.pool.now in
    let states : List AggState = c.args.room.now.states in
    let full : c.from_residual.result ≡ Err TooManyGroups → IsNewKey old c.known_place.new.made.key × (finite.len (groups_in old) ≡ table.most) = search rules in (
      (λ row lt are.
          let own : List Value = key_of columns (row_of (table_of segment).columns row) in
          let made : c.known_place.new.made.key ≡ own =
          subst (λ (known : Option ℕ). MatchOption known (c.known_place.new.made.key ≡ own) (IsKeyAt table own)) c.in_default.is
          (c.in-Ok.ensures row lt (subst (λ (l : List ℕ). AreIdsAt segment columns row l) (sym c.deref-3.ensures.value) are)) in
          subst (λ (k : List Value). IsNewKey old k) made (full bad).0),
      (full bad).1,
    )

pub returns-clause-ok : goal.returns-clause-ok
returns-clause-ok c = λ row lt are.
    let segment = c.args.segment.now in
    let columns : List ℕ = c.args.columns.now in
    let table = c.args.table.now in
    let old : KeptGroups = in_pool table c.args.pool.now in
    let states : List AggState = c.args.room.now.states in
    let own : List Value = key_of columns (row_of (table_of segment).columns row) in
    let made : c.known_place.new.made.key ≡ own =
    subst (λ (known : Option ℕ). MatchOption known (c.known_place.new.made.key ≡ own) (IsKeyAt table own)) c.in_default.is
    (c.in-Ok.ensures row lt (subst (λ (l : List ℕ). AreIdsAt segment columns row l) (sym c.deref-3.ensures.value) are)) in
    subst (λ (k : List Value). Merges k states old (in_pool c.merge_row.new.self c.merge_row.new.pool)) made c.in_ok-merge_row.ensures.ok
