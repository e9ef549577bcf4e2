use Rattle.std.proofs.Common.{◌≡◌, ◌∙◌, [], ◌∷◌, ℕ, map, subst, sym, ap}
use Rattle.std.specs.Prelude.{ℤ, List}
use Rattle.values.specs.Columns.{row_of}
use Rattle.agg_laws.specs.Numbers.{AreWhole}
use Rattle.agg_laws.specs.Rows as laws
use Rattle.group_table.specs.Groups.{key_of, number_for}
use Rattle.scan_engine.proofs.AddLemmas.{adds_one, no_room, with_fits, row_fits}
use Rattle.scan_engine.proofs.RunLemmas.{same_fault}
use Rattle.group_table.specs.Pooled.{in_pool}
use Rattle.scan_engine.proofs.row_by_row.add_one.Goals as goal

pub add_row-requires-clause-fits : goal.add_row-requires-clause-fits
add_row-requires-clause-fits c =
    let whole : AreWhole c.deref.result.now = subst (λ (l : List ℤ). AreWhole l) (sym c.deref.ensures.value) c.in_ok-fill_values.ensures.whole in
    with_fits _ c.in_ok-key.key (laws.row_of (in_pool c.args.table.now c.args.pool.now).kinds (c.deref.result.now ∷ [])) 536870911 1 c.requires.room.fits
    (row_fits (in_pool c.args.table.now c.args.pool.now).kinds c.deref.result.now whole)

pub returns-in-Err-clause-adds : goal.returns-in-Err-clause-adds
returns-in-Err-clause-adds c = record {
  added = tt;
  full = λ bad.
      let row = row_of c.args.block.columns.now.columns c.args.at in
      let key : c.in_ok-key.key ≡ key_of c.args.query.now.groups row = c.in_ok-key.ensures ∙ ap (λ (l : List ℕ). key_of l row) c.as_slice.ensures in
      let full = c.add_row.ensures.full.0 (c.in-Err.is ∙ same_fault _ _ bad) in
      no_room c.args.query.now row c.in_ok-key.key (in_pool c.args.table.now c.args.pool.now) key full.0 full.1;
}

pub returns-clause-adds : goal.returns-clause-adds
returns-clause-adds c =
    let row = row_of c.args.block.columns.now.columns c.args.at in
    let whole : AreWhole c.deref.result.now = subst (λ (l : List ℤ). AreWhole l) (sym c.deref.ensures.value) c.in_ok-fill_values.ensures.whole in
    let key : c.in_ok-key.key ≡ key_of c.args.query.now.groups row = c.in_ok-key.ensures ∙ ap (λ (l : List ℕ). key_of l row) c.as_slice.ensures in
    let values : c.deref.result.now ≡ map (λ agg. number_for agg row) c.args.query.now.aggs =
    c.deref.ensures.value ∙ c.in_ok-fill_values.ensures.values ∙ ap (map (λ agg. number_for agg row)) c.as_slice-2.ensures in
    record {
      full = λ bad. absurd cc;
      added = adds_one c.args.query.now row c.in_ok-key.key c.deref.result.now (in_pool c.args.table.now c.args.pool.now) (in_pool c.add_row.new.self c.add_row.new.pool) c.requires.room.of_query key values whole c.in_default.ensures.ok;
    }
