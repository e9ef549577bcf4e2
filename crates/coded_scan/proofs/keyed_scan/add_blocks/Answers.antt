use Rattle.std.proofs.Common.{◌≡◌, ◌∙◌, ◌≤◌, ◌+◌, ◌++◌, ℕ, Bool, List, length, map, take, drop, ap, sym, subst, arith}
use Rattle.table_schema.specs.declared.query.Agg.{Agg}
use Rattle.value_ids.specs.Coding.{AreBelow}
use Rattle.scan_engine.specs.Places.{rows_at}
use Rattle.coded_columns.specs.Coded.{table_of}
use Rattle.coded_columns.specs.Keyed.{AllAdd, HoldsPacked, SetsFirst, TakesRows}
use Rattle.coded_columns.specs.Keys.{key_at}
use Rattle.coded_columns.specs.Packing.{Ascend}
use Rattle.coded_columns.proofs.KeyedSteps.{packed-more, packed-take}
use Rattle.std.specs.Prelude.{get_or}
use Rattle.coded_scan.specs.RowFilters.{all_let, passing}
use Rattle.coded_scan.proofs.AddSteps.{blocks-enough, passing-ascend, passing-below, passing-few}
use Rattle.coded_scan.proofs.PlaceSteps.{front_kept}
use Rattle.coded_scan.proofs.KeyedMerges.{passed-more}
use Rattle.coded_scan.proofs.keyed_scan.add_blocks.Goals as goal

pub loop-init : goal.loop-init
loop-init c =
    let segment = c.args.rows.segment.now in
    record {
      within = omega arith;
      left = blocks-enough segment.count;
      holds = c.requires.none;
    }

pub invariant_of-placed : goal.invariant_of-placed
invariant_of-placed c =
    let segment = c.args.rows.segment.now in
    let holds : ℕ → Bool = λ at. all_let at c.args.rows.row_filters.now in
    let block = c.block_from-block.result in
    let places : List ℕ = take c.in_ok-many.many (c.put_block.new.out ++ drop block.length c.loop.places) in
    let is : places ≡ passing holds block.from block.length = front_kept c.put_block.new.out (drop block.length c.loop.places) c.in_ok-many.many _ c.in_ok-many.ensures.count c.in_ok-many.ensures.places in
    record {
      within = subst (AreBelow segment.count) (sym is) (passing-below holds block.from block.length segment.count (omega (arith, c.block_from-block.ensures.within, c.block_from-block.ensures.from)));
      few = omega (arith, ap length is, passing-few holds block.from block.length, c.block_from-block.ensures.within, c.block_from-block.ensures.from);
      ascend = subst Ascend (sym is) (passing-ascend holds block.from block.length);
    }

pub add-requires : goal.add-requires
add-requires c =
    let segment = c.args.rows.segment.now in
    let query = c.args.query.now in
    let holds : ℕ → Bool = λ at. all_let at c.args.rows.row_filters.now in
    let block = c.block_from-block.result in
    let from : ℕ = c.loop.from in
    let places : List ℕ = take c.in_ok-many.many (c.put_block.new.out ++ drop block.length c.loop.places) in
    let is : places ≡ passing holds block.from block.length = front_kept c.put_block.new.out (drop block.length c.loop.places) c.in_ok-many.many _ c.in_ok-many.ensures.count c.in_ok-many.ensures.places in
    let few : length places ≤ block.length = subst (λ (l : List ℕ). length l ≤ block.length) (sym is) (passing-few holds block.from block.length) in
    let takes : TakesRows segment query.groups query.aggs (length places) c.loop.keyed =
    packed-take segment query.groups query.aggs (passing holds 0 from) (length places) c.loop.keyed c.loop.invariant.holds
    (omega (arith, few, passing-few holds 0 from, c.block_from-block.ensures.within, segment.coded.at_most)) in
    subst (λ (gs : List ℕ). TakesRows segment gs c.as_slice-aggs.result.now (length places) c.loop.keyed) (sym c.as_slice-groups.ensures)
    (subst (λ (ags : List Agg). TakesRows segment query.groups ags (length places) c.loop.keyed) (sym c.as_slice-aggs.ensures) takes)

pub loop-preserved : goal.loop-preserved
loop-preserved c =
    let segment = c.args.rows.segment.now in
    let query = c.args.query.now in
    let holds : ℕ → Bool = λ at. all_let at c.args.rows.row_filters.now in
    let block = c.block_from-block.result in
    let from : ℕ = c.loop.from in
    let places : List ℕ = take c.in_ok-many.many (c.put_block.new.out ++ drop block.length c.loop.places) in
    let first : block.from ≡ from = c.block_from-block.ensures.from in
    let is : places ≡ passing holds block.from block.length = front_kept c.put_block.new.out (drop block.length c.loop.places) c.in_ok-many.many _ c.in_ok-many.ensures.count c.in_ok-many.ensures.places in
    let below : AreBelow segment.count places = subst (AreBelow segment.count) (sym is) (passing-below holds block.from block.length segment.count (omega (arith, c.block_from-block.ensures.within, first))) in
    let old = c.loop.keyed in
    let new = c.add.new.self in
    let firsts : (k : ℕ) → SetsFirst (length places) (map (key_at segment query.groups) places) places k (get_or old.firsts.items k 0) (get_or new.firsts.items k 0) =
    subst (λ (gs : List ℕ). (k : ℕ) → SetsFirst (length places) (map (key_at segment gs) places) places k (get_or old.firsts.items k 0) (get_or new.firsts.items k 0)) c.as_slice-groups.ensures c.in_ok-add.ensures.firsts in
    let adds : AllAdd query.aggs (map (key_at segment query.groups) places) (rows_at (table_of segment).columns places) old.aggs.items new.aggs.items =
    subst (λ (gs : List ℕ). AllAdd query.aggs (map (key_at segment gs) places) (rows_at (table_of segment).columns places) old.aggs.items new.aggs.items) c.as_slice-groups.ensures
    (subst (λ (ags : List Agg). AllAdd ags (map (key_at segment c.as_slice-groups.result.now) places) (rows_at (table_of segment).columns places) old.aggs.items new.aggs.items) c.as_slice-aggs.ensures c.in_ok-add.ensures.states) in
    let all : passing holds 0 from ++ places ≡ passing holds 0 (from + block.length) =
    ap (λ (l : List ℕ). passing holds 0 from ++ l) (is ∙ ap (λ f. passing holds f block.length) first) ∙ passed-more holds from block.length in
    record {
      within = c.block_from-block.ensures.within;
      left = omega (arith, c.block_from-block.ensures.left, c.loop.invariant.left, c.loop-test.true);
      holds = subst (λ (l : List ℕ). HoldsPacked segment query.groups query.aggs l new) all
          (packed-more segment query.groups query.aggs (passing holds 0 from) places old new c.loop.invariant.holds c.in_ok-add.ensures.size firsts adds below);
    }

pub returns : goal.returns
returns c =
    let segment = c.args.rows.segment.now in
    let query = c.args.query.now in
    let holds : ℕ → Bool = λ at. all_let at c.args.rows.row_filters.now in
    let end : c.loop.from ≡ segment.count = omega (arith, c.loop.invariant.within, c.loop.invariant.left, c.loop-test.false) in
    subst (λ n. HoldsPacked segment query.groups query.aggs (passing holds 0 n) c.loop.keyed) end c.loop.invariant.holds
