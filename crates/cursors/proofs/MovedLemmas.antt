-- A cursor once rows were added to its groups, or once they are again as they were saved.
use Rattle.std.proofs.Common.{◌≡◌, ◌≢◌, ◌∙◌, ◌+◌, ◌*◌, ◌-◌, ◌<◌, ◌≤◌, ℕ, zero, suc, Bool, true, false, nat_eq, List, [], ◌∷◌, drop, get_or, length, take, Option, refl, sym, ap, subst, arith}
use Rattle.std.specs.Prelude.{is_some}
use Rattle.std.specs.FinMap as finite
use borrow.Author.Tests.{eqb-false, eqb-true}
use Rattle.std.specs.List.{All}
use Rattle.std.proofs.lemmas.List.{length-append, length-drop, length-map, length-take-le}
use Rattle.std.proofs.lemmas.List.Elements.{All-drop, All-take}
use Rattle.outside.specs.Files.{Files}
use Rattle.agg_laws.specs.declared.aggregate_kind.AggKind.{AggKind}
use Rattle.agg_laws.specs.declared.states.AggState.{AggState}
use Rattle.agg_laws.specs.Numbers.{most_values}
use Rattle.table_schema.specs.ValidTable.{IsValidTable}
use Rattle.table_schema.specs.declared.table.Table.{Table}
use Rattle.state_pool.specs.Pool.{Pool, held, kinds_at, slots_of}
use Rattle.group_table.specs.Kept.{groups_in}
use Rattle.group_table.specs.Pooled.{KeepsOthers, PooledTable, StaysIn, in_pool}
use Rattle.group_table.specs.Saved.{HasSaved}
use Rattle.group_table.proofs.SavedSteps.{saved_long}
use Rattle.scan_engine.proofs.AddLemmas.{at_most_more}
use Rattle.segment_file.specs.Names.{IsSegmentName}
use Rattle.segment_head.specs.Stored.{names_of}
use Rattle.segment_head.specs.declared.stored.Stored.{Stored}
use Rattle.query_executor.specs.Passes.{CanBegin, IsQueryOver}
use Rattle.query_executor.specs.Steps.{AreOverfull}
use Rattle.cursor_serve.specs.Machine.{most_cursor_groups}
use Rattle.cursor_serve.proofs.SoundLemmas.{all_drop}
use Rattle.cursors.specs.Added.{AddsAll, stored_in}
use Rattle.cursors.specs.Answered.{AnswersRows, IsOverfull, next_stored}
use Rattle.cursors.specs.Kept.{IsCursorIn, IsOver, IsPool, KeepsAside, keeper}
use Rattle.cursors.specs.declared.cursor.Cursor.{Cursor}
use Rattle.cursors.proofs.AddedLemmas.{added_rows, overfull_rows}
use Rattle.cursors.proofs.PoolLemmas.{aside_first}
use Rattle.cursors.proofs.StoredLemmas.{AreThere, stored_names}

-- ---- the segments that come next

part_there : (n : ℕ) (files : List (Option (List ℕ))) → AreThere files → AreThere (take n files)
part_there zero files all = tt
part_there (suc n) [] all = tt
part_there (suc n) (file ∷ files) all = (all.0, part_there n files all.1)

pub later_there : (a b : ℕ) (files : List (Option (List ℕ))) → a ≤ b → AreThere (drop a files) → AreThere (drop b files)
later_there zero b files le all = all_drop (λ file. is_some file ≡ true) b files all
later_there (suc a) zero files le all = absurd (omega (arith, le))
later_there (suc a) (suc b) [] le all = tt
later_there (suc a) (suc b) (file ∷ files) le all = later_there a b files (omega (arith, le)) all

module _ (pool : Pool) (c : Cursor) (to : ℕ) (own : IsCursorIn pool c) (next : c.answered ≤ to) (within : to ≤ length c.segments) where
  abbrev count : ℕ
  count = to - c.answered

  part_long : {X : Type 0} (xs : List X) → length xs ≡ length c.segments → length (take count (drop c.answered xs)) ≡ count
  part_long xs long = let rest = length-drop c.answered xs in length-take-le count (drop c.answered xs) (omega (arith, rest, long, next, within))

  next_names : names_of (next_stored c to) ≡ take count (drop c.answered c.segments)
  next_names = stored_names (take count (drop c.answered c.segments)) (take count (drop c.answered c.files.items))
      (part_long c.files.items own.files ∙ sym (part_long c.segments refl)) (part_there count (drop c.answered c.files.items) own.there)

  pub next_long : length (next_stored c to) ≡ to - c.answered
  next_long = sym (length-map (next_stored c to) (λ (s : Stored). s.name)) ∙ ap length next_names ∙ part_long c.segments refl

  pub query_over : (table : Table) → IsValidTable table → IsOver table c → IsQueryOver c.query table (next_stored c to)
  query_over table valid over = record {
    of_table = record {
      valid = valid;
      named = subst (All IsSegmentName) (sym next_names) (All-take IsSegmentName count (drop c.answered c.segments) (All-drop IsSegmentName c.answered c.segments over.named));
      at_most = let long = ap length next_names ∙ part_long c.segments refl in let few = own.few in omega (arith, long, few, next, within);
    };
    query = over.query;
  }

  -- ---- the groups, beside whose states nothing of the pool has changed

  apart : c.groups.owner ≢ keeper
  apart is = let lt = own.owner in omega (arith, lt, is)

  pub begins : (table : Table) → IsValidTable table → IsOver table c → CanBegin c.query table (next_stored c to) (in_pool c.groups pool)
  begins table valid over = record {
    over = query_over table valid over;
    of_query = own.of_query;
    fits = at_most_more (groups_in (in_pool c.groups pool)) (c.answered * 1048576) (most_values - length (next_stored c to) * 1048576)
        (let long = next_long in let few = own.few in omega (arith, long, few, next, within)) own.fits;
  }

  pub overfull_next : (table : Table) (held : Option Files) → IsPool pool → AreOverfull c.query table held (next_stored c to) (in_pool c.groups pool) → IsOverfull table held (next_stored c to) pool c
  overfull_next table held is_pool over = λ done had.
      overfull_rows c.query table held (next_stored c to) done (in_pool c.groups pool) most_cursor_groups had
      (own.table.holds.quota ∙ is_pool.quotas c.groups.owner (let lt = own.owner in omega (arith, lt))) over

  module _ (u : PooledTable) (after : Pool) (stays : StaysIn c.groups pool u after) where
    -- ---- where the rows were added

    pub moved_aside : KeepsAside c.groups.owner keeper pool after
    moved_aside = aside_first c.groups.owner keeper pool after stays.keeps

    -- the owner that is for no cursor holds none still
    pub none_still : held pool keeper ≡ 0 → held after keeper ≡ 0
    none_still none = ap finite.len (stays.keeps.others keeper (λ is. apart (sym is))) ∙ none

    module _ (table : Table) (held : Option Files) (added : AddsAll c.query table held (next_stored c to) (in_pool c.groups pool) (in_pool u after)) where
      pub moved_in : IsCursorIn after (record c { answered = to; groups = u })
      moved_in = record {
        owner = subst (λ n. n < 16) (sym stays.owner) own.owner;
        owner_is = own.owner_is ∙ sym stays.owner;
        table = stays.table;
        of_query = added.of_query;
        fits = at_most_more (groups_in (in_pool u after)) (c.answered * 1048576 + length (next_stored c to) * 1048576) (to * 1048576) (let long = next_long in omega (arith, long, next))
            (added.fits (c.answered * 1048576) own.fits);
        answered = within;
        few = own.few;
        files = own.files;
        there = later_there c.answered to c.files.items next own.there;
      }

      pub answers_next : AnswersRows table held (next_stored c to) pool after c (record c { answered = to; groups = u })
      answers_next = λ done had. added_rows c.query table held (next_stored c to) done (in_pool c.groups pool) (in_pool u after) had added.groups

    -- ---- what was saved before, once rows were added

    pub no_more : length c.groups.slots ≤ length u.slots
    no_more =
        let more = stays.extends in
        let long : length u.slots ≡ length c.groups.slots + length more.0 = ap (λ (t : PooledTable). length t.slots) more.1 ∙ length-append c.groups.slots more.0 in
        omega (arith, long)

    pub states_long : (states : List AggState) → HasSaved c.groups pool states → length states ≡ length c.groups.slots * length (kinds_at after u.owner)
    states_long states has = saved_long c.groups pool states has
        ∙ ap (λ (ks : List AggKind). length c.groups.slots * length ks) (sym (ap (λ kss. get_or kss c.groups.owner []) stays.keeps.kinds) ∙ ap (kinds_at after) (sym stays.owner))

    pub back_aside : (new : Pool) → slots_of new u.owner ≡ slots_of pool c.groups.owner → KeepsOthers u.owner after new → KeepsAside keeper keeper pool new
    back_aside new own_back restores = record {
      quotas = restores.quotas ∙ stays.keeps.quotas;
      width = restores.width ∙ stays.keeps.width;
      kinds = λ other ne no. ap (λ kss. get_or kss other []) (restores.kinds ∙ stays.keeps.kinds);
      slots = λ other ne no. by other (nat_eq other c.groups.owner) refl;
    }
      where
        by : (other : ℕ) → (b : Bool) → nat_eq other c.groups.owner ≡ b → slots_of new other ≡ slots_of pool other
        by other true is =
            let same = eqb-true other c.groups.owner is in
            ap (slots_of new) (same ∙ sym stays.owner) ∙ own_back ∙ ap (slots_of pool) (sym same)
        by other false is =
            restores.others other (λ e. eqb-false other c.groups.owner is (e ∙ stays.owner)) ∙ stays.keeps.others other (eqb-false other c.groups.owner is)

    -- the owner that is for no cursor holds none still once they are put back
    pub none_back : (new : Pool) → KeepsOthers u.owner after new → held pool keeper ≡ 0 → held new keeper ≡ 0
    none_back new restores none = ap finite.len (restores.others keeper (λ is. apart (sym (is ∙ stays.owner)))) ∙ none_still none
