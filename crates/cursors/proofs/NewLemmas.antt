-- A pool in which nobody holds a slot, and a new cursor in a pool.
use Rattle.std.proofs.Common.{◌≡◌, ◌∙◌, ◌<◌, ◌≤◌, ◌*◌, ℕ, true, List, [], ◌∷◌, drop, get_or, length, map, replicate, Option, Some, refl, sym, ap, subst, arith, is_some}
use Rattle.std.specs.FinMap as finite
use Rattle.std.specs.List.{AllByRecursion, IsDistinct}
use Rattle.std.specs.Ordering.{nat_cmp}
use Rattle.std.proofs.lemmas.List.{get_or-replicate, length-map, length-replicate}
use Rattle.agg_laws.specs.declared.aggregate_kind.AggKind.{AggKind}
use Rattle.agg_laws.specs.declared.states.AggState.{AggState}
use Rattle.table_schema.specs.declared.query.BoundQuery.{BoundQuery}
use Rattle.state_pool.specs.Pool.{IsNew, Pool}
use Rattle.group_table.specs.Kept.{IsTableOf, groups_in}
use Rattle.group_table.specs.Pooled.{IsNewIn, IsTableIn, PooledTable, in_pool}
use Rattle.scan_engine.specs.Scanned.{HaveAtMost}
use Rattle.segment_file.specs.Names.{file_of}
use Rattle.cursor_serve.specs.Machine.{most_cursors}
use Rattle.cursors.specs.Kept.{AreCursors, IsCursorIn, IsEmptyPool}
use Rattle.cursors.specs.declared.cursor.Cursor.{Cursor}
use Rattle.cursors.proofs.AddedLemmas.{new_fits}

pub empty_pool : (kinds : List AggKind) (quotas : List ℕ) (pool : Pool) → length kinds ≡ 16 → quotas ≡ replicate 17 10000 → IsNew kinds quotas pool → IsEmptyPool pool
empty_pool kinds quotas pool width same new = record {
  pool_is = record {
    owners = ap length (new.quotas_are ∙ same) ∙ length-replicate {A = ℕ} 17 10000;
    quotas = λ owner lt. ap (λ qs. get_or qs owner 0) (new.quotas_are ∙ same) ∙ get_or-replicate {A = ℕ} 17 owner 10000 0 lt;
    width = new.width_is ∙ width;
  };
  free = λ owner. ap finite.len (new.none_out owner) ∙ finite.len-empty nat_cmp (List AggState);
}

pub no_cursors : (pool : Pool) (ds : List Cursor) → ds ≡ [] → IsEmptyPool pool → AreCursors pool ds
unfolding IsDistinct
no_cursors pool ds none is = subst (AreCursors pool) (sym none) (record {
  pool_is = is.pool_is;
  few = omega arith;
  each = tt;
  owners = tt;
  names = tt;
  free = λ owner free. is.free owner;
})

files_there : (names : List (List ℕ)) → AllByRecursion (λ file. is_some file ≡ true) (map (λ name. Some (file_of name)) names)
files_there [] = tt
files_there (name ∷ names) = (refl, files_there names)

pub made_new : (owner : ℕ) (query : BoundQuery) (segments : List (List ℕ)) (old new : Pool) (groups : PooledTable) (files : List (Option (List ℕ))) → IsNewIn query owner old new groups → owner < most_cursors → length segments ≤ 512
    → files ≡ map (λ name. Some (file_of name)) segments → (e : Cursor) → e.query ≡ query → e.segments ≡ segments → e.answered ≡ 0 → e.files.items ≡ files → e.owner ≡ owner → e.groups ≡ groups → IsCursorIn new e
made_new owner query segments old new groups files made below few are e q s none f o g = record {
  owner = subst (λ (t : PooledTable). t.owner < 16) (sym g) (subst (λ n. n < 16) (sym made.owner_is) below);
  owner_is = o ∙ sym made.owner_is ∙ ap (λ (t : PooledTable). t.owner) (sym g);
  table = subst (λ (t : PooledTable). IsTableIn t new) (sym g) made.table_in;
  of_query = subst (λ (t : PooledTable). IsTableOf e.query (in_pool t new)) (sym g) (subst (λ (q : BoundQuery). IsTableOf q (in_pool groups new)) (sym q) made.is_new.of_query);
  fits = subst (λ (t : PooledTable). HaveAtMost (e.answered * 1048576) (groups_in (in_pool t new))) (sym g) (new_fits query _ (e.answered * 1048576) (in_pool groups new) made.is_new);
  answered = omega (arith, none);
  few = subst (λ ss. length ss ≤ 512) (sym s) few;
  files = ap length (f ∙ are) ∙ length-map segments (λ name. Some (file_of name)) ∙ ap length (sym s);
  there = subst (λ n. AllByRecursion (λ file. is_some file ≡ true) (drop n e.files.items)) (sym none) (subst (AllByRecursion (λ file. is_some file ≡ true)) (sym (f ∙ are)) (files_there segments));
}
