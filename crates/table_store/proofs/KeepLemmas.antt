-- Kept files stand for nothing, and segments are replaced.
use Rattle.std.proofs.Common.{◌≢◌, ◌∙◌, ℕ, List, inl, inr, sym, subst}
use Rattle.std.specs.FinMap as map
use Rattle.outside.specs.Files.{Files}
use Rattle.table_store.specs.State.{Segments, HasTable, Texts}
use Rattle.table_store.specs.Kept.{IsKeptName}
use Rattle.table_store.specs.Stands.{IsLiveName, KeptIdle, KeptStay, ReplaceStands, Stands}
use Rattle.table_store.proofs.DropLemmas.{got_left}
use Rattle.table_store.proofs.KeptLemmas.{live_name, table_live}
use Rattle.table_store.proofs.SegmentLemmas.{got_other, in_place}

-- ---- kept files

not_kept : (kept q : List ℕ) → IsKeptName kept → ¬ IsKeptName q → q ≢ kept
not_kept kept q is live same = live (subst IsKeptName (sym same) is)

one_kept : (files : Files) (texts : Texts) (segments : Segments) (kept bytes : List ℕ) → Stands files (HasTable texts segments) → IsKeptName kept → Stands (map.insert files kept bytes) (HasTable texts segments)
one_kept files texts segments kept bytes stands is = record {
  table = stands.table;
  valid = stands.valid;
  stored = λ q live. got_other files kept bytes q (not_kept kept q is live) ∙ stands.stored q live;
}

none_kept : (files : Files) (texts : Texts) (segments : Segments) (kept : List ℕ) → Stands files (HasTable texts segments) → IsKeptName kept → Stands (map.remove files kept) (HasTable texts segments)
none_kept files texts segments kept stands is = record {
  table = stands.table;
  valid = stands.valid;
  stored = λ q live. got_left files kept q (not_kept kept q is live) ∙ stands.stored q live;
}

pub kept_idle : KeptIdle
kept_idle = record { more = one_kept; less = none_kept }

-- ---- files of tables and segments

not_live : (file : List ℕ) → IsLiveName file → ¬ IsKeptName file
not_live file (inl same) kept = table_live (subst IsKeptName same kept)
not_live file (inr (name, same)) kept = live_name name (subst IsKeptName same kept)

other : (file kept : List ℕ) → IsLiveName file → IsKeptName kept → kept ≢ file
other file kept live is same = not_live file live (subst IsKeptName same is)

pub kept_stay : KeptStay
kept_stay = record {
  put = λ files file kept bytes live is. got_other files file bytes kept (other file kept live is);
  taken = λ files file kept live is. got_left files file kept (other file kept live is);
}

pub replace_stands : ReplaceStands
replace_stands files texts segments read name rows was stands accepted named can there = in_place files texts segments read name rows stands accepted named can was there
