-- A store over a depot that tells its files, and the segments that these are of.
use Rattle.std.proofs.Common.{◌≡◌, ℕ, List, [], Option, Some, None, false, true, IfSome, length, get_or, ◌<◌, ◌≤◌, sym, subst}
use Rattle.std.specs.Prelude.{IsSomeAnd, is_some, map as each}
use Rattle.std.specs.FinMap as map
use Rattle.outside.specs.Files.{Files, Lacks, OfFile, with_file, without_file}
use Rattle.values.specs.declared.value.Value.{Value}
use Rattle.table_schema.specs.declared.table.Table.{Table}
use Rattle.segment_file.specs.Image.{CanHold, image}
use Rattle.segment_file.specs.Names.{IsSegmentName, file_of}
use Rattle.segment_head.specs.Stored.{HasNoImage, live}
use Rattle.query_executor.specs.Answers.{IsReply}
use Rattle.sql_reply.specs.SqlReply.{SqlReply, sql_reply}
use Rattle.table_store.specs.Accepted.{IsAccepted, IsNoTableFile, IsTableFile}
use Rattle.table_store.specs.Segments.{AreFirstNames, HasRoom, HasSegment, IsFull, LacksSegment, most_segments}
use Rattle.table_store.specs.Stands.{Stands, segment_of}
use Rattle.table_store.specs.State.{HasTable, NoTable, Segments, Texts}
use Rattle.table_store.specs.TableFile.{table_file, table_name}
use Rattle.table_store.proofs.DropLemmas.{drop_stands}
use Rattle.table_store.proofs.StandsLemmas.{create_stands, one_there, table_stands}
use Rattle.command_model.specs.Queried.{all_rows}
use Rattle.command_model.proofs.MachineLemmas.{came, names_all, rows_right, segment_lacks, segment_put, segment_taken, segments_fewer, segments_full, table_right}
use Rattle.command_model.proofs.StoredLemmas.{first_have}
use Rattle.embedded.specs.Stores.{Keeps, SeenStore}

-- told files are those of the table with these segments
abbrev pub Kept : Table → Segments → Option Files → Type 0
Kept table segments held = IsSomeAnd held (λ files. (texts : Texts) × IsAccepted texts table × Stands files (HasTable texts segments))

module _ (table : Table) (segments : Segments) where
  pub taken_so : (name : List ℕ) (held : Option Files) → Kept table segments held → HasSegment held name → is_some (map.get segments name) ≡ true
  taken_so name None kept has = absurd kept
  taken_so name (Some files) (texts, accepted, stands) has = segment_taken files texts segments stands name has

  pub lacks_so : (name : List ℕ) (held : Option Files) → Kept table segments held → LacksSegment held name → map.get segments name ≡ None
  lacks_so name None kept lacks = absurd kept
  lacks_so name (Some files) (texts, accepted, stands) lacks = segment_lacks files texts segments stands name lacks

  pub full_so : (held : Option Files) → Kept table segments held → IfSome held IsFull → most_segments ≤ map.len segments
  full_so None kept full = absurd kept
  full_so (Some files) (texts, accepted, stands) full = segments_full files texts segments stands full

  pub room_so : (held : Option Files) → Kept table segments held → IfSome held HasRoom → map.len segments < most_segments
  room_so None kept room = absurd kept
  room_so (Some files) (texts, accepted, stands) room = segments_fewer files texts segments stands room

  -- the file of one segment more
  pub put_so : (name : List ℕ) (rows : List (List Value)) (held : Option Files) → Kept table segments held → IsSegmentName name → CanHold table rows → LacksSegment held name → IfSome held HasRoom
      → Kept table (map.insert segments name (segment_of table rows)) (with_file (file_of name) (image 1 table name rows) held)
  put_so name rows None kept named can lacks room = absurd kept
  put_so name rows (Some files) (texts, accepted, stands) named can lacks room = (texts, accepted, segment_put files texts segments stands table name rows accepted named can lacks room)

  -- and without the file of one
  pub removed_so : (name : List ℕ) (held : Option Files) → Kept table segments held → Kept table (map.remove segments name) (without_file (file_of name) held)
  removed_so name None kept = absurd kept
  removed_so name (Some files) (texts, accepted, stands) = (texts, accepted, drop_stands files texts segments name stands)

  pub names_so : (names : List (List ℕ)) (held : Option Files) → Kept table segments held → IfSome held (λ files. AreFirstNames files names) → names ≡ map.keys segments
  names_so names None kept are = absurd kept
  names_so names (Some files) (texts, accepted, stands) are = names_all files texts segments stands names are

  -- the reply over the segments that have files
  pub reply_so : (names : List (List ℕ)) (sql : List ℕ) (reply : SqlReply) (held : Option Files) → Kept table segments held → IfSome held (λ files. AreFirstNames files names) → IfSome held (λ files. IsReply table files (each live names) sql reply)
      → sql_reply table false sql (all_rows segments) ≡ reply
  reply_so names sql reply None kept are is = absurd kept
  reply_so names sql reply (Some files) (texts, accepted, stands) are is = rows_right files texts segments stands table accepted names sql reply are is

  -- each of them has an image
  pub image_so : {A : Type 0} (names : List (List ℕ)) (at : ℕ) (held : Option Files) → Kept table segments held → IfSome held (λ files. AreFirstNames files names) → at < length names → IfSome held (λ files. HasNoImage table files (live (get_or names at []))) → A
  image_so names at None kept are lt none = absurd kept
  image_so names at (Some files) (texts, accepted, stands) are lt none =
      let (rows, has, is) = came files texts segments stands table accepted (get_or names at []) (first_have files names are at [] lt) in
      absurd (none rows has)

-- what a store keeps stays while the table and the files do
pub still_kept : (old new : SeenStore) (segments : Segments) → new.table ≡ old.table → new.depot.held ≡ old.depot.held → Keeps old segments → Keeps new segments
still_kept old new segments tables held kept = subst (Kept new.table segments) (sym held) (subst (λ table. Kept table segments old.depot.held) (sym tables) kept)

-- ---- the table

pub made_so : (texts : Texts) (table : Table) (held : Option Files) → IsAccepted texts table → IsSomeAnd held (λ files. Stands files NoTable) → Kept table map.empty (with_file table_name (table_file texts) held)
made_so texts table None accepted none = absurd none
made_so texts table (Some files) accepted none = (texts, accepted, create_stands files texts table none accepted)

module _ (texts : Texts) (segments : Segments) where
  pub opened_so : (table : Table) (held : Option Files) → OfFile held table_name (λ bytes. IsTableFile bytes table) → IsSomeAnd held (λ files. Stands files (HasTable texts segments)) → Kept table segments held
  opened_so table None is stands = absurd stands
  opened_so table (Some files) is stands = (texts, table_stands files texts segments table stands is, stands)

  pub lacking_so : {A : Type 0} (held : Option Files) → Lacks held table_name → IsSomeAnd held (λ files. Stands files (HasTable texts segments)) → A
  lacking_so None lacks stands = absurd stands
  lacking_so (Some files) lacks stands = one_there files texts segments stands lacks

  pub wrong_so : {A : Type 0} (held : Option Files) → OfFile held table_name IsNoTableFile → IsSomeAnd held (λ files. Stands files (HasTable texts segments)) → A
  wrong_so None wrong stands = absurd stands
  wrong_so (Some files) wrong stands = table_right files texts segments stands wrong
