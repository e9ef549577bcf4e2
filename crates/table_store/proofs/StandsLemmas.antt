-- Files stand for at most one state.
use Rattle.std.proofs.Common.{◌≡◌, ◌∙◌, ℕ, List, Some, None, cond, refl, sym, ap, subst, arith}
use Rattle.std.specs.FinMap as map
use Rattle.std.specs.Ordering.{eq_by_cmp}
use Rattle.std.specs.Cmp.{eq_by_cmp_equiv}
use Rattle.std.proofs.lemmas.Cmp.{nat_list_cmp_total}
use Rattle.outside.specs.Files.{Files, Has, Lacks, OfFile, name_order}
use Rattle.table_schema.specs.declared.table.Table as schema
use Rattle.segment_file.specs.Names.{file_of}
use Rattle.table_store.specs.State.{Segment, Segments, State, NoTable, HasTable, Texts}
use Rattle.table_store.specs.Stands.{IsSegment, SegmentStands, Stands, StandsFor, stored_file, stored_segment}
use Rattle.table_store.specs.Accepted.{IsAccepted, IsTableFile}
use Rattle.table_store.specs.TableFile.{table_file, table_name}
use Rattle.table_store.proofs.AcceptedLemmas.{accepted_valid, one_table}
use Rattle.table_store.specs.Kept.{IsKeptName}
use Rattle.table_store.proofs.FilesLemmas.{same_name}
use Rattle.table_store.proofs.KeptLemmas.{live_name, table_live}
use Rattle.table_store.proofs.SegmentLemmas.{file_kept, none_kept, one_more, one_segment}
use Rattle.table_store.proofs.TableFileLemmas.{same_table}

same_bytes : (x y : List ℕ) → Some x ≡ Some y → x ≡ y
same_bytes x y e = cc

-- the file that the table of a state has
table_kept : (table : schema.Table) (texts : Texts) (segments : Segments) → stored_file table texts segments table_name ≡ Some (table_file texts)
table_kept table texts segments = ap (λ b. cond b (Some (table_file texts)) (stored_segment table segments table_name)) ((eq_by_cmp_equiv nat_list_cmp_total).refl table_name)

-- where files stand for a table, its file is there
pub table_there : (files : Files) (texts : Texts) (segments : Segments) → Stands files (HasTable texts segments) → map.get files table_name ≡ Some (table_file texts)
table_there files texts segments stands = stands.stored table_name table_live ∙ table_kept stands.table texts segments

pub none_there : {A : Type 0} (files : Files) → Stands files NoTable → Has (Some files) table_name → A
none_there files stands (bytes, got) = let e : Some bytes ≡ None = sym got ∙ stands table_name in cc

pub one_there : {A : Type 0} (files : Files) (texts : Texts) (segments : Segments) → Stands files (HasTable texts segments) → Lacks (Some files) table_name → A
one_there files texts segments stands lacks = let e : Some (table_file texts) ≡ None = sym (table_there files texts segments stands) ∙ lacks in cc

-- the segments of one table, of which files are told
one_map : (files : Files) (s t : Texts) (m n : Segments) (a : StandsFor files s m) (b : StandsFor files t n) → b.table ≡ a.table → m ≡ n
one_map files s t m n a b tables =
    let table : schema.Table = a.table in
    let theirs : (q : List ℕ) → ¬ IsKeptName q → map.get files q ≡ stored_file table t n q = subst (λ x. (q : List ℕ) → ¬ IsKeptName q → map.get files q ≡ stored_file x t n q) tables b.stored in
    let each = subst (λ x. (q : List ℕ) (segment : Segment) → map.get n q ≡ Some segment → IsSegment x segment) tables b.valid.each in
    map.same_map nat_list_cmp_total same_name m n
    (λ q. one_segment table q (map.get m q) (map.get n q) (accepted_valid s table a.valid.accepted) (λ x got. (a.valid.named q x got, a.valid.each q x got)) (λ x got. each q x got)
    (sym (file_kept table s m q) ∙ sym (a.stored (file_of q) (live_name q)) ∙ theirs (file_of q) (live_name q) ∙ file_kept table t n q))

two_tables : (files : Files) (s t : Texts) (m n : Segments) → Stands files (HasTable s m) → Stands files (HasTable t n) → HasTable s m ≡ HasTable t n
two_tables files s t m n a b =
    let texts : s ≡ t = same_table s t a.valid.accepted.fits b.valid.accepted.fits (same_bytes (table_file s) (table_file t) (sym (table_there files s m a) ∙ table_there files t n b)) in
    let tables : b.table ≡ a.table = one_table s b.table a.table (subst (λ x. IsAccepted x b.table) (sym texts) b.valid.accepted) a.valid.accepted in
    let segments : m ≡ n = one_map files s t m n a b tables in
    (λ i. HasTable (texts i) (segments i))

pub one_state : (files : Files) (a b : State) → Stands files a → Stands files b → a ≡ b
one_state files NoTable NoTable x y = refl
one_state files NoTable (HasTable t n) x y = one_there files t n y (x table_name)
one_state files (HasTable s m) NoTable x y = one_there files s m x (y table_name)
one_state files (HasTable s m) (HasTable t n) x y = two_tables files s t m n x y

no_segment : {A : Type 0} (q : List ℕ) (segment : Segment) → map.get (map.empty {X = Segment} {R = name_order}) q ≡ Some segment → A
no_segment q segment got = let e : None ≡ Some segment = sym (map.get-empty name_order q) ∙ got in cc

-- the table that was made is the only file
pub create_stands : (files : Files) (texts : Texts) (read : schema.Table) → Stands files NoTable → IsAccepted texts read → Stands (map.insert files table_name (table_file texts)) (HasTable texts map.empty)
create_stands files texts read none accepted = record {
  table = read;
  valid = record { accepted = accepted; at_most = omega (arith, map.len-empty name_order Segment); named = λ q segment got. no_segment q segment got; each = λ q segment got. no_segment q segment got };
  stored = λ name live.
      map.get-insert nat_list_cmp_total files table_name (table_file texts) name
      ∙ ap (λ old. cond (eq_by_cmp name_order name table_name) (Some (table_file texts)) old) (none name ∙ sym (none_kept read name));
}

pub segment_stands : SegmentStands
segment_stands files texts segments read name rows stands accepted named can at_most none = one_more files texts segments read name rows stands accepted named can at_most none

pub table_stands : (files : Files) (texts : Texts) (segments : Segments) (read : schema.Table) → Stands files (HasTable texts segments) → OfFile (Some files) table_name (λ bytes. IsTableFile bytes read) → IsAccepted texts read
table_stands files texts segments read stands (bytes, got, file) =
    let same : texts ≡ file.texts = same_table texts file.texts stands.valid.accepted.fits file.accepted.fits (same_bytes (table_file texts) (table_file file.texts) (sym (table_there files texts segments stands) ∙ got ∙ ap Some file.spelled)) in
    subst (λ t. IsAccepted t read) (sym same) file.accepted
