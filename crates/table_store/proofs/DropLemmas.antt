-- A segment is dropped.
use Rattle.std.proofs.Common.{◌≡◌, ◌≢◌, ◌∙◌, ◌≤◌, ◌-◌, ℕ, Bool, true, false, List, Option, Some, None, cond, inl, inr, sym, ap, subst, arith}
use Rattle.std.specs.Prelude.{option_map}
use Rattle.std.specs.FinMap as map
use Rattle.std.specs.Cmp.{eq_by_cmp_equiv}
use Rattle.std.specs.Ordering.{eq_by_cmp}
use Rattle.std.proofs.lemmas.Cmp.{nat_list_cmp_total}
use Rattle.outside.specs.Files.{Files, Lacks, name_order, without_file}
use Rattle.table_schema.specs.declared.table.Table as schema
use Rattle.segment_file.specs.Names.{file_of}
use Rattle.table_store.specs.State.{Segment, Segments, Texts}
use Rattle.table_store.specs.Stands.{DropStands, stored_file, stored_segment, segment_file}
use Rattle.table_store.specs.Kept.{IsKeptName}
use Rattle.table_store.specs.Segments.{HasSegment, most_segments, stem}
use Rattle.table_store.specs.TableFile.{table_file, table_name}
use Rattle.table_store.proofs.FilesLemmas.{other_name}
use Rattle.table_store.proofs.NameLemmas.{is_name}
use Rattle.table_store.proofs.SegmentLemmas.{file_kept}

-- ---- maps by names

pub got_none : {X : Type 0} (m : map.FinMap name_order X) (name : List ℕ) → map.get (map.remove m name) name ≡ None
got_none m name = map.get-remove nat_list_cmp_total m name name ∙ ap (λ b. cond b None (map.get m name)) ((eq_by_cmp_equiv nat_list_cmp_total).refl name)

pub got_left : {X : Type 0} (m : map.FinMap name_order X) (name q : List ℕ) → q ≢ name → map.get (map.remove m name) q ≡ map.get m q
got_left m name q other = map.get-remove nat_list_cmp_total m name q ∙ ap (λ b. cond b None (map.get m q)) (other_name q name other)

no_more : (there : Bool) (n most : ℕ) → n ≤ most → cond there (n - 1) n ≤ most
no_more true n most le = omega arith
no_more false n most le = le

none_some : (segment : Segment) → None ≢ Some segment
none_some segment e = absurd cc

none_found : (bytes : List ℕ) → None ≢ Some bytes
none_found bytes e = absurd cc

-- ---- the files that are kept

-- the files of other names are kept as before, where a segment is dropped
others_left : (table : schema.Table) (segments : Segments) (name q : List ℕ) → q ≢ file_of name → stored_segment table (map.remove segments name) q ≡ stored_segment table segments q
others_left table segments name q other =
    elim (is_name q (file_of (stem q))) [
      | inl same ↦
          let unlike : stem q ≢ name = λ e. other (same ∙ ap file_of e) in
          ap (λ o. cond (eq_by_cmp name_order q (file_of (stem q))) (option_map (segment_file table (stem q)) o) None) (got_left segments name (stem q) unlike)
      | inr apart ↦
          let none : eq_by_cmp name_order q (file_of (stem q)) ≡ false = other_name q (file_of (stem q)) apart in
          ap (λ b. cond b (option_map (segment_file table (stem q)) (map.get (map.remove segments name) (stem q))) None) none
          ∙ sym (ap (λ b. cond b (option_map (segment_file table (stem q)) (map.get segments (stem q))) None) none)
    ]

module _ (files : Files) (table : schema.Table) (texts : Texts) (segments : Segments) (name : List ℕ) (stored : (q : List ℕ) → ¬ IsKeptName q → map.get files q ≡ stored_file table texts segments q) where
  stored-here : map.get (map.remove files (file_of name)) (file_of name) ≡ stored_file table texts (map.remove segments name) (file_of name)
  stored-here = got_none files (file_of name) ∙ sym (file_kept table texts (map.remove segments name) name ∙ ap (option_map (segment_file table name)) (got_none segments name))

  stored-there : (q : List ℕ) → ¬ IsKeptName q → q ≢ file_of name → map.get (map.remove files (file_of name)) q ≡ stored_file table texts (map.remove segments name) q
  stored-there q live other =
      got_left files (file_of name) q other
      ∙ stored q live
      ∙ ap (λ o. cond (eq_by_cmp name_order q table_name) (Some (table_file texts)) o) (sym (others_left table segments name q other))

  stored-is : (q : List ℕ) → ¬ IsKeptName q → map.get (map.remove files (file_of name)) q ≡ stored_file table texts (map.remove segments name) q
  stored-is q live = elim (is_name q (file_of name)) [
    | inl same ↦ subst (λ n. map.get (map.remove files (file_of name)) n ≡ stored_file table texts (map.remove segments name) n) (sym same) stored-here
    | inr other ↦ stored-there q live other
  ]

-- a segment that is left was there before
was_there : (segments : Segments) (name q : List ℕ) (s : Segment) → map.get (map.remove segments name) q ≡ Some s → map.get segments q ≡ Some s
was_there segments name q s got = elim (is_name q name) [
  | inl same ↦ absurd (none_some s (sym (got_none segments name) ∙ ap (map.get (map.remove segments name)) (sym same) ∙ got))
  | inr other ↦ sym (got_left segments name q other) ∙ got
]

pub drop_stands : DropStands
drop_stands files texts segments name stands = record {
  table = stands.table;
  valid = record {
    accepted = stands.valid.accepted;
    at_most = subst (λ n. n ≤ most_segments) (sym (map.len-remove nat_list_cmp_total segments name)) (no_more (map.contains_key segments name) (map.len segments) most_segments stands.valid.at_most);
    named = λ q s got. stands.valid.named q s (was_there segments name q s got);
    each = λ q s got. stands.valid.each q s (was_there segments name q s got);
  };
  stored = stored-is files stands.table texts segments name stands.stored;
}

-- ---- a file is taken away

-- one that is gone already counts as taken away
pub gone_already : (name : List ℕ) (held now : Option Files) → HasSegment held name → Lacks held (file_of name) → now ≡ held → now ≡ without_file (file_of name) held
gone_already name None now has lacks is = is
gone_already name (Some files) now (bytes, got) lacks is = absurd (none_found bytes (sym lacks ∙ got))
