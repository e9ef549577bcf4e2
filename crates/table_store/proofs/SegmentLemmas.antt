-- The files of segments, by their names.
use Rattle.std.proofs.Common.{◌≡◌, ◌≢◌, ◌∙◌, ◌<◌, ◌≤◌, ◌+◌, ℕ, Bool, true, false, List, ◌++◌, length, get_or, Option, Some, None, cond, inl, inr, refl, sym, ap, subst, arith}
use Rattle.std.specs.Prelude.{codes, if◌then◌else◌, is_some, option_map}
use Rattle.std.specs.FinMap as map
use Rattle.std.specs.Cmp.{eq_by_cmp_equiv}
use Rattle.std.specs.Ordering.{eq_by_cmp}
use Rattle.std.proofs.lemmas.Cmp.{nat_list_cmp_total}
use Rattle.std.proofs.lemmas.List.{get_or-append-add, length-append}
use Rattle.outside.specs.Files.{Files, name_order}
use Rattle.values.specs.declared.value.Value.{Value}
use Rattle.table_schema.specs.declared.table.Table as schema
use Rattle.table_schema.specs.ValidTable.{IsValidTable}
use Rattle.segment_file.specs.Image.{CanHold, file_of_rows, image}
use Rattle.segment_file.specs.Names.{IsSegmentName, file_of}
use Rattle.segment_file.proofs.ImageTells.{images_tell}
use Rattle.table_store.specs.State.{Segment, Segments, Texts}
use Rattle.table_store.specs.Stands.{IsSegment, IsTable, StandsFor, stored_file, stored_segment, segment_file, segment_of}
use Rattle.table_store.specs.Kept.{IsKeptName}
use Rattle.table_store.specs.Segments.{most_segments, stem}
use Rattle.table_store.specs.Accepted.{IsAccepted}
use Rattle.table_store.specs.TableFile.{table_file, table_name}
use Rattle.table_store.proofs.AcceptedLemmas.{one_table}
use Rattle.table_store.proofs.FilesLemmas.{other_name}
use Rattle.table_store.proofs.NameLemmas.{is_name, stem_back}

-- the table's file is no segment's
pub not_table : (name : List ℕ) → file_of name ≢ table_name
not_table name e =
    let one : length name + 0 ≡ 1 = omega (arith, ap length e, length-append name (codes ".seg")) in
    let dot : get_or (name ++ codes ".seg") (length name + 0) 0 ≡ 46 = get_or-append-add name (codes ".seg") 0 0 in
    let before : ℕ = 46 in
    let after : ℕ = 97 in
    let same : before ≡ after = sym dot ∙ ap (λ n. get_or (name ++ codes ".seg") n 0) one ∙ ap (λ bytes. get_or bytes 1 0) e in
    absurd (omega arith)

-- ---- maps by names

got_put : {X : Type 0} (m : map.FinMap name_order X) (name : List ℕ) (x : X) → map.get (map.insert m name x) name ≡ Some x
got_put m name x = map.get-insert nat_list_cmp_total m name x name ∙ ap (λ b. cond b (Some x) (map.get m name)) ((eq_by_cmp_equiv nat_list_cmp_total).refl name)

pub got_other : {X : Type 0} (m : map.FinMap name_order X) (name : List ℕ) (x : X) (q : List ℕ) → q ≢ name → map.get (map.insert m name x) q ≡ map.get m q
got_other m name x q other = map.get-insert nat_list_cmp_total m name x q ∙ ap (λ b. cond b (Some x) (map.get m q)) (other_name q name other)

-- ---- the files that are kept

segment_kept : (table : schema.Table) (segments : Segments) (name : List ℕ) → stored_segment table segments (file_of name) ≡ option_map (segment_file table name) (map.get segments name)
segment_kept table segments name =
    ap (λ n. if eq_by_cmp name_order (file_of name) (file_of n) then option_map (segment_file table n) (map.get segments n) else None) (stem_back name)
    ∙ ap (λ b. cond b (option_map (segment_file table name) (map.get segments name)) None) ((eq_by_cmp_equiv nat_list_cmp_total).refl (file_of name))

pub file_kept : (table : schema.Table) (texts : Texts) (segments : Segments) (name : List ℕ) → stored_file table texts segments (file_of name) ≡ option_map (segment_file table name) (map.get segments name)
file_kept table texts segments name =
    ap (λ b. cond b (Some (table_file texts)) (stored_segment table segments (file_of name))) (other_name (file_of name) table_name (not_table name)) ∙ segment_kept table segments name

cond_none : {X : Type 0} (b : Bool) → cond {A = Option X} b None None ≡ None
cond_none true = refl
cond_none false = refl

pub none_kept : (table : schema.Table) (name : List ℕ) → stored_segment table map.empty name ≡ None
none_kept table name =
    ap (λ o. cond (eq_by_cmp name_order name (file_of (stem name))) (option_map (segment_file table (stem name)) o) None) (map.get-empty name_order (stem name))
    ∙ cond_none (eq_by_cmp name_order name (file_of (stem name)))

-- the files of other names are kept as before, where a segment is put
others_kept : (table : schema.Table) (segments : Segments) (name : List ℕ) (segment : Segment) (q : List ℕ) → q ≢ file_of name → stored_segment table (map.insert segments name segment) q ≡ stored_segment table segments q
others_kept table segments name segment q other =
    elim (is_name q (file_of (stem q))) [
      | inl same ↦
          let unlike : stem q ≢ name = λ e. other (same ∙ ap file_of e) in
          ap (λ o. cond (eq_by_cmp name_order q (file_of (stem q))) (option_map (segment_file table (stem q)) o) None) (got_other segments name segment (stem q) unlike)
      | inr apart ↦
          let none : eq_by_cmp name_order q (file_of (stem q)) ≡ false = other_name q (file_of (stem q)) apart in
          ap (λ b. cond b (option_map (segment_file table (stem q)) (map.get (map.insert segments name segment) (stem q))) None) none
          ∙ sym (ap (λ b. cond b (option_map (segment_file table (stem q)) (map.get segments (stem q))) None) none)
    ]

-- ---- one file, one segment

segment_tells : (table : schema.Table) (name : List ℕ) (s t : Segment) → IsValidTable table → IsSegmentName name → IsSegment table s → IsSegment table t → segment_file table name s ≡ segment_file table name t → s ≡ t
segment_tells table name s t valid named is it e =
    let images : image s.format table name is.came ≡ image t.format table name it.came = ap (file_of_rows s.format table name) (sym is.in_order) ∙ e ∙ ap (file_of_rows t.format table name) it.in_order in
    let both = images_tell table name is.came it.came s.format t.format valid named is.can it.can (omega (arith, is.format_is)) (omega (arith, it.format_is)) images in
    let rows : s.rows ≡ t.rows = is.in_order ∙ both.1 ∙ sym it.in_order in
    (λ i. record { format = both.0 i; rows = rows i })

pub one_segment : (table : schema.Table) (name : List ℕ) (x y : Option Segment) → IsValidTable table → ((s : Segment) → x ≡ Some s → IsSegmentName name × IsSegment table s) → ((t : Segment) → y ≡ Some t → IsSegment table t)
    → option_map (segment_file table name) x ≡ option_map (segment_file table name) y → x ≡ y
one_segment table name None None valid first second e = refl
one_segment table name None (Some t) valid first second e = absurd cc
one_segment table name (Some s) None valid first second e = absurd cc
one_segment table name (Some s) (Some t) valid first second e =
    let (named, is) = first s refl in
    let same : segment_file table name s ≡ segment_file table name t = cc in
    ap Some (segment_tells table name s t valid named is (second t refl) same)

-- ---- a segment is put in

module _ (files : Files) (texts : Texts) (segments : Segments) (read : schema.Table) (name : List ℕ) (rows : List (List Value)) (stands : StandsFor files texts segments) (accepted : IsAccepted texts read) (named : IsSegmentName name) (can : CanHold read rows) where
  tables : stands.table ≡ read
  tables = one_table texts stands.table read stands.valid.accepted accepted

  valid-is : IsTable read texts segments
  valid-is = subst (λ t. IsTable t texts segments) tables stands.valid

  stored-is : (q : List ℕ) → ¬ IsKeptName q → map.get files q ≡ stored_file read texts segments q
  stored-is = subst (λ t. (q : List ℕ) → ¬ IsKeptName q → map.get files q ≡ stored_file t texts segments q) tables stands.stored

  stored-here : map.get (map.insert files (file_of name) (image 1 read name rows)) (file_of name) ≡ stored_file read texts (map.insert segments name (segment_of read rows)) (file_of name)
  stored-here =
      got_put files (file_of name) (image 1 read name rows)
      ∙ sym (file_kept read texts (map.insert segments name (segment_of read rows)) name ∙ ap (option_map (segment_file read name)) (got_put segments name (segment_of read rows)))

  stored-there : (q : List ℕ) → ¬ IsKeptName q → q ≢ file_of name → map.get (map.insert files (file_of name) (image 1 read name rows)) q ≡ stored_file read texts (map.insert segments name (segment_of read rows)) q
  stored-there q live other =
      got_other files (file_of name) (image 1 read name rows) q other
      ∙ stored-is q live
      ∙ ap (λ o. cond (eq_by_cmp name_order q table_name) (Some (table_file texts)) o) (sym (others_kept read segments name (segment_of read rows) q other))

  each-is : (q : List ℕ) (s : Segment) → map.get (map.insert segments name (segment_of read rows)) q ≡ Some s → IsSegmentName q × IsSegment read s
  each-is q s got =
      elim (is_name q name) [
        | inl same ↦
            let here : Some (segment_of read rows) ≡ Some s = sym (got_put segments name (segment_of read rows)) ∙ ap (map.get (map.insert segments name (segment_of read rows))) (sym same) ∙ got in
            let is : segment_of read rows ≡ s = cc in
            (subst IsSegmentName (sym same) named, subst (IsSegment read) is (record { format_is = refl; came = rows; can = can; in_order = refl }))
        | inr other ↦
            let there : map.get segments q ≡ Some s = sym (got_other segments name (segment_of read rows) q other) ∙ got in
            (valid-is.named q s there, valid-is.each q s there)
      ]

  -- under a name that no segment has, or in the place of one
  pub put_stands : map.len (map.insert segments name (segment_of read rows)) ≤ most_segments → StandsFor (map.insert files (file_of name) (image 1 read name rows)) texts (map.insert segments name (segment_of read rows))
  put_stands at_most = record {
    table = read;
    valid = record {
      accepted = accepted;
      at_most = at_most;
      named = λ q s got. (each-is q s got).0;
      each = λ q s got. (each-is q s got).1;
    };
    stored = λ q live. elim (is_name q (file_of name)) [
      | inl same ↦ subst (λ n. map.get (map.insert files (file_of name) (image 1 read name rows)) n ≡ stored_file read texts (map.insert segments name (segment_of read rows)) n) (sym same) stored-here
      | inr other ↦ stored-there q live other
    ];
  }

  len-is : (o : Option Segment) → map.get segments name ≡ o → map.len (map.insert segments name (segment_of read rows)) ≡ cond (is_some o) (map.len segments) (map.len segments + 1)
  len-is o got = map.len-insert nat_list_cmp_total segments name (segment_of read rows) ∙ ap (λ o. cond (is_some o) (map.len segments) (map.len segments + 1)) got

  pub one_more : map.len segments < most_segments → map.get segments name ≡ None → StandsFor (map.insert files (file_of name) (image 1 read name rows)) texts (map.insert segments name (segment_of read rows))
  one_more at_most none = put_stands (omega (arith, at_most, len-is None none))

  pub in_place : (was : Segment) → map.get segments name ≡ Some was → StandsFor (map.insert files (file_of name) (image 1 read name rows)) texts (map.insert segments name (segment_of read rows))
  in_place was there = put_stands (omega (arith, valid-is.at_most, len-is (Some was) there))
