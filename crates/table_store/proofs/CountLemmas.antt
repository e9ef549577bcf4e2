-- How many segments a standing store has.
use Rattle.std.proofs.Common.{◌≡◌, ◌∙◌, ℕ, true, ◌&&◌, List, Option, Some, None, refl, sym, ap}
use Rattle.std.specs.Prelude.{is_some, option_map}
use Rattle.std.proofs.lemmas.List.{length-map}
use Rattle.std.proofs.lemmas.Map.Keys.{IsDistinct-from_sorted}
use Rattle.std.proofs.lemmas.Map.Made.{length-from_same_keys}
use Rattle.std.proofs.lemmas.Cmp.{nat_list_cmp_total}
use Rattle.std.specs.FinMap as tree
use Rattle.std.specs.Cmp.{eq_by_cmp_equiv}
use Rattle.std.specs.List.{IsDistinct, list_any}
use Rattle.outside.specs.Files.{Files, name_order}
use Rattle.table_schema.specs.declared.table.Table as schema
use Rattle.segment_file.specs.Names.{IsSegmentName, file_of, is_segment_name}
use Rattle.table_store.specs.Segments.{has_segment}
use Rattle.table_store.specs.State.{Segment, Segments, Texts}
use Rattle.table_store.proofs.NameLemmas.{and_false, entries_apart, same}
use Rattle.table_store.specs.Stands.{IsTable, NamesCount, StandsFor, segment_file}
use Rattle.table_store.proofs.KeptLemmas.{live_name}
use Rattle.table_store.proofs.SegmentLemmas.{file_kept}

some_mapped : {A B : Type 0} (f : A → B) (o : Option A) → is_some (option_map f o) ≡ is_some o
some_mapped f None = refl
some_mapped f (Some x) = refl

named_true : (name : List ℕ) → IsSegmentName name → is_segment_name name ≡ true
named_true name is = (λ i. (is.some i && is.at_most i) && is.each i)

-- a segment has a file exactly where the state has it
has_by : (table : schema.Table) (texts : Texts) (segments : Segments) (name : List ℕ) → IsTable table texts segments → (o : Option Segment) → tree.get segments name ≡ o → (is_segment_name name && is_some o) ≡ is_some o
has_by table texts segments name valid None got = and_false (is_segment_name name)
has_by table texts segments name valid (Some segment) got = ap (λ b. b && true) (named_true name (valid.named name segment got))

has_kept : (files : Files) (texts : Texts) (segments : Segments) (name : List ℕ) → StandsFor files texts segments → has_segment files name ≡ is_some (tree.get segments name)
has_kept files texts segments name stands =
    ap (λ o. is_segment_name name && is_some o) (stands.stored (file_of name) (live_name name) ∙ file_kept stands.table texts segments name)
    ∙ ap (λ b. is_segment_name name && b) (some_mapped (segment_file stands.table name) (tree.get segments name))
    ∙ has_by stands.table texts segments name stands.valid (tree.get segments name) refl

-- files that stand for a state have as many names of segments as it has segments
pub names_count : NamesCount
names_count files texts segments all stands are =
    let keys : List (List ℕ) = tree.keys segments in
    let mine : IsDistinct same all = IsDistinct-from_sorted name_order all are.ascend in
    let theirs : IsDistinct same keys = entries_apart (tree.entries segments) (tree.entries_sorted segments) in
    let members : (q : List ℕ) → list_any (same q) all ≡ list_any (same q) keys = λ q. are.those q ∙ has_kept files texts segments q stands ∙ tree.contains_key-keys segments q in
    length-from_same_keys (eq_by_cmp_equiv nat_list_cmp_total) all keys mine theirs members ∙ length-map (tree.entries segments) (λ e. e.0) ∙ sym (tree.len-entries segments)
