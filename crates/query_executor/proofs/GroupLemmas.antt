-- The groups of a query over the rows of segments, one segment after the other.
use Rattle.std.proofs.Common.{◌≡◌, ◌∙◌, ◌+◌, ◌<◌, ◌++◌, ℕ, List, [], ◌∷◌, length, take, drop, get_or, Option, Some, None, IfSome, sym, ap, subst, arith, append-nil, add-one}
use Rattle.std.specs.List.{flat_map}
use Rattle.std.proofs.Math.Seq.{take-suc}
use Rattle.std.proofs.lemmas.Grind.{flat_map-append}
use Rattle.std.proofs.lemmas.List.{take-append-drop}
use Rattle.std.proofs.lemmas.List.Elements.{filter-append}
use Rattle.std.proofs.lemmas.Slice.Zip.{AllZip-long}
use Rattle.outside.specs.Files.{Files}
use Rattle.values.specs.declared.value.Value.{Value}
use Rattle.table_schema.specs.Conditions.{all_hold}
use Rattle.table_schema.specs.declared.query.BoundQuery.{BoundQuery}
use Rattle.table_schema.specs.declared.table.Table.{Table}
use Rattle.group_table.specs.Groups.{Adds}
use Rattle.group_table.specs.Kept.{KeptGroups, groups_in}
use Rattle.group_table.specs.Shape.{shape_of}
use Rattle.group_table.proofs.GroupsLemmas.{joined, none}
use Rattle.scan_engine.specs.Scanned.{IsOverfull, selected}
use Rattle.scan_engine.proofs.AddLemmas.{overfull_more, overfull_past}
use Rattle.segment_file.specs.Ordered.{ordered}
use Rattle.segment_head.specs.Stored.{HasImage, live, segment_at, stored_rows}
use Rattle.query_executor.specs.Steps.{AddsFirst, AddsGroups, AddsStored, AreOverfull, IsStoredOverfull, selected_in}
use Rattle.segment_reads.proofs.GrownLemmas.{zip_at}
use Rattle.segment_head.specs.declared.stored.Stored.{Stored}

module _ (query : BoundQuery) (table : Table) where
  abbrev here : List (List Value) → List (List Value)
  here = ordered table.settings.sorted

  both_selected : (xs ys : List (List Value)) → selected query xs ++ selected query ys ≡ selected query (xs ++ ys)
  both_selected xs ys = sym (filter-append (λ row. all_hold row query.conjuncts) xs ys)

  -- the rows of one segment more
  stored_more : (segments : List (List (List Value))) (k : ℕ) → k < length segments → stored_rows table (take k segments) ++ here (get_or segments k []) ≡ stored_rows table (take (k + 1) segments)
  stored_more segments k lt =
      let one : flat_map here (get_or segments k [] ∷ []) ≡ here (get_or segments k []) = append-nil (here (get_or segments k [])) in
      ap (λ l. stored_rows table (take k segments) ++ l) (sym one)
      ∙ sym (flat_map-append here (take k segments) (get_or segments k [] ∷ []))
      ∙ ap (flat_map here) (sym (take-suc segments k [] lt))
      ∙ ap (λ n. stored_rows table (take n segments)) (sym (add-one k))

  stored_rest : (segments : List (List (List Value))) (k : ℕ) → stored_rows table (take k segments) ++ stored_rows table (drop k segments) ≡ stored_rows table segments
  stored_rest segments k = sym (flat_map-append here (take k segments) (drop k segments)) ∙ ap (stored_rows table) (take-append-drop k segments)

  selected_more : (segments : List (List (List Value))) (k : ℕ) → k < length segments
      → selected query (stored_rows table (take k segments)) ++ selected_in query table (get_or segments k []) ≡ selected query (stored_rows table (take (k + 1) segments))
  selected_more segments k lt = both_selected (stored_rows table (take k segments)) (here (get_or segments k [])) ∙ ap (selected query) (stored_more segments k lt)

  module _ (stored : List Stored) where
    -- of no segment nothing is added
    pub none_first : (held : Option Files) (groups : KeptGroups) → AddsFirst query table held stored 0 groups groups
    none_first None groups = tt
    none_first (Some files) groups = λ segments all. none (shape_of query) (groups_in groups)

    pub one_more : (held : Option Files) (k : ℕ) (first old new : KeptGroups) → k < length stored → AddsFirst query table held stored k first old → AddsStored query table held (segment_at stored k) old new → AddsFirst query table held stored (k + 1) first new
    one_more held k first old new lt so a = by held so a.told
      where
        by : (h : Option Files) → AddsFirst query table h stored k first old → IfSome h (λ files. (rows : List (List Value)) → HasImage table files (segment_at stored k) rows → AddsGroups query (selected_in query table rows) old new)
            → AddsFirst query table h stored (k + 1) first new
        by None so told = tt
        by (Some files) so told = λ segments all.
            let at_most : k < length segments = omega (arith, lt, AllZip-long (HasImage table files) stored segments all) in
            let adds = told (get_or segments k []) (zip_at (HasImage table files) stored segments k (live []) [] all lt) in
            let before : List (List Value) = selected query (stored_rows table (take k segments)) in
            let now : List (List Value) = selected_in query table (get_or segments k []) in
            subst (λ l. Adds (shape_of query) l (groups_in first) (groups_in new)) (selected_more segments k at_most)
            (joined (shape_of query) before now (groups_in first) (groups_in old) (groups_in new) (so segments all) adds)

    pub too_many : (held : Option Files) (k : ℕ) (first old : KeptGroups) → k < length stored → old.most ≡ first.most → AddsFirst query table held stored k first old → IsStoredOverfull query table held (segment_at stored k) old
        → AreOverfull query table held stored first
    too_many None k first old lt most so over = tt
    too_many (Some files) k first old lt most so over = λ segments all.
        let at_most : k < length segments = omega (arith, lt, AllZip-long (HasImage table files) stored segments all) in
        let before : List (List Value) = selected query (stored_rows table (take k segments)) in
        let now : List (List Value) = selected_in query table (get_or segments k []) in
        let rest : List (List Value) = selected query (stored_rows table (drop (k + 1) segments)) in
        let full : IsOverfull query now old = over (get_or segments k []) (zip_at (HasImage table files) stored segments k (live []) [] all lt) in
        let rows : (before ++ now) ++ rest ≡ selected query (stored_rows table segments) =
        ap (λ l. l ++ rest) (selected_more segments k at_most)
        ∙ both_selected (stored_rows table (take (k + 1) segments)) (stored_rows table (drop (k + 1) segments))
        ∙ ap (selected query) (stored_rest segments (k + 1)) in
        subst (λ l. IsOverfull query l first) rows
        (overfull_more query (before ++ now) rest first (overfull_past query before now first old (so segments all) most full))
