use Rattle.std.proofs.Common.{◌≡◌, ◌≢◌, ◌∙◌, ◌≤◌, ◌+◌, ℕ, Bool, true, false, All, List, Some, [], length, map, get_or, drop, take, ap, sym, subst}
use Rattle.std.proofs.lemmas.Bool.{false≢true}
use Rattle.std.proofs.lemmas.List.{length-map}
use Rattle.std.specs.Bool.{MatchBool}
use Rattle.segment_file.specs.declared.part.Part.TheVariants as parts
use Rattle.segment_file.specs.declared.section.Section.{Section}
use Rattle.segment_file.specs.Bounds.{bounds_bytes, bounds_of}
use Rattle.segment_file.specs.Front.{extents_of, head_end}
use Rattle.segment_head.specs.Heads.{IsHead, IsPlaced, placed}
use Rattle.segment_file.specs.Reading.{trees_said, AreRead, FitsSize, SizeFails}
use Rattle.segment_file.specs.Parts.{columns_of}
use Rattle.segment_head.specs.Reading.{NodesStop, heads_read}
use Rattle.segment_file.specs.Rules.{AreSpelled, FailsAt, HasFront, HaveNodes, raw_extents}
use Rattle.segment_head.proofs.HeadLemmas.{head_first}
use Rattle.segment_file.proofs.Faults.{growth_bad, growth_ok, growth_read, no_read, read_handed, same_part, well_read}
use Rattle.segment_head.proofs.Composed.{all_hold, bounds_fail, dictionary_fails, few_parts, made_count, made_fields, made_heads, made_is, nodes_fail, parts_made, raw_made, short_sections, size_fails, trees_told}
use Rattle.segment_file.proofs.Tails.{spelled_length}
use Rattle.segment_file.proofs.TreeChecks.{said_count}
use Rattle.segment_head.proofs.check.check_head.Goals as goal

-- what holds of rows and sections holds of their equals
along : (P : ℕ → List Section → Type 0) (r q : ℕ) (s t : List Section) → r ≡ q → s ≡ t → P r s → P q t
along P r q s t er es p = subst (P q) es (subst (λ x. P x s) er p)

agrees : (answer : Bool) (P : Type 0) → MatchBool answer P (P → ⊥) → answer ≡ true → P
agrees true P h e = h
agrees false P h e = absurd (false≢true e)

differs : (answer : Bool) (P : Type 0) → MatchBool answer P (P → ⊥) → answer ≡ false → P → ⊥
differs true P h e p = false≢true (sym e)
differs false P h e p = h p

pub front_size-start-requires-clause-sections : goal.front_size-start-requires-clause-sections
front_size-start-requires-clause-sections c = few_parts c.args.table.now c.args.parts.now c.requires.valid c.requires.parts

pub check_dictionaries-requires-clause-each : goal.check_dictionaries-requires-clause-each
check_dictionaries-requires-clause-each c =
    let table = c.args.table.now in
    let name = c.args.name.now in
    let file = c.args.file.now in
    let front = c.args.front.now in
    let made : c.deref.result.now ≡ map (placed file) (extents_of table name front) =
    made_is table name file front c.args.parts.now c.deref.result.now c.in_ok-sections.sections.items c.front_size-start.result c.sizes.result.now c.front_size-start.ensures c.requires.parts c.sizes.ensures c.in_ok-sections.ensures c.deref.ensures.value in
    made_fields table c.deref.result.now (made_count table name file front c.args.parts.now c.deref.result.now c.requires.parts c.requires.each made)

pub returns-in-Err-clause-bad : goal.returns-in-Err-clause-bad
returns-in-Err-clause-bad c = λ p is whole has cut.
    let table = c.args.table.now in
    let name = c.args.name.now in
    let file = c.args.file.now in
    let front = c.args.front.now in
    let made : c.deref.result.now ≡ map (placed file) (extents_of table name front) =
    made_is table name file front c.args.parts.now c.deref.result.now c.in_ok-sections.sections.items c.front_size-start.result c.sizes.result.now c.front_size-start.ensures c.requires.parts c.sizes.ensures c.in_ok-sections.ensures c.deref.ensures.value in
    dictionary_fails table name file whole c.args.bytes.now front c.deref.result.now c.rows.result c.requires.valid made c.rows.ensures has cut p (c.in-Err.ensures.bad p is)

pub returns-then-not-branch-clause-bad : goal.returns-then-not-branch-clause-bad
returns-then-not-branch-clause-bad c = λ p is whole has cut.
    let table = c.args.table.now in
    let name = c.args.name.now in
    let file = c.args.file.now in
    let front = c.args.front.now in
    let made : c.deref.result.now ≡ map (placed file) (extents_of table name front) =
    made_is table name file front c.args.parts.now c.deref.result.now c.in_ok-sections.sections.items c.front_size-start.result c.sizes.result.now c.front_size-start.ensures c.requires.parts c.sizes.ensures c.in_ok-sections.ensures c.deref.ensures.value in
    let ds = c.in-Ok.dictionaries.items in
    let first = c.section_bytes.result.now in
    let zeroth : c.index.result.now ≡ get_or c.deref.result.now 0 c.index.result.now = c.index.ensures ∙ ap (λ xs. get_or xs 0 c.index.result.now) (sym c.deref.ensures.value) in
    let first_is : first ≡ get_or (heads_read table c.deref.result.now c.args.bytes.now) 0 [] = c.section_bytes.ensures ∙ sym (head_first table c.args.bytes.now c.deref.result.now c.index.result.now (made_count table name file front c.args.parts.now c.deref.result.now c.requires.parts c.requires.each made) zeroth) in
    let other : first ≢ bounds_bytes (bounds_of ds) =
    subst (λ xs. first ≢ bounds_bytes (bounds_of xs)) c.deref-2.ensures.value (differs c.in_ok-has_bounds.field-0 (first ≡ bounds_bytes (bounds_of c.deref-2.result.now)) c.in_ok-has_bounds.ensures c.if-not-branch.true) in
    let bounds_is : parts.Bounds ≡ p = same_part parts.Bounds p is in
    subst (FailsAt table name whole) bounds_is (bounds_fail table name file whole c.args.bytes.now front c.deref.result.now c.rows.result c.requires.valid made c.rows.ensures has cut ds first c.in-Ok.ensures.ok first_is other)

pub check_trees-requires-clause-each : goal.check_trees-requires-clause-each
check_trees-requires-clause-each c =
    let table = c.args.table.now in
    let name = c.args.name.now in
    let file = c.args.file.now in
    let front = c.args.front.now in
    let made : c.deref.result.now ≡ map (placed file) (extents_of table name front) =
    made_is table name file front c.args.parts.now c.deref.result.now c.in_ok-sections.sections.items c.front_size-start.result c.sizes.result.now c.front_size-start.ensures c.requires.parts c.sizes.ensures c.in_ok-sections.ensures c.deref.ensures.value in
    subst (λ (s : List Section). length table.schema.fields + 1 + length table.settings.trees ≤ length s) (c.deref.ensures.value ∙ sym c.deref-4.ensures.value) (made_count table name file front c.args.parts.now c.deref.result.now c.requires.parts c.requires.each made)

pub returns-in-Err-check_trees-clause-bad : goal.returns-in-Err-check_trees-clause-bad
returns-in-Err-check_trees-clause-bad c = λ p is whole has cut.
    let table = c.args.table.now in
    let name = c.args.name.now in
    let file = c.args.file.now in
    let front = c.args.front.now in
    let made : c.deref.result.now ≡ map (placed file) (extents_of table name front) =
    made_is table name file front c.args.parts.now c.deref.result.now c.in_ok-sections.sections.items c.front_size-start.result c.sizes.result.now c.front_size-start.ensures c.requires.parts c.sizes.ensures c.in_ok-sections.ensures c.deref.ensures.value in
    let ds = c.in-Ok.dictionaries.items in
    let first = c.section_bytes.result.now in
    let zeroth : c.index.result.now ≡ get_or c.deref.result.now 0 c.index.result.now = c.index.ensures ∙ ap (λ xs. get_or xs 0 c.index.result.now) (sym c.deref.ensures.value) in
    let first_is : first ≡ get_or (heads_read table c.deref.result.now c.args.bytes.now) 0 [] = c.section_bytes.ensures ∙ sym (head_first table c.args.bytes.now c.deref.result.now c.index.result.now (made_count table name file front c.args.parts.now c.deref.result.now c.requires.parts c.requires.each made) zeroth) in
    let same : first ≡ bounds_bytes (bounds_of ds) = agrees c.in_ok-has_bounds.field-0 (first ≡ bounds_bytes (bounds_of c.deref-2.result.now)) c.in_ok-has_bounds.ensures c.if-not-branch.false ∙ ap (λ xs. bounds_bytes (bounds_of xs)) c.deref-2.ensures.value in
    let heads = heads_read table c.deref.result.now c.args.bytes.now in
    let fourth : c.deref-4.result.now ≡ c.deref.result.now = c.deref-4.ensures.value ∙ sym c.deref.ensures.value in
    let second = c.rows-2.ensures ∙ sym c.rows.ensures in
    let stops : (t : ℕ) × (p ≡ parts.Nodes t) × NodesStop table c.rows.result heads t = along (λ r s. (t : ℕ) × (p ≡ parts.Nodes t) × NodesStop table r (heads_read table s c.args.bytes.now) t) c.rows-2.result c.rows.result c.deref-4.result.now c.deref.result.now second fourth (c.in-Err-check_trees.ensures.bad p is) in
    nodes_fail table name file whole c.args.bytes.now front c.deref.result.now c.rows.result c.requires.valid made c.rows.ensures has cut ds first c.in-Ok.ensures.ok first_is same p stops

pub sections_after-tail-requires : goal.sections_after-tail-requires
sections_after-tail-requires c =
    let table = c.args.table.now in
    let name = c.args.name.now in
    let file = c.args.file.now in
    let front = c.args.front.now in
    let made : c.deref.result.now ≡ map (placed file) (extents_of table name front) =
    made_is table name file front c.args.parts.now c.deref.result.now c.in_ok-sections.sections.items c.front_size-start.result c.sizes.result.now c.front_size-start.ensures c.requires.parts c.sizes.ensures c.in_ok-sections.ensures c.deref.ensures.value in
    made_heads table c.len.result c.len-2.result c.deref-5.result.now c.deref.result.now c.len.ensures c.len-2.ensures (c.deref-5.ensures.value ∙ sym c.deref.ensures.value) (made_count table name file front c.args.parts.now c.deref.result.now c.requires.parts c.requires.each made)

pub check_sizes-requires-clause-dictionaries : goal.check_sizes-requires-clause-dictionaries
check_sizes-requires-clause-dictionaries c =
    let table = c.args.table.now in
    ap length c.deref-6.ensures.value ∙ sym (spelled_length table c.rows.result (heads_read table c.deref.result.now c.args.bytes.now) c.in-Ok.dictionaries.items c.in-Ok.ensures.ok)

pub check_sizes-requires-clause-trees : goal.check_sizes-requires-clause-trees
check_sizes-requires-clause-trees c =
    let table = c.args.table.now in
    ap length c.deref-7.ensures.value ∙ ap length c.in-Ok-check_trees.ensures.said ∙ said_count table (heads_read table c.deref-4.result.now c.args.bytes.now)

pub check_sizes-requires-clause-parts : goal.check_sizes-requires-clause-parts
check_sizes-requires-clause-parts c =
    let table = c.args.table.now in
    let name = c.args.name.now in
    let file = c.args.file.now in
    let front = c.args.front.now in
    let made : c.deref.result.now ≡ map (placed file) (extents_of table name front) =
    made_is table name file front c.args.parts.now c.deref.result.now c.in_ok-sections.sections.items c.front_size-start.result c.sizes.result.now c.front_size-start.ensures c.requires.parts c.sizes.ensures c.in_ok-sections.ensures c.deref.ensures.value in
    let raw_is : c.sections_after-tail.result.now ≡ map (placed file) (raw_extents table name front) =
    c.sections_after-tail.ensures ∙ (λ i. drop (c.len.ensures i + 1 + c.len-2.ensures i) ((c.deref-5.ensures.value ∙ sym c.deref.ensures.value) i)) ∙ raw_made table name file front c.deref.result.now made in
    parts_made table name file front c.sections_after-tail.result.now c.requires.valid raw_is

pub returns-in-Err-check_sizes-clause-bad : goal.returns-in-Err-check_sizes-clause-bad
returns-in-Err-check_sizes-clause-bad c = λ p is whole has cut.
    let table = c.args.table.now in
    let name = c.args.name.now in
    let file = c.args.file.now in
    let front = c.args.front.now in
    let made : c.deref.result.now ≡ map (placed file) (extents_of table name front) =
    made_is table name file front c.args.parts.now c.deref.result.now c.in_ok-sections.sections.items c.front_size-start.result c.sizes.result.now c.front_size-start.ensures c.requires.parts c.sizes.ensures c.in_ok-sections.ensures c.deref.ensures.value in
    let ds = c.in-Ok.dictionaries.items in
    let first = c.section_bytes.result.now in
    let zeroth : c.index.result.now ≡ get_or c.deref.result.now 0 c.index.result.now = c.index.ensures ∙ ap (λ xs. get_or xs 0 c.index.result.now) (sym c.deref.ensures.value) in
    let first_is : first ≡ get_or (heads_read table c.deref.result.now c.args.bytes.now) 0 [] = c.section_bytes.ensures ∙ sym (head_first table c.args.bytes.now c.deref.result.now c.index.result.now (made_count table name file front c.args.parts.now c.deref.result.now c.requires.parts c.requires.each made) zeroth) in
    let same : first ≡ bounds_bytes (bounds_of ds) = agrees c.in_ok-has_bounds.field-0 (first ≡ bounds_bytes (bounds_of c.deref-2.result.now)) c.in_ok-has_bounds.ensures c.if-not-branch.false ∙ ap (λ xs. bounds_bytes (bounds_of xs)) c.deref-2.ensures.value in
    let heads = heads_read table c.deref.result.now c.args.bytes.now in
    let fourth : c.deref-4.result.now ≡ c.deref.result.now = c.deref-4.ensures.value ∙ sym c.deref.ensures.value in
    let second = c.rows-2.ensures ∙ sym c.rows.ensures in
    let have = along (λ r s. HaveNodes table r (heads_read table s c.args.bytes.now) (length table.settings.trees)) c.rows-2.result c.rows.result c.deref-4.result.now c.deref.result.now second fourth c.in-Ok-check_trees.ensures.ok in
    let said : c.in-Ok-check_trees.trees.items ≡ trees_said table heads = c.in-Ok-check_trees.ensures.said ∙ ap (λ s. trees_said table (heads_read table s c.args.bytes.now)) fourth in
    let raw_is : c.sections_after-tail.result.now ≡ map (placed file) (raw_extents table name front) =
    c.sections_after-tail.ensures ∙ (λ i. drop (c.len.ensures i + 1 + c.len-2.ensures i) ((c.deref-5.ensures.value ∙ sym c.deref.ensures.value) i)) ∙ raw_made table name file front c.deref.result.now made in
    let third = c.rows-3.ensures ∙ sym c.rows.ensures in
    let read : AreRead table c.rows-3.result heads c.deref-6.result.now c.deref-7.result.now = record {
      spelled =
          subst (λ r. AreSpelled table r heads (columns_of table) c.deref-6.result.now) (sym third)
          (subst (AreSpelled table c.rows.result heads (columns_of table)) (sym c.deref-6.ensures.value) c.in-Ok.ensures.ok);
      said = c.deref-7.ensures.value ∙ said;
    } in
    let part_is : c.in-Err-check_sizes.part ≡ p = same_part c.in-Err-check_sizes.part p is in
    let fails : SizeFails table c.rows.result heads c.sections_after-tail.result.now p =
    subst (SizeFails table c.rows.result heads c.sections_after-tail.result.now) part_is
    (subst (λ r. SizeFails table r heads c.sections_after-tail.result.now c.in-Err-check_sizes.part) third (c.in-Err-check_sizes.ensures.bad heads read)) in
    size_fails table name file whole c.args.bytes.now front c.deref.result.now c.rows.result c.requires.valid made c.rows.ensures has cut ds first c.in-Ok.ensures.ok first_is same have p c.sections_after-tail.result.now raw_is fails

pub returns-clause-ok : goal.returns-clause-ok
returns-clause-ok c = λ whole has cut.
    let table = c.args.table.now in
    let name = c.args.name.now in
    let file = c.args.file.now in
    let front = c.args.front.now in
    let made : c.deref.result.now ≡ map (placed file) (extents_of table name front) =
    made_is table name file front c.args.parts.now c.deref.result.now c.in_ok-sections.sections.items c.front_size-start.result c.sizes.result.now c.front_size-start.ensures c.requires.parts c.sizes.ensures c.in_ok-sections.ensures c.deref.ensures.value in
    let ds = c.in-Ok.dictionaries.items in
    let first = c.section_bytes.result.now in
    let zeroth : c.index.result.now ≡ get_or c.deref.result.now 0 c.index.result.now = c.index.ensures ∙ ap (λ xs. get_or xs 0 c.index.result.now) (sym c.deref.ensures.value) in
    let first_is : first ≡ get_or (heads_read table c.deref.result.now c.args.bytes.now) 0 [] = c.section_bytes.ensures ∙ sym (head_first table c.args.bytes.now c.deref.result.now c.index.result.now (made_count table name file front c.args.parts.now c.deref.result.now c.requires.parts c.requires.each made) zeroth) in
    let same : first ≡ bounds_bytes (bounds_of ds) = agrees c.in_ok-has_bounds.field-0 (first ≡ bounds_bytes (bounds_of c.deref-2.result.now)) c.in_ok-has_bounds.ensures c.if-not-branch.false ∙ ap (λ xs. bounds_bytes (bounds_of xs)) c.deref-2.ensures.value in
    let heads = heads_read table c.deref.result.now c.args.bytes.now in
    let fourth : c.deref-4.result.now ≡ c.deref.result.now = c.deref-4.ensures.value ∙ sym c.deref.ensures.value in
    let second = c.rows-2.ensures ∙ sym c.rows.ensures in
    let have = along (λ r s. HaveNodes table r (heads_read table s c.args.bytes.now) (length table.settings.trees)) c.rows-2.result c.rows.result c.deref-4.result.now c.deref.result.now second fourth c.in-Ok-check_trees.ensures.ok in
    let said : c.in-Ok-check_trees.trees.items ≡ trees_said table heads = c.in-Ok-check_trees.ensures.said ∙ ap (λ s. trees_said table (heads_read table s c.args.bytes.now)) fourth in
    let raw_is : c.sections_after-tail.result.now ≡ map (placed file) (raw_extents table name front) =
    c.sections_after-tail.ensures ∙ (λ i. drop (c.len.ensures i + 1 + c.len-2.ensures i) ((c.deref-5.ensures.value ∙ sym c.deref.ensures.value) i)) ∙ raw_made table name file front c.deref.result.now made in
    let third = c.rows-3.ensures ∙ sym c.rows.ensures in
    let read : AreRead table c.rows-3.result heads c.deref-6.result.now c.deref-7.result.now = record {
      spelled =
          subst (λ r. AreSpelled table r heads (columns_of table) c.deref-6.result.now) (sym third)
          (subst (AreSpelled table c.rows.result heads (columns_of table)) (sym c.deref-6.ensures.value) c.in-Ok.ensures.ok);
      said = c.deref-7.ensures.value ∙ said;
    } in
    let fits = subst (λ r. All (FitsSize table r heads) c.sections_after-tail.result.now) third (c.in_default.ensures.ok heads read) in
    record {
      front = front;
      dictionaries = ds;
      keeps = all_hold table name file whole c.args.bytes.now front c.deref.result.now c.rows.result c.requires.valid made c.rows.ensures has cut ds first c.in-Ok.ensures.ok first_is same have c.sections_after-tail.result.now raw_is fits;
      rows_are = ap (λ h. h.rows) c.in_ok-whole_head.ensures ∙ c.rows-4.ensures;
      sections_are = ap (λ h. h.sections) c.in_ok-whole_head.ensures ∙ sym c.deref.ensures.value ∙ made;
      dictionaries_are = ap (λ h. h.dictionaries) c.in_ok-whole_head.ensures;
      bounds_are = ap (λ h. h.bounds) c.in_ok-whole_head.ensures;
      trees_are =
          ap (λ h. h.trees) c.in_ok-whole_head.ensures
          ∙ ap (map Some) (trees_told table name file whole c.args.bytes.now front c.deref.result.now c.rows.result c.requires.valid made c.rows.ensures has cut ds first c.in-Ok.ensures.ok first_is same c.in-Ok-check_trees.trees.items said);
    }

pub returns-clause-placed : goal.returns-clause-placed
returns-clause-placed c =
    let table = c.args.table.now in
    let name = c.args.name.now in
    let file = c.args.file.now in
    let front = c.args.front.now in
    let made : c.deref.result.now ≡ map (placed file) (extents_of table name front) =
    made_is table name file front c.args.parts.now c.deref.result.now c.in_ok-sections.sections.items c.front_size-start.result c.sizes.result.now c.front_size-start.ensures c.requires.parts c.sizes.ensures c.in_ok-sections.ensures c.deref.ensures.value in
    let ds = c.in-Ok.dictionaries.items in
    record {
      rows_are = ap (λ h. h.rows) c.in_ok-whole_head.ensures ∙ c.rows-4.ensures;
      sections_are = ap (λ h. h.sections) c.in_ok-whole_head.ensures ∙ sym c.deref.ensures.value ∙ made;
      slots =
          ap (λ h. length h.dictionaries) c.in_ok-whole_head.ensures
          ∙ length-map ds Some
          ∙ sym (spelled_length table c.rows.result (heads_read table c.deref.result.now c.args.bytes.now) ds c.in-Ok.ensures.ok);
      tree_slots =
          ap (λ h. length h.trees) c.in_ok-whole_head.ensures
          ∙ length-map c.in-Ok-check_trees.trees.items Some
          ∙ ap length c.in-Ok-check_trees.ensures.said
          ∙ said_count table (heads_read table c.deref-4.result.now c.args.bytes.now);
    }

pub returns-in_err-sections : goal.returns-in_err-sections
returns-in_err-sections c =
    let table = c.args.table.now in
    let name = c.args.name.now in
    let file = c.args.file.now in
    let front = c.args.front.now in
    let r = c.from_residual in
    record {
      ok = growth_ok (λ head. (whole : List ℕ) → HasFront table name whole front → c.args.bytes.now ≡ take (head_end table name front) whole → IsHead table name file whole head) r.result r.ensures;
      placed = growth_ok (IsPlaced table name file front) r.result r.ensures;
      bad = growth_bad (λ p. (whole : List ℕ) → HasFront table name whole front → c.args.bytes.now ≡ take (head_end table name front) whole → FailsAt table name whole p) r.result r.ensures;
      read = growth_read r.result r.ensures;
    }

pub returns-in_err-has_bounds : goal.returns-in_err-has_bounds
returns-in_err-has_bounds c =
    let table = c.args.table.now in
    let name = c.args.name.now in
    let file = c.args.file.now in
    let front = c.args.front.now in
    let r = c.from_residual-in_err-has_bounds in
    record {
      ok = growth_ok (λ head. (whole : List ℕ) → HasFront table name whole front → c.args.bytes.now ≡ take (head_end table name front) whole → IsHead table name file whole head) r.result r.ensures;
      placed = growth_ok (IsPlaced table name file front) r.result r.ensures;
      bad = growth_bad (λ p. (whole : List ℕ) → HasFront table name whole front → c.args.bytes.now ≡ take (head_end table name front) whole → FailsAt table name whole p) r.result r.ensures;
      read = growth_read r.result r.ensures;
    }

pub returns-in_err-whole_head : goal.returns-in_err-whole_head
returns-in_err-whole_head c =
    let table = c.args.table.now in
    let name = c.args.name.now in
    let file = c.args.file.now in
    let front = c.args.front.now in
    let r = c.from_residual-in_err-whole_head in
    record {
      ok = growth_ok (λ head. (whole : List ℕ) → HasFront table name whole front → c.args.bytes.now ≡ take (head_end table name front) whole → IsHead table name file whole head) r.result r.ensures;
      placed = growth_ok (IsPlaced table name file front) r.result r.ensures;
      bad = growth_bad (λ p. (whole : List ℕ) → HasFront table name whole front → c.args.bytes.now ≡ take (head_end table name front) whole → FailsAt table name whole p) r.result r.ensures;
      read = growth_read r.result r.ensures;
    }

pub returns-in-Err-clause-ok : goal.returns-in-Err-clause-ok
returns-in-Err-clause-ok c = tt

pub returns-in-Err-clause-placed : goal.returns-in-Err-clause-placed
returns-in-Err-clause-placed c = tt

pub returns-in-Err-clause-read : goal.returns-in-Err-clause-read
returns-in-Err-clause-read c = read_handed c.in-Err.fault c.in-Err.ensures.read

pub returns-then-not-branch-clause-ok : goal.returns-then-not-branch-clause-ok
returns-then-not-branch-clause-ok c = tt

pub returns-then-not-branch-clause-placed : goal.returns-then-not-branch-clause-placed
returns-then-not-branch-clause-placed c = tt

pub returns-then-not-branch-clause-read : goal.returns-then-not-branch-clause-read
returns-then-not-branch-clause-read c = no_read parts.Bounds

pub returns-in-Err-check_trees-clause-ok : goal.returns-in-Err-check_trees-clause-ok
returns-in-Err-check_trees-clause-ok c = tt

pub returns-in-Err-check_trees-clause-placed : goal.returns-in-Err-check_trees-clause-placed
returns-in-Err-check_trees-clause-placed c = tt

pub returns-in-Err-check_trees-clause-read : goal.returns-in-Err-check_trees-clause-read
returns-in-Err-check_trees-clause-read c = read_handed c.in-Err-check_trees.fault c.in-Err-check_trees.ensures.read

pub returns-in-Err-check_sizes-clause-ok : goal.returns-in-Err-check_sizes-clause-ok
returns-in-Err-check_sizes-clause-ok c = tt

pub returns-in-Err-check_sizes-clause-placed : goal.returns-in-Err-check_sizes-clause-placed
returns-in-Err-check_sizes-clause-placed c = tt

pub returns-in-Err-check_sizes-clause-read : goal.returns-in-Err-check_sizes-clause-read
returns-in-Err-check_sizes-clause-read c = no_read c.in-Err-check_sizes.part

pub returns-clause-bad : goal.returns-clause-bad
returns-clause-bad c = tt

pub returns-clause-read : goal.returns-clause-read
returns-clause-read c = well_read c.in_ok-whole_head.field-0

pub front_size-start-requires-clause-name : goal.front_size-start-requires-clause-name
front_size-start-requires-clause-name c = c.requires.name

pub place_sections-requires : goal.place_sections-requires
place_sections-requires c = record {
  each = ap length c.sizes.ensures ∙ c.requires.each;
  short = short_sections c.args.table.now c.args.name.now c.args.front.now c.args.parts.now c.sizes.result.now c.front_size-start.result c.front_size-start.ensures c.requires.parts c.sizes.ensures c.requires.short;
}

pub check_trees-requires-clause-valid : goal.check_trees-requires-clause-valid
check_trees-requires-clause-valid c = c.requires.valid

pub check_trees-requires-clause-spelled : goal.check_trees-requires-clause-spelled
check_trees-requires-clause-spelled c =
    let table = c.args.table.now in
    let bytes = c.args.bytes.now in
    subst (AreSpelled table c.rows-2.result (heads_read table c.deref-4.result.now bytes) (columns_of table)) (sym c.deref-3.ensures.value)
    (along (λ r s. AreSpelled table r (heads_read table s bytes) (columns_of table) c.in-Ok.dictionaries.items) c.rows.result c.rows-2.result c.deref.result.now c.deref-4.result.now (c.rows.ensures ∙ sym c.rows-2.ensures) (c.deref.ensures.value ∙ sym c.deref-4.ensures.value) c.in-Ok.ensures.ok)

pub check_sizes-requires-clause-valid : goal.check_sizes-requires-clause-valid
check_sizes-requires-clause-valid c = c.requires.valid
