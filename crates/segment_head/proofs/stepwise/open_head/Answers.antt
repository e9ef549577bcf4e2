use Rattle.std.proofs.Common.{◌≡◌, ◌∙◌, List, [], length, map, get_or, replicate, Option, None, Some, IfSome, inl, refl, ap, sym, subst, arith}
use Rattle.std.proofs.lemmas.List.{length-replicate}
use Rattle.std.proofs.lemmas.List.Elements.{All-map}
use Rattle.outside.specs.Files.{bytes_of}
use Rattle.outside.specs.Seen.{seen}
use Rattle.outside.proofs.SeenLemmas.{reads_after, reads_none}
use Rattle.value_ids.specs.Dictionary.{Distinct}
use Rattle.segment_file.specs.declared.bounds.Ends.{Ends}
use Rattle.segment_file.specs.declared.section.Section.{Section}
use Rattle.segment_file.specs.declared.trees.TreeNodes.{TreeNodes}
use Rattle.segment_file.specs.Bounds.{AreBounds, bounded}
use Rattle.segment_file.specs.Front.{Extent, bounds_end, extents_from, front_size}
use Rattle.segment_file.specs.declared.part.Part.TheVariants as parts
use Rattle.segment_head.specs.Calls.{FailsOpening, IsOpeningPart}
use Rattle.segment_head.specs.Heads.{AreIn, IsBare, IsHead, IsHeadOf, IsOpened, IsPartOf, IsPlaced, Seen, placed}
use Rattle.segment_file.specs.Rules.{KeepsRules, heads_in}
use Rattle.segment_file.specs.Parts.{sections_of}
use Rattle.segment_file.specs.Reading.{IsFrontOf}
use Rattle.segment_file.proofs.Faults.{growth_bad, growth_ok, growth_reads, reads_ended, reads_err, reads_handed, reads_well}
use Rattle.segment_file.proofs.Openings.{front_length}
use Rattle.segment_head.proofs.Openings.{head_of, frontless, logs_front, logs_still, logs_within}
use Rattle.segment_head.proofs.Steps.{bounds_break_told, bounds_fail, front_fails, none_loaded, opened_told, part_told}
use Rattle.segment_head.proofs.stepwise.open_head.Goals as goal

pub returns-in-Err-bounds_section : goal.returns-in-Err-bounds_section
returns-in-Err-bounds_section g c =
    let read = c.in-Ok.read in
    let table = c.args.table.now in
    let name = c.args.name.now in
    let file = c.args.file.now in
    let first = seen g.S.Shelf c.args.shelf.now in
    let between = seen g.S.Shelf c.read_front.new.shelf in
    record {
      of = tt;
      bare = tt;
      placed = tt;
      opened = tt;
      part = tt;
      refused = λ p is.
          let none = subst (λ h. IfSome h (λ files. (bounds : List Ends) → ¬ AreBounds (bounded read.front.rows table.schema.fields) (get_or (heads_in table name read.front (bytes_of (Some files) file)) 0 []) bounds)) c.in-Ok.ensures.only_reads.held (c.in-Err-bounds_section.ensures.refused p is) in
          bounds_break_told table name file read.bytes.items (g.S.Shelf.held c.args.shelf.now) read.front c.in-Ok.ensures.front none;
      named = λ p is. (c.in-Err-bounds_section.ensures.part p is).0;
      first = λ p is.
          let none = subst (λ h. IfSome h (λ files. (bounds : List Ends) → ¬ AreBounds (bounded read.front.rows table.schema.fields) (get_or (heads_in table name read.front (bytes_of (Some files) file)) 0 []) bounds)) c.in-Ok.ensures.only_reads.held (c.in-Err-bounds_section.ensures.refused p is) in
          let own = subst (λ h. IfSome h (λ files. p ≡ parts.Bounds)) c.in-Ok.ensures.only_reads.held (c.in-Err-bounds_section.ensures.part p is).1 in
          bounds_fail table name file read.bytes.items (g.S.Shelf.held c.args.shelf.now) read.front p c.in-Ok.ensures.front own none;
      only_reads = reads_err c.in-Err-bounds_section.fault first between (seen g.S.Shelf c.bounds_section.new.shelf) (reads_well read first between c.in-Ok.ensures.only_reads) c.in-Err-bounds_section.ensures.only_reads;
      log = logs_within bounds_end table name file read.bytes.items (g.S.Shelf.held c.args.shelf.now) read.front (g.S.Shelf.log c.args.shelf.now) (g.S.Shelf.log c.read_front.new.shelf) (g.S.Shelf.log c.bounds_section.new.shelf) c.in-Ok.ensures.front c.in-Ok.ensures.log c.in-Err-bounds_section.ensures.log;
    }

pub bare_head-requires : goal.bare_head-requires
bare_head-requires g c =
    let read = c.in-Ok.read in
    let is = c.in-Ok.ensures.front in
    record {
      each = is.front_is.each ∙ ap length (sym c.in_ok-parts.ensures ∙ sym c.deref-2.ensures.value);
      short = omega (arith, front_length c.args.table.now c.args.name.now read.bytes.items is.size read.front is.front_is, is.front_is.whole, is.front_is.small);
    }

pub returns-in_err-parts : goal.returns-in_err-parts
returns-in_err-parts g c =
    let table = c.args.table.now in
    let name = c.args.name.now in
    let file = c.args.file.now in
    let held = g.S.Shelf.held c.args.shelf.now in
    record {
      of = growth_ok (IsHeadOf table) c.from_residual.result c.from_residual.ensures;
      bare = growth_ok IsBare c.from_residual.result c.from_residual.ensures;
      placed = growth_ok (λ head. AreIn file head.sections) c.from_residual.result c.from_residual.ensures;
      opened = growth_ok (λ head. IfSome held (λ files. IsOpened table name file (bytes_of (Some files) file) head)) c.from_residual.result c.from_residual.ensures;
      part = growth_ok (λ head. IfSome held (λ files. (whole : Seen) → IsHead table name file (bytes_of (Some files) file) whole → IsPartOf whole head)) c.from_residual.result c.from_residual.ensures;
      refused = growth_bad (λ p. IfSome held (λ files. ¬ KeepsRules table name (bytes_of (Some files) file))) c.from_residual.result c.from_residual.ensures;
      named = growth_bad IsOpeningPart c.from_residual.result c.from_residual.ensures;
      first = growth_bad (λ p. IfSome held (λ files. FailsOpening table name (bytes_of (Some files) file) p)) c.from_residual.result c.from_residual.ensures;
      only_reads = growth_reads c.from_residual.result (seen g.S.Shelf c.args.shelf.now) (seen g.S.Shelf c.args.shelf.now) c.from_residual.ensures (reads_none (seen g.S.Shelf c.args.shelf.now));
      log = logs_still bounds_end table name file held (g.S.Shelf.log c.args.shelf.now);
    }

pub returns-in-Err : goal.returns-in-Err
returns-in-Err g c =
    let table = c.args.table.now in
    let name = c.args.name.now in
    let file = c.args.file.now in
    let held = g.S.Shelf.held c.args.shelf.now in
    record {
      of = tt;
      bare = tt;
      placed = tt;
      opened = tt;
      part = tt;
      refused = λ p is. frontless table name file held (c.in-Err.ensures.refused p is).1;
      named = λ p is. inl (c.in-Err.ensures.refused p is).0;
      first = λ p is. front_fails table name file held p (c.in-Err.ensures.refused p is).0 (c.in-Err.ensures.refused p is).1;
      only_reads = reads_handed c.in-Err.fault (seen g.S.Shelf c.args.shelf.now) (seen g.S.Shelf c.read_front.new.shelf) c.in-Err.ensures.only_reads;
      log = logs_front bounds_end table name file held (g.S.Shelf.log c.args.shelf.now) (g.S.Shelf.log c.read_front.new.shelf) c.in-Err.ensures.log_of_fault;
    }

pub returns-in_err-bare_head : goal.returns-in_err-bare_head
returns-in_err-bare_head g c =
    let read = c.in-Ok.read in
    let table = c.args.table.now in
    let name = c.args.name.now in
    let file = c.args.file.now in
    let held = g.S.Shelf.held c.args.shelf.now in
    let old = seen g.S.Shelf c.args.shelf.now in
    let between = seen g.S.Shelf c.read_front.new.shelf in
    let last = seen g.S.Shelf c.bounds_section.new.shelf in
    record {
      of = growth_ok (IsHeadOf table) c.from_residual-in_err-bare_head.result c.from_residual-in_err-bare_head.ensures;
      bare = growth_ok IsBare c.from_residual-in_err-bare_head.result c.from_residual-in_err-bare_head.ensures;
      placed = growth_ok (λ head. AreIn file head.sections) c.from_residual-in_err-bare_head.result c.from_residual-in_err-bare_head.ensures;
      opened = growth_ok (λ head. IfSome held (λ files. IsOpened table name file (bytes_of (Some files) file) head)) c.from_residual-in_err-bare_head.result c.from_residual-in_err-bare_head.ensures;
      part = growth_ok (λ head. IfSome held (λ files. (whole : Seen) → IsHead table name file (bytes_of (Some files) file) whole → IsPartOf whole head)) c.from_residual-in_err-bare_head.result c.from_residual-in_err-bare_head.ensures;
      refused = growth_bad (λ p. IfSome held (λ files. ¬ KeepsRules table name (bytes_of (Some files) file))) c.from_residual-in_err-bare_head.result c.from_residual-in_err-bare_head.ensures;
      named = growth_bad IsOpeningPart c.from_residual-in_err-bare_head.result c.from_residual-in_err-bare_head.ensures;
      first = growth_bad (λ p. IfSome held (λ files. FailsOpening table name (bytes_of (Some files) file) p)) c.from_residual-in_err-bare_head.result c.from_residual-in_err-bare_head.ensures;
      only_reads = growth_reads c.from_residual-in_err-bare_head.result old last c.from_residual-in_err-bare_head.ensures (reads_after ⊥ old between last (reads_well read old between c.in-Ok.ensures.only_reads) (reads_well c.in-Ok-bounds_section.bounds between last c.in-Ok-bounds_section.ensures.only_reads));
      log = logs_within bounds_end table name file read.bytes.items (g.S.Shelf.held c.args.shelf.now) read.front (g.S.Shelf.log c.args.shelf.now) (g.S.Shelf.log c.read_front.new.shelf) (g.S.Shelf.log c.bounds_section.new.shelf) c.in-Ok.ensures.front c.in-Ok.ensures.log c.in-Ok-bounds_section.ensures.log;
    }

pub returns : goal.returns
returns g c =
    let read = c.in-Ok.read in
    let table = c.args.table.now in
    let name = c.args.name.now in
    let file = c.args.file.now in
    let held = g.S.Shelf.held c.args.shelf.now in
    let is = c.in-Ok.ensures.front in
    let head : Seen = c.in_ok-bare_head.field-0 in
    let start : length read.bytes.items ≡ front_size table name = front_length table name read.bytes.items is.size read.front is.front_is in
    let parts : c.deref-2.result.now ≡ sections_of table = c.deref-2.ensures.value ∙ c.in_ok-parts.ensures in
    let es : List Extent = extents_from (length read.bytes.items) c.deref-2.result.now read.front.sizes in
    let sections : head.sections ≡ map (placed file) es = ap (λ h. h.sections) c.in_ok-bare_head.ensures in
    let free : head.dictionaries ≡ replicate (length table.schema.fields) None = ap (λ h. h.dictionaries) c.in_ok-bare_head.ensures in
    let bare : head.trees ≡ replicate (length table.settings.trees) None = ap (λ h. h.trees) c.in_ok-bare_head.ensures in
    let nothing : Option Distinct = None in
    let no_tree : Option TreeNodes = None in
    let has : IsPlaced table name file read.front head = record {
      rows_are = ap (λ h. h.rows) c.in_ok-bare_head.ensures;
      sections_are = sections ∙ (λ i. map (placed file) (extents_from (start i) (parts i) read.front.sizes));
      slots = ap length free ∙ length-replicate (length table.schema.fields) nothing;
      tree_slots = ap length bare ∙ length-replicate (length table.settings.trees) no_tree;
    } in
    let first = subst (λ h. IfSome h (λ files. AreBounds (bounded read.front.rows table.schema.fields) (get_or (heads_in table name read.front (bytes_of (Some files) file)) 0 []) c.in-Ok-bounds_section.bounds.items)) c.in-Ok.ensures.only_reads.held c.in-Ok-bounds_section.ensures.bounds in
    let bounds = subst (λ b. IfSome held (λ files. AreBounds (bounded read.front.rows table.schema.fields) (get_or (heads_in table name read.front (bytes_of (Some files) file)) 0 []) b)) (sym (ap (λ h. h.bounds) c.in_ok-bare_head.ensures)) first in
    let opened = opened_told table name file read.bytes.items held read.front head is has bounds in
    let old = seen g.S.Shelf c.args.shelf.now in
    let between = seen g.S.Shelf c.read_front.new.shelf in
    let last = seen g.S.Shelf c.bounds_section.new.shelf in
    record {
      of = head_of table name file read.bytes.items held read.front head is has;
      bare = record { none = λ column. none_loaded head.dictionaries (length table.schema.fields) column free; no_nodes = λ t. none_loaded head.trees (length table.settings.trees) t bare };
      placed = subst (AreIn file) (sym sections) (All-map (λ (s : Section). s.place.file ≡ file) (placed file) es (λ k d lt. refl));
      opened = opened;
      part = part_told table name file held head opened free bare;
      refused = tt;
      named = tt;
      first = tt;
      only_reads = reads_ended head old last (reads_after ⊥ old between last (reads_well read old between c.in-Ok.ensures.only_reads) (reads_well c.in-Ok-bounds_section.bounds between last c.in-Ok-bounds_section.ensures.only_reads));
      log = logs_within bounds_end table name file read.bytes.items (g.S.Shelf.held c.args.shelf.now) read.front (g.S.Shelf.log c.args.shelf.now) (g.S.Shelf.log c.read_front.new.shelf) (g.S.Shelf.log c.bounds_section.new.shelf) c.in-Ok.ensures.front c.in-Ok.ensures.log c.in-Ok-bounds_section.ensures.log;
    }

pub read_front-requires : goal.read_front-requires
read_front-requires g c = record { valid = c.requires.valid; name = c.requires.name; parts = c.deref.ensures.value ∙ c.in_ok-parts.ensures }

pub bounds_section-requires : goal.bounds_section-requires
bounds_section-requires g c =
    let read = c.in-Ok.read in
    record { front = subst (λ h. IsFrontOf c.args.table.now c.args.name.now c.args.file.now h read.bytes.items read.front) (sym c.in-Ok.ensures.only_reads.held) c.in-Ok.ensures.front }
