use Rattle.std.proofs.Common.{◌≡◌, ◌∙◌, ◌<◌, ◌+◌, Some, Err, IfSome, inl, inr, length, sym, ap, subst, arith}
use Rattle.outside.specs.Files.{bytes_at, bytes_of}
use Rattle.outside.specs.Reads.{LogsThrough, LogsUpTo}
use Rattle.segment_head.specs.Heads.{AreKept, HaveCounts, OfWhole, nodes_section}
use Rattle.segment_file.specs.declared.part.Part.TheVariants.{Nodes}
use Rattle.segment_file.specs.Reading.{nodes_said}
use Rattle.outside.specs.Seen.{seen}
use Rattle.outside.proofs.SeenLemmas.{reads_after}
use Rattle.segment_file.proofs.Faults.{reads_ended, reads_err, reads_handed, reads_other, reads_well}
use Rattle.segment_file.proofs.ImageRows.{if_some}
use Rattle.segment_head.proofs.Steps.{none_read, section_within}
use Rattle.segment_head.proofs.TreeChecks.{bad_nodes}
use Rattle.segment_file.proofs.TreeChecks.{few_kinds, valid_at}
use Rattle.segment_head.proofs.TreeSteps.{kept_so, nodes_as, nodes_cut, nodes_none, nodes_slot, nodes_whole, split_is}
use Rattle.segment_head.proofs.head.Head.read_tree.Goals as goal

pub returns-in-Err-clause-log : goal.returns-in-Err-clause-log
returns-in-Err-clause-log g c = record {
  between = g.S.Shelf.log c.split_counts.new.shelf;
  counts = c.in-Err.ensures.log;
  nodes = none_read (nodes_section c.args.table.now c.args.self.now c.args.tree) (λ s. s.place.length) (g.S.Shelf.log c.split_counts.new.shelf);
}

pub nodes_section-requires-clause-within : goal.nodes_section-requires-clause-within
nodes_section-requires-clause-within g c = nodes_slot c.args.table.now c.args.self.now c.args.tree c.requires.opened c.requires.tree

pub read_exactly-requires-clause-some : goal.read_exactly-requires-clause-some
read_exactly-requires-clause-some g c =
    let table = c.args.table.now in
    let head = c.args.self.now in
    let t = c.args.tree in
    let s = c.nodes_section.result.now in
    let both = section_within table head (length table.schema.fields + 1 + t) s c.requires.opened c.nodes_section.ensures in
    omega (arith, both.0)

pub read_exactly-requires-clause-fits : goal.read_exactly-requires-clause-fits
read_exactly-requires-clause-fits g c =
    let table = c.args.table.now in
    let head = c.args.self.now in
    let t = c.args.tree in
    let s = c.nodes_section.result.now in
    (section_within table head (length table.schema.fields + 1 + t) s c.requires.opened c.nodes_section.ensures).1

pub returns-in-Err-read_exactly-clause-reads : goal.returns-in-Err-read_exactly-clause-reads
returns-in-Err-read_exactly-clause-reads g c = record {
  told = tt;
  refused = λ p is.
      let table = c.args.table.now in
      let head = c.args.self.now in
      let t = c.args.tree in
      let s = c.nodes_section.result.now in
      let held = g.S.Shelf.held c.args.shelf.now in
      nodes_cut table head t s c.requires.tree c.nodes_section.ensures held
      (subst (λ f. IfSome held (λ files. length (bytes_of (Some files) f) < s.place.offset + s.place.length)) c.as_str-file.ensures
      (subst (λ h. IfSome h (λ files. length (bytes_of (Some files) c.as_str-file.result.now) < s.place.offset + s.place.length)) c.in-Ok.ensures.reads.only_reads.held (c.in-Err-read_exactly.ensures.short p is).1));
  only_reads = let old = seen g.S.Shelf c.args.shelf.now in
      let between = seen g.S.Shelf c.split_counts.new.shelf in
      reads_err c.in-Err-read_exactly.fault old between (seen g.S.Shelf c.read_exactly.new.shelf) (reads_well c.in-Ok.counts old between c.in-Ok.ensures.reads.only_reads) c.in-Err-read_exactly.ensures.only_reads;
}

pub returns-in-Err-read_exactly-clause-log : goal.returns-in-Err-read_exactly-clause-log
returns-in-Err-read_exactly-clause-log g c =
    let table = c.args.table.now in
    let head = c.args.self.now in
    let t = c.args.tree in
    let s = c.nodes_section.result.now in
    let first = g.S.Shelf.log c.args.shelf.now in
    let between = g.S.Shelf.log c.split_counts.new.shelf in
    let last = g.S.Shelf.log c.read_exactly.new.shelf in
    record {
      between = between;
      counts = c.in-Ok.ensures.log;
      nodes = if_some _ s _ c.nodes_section.ensures (subst (λ f. LogsUpTo f s.place.offset (s.place.offset + s.place.length) between last) c.as_str-file.ensures c.in-Err-read_exactly.ensures.log_of_fault);
    }

pub check_tree-requires : goal.check_tree-requires
check_tree-requires g c =
    let table = c.args.table.now in
    let tree = c.at.result.now in
    let valid = valid_at table.schema.fields table.settings.trees c.args.tree tree c.requires.valid.settings.trees_valid c.at.ensures in
    record {
      few_dims = omega (arith, valid.has_dims, valid.few_split);
      few_kinds = few_kinds table.schema.fields tree valid;
      counts_are = ap length c.deref.ensures.value ∙ c.in-Ok.ensures.each ∙ ap length (split_is table c.args.tree tree c.at.ensures) ∙ sym valid.has_dims;
    }

pub returns-in-Ok-check_tree-clause-reads : goal.returns-in-Ok-check_tree-clause-reads
returns-in-Ok-check_tree-clause-reads g c = record {
  told = let table = c.args.table.now in
      let head = c.args.self.now in
      let t = c.args.tree in
      let s = c.nodes_section.result.now in
      let held = g.S.Shelf.held c.args.shelf.now in
      let tree = c.at.result.now in
      let counts = c.in-Ok.counts.items in
      let bytes = c.in-Ok-read_exactly.bytes in
      let setting = c.at.ensures in
      let have : OfWhole table held head (HaveCounts tree.split counts) = subst (λ xs. OfWhole table held head (HaveCounts xs counts)) (split_is table t tree setting) c.in-Ok.ensures.reads.told in
      let read : IfSome held (λ files. bytes ≡ bytes_at files s.place.file s.place.offset s.place.length) =
      subst (λ f. IfSome held (λ files. bytes ≡ bytes_at files f s.place.offset s.place.length)) c.as_str-file.ensures
      (subst (λ h. IfSome h (λ files. bytes ≡ bytes_at files c.as_str-file.result.now s.place.offset s.place.length)) c.in-Ok.ensures.reads.only_reads.held c.in-Ok-read_exactly.ensures.bytes) in
      nodes_whole table head t s tree c.requires.valid c.requires.tree c.nodes_section.ensures setting held bytes counts c.in-Ok-check_tree.nodes read have (c.in-Ok-check_tree.ensures.said ∙ ap nodes_said c.as_slice.ensures);
  refused = tt;
  only_reads = let old = seen g.S.Shelf c.args.shelf.now in
      let between = seen g.S.Shelf c.split_counts.new.shelf in
      let new = seen g.S.Shelf c.read_exactly.new.shelf in
      reads_ended _ old new (reads_after ⊥ old between new (reads_well c.in-Ok.counts old between c.in-Ok.ensures.reads.only_reads) (reads_well c.in-Ok-read_exactly.bytes between new c.in-Ok-read_exactly.ensures.only_reads));
}

pub returns-in-Ok-check_tree-clause-log : goal.returns-in-Ok-check_tree-clause-log
returns-in-Ok-check_tree-clause-log g c =
    let table = c.args.table.now in
    let head = c.args.self.now in
    let t = c.args.tree in
    let s = c.nodes_section.result.now in
    let first = g.S.Shelf.log c.args.shelf.now in
    let between = g.S.Shelf.log c.split_counts.new.shelf in
    let last = g.S.Shelf.log c.read_exactly.new.shelf in
    record {
      between = between;
      counts = c.in-Ok.ensures.log;
      nodes = if_some _ s _ c.nodes_section.ensures (s.place.offset + s.place.length, omega arith, subst (λ f. LogsThrough f s.place.offset (s.place.offset + s.place.length) between last) c.as_str-file.ensures c.in-Ok-read_exactly.ensures.log);
    }

pub returns-in-Err-check_tree-clause-reads : goal.returns-in-Err-check_tree-clause-reads
returns-in-Err-check_tree-clause-reads g c = record {
  told = tt;
  refused = λ p is.
      let table = c.args.table.now in
      let head = c.args.self.now in
      let t = c.args.tree in
      let s = c.nodes_section.result.now in
      let held = g.S.Shelf.held c.args.shelf.now in
      let tree = c.at.result.now in
      let counts = c.in-Ok.counts.items in
      let bytes = c.in-Ok-read_exactly.bytes in
      let setting = c.at.ensures in
      let have : OfWhole table held head (HaveCounts tree.split counts) = subst (λ xs. OfWhole table held head (HaveCounts xs counts)) (split_is table t tree setting) c.in-Ok.ensures.reads.told in
      let read : IfSome held (λ files. bytes ≡ bytes_at files s.place.file s.place.offset s.place.length) =
      subst (λ f. IfSome held (λ files. bytes ≡ bytes_at files f s.place.offset s.place.length)) c.as_str-file.ensures
      (subst (λ h. IfSome h (λ files. bytes ≡ bytes_at files c.as_str-file.result.now s.place.offset s.place.length)) c.in-Ok.ensures.reads.only_reads.held c.in-Ok-read_exactly.ensures.bytes) in
      let bad = bad_nodes c.in-Err-check_tree.fault c.of_nodes.result p c.of_nodes.ensures.memory is in
      nodes_none table head t s tree c.requires.valid c.requires.tree c.nodes_section.ensures setting held bytes counts read have
      (λ are. c.in-Err-check_tree.ensures.bad (ap Err bad) (nodes_as _ _ _ _ _ _ _ (sym c.deref.ensures.value) (sym (ap (λ h. h.rows) c.self.view_is)) (sym c.as_slice.ensures) are));
  only_reads = let old = seen g.S.Shelf c.args.shelf.now in
      let between = seen g.S.Shelf c.split_counts.new.shelf in
      let new = seen g.S.Shelf c.read_exactly.new.shelf in
      reads_other c.of_nodes.result old new c.of_nodes.ensures.read
      (reads_after ⊥ old between new (reads_well c.in-Ok.counts old between c.in-Ok.ensures.reads.only_reads) (reads_well c.in-Ok-read_exactly.bytes between new c.in-Ok-read_exactly.ensures.only_reads));
}

pub returns-in-Err-check_tree-clause-log : goal.returns-in-Err-check_tree-clause-log
returns-in-Err-check_tree-clause-log g c =
    let table = c.args.table.now in
    let head = c.args.self.now in
    let t = c.args.tree in
    let s = c.nodes_section.result.now in
    let first = g.S.Shelf.log c.args.shelf.now in
    let between = g.S.Shelf.log c.split_counts.new.shelf in
    let last = g.S.Shelf.log c.read_exactly.new.shelf in
    record {
      between = between;
      counts = c.in-Ok.ensures.log;
      nodes = if_some _ s _ c.nodes_section.ensures (s.place.offset + s.place.length, omega arith, subst (λ f. LogsThrough f s.place.offset (s.place.offset + s.place.length) between last) c.as_str-file.ensures c.in-Ok-read_exactly.ensures.log);
    }

pub returns-in-Ok-check_tree-clause-keeps : goal.returns-in-Ok-check_tree-clause-keeps
returns-in-Ok-check_tree-clause-keeps g c =
    let table = c.args.table.now in
    let tree = c.at.result.now in
    let valid = valid_at table.schema.fields table.settings.trees c.args.tree tree c.requires.valid.settings.trees_valid c.at.ensures in
    let each : length c.deref.result.now ≡ tree.shape.dims = ap length c.deref.ensures.value ∙ c.in-Ok.ensures.each ∙ ap length (split_is table c.args.tree tree c.at.ensures) ∙ sym valid.has_dims in
    if_some _ tree (λ setting. AreKept setting.shape c.in-Ok.counts.items c.in-Ok-check_tree.nodes) c.at.ensures
    (kept_so tree.shape c.deref.result.now c.in-Ok.counts.items c.as_slice.result.now _ c.in-Ok-check_tree.nodes c.deref.ensures.value c.in-Ok-check_tree.ensures.said c.in-Ok-check_tree.ensures.ok each)

pub returns-in-Err-clause-reads : goal.returns-in-Err-clause-reads
returns-in-Err-clause-reads g c = record {
  told = tt;
  refused = c.in-Err.ensures.reads.refused;
  only_reads = reads_handed c.in-Err.fault (seen g.S.Shelf c.args.shelf.now) (seen g.S.Shelf c.split_counts.new.shelf) c.in-Err.ensures.reads.only_reads;
}

pub returns-in-Ok-check_tree-clause-counts : goal.returns-in-Ok-check_tree-clause-counts
returns-in-Ok-check_tree-clause-counts g c = c.in-Ok.ensures.reads.told

pub returns-in-Err-clause-part : goal.returns-in-Err-clause-part
returns-in-Err-clause-part g c = λ p is. inl (c.in-Err.ensures.part p is)

pub returns-in-Err-read_exactly-clause-part : goal.returns-in-Err-read_exactly-clause-part
returns-in-Err-read_exactly-clause-part g c = λ p is. inr (inl (c.in-Err-read_exactly.ensures.short p is).0)

pub returns-in-Ok-check_tree-clause-part : goal.returns-in-Ok-check_tree-clause-part
returns-in-Ok-check_tree-clause-part g c = tt

pub returns-in-Err-check_tree-clause-part : goal.returns-in-Err-check_tree-clause-part
returns-in-Err-check_tree-clause-part g c = λ p is.
    let bad = bad_nodes c.in-Err-check_tree.fault c.of_nodes.result p c.of_nodes.ensures.memory is in
    let own = c.of_nodes.ensures.bad bad in
    let same : p ≡ Nodes c.args.tree = cc in
    inr (inr same)
