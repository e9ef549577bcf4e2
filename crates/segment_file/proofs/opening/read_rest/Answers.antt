use Rattle.std.proofs.Common.{◌≡◌, ◌∙◌, ◌+◌, ◌++◌, IfSome, None, Some, ap₂, arith, take}
use Rattle.outside.specs.Files.{bytes_of}
use Rattle.outside.specs.Seen.{seen}
use Rattle.segment_file.specs.Front.{front_size, head_end}
use Rattle.segment_file.specs.Reading.{IsHeadCut}
use Rattle.segment_file.proofs.Faults.{growth_bad, growth_ok, growth_reads, reads_ended, reads_handed, reads_well}
use Rattle.segment_file.proofs.Openings.{front_length, has_heads, head_bytes, head_cut, head_within, rest_short, rest_through, rest_up}
use Rattle.segment_file.proofs.opening.read_rest.Goals as goal

pub head_size-rest-requires-clause-some : goal.head_size-rest-requires-clause-some
head_size-rest-requires-clause-some g c =
    let read = c.args.read.now in
    let is = c.requires.front in
    has_heads c.args.table.now c.args.name.now read.bytes.items is.size read.front is.front_is

pub read_exactly-requires-clause-fits : goal.read_exactly-requires-clause-fits
read_exactly-requires-clause-fits g c =
    let read = c.args.read.now in
    let table = c.args.table.now in
    let name = c.args.name.now in
    let is = c.requires.front in
    let small = is.front_is.small in
    let start : c.len-start.result ≡ front_size table name = omega (arith, c.len-start.ensures, read.bytes.ok, front_length table name read.bytes.items is.size read.front is.front_is) in
    omega (arith, start, c.head_size-rest.ensures, small, head_within table name read.bytes.items is.size read.front is.front_is)

pub returns-in-Err : goal.returns-in-Err
returns-in-Err g c =
    let read = c.args.read.now in
    let table = c.args.table.now in
    let name = c.args.name.now in
    let file = c.args.file.now in
    let held = g.S.Shelf.held c.args.shelf.now in
    let old = seen g.S.Shelf c.args.shelf.now in
    let new = seen g.S.Shelf c.read_exactly.new.shelf in
    let is = c.requires.front in
    let start : c.len-start.result ≡ front_size table name = omega (arith, c.len-start.ensures, read.bytes.ok, front_length table name read.bytes.items is.size read.front is.front_is) in
    let end : c.len-start.result + c.head_size-rest.result ≡ head_end table name read.front = (λ i. start i + c.head_size-rest.ensures i) in
    record {
      bytes = tt;
      cut = tt;
      refused = λ p is_p. rest_short table name file read.bytes.items held read.front c.len-start.result c.head_size-rest.result is end (c.in-Err.ensures.short p is_p).1;
      only_reads = reads_handed c.in-Err.fault old new c.in-Err.ensures.only_reads;
      log = rest_up file c.len-start.result c.head_size-rest.result (front_size table name) (head_end table name read.front) old.log new.log start end c.in-Err.ensures.log_of_fault;
    }

pub returns-in_err-joined : goal.returns-in_err-joined
returns-in_err-joined g c =
    let read = c.args.read.now in
    let table = c.args.table.now in
    let name = c.args.name.now in
    let file = c.args.file.now in
    let held = g.S.Shelf.held c.args.shelf.now in
    let old = seen g.S.Shelf c.args.shelf.now in
    let new = seen g.S.Shelf c.read_exactly.new.shelf in
    let is = c.requires.front in
    let start : c.len-start.result ≡ front_size table name = omega (arith, c.len-start.ensures, read.bytes.ok, front_length table name read.bytes.items is.size read.front is.front_is) in
    let end : c.len-start.result + c.head_size-rest.result ≡ head_end table name read.front = (λ i. start i + c.head_size-rest.ensures i) in
    let r = c.from_residual in
    record {
      bytes = growth_ok (λ bytes. IfSome held (λ files. bytes.items ≡ take (head_end table name read.front) (bytes_of (Some files) file))) r.result r.ensures;
      cut = growth_ok (λ bytes. IsHeadCut table name read.front bytes.items) r.result r.ensures;
      refused = growth_bad (λ p. held ≡ None) r.result r.ensures;
      only_reads = growth_reads r.result old new r.ensures (reads_well c.in-Ok.more old new c.in-Ok.ensures.only_reads);
      log = rest_through file c.len-start.result c.head_size-rest.result (front_size table name) (head_end table name read.front) old.log new.log start end c.in-Ok.ensures.log;
    }

pub returns : goal.returns
returns g c =
    let read = c.args.read.now in
    let table = c.args.table.now in
    let name = c.args.name.now in
    let file = c.args.file.now in
    let held = g.S.Shelf.held c.args.shelf.now in
    let old = seen g.S.Shelf c.args.shelf.now in
    let new = seen g.S.Shelf c.read_exactly.new.shelf in
    let is = c.requires.front in
    let start : c.len-start.result ≡ front_size table name = omega (arith, c.len-start.ensures, read.bytes.ok, front_length table name read.bytes.items is.size read.front is.front_is) in
    let end : c.len-start.result + c.head_size-rest.result ≡ head_end table name read.front = (λ i. start i + c.head_size-rest.ensures i) in
    let all = c.in_ok-joined.field-0 in
    let both : all.items ≡ read.bytes.items ++ c.in-Ok.more = c.in_ok-joined.ensures ∙ ap₂ ◌++◌ c.deref.ensures.value c.as_slice.ensures in
    record {
      bytes = head_bytes table name file read.bytes.items held read.front c.len-start.result c.head_size-rest.result c.in-Ok.more all.items is start c.head_size-rest.ensures c.in-Ok.ensures.bytes both;
      cut = head_cut table name file read.bytes.items held read.front c.head_size-rest.result c.in-Ok.more all.items is c.head_size-rest.ensures c.in-Ok.ensures.size both;
      refused = tt;
      only_reads = reads_ended all old new (reads_well c.in-Ok.more old new c.in-Ok.ensures.only_reads);
      log = rest_through file c.len-start.result c.head_size-rest.result (front_size table name) (head_end table name read.front) old.log new.log start end c.in-Ok.ensures.log;
    }
