use Rattle.std.proofs.Common.{◌≡◌, ◌+◌, List, [], IfSome, Some, get_or, ap, arith, inl, inr}
use Rattle.outside.specs.Files.{bytes_of}
use Rattle.outside.specs.Seen.{seen}
use Rattle.segment_file.specs.declared.bounds.Ends.{Ends}
use Rattle.segment_file.specs.declared.fault.HeadFault.TheVariants as fault
use Rattle.segment_file.specs.declared.part.Part.TheVariants as parts
use Rattle.segment_file.specs.Bounds.{AreBounds, bounded}
use Rattle.segment_file.specs.Front.{bounds_end, front_size}
use Rattle.segment_file.specs.Rules.{heads_in}
use Rattle.segment_file.proofs.Faults.{growth_bad, growth_reads, other_fault, reads_ended, reads_handed, reads_other, reads_well}
use Rattle.segment_file.proofs.Openings.{front_length, rest_through, rest_up}
use Rattle.segment_head.specs.Calls.{IsOpeningPart}
use Rattle.segment_head.proofs.Steps.{bounds_cut, bounds_within, told_so}
use Rattle.segment_head.proofs.stepwise.bounds_section.Goals as goal

pub read_exactly-requires-clause-fits : goal.read_exactly-requires-clause-fits
read_exactly-requires-clause-fits g c =
    let read = c.args.read.now in
    let table = c.args.table.now in
    let name = c.args.name.now in
    let is = c.requires.front in
    let size = get_or c.sizes.result.now 0 0 in
    let start : c.len-start.result ≡ front_size table name = omega (arith, c.len-start.ensures, read.bytes.ok, front_length table name read.bytes.items is.size read.front is.front_is) in
    let both = bounds_within table name read.bytes.items is.size read.front size is.front_is (ap (λ xs. get_or xs 0 0) c.sizes.ensures) in
    omega (arith, start, both.0, both.1, both.2)

pub returns-in-Err-clause-refused : goal.returns-in-Err-clause-refused
returns-in-Err-clause-refused g c = λ p fault_is.
    let read = c.args.read.now in
    let table = c.args.table.now in
    let name = c.args.name.now in
    let is = c.requires.front in
    let size = get_or c.sizes.result.now 0 0 in
    let start : c.len-start.result ≡ front_size table name = omega (arith, c.len-start.ensures, read.bytes.ok, front_length table name read.bytes.items is.size read.front is.front_is) in
    let both = bounds_within table name read.bytes.items is.size read.front size is.front_is (ap (λ xs. get_or xs 0 0) c.sizes.ensures) in
    let end : c.len-start.result + size ≡ bounds_end table name read.front = omega (arith, start, both.0) in
    bounds_cut table name c.args.file.now read.bytes.items (g.S.Shelf.held c.args.shelf.now) read.front c.len-start.result size _ is (omega (arith, end)) (c.in-Err.ensures.short p fault_is).1

pub returns-in-Err-clause-log : goal.returns-in-Err-clause-log
returns-in-Err-clause-log g c =
    let read = c.args.read.now in
    let table = c.args.table.now in
    let name = c.args.name.now in
    let is = c.requires.front in
    let size = get_or c.sizes.result.now 0 0 in
    let start : c.len-start.result ≡ front_size table name = omega (arith, c.len-start.ensures, read.bytes.ok, front_length table name read.bytes.items is.size read.front is.front_is) in
    let both = bounds_within table name read.bytes.items is.size read.front size is.front_is (ap (λ xs. get_or xs 0 0) c.sizes.ensures) in
    let end : c.len-start.result + size ≡ bounds_end table name read.front = omega (arith, start, both.0) in
    rest_up c.args.file.now c.len-start.result size (front_size table name) (bounds_end table name read.front) (g.S.Shelf.log c.args.shelf.now) (g.S.Shelf.log c.read_exactly.new.shelf) start end c.in-Err.ensures.log_of_fault

pub returns-in_err-bounds-clause-log : goal.returns-in_err-bounds-clause-log
returns-in_err-bounds-clause-log g c =
    let read = c.args.read.now in
    let table = c.args.table.now in
    let name = c.args.name.now in
    let is = c.requires.front in
    let size = get_or c.sizes.result.now 0 0 in
    let start : c.len-start.result ≡ front_size table name = omega (arith, c.len-start.ensures, read.bytes.ok, front_length table name read.bytes.items is.size read.front is.front_is) in
    let both = bounds_within table name read.bytes.items is.size read.front size is.front_is (ap (λ xs. get_or xs 0 0) c.sizes.ensures) in
    let end : c.len-start.result + size ≡ bounds_end table name read.front = omega (arith, start, both.0) in
    rest_through c.args.file.now c.len-start.result size (front_size table name) (bounds_end table name read.front) (g.S.Shelf.log c.args.shelf.now) (g.S.Shelf.log c.read_exactly.new.shelf) start end c.in-Ok.ensures.log

pub returns-in-Some-clause-log : goal.returns-in-Some-clause-log
returns-in-Some-clause-log g c =
    let read = c.args.read.now in
    let table = c.args.table.now in
    let name = c.args.name.now in
    let is = c.requires.front in
    let size = get_or c.sizes.result.now 0 0 in
    let start : c.len-start.result ≡ front_size table name = omega (arith, c.len-start.ensures, read.bytes.ok, front_length table name read.bytes.items is.size read.front is.front_is) in
    let both = bounds_within table name read.bytes.items is.size read.front size is.front_is (ap (λ xs. get_or xs 0 0) c.sizes.ensures) in
    let end : c.len-start.result + size ≡ bounds_end table name read.front = omega (arith, start, both.0) in
    rest_through c.args.file.now c.len-start.result size (front_size table name) (bounds_end table name read.front) (g.S.Shelf.log c.args.shelf.now) (g.S.Shelf.log c.read_exactly.new.shelf) start end c.in-Ok.ensures.log

pub returns-clause-log : goal.returns-clause-log
returns-clause-log g c =
    let read = c.args.read.now in
    let table = c.args.table.now in
    let name = c.args.name.now in
    let is = c.requires.front in
    let size = get_or c.sizes.result.now 0 0 in
    let start : c.len-start.result ≡ front_size table name = omega (arith, c.len-start.ensures, read.bytes.ok, front_length table name read.bytes.items is.size read.front is.front_is) in
    let both = bounds_within table name read.bytes.items is.size read.front size is.front_is (ap (λ xs. get_or xs 0 0) c.sizes.ensures) in
    let end : c.len-start.result + size ≡ bounds_end table name read.front = omega (arith, start, both.0) in
    rest_through c.args.file.now c.len-start.result size (front_size table name) (bounds_end table name read.front) (g.S.Shelf.log c.args.shelf.now) (g.S.Shelf.log c.read_exactly.new.shelf) start end c.in-Ok.ensures.log

pub returns-in-Err-clause-bounds : goal.returns-in-Err-clause-bounds
returns-in-Err-clause-bounds g c = tt

pub returns-in-Err-clause-only_reads : goal.returns-in-Err-clause-only_reads
returns-in-Err-clause-only_reads g c = reads_handed c.in-Err.fault (seen g.S.Shelf c.args.shelf.now) (seen g.S.Shelf c.read_exactly.new.shelf) c.in-Err.ensures.only_reads

pub returns-in_err-bounds-clause-only_reads : goal.returns-in_err-bounds-clause-only_reads
returns-in_err-bounds-clause-only_reads g c =
    let old = seen g.S.Shelf c.args.shelf.now in
    let new = seen g.S.Shelf c.read_exactly.new.shelf in
    growth_reads c.from_residual.result old new c.from_residual.ensures (reads_well c.in-Ok.bytes old new c.in-Ok.ensures.only_reads)

pub returns-in_err-bounds-clause-refused : goal.returns-in_err-bounds-clause-refused
returns-in_err-bounds-clause-refused g c =
    growth_bad (λ p. IfSome (g.S.Shelf.held c.args.shelf.now) (λ files. (bounds : List Ends) → ¬ AreBounds (bounded c.args.read.now.front.rows c.args.table.now.schema.fields) (get_or (heads_in c.args.table.now c.args.name.now c.args.read.now.front (bytes_of (Some files) c.args.file.now)) 0 []) bounds)) c.from_residual.result c.from_residual.ensures

pub returns-in-Some-clause-refused : goal.returns-in-Some-clause-refused
returns-in-Some-clause-refused g c = tt

pub returns-in-Some-clause-only_reads : goal.returns-in-Some-clause-only_reads
returns-in-Some-clause-only_reads g c =
    let old = seen g.S.Shelf c.args.shelf.now in
    let new = seen g.S.Shelf c.read_exactly.new.shelf in
    reads_ended c.in-Some.bounds old new (reads_well c.in-Ok.bytes old new c.in-Ok.ensures.only_reads)

pub returns-clause-bounds : goal.returns-clause-bounds
returns-clause-bounds g c = tt

pub returns-clause-only_reads : goal.returns-clause-only_reads
returns-clause-only_reads g c =
    let old = seen g.S.Shelf c.args.shelf.now in
    let new = seen g.S.Shelf c.read_exactly.new.shelf in
    reads_other (fault.NotASegment parts.Bounds) old new (other_fault parts.Bounds) (reads_well c.in-Ok.bytes old new c.in-Ok.ensures.only_reads)

pub returns-in-Err-clause-part : goal.returns-in-Err-clause-part
returns-in-Err-clause-part g c = λ p fault_is.
    let read = c.args.read.now in
    let table = c.args.table.now in
    let name = c.args.name.now in
    let is = c.requires.front in
    let size = get_or c.sizes.result.now 0 0 in
    let start : c.len-start.result ≡ front_size table name = omega (arith, c.len-start.ensures, read.bytes.ok, front_length table name read.bytes.items is.size read.front is.front_is) in
    let both = bounds_within table name read.bytes.items is.size read.front size is.front_is (ap (λ xs. get_or xs 0 0) c.sizes.ensures) in
    let end : c.len-start.result + size ≡ bounds_end table name read.front = omega (arith, start, both.0) in
    let short = c.in-Err.ensures.short p fault_is in
    (inl short.0, bounds_cut table name c.args.file.now read.bytes.items (g.S.Shelf.held c.args.shelf.now) read.front c.len-start.result size (λ files. p ≡ parts.Bounds) is (omega (arith, end)) short.1)

pub returns-in_err-bounds-clause-part : goal.returns-in_err-bounds-clause-part
returns-in_err-bounds-clause-part g c =
    growth_bad (λ p. IsOpeningPart p × IfSome (g.S.Shelf.held c.args.shelf.now) (λ files. p ≡ parts.Bounds)) c.from_residual.result c.from_residual.ensures

pub returns-in-Some-clause-part : goal.returns-in-Some-clause-part
returns-in-Some-clause-part g c = tt

pub returns-clause-part : goal.returns-clause-part
returns-clause-part g c = λ p is.
    let same : p ≡ parts.Bounds = cc in
    (inr same, told_so (g.S.Shelf.held c.args.shelf.now) (p ≡ parts.Bounds) same)
