use Rattle.std.proofs.Common.{◌≡◌, ◌+◌, ◌*◌, ℕ, List, Option, Some, None, length, arith}
use Rattle.outside.specs.Seen as outside
use Rattle.outside.specs.Seen.{seen}
use Rattle.value_ids.specs.Ids.{matching}
use Rattle.dictionary_reading.specs.Bounds.{bounds_of}
use Rattle.value_ids.specs.Dictionary.{Distinct}
use Rattle.segment_head.specs.Heads.{Seen}
use Rattle.segment_head.specs.Lookups.{OfColumn}
use Rattle.segment_head.specs.declared.column_ids.Matched.{Matched}
use Rattle.outside.specs.Files.{Files}
use Rattle.dictionary_reading.specs.InFile.{OfDictionary}
use Rattle.dictionary_reading.specs.declared.in_file.FileDictionary.{FileDictionary}
use Rattle.outside.proofs.SeenLemmas.{reads_so}
use Rattle.segment_head.proofs.LookupLemmas.{reads_looked, IsFaultOf, IsFound, lookup_err, lookup_logs, lookup_ok}
use Rattle.segment_head.proofs.head.Head.matched.Goals as goal

-- with how many values there are
with_count : (l : FileDictionary) (held : Option Files) (P : Distinct → Type 0) → OfDictionary l held P → OfDictionary l held (λ d. (l.count ≡ length d.values) × P d)
with_count l None P told = tt
with_count l (Some files) P told = λ d spelled count. (count, told d spelled count)

pub returns-in-Ok-ids_matching-clause-reads : goal.returns-in-Ok-ids_matching-clause-reads
returns-in-Ok-ids_matching-clause-reads g c =
    let P : Matched → Distinct → Type 0 = λ m d. (m.count ≡ length d.values) × (m.ids ≡ matching c.args.test.now d.values) in
    let Whole : Matched → Seen → Type 0 = λ a. OfColumn c.args.column (P a) in
    let old : outside.Seen = seen g.S.Shelf c.args.shelf.now in
    let mid : outside.Seen = seen g.S.Shelf c.in_file.new.shelf in
    let new : outside.Seen = seen g.S.Shelf c.ids_matching.new.shelf in
    let l = c.in-Ok.dictionary in
    let is : IsFound c.args.table.now c.args.self.now c.args.column l old mid = record { column_is = c.requires; place = c.in-Ok.ensures.place; kind = c.in-Ok.ensures.kind; reads = c.in-Ok.ensures.reads } in
    lookup_ok c.args.table.now c.args.self.now c.args.column l old mid new P (record { count = l.count; ids = c.in-Ok-ids_matching.ids }) is (with_count l mid.held (λ d. c.in-Ok-ids_matching.ids ≡ matching c.args.test.now d.values) c.in-Ok-ids_matching.ensures.ids) (reads_so ⊥ _ mid new (λ e. absurd cc) (λ e. absurd e) (reads_looked c.in-Ok-ids_matching.ids mid new c.in-Ok-ids_matching.ensures.looks.only_reads))

pub returns-clause-reads : goal.returns-clause-reads
returns-clause-reads g c =
    let P : Matched → Distinct → Type 0 = λ m d. (m.count ≡ length d.values) × (m.ids ≡ matching c.args.test.now d.values) in
    let Whole : Matched → Seen → Type 0 = λ a. OfColumn c.args.column (P a) in
    let old : outside.Seen = seen g.S.Shelf c.args.shelf.now in
    let mid : outside.Seen = seen g.S.Shelf c.in_file.new.shelf in
    let new : outside.Seen = seen g.S.Shelf c.ids_matching.new.shelf in
    let l = c.in-Ok.dictionary in
    let is : IsFound c.args.table.now c.args.self.now c.args.column l old mid = record { column_is = c.requires; place = c.in-Ok.ensures.place; kind = c.in-Ok.ensures.kind; reads = c.in-Ok.ensures.reads } in
    let of : IsFaultOf c.args.column c.in-Err-ids_matching.fault c.of_lookup.result = record { bad = c.of_lookup.ensures.bad; memory = c.of_lookup.ensures.memory; read = c.of_lookup.ensures.read } in
    lookup_err c.args.table.now c.args.self.now c.args.column l old mid new Whole c.in-Err-ids_matching.fault c.of_lookup.result is of c.in-Err-ids_matching.ensures.looks.refused c.in-Err-ids_matching.ensures.looks.only_reads

pub returns-in-Ok-ids_matching-clause-log : goal.returns-in-Ok-ids_matching-clause-log
returns-in-Ok-ids_matching-clause-log g c =
    let old : outside.Seen = seen g.S.Shelf c.args.shelf.now in
    let mid : outside.Seen = seen g.S.Shelf c.in_file.new.shelf in
    let new : outside.Seen = seen g.S.Shelf c.ids_matching.new.shelf in
    let l = c.in-Ok.dictionary in
    let is : IsFound c.args.table.now c.args.self.now c.args.column l old mid = record { column_is = c.requires; place = c.in-Ok.ensures.place; kind = c.in-Ok.ensures.kind; reads = c.in-Ok.ensures.reads } in
    lookup_logs c.args.table.now c.args.self.now c.args.column l old mid new (10920 * length (bounds_of c.args.test.now)) (4 + 10920 * length (bounds_of c.args.test.now)) is c.in-Ok.ensures.log c.in-Ok-ids_matching.ensures.looks.log (omega arith)

pub returns-clause-log : goal.returns-clause-log
returns-clause-log g c =
    let old : outside.Seen = seen g.S.Shelf c.args.shelf.now in
    let mid : outside.Seen = seen g.S.Shelf c.in_file.new.shelf in
    let new : outside.Seen = seen g.S.Shelf c.ids_matching.new.shelf in
    let l = c.in-Ok.dictionary in
    let is : IsFound c.args.table.now c.args.self.now c.args.column l old mid = record { column_is = c.requires; place = c.in-Ok.ensures.place; kind = c.in-Ok.ensures.kind; reads = c.in-Ok.ensures.reads } in
    lookup_logs c.args.table.now c.args.self.now c.args.column l old mid new (10920 * length (bounds_of c.args.test.now)) (4 + 10920 * length (bounds_of c.args.test.now)) is c.in-Ok.ensures.log c.in-Err-ids_matching.ensures.looks.log (omega arith)
