use Rattle.std.proofs.Common.{arith}
use Rattle.outside.specs.Seen as outside
use Rattle.outside.specs.Seen.{seen}
use Rattle.value_ids.specs.Ids.{Cuts}
use Rattle.value_ids.specs.Dictionary.{Distinct}
use Rattle.value_ids.specs.declared.cuts.Cut.{Cut}
use Rattle.segment_head.specs.Heads.{Seen}
use Rattle.segment_head.specs.Lookups.{OfColumn}
use Rattle.segment_head.proofs.LookupLemmas.{IsFaultOf, IsFound, lookup_err, lookup_logs, lookup_ok}
use Rattle.segment_head.proofs.head.Head.cut.Goals as goal

pub returns-in-Ok-cut-clause-reads : goal.returns-in-Ok-cut-clause-reads
returns-in-Ok-cut-clause-reads g c =
    let P : Cut → Distinct → Type 0 = λ cut d. Cuts d.values c.args.bound.now cut.from cut.to in
    let Whole : Cut → Seen → Type 0 = λ a. OfColumn c.args.column (P a) in
    let old : outside.Seen = seen g.S.Shelf c.args.shelf.now in
    let mid : outside.Seen = seen g.S.Shelf c.in_file.new.shelf in
    let new : outside.Seen = seen g.S.Shelf c.cut.new.shelf in
    let l = c.in-Ok.dictionary in
    let is : IsFound c.args.table.now c.args.self.now c.args.column l old mid = record { column_is = c.requires; place = c.in-Ok.ensures.place; kind = c.in-Ok.ensures.kind; reads = c.in-Ok.ensures.reads } in
    lookup_ok c.args.table.now c.args.self.now c.args.column l old mid new P c.in-Ok-cut.cut is c.in-Ok-cut.ensures.cut c.in-Ok-cut.ensures.looks.only_reads

pub returns-clause-reads : goal.returns-clause-reads
returns-clause-reads g c =
    let P : Cut → Distinct → Type 0 = λ cut d. Cuts d.values c.args.bound.now cut.from cut.to in
    let Whole : Cut → Seen → Type 0 = λ a. OfColumn c.args.column (P a) in
    let old : outside.Seen = seen g.S.Shelf c.args.shelf.now in
    let mid : outside.Seen = seen g.S.Shelf c.in_file.new.shelf in
    let new : outside.Seen = seen g.S.Shelf c.cut.new.shelf in
    let l = c.in-Ok.dictionary in
    let is : IsFound c.args.table.now c.args.self.now c.args.column l old mid = record { column_is = c.requires; place = c.in-Ok.ensures.place; kind = c.in-Ok.ensures.kind; reads = c.in-Ok.ensures.reads } in
    let of : IsFaultOf c.args.column c.in-Err-cut.fault c.of_lookup.result = record { bad = c.of_lookup.ensures.bad; memory = c.of_lookup.ensures.memory; read = c.of_lookup.ensures.read } in
    lookup_err c.args.table.now c.args.self.now c.args.column l old mid new Whole c.in-Err-cut.fault c.of_lookup.result is of c.in-Err-cut.ensures.looks.refused c.in-Err-cut.ensures.looks.only_reads

pub returns-in-Ok-cut-clause-log : goal.returns-in-Ok-cut-clause-log
returns-in-Ok-cut-clause-log g c =
    let old : outside.Seen = seen g.S.Shelf c.args.shelf.now in
    let mid : outside.Seen = seen g.S.Shelf c.in_file.new.shelf in
    let new : outside.Seen = seen g.S.Shelf c.cut.new.shelf in
    let l = c.in-Ok.dictionary in
    let is : IsFound c.args.table.now c.args.self.now c.args.column l old mid = record { column_is = c.requires; place = c.in-Ok.ensures.place; kind = c.in-Ok.ensures.kind; reads = c.in-Ok.ensures.reads } in
    lookup_logs c.args.table.now c.args.self.now c.args.column l old mid new (10920) (10924) is c.in-Ok.ensures.log c.in-Ok-cut.ensures.looks.log (omega arith)

pub returns-clause-log : goal.returns-clause-log
returns-clause-log g c =
    let old : outside.Seen = seen g.S.Shelf c.args.shelf.now in
    let mid : outside.Seen = seen g.S.Shelf c.in_file.new.shelf in
    let new : outside.Seen = seen g.S.Shelf c.cut.new.shelf in
    let l = c.in-Ok.dictionary in
    let is : IsFound c.args.table.now c.args.self.now c.args.column l old mid = record { column_is = c.requires; place = c.in-Ok.ensures.place; kind = c.in-Ok.ensures.kind; reads = c.in-Ok.ensures.reads } in
    lookup_logs c.args.table.now c.args.self.now c.args.column l old mid new (10920) (10924) is c.in-Ok.ensures.log c.in-Err-cut.ensures.looks.log (omega arith)
