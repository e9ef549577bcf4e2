use Rattle.std.proofs.Common.{◌≡◌, ◌+◌, ◌*◌, Vec, Global, length, arith}
use Rattle.outside.specs.Seen as outside
use Rattle.outside.specs.Seen.{seen}
use Rattle.value_ids.specs.Coding.{AreBelow, values_at}
use Rattle.value_ids.specs.Dictionary.{Distinct}
use Rattle.values.specs.declared.value.Value.{Value}
use Rattle.segment_head.specs.Heads.{Seen}
use Rattle.segment_head.specs.Lookups.{OfColumn}
use Rattle.segment_head.proofs.LookupLemmas.{IsFaultOf, IsFound, lookup_err, lookup_logs, lookup_ok, not_true, where_err, where_of, where_over}
use Rattle.segment_head.proofs.head.Head.values.Goals as goal

pub returns-in-Err-clause-reads : goal.returns-in-Err-clause-reads
returns-in-Err-clause-reads g c =
    let P : Vec Value Global → Distinct → Type 0 = λ values d. values.items ≡ values_at d.values c.args.ids.now in
    let Whole : Vec Value Global → Seen → Type 0 = λ a. OfColumn c.args.column (P a) in
    let old : outside.Seen = seen g.S.Shelf c.args.shelf.now in
    let mid : outside.Seen = seen g.S.Shelf c.in_file.new.shelf in
    where_err _ Whole (OfColumn c.args.column (λ d. AreBelow (length d.values) c.args.ids.now)) c.args.table.now c.args.self.now old mid c.in-Err.fault c.in-Err.ensures.reads

pub returns-in-Ok-values-clause-reads : goal.returns-in-Ok-values-clause-reads
returns-in-Ok-values-clause-reads g c =
    let P : Vec Value Global → Distinct → Type 0 = λ values d. values.items ≡ values_at d.values c.args.ids.now in
    let Whole : Vec Value Global → Seen → Type 0 = λ a. OfColumn c.args.column (P a) in
    let old : outside.Seen = seen g.S.Shelf c.args.shelf.now in
    let mid : outside.Seen = seen g.S.Shelf c.in_file.new.shelf in
    let new : outside.Seen = seen g.S.Shelf c.values.new.shelf in
    let l = c.in-Ok.dictionary in
    let is : IsFound c.args.table.now c.args.self.now c.args.column l old mid = record { column_is = c.requires; place = c.in-Ok.ensures.place; kind = c.in-Ok.ensures.kind; reads = c.in-Ok.ensures.reads } in
    where_of Whole (OfColumn c.args.column (λ d. AreBelow (length d.values) c.args.ids.now)) c.args.table.now c.args.self.now old new c.in-Ok-values.values (lookup_ok c.args.table.now c.args.self.now c.args.column l old mid new P c.in-Ok-values.values is c.in-Ok-values.ensures.values c.in-Ok-values.ensures.looks.only_reads)

pub returns-clause-reads : goal.returns-clause-reads
returns-clause-reads g c =
    let P : Vec Value Global → Distinct → Type 0 = λ values d. values.items ≡ values_at d.values c.args.ids.now in
    let Whole : Vec Value Global → Seen → Type 0 = λ a. OfColumn c.args.column (P a) in
    let old : outside.Seen = seen g.S.Shelf c.args.shelf.now in
    let mid : outside.Seen = seen g.S.Shelf c.in_file.new.shelf in
    let new : outside.Seen = seen g.S.Shelf c.values.new.shelf in
    let l = c.in-Ok.dictionary in
    let is : IsFound c.args.table.now c.args.self.now c.args.column l old mid = record { column_is = c.requires; place = c.in-Ok.ensures.place; kind = c.in-Ok.ensures.kind; reads = c.in-Ok.ensures.reads } in
    let of : IsFaultOf c.args.column c.in-Err-values.fault c.of_lookup.result = record { bad = c.of_lookup.ensures.bad; memory = c.of_lookup.ensures.memory; read = c.of_lookup.ensures.read } in
    where_err Whole Whole (OfColumn c.args.column (λ d. AreBelow (length d.values) c.args.ids.now)) c.args.table.now c.args.self.now old new c.of_lookup.result (lookup_err c.args.table.now c.args.self.now c.args.column l old mid new Whole c.in-Err-values.fault c.of_lookup.result is of c.in-Err-values.ensures.looks.refused c.in-Err-values.ensures.looks.only_reads)

pub returns-in-Ok-values-clause-log : goal.returns-in-Ok-values-clause-log
returns-in-Ok-values-clause-log g c =
    let old : outside.Seen = seen g.S.Shelf c.args.shelf.now in
    let mid : outside.Seen = seen g.S.Shelf c.in_file.new.shelf in
    let new : outside.Seen = seen g.S.Shelf c.values.new.shelf in
    let l = c.in-Ok.dictionary in
    let is : IsFound c.args.table.now c.args.self.now c.args.column l old mid = record { column_is = c.requires; place = c.in-Ok.ensures.place; kind = c.in-Ok.ensures.kind; reads = c.in-Ok.ensures.reads } in
    lookup_logs c.args.table.now c.args.self.now c.args.column l old mid new (528388 * length c.args.ids.now) (4 + 528388 * length c.args.ids.now) is c.in-Ok.ensures.log c.in-Ok-values.ensures.looks.log (omega arith)

pub returns-clause-log : goal.returns-clause-log
returns-clause-log g c =
    let old : outside.Seen = seen g.S.Shelf c.args.shelf.now in
    let mid : outside.Seen = seen g.S.Shelf c.in_file.new.shelf in
    let new : outside.Seen = seen g.S.Shelf c.values.new.shelf in
    let l = c.in-Ok.dictionary in
    let is : IsFound c.args.table.now c.args.self.now c.args.column l old mid = record { column_is = c.requires; place = c.in-Ok.ensures.place; kind = c.in-Ok.ensures.kind; reads = c.in-Ok.ensures.reads } in
    lookup_logs c.args.table.now c.args.self.now c.args.column l old mid new (528388 * length c.args.ids.now) (4 + 528388 * length c.args.ids.now) is c.in-Ok.ensures.log c.in-Err-values.ensures.looks.log (omega arith)

pub returns-then-not-are_below-clause-reads : goal.returns-then-not-are_below-clause-reads
returns-then-not-are_below-clause-reads g c =
    let Whole : Vec Value Global → Seen → Type 0 = λ a. OfColumn c.args.column (λ d. a.items ≡ values_at d.values c.args.ids.now) in
    let old : outside.Seen = seen g.S.Shelf c.args.shelf.now in
    let mid : outside.Seen = seen g.S.Shelf c.in_file.new.shelf in
    let l = c.in-Ok.dictionary in
    let is : IsFound c.args.table.now c.args.self.now c.args.column l old mid = record { column_is = c.requires; place = c.in-Ok.ensures.place; kind = c.in-Ok.ensures.kind; reads = c.in-Ok.ensures.reads } in
    where_over Whole c.args.table.now c.args.self.now c.args.column c.args.ids.now l old mid is (λ below. not_true (c.if-not-are_below.ensures.1 below))
