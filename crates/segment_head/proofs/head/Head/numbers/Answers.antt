use Rattle.std.proofs.Common.{◌≡◌, ◌+◌, ◌*◌, ℤ, Vec, Global, length, map, arith}
use Rattle.outside.specs.Seen as outside
use Rattle.outside.specs.Seen.{seen}
use Rattle.values.specs.declared.value.Value.TheVariants as value
use Rattle.value_ids.specs.Coding.{AreBelow, values_at}
use Rattle.value_ids.specs.Dictionary.{Distinct}
use Rattle.segment_head.specs.Heads.{Seen}
use Rattle.segment_head.specs.Lookups.{OfColumn}
use Rattle.segment_head.proofs.LookupLemmas.{IsFaultOf, IsFound, lookup_err, lookup_logs, lookup_ok, not_true, where_err, where_of, where_over}
use Rattle.segment_head.proofs.head.Head.numbers.Goals as goal

pub returns-in-Err-clause-reads : goal.returns-in-Err-clause-reads
returns-in-Err-clause-reads g c =
    let P : Vec ℤ Global → Distinct → Type 0 = λ numbers d. map value.Whole numbers.items ≡ values_at d.values c.args.ids.now in
    let Whole : Vec ℤ Global → Seen → Type 0 = λ a. OfColumn c.args.column (P a) in
    let old : outside.Seen = seen g.S.Shelf c.args.shelf.now in
    let mid : outside.Seen = seen g.S.Shelf c.in_file.new.shelf in
    where_err _ Whole (OfColumn c.args.column (λ d. AreBelow (length d.values) c.args.ids.now)) c.args.table.now c.args.self.now old mid c.in-Err.fault c.in-Err.ensures.reads

pub returns-in-Ok-numbers_at-clause-reads : goal.returns-in-Ok-numbers_at-clause-reads
returns-in-Ok-numbers_at-clause-reads g c =
    let P : Vec ℤ Global → Distinct → Type 0 = λ numbers d. map value.Whole numbers.items ≡ values_at d.values c.args.ids.now in
    let Whole : Vec ℤ Global → Seen → Type 0 = λ a. OfColumn c.args.column (P a) in
    let old : outside.Seen = seen g.S.Shelf c.args.shelf.now in
    let mid : outside.Seen = seen g.S.Shelf c.in_file.new.shelf in
    let new : outside.Seen = seen g.S.Shelf c.numbers_at.new.shelf in
    let l = c.in-Ok.dictionary in
    let is : IsFound c.args.table.now c.args.self.now c.args.column l old mid = record { column_is = c.requires.column; place = c.in-Ok.ensures.place; kind = c.in-Ok.ensures.kind; reads = c.in-Ok.ensures.reads } in
    where_of Whole (OfColumn c.args.column (λ d. AreBelow (length d.values) c.args.ids.now)) c.args.table.now c.args.self.now old new c.in-Ok-numbers_at.numbers (lookup_ok c.args.table.now c.args.self.now c.args.column l old mid new P c.in-Ok-numbers_at.numbers is c.in-Ok-numbers_at.ensures.numbers c.in-Ok-numbers_at.ensures.looks.only_reads)

pub returns-clause-reads : goal.returns-clause-reads
returns-clause-reads g c =
    let P : Vec ℤ Global → Distinct → Type 0 = λ numbers d. map value.Whole numbers.items ≡ values_at d.values c.args.ids.now in
    let Whole : Vec ℤ Global → Seen → Type 0 = λ a. OfColumn c.args.column (P a) in
    let old : outside.Seen = seen g.S.Shelf c.args.shelf.now in
    let mid : outside.Seen = seen g.S.Shelf c.in_file.new.shelf in
    let new : outside.Seen = seen g.S.Shelf c.numbers_at.new.shelf in
    let l = c.in-Ok.dictionary in
    let is : IsFound c.args.table.now c.args.self.now c.args.column l old mid = record { column_is = c.requires.column; place = c.in-Ok.ensures.place; kind = c.in-Ok.ensures.kind; reads = c.in-Ok.ensures.reads } in
    let of : IsFaultOf c.args.column c.in-Err-numbers_at.fault c.of_lookup.result = record { bad = c.of_lookup.ensures.bad; memory = c.of_lookup.ensures.memory; read = c.of_lookup.ensures.read } in
    where_err Whole Whole (OfColumn c.args.column (λ d. AreBelow (length d.values) c.args.ids.now)) c.args.table.now c.args.self.now old new c.of_lookup.result (lookup_err c.args.table.now c.args.self.now c.args.column l old mid new Whole c.in-Err-numbers_at.fault c.of_lookup.result is of c.in-Err-numbers_at.ensures.looks.refused c.in-Err-numbers_at.ensures.looks.only_reads)

pub returns-in-Ok-numbers_at-clause-log : goal.returns-in-Ok-numbers_at-clause-log
returns-in-Ok-numbers_at-clause-log g c =
    let old : outside.Seen = seen g.S.Shelf c.args.shelf.now in
    let mid : outside.Seen = seen g.S.Shelf c.in_file.new.shelf in
    let new : outside.Seen = seen g.S.Shelf c.numbers_at.new.shelf in
    let l = c.in-Ok.dictionary in
    let is : IsFound c.args.table.now c.args.self.now c.args.column l old mid = record { column_is = c.requires.column; place = c.in-Ok.ensures.place; kind = c.in-Ok.ensures.kind; reads = c.in-Ok.ensures.reads } in
    lookup_logs c.args.table.now c.args.self.now c.args.column l old mid new (8192 * length c.args.ids.now) (4 + 8192 * length c.args.ids.now) is c.in-Ok.ensures.log c.in-Ok-numbers_at.ensures.looks.log (omega arith)

pub returns-clause-log : goal.returns-clause-log
returns-clause-log g c =
    let old : outside.Seen = seen g.S.Shelf c.args.shelf.now in
    let mid : outside.Seen = seen g.S.Shelf c.in_file.new.shelf in
    let new : outside.Seen = seen g.S.Shelf c.numbers_at.new.shelf in
    let l = c.in-Ok.dictionary in
    let is : IsFound c.args.table.now c.args.self.now c.args.column l old mid = record { column_is = c.requires.column; place = c.in-Ok.ensures.place; kind = c.in-Ok.ensures.kind; reads = c.in-Ok.ensures.reads } in
    lookup_logs c.args.table.now c.args.self.now c.args.column l old mid new (8192 * length c.args.ids.now) (4 + 8192 * length c.args.ids.now) is c.in-Ok.ensures.log c.in-Err-numbers_at.ensures.looks.log (omega arith)

pub returns-then-not-are_below-clause-reads : goal.returns-then-not-are_below-clause-reads
returns-then-not-are_below-clause-reads g c =
    let Whole : Vec ℤ Global → Seen → Type 0 = λ a. OfColumn c.args.column (λ d. map value.Whole a.items ≡ values_at d.values c.args.ids.now) in
    let old : outside.Seen = seen g.S.Shelf c.args.shelf.now in
    let mid : outside.Seen = seen g.S.Shelf c.in_file.new.shelf in
    let l = c.in-Ok.dictionary in
    let is : IsFound c.args.table.now c.args.self.now c.args.column l old mid = record { column_is = c.requires.column; place = c.in-Ok.ensures.place; kind = c.in-Ok.ensures.kind; reads = c.in-Ok.ensures.reads } in
    where_over Whole c.args.table.now c.args.self.now c.args.column c.args.ids.now l old mid is (λ below. not_true (c.if-not-are_below.ensures.1 below))
