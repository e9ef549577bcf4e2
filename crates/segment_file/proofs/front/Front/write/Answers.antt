use Rattle.std.proofs.Common.{◌≡◌, ◌∙◌, ◌+◌, ◌*◌, ◌++◌, length, sum, ap, arith}
use Rattle.segment_file.specs.Front.{counts_bytes, directory, extents_from, front_size}
use Rattle.segment_file.specs.Parts.{sections_of}
use Rattle.segment_file.proofs.Fronts.{front_written}
use Rattle.segment_file.proofs.Counts.{few_sections, head_count, some_sections}
use Rattle.segment_file.proofs.front.Front.write.Goals as goal

pub front_size-start-requires-clause-sections : goal.front_size-start-requires-clause-sections
front_size-start-requires-clause-sections c = omega (arith, few_sections c.args.table.now c.requires.valid, ap length c.requires.sections)

pub head_size-requires-clause-some : goal.head_size-requires-clause-some
head_size-requires-clause-some c =
    let table = c.args.table.now in
    omega (arith, c.requires.each, ap length c.requires.sections, some_sections table, head_count table)

pub overflow_cast-sections : goal.overflow_cast-sections
overflow_cast-sections c = omega (arith, few_sections c.args.table.now c.requires.valid, ap length c.requires.sections)

pub returns : goal.returns
returns c =
    let table = c.args.table.now in
    let name = c.args.name.now in
    let f = c.args.self.now in
    let sections = c.requires.sections in
    let start : c.front_size-start.result ≡ front_size table name = c.front_size-start.ensures ∙ ap (λ parts. 38 + length name + 19 * length parts) sections in
    let second : c.total.result ≡ sum f.sizes = c.total.ensures ∙ ap sum (c.deref.ensures.value ∙ ap (λ g. g.sizes) c.self.view_is) in
    let sizes : c.deref-2.result.now ≡ f.sizes = c.deref-2.ensures.value ∙ ap (λ g. g.sizes) c.self.view_is in
    let counts : c.push_counts.new.out.items ≡ c.push_title.new.out.items ++ counts_bytes (length table.schema.fields) (length (sections_of table)) (c.front_size-start.result + c.head_size.result) (c.front_size-start.result + c.total.result) =
    c.in_ok-push_counts.ensures
    ∙ (λ i. c.push_title.new.out.items ++ counts_bytes (c.len-fields.ensures i) (length (sections i)) (c.front_size-start.result + c.head_size.result) (c.front_size-start.result + c.total.result)) in
    let all : c.push_directory.new.out.items ≡ c.push_counts.new.out.items ++ directory (extents_from c.front_size-start.result (sections_of table) f.sizes) =
    c.in_ok-push_directory.ensures ∙ (λ i. c.push_counts.new.out.items ++ directory (extents_from c.front_size-start.result (sections i) (sizes i))) in
    front_written table name f c.front_size-start.result (c.front_size-start.result + c.head_size.result) (c.front_size-start.result + c.total.result) c.in_ok-out.out.items c.push_title.new.out.items c.push_counts.new.out.items c.push_directory.new.out.items
    start (λ i. start i + c.head_size.ensures i) (λ i. start i + second i) c.in_ok-out.ensures.items c.in_ok-push_title.ensures counts all

pub head_size-requires-clause-short : goal.head_size-requires-clause-short
head_size-requires-clause-short c = omega (arith, c.requires.short)

pub total-requires : goal.total-requires
total-requires c = omega (arith, c.requires.short, ap sum (c.deref.ensures.value ∙ ap (λ g. g.sizes) c.self.view_is))

pub push_directory-requires : goal.push_directory-requires
push_directory-requires c =
    let sizes : c.deref-2.result.now ≡ c.args.self.now.sizes = c.deref-2.ensures.value ∙ ap (λ g. g.sizes) c.self.view_is in
    let start : c.front_size-start.result ≡ front_size c.args.table.now c.args.name.now = c.front_size-start.ensures ∙ ap (λ parts. 38 + length c.args.name.now + 19 * length parts) c.requires.sections in
    record { each = ap length sizes ∙ c.requires.each; short = omega (arith, c.requires.short, ap sum sizes, start) }
