use Rattle.std.proofs.Common.{◌≡◌, ◌∙◌, ◌+◌, length, take, sum, ap, arith}
use Rattle.segment_file.specs.Parts.{head_sections}
use Rattle.segment_file.proofs.Counts.{head_count}
use Rattle.segment_file.proofs.front.Front.head_size.Goals as goal

pub returns : goal.returns
returns c =
    let table = c.args.table.now in
    let count : c.len.result + c.len-2.result + 1 ≡ length (head_sections table) = omega (arith, c.len.ensures, c.len-2.ensures, head_count table) in
    let sizes : c.deref.result.now ≡ c.args.self.now.sizes = c.deref.ensures.value ∙ ap (λ g. g.sizes) c.self.view_is in
    c.total.ensures ∙ (λ i. sum (take (count i) (sizes i)))
