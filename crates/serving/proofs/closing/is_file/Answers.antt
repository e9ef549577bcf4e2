use Rattle.std.proofs.Common.{◌∙◌, nat_eq, ap, sym}
use Rattle.std.specs.Cmp.Lexicographic.{pointwise, texts_ties}
use Rattle.serving.specs.Closed.{is_file}
use Rattle.serving.proofs.closing.is_file.Goals as goal

pub returns-in-Some : goal.returns-in-Some
returns-in-Some c = c.eq.ensures ∙ (λ i. pointwise nat_eq (c.as_str.ensures i) (c.as_str-in-Some.ensures i)) ∙ texts_ties c.args.name.now c.in-Some.file ∙ ap (is_file c.args.name.now) (sym c.in-Some.is)
