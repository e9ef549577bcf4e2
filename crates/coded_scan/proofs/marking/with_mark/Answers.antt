use Rattle.std.proofs.Common.{◌*◌, ◌^◌, ◌%◌, ◌∙◌, bit_or, ap}
use Rattle.coded_scan.proofs.MarkSteps.{flag, one_mark}
use Rattle.coded_scan.proofs.marking.with_mark.Goals as goal

pub returns : goal.returns
returns c =
    one_mark c.args.word c.args.at _ c.args.mark c.requires.at c.requires.word
    (ap (λ b. bit_or c.args.word (b * 2 ^ c.args.at % 2 ^ 64)) (c.from.ensures ∙ flag c.args.mark))
