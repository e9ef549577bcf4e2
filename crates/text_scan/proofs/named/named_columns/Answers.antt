use Rattle.std.proofs.Common.{◌≡◌, ◌++◌, List, Bool, drop, length, subst, sym, take, arith}
use Rattle.text_scan.specs.Named.{AreEnough}
use Rattle.text_scan.proofs.NamedLemmas.{all-enough, none-enough, take-front}
use Rattle.text_scan.proofs.named.named_columns.Goals as goal

pub returns-then-not-mark_all : goal.returns-then-not-mark_all
returns-then-not-mark_all c = subst (AreEnough c.args.query.now) (sym c.new.ensures.items) (none-enough c.args.query.now)

pub returns : goal.returns
returns c =
    let new : List Bool = c.mark_all.new.marks in
    let long : length new ≡ c.in_ok-marks.marks.len = omega arith in
    subst (AreEnough c.args.query.now) (sym (take-front new (drop (length new) c.in_ok-marks.marks.items) c.in_ok-marks.marks.len long)) (all-enough new c.args.query.now (c.mark_all.ensures c.if-not-mark_all.false))
