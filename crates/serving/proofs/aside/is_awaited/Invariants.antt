use Rattle.std.proofs.Common.{◌≡◌, false, take}
use Rattle.serving.specs.Aside.{is_awaited_in}
use Rattle.serving.proofs.aside.is_awaited.Given as goal

abbrev pub invariant-cursors : goal.invariant-cursors
invariant-cursors l = is_awaited_in l.file (take l.at l.cursors) ≡ false
