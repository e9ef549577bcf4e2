use Rattle.std.proofs.Common.{◌≡◌, map, take}
use Rattle.serving.specs.Aside.{files_aside}
use Rattle.serving.proofs.aside.all_aside.Given as goal

abbrev pub invariant-cursors : goal.invariant-cursors
invariant-cursors l = map (λ files. files.items) l.all.items ≡ files_aside l.file l.kept (take l.at l.cursors)
