use Rattle.std.proofs.Common.{◌≡◌, map, take}
use Rattle.serving.specs.Aside.{stands_aside}
use Rattle.serving.proofs.aside.each_aside.Given as goal

abbrev pub invariant-files : goal.invariant-files
invariant-files l = l.own.items ≡ map (stands_aside l.file l.kept) (take l.at l.files)
