use Rattle.std.proofs.Common.{◌≡◌, drop}
use Rattle.agg_laws.specs.Tree.{set_star}
use Rattle.state_columns.specs.Packing.{pack, AreWithin}
use Rattle.state_columns.proofs.packing.packed.Given as goal

abbrev pub invariant-loop-at : goal.invariant-loop-at
invariant-loop-at l = record {
  value : pack l.key (drop l.at l.spans) (drop l.at (set_star l.level l.ids))
      ≡ pack 0 l.spans (set_star l.level l.ids);
  within : AreWithin (drop l.at l.spans) (drop l.at (set_star l.level l.ids))
      → AreWithin l.spans (set_star l.level l.ids);
}
