use Rattle.std.proofs.Common.{◌≡◌, [], take}
use Rattle.csv.specs.Records.{fields_of, partial_of}
use Rattle.broker_merge.proofs.text.fill_labels.Given as goal

abbrev pub invariant-loop-label : goal.invariant-loop-label
invariant-loop-label l = record {
  fields : fields_of l.line ≡ take l.label-index l.labels;
  partial : partial_of l.line ≡ [];
}
