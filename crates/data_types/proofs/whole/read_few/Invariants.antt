use Rattle.std.proofs.Common.{◌≡◌, ◌<◌, ◌^◌, drop}
use Rattle.data_types.proofs.Digits.{number_after}
use Rattle.data_types.proofs.whole.read_few.Given as goal

abbrev pub invariant-loop-byte : goal.invariant-loop-byte
invariant-loop-byte l = record {
  same : number_after l.number (drop l.byte-index l.digits) ≡ number_after 0 l.digits;
  small : l.number < 10 ^ l.byte-index;
}
