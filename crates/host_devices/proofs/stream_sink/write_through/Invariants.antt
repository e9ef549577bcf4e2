use Rattle.std.proofs.Common.{◌≤◌, length, take}
use Rattle.std.specs.Io.KnownBytes.{Appends}
use Rattle.host_devices.proofs.stream_sink.write_through.Given as goal

abbrev pub invariant-pieces : goal.invariant-pieces
invariant-pieces g l = record {
  within : l.done ≤ length l.bytes;
  told : Appends (g.W.Write.contents l.fn.stream) (g.W.Write.contents l.stream) (take l.done l.bytes);
}
