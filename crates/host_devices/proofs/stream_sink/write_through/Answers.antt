use Rattle.std.proofs.Common.{arith, sym, subst, ◌≤◌, length, take, length-drop}
use Rattle.std.specs.Io.KnownBytes.{Appends}
use Rattle.host_devices.proofs.StreamLemmas.{Appends-more, Appends-kept, rest_whole}
use Rattle.host_devices.proofs.stream_sink.write_through.Goals as goal
use Rattle.host_devices.proofs.stream_sink.write_through.Goals.{in-Ok, in-Err}

pub pieces-preserved : goal.pieces-preserved
pieces-preserved g c =
    let i = c.pieces.invariant in
    let first = g.W.Write.contents c.args.stream.now in
    let before = g.W.Write.contents c.pieces.stream in
    let now = g.W.Write.contents c.write.new.self in
    let bytes = c.args.bytes.now in
    let done = c.pieces.done in
    elim c.match-write.branch [
      | in-Ok w ↦
          let rest = rest_whole bytes done in
          let fits = subst (λ xs. w.in-Ok.n ≤ length xs) rest w.in-Ok.ensures.bound in
          record {
            within = omega (arith, w.done-is, fits, length-drop done bytes);
            told = subst (λ k. Appends first now (take k bytes)) (sym w.done-is)
                (Appends-more first before now bytes done w.in-Ok.n i.told (subst (λ xs. Appends before now (take w.in-Ok.n xs)) rest w.in-Ok.ensures.bytes));
          }
      | in-Err w ↦ record {
        within = omega (arith, w.done-is);
        told = subst (λ k. Appends first now (take k bytes)) (sym w.done-is) (Appends-kept first before now (take done bytes) i.told w.in-Err.ensures.bytes);
      }
    ]
