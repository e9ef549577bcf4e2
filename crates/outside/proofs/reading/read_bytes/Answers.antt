use Rattle.std.proofs.Common.{◌≡◌, ◌+◌, length, ap, arith, subst, sym, refl, ◌∙◌}
use Rattle.std.proofs.lemmas.Grind.{common_steps}
use Rattle.outside.specs.Reads.{LogsFilled, LogsUpTo}
use Rattle.outside.proofs.ReadLemmas.{filled-bytes, logs-none, on-err}
use Rattle.outside.proofs.reading.read_bytes.Goals as goal

pub returns-clause-bytes : goal.returns-clause-bytes
returns-clause-bytes g c =
    let lengths : length c.read_into.new.into ≡ c.in_ok-bytes.bytes.len = omega (arith, c.read_into.auto.into, c.deref_mut.ensures.len) in
    filled-bytes (g.S.Shelf.held c.args.shelf.now) c.args.name.now c.args.offset c.in_ok-read.read c.args.count c.in_ok-bytes.bytes.len c.read_into.new.into _ c.from_vec.result lengths c.in_ok-bytes.ensures (c.from_vec.ensures ∙ c.truncate.ensures.items) c.in_ok-read.ensures.front

pub returns-clause-log : goal.returns-clause-log
returns-clause-log g c =
    let name = c.args.name.now in
    let offset = c.args.offset in
    let old = g.S.Shelf.log c.args.shelf.now in
    let new = g.S.Shelf.log c.read_into.new.shelf in
    let cut : length c.from_vec.result ≡ c.in_ok-read.read = grind (arith, common_steps, ap length c.from_vec.ensures, c.truncate.ensures.len, c.in_ok-read.ensures.bound, c.deref_mut.ensures.len) in
    let size : length c.deref_mut.result.now ≡ c.args.count = omega (arith, c.deref_mut.ensures.len, c.in_ok-bytes.ensures) in
    subst (λ n. LogsFilled name offset (offset + n) (offset + c.args.count) old new) (sym cut)
    (subst (λ n. LogsFilled name offset (offset + c.in_ok-read.read) (offset + n) old new) size c.in_ok-read.ensures.log)

pub returns-in_err-bytes-clause-log_of_fault : goal.returns-in_err-bytes-clause-log_of_fault
returns-in_err-bytes-clause-log_of_fault g c =
    let log = g.S.Shelf.log c.args.shelf.now in
    let offset = c.args.offset in
    let limit = offset + c.args.count in
    on-err c.from_residual.result (LogsUpTo c.args.name.now offset limit log log) (logs-none c.args.name.now offset limit log log (omega arith) refl)
