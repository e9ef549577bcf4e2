use Rattle.std.proofs.Common.{◌≡◌, Ok, ap, ◌∙◌, sym, subst, arith}
use Rattle.std.specs.Int.{w64, w128, from_be_bytes, cast_signed, cast_unsigned}
use Rattle.std.proofs.lemmas.Int.{to_z-of_z}
use Rattle.agg_laws.specs.Numbers.{AverageStored}
use Rattle.agg_laws.specs.laws.Averages as laws
use Rattle.agg_laws.proofs.averages.AverageAggregator.take.Goals as goal

pub returns-then-is_stored-clause-found : goal.returns-then-is_stored-clause-found
returns-then-is_stored-clause-found c =
    let same : cast_signed w128 (cast_unsigned w128 c.read_i128.result)
    ≡ c.read_i128.result =
    to_z-of_z w128 c.read_i128.result (record { sfits = c.read_i128.type_inv }) in
    let front = ap (λ b. cast_signed w128 (from_be_bytes w128 b)) c.split_at.ensures.front in
    let back = ap (from_be_bytes w64) c.split_at.ensures.back in (
      c.is_stored.ensures.0 c.if-is_stored.true,
      laws.written c.args.bytes.now
          (cast_signed w128 (cast_unsigned w128 c.read_i128.result)) c.read_u64.result c.requires
          (λ i. omega (arith, c.type_inv.bytes i))
          (same ∙ c.read_i128.ensures ∙ front) (c.read_u64.ensures ∙ back),
    )

pub returns-then-is_stored-clause-again : goal.returns-then-is_stored-clause-again
returns-then-is_stored-clause-again c v stored is =
    let same : cast_signed w128 (cast_unsigned w128 c.read_i128.result)
    ≡ c.read_i128.result =
    to_z-of_z w128 c.read_i128.result (record { sfits = c.read_i128.type_inv }) in
    let front = ap (λ b. cast_signed w128 (from_be_bytes w128 b)) c.split_at.ensures.front in
    let back = ap (from_be_bytes w64) c.split_at.ensures.back in
    ap Ok (laws.read c.args.bytes.now
    (cast_signed w128 (cast_unsigned w128 c.read_i128.result)) c.read_u64.result
    (same ∙ c.read_i128.ensures ∙ front) (c.read_u64.ensures ∙ back) v stored is)

pub returns-else-is_stored-clause-again : goal.returns-else-is_stored-clause-again
returns-else-is_stored-clause-again c v stored is =
    let same : cast_signed w128 (cast_unsigned w128 c.read_i128.result)
    ≡ c.read_i128.result =
    to_z-of_z w128 c.read_i128.result (record { sfits = c.read_i128.type_inv }) in
    let front = ap (λ b. cast_signed w128 (from_be_bytes w128 b)) c.split_at.ensures.front in
    let back = ap (from_be_bytes w64) c.split_at.ensures.back in
    let value = laws.read c.args.bytes.now
    (cast_signed w128 (cast_unsigned w128 c.read_i128.result)) c.read_u64.result
    (same ∙ c.read_i128.ensures ∙ front) (c.read_u64.ensures ∙ back) v stored is in
    let yes = c.is_stored.ensures.1 (subst AverageStored (sym value) stored) in
    let no = c.if-is_stored.false in
    cc
