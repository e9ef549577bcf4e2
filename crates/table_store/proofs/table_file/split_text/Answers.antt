use Rattle.std.proofs.Common.{◌≡◌, ◌<◌, ◌∙◌, ℕ, List, take, length, refl, subst, arith, MatchOption}
use Rattle.std.specs.Int.{w32, from_be_bytes}
use Rattle.std.specs.List.{IsSplitAt}
use Rattle.table_store.proofs.TableFileLemmas.{splits}
use Rattle.table_store.proofs.table_file.split_text.Goals as goal

pub returns : goal.returns
returns c =
    let bytes : List ℕ = c.args.bytes.now in
    let number : c.from_be_bytes-length.result ≡ from_be_bytes w32 (take 4 bytes) =
    c.from_be_bytes-length.ensures ∙ (λ i. from_be_bytes w32 (c.in_ok-length.ensures.cases.0 i)) in
    splits (λ p. p.0.now) (λ p. p.1.now) bytes c.from_be_bytes-length.result c.split_at_checked.result (λ i. omega (arith, c.type_inv.bytes i))
    (c.in_ok-length.ensures.variant.0 refl) number (omega (arith, c.from.ensures, c.if-from-gt-TEXT_LIMIT.false))
    (subst (λ rest. MatchOption c.split_at_checked.result (length rest < c.from_be_bytes-length.result) (λ p. IsSplitAt rest c.from_be_bytes-length.result p.0.now p.1.now)) c.in_ok-length.ensures.cases.1 c.split_at_checked.ensures.cases)
