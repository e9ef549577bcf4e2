use Rattle.std.proofs.Common.{◌<◌, ℕ, length, subst, sym}
use Rattle.csv_ingest.specs.Plain.{ArePlain}
use Rattle.csv_ingest.proofs.MarkedLines.{mark-within}
use Rattle.csv_ingest.proofs.PartRows.{last-within}
use Rattle.csv_ingest.proofs.parts.Part.is_plain.Goals as goal

pub are_short-requires : goal.are_short-requires
are_short-requires c = last-within c.args.self c.requires.is c.requires.some

pub are_plain-requires : goal.are_plain-requires
are_plain-requires c =
    let part = c.args.self in
    subst (λ (n : ℕ). n < length part.text.now) (sym c.len.ensures) (mark-within part.text.now part.places.now c.requires.is.marks part.last (last-within part c.requires.is c.requires.some))

pub returns-then-are_short : goal.returns-then-are_short
returns-then-are_short c = λ e. record {
  bytes = subst (ArePlain c.args.self.text.now) c.len.ensures (c.are_plain.ensures e);
  short = c.are_short.ensures c.if-are_short.true;
}
