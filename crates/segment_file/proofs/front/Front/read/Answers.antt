use Rattle.std.proofs.Common.{◌≡◌, ◌∙◌, ◌+◌, Bool, true, false, length, sum, sym, ap, arith}
use Rattle.std.proofs.lemmas.Slice.Eq.{slice_eq-Decides}
use Rattle.std.proofs.lemmas.Bool.Decides.{Decides-eqb}
use Rattle.std.proofs.lemmas.Bool.{false≢true}
use Rattle.std.specs.Bool.{MatchBool}
use Rattle.table_schema.specs.ValidTable.{most_rows}
use Rattle.segment_file.proofs.Fronts.{no_other, said, said_is, sizes_count}
use Rattle.segment_file.proofs.front.Front.read.Goals as goal

differs : (answer : Bool) (P : Type 0) → MatchBool answer P (P → ⊥) → answer ≡ false → P → ⊥
differs true P h e p = false≢true (sym e)
differs false P h e p = h p

pub returns-then-rows-most_rows : goal.returns-then-rows-most_rows
returns-then-rows-most_rows c =
    let table = c.args.table.now in
    let name = c.args.name.now in
    let bytes = c.args.bytes.now in
    let ours = c.new-front.result in
    let is : ours ≡ said table name bytes = said_is table name bytes c.args.sections.now ours c.requires.sections (ap (λ f. f.format) c.new-front.ensures) (ap (λ f. f.rows) c.new-front.ensures ∙ c.four_at-rows.ensures) (ap (λ f. f.sizes) c.new-front.ensures ∙ c.in_ok-sizes.ensures) in
    no_other table name bytes c.args.file_size ours is (λ front. omega (arith, front.at_most, c.if-rows-most_rows.true, c.most_rows.ensures, ap most_rows c.len.ensures, ap (λ f. f.rows) c.new-front.ensures))

pub returns-then-not-ends_at : goal.returns-then-not-ends_at
returns-then-not-ends_at c =
    let table = c.args.table.now in
    let name = c.args.name.now in
    let bytes = c.args.bytes.now in
    let ours = c.new-front.result in
    let is : ours ≡ said table name bytes = said_is table name bytes c.args.sections.now ours c.requires.sections (ap (λ f. f.format) c.new-front.ensures) (ap (λ f. f.rows) c.new-front.ensures ∙ c.four_at-rows.ensures) (ap (λ f. f.sizes) c.new-front.ensures ∙ c.in_ok-sizes.ensures) in
    no_other table name bytes c.args.file_size ours is (λ front. differs c.ends_at.result _ c.ends_at.ensures c.if-not-ends_at.true (sym (front.whole ∙ ap (λ n. n + sum ours.sizes) (sym c.requires.size))))

pub write-requires-clause-each : goal.write-requires-clause-each
write-requires-clause-each c = ap (λ f. length f.sizes) c.new-front.ensures ∙ ap length c.in_ok-sizes.ensures ∙ sizes_count c.args.sections.now _

pub returns-then-eq : goal.returns-then-eq
returns-then-eq c =
    let table = c.args.table.now in
    let name = c.args.name.now in
    let bytes = c.args.bytes.now in
    let ours = c.new-front.result in
    let ends : length bytes + sum ours.sizes ≡ c.args.file_size = c.if-not-ends_at.ensures in
    let same : c.as_slice.result.now ≡ bytes = (slice_eq-Decides Decides-eqb c.as_slice.result.now bytes c.eq.result c.eq.ensures).0 c.if-eq.true in
    record {
      known = ap (λ f. f.format) c.new-front.ensures;
      at_most = omega (arith, c.if-rows-most_rows.false, c.most_rows.ensures, ap most_rows c.len.ensures, ap (λ f. f.rows) c.new-front.ensures);
      each = ap (λ f. length f.sizes) c.new-front.ensures ∙ ap length c.in_ok-sizes.ensures ∙ sizes_count c.args.sections.now _ ∙ ap length c.requires.sections;
      spelled = sym same ∙ c.as_slice.ensures.value ∙ c.in_ok-written.ensures;
      whole = sym ends ∙ ap (λ n. n + sum ours.sizes) c.requires.size;
      small = omega (arith, c.ranges.file_size.fits);
    }

pub returns-else-eq : goal.returns-else-eq
returns-else-eq c =
    let table = c.args.table.now in
    let name = c.args.name.now in
    let bytes = c.args.bytes.now in
    let ours = c.new-front.result in
    let is : ours ≡ said table name bytes = said_is table name bytes c.args.sections.now ours c.requires.sections (ap (λ f. f.format) c.new-front.ensures) (ap (λ f. f.rows) c.new-front.ensures ∙ c.four_at-rows.ensures) (ap (λ f. f.sizes) c.new-front.ensures ∙ c.in_ok-sizes.ensures) in
    no_other table name bytes c.args.file_size ours is (λ front. false≢true (sym c.if-eq.false ∙ (slice_eq-Decides Decides-eqb c.as_slice.result.now bytes c.eq.result c.eq.ensures).1 (c.as_slice.ensures.value ∙ c.in_ok-written.ensures ∙ sym front.spelled)))
