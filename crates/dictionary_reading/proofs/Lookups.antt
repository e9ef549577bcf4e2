-- What is read of a dictionary that lies at a place.
use Rattle.std.proofs.Common.{◌≡◌, ◌≢◌, ◌∙◌, ◌<◌, ◌≤◌, ◌+◌, ◌-◌, ◌*◌, ◌^◌, ◌⊎◌, ℕ, List, length, Option, Some, None, IfSome, refl, sym, ap, subst, arith, inl, inr}
use Rattle.std.specs.List.{All}
use Rattle.outside.specs.Files.{Files}
use Rattle.outside.specs.declared.place.Place.{Place}
use Rattle.data_types.specs.declared.kind.FieldKind.{FieldKind}
use Rattle.data_types.specs.declared.kind.FieldKind.TheVariants as kind
use Rattle.values.specs.declared.value.Value.{Value}
use Rattle.value_ids.specs.Dictionary.{Distinct, Fits, most_values}
use Rattle.bit_column.specs.Sections.{section}
use Rattle.dictionary.specs.Spelling.{counted, numbers, texts}
use Rattle.dictionary_reading.specs.declared.block.Block.{Block}
use Rattle.dictionary_reading.specs.declared.in_file.FileDictionary.{FileDictionary}
use Rattle.dictionary_reading.specs.InFile.{AreStarts, IsBlockOf, IsBodyOf, IsSpelledAt, OfDictionary, part, room_of, start_of}
use Rattle.dictionary_reading.proofs.Blocks.{numbers_at, numbers_long, place_long, start_at, starts_at, texts_at, texts_long, up_to}
use Rattle.dictionary_reading.proofs.Parts.{start_last, start_near}
use Rattle.dictionary_reading.proofs.CutLemmas.{of_both, of_more}

-- ---- how much room there is

-- the room of a place
pub has_room : (k : FieldKind) (files : Files) (place : Place) (d : Distinct) → IsSpelledAt k files place d → room_of k (length d.values) ≤ place.length
has_room kind.Int files place d is = omega (arith, numbers_long kind.Int files place d (λ e. absurd cc) is, place_long kind.Int files place d is)
has_room kind.Long files place d is = omega (arith, numbers_long kind.Long files place d (λ e. absurd cc) is, place_long kind.Long files place d is)
has_room kind.Text files place d is = omega (arith, texts_long kind.Text files place d refl is, place_long kind.Text files place d is)

-- too many values, or too short a place
pub no_room : (l : FileDictionary) (files : Files) → (most_values < l.count) ⊎ (l.place.length < room_of l.kind l.count) → OfDictionary l (Some files) (λ _. ⊥)
no_room l files bad = λ d is n.
    let few = is.stands.at_most in
    elim bad [
      | inl many ↦ omega (arith, many, few, n)
      | inr long ↦ omega (arith, long, ap (room_of l.kind) n, has_room l.kind files l.place d is)
    ]

-- ---- blocks

pub short_place : (l : FileDictionary) (held : Option Files) (P : Distinct → Type 0) → IfSome held (λ files. length (section files l.place) < l.place.length) → OfDictionary l held P
short_place l None P short = tt
short_place l (Some files) P short = λ d is n. absurd (omega (arith, short, place_long l.kind files l.place d is))

pub numbers_body_back : (k : FieldKind) (values : List Value) (b : Block) → k ≢ kind.Text → b.body ≡ part (8 * b.from) (8 * (b.to - b.from)) (numbers values) → IsBodyOf k values b
numbers_body_back kind.Int values b some is = is
numbers_body_back kind.Long values b some is = is
numbers_body_back kind.Text values b some is = absurd (some refl)

pub numbers_block : (l : FileDictionary) (held : Option Files) (from to at size : ℕ) (bytes starts : List ℕ) (b : Block) → l.kind ≢ kind.Text → to ≤ l.count → at ≡ 4 + 8 * from → size ≡ 8 * (to - from)
    → b ≡ record { kind = l.kind; from = from; to = to; starts = starts; body = bytes } → IfSome held (λ files. bytes ≡ part at size (section files l.place)) → OfDictionary l held (λ d. IsBlockOf d b)
numbers_block l None from to at size bytes starts b some within first long made read = tt
numbers_block l (Some files) from to at size bytes starts b some within first long made read = λ d is n.
    subst (IsBlockOf d) (sym made) (record {
      stands = is.stands;
      kind_is = is.kind_is;
      within = omega (arith, within, n);
      body_is = numbers_body_back l.kind d.values (record { kind = l.kind; from = from; to = to; starts = starts; body = bytes }) some
          (read ∙ (λ i. part (first i) (long i) (section files l.place)) ∙ numbers_at l.kind files l.place d (8 * from) (8 * (to - from)) some is);
    })

pub starts_read : (l : FileDictionary) (held : Option Files) (from to at size : ℕ) (bytes : List ℕ) → l.kind ≡ kind.Text → from ≤ to → to ≤ l.count → at ≡ 4 + 4 * from → size ≡ 4 * (to - from) + 4
    → IfSome held (λ files. bytes ≡ part at size (section files l.place)) → OfDictionary l held (λ d. AreStarts d.values from to bytes)
starts_read l None from to at size bytes text order within first long read = tt
starts_read l (Some files) from to at size bytes text order within first long read = λ d is n.
    read ∙ (λ i. part (first i) (long i) (section files l.place)) ∙ starts_at l.kind files l.place d (4 * from) (4 * (to - from) + 4) text (omega (arith, order, within, n)) is

pub texts_read : (l : FileDictionary) (held : Option Files) (start end at size : ℕ) (bytes : List ℕ) → l.kind ≡ kind.Text → at ≡ 8 + 4 * l.count + start → size ≡ end - start
    → IfSome held (λ files. bytes ≡ part at size (section files l.place)) → OfDictionary l held (λ d. bytes ≡ part start (end - start) (texts d.values))
texts_read l None start end at size bytes text first long read = tt
texts_read l (Some files) start end at size bytes text first long read = λ d is n.
    read ∙ (λ i. part (first i) (long i) (section files l.place)) ∙ texts_at l.kind files l.place d l.count start (end - start) text n is

pub texts_over : (l : FileDictionary) (held : Option Files) (end : ℕ) → l.kind ≡ kind.Text → l.place.length < 8 + 4 * l.count + end → OfDictionary l held (λ d. length (texts d.values) < end)
texts_over l None end text over = tt
texts_over l (Some files) end text over = λ d is n. omega (arith, over, n, texts_long l.kind files l.place d text is, place_long l.kind files l.place d is)

-- where the first text begins and the last one ends, as the starts say
pub record Ends (l : FileDictionary) (from to start end : ℕ) (starts : List ℕ) : Type 0 where
  pub text : l.kind ≡ kind.Text
  pub order : from ≤ to
  pub within : to ≤ l.count
  pub start_small : start < 2 ^ 32
  pub end_small : end < 2 ^ 32
  pub start_is : counted start ≡ part 0 4 starts
  pub end_is : counted end ≡ part (4 * (to - from)) 4 starts

record AreEnds (d : Distinct) (from to start end : ℕ) : Type 0 where
  first : start ≡ start_of d.values from
  last : end ≡ start_of d.values to
  up : start ≤ end
  near : end ≤ start + 512 * (to - from)
  there : end ≤ length (texts d.values)

ends_are : (l : FileDictionary) (files : Files) (d : Distinct) (from to start end : ℕ) (starts : List ℕ) → Ends l from to start end starts → IsSpelledAt l.kind files l.place d → l.count ≡ length d.values → AreStarts d.values from to starts → AreEnds d from to start end
ends_are l files d from to start end starts e is n are =
    let text = e.text in
    let order = e.order in
    let inside = e.within in
    let within : to ≤ length d.values = omega (arith, inside, n) in
    let fit : All (Fits kind.Text) d.values = subst (λ k. All (Fits k) d.values) (is.kind_is ∙ text) is.stands.fit in
    let none : 0 ≡ 4 * (from - from) = omega arith in
    let first : start ≡ start_of d.values from = start_at d.values from to from start starts is.stands.at_most fit within (omega arith) order e.start_small are (e.start_is ∙ ap (λ k. part k 4 starts) none) in
    let last : end ≡ start_of d.values to = start_at d.values from to to end starts is.stands.at_most fit within order (omega arith) e.end_small are e.end_is in
    let sum : from + (to - from) ≡ to = omega (arith, order) in
    record {
      first = first;
      last = last;
      up = omega (arith, first, last, up_to d from to order);
      near = omega (arith, first, last, ap (start_of d.values) sum, start_near d.values from (to - from) fit);
      there = omega (arith, last, up_to d to (length d.values) within, start_last d.values);
    }

pub bad_ends : (l : FileDictionary) (held : Option Files) (from to start end : ℕ) (starts : List ℕ) → Ends l from to start end starts → (end < start) ⊎ (512 * (to - from) < end - start) → OfDictionary l held (λ d. AreStarts d.values from to starts) → OfDictionary l held (λ _. ⊥)
bad_ends l held from to start end starts e bad are = of_more l held (λ d. AreStarts d.values from to starts) (λ _. ⊥) (λ files d is n are.
    let so = ends_are l files d from to start end starts e is n are in
    let up = so.up in
    let near = so.near in
    elim bad [ inl a ↦ omega (arith, a, up) | inr a ↦ omega (arith, a, near) ]) are

pub no_texts : (l : FileDictionary) (held : Option Files) (from to start end : ℕ) (starts : List ℕ) → Ends l from to start end starts → OfDictionary l held (λ d. AreStarts d.values from to starts) → OfDictionary l held (λ d. length (texts d.values) < end) → OfDictionary l held (λ _. ⊥)
no_texts l held from to start end starts e are few = of_both l held (λ d. AreStarts d.values from to starts) (λ d. length (texts d.values) < end) (λ _. ⊥) (λ files d is n are few.
    let so = ends_are l files d from to start end starts e is n are in
    let there = so.there in
    omega (arith, there, few)) are few

pub texts_block : (l : FileDictionary) (held : Option Files) (from to start end : ℕ) (starts bytes : List ℕ) (b : Block) → Ends l from to start end starts → b ≡ record { kind = l.kind; from = from; to = to; starts = starts; body = bytes }
    → OfDictionary l held (λ d. AreStarts d.values from to starts) → OfDictionary l held (λ d. bytes ≡ part start (end - start) (texts d.values)) → OfDictionary l held (λ d. IsBlockOf d b)
texts_block l held from to start end starts bytes b e made are read = of_both l held (λ d. AreStarts d.values from to starts) (λ d. bytes ≡ part start (end - start) (texts d.values)) (λ d. IsBlockOf d b) (λ files d is n are read.
    let so = ends_are l files d from to start end starts e is n are in
    let inside = e.within in
    let first = so.first in
    let last = so.last in
    let size : end - start ≡ start_of d.values to - start_of d.values from = omega (arith, first, last) in
    let whole : Block = record { kind = l.kind; from = from; to = to; starts = starts; body = bytes } in
    subst (IsBlockOf d) (sym made) (record {
      stands = is.stands;
      kind_is = is.kind_is;
      within = omega (arith, inside, n);
      body_is = subst (λ k. IsBodyOf k d.values whole) (sym e.text) (are, read ∙ (λ i. part (first i) (size i) (texts d.values)));
    })) are read
