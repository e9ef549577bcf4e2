-- Texts of a dictionary as parts of its bytes.
use Rattle.std.proofs.Common.{◌≡◌, ◌∙◌, ◌≤◌, ◌+◌, ◌-◌, ◌*◌, ℕ, List, [], ◌∷◌, ◌++◌, length, map, take, drop, Some, slice_get, refl, sym, ap, subst, arith, drop-drop}
use Rattle.std.proofs.Math.Seq.{drop-append_seam, take-append_seam}
use Rattle.std.proofs.lemmas.List.{length-append, map-append}
use Rattle.std.proofs.lemmas.List.Elements.{All-push}
use Rattle.std.proofs.lemmas.Str.{is_utf8-from_IsUtf8}
use Rattle.std.specs.Str.{is_utf8}
use Rattle.values.specs.declared.value.Value.{Value}
use Rattle.values.specs.declared.value.Value.TheVariants.{Text}
use Rattle.value_ids.specs.Blocks.{AreParts, IsPart, text_in, texts_in}
use Rattle.value_ids.specs.declared.text_block.TextPart.{TextPart}
use Rattle.dictionary.specs.Reading.{IsNext, Left}
use Rattle.dictionary.specs.Spelling.{counted}
use Rattle.dictionary.proofs.Bytes.{length-counted}

-- what is left of the texts begins at its place among all bytes
pub record IsPlaced (bytes : List ℕ) (first : ℕ) (left : Left) : Type 0 where
  pub rest : left.texts ≡ drop (first + left.start) bytes
  pub size : first + left.start + length left.texts ≡ length bytes

pub placed_first : (count : ℕ) (bytes offs rest : List ℕ) (start : ℕ) → start ≡ 0 → length offs ≡ 4 * count → 4 ≤ length bytes → length (drop 4 bytes) ≡ length bytes - 4 → drop 4 bytes ≡ (counted 0 ++ offs) ++ rest
    → IsPlaced bytes (8 + 4 * count) (record { start = start; offsets = offs; texts = rest })
placed_first count bytes offs rest start zero size long cut parts =
    let front : List ℕ = counted 0 ++ offs in
    let many : length front ≡ 4 + 4 * count = omega (arith, length-append (counted 0) offs, length-counted 0, size) in
    let at : 4 + length front ≡ 8 + 4 * count + start = omega (arith, many, zero) in
    record {
      rest = sym (drop-append_seam front rest) ∙ ap (drop (length front)) (sym parts) ∙ drop-drop (length front) 4 bytes ∙ ap (λ n. drop n bytes) at;
      size = omega (arith, many, zero, long, cut, ap length parts, length-append front rest);
    }

pub placed_next : (bytes : List ℕ) (first : ℕ) (left following : Left) (t : List ℕ) → IsNext left t following → IsPlaced bytes first left → IsPlaced bytes first following
placed_next bytes first left following t next is =
    let end = next.end in
    let size = is.size in
    let at : first + left.start + length t ≡ first + following.start = omega (arith, end) in
    record {
      rest = sym (drop-append_seam t following.texts) ∙ ap (drop (length t)) (sym next.parts ∙ is.rest) ∙ drop-drop (length t) (first + left.start) bytes ∙ ap (λ n. drop n bytes) at;
      size = omega (arith, end, size, ap length next.parts, length-append t following.texts);
    }

-- the text is the part that begins where the rest does
pub part_is : (bytes : List ℕ) (first : ℕ) (left following : Left) (t : List ℕ) (part : TextPart) → IsNext left t following → IsPlaced bytes first left → part ≡ record { start = first + left.start; len = length t } → text_in bytes part ≡ t
part_is bytes first left following t part next is same =
    ap (text_in bytes) same ∙ ap (take (length t)) (sym is.rest ∙ next.parts) ∙ take-append_seam t following.texts

part_stands : (bytes : List ℕ) (first : ℕ) (left following : Left) (t : List ℕ) (part : TextPart) → IsNext left t following → IsPlaced bytes first left → part ≡ record { start = first + left.start; len = length t } → IsPart bytes part
part_stands bytes first left following t part next is same =
    let size = is.size in
    let start : part.start ≡ first + left.start = ap (λ p. p.start) same in
    let len : part.len ≡ length t = ap (λ p. p.len) same in
    record {
      within = omega (arith, size, start, len, ap length next.parts, length-append t following.texts);
      text = ap is_utf8 (part_is bytes first left following t part next is same) ∙ is_utf8-from_IsUtf8 t next.unicode;
    }

pub parts_more : (bytes : List ℕ) (first : ℕ) (left following : Left) (t : List ℕ) (part : TextPart) (parts new : List TextPart) → IsNext left t following → IsPlaced bytes first left → part ≡ record { start = first + left.start; len = length t }
    → new ≡ parts ++ part ∷ [] → map Text (texts_in bytes new) ≡ map Text (texts_in bytes parts) ++ Text t ∷ []
parts_more bytes first left following t part parts new next is same grown =
    ap (λ ps. map Text (texts_in bytes ps)) grown ∙ ap (map Text) (map-append (text_in bytes) parts (part ∷ [])) ∙ map-append Text (texts_in bytes parts) (text_in bytes part ∷ [])
    ∙ ap (λ x. map Text (texts_in bytes parts) ++ Text x ∷ []) (part_is bytes first left following t part next is same)

pub are_more : (bytes : List ℕ) (first : ℕ) (left following : Left) (t : List ℕ) (part : TextPart) (parts new : List TextPart) → IsNext left t following → IsPlaced bytes first left → part ≡ record { start = first + left.start; len = length t }
    → new ≡ parts ++ part ∷ [] → AreParts bytes parts → AreParts bytes new
are_more bytes first left following t part parts new next is same grown are =
    subst (AreParts bytes) (sym grown) (All-push (IsPart bytes) parts part are (part_stands bytes first left following t part next is same))

-- ---- the last value

last_at : (vs : List Value) (x : Value) → slice_get (vs ++ x ∷ []) (length vs) ≡ Some x
last_at [] x = refl
last_at (v ∷ vs) x = last_at vs x

pub last_pushed : (vs new : List Value) (x : Value) → new ≡ vs ++ x ∷ [] → slice_get new (length new - 1) ≡ Some x
last_pushed vs new x is =
    let many : length new - 1 ≡ length vs = omega (arith, ap length is, length-append vs (x ∷ [])) in
    ap (slice_get new) many ∙ ap (λ xs. slice_get xs (length vs)) is ∙ last_at vs x
