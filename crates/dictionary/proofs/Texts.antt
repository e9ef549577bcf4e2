-- The body of a dictionary of texts: an offset for each text and one for the end, and then the texts.
use Rattle.std.proofs.Common.{◌≡◌, ◌≢◌, ◌∙◌, ◌<◌, ◌≤◌, ◌+◌, ◌-◌, ◌*◌, ◌^◌, ℕ, true, false, List, [], ◌∷◌, ◌++◌, length, take, drop, Option, Some, None, MatchOption, refl, sym, ap, subst, arith, append-nil}
use Rattle.std.proofs.Math.Seq.{drop-append_seam, take-append_seam}
use Rattle.std.proofs.lemmas.Bool.{false≢true}
use Rattle.std.proofs.lemmas.List.{append_cancel_left, length-append, take-append-drop}
use Rattle.std.proofs.lemmas.List.Elements.{All-head, All-tail}
use Rattle.std.proofs.lemmas.Str.{IsCharBoundary-from_take, IsUtf8-append, IsUtf8-nil}
use Rattle.std.specs.List.{All}
use Rattle.std.specs.Str.{IsCharBoundary, IsUtf8}
use Rattle.data_types.specs.declared.kind.FieldKind.TheVariants as kind
use Rattle.values.specs.declared.value.Value.{Value}
use Rattle.values.specs.declared.value.Value.TheVariants as value
use Rattle.value_ids.specs.Dictionary.{Fits, IsUnicode, most_values}
use Rattle.dictionary.specs.Reading.{is_above_last, IsBody, IsNext, Left, NoBody, NoNext, Spells}
use Rattle.dictionary.specs.Spelling.{counted, offsets, texts, text_bytes, body}
use Rattle.dictionary.proofs.Bytes.{length-counted, counted_once, same_fronts, same_rests}
use Rattle.dictionary.proofs.Progress.{IsRead, Whole, none_read, read_more, not_whole, body_read}
use Rattle.values.specs.Kinds.{fits}
use borrow.Author.Tests.{leb-true, le-leb}

-- what an option that is `None` has to show
pub at_none : {X : Type 0} (r : Option X) (P : Type 0) (Q : X → Type 0) → r ≡ None → P → MatchOption r P Q
at_none None P Q e p = p
at_none (Some x) P Q e p = absurd cc

-- ---- offsets

pub length-offsets : (start : ℕ) (vs : List Value) → length (offsets start vs) ≡ 4 * length vs + 4
length-offsets start [] = length-counted start
length-offsets start (v ∷ vs) =
    let n : ℕ = start + length (text_bytes v) in
    let ih = length-offsets n vs in
    omega (arith, length-append (counted start) (offsets n vs), length-counted start)

-- offsets begin with the first
pub offsets_rest : ℕ → List Value → List ℕ
offsets_rest start [] = []
offsets_rest start (v ∷ vs) = offsets (start + length (text_bytes v)) vs

pub offsets_first : (start : ℕ) (vs : List Value) → offsets start vs ≡ counted start ++ offsets_rest start vs
unfolding offsets_rest
offsets_first start [] = sym (append-nil (counted start))
offsets_first start (v ∷ vs) = refl

-- the offsets after the first text's
offs_following : (left : Left) (t : List ℕ) (more : List Value) → Spells left (value.Text t ∷ more) → left.offsets ≡ offsets (left.start + length t) more
offs_following left t more h = append_cancel_left (counted left.start) left.offsets (offsets (left.start + length t) more) h.0

-- the offset that is read is where the text ends
pub end_is : (left : Left) (n : ℕ) (offs t : List ℕ) (more : List Value) → left.start ≤ 536870912 → length t ≤ 512 → n < 2 ^ 32 → left.offsets ≡ counted n ++ offs → Spells left (value.Text t ∷ more) → n ≡ left.start + length t
end_is left n offs t more near short fits is h =
    counted_once n (left.start + length t) offs (offsets_rest (left.start + length t) more) fits (omega arith) (sym is ∙ offs_following left t more h ∙ offsets_first (left.start + length t) more)

-- ---- the next text

pub no_offset : (left : Left) → length left.offsets < 4 → NoNext left
no_offset left at_most t more short unicode h =
    omega (arith, ap length (offs_following left t more h), length-offsets (left.start + length t) more)

pub ends_before : (left : Left) (n : ℕ) (offs : List ℕ) → left.start ≤ 536870912 → n < 2 ^ 32 → left.offsets ≡ counted n ++ offs → n < left.start → NoNext left
ends_before left n offs near fits is before t more short unicode h = omega (arith, end_is left n offs t more near short fits is h)

pub too_long : (left : Left) (n : ℕ) (offs : List ℕ) → left.start ≤ 536870912 → n < 2 ^ 32 → left.offsets ≡ counted n ++ offs → 512 < n - left.start → NoNext left
too_long left n offs near fits is lengths t more short unicode h = omega (arith, end_is left n offs t more near short fits is h)

-- the bytes of the text
front_is : (left : Left) (n : ℕ) (offs t : List ℕ) (more : List Value) → left.start ≤ 536870912 → length t ≤ 512 → n < 2 ^ 32 → left.offsets ≡ counted n ++ offs → Spells left (value.Text t ∷ more) → take (n - left.start) left.texts ≡ t
front_is left n offs t more near short fits is h =
    let end : n - left.start ≡ length t = omega (arith, end_is left n offs t more near short fits is h) in
    ap (λ k. take k left.texts) end ∙ ap (take (length t)) h.1 ∙ take-append_seam t (texts more)

-- where no character ends, no text does
pub no_boundary : (left : Left) (n : ℕ) (offs : List ℕ) → left.start ≤ 536870912 → n < 2 ^ 32 → left.offsets ≡ counted n ++ offs → IsUtf8 left.texts → ¬ (IsCharBoundary left.texts (n - left.start)) → NoNext left
no_boundary left n offs near fits is whole none t more short unicode h =
    let end : n - left.start ≡ length t = omega (arith, end_is left n offs t more near short fits is h) in
    let front : t ≡ take (length t) left.texts = sym (front_is left n offs t more near short fits is h) ∙ ap (λ k. take k left.texts) end in
    none (subst (IsCharBoundary left.texts) (sym end) (IsCharBoundary-from_take left.texts (length t) whole (omega (arith, ap length h.1, length-append t (texts more))) (subst IsUtf8 front unicode)))

pub next_is : (left : Left) (n : ℕ) (offs text rest : List ℕ) → left.start ≤ 536870912 → n < 2 ^ 32 → left.offsets ≡ counted n ++ offs
    → left.start ≤ n → n - left.start ≤ 512 → length text ≡ n - left.start → text ≡ take (n - left.start) left.texts → rest ≡ drop (n - left.start) left.texts → IsUtf8 text
    → IsNext left text (record { start = n; offsets = offs; texts = rest })
next_is left n offs text rest near fits split after short len front back unicode =
    let parts : left.texts ≡ text ++ rest = sym (take-append-drop (n - left.start) left.texts) ∙ (λ i. sym front i ++ sym back i) in
    let end : left.start + length text ≡ n = omega arith in
    record {
      short = omega arith;
      unicode = unicode;
      near = omega arith;
      end = sym end;
      parts = parts;
      offset = omega (arith, ap length split, length-append (counted n) offs, length-counted n);
      forth = λ more h. (
        ap (λ o. counted left.start ++ o) (split ∙ h.0 ∙ ap (λ m. offsets m more) (sym end)),
        parts ∙ ap (λ r. text ++ r) h.1,
      );
      back = λ other more at_most h.
          let at : n ≡ left.start + length other = end_is left n offs other more near at_most fits split h in
          let same : length text ≡ length other = omega arith in
          let both : text ++ rest ≡ other ++ texts more = sym parts ∙ h.1 in
          (sym (same_fronts text other rest (texts more) same both), (sym split ∙ offs_following left other more h ∙ ap (λ m. offsets m more) (sym at), same_rests text other rest (texts more) same both));
    }

-- ---- the body of texts

pub no_room : (count : ℕ) (bytes : List ℕ) → length bytes < 4 * count + 4 → NoBody kind.Text count bytes
no_room count bytes at_most all d n e =
    omega (arith, ap length e, length-append (offsets 0 all) (texts all), length-offsets 0 all)

front_offsets : (count : ℕ) (bytes : List ℕ) (all : List Value) → length all ≡ count → bytes ≡ body kind.Text all → take (4 * count + 4) bytes ≡ offsets 0 all
front_offsets count bytes all n e =
    let size : 4 * count + 4 ≡ length (offsets 0 all) = omega (arith, length-offsets 0 all) in
    ap (λ k. take k bytes) size ∙ ap (take (length (offsets 0 all))) e ∙ take-append_seam (offsets 0 all) (texts all)

pub not_from_0 : (count : ℕ) (bytes front offs : List ℕ) (n : ℕ) → front ≡ take (4 * count + 4) bytes → n < 2 ^ 32 → front ≡ counted n ++ offs → n ≢ 0 → NoBody kind.Text count bytes
not_from_0 count bytes front offs n cut fits is some all d size e =
    some (counted_once n 0 offs (offsets_rest 0 all) fits (omega arith) (sym is ∙ cut ∙ front_offsets count bytes all size e ∙ offsets_first 0 all))

pub from_0 : (count : ℕ) (bytes front offs rest : List ℕ) (n : ℕ) → front ≡ take (4 * count + 4) bytes → rest ≡ drop (4 * count + 4) bytes → front ≡ counted n ++ offs → n ≡ 0 → bytes ≡ (counted 0 ++ offs) ++ rest
from_0 count bytes front offs rest n cut back split none =
    sym (take-append-drop (4 * count + 4) bytes) ∙ (λ i. (sym cut ∙ split ∙ ap (λ m. counted m ++ offs) none) i ++ sym back i)

-- texts that are UTF-8 are so together
texts_unicode : (vs : List Value) → All IsUnicode vs → IsUtf8 (texts vs)
texts_unicode [] all = IsUtf8-nil
texts_unicode (value.Whole z ∷ vs) all = texts_unicode vs (All-tail IsUnicode (value.Whole z) vs all)
texts_unicode (value.Text t ∷ vs) all = IsUtf8-append t (texts vs) (All-head IsUnicode (value.Text t) vs all) (texts_unicode vs (All-tail IsUnicode (value.Text t) vs all))

pub not_unicode : (count : ℕ) (bytes rest : List ℕ) → rest ≡ drop (4 * count + 4) bytes → ¬ (IsUtf8 rest) → NoBody kind.Text count bytes
not_unicode count bytes rest back other all d n e =
    let long : 4 * count + 4 ≡ length (offsets 0 all) = omega (arith, length-offsets 0 all) in
    other (subst IsUtf8 (sym (back ∙ ap (λ k. drop k bytes) long ∙ ap (drop (length (offsets 0 all))) e ∙ drop-append_seam (offsets 0 all) (texts all))) (texts_unicode all d.unicode))

-- ---- reading

-- what is left is spelled of the other values
abbrev pub TextsLeft : ℕ → Left → List Value → List Value → Type 0
TextsLeft count left vs more = (length vs + length more ≡ count) × Spells left more

pub record TextsRead (count : ℕ) (bytes : List ℕ) (left : Left) (vs : List Value) (done : ℕ) : Type 0 where
  pub read : IsRead kind.Text (Whole kind.Text count bytes) (TextsLeft count left vs) vs
  pub near : left.start ≤ 512 * length vs
  pub size : length left.offsets + 4 * length vs ≡ 4 * count
  pub reached : length vs ≡ done

pub texts_begin : (count : ℕ) (bytes offs rest : List ℕ) (start : ℕ) (vs : List Value) → start ≡ 0 → length offs ≡ 4 * count → bytes ≡ (counted 0 ++ offs) ++ rest → vs ≡ [] → TextsRead count bytes (record { start = start; offsets = offs; texts = rest }) vs 0
texts_begin count bytes offs rest start vs zero size parts none =
    subst (λ xs. TextsRead count bytes (record { start = start; offsets = offs; texts = rest }) xs 0) (sym none) (subst (λ s. TextsRead count bytes (record { start = s; offsets = offs; texts = rest }) [] 0) (sym zero) (record {
      read = none_read kind.Text (Whole kind.Text count bytes) (TextsLeft count (record { start = 0; offsets = offs; texts = rest }) [])
          (λ more h. (omega (arith, h.0), parts ∙ (λ i. h.1.0 i ++ h.1.1 i)))
          (λ all d h.
          let e : (counted 0 ++ offs) ++ rest ≡ offsets 0 all ++ texts all = sym parts ∙ h.1 in
          let len : length (counted 0 ++ offs) ≡ length (offsets 0 all) = omega (arith, h.0, length-append (counted 0) offs, length-counted 0, length-offsets 0 all) in
          (omega (arith, h.0), (same_fronts (counted 0 ++ offs) (offsets 0 all) rest (texts all) len e, same_rests (counted 0 ++ offs) (offsets 0 all) rest (texts all) len e)));
      near = omega arith;
      size = omega arith;
      reached = refl;
    }))

text_back : (left following : Left) (t : List ℕ) (e : Value) (more : List Value) → IsNext left t following → Fits kind.Text e → Spells left (e ∷ more) → (e ≡ value.Text t) × Spells following more
text_back left following t (value.Whole z) more next fit h = absurd (false≢true fit)
text_back left following t (value.Text other) more next fit h = let b = next.back other more (leb-true (length other) 512 fit) h in (ap value.Text b.0, b.1)

pub texts_more : (count done : ℕ) (bytes : List ℕ) (left following : Left) (vs new : List Value) (t : List ℕ) → IsNext left t following → is_above_last vs (value.Text t) ≡ true → done < count → TextsRead count bytes left vs done
    → new ≡ vs ++ value.Text t ∷ [] → TextsRead count bytes following new (done + 1)
texts_more count done bytes left following vs new t next above more r is =
    let size : length (vs ++ value.Text t ∷ []) ≡ length vs + 1 = length-append vs (value.Text t ∷ []) in
    let rnear = r.near in
    let rsize = r.size in
    let rcount = r.reached in
    let near = next.near in
    let offset = next.offset in
    subst (λ xs. TextsRead count bytes following xs (done + 1)) (sym is) (record {
      read = read_more kind.Text (Whole kind.Text count bytes) (TextsLeft count left vs) (TextsLeft count following (vs ++ value.Text t ∷ [])) vs (value.Text t) r.read (le-leb (length t) 512 next.short) next.unicode above
          (λ xs h. (omega (arith, h.0), next.forth xs h.1))
          (λ h. absurd (omega (arith, h.0)))
          (λ e xs fe ue h. let b = text_back left following t e xs next fe h.1 in (b.0, (omega (arith, h.0), b.1)));
      near = omega arith;
      size = omega arith;
      reached = omega arith;
    })

none_next : (left : Left) (e : Value) (more : List Value) → NoNext left → Fits kind.Text e → IsUnicode e → Spells left (e ∷ more) → ⊥
none_next left (value.Whole z) more none fit unicode h = false≢true fit
none_next left (value.Text t) more none fit unicode h = none t more (leb-true (length t) 512 fit) unicode h

pub texts_stop : (count done : ℕ) (bytes : List ℕ) (left : Left) (vs : List Value) → NoNext left → done < count → TextsRead count bytes left vs done → NoBody kind.Text count bytes
texts_stop count done bytes left vs none more r all d n e =
    let rcount = r.reached in
    not_whole kind.Text (Whole kind.Text count bytes) (TextsLeft count left vs) vs r.read (λ h. omega (arith, h.0)) (λ x xs fx ux above h. none_next left x xs none fx ux h.1) all d (n, e)

pub texts_fall : (count done : ℕ) (bytes : List ℕ) (left following : Left) (vs : List Value) (t : List ℕ) → IsNext left t following → is_above_last vs (value.Text t) ≡ false → done < count → TextsRead count bytes left vs done → NoBody kind.Text count bytes
texts_fall count done bytes left following vs t next falls more r all d n e =
    let rcount = r.reached in
    not_whole kind.Text (Whole kind.Text count bytes) (TextsLeft count left vs) vs r.read (λ h. omega (arith, h.0))
    (λ x xs fx ux above h. let b = text_back left following t x xs next fx h.1 in false≢true (sym falls ∙ ap (is_above_last vs) (sym b.0) ∙ above))
    all d (n, e)

pub texts_over : (count done : ℕ) (bytes : List ℕ) (left : Left) (vs : List Value) → left.texts ≢ [] → done ≡ count → TextsRead count bytes left vs done → NoBody kind.Text count bytes
texts_over count done bytes left vs some all_done r all d n e =
    let rcount = r.reached in
    not_whole kind.Text (Whole kind.Text count bytes) (TextsLeft count left vs) vs r.read (λ h. some h.1.1) (λ x xs fx ux above h. omega (arith, h.0)) all d (n, e)

nothing : (xs : List ℕ) → length xs ≡ 0 → xs ≡ []
nothing [] e = refl
nothing (x ∷ xs) e = absurd (omega arith)

pub texts_end : (count done : ℕ) (bytes : List ℕ) (left : Left) (vs : List Value) → count ≤ most_values → left.texts ≡ [] → done ≡ count → TextsRead count bytes left vs done → IsBody kind.Text count bytes vs
texts_end count done bytes left vs at_most none all_done r =
    let rcount = r.reached in
    let rsize = r.size in
    let offs : left.offsets ≡ [] = nothing left.offsets (omega arith) in
    body_read kind.Text count bytes (TextsLeft count left vs) vs at_most r.read (omega arith, (ap (λ o. counted left.start ++ o) offs ∙ append-nil (counted left.start), none))
