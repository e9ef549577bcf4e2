-- Spellings of dictionaries: equal ones are of one dictionary, and what a whole spelling says of its body.
use Rattle.std.proofs.Common.{◌≡◌, ◌≢◌, ◌∙◌, ◌<◌, ◌≤◌, ◌+◌, ◌*◌, ◌^◌, ℕ, List, [], ◌∷◌, ◌++◌, drop, length, Ok, Err, refl, sym, ap, subst, arith}
use Rattle.std.proofs.Math.Seq.{drop-append_seam}
use Rattle.std.proofs.lemmas.Bool.{false≢true}
use Rattle.std.proofs.lemmas.List.{append_cancel_left, length-append}
use Rattle.std.proofs.lemmas.List.Elements.{All-head, All-tail}
use Rattle.std.specs.List.{All}
use Rattle.data_types.specs.declared.kind.FieldKind.{FieldKind}
use Rattle.data_types.specs.declared.kind.FieldKind.TheVariants as kind
use Rattle.values.specs.declared.value.Value.{Value}
use Rattle.values.specs.declared.value.Value.TheVariants as value
use Rattle.value_ids.specs.Dictionary.{Distinct, Fits, IsDictionary, most_values}
use Rattle.dictionary.specs.Reading.{Checks, IsBody, NoBody}
use Rattle.dictionary.specs.Spelling.{SpellsOne, body, counted, numbers, offsets, spelling, texts}
use Rattle.dictionary.specs.declared.fault.DictFault.{DictFault}
use Rattle.dictionary.specs.declared.fault.DictFault.TheVariants.{BadDictionary}
use Rattle.dictionary.proofs.Bytes.{counted_following, counted_once, length-counted, same_fronts, same_rests}
use Rattle.dictionary.proofs.Numbers.{fits_long, length-numbers, no_text, number_front}
use Rattle.dictionary.proofs.Texts.{length-offsets, offsets_first, offsets_rest}
use borrow.Author.Tests.{leb-true}

-- ---- bodies

numbers_none : (k : FieldKind) (v : Value) (vs : List Value) → k ≢ kind.Text → All (Fits k) (v ∷ vs) → [] ≡ numbers (v ∷ vs) → ⊥
numbers_none k v vs other fit e = omega (arith, ap length e, length-numbers k (v ∷ vs) other fit)

numbers_once : (k : FieldKind) (vs ws : List Value) → k ≢ kind.Text → All (Fits k) vs → All (Fits k) ws → numbers vs ≡ numbers ws → vs ≡ ws
numbers_once k [] [] other fv fw e = refl
numbers_once k [] (w ∷ ws) other fv fw e = absurd (numbers_none k w ws other fw e)
numbers_once k (v ∷ vs) [] other fv fw e = absurd (numbers_none k v vs other fv (sym e))
numbers_once k (value.Text t ∷ vs) (w ∷ ws) other fv fw e = absurd (no_text k t other (All-head (Fits k) (value.Text t) vs fv))
numbers_once k (value.Whole z ∷ vs) (w ∷ ws) other fv fw e =
    let f = number_front k w ws z (numbers (value.Whole z ∷ vs)) (numbers vs) other (All-head (Fits k) w ws fw) (fits_long k z (All-head (Fits k) (value.Whole z) vs fv)) refl e in
    let tails : vs ≡ ws = numbers_once k vs ws other (All-tail (Fits k) (value.Whole z) vs fv) (All-tail (Fits k) w ws fw) f.1 in
    (λ i. sym f.0 i ∷ tails i)

text_once : (s : ℕ) (t u : List ℕ) (vs ws : List Value) → s ≤ 536870912 → length t ≤ 512 → length u ≤ 512 → offsets s (value.Text t ∷ vs) ≡ offsets s (value.Text u ∷ ws) → texts (value.Text t ∷ vs) ≡ texts (value.Text u ∷ ws)
    → (t ≡ u) × (offsets (s + length t) vs ≡ offsets (s + length t) ws) × (texts vs ≡ texts ws)
text_once s t u vs ws near st su e b =
    let offs : offsets (s + length t) vs ≡ offsets (s + length u) ws = append_cancel_left (counted s) (offsets (s + length t) vs) (offsets (s + length u) ws) e in
    let ends : s + length t ≡ s + length u =
    counted_once (s + length t) (s + length u) (offsets_rest (s + length t) vs) (offsets_rest (s + length u) ws) (omega arith) (omega arith) (sym (offsets_first (s + length t) vs) ∙ offs ∙ offsets_first (s + length u) ws) in
    let len : length t ≡ length u = omega arith in
    (same_fronts t u (texts vs) (texts ws) len b, offs ∙ ap (λ m. offsets m ws) (sym ends), same_rests t u (texts vs) (texts ws) len b)

short : (t : List ℕ) (vs : List Value) → All (Fits kind.Text) (value.Text t ∷ vs) → length t ≤ 512
short t vs fit = leb-true (length t) 512 (All-head (Fits kind.Text) (value.Text t) vs fit)

texts_once : (s : ℕ) (vs ws : List Value) → s + 512 * length vs ≤ 536870912 → All (Fits kind.Text) vs → All (Fits kind.Text) ws → length vs ≡ length ws → offsets s vs ≡ offsets s ws → texts vs ≡ texts ws → vs ≡ ws
texts_once s [] [] near fv fw n e b = refl
texts_once s [] (w ∷ ws) near fv fw n e b = absurd (omega arith)
texts_once s (v ∷ vs) [] near fv fw n e b = absurd (omega arith)
texts_once s (value.Whole z ∷ vs) (w ∷ ws) near fv fw n e b = absurd (false≢true (All-head (Fits kind.Text) (value.Whole z) vs fv))
texts_once s (value.Text t ∷ vs) (value.Whole z ∷ ws) near fv fw n e b = absurd (false≢true (All-head (Fits kind.Text) (value.Whole z) ws fw))
texts_once s (value.Text t ∷ vs) (value.Text u ∷ ws) near fv fw n e b =
    let st : length t ≤ 512 = short t vs fv in
    let o = text_once s t u vs ws (omega arith) st (short u ws fw) e b in
    let tails : vs ≡ ws = texts_once (s + length t) vs ws (omega arith) (All-tail (Fits kind.Text) (value.Text t) vs fv) (All-tail (Fits kind.Text) (value.Text u) ws fw) (omega arith) o.1 o.2 in
    (λ i. value.Text (o.0 i) ∷ tails i)

int_no_text : kind.Int ≢ kind.Text
int_no_text e = cc

long_no_text : kind.Long ≢ kind.Text
long_no_text e = cc

bodies_once : (k : FieldKind) (vs ws : List Value) → length vs ≤ most_values → All (Fits k) vs → All (Fits k) ws → length vs ≡ length ws → body k vs ≡ body k ws → vs ≡ ws
bodies_once kind.Int vs ws at_most fv fw n e = numbers_once kind.Int vs ws int_no_text fv fw e
bodies_once kind.Long vs ws at_most fv fw n e = numbers_once kind.Long vs ws long_no_text fv fw e
bodies_once kind.Text vs ws at_most fv fw n e =
    let len : length (offsets 0 vs) ≡ length (offsets 0 ws) = omega (arith, length-offsets 0 vs, length-offsets 0 ws) in
    texts_once 0 vs ws (omega arith) fv fw n (same_fronts (offsets 0 vs) (offsets 0 ws) (texts vs) (texts ws) len e) (same_rests (offsets 0 vs) (offsets 0 ws) (texts vs) (texts ws) len e)

-- ---- whole spellings

pub spells_one : SpellsOne
spells_one a b da db ke e =
    let n : length a.values ≡ length b.values = counted_once (length a.values) (length b.values) (body a.kind a.values) (body b.kind b.values) (let f = da.at_most in omega arith) (let f = db.at_most in omega arith) e in
    let bodies : body a.kind a.values ≡ body a.kind b.values = counted_following (length a.values) (length b.values) (body a.kind a.values) (body b.kind b.values) e ∙ ap (λ k. body k b.values) (sym ke) in
    let fb : All (Fits a.kind) b.values = subst (λ k. All (Fits k) b.values) (sym ke) db.fit in
    let values : a.values ≡ b.values = bodies_once a.kind a.values b.values da.at_most da.fit fb n bodies in
    (λ i. record { kind = ke i; values = values i })

pub whole_spelled : (k : FieldKind) (count : ℕ) (bytes rest : List ℕ) (values : List Value) → bytes ≡ counted count ++ rest → IsBody k count rest values → bytes ≡ spelling (record { kind = k; values = values })
whole_spelled k count bytes rest values front b = front ∙ (λ i. counted (sym b.counted i) ++ b.spelled i)

abbrev pub SpellsNone : FieldKind → List ℕ → Type 0
SpellsNone k bytes = (d : Distinct) → IsDictionary d → d.kind ≡ k → bytes ≢ spelling d

pub too_short : (k : FieldKind) (bytes : List ℕ) → length bytes < 4 → SpellsNone k bytes
too_short k bytes at_most d stands is e =
    omega (arith, ap length e, length-append (counted (length d.values)) (body d.kind d.values), length-counted (length d.values))

counts : (count : ℕ) (bytes rest : List ℕ) (d : Distinct) → count < 2 ^ 32 → bytes ≡ counted count ++ rest → IsDictionary d → bytes ≡ spelling d → count ≡ length d.values
counts count bytes rest d fits' front stands e = counted_once count (length d.values) rest (body d.kind d.values) fits' (let f = stands.at_most in omega arith) (sym front ∙ e)

pub too_many : (k : FieldKind) (count : ℕ) (bytes rest : List ℕ) → count < 2 ^ 32 → bytes ≡ counted count ++ rest → most_values < count → SpellsNone k bytes
too_many k count bytes rest fits' front many d stands is e =
    let f = stands.at_most in
    omega (arith, counts count bytes rest d fits' front stands e)

pub no_spelling : (k : FieldKind) (count : ℕ) (bytes rest : List ℕ) → count < 2 ^ 32 → bytes ≡ counted count ++ rest → NoBody k count rest → SpellsNone k bytes
no_spelling k count bytes rest fits' front none d stands is e =
    let same : rest ≡ body d.kind d.values = counted_following count (length d.values) rest (body d.kind d.values) (sym front ∙ e) in
    none d.values (subst (λ x. IsDictionary (record { kind = x; values = d.values })) is stands) (sym (counts count bytes rest d fits' front stands e)) (same ∙ ap (λ x. body x d.values) is)

-- ---- what is found

pub found : (k : FieldKind) (count : ℕ) (bytes rest : List ℕ) (values : List Value) → bytes ≡ counted count ++ rest → IsBody k count rest values → Checks k bytes (Ok (record { kind = k; values = values }))
found k count bytes rest values front is = record {
  kind_is = refl;
  ok = whole_spelled k count bytes rest values front is;
  bad = tt;
  valid = is.stands;
}

pub refused : (k : FieldKind) (bytes : List ℕ) (fault : DictFault) → (fault ≡ BadDictionary → SpellsNone k bytes) → Checks k bytes (Err fault)
refused k bytes fault none = record { kind_is = tt; ok = tt; bad = none; valid = tt }

-- the bytes after the number of values
pub rest_is : (count : ℕ) (bytes rest : List ℕ) → bytes ≡ counted count ++ rest → rest ≡ drop 4 bytes
rest_is count bytes rest is = sym (drop-append_seam (counted count) rest) ∙ ap (λ n. drop n (counted count ++ rest)) (length-counted count) ∙ ap (drop 4) (sym is)
