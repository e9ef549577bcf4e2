-- What is written after some of the values.
use Rattle.std.proofs.Common.{◌≡◌, ◌∙◌, ◌<◌, ◌≤◌, ◌+◌, ◌*◌, ◌⊎◌, inl, inr, ℕ, true, List, [], ◌∷◌, ◌++◌, length, take, get_or, refl, sym, ap, subst, arith, append_assoc, append-nil}
use Rattle.std.proofs.Math.Seq.{take-append_seam}
use Rattle.std.proofs.lemmas.Bool.{false≢true}
use Rattle.std.proofs.lemmas.List.{length-append, take_more, take_all}
use Rattle.std.specs.List.{All}
use Rattle.data_types.specs.declared.kind.FieldKind.TheVariants as kind
use Rattle.values.specs.declared.value.Value.{Value}
use Rattle.values.specs.declared.value.Value.TheVariants as value
use Rattle.value_ids.specs.Dictionary.{Fits}
use Rattle.dictionary.specs.Spelling.{IsExtended, counted, numbers, number_bytes, offsets, spelling, body, texts, text_bytes}
use Rattle.std.specs.Int.{w32, to_be_bytes}
use Rattle.std.specs.Prelude.{Result, Ok, Err, OnOk, is_ok, if◌then◌else◌}
use Rattle.data_types.specs.declared.kind.FieldKind.{FieldKind}
use Rattle.values.specs.Kinds.{fits}
use borrow.Author.Tests.{leb-true}

-- what is there, and then more
pub extended : (old new more : List ℕ) → new ≡ old ++ more → IsExtended old new
extended old new more e = (more, e)

pub extended_twice : (old mid new : List ℕ) → IsExtended old mid → IsExtended mid new → IsExtended old new
extended_twice old mid new a b = (a.0 ++ b.0, b.1 ∙ ap (λ x. x ++ b.0) a.1 ∙ append_assoc old a.0 b.0)

pub front_kept : (old new : List ℕ) → IsExtended old new → take (length old) new ≡ old
front_kept old new h = ap (take (length old)) h.1 ∙ take-append_seam old h.0

pub numbers-append : (vs ws : List Value) → numbers (vs ++ ws) ≡ numbers vs ++ numbers ws
numbers-append [] ws = refl
numbers-append (v ∷ vs) ws = ap (λ b. number_bytes v ++ b) (numbers-append vs ws) ∙ sym (append_assoc (number_bytes v) (numbers vs) (numbers ws))

texts-append : (vs ws : List Value) → texts (vs ++ ws) ≡ texts vs ++ texts ws
texts-append [] ws = refl
texts-append (v ∷ vs) ws = ap (λ b. text_bytes v ++ b) (texts-append vs ws) ∙ sym (append_assoc (text_bytes v) (texts vs) (texts ws))

pub numbers_step : (values : List Value) (i : ℕ) (v d : Value) (old out new : List ℕ) → i < length values → v ≡ get_or values i d → out ≡ old ++ numbers (take i values) → new ≡ out ++ number_bytes v → new ≡ old ++ numbers (take (i + 1) values)
numbers_step values i v d old out new within item before now =
    let more : numbers (take (i + 1) values) ≡ numbers (take i values) ++ number_bytes v =
    ap numbers (take_more values i d within) ∙ numbers-append (take i values) (get_or values i d ∷ []) ∙ (λ k. numbers (take i values) ++ append-nil (number_bytes (sym item k)) k) in
    now ∙ ap (λ x. x ++ number_bytes v) before ∙ append_assoc old (numbers (take i values)) (number_bytes v) ∙ ap (λ x. old ++ x) (sym more)

pub texts_step : (values : List Value) (i : ℕ) (v d : Value) (old out new : List ℕ) → i < length values → v ≡ get_or values i d → out ≡ old ++ texts (take i values) → new ≡ out ++ text_bytes v → new ≡ old ++ texts (take (i + 1) values)
texts_step values i v d old out new within item before now =
    let more : texts (take (i + 1) values) ≡ texts (take i values) ++ text_bytes v =
    ap texts (take_more values i d within) ∙ texts-append (take i values) (get_or values i d ∷ []) ∙ (λ k. texts (take i values) ++ append-nil (text_bytes (sym item k)) k) in
    now ∙ ap (λ x. x ++ text_bytes v) before ∙ append_assoc old (texts (take i values)) (text_bytes v) ∙ ap (λ x. old ++ x) (sym more)

-- ---- offsets

-- the offsets of the texts, without that of the end
abbrev pub begins : ℕ → List Value → List ℕ
begins start [] = []
begins start (v ∷ vs) = counted start ++ begins (start + length (text_bytes v)) vs

begins_more : (start : ℕ) (vs : List Value) (v : Value) → begins start (vs ++ v ∷ []) ≡ begins start vs ++ counted (start + length (texts vs))
begins_more start [] v = append-nil (counted start) ∙ ap counted (let e : start ≡ start + 0 = omega arith in e)
begins_more start (w ∷ ws) v =
    let n : ℕ = start + length (text_bytes w) in
    let size : n + length (texts ws) ≡ start + length (text_bytes w ++ texts ws) = omega (arith, length-append (text_bytes w) (texts ws)) in
    ap (λ x. counted start ++ x) (begins_more n ws v ∙ ap (λ m. begins n ws ++ counted m) size) ∙ sym (append_assoc (counted start) (begins n ws) (counted (start + length (text_bytes w ++ texts ws))))

begins_all : (start : ℕ) (vs : List Value) → offsets start vs ≡ begins start vs ++ counted (start + length (texts vs))
begins_all start [] = ap counted (let e : start ≡ start + 0 = omega arith in e)
begins_all start (w ∷ ws) =
    let n : ℕ = start + length (text_bytes w) in
    let size : n + length (texts ws) ≡ start + length (text_bytes w ++ texts ws) = omega (arith, length-append (text_bytes w) (texts ws)) in
    ap (λ x. counted start ++ x) (begins_all n ws ∙ ap (λ m. begins n ws ++ counted m) size) ∙ sym (append_assoc (counted start) (begins n ws) (counted (start + length (text_bytes w ++ texts ws))))

-- the offsets written before the value at i, and where that one begins
pub record Began (values : List Value) (i start : ℕ) (old out : List ℕ) : Type 0 where
  pub written : out ≡ old ++ begins 0 (take i values)
  pub size : start ≡ length (texts (take i values))
  pub at_most : start ≤ 512 * i

pub text_few : (v : Value) → fits kind.Text v ≡ true → length (text_bytes v) ≤ 512
text_few (value.Whole z) fit = absurd (false≢true fit)
text_few (value.Text t) fit = leb-true (length t) 512 fit

pub item_few : (values : List Value) (i : ℕ) (v : Value) → All (Fits kind.Text) values → i < length values → v ≡ get_or values i v → length (text_bytes v) ≤ 512
item_few values i v fit within item = text_few v (subst (Fits kind.Text) (sym item) (fit i v within))

pub begins_step : (values : List Value) (i : ℕ) (v : Value) (start next : ℕ) (old out new : List ℕ) → All (Fits kind.Text) values → i < length values → v ≡ get_or values i v → Began values i start old out → new ≡ out ++ counted start → next ≡ start + length (text_bytes v)
    → Began values (i + 1) next old new
begins_step values i v start next old out new fit within item b now is =
    let more : take (i + 1) values ≡ take i values ++ v ∷ [] = take_more values i v within ∙ ap (λ x. take i values ++ x ∷ []) (sym item) in
    let at_most : length (text_bytes v) ≤ 512 = item_few values i v fit within item in
    let bfew = b.at_most in
    let bsize = b.size in
    let ends : texts (take (i + 1) values) ≡ texts (take i values) ++ text_bytes v = ap texts more ∙ texts-append (take i values) (v ∷ []) ∙ ap (λ x. texts (take i values) ++ x) (append-nil (text_bytes v)) in
    let all : begins 0 (take (i + 1) values) ≡ begins 0 (take i values) ++ counted start =
    ap (begins 0) more ∙ begins_more 0 (take i values) v ∙ ap (λ m. begins 0 (take i values) ++ counted m) (let e : 0 + length (texts (take i values)) ≡ start = omega arith in e) in
    record {
      written = now ∙ ap (λ x. x ++ counted start) b.written ∙ append_assoc old (begins 0 (take i values)) (counted start) ∙ ap (λ x. old ++ x) (sym all);
      size = omega (arith, ap length ends, length-append (texts (take i values)) (text_bytes v));
      at_most = omega arith;
    }

pub begins_end : (values : List Value) (i start : ℕ) (old out new : List ℕ) → length values ≤ i → Began values i start old out → new ≡ out ++ counted start → new ≡ old ++ offsets 0 values
begins_end values i start old out new past b now =
    let all : take i values ≡ values = take_all i values past in
    let bsize = b.size in
    let size : start ≡ 0 + length (texts values) = b.size ∙ ap (λ vs. length (texts vs)) all ∙ (let e : length (texts values) ≡ 0 + length (texts values) = omega arith in e) in
    now ∙ ap (λ x. x ++ counted start) (b.written ∙ ap (λ vs. old ++ begins 0 vs) all) ∙ append_assoc old (begins 0 values) (counted start) ∙ ap (λ x. old ++ x) (ap (λ m. begins 0 values ++ counted m) size ∙ sym (begins_all 0 values))

pub counted_pushed : (out new bytes : List ℕ) (n : ℕ) → new ≡ out ++ bytes → bytes ≡ to_be_bytes w32 n → new ≡ out ++ counted n
unfolding counted
counted_pushed out new bytes n e is = e ∙ ap (λ b. out ++ b) is

pub on_ok : {X E : Type 0} {P Q : Type 0} (r : Result X E) → (P → Q) → OnOk r P → OnOk r Q
on_ok (Ok x) f p = f p
on_ok (Err e) f p = p

pub if_ok : {X E Q : Type 0} (r : Result X E) (a b new : List ℕ) → new ≡ (if is_ok r then a else b) → (new ≡ a → Q) → OnOk r Q
if_ok (Ok x) a b new e f = f e
if_ok (Err x) a b new e f = tt

-- ---- the whole

pub numbers_spelled : (k : FieldKind) (values : List Value) (old mid new : List ℕ) → (k ≡ kind.Int) ⊎ (k ≡ kind.Long) → mid ≡ old ++ counted (length values) → new ≡ mid ++ numbers values → new ≡ old ++ spelling (record { kind = k; values = values })
numbers_spelled k values old mid new (inl is) front back =
    back ∙ ap (λ x. x ++ numbers values) front ∙ append_assoc old (counted (length values)) (numbers values) ∙ ap (λ x. old ++ (counted (length values) ++ body x values)) (sym is)
numbers_spelled k values old mid new (inr is) front back =
    back ∙ ap (λ x. x ++ numbers values) front ∙ append_assoc old (counted (length values)) (numbers values) ∙ ap (λ x. old ++ (counted (length values) ++ body x values)) (sym is)

pub texts_spelled : (k : FieldKind) (values : List Value) (old mid offs new : List ℕ) → k ≡ kind.Text → mid ≡ old ++ counted (length values) → offs ≡ mid ++ offsets 0 values → new ≡ offs ++ texts values → new ≡ old ++ spelling (record { kind = k; values = values })
texts_spelled k values old mid offs new is front middle back =
    back ∙ ap (λ x. x ++ texts values) middle ∙ append_assoc mid (offsets 0 values) (texts values) ∙ ap (λ x. x ++ (offsets 0 values ++ texts values)) front
    ∙ append_assoc old (counted (length values)) (offsets 0 values ++ texts values) ∙ ap (λ x. old ++ (counted (length values) ++ body x values)) (sym is)
