-- Written documents are spelled by their bytes, and no others are.
use Rattle.std.proofs.Common.{◌≡◌, ℕ, zero, suc, ◌+◌, ◌-◌, ◌*◌, ◌≤◌, List, [], ◌∷◌, ◌++◌}
use Rattle.std.proofs.Common.{length, take, drop, refl, sym, ap, subst, ◌∙◌, arith, length-append}
use Rattle.std.proofs.Math.Nat.{mul-le-mul_right}
use Rattle.std.specs.Int.{w32, from_be_bytes}
use Rattle.agg_laws.specs.declared.aggregate_kind.AggKind.{AggKind}
use Rattle.agg_laws.specs.declared.states.AggState.{AggState}
use Rattle.agg_laws.specs.declared.tree_shape.TreeShape.{TreeShape}
use Rattle.agg_laws.specs.Kind.{width_of}
use Rattle.agg_laws.specs.States.{kind_of, spelling}
use Rattle.agg_laws.specs.Rows.{kinds_of, RowStored}
use Rattle.agg_laws.specs.laws.States.{spelled, one_spelling}
use Rattle.state_columns.specs.Docs.{Doc, HaveShape, AreStored}
use Rattle.state_columns.specs.Region.{range}
use Rattle.star_file.specs.Bytes.{words, state_bytes, doc_bytes}
use Rattle.star_file.specs.Rules.{widths}
use Rattle.star_file.specs.Reading.{doc_width, AreIds, DocsHaveIds, SpellsDoc, SpellDocs}
use Rattle.star_file.specs.Reading.{HasDocuments}
use Rattle.star_file.proofs.SectionLemmas.{word_back}
use Rattle.star_file.proofs.DocSteps.{as_many, length_words, own_part, past}

front : (a b : AggKind) (ks ls : List AggKind) → a ∷ ks ≡ b ∷ ls → a ≡ b
front a b ks ls e = cc

rest : (a b : AggKind) (ks ls : List AggKind) → a ∷ ks ≡ b ∷ ls → ks ≡ ls
rest a b ks ls e = cc

pub length_states : (vs : List AggState) (ks : List AggKind) → kinds_of vs ≡ ks → RowStored vs
    → length (state_bytes vs) ≡ widths ks
length_states [] [] h s = refl
length_states [] (k ∷ ks) h s = cc
length_states (v ∷ vs) [] h s = cc
length_states (v ∷ vs) (k ∷ ks) h s =
    let one = spelled v s.0 ∙ ap width_of (front (kind_of v) k (kinds_of vs) ks h) in
    let more = length_states vs ks (rest (kind_of v) k (kinds_of vs) ks h) s.1 in
    let l = length-append (spelling v) (state_bytes vs) in
    omega (arith, one, more, l)

module _ (shape : TreeShape) (counts : List ℕ) (dims : length counts ≡ shape.dims) where
  length_doc : (e : Doc) → AreIds counts e.0 → kinds_of e.1 ≡ shape.kinds → RowStored e.1
      → length (words e.0 ++ state_bytes e.1) ≡ doc_width shape
  length_doc e h k s =
      let a = length_words e.0 in
      let b = as_many counts e.0 h in
      let c = length_states e.1 shape.kinds k s in
      let l = length-append (words e.0) (state_bytes e.1) in
      omega (arith, a, b, c, l, dims)

  length_docs : (docs : List Doc) → HaveShape shape.dims shape.kinds docs → AreStored docs
      → DocsHaveIds counts docs → length (doc_bytes docs) ≡ length docs * doc_width shape
  length_docs [] h s i = let z : 0 ≡ 0 * doc_width shape = omega arith in z
  length_docs (e ∷ es) h s i =
      let one = length_doc e i.0 h.1 s.0 in
      let more = length_docs es h.2 s.1 i.1 in
      let l = length-append (words e.0 ++ state_bytes e.1) (doc_bytes es) in
      let p : suc (length es) * doc_width shape ≡ doc_width shape + length es * doc_width shape =
      omega arith in
      omega (arith, one, more, l, p)

  -- the bytes after a document
  after : (e : Doc) (bytes : List ℕ) (n : ℕ) → AreIds counts e.0 → kinds_of e.1 ≡ shape.kinds
      → RowStored e.1
      → drop (doc_width shape + n) ((words e.0 ++ state_bytes e.1) ++ bytes) ≡ drop n bytes
  after e bytes n h k s = past (words e.0 ++ state_bytes e.1) bytes (doc_width shape) n
      (length_doc e h k s)

  firsts : (n : ℕ) (docs : List Doc) → n ≤ length docs → HaveShape shape.dims shape.kinds docs
      → AreStored docs → DocsHaveIds counts docs
      → SpellDocs shape counts n (doc_bytes docs) (take n docs)
  firsts zero docs le h s i = tt
  firsts (suc n) [] le h s i = absurd (omega arith)
  firsts (suc n) (e ∷ es) le h s i =
      let w : doc_width shape ≡ doc_width shape + 0 = omega arith in (
        record {
          ids_are = i.0;
          kinds_are = h.1;
          stored = s.0;
          bytes_are = own_part (words e.0 ++ state_bytes e.1) (doc_bytes es) (doc_width shape)
              (length_doc e i.0 h.1 s.0);
        },
        subst (λ l. SpellDocs shape counts n l (take n es))
            (sym (ap (λ m. drop m (doc_bytes (e ∷ es))) w ∙ after e (doc_bytes es) 0 i.0 h.1 s.0))
            (firsts n es (omega arith) h.2 s.1 i.1),
      )

  spelled_range : (from n : ℕ) (docs : List Doc) → from + n ≤ length docs
      → HaveShape shape.dims shape.kinds docs → AreStored docs → DocsHaveIds counts docs
      → SpellDocs shape counts n (drop (from * doc_width shape) (doc_bytes docs))
      (take n (drop from docs))
  spelled_range zero n docs le h s i =
      let z : 0 ≡ 0 * doc_width shape = omega arith in
      subst (λ m. SpellDocs shape counts n (drop m (doc_bytes docs)) (take n docs)) z
      (firsts n docs (omega (arith, le)) h s i)
  spelled_range (suc from) n [] le h s i = absurd (omega (arith, le))
  spelled_range (suc from) n (e ∷ es) le h s i =
      let p : doc_width shape + from * doc_width shape ≡ suc from * doc_width shape = omega arith in
      subst (λ l. SpellDocs shape counts n l (take n (drop from es)))
      (sym (after e (doc_bytes es) (from * doc_width shape) i.0 h.1 s.0)
      ∙ ap (λ m. drop m (doc_bytes (e ∷ es))) p)
      (spelled_range from n es (omega (arith, le)) h.2 s.1 i.1)

  pub written : (docs : List Doc) (from to : ℕ) → HaveShape shape.dims shape.kinds docs
      → AreStored docs → DocsHaveIds counts docs → from ≤ to → to ≤ length docs
      → HasDocuments shape counts from to (doc_bytes docs) (range from to docs)
  written docs from to h s i le in' = record {
    reach = λ lt. (let l = length_docs docs h s i in let m = mul-le-mul_right (doc_width shape) in'
        in omega (arith, l, m));
    are = spelled_range from (to - from) docs (omega (arith, le, in')) h s i;
  }

-- bytes spell one document at most
words_same : (xs ys ns : List ℕ) → AreIds ns xs → AreIds ns ys → words xs ≡ words ys → xs ≡ ys
words_same [] [] [] h k e = refl
words_same [] (y ∷ ys) [] h k e = absurd k
words_same (x ∷ xs) ys [] h k e = absurd h
words_same [] ys (n ∷ ns) h k e = absurd h
words_same (x ∷ xs) [] (n ∷ ns) h k e = absurd k
words_same (x ∷ xs) (y ∷ ys) (n ∷ ns) h k e =
    let one : x ≡ y = sym (word_back x h.0.0) ∙ ap (λ l. from_be_bytes w32 (take 4 l)) e
    ∙ word_back y k.0.0 in
    λ j. one j ∷ words_same xs ys ns h.1 k.1 (ap (drop 4) e) j

states_same : (vs ws : List AggState) (ks : List AggKind) → kinds_of vs ≡ ks → kinds_of ws ≡ ks
    → RowStored vs → RowStored ws → state_bytes vs ≡ state_bytes ws → vs ≡ ws
states_same [] [] ks h k s t e = refl
states_same [] (w ∷ ws) [] h k s t e = cc
states_same [] (w ∷ ws) (a ∷ ks) h k s t e = cc
states_same (v ∷ vs) ws [] h k s t e = cc
states_same (v ∷ vs) [] (a ∷ ks) h k s t e = cc
states_same (v ∷ vs) (w ∷ ws) (a ∷ ks) h k s t e =
    let kv = front (kind_of v) a (kinds_of vs) ks h in
    let kw = front (kind_of w) a (kinds_of ws) ks k in
    let lv = spelled v s.0 ∙ ap width_of kv in
    let lw = spelled w t.0 ∙ ap width_of kw in
    let n = width_of a in
    let z : n ≡ n + 0 = omega arith in
    let one : spelling v ≡ spelling w = sym (own_part (spelling v) (state_bytes vs) n lv)
    ∙ ap (take n) e ∙ own_part (spelling w) (state_bytes ws) n lw in
    let more : state_bytes vs ≡ state_bytes ws = sym (past (spelling v) (state_bytes vs) n 0 lv)
    ∙ ap (drop (n + 0)) e ∙ past (spelling w) (state_bytes ws) n 0 lw in
    λ j. one_spelling v w (kv ∙ sym kw) s.0 t.0 one j
    ∷ states_same vs ws ks (rest (kind_of v) a (kinds_of vs) ks h)
    (rest (kind_of w) a (kinds_of ws) ks k) s.1 t.1 more j

doc_same : (shape : TreeShape) (counts bytes : List ℕ) (d e : Doc) → SpellsDoc shape counts bytes d
    → SpellsDoc shape counts bytes e → d ≡ e
doc_same shape counts bytes d e s t =
    let n = 4 * length counts in
    let ld : length (words d.0) ≡ n = length_words d.0
    ∙ ap (λ m. 4 * m) (as_many counts d.0 s.ids_are) in
    let le : length (words e.0) ≡ n = length_words e.0
    ∙ ap (λ m. 4 * m) (as_many counts e.0 t.ids_are) in
    let same = sym s.bytes_are ∙ t.bytes_are in
    let ids : words d.0 ≡ words e.0 = sym (own_part (words d.0) (state_bytes d.1) n ld)
    ∙ ap (take n) same ∙ own_part (words e.0) (state_bytes e.1) n le in
    let states : state_bytes d.1 ≡ state_bytes e.1 =
    sym (past (words d.0) (state_bytes d.1) n 0 ld) ∙ ap (drop (n + 0)) same
    ∙ past (words e.0) (state_bytes e.1) n 0 le in
    λ j. (
      words_same d.0 e.0 counts s.ids_are t.ids_are ids j,
      states_same d.1 e.1 shape.kinds s.kinds_are t.kinds_are s.stored t.stored states j,
    )

pub only : (shape : TreeShape) (counts : List ℕ) (n : ℕ) (bytes : List ℕ) (xs ys : List Doc)
    → SpellDocs shape counts n bytes xs → SpellDocs shape counts n bytes ys → xs ≡ ys
only shape counts zero bytes [] [] h k = refl
only shape counts zero bytes [] (y ∷ ys) h k = absurd k
only shape counts zero bytes (x ∷ xs) ys h k = absurd h
only shape counts (suc n) bytes [] ys h k = absurd h
only shape counts (suc n) bytes (x ∷ xs) [] h k = absurd k
only shape counts (suc n) bytes (x ∷ xs) (y ∷ ys) h k =
    λ j. doc_same shape counts (take (doc_width shape) bytes) x y h.0 k.0 j
    ∷ only shape counts n (drop (doc_width shape) bytes) xs ys h.1 k.1 j
