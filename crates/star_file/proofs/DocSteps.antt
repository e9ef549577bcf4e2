-- Documents are read back from their bytes.
use Rattle.std.proofs.Common.{◌≡◌, ℕ, zero, suc, ◌+◌, ◌-◌, ◌*◌, ◌<◌, ◌≤◌, List, [], ◌∷◌, ◌++◌}
use Rattle.std.proofs.Common.{length, take, drop, get_or, refl, sym, ap, subst, ◌∙◌, arith}
use Rattle.std.proofs.Common.{append_assoc, length-append, length-drop}
use Rattle.std.proofs.lemmas.List.{length-take-le, drop-drop, take-take, drop-take}
use Rattle.std.proofs.lemmas.Nat.{be_bytes_4}
use Rattle.std.proofs.Math.Seq.{take-suc, take-length, take-append_seam}
use Rattle.std.specs.Int.{w32, to_be_bytes, from_be_bytes}
use Rattle.agg_laws.specs.declared.aggregate_kind.AggKind.{AggKind}
use Rattle.agg_laws.specs.declared.aggregate_kind.AggKind.TheVariants as kinds
use Rattle.agg_laws.specs.declared.states.AggState.{AggState}
use Rattle.agg_laws.specs.Kind.{width_of}
use Rattle.agg_laws.specs.States.{kind_of, spelling, IsStored}
use Rattle.agg_laws.specs.Rows.{kinds_of, RowStored}
use Rattle.agg_laws.specs.laws.States.{spelled}
use Rattle.star_file.specs.Bytes.{words, state_bytes}
use Rattle.star_file.specs.Rules.{widths, number_at}
use Rattle.star_file.specs.Reading.{doc_width, IsId, AreIds, SpellsDoc, SpellDocs}
use Rattle.agg_laws.specs.declared.tree_shape.TreeShape.{TreeShape}
use Rattle.state_columns.specs.Docs.{Doc}
use Rattle.star_file.proofs.SectionLemmas.{word_back}

append_none : {X : Type 0} (xs : List X) → xs ++ [] ≡ xs
append_none [] = refl
append_none (x ∷ xs) = ap (λ t. x ∷ t) (append_none xs)

-- the number in a place of numbers of four bytes
word_at : (i m : ℕ) (xs : List ℕ) → m ≡ 4 * i → i < length xs
    → take 4 (drop m (words xs)) ≡ to_be_bytes w32 (get_or xs i 0)
word_at zero m [] e lt = absurd (omega arith)
word_at (suc i) m [] e lt = absurd (omega arith)
word_at zero m (x ∷ xs) e lt = let z : m ≡ 0 = omega (arith, e) in
    ap (λ k. take 4 (drop k (words (x ∷ xs)))) z
word_at (suc i) m (x ∷ xs) e lt =
    let k : m ≡ suc (suc (suc (suc (4 * i)))) = omega (arith, e) in
    ap (λ k. take 4 (drop k (words (x ∷ xs)))) k ∙ word_at i (4 * i) xs refl (omega arith)

are_at : (ns xs : List ℕ) (i d : ℕ) → AreIds ns xs → i < length ns
    → (i < length xs) × IsId (get_or ns i d) (get_or xs i 0)
are_at [] xs i d h lt = absurd (omega arith)
are_at (n ∷ ns) [] i d h lt = absurd h
are_at (n ∷ ns) (x ∷ xs) zero d h lt = (omega arith, h.0)
are_at (n ∷ ns) (x ∷ xs) (suc i) d h lt = let more = are_at ns xs i d h.1 (omega arith)
    in (omega (arith, more.0), more.1)

-- bytes that are those of ids have an id in each place
pub id_there : (ns xs bytes : List ℕ) (i d : ℕ) → AreIds ns xs → bytes ≡ words xs → i < length ns
    → IsId (get_or ns i d) (number_at (4 * i) bytes)
id_there ns xs bytes i d h is lt =
    let at = are_at ns xs i d h lt in
    let same : number_at (4 * i) bytes ≡ get_or xs i 0 = ap (number_at (4 * i)) is
    ∙ ap (from_be_bytes w32) (word_at i (4 * i) xs refl at.0) ∙ word_back (get_or xs i 0) at.1.0 in
    subst (IsId (get_or ns i d)) (sym same) at.1

-- one more id
more_ids : (ns xs : List ℕ) (n x : ℕ) → AreIds ns xs → IsId n x
    → AreIds (ns ++ (n ∷ [])) (xs ++ (x ∷ []))
more_ids [] [] n x h is = (is, tt)
more_ids [] (y ∷ ys) n x h is = absurd h
more_ids (m ∷ ms) [] n x h is = absurd h
more_ids (m ∷ ms) (y ∷ ys) n x h is = (h.0, more_ids ms ys n x h.1 is)

pub ids_more : (ns xs new : List ℕ) (i n x : ℕ) → i < length ns → AreIds (take i ns) xs
    → IsId (get_or ns i n) x → new ≡ xs ++ (x ∷ []) → AreIds (take (i + 1) ns) new
ids_more ns xs new i n x lt h is e =
    let k : suc i ≡ i + 1 = omega arith in
    subst (λ l. AreIds (take (i + 1) ns) l) (sym e)
    (subst (λ m. AreIds (take m ns) (xs ++ (x ∷ []))) k
    (subst (λ l. AreIds l (xs ++ (x ∷ []))) (sym (take-suc ns i n lt))
    (more_ids (take i ns) xs (get_or ns i n) x h is)))

words_end : (xs : List ℕ) (x : ℕ) → words (xs ++ (x ∷ [])) ≡ words xs ++ to_be_bytes w32 x
words_end [] x = append_none (to_be_bytes w32 x)
words_end (y ∷ ys) x = ap (λ t. to_be_bytes w32 y ++ t) (words_end ys x)
    ∙ sym (append_assoc (to_be_bytes w32 y) (words ys) (to_be_bytes w32 x))

nothing : {X : Type 0} (k b : ℕ) → take {A = X} k [] ≡ take {A = X} b []
nothing zero zero = refl
nothing zero (suc b) = refl
nothing (suc k) zero = refl
nothing (suc k) (suc b) = refl

-- the first bytes, and some after them
pub take_more : (a b : ℕ) (xs : List ℕ) → take (a + b) xs ≡ take a xs ++ take b (drop a xs)
take_more zero b xs = ap (λ k. take k xs) (let e : 0 + b ≡ b = omega arith in e)
take_more (suc a) b [] = nothing {X = ℕ} (suc a + b) b
take_more (suc a) b (x ∷ xs) = ap (λ k. take k (x ∷ xs)) (let e : suc a + b
    ≡ suc (a + b) = omega arith in e)
    ∙ ap (λ t. x ∷ t) (take_more a b xs)

pub words_more : (bytes xs new : List ℕ) (i x : ℕ) → take (4 * i) bytes ≡ words xs
    → to_be_bytes w32 x ≡ take 4 (drop (4 * i) bytes) → new ≡ xs ++ (x ∷ [])
    → take (4 * (i + 1)) bytes ≡ words new
words_more bytes xs new i x h is e =
    let k : 4 * (i + 1) ≡ 4 * i + 4 = omega arith in
    ap (λ m. take m bytes) k ∙ take_more (4 * i) 4 bytes ∙ (λ j. h j ++ sym is j)
    ∙ sym (words_end xs x) ∙ ap words (sym e)

-- the states of a row, in their places
pub widths_take : (ks : List AggKind) (i : ℕ) → i < length ks
    → widths (take i ks) + width_of (get_or ks i kinds.Count) ≤ widths ks
widths_take [] i lt = absurd (omega arith)
widths_take (k ∷ ks) zero lt = omega arith
widths_take (k ∷ ks) (suc i) lt = let more = widths_take ks i (omega arith) in omega (arith, more)

widths_end : (ks : List AggKind) (k : AggKind) → widths (ks ++ (k ∷ [])) ≡ widths ks + width_of k
widths_end [] k = omega arith
widths_end (j ∷ ks) k = let more = widths_end ks k in omega (arith, more)

pub widths_more : (ks : List AggKind) (i : ℕ) (d : AggKind) → i < length ks
    → widths (take i ks) + width_of (get_or ks i d) ≡ widths (take (i + 1) ks)
widths_more ks i d lt = let k : suc i ≡ i + 1 = omega arith in
    sym (widths_end (take i ks) (get_or ks i d)) ∙ ap widths (sym (take-suc ks i d lt))
    ∙ ap (λ m. widths (take m ks)) k

front : (a b : AggKind) (ks ls : List AggKind) → a ∷ ks ≡ b ∷ ls → a ≡ b
front a b ks ls e = cc

rest : (a b : AggKind) (ks ls : List AggKind) → a ∷ ks ≡ b ∷ ls → ks ≡ ls
rest a b ks ls e = cc

pub past : (xs ys : List ℕ) (n m : ℕ) → length xs ≡ n → drop (n + m) (xs ++ ys) ≡ drop m ys
past [] ys n m h = let e : n + m ≡ m = omega (arith, h) in ap (λ k. drop k ys) e
past (x ∷ xs) ys zero m h = absurd (omega (arith, h))
past (x ∷ xs) ys (suc n) m h = ap (λ k. drop k (x ∷ (xs ++ ys))) (let e : suc n + m
    ≡ suc (n + m) = omega arith in e)
    ∙ past xs ys n m (omega (arith, h))

pub own_part : (xs ys : List ℕ) (n : ℕ) → length xs ≡ n → take n (xs ++ ys) ≡ xs
own_part xs ys n h = ap (λ k. take k (xs ++ ys)) (sym h) ∙ take-append_seam xs ys

-- the state in a place of a row that bytes spell
pub record StateThere (k : AggKind) (bytes : List ℕ) : Type 0 where
  pub v : AggState
  pub kind_is : kind_of v ≡ k
  pub stored : IsStored v
  pub is : spelling v ≡ bytes

pub state_there : (ks : List AggKind) (vs : List AggState) (bytes : List ℕ) (i m : ℕ) (d : AggKind)
    → kinds_of vs ≡ ks → RowStored vs → bytes ≡ state_bytes vs → i < length ks
    → m ≡ widths (take i ks)
    → StateThere (get_or ks i d) (take (width_of (get_or ks i d)) (drop m bytes))
state_there [] vs bytes i m d h s b lt e = absurd (omega arith)
state_there (k ∷ ks) [] bytes i m d h s b lt e = cc
state_there (k ∷ ks) (v ∷ vs) bytes zero m d h s b lt e =
    let own = front (kind_of v) k (kinds_of vs) ks h in
    let z : m ≡ 0 = omega (arith, e) in
    record {
      v = v;
      kind_is = own;
      stored = s.0;
      is = sym ((λ j. take (width_of k) (drop (z j) (b j)))
          ∙ own_part (spelling v) (state_bytes vs) (width_of k) (spelled v s.0 ∙ ap width_of own));
    }
state_there (k ∷ ks) (v ∷ vs) bytes (suc i) m d h s b lt e =
    let own = front (kind_of v) k (kinds_of vs) ks h in
    let n = widths (take i ks) in
    let there = state_there ks vs (state_bytes vs) i n d (rest (kind_of v) k (kinds_of vs) ks h)
    s.1 refl (omega arith) refl in
    let w = width_of (get_or ks i d) in
    record {
      v = there.v;
      kind_is = there.kind_is;
      stored = there.stored;
      is = there.is ∙ sym ((λ j. take w (drop (e j) (b j)))
          ∙ ap (take w) (past (spelling v) (state_bytes vs) (width_of k) n
          (spelled v s.0 ∙ ap width_of own)));
    }

states_end : (vs : List AggState) (v : AggState) → state_bytes (vs ++ (v ∷ []))
    ≡ state_bytes vs ++ spelling v
states_end [] v = append_none (spelling v)
states_end (w ∷ vs) v = ap (λ t. spelling w ++ t) (states_end vs v)
    ∙ sym (append_assoc (spelling w) (state_bytes vs) (spelling v))

pub states_more : (bytes : List ℕ) (vs new : List AggState) (v : AggState) (a b : ℕ)
    → take a bytes ≡ state_bytes vs → spelling v ≡ take b (drop a bytes) → new ≡ vs ++ (v ∷ [])
    → take (a + b) bytes ≡ state_bytes new
states_more bytes vs new v a b h is e =
    take_more a b bytes ∙ (λ j. h j ++ sym is j) ∙ sym (states_end vs v) ∙ ap state_bytes (sym e)

pub stored_more : (vs new : List AggState) (v : AggState) → RowStored vs → IsStored v
    → new ≡ vs ++ (v ∷ []) → RowStored new
stored_more vs new v h s e = subst RowStored (sym e) (more vs h)
  where
    more : (vs : List AggState) → RowStored vs → RowStored (vs ++ (v ∷ []))
    more [] h = (s, tt)
    more (w ∷ vs) h = (h.0, more vs h.1)

widest : (k : AggKind) → width_of k ≤ 24
widest kinds.Count = omega arith
widest kinds.Sum = omega arith
widest kinds.Least = omega arith
widest kinds.Greatest = omega arith
widest kinds.Average = omega arith

pub widths_bound : (ks : List AggKind) → widths ks ≤ 24 * length ks
widths_bound [] = omega arith
widths_bound (k ∷ ks) = let more = widths_bound ks in let one = widest k in omega (arith, more, one)

pub kinds_more : (vs new : List AggState) (v : AggState) (ks : List AggKind) (i : ℕ) (d : AggKind)
    → i < length ks → kinds_of vs ≡ take i ks → kind_of v ≡ get_or ks i d → new ≡ vs ++ (v ∷ [])
    → kinds_of new ≡ take (i + 1) ks
kinds_more vs new v ks i d lt h k e =
    let n : suc i ≡ i + 1 = omega arith in
    ap kinds_of e ∙ ended vs ∙ (λ j. h j ++ (k j ∷ [])) ∙ sym (take-suc ks i d lt)
    ∙ ap (λ m. take m ks) n
  where
    ended : (vs : List AggState) → kinds_of (vs ++ (v ∷ [])) ≡ kinds_of vs ++ (kind_of v ∷ [])
    ended [] = refl
    ended (w ∷ vs) = ap (λ t. kind_of w ∷ t) (ended vs)

-- bytes of a part
small_drop : (m : ℕ) (xs : List ℕ) → ((i : ℕ) → get_or xs i 0 < 256) → (j : ℕ)
    → get_or (drop m xs) j 0 < 256
small_drop zero xs h j = h j
small_drop (suc m) [] h j = omega arith
small_drop (suc m) (x ∷ xs) h j = small_drop m xs (λ i. h (suc i)) j

small_take : (n : ℕ) (xs : List ℕ) → ((i : ℕ) → get_or xs i 0 < 256) → (j : ℕ)
    → get_or (take n xs) j 0 < 256
small_take zero xs h j = omega arith
small_take (suc n) [] h j = omega arith
small_take (suc n) (x ∷ xs) h zero = h 0
small_take (suc n) (x ∷ xs) h (suc j) = small_take n xs (λ i. h (suc i)) j

pub word_bytes : (m x : ℕ) (bytes : List ℕ) → m + 4 ≤ length bytes
    → ((i : ℕ) → get_or bytes i 0 < 256) → x ≡ number_at m bytes
    → to_be_bytes w32 x ≡ take 4 (drop m bytes)
word_bytes m x bytes le small is =
    be_bytes_4 (take 4 (drop m bytes)) x
    (length-take-le 4 (drop m bytes) (omega (arith, length-drop m bytes)))
    (small_take 4 (drop m bytes) (small_drop m bytes small)) is

pub length_words : (xs : List ℕ) → length (words xs) ≡ 4 * length xs
length_words [] = refl
length_words (x ∷ xs) = let more = length_words xs in omega (arith, more)

pub as_many : (ns xs : List ℕ) → AreIds ns xs → length xs ≡ length ns
as_many [] [] h = refl
as_many [] (x ∷ xs) h = absurd h
as_many (n ∷ ns) [] h = absurd h
as_many (n ∷ ns) (x ∷ xs) h = ap suc (as_many ns xs h.1)

-- the ids and the states of a document in its bytes
module _ (shape : TreeShape) (counts bytes : List ℕ) (e : Doc)
    (s : SpellsDoc shape counts bytes e) where
  lengths : length (words e.0) ≡ 4 * length counts
  lengths = length_words e.0 ∙ ap (λ n. 4 * n) (as_many counts e.0 s.ids_are)

  pub ids_part : (part : List ℕ) → part ≡ take (4 * length counts - 0) (drop 0 bytes)
      → part ≡ words e.0
  ids_part part is = is
      ∙ ap (λ l. take (4 * length counts - 0) l) s.bytes_are
      ∙ ap (λ n. take n (words e.0 ++ state_bytes e.1))
      (let n : 4 * length counts - 0 ≡ 4 * length counts = omega arith in n)
      ∙ own_part (words e.0) (state_bytes e.1) (4 * length counts) lengths

  pub states_part : (part : List ℕ)
      → part ≡ take (length bytes - 4 * length counts) (drop (4 * length counts) bytes)
      → part ≡ state_bytes e.1
  states_part part is =
      let m : 4 * length counts ≡ 4 * length counts + 0 = omega arith in
      let after : drop (4 * length counts) bytes ≡ state_bytes e.1 =
      ap (drop (4 * length counts)) s.bytes_are
      ∙ ap (λ n. drop n (words e.0 ++ state_bytes e.1)) m
      ∙ past (words e.0) (state_bytes e.1) (4 * length counts) 0 lengths in
      let l : length bytes - 4 * length counts ≡ length (state_bytes e.1) =
      (let a = ap length s.bytes_are in let b = length-append (words e.0) (state_bytes e.1)
      in omega (arith, a, b, lengths)) in
      is ∙ (λ j. take (l j) (after j)) ∙ take-length (state_bytes e.1)

-- documents one after the other
module _ (shape : TreeShape) (counts : List ℕ) where
  further : (i : ℕ) (bytes : List ℕ) → drop (suc i * doc_width shape) bytes
      ≡ drop (i * doc_width shape) (drop (doc_width shape) bytes)
  further i bytes =
      let e : suc i * doc_width shape ≡ doc_width shape + i * doc_width shape = omega arith in
      ap (λ n. drop n bytes) e ∙ sym (drop-drop (i * doc_width shape) (doc_width shape) bytes)

  one_more : (i : ℕ) (bytes : List ℕ) (docs : List Doc) (e : Doc)
      → SpellDocs shape counts i bytes docs
      → SpellsDoc shape counts (take (doc_width shape) (drop (i * doc_width shape) bytes)) e
      → SpellDocs shape counts (suc i) bytes (docs ++ (e ∷ []))
  one_more zero bytes [] e h s =
      let z : 0 * doc_width shape ≡ 0 = omega arith in
      (subst (λ n. SpellsDoc shape counts (take (doc_width shape) (drop n bytes)) e) z s, tt)
  one_more zero bytes (d ∷ ds) e h s = absurd h
  one_more (suc i) bytes [] e h s = absurd h
  one_more (suc i) bytes (d ∷ ds) e h s = (
    h.0,
    one_more i (drop (doc_width shape) bytes) ds e h.1
        (subst (λ l. SpellsDoc shape counts (take (doc_width shape) l) e) (further i bytes) s),
  )

  pub docs_more : (i : ℕ) (bytes : List ℕ) (docs new : List Doc) (e : Doc)
      → SpellDocs shape counts i bytes docs
      → SpellsDoc shape counts (take (doc_width shape) (drop (i * doc_width shape) bytes)) e
      → new ≡ docs ++ (e ∷ []) → SpellDocs shape counts (i + 1) bytes new
  docs_more i bytes docs new e h s is =
      let n : suc i ≡ i + 1 = omega arith in
      subst (λ l. SpellDocs shape counts (i + 1) bytes l) (sym is)
      (subst (λ m. SpellDocs shape counts m bytes (docs ++ (e ∷ []))) n
      (one_more i bytes docs e h s))

  pub doc_there : (n i : ℕ) (bytes : List ℕ) (docs : List Doc) → SpellDocs shape counts n bytes docs
      → i < n → (e : Doc)
      × SpellsDoc shape counts (take (doc_width shape) (drop (i * doc_width shape) bytes)) e
  doc_there zero i bytes docs h lt = absurd (omega arith)
  doc_there (suc n) i bytes [] h lt = absurd h
  doc_there (suc n) zero bytes (e ∷ es) h lt =
      let z : 0 ≡ 0 * doc_width shape = omega arith in
      (e, subst (λ n. SpellsDoc shape counts (take (doc_width shape) (drop n bytes)) e) z h.0)
  doc_there (suc n) (suc i) bytes (e ∷ es) h lt =
      let more = doc_there n i (drop (doc_width shape) bytes) es h.1 (omega arith) in (
        more.0,
        subst (λ l. SpellsDoc shape counts (take (doc_width shape) l) more.0)
            (sym (further i bytes)) more.1,
      )

  -- they are in as many bytes as they take
  shorter : (n : ℕ) (bytes : List ℕ) → take (doc_width shape) (take (suc n * doc_width shape) bytes)
      ≡ take (doc_width shape) bytes
  shorter n bytes = take-take (doc_width shape) (suc n * doc_width shape) bytes
      (let e : suc n * doc_width shape ≡ doc_width shape + n * doc_width shape = omega arith
      in omega (arith, e))

  later : (n : ℕ) (bytes : List ℕ) → drop (doc_width shape) (take (suc n * doc_width shape) bytes)
      ≡ take (n * doc_width shape) (drop (doc_width shape) bytes)
  later n bytes =
      let e : suc n * doc_width shape ≡ doc_width shape + n * doc_width shape = omega arith in
      ap (λ m. drop (doc_width shape) (take m bytes)) e
      ∙ drop-take (doc_width shape) (n * doc_width shape) bytes

  pub in_part : (n : ℕ) (bytes : List ℕ) (docs : List Doc) → SpellDocs shape counts n bytes docs
      → SpellDocs shape counts n (take (n * doc_width shape) bytes) docs
  in_part zero bytes [] h = tt
  in_part zero bytes (e ∷ es) h = absurd h
  in_part (suc n) bytes [] h = absurd h
  in_part (suc n) bytes (e ∷ es) h = (
    subst (λ l. SpellsDoc shape counts l e) (sym (shorter n bytes)) h.0,
    subst (λ l. SpellDocs shape counts n l es) (sym (later n bytes))
        (in_part n (drop (doc_width shape) bytes) es h.1),
  )

  pub of_part : (n : ℕ) (bytes : List ℕ) (docs : List Doc)
      → SpellDocs shape counts n (take (n * doc_width shape) bytes) docs
      → SpellDocs shape counts n bytes docs
  of_part zero bytes [] h = tt
  of_part zero bytes (e ∷ es) h = absurd h
  of_part (suc n) bytes [] h = absurd h
  of_part (suc n) bytes (e ∷ es) h = (
    subst (λ l. SpellsDoc shape counts l e) (shorter n bytes) h.0,
    of_part n (drop (doc_width shape) bytes) es
        (subst (λ l. SpellDocs shape counts n l es) (later n bytes) h.1),
  )
