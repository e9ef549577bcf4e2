-- Documents by number.
use Rattle.std.proofs.Common.{◌^◌}
use Rattle.std.proofs.Common.{◌≡◌, ℕ, zero, suc, ◌+◌, ◌*◌, ◌-◌, ◌<◌, ◌≤◌, List, [], ◌∷◌, ◌++◌, map}
use Rattle.std.proofs.Common.{length, take, drop, get_or, refl, sym, ap, subst, ◌∙◌, arith}
use Rattle.std.proofs.Common.{length-append, length-drop, length-take}
use Rattle.std.proofs.lemmas.List.{get_or-take, get_or-drop, take-append-le}
use Rattle.std.proofs.lemmas.List.{drop-append-le, length-map, get_or_append_left}
use Rattle.std.proofs.Math.Seq.{take-length}
use Rattle.std.proofs.Math.Nat.{mul-le-mul_right}
use Rattle.std.specs.Prelude.{slice_get, Some}
use Rattle.agg_laws.specs.declared.aggregate_kind.AggKind.{AggKind}
use Rattle.agg_laws.specs.declared.states.AggState.{AggState}
use Rattle.agg_laws.specs.States.{unit_of}
use Rattle.agg_laws.specs.Rows.{kinds_of, RowStored}
use Rattle.state_columns.specs.Docs.{Doc, doc_at, HaveShape, AreStored}
use Rattle.state_columns.specs.Columns.{Column, kinds_in, row_at, row_pushed, column_of, widened}
use Rattle.state_columns.specs.Columns.{AreColumns, AreWider}
use Rattle.state_columns.specs.Region.{doc_in, docs_from, docs_in, IsRegion}

length_from : (i n k : ℕ) (ids : List ℕ) (cs : List Column) → length (docs_from i n k ids cs) ≡ n
length_from i zero k ids cs = refl
length_from i (suc n) k ids cs = ap suc (length_from (suc i) n k ids cs)

pub length-docs_in : (n k : ℕ) (ids : List ℕ) (cs : List Column) → length (docs_in n k ids cs) ≡ n
length-docs_in n k ids cs = length_from 0 n k ids cs

-- the document with a number
from_at : (a n k : ℕ) (ids : List ℕ) (cs : List Column) (i : ℕ) → i < n
    → doc_at (docs_from a n k ids cs) i ≡ doc_in k ids cs (a + i)
from_at a zero k ids cs i lt = absurd (omega arith)
from_at a (suc n) k ids cs zero lt = ap (doc_in k ids cs) (let e : a ≡ a + 0 = omega arith in e)
from_at a (suc n) k ids cs (suc i) lt = from_at (suc a) n k ids cs i (omega arith)
    ∙ ap (doc_in k ids cs) (let e : suc a + i ≡ a + suc i = omega arith in e)

pub doc_is : (n k : ℕ) (ids : List ℕ) (cs : List Column) (i : ℕ) → i < n
    → doc_at (docs_in n k ids cs) i ≡ doc_in k ids cs i
doc_is n k ids cs i lt = from_at 0 n k ids cs i lt
    ∙ ap (doc_in k ids cs) (let e : 0 + i ≡ i = omega arith in e)

-- documents that are the same one by one
pub same_from : (a b n k : ℕ) (ids ids' : List ℕ) (cs cs' : List Column)
    → ((i : ℕ) → i < n → doc_in k ids cs (a + i) ≡ doc_in k ids' cs' (b + i))
    → docs_from a n k ids cs ≡ docs_from b n k ids' cs'
same_from a b zero k ids ids' cs cs' h = refl
same_from a b (suc n) k ids ids' cs cs' h =
    let p : a ≡ a + 0 = omega arith in
    let q : b + 0 ≡ b = omega arith in
    (λ j. (ap (doc_in k ids cs) p ∙ h 0 (omega arith) ∙ ap (doc_in k ids' cs') q) j
    ∷ same_from (suc a) (suc b) n k ids ids' cs cs' (λ i lt.
    let u : suc a + i ≡ a + suc i = omega arith in
    let v : b + suc i ≡ suc b + i = omega arith in
    ap (doc_in k ids cs) u ∙ h (suc i) (omega arith) ∙ ap (doc_in k ids' cs') v) j)

-- one more document
from_more : (a n k : ℕ) (ids : List ℕ) (cs : List Column) → docs_from a (suc n) k ids cs
    ≡ docs_from a n k ids cs ++ (doc_in k ids cs (a + n) ∷ [])
from_more a zero k ids cs = ap (λ m. doc_in k ids cs m ∷ []) (let e : a ≡ a + 0 = omega arith in e)
from_more a (suc n) k ids cs = let e : suc a + n ≡ a + suc n = omega arith
    in ap (λ t. doc_in k ids cs a ∷ t) (from_more (suc a) n k ids cs
    ∙ ap (λ m. docs_from (suc a) n k ids cs ++ (doc_in k ids cs m ∷ [])) e)

-- the same documents, and one with these ids and states after them
pub docs_more : (n k : ℕ) (ids ids' : List ℕ) (cs cs' : List Column) (xs : List ℕ)
    (ys : List AggState)
    → ((i : ℕ) → i < n → doc_in k ids cs i ≡ doc_in k ids' cs' i)
    → take k (drop (n * k) ids') ≡ xs → row_at cs' n ≡ ys
    → docs_in (suc n) k ids' cs' ≡ docs_in n k ids cs ++ ((xs, ys) ∷ [])
docs_more n k ids ids' cs cs' xs ys h p q =
    let z : 0 + n ≡ n = omega arith in
    from_more 0 n k ids' cs'
    ∙ (λ j. same_from 0 0 n k ids' ids cs' cs (λ i lt. let e : 0 + i ≡ i = omega arith in
    ap (doc_in k ids' cs') e ∙ sym (h i lt) ∙ ap (doc_in k ids cs) (sym e)) j
    ++ ((ap (doc_in k ids' cs') z ∙ (λ l. (p l, q l))) j ∷ []))

-- the last document
pub last_doc : (n k : ℕ) (ids : List ℕ) (cs : List Column) → 0 < n → docs_in n k ids cs
    ≡ docs_in (n - 1) k ids cs ++ (doc_in k ids cs (n - 1) ∷ [])
last_doc n k ids cs some =
    let e : n ≡ suc (n - 1) = omega arith in
    let z : 0 + (n - 1) ≡ n - 1 = omega arith in
    ap (λ i. docs_in i k ids cs) e ∙ from_more 0 (n - 1) k ids cs
    ∙ ap (λ m. docs_in (n - 1) k ids cs ++ (doc_in k ids cs m ∷ [])) z

-- an item of a document
pub item_in : {X : Type 0} (k i j : ℕ) (xs : List X) (d : X) → j < k → get_or xs (i * k + j) d
    ≡ get_or (take k (drop (i * k) xs)) j d
item_in k i j xs d lt = sym (get_or-drop (i * k) xs j d)
    ∙ sym (get_or-take k (drop (i * k) xs) j d lt)

get_there : {X : Type 0} (xs : List X) (i : ℕ) (d : X) → i < length xs → slice_get xs i
    ≡ Some (get_or xs i d)
get_there [] i d lt = absurd (omega arith)
get_there (x ∷ xs) zero d lt = refl
get_there (x ∷ xs) (suc i) d lt = get_there xs i d (omega arith)

-- within a list the default does not matter
pub any_default : {X : Type 0} (xs : List X) (i : ℕ) (d e : X) → i < length xs → get_or xs i d
    ≡ get_or xs i e
any_default [] i d e lt = absurd (omega arith)
any_default (x ∷ xs) zero d e lt = refl
any_default (x ∷ xs) (suc i) d e lt = any_default xs i d e (omega arith)

pub got_at : {X : Type 0} (k i j : ℕ) (xs : List X) (v d : X) → j < k → i * k + j < length xs → v
    ≡ get_or xs (i * k + j) d → slice_get (take k (drop (i * k) xs)) j ≡ Some v
got_at k i j xs v d lt in' is =
    let l = length-drop (i * k) xs in
    let t = length-take k (drop (i * k) xs) in
    get_there (take k (drop (i * k) xs)) j d (omega (arith, l, t, in', lt))
    ∙ ap Some (sym (item_in k i j xs d lt) ∙ sym is)

pub shape_more : (k : ℕ) (ks : List AggKind) (docs : List Doc) (e : Doc) → HaveShape k ks docs
    → length e.0 ≡ k → kinds_of e.1 ≡ ks → HaveShape k ks (docs ++ (e ∷ []))
shape_more k ks [] e h a b = (a, b, tt)
shape_more k ks (f ∷ fs) e h a b = (h.0, h.1, shape_more k ks fs e h.2 a b)

pub stored_more : (docs : List Doc) (e : Doc) → AreStored docs → RowStored e.1
    → AreStored (docs ++ (e ∷ []))
stored_more [] e h s = (s, tt)
stored_more (f ∷ fs) e h s = (h.0, stored_more fs e h.1 s)

-- what the columns have in each place, once each has one more state
pub row_before : (n s : ℕ) (cs : List Column) (vs : List AggState) (i : ℕ) → AreColumns n s cs
    → i < n → row_at (row_pushed cs vs) i ≡ row_at cs i
row_before n s [] vs i h lt = refl
row_before n s (c ∷ cs) [] i h lt = refl
row_before n s (c ∷ cs) (v ∷ vs) i h lt =
    λ j. get_or_append_left c.states (v ∷ []) (unit_of c.kind) i (omega (arith, h.0, lt)) j
    ∷ row_before n s cs vs i h.2 lt j

last_item : (vs : List AggState) (v d : AggState) (n : ℕ) → length vs ≡ n
    → get_or (vs ++ (v ∷ [])) n d ≡ v
last_item [] v d n h = ap (λ m. get_or (v ∷ []) m d) (sym h)
last_item (w ∷ vs) v d zero h = absurd (omega (arith, h))
last_item (w ∷ vs) v d (suc n) h = last_item vs v d n (omega (arith, h))

pub row_after : (n s : ℕ) (cs : List Column) (vs : List AggState) → AreColumns n s cs → length vs
    ≡ length cs → row_at (row_pushed cs vs) n ≡ vs
row_after n s [] [] h l = refl
row_after n s [] (v ∷ vs) h l = absurd (omega (arith, l))
row_after n s (c ∷ cs) [] h l = absurd (omega (arith, l))
row_after n s (c ∷ cs) (v ∷ vs) h l =
    λ j. last_item c.states v (unit_of c.kind) n h.0 j ∷ row_after n s cs vs h.2 (omega (arith, l))
    j

pub kinds_pushed : (cs : List Column) (vs : List AggState) → kinds_in (row_pushed cs vs)
    ≡ kinds_in cs
kinds_pushed [] vs = refl
kinds_pushed (c ∷ cs) [] = refl
kinds_pushed (c ∷ cs) (v ∷ vs) = ap (λ t. c.kind ∷ t) (kinds_pushed cs vs)

pub columns_pushed : (n s : ℕ) (cs : List Column) (vs : List AggState) → AreColumns n s cs
    → length vs
    ≡ length cs → AreColumns (n + 1) (s - 1) (row_pushed cs vs)
columns_pushed n s [] [] h l = tt
columns_pushed n s [] (v ∷ vs) h l = absurd (omega (arith, l))
columns_pushed n s (c ∷ cs) [] h l = absurd (omega (arith, l))
columns_pushed n s (c ∷ cs) (v ∷ vs) h l = (
  omega (arith, length-append c.states (v ∷ []), h.0),
  omega (arith, h.1),
  columns_pushed n s cs vs h.2 (omega (arith, l)),
)

-- the columns of a region with room for one more document have room for one more state
pub some_room : (n s m t : ℕ) (cs : List Column) → AreColumns n s cs → m ≡ n → t ≤ s
    → AreColumns m t cs
some_room n s m t [] h e l = tt
some_room n s m t (c ∷ cs) h e l = (
  h.0 ∙ sym e,
  omega (arith, h.1, l),
  some_room n s m t cs h.2 e
      l,
)

-- the ids of each document, once more are after them
pub ids_before : (n k i : ℕ) (ids xs : List ℕ) → length ids ≡ n * k → i < n
    → take k (drop (i * k) (ids ++ xs)) ≡ take k (drop (i * k) ids)
ids_before n k i ids xs l lt =
    let le = mul-le-mul_right k lt in
    let s : suc i * k ≡ i * k + k = omega arith in
    ap (take k) (drop-append-le (i * k) ids xs (omega (arith, le, l, s)))
    ∙ take-append-le k (drop (i * k) ids) xs
    (omega (arith, length-drop (i * k) ids, le, l, s))

drop_own : (xs ys : List ℕ) (n : ℕ) → n ≡ length xs → drop n (xs ++ ys) ≡ ys
drop_own [] ys zero h = refl
drop_own [] ys (suc n) h = absurd (omega (arith, h))
drop_own (x ∷ xs) ys zero h = absurd (omega (arith, h))
drop_own (x ∷ xs) ys (suc n) h = drop_own xs ys n (omega (arith, h))

pub ids_after : (n k : ℕ) (ids xs : List ℕ) → length ids ≡ n * k → length xs ≡ k
    → take k (drop (n * k) (ids ++ xs)) ≡ xs
ids_after n k ids xs l lx = ap (take k) (drop_own ids xs (n * k) (sym l))
    ∙ ap (λ m. take m xs) (sym lx) ∙ take-length xs

-- a region with one more document
module _ (n k : ℕ) (ks : List AggKind) (ids : List ℕ) (cs : List Column) (spare a a' : ℕ)
    (xs : List ℕ) (ys : List AggState) (ids' : List ℕ) (cs' : List Column)
    (r : IsRegion n k ks ids cs spare a) (is : ids' ≡ ids ++ xs) (js : cs' ≡ row_pushed cs ys)
    (lx : length xs ≡ k) (ly : kinds_of ys ≡ ks) where
  lengths : length ys ≡ length cs
  lengths = sym (length-map ys _) ∙ ap length (ly ∙ sym r.kinds_are) ∙ length-map cs (λ c. c.kind)

  pub one_more : docs_in (n + 1) k ids' cs' ≡ docs_in n k ids cs ++ ((xs, ys) ∷ [])
  one_more =
      let next : n + 1 ≡ suc n = omega arith in
      ap (λ m. docs_in m k ids' cs') next
      ∙ docs_more n k ids ids' cs cs' xs ys (λ i lt. λ j. (
        (sym (ids_before n k i ids xs r.ids_are lt) ∙ ap (λ l. take k (drop (i * k) l)) (sym is)) j,
        (sym (row_before n spare cs ys i r.columns_are lt) ∙ ap (λ l. row_at l i) (sym js)) j,
      ))
      (ap (λ l. take k (drop (n * k) l)) is ∙ ids_after n k ids xs r.ids_are lx)
      (ap (λ l. row_at l n) js ∙ row_after n spare cs ys r.columns_are lengths)

  pub more_region : 1 ≤ spare → RowStored ys → a ≤ a'
      → IsRegion (n + 1) k ks ids' cs' (spare - 1) a'
  more_region some st la =
      let li : length ids' ≡ length ids + k = ap length is ∙ length-append ids xs
      ∙ ap (λ m. length ids + m) lx in
      let docs = docs_in n k ids cs in
      record {
        ids_are = omega (arith, li, r.ids_are);
        kinds_are = ap kinds_in js ∙ kinds_pushed cs ys ∙ r.kinds_are;
        columns_are = subst (AreColumns (n + 1) (spare - 1)) (sym js)
            (columns_pushed n spare cs ys r.columns_are lengths);
        few_kinds = r.few_kinds;
        at_most = omega (arith, r.at_most, some);
        shape = subst (HaveShape k ks) (sym one_more) (shape_more k ks docs (xs, ys) r.shape lx ly);
        stored = subst AreStored (sym one_more) (stored_more docs (xs, ys) r.stored st);
        ids_fit = let e = fewer k spare some in omega (arith, e, li, r.ids_fit, la);
      }
    where
      fewer : (m s : ℕ) → 1 ≤ s → m + (s - 1) * m ≡ s * m
      fewer m zero h = absurd (omega arith)
      fewer m (suc s) h = let e : suc s - 1 ≡ s = omega arith in ap (λ n. m + n * m) e
          ∙ (let q : m + s * m ≡ suc s * m = omega arith in q)

-- the place of an item
pub place_in : (n i k j len : ℕ) → len ≡ n * k → i < n → j < k → i * k + j < len
place_in n i k j len l lt lj = let le = mul-le-mul_right k lt in omega (arith, le, l, lj)

-- a region with no documents
kinds_new : (ks : List AggKind) → kinds_in (map column_of ks) ≡ ks
kinds_new [] = refl
kinds_new (k ∷ ks) = ap (λ t. k ∷ t) (kinds_new ks)

columns_new : (ks : List AggKind) → AreColumns 0 0 (map column_of ks)
columns_new [] = tt
columns_new (k ∷ ks) = (refl, omega arith, columns_new ks)

pub new_region : (k a : ℕ) (ks ls : List AggKind) (ids : List ℕ) (cs : List Column)
    → length ks ≤ 16 → ls ≡ ks → ids ≡ [] → cs ≡ map column_of ks → IsRegion 0 k ls ids cs 0 a
new_region k a ks ls ids cs at_most same is js =
    let li : length ids ≡ 0 = ap length is in
    let z : 0 * k ≡ 0 = omega arith in
    record {
      ids_are = omega (arith, li, z);
      kinds_are = ap kinds_in js ∙ kinds_new ks ∙ sym same;
      columns_are = subst (AreColumns 0 0) (sym js) (columns_new ks);
      few_kinds = let e = ap length same in omega (arith, at_most, e);
      at_most = omega arith;
      shape = tt;
      stored = tt;
      ids_fit = omega (arith, li, z);
    }

-- the same documents in columns with no less room
pub wider_length : (cs ds : List Column) → AreWider cs ds → length ds ≡ length cs
wider_length [] [] h = refl
wider_length [] (d ∷ ds) h = absurd h
wider_length (c ∷ cs) [] h = absurd h
wider_length (c ∷ cs) (d ∷ ds) h = ap suc (wider_length cs ds h.3)

wider_row : (cs ds : List Column) (i : ℕ) → AreWider cs ds → row_at ds i ≡ row_at cs i
wider_row [] [] i h = refl
wider_row [] (d ∷ ds) i h = absurd h
wider_row (c ∷ cs) [] i h = absurd h
wider_row (c ∷ cs) (d ∷ ds) i h =
    λ j. get_or (h.1 j) i (unit_of (h.0 j)) ∷ wider_row cs ds i h.3 j

wider_kinds : (cs ds : List Column) → AreWider cs ds → kinds_in ds ≡ kinds_in cs
wider_kinds [] [] h = refl
wider_kinds [] (d ∷ ds) h = absurd h
wider_kinds (c ∷ cs) [] h = absurd h
wider_kinds (c ∷ cs) (d ∷ ds) h = λ j. h.0 j ∷ wider_kinds cs ds h.3 j

wider_columns : (n s : ℕ) (cs ds : List Column) → AreColumns n s cs → AreWider cs ds
    → AreColumns n s ds
wider_columns n s [] [] h w = tt
wider_columns n s [] (d ∷ ds) h w = absurd w
wider_columns n s (c ∷ cs) [] h w = absurd w
wider_columns n s (c ∷ cs) (d ∷ ds) h w =
    (ap length w.1 ∙ h.0, omega (arith, h.1, w.2), wider_columns n s cs ds h.2 w.3)

roomy_columns : (n s more : ℕ) (cs : List Column) → AreColumns n s cs
    → AreColumns n more (map (widened more) cs)
roomy_columns n s more [] h = tt
roomy_columns n s more (c ∷ cs) h = (h.0, omega arith, roomy_columns n s more cs h.2)

pub wider_docs : (n k : ℕ) (ids : List ℕ) (cs ds : List Column) → AreWider cs ds
    → docs_in n k ids ds ≡ docs_in n k ids cs
wider_docs n k ids cs ds w =
    same_from 0 0 n k ids ids ds cs (λ i lt. λ j. (
      take k (drop ((0 + i) * k) ids),
      wider_row cs ds (0 + i) w j,
    ))

module _ (n k : ℕ) (ks : List AggKind) (ids ids' : List ℕ) (cs ds : List Column) (s a a' : ℕ)
    (r : IsRegion n k ks ids cs s a) (w : AreWider cs ds) (is : ids' ≡ ids) where
  pub wider_region : a ≤ a' → IsRegion n k ks ids' ds s a'
  wider_region la =
      let docs : docs_in n k ids' ds ≡ docs_in n k ids cs = ap (λ l. docs_in n k l ds) is
      ∙ wider_docs n k ids cs ds w in
      let li = ap length is in
      record {
        ids_are = li ∙ r.ids_are;
        kinds_are = wider_kinds cs ds w ∙ r.kinds_are;
        columns_are = wider_columns n s cs ds r.columns_are w;
        few_kinds = r.few_kinds;
        at_most = r.at_most;
        shape = subst (HaveShape k ks) (sym docs) r.shape;
        stored = subst AreStored (sym docs) r.stored;
        ids_fit = omega (arith, r.ids_fit, la, li);
      }

  pub roomy_region : (more : ℕ) → ds ≡ map (widened more) cs → n + more < 2 ^ 64
      → length ids + more * k ≤ a' → IsRegion n k ks ids' ds more a'
  roomy_region more js at_most la =
      let docs : docs_in n k ids' ds ≡ docs_in n k ids cs = ap (λ l. docs_in n k l ds) is
      ∙ wider_docs n k ids cs ds w in
      let li = ap length is in
      record {
        ids_are = li ∙ r.ids_are;
        kinds_are = wider_kinds cs ds w ∙ r.kinds_are;
        columns_are = subst (AreColumns n more) (sym js) (roomy_columns n s more cs r.columns_are);
        few_kinds = r.few_kinds;
        at_most = at_most;
        shape = subst (HaveShape k ks) (sym docs) r.shape;
        stored = subst AreStored (sym docs) r.stored;
        ids_fit = omega (arith, la, li);
      }

pub room_in : (n i k len : ℕ) → len ≡ n * k → i < n → i * k + k ≤ len
room_in n i k len l lt = let le = mul-le-mul_right k lt in omega (arith, le, l)

pub got_in : {X : Type 0} (xs : List X) (j : ℕ) (v : X) → j < length xs → v ≡ get_or xs j v
    → slice_get xs j ≡ Some v
got_in xs j v lt is = get_there xs j v lt ∙ ap Some (sym is)
