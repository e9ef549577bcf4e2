-- The documents from a number on, and documents of which none is starred.
use Rattle.std.proofs.Common.{◌≡◌, ℕ, zero, suc, ◌+◌, ◌*◌, ◌-◌, ◌≤◌, List, [], ◌∷◌, length}
use Rattle.std.proofs.Common.{take, drop, set, refl, sym, ap, subst, ◌∙◌, arith, length-drop}
use Rattle.std.proofs.Common.{map, get_or}
use Rattle.std.proofs.lemmas.List.{drop-drop, get_or-drop}
use Rattle.agg_laws.specs.States.{unit_of}
use Rattle.state_columns.specs.Columns.{Column, column_tail, kinds_in, row_at, AreColumns}
use Rattle.agg_laws.specs.declared.aggregate_kind.AggKind.{AggKind}
use Rattle.agg_laws.specs.declared.states.AggState.{AggState}
use Rattle.agg_laws.specs.Merged.{rekey}
use Rattle.agg_laws.specs.Tree.{star, set_star}
use Rattle.state_columns.specs.Docs.{Doc, HaveShape, AreStored}
use Rattle.state_columns.specs.Region.{range, doc_in, docs_from, docs_in, IsRegion}
use Rattle.state_columns.proofs.RegionLemmas.{same_from}

-- past the end nothing is set
pub set_none : (xs : List ℕ) (n v : ℕ) → length xs ≤ n → set xs n v ≡ xs
set_none [] n v h = refl
set_none (x ∷ xs) zero v h = absurd (omega arith)
set_none (x ∷ xs) (suc n) v h = ap (λ t. x ∷ t) (set_none xs n v (omega arith))

pub shape_drop : (n k : ℕ) (ks : List AggKind) (docs : List Doc) → HaveShape k ks docs
    → HaveShape k ks (drop n docs)
shape_drop zero k ks docs h = h
shape_drop (suc n) k ks [] h = tt
shape_drop (suc n) k ks (e ∷ es) h = shape_drop n k ks es h.2

pub shape_take : (n k : ℕ) (ks : List AggKind) (docs : List Doc) → HaveShape k ks docs
    → HaveShape k ks (take n docs)
shape_take zero k ks docs h = tt
shape_take (suc n) k ks [] h = tt
shape_take (suc n) k ks (e ∷ es) h = (h.0, h.1, shape_take n k ks es h.2)

stored_drop : (n : ℕ) (docs : List Doc) → AreStored docs → AreStored (drop n docs)
stored_drop zero docs h = h
stored_drop (suc n) [] h = tt
stored_drop (suc n) (e ∷ es) h = stored_drop n es h.1

-- past the last dimension none is starred
same_docs : (k : ℕ) (ks : List AggKind) (docs : List Doc) → HaveShape k ks docs
    → rekey (set_star k) docs ≡ docs
same_docs k ks [] h = refl
same_docs k ks (e ∷ es) h =
    λ i. (set_none e.0 k star (omega (arith, h.0)) i, e.1) ∷ same_docs k ks es h.2 i

pub same_range : (k start end : ℕ) (ks : List AggKind) (docs : List Doc) → HaveShape k ks docs
    → rekey (set_star k) (range start end docs) ≡ range start end docs
same_range k start end ks docs h =
    same_docs k ks (range start end docs)
    (shape_take (end - start) k ks (drop start docs) (shape_drop start k ks docs h))

-- the states from a place on, in each place
dropped_item : (vs : List AggState) (m i : ℕ) (d : AggState) → get_or (drop m vs) i d
    ≡ get_or vs (m + i) d
dropped_item vs m i d = get_or-drop m vs i d

row_dropped : (m i : ℕ) (cs : List Column) → row_at (map (column_tail m) cs) i ≡ row_at cs (m + i)
row_dropped m i [] = refl
row_dropped m i (c ∷ cs) =
    λ j. dropped_item c.states m i (unit_of c.kind) j ∷ row_dropped m i cs j

kinds_dropped : (m : ℕ) (cs : List Column) → kinds_in (map (column_tail m) cs) ≡ kinds_in cs
kinds_dropped m [] = refl
kinds_dropped m (c ∷ cs) = ap (λ t. c.kind ∷ t) (kinds_dropped m cs)

columns_dropped : (n s m : ℕ) (cs : List Column) → AreColumns n s cs
    → AreColumns (n - m) 0 (map (column_tail m) cs)
columns_dropped n s m [] h = tt
columns_dropped n s m (c ∷ cs) h =
    (omega (arith, length-drop m c.states, h.0), omega arith, columns_dropped n s m cs h.2)

-- documents left out at the front
pub docs_drop : (m n k : ℕ) (ids : List ℕ) (cs : List Column) → m ≤ n
    → docs_in (n - m) k (drop (m * k) ids) (map (column_tail m) cs) ≡ drop m (docs_in n k ids cs)
docs_drop m n k ids cs le =
    same_from 0 m (n - m) k (drop (m * k) ids) ids (map (column_tail m) cs) cs (λ i lt.
    let z : 0 + i ≡ i = omega arith in
    let p : m * k + i * k ≡ (m + i) * k = omega arith in
    ap (doc_in k (drop (m * k) ids) (map (column_tail m) cs)) z
    ∙ (λ j. (
      take k ((drop-drop (i * k) (m * k) ids ∙ ap (λ n. drop n ids) p) j),
      row_dropped m i cs j,
    )))
    ∙ later m n k ids cs le
  where
    first : (a m n k : ℕ) (ids : List ℕ) (cs : List Column) → m ≤ n
        → docs_from (a + m) (n - m) k ids cs ≡ drop m (docs_from a n k ids cs)
    first a zero n k ids cs le =
        let e : a + 0 ≡ a = omega arith in
        let f : n - 0 ≡ n = omega arith in
        λ j. docs_from (e j) (f j) k ids cs
    first a (suc m) zero k ids cs le = absurd (omega arith)
    first a (suc m) (suc n) k ids cs le =
        let e : a + suc m ≡ suc a + m = omega arith in
        let f : suc n - suc m ≡ n - m = omega arith in
        (λ j. docs_from (e j) (f j) k ids cs) ∙ first (suc a) m n k ids cs (omega arith)

    later : (m n k : ℕ) (ids : List ℕ) (cs : List Column) → m ≤ n
        → docs_from m (n - m) k ids cs ≡ drop m (docs_in n k ids cs)
    later m n k ids cs le = let e : m ≡ 0 + m = omega arith
        in ap (λ i. docs_from i (n - m) k ids cs) e ∙ first 0 m n k ids cs le

less_times : (m n k : ℕ) → m ≤ n → (n - m) * k + m * k ≡ n * k
less_times zero n k h =
    let e : n - 0 ≡ n = omega arith in
    ap (λ x. x * k + 0 * k) e ∙ (let q : n * k + 0 * k ≡ n * k = omega arith in q)
less_times (suc m) zero k h = absurd (omega arith)
less_times (suc m) (suc n) k h =
    let e : suc n - suc m ≡ n - m = omega arith in
    let more = less_times m n k (omega arith) in
    let a : suc m * k ≡ k + m * k = omega arith in
    let b : suc n * k ≡ k + n * k = omega arith in
    ap (λ x. x * k + suc m * k) e
    ∙ (let q : (n - m) * k + suc m * k ≡ suc n * k = omega (arith, more, a, b) in q)

-- what is left of a region, with no room for more
pub tail_region : (m n k : ℕ) (ks : List AggKind) (ids : List ℕ) (cs : List Column)
    (spare a a' : ℕ) (ids' : List ℕ) (cs' : List Column) (ls : List AggKind)
    → IsRegion n k ks ids cs spare a → m ≤ n → ls ≡ ks → ids' ≡ drop (m * k) ids
    → cs' ≡ map (column_tail m) cs → length ids' ≤ a' → IsRegion (n - m) k ls ids' cs' 0 a'
tail_region m n k ks ids cs spare a a' ids' cs' ls r le same is js ia =
    let docs : docs_in (n - m) k ids' cs' ≡ drop m (docs_in n k ids cs) =
    (λ i. docs_in (n - m) k (is i) (js i)) ∙ docs_drop m n k ids cs le in
    let lk = ap length same in
    let li = ap length is ∙ length-drop (m * k) ids in
    let ti = less_times m n k le in
    record {
      ids_are = omega (arith, li, ti, r.ids_are);
      kinds_are = ap kinds_in js ∙ kinds_dropped m cs ∙ r.kinds_are ∙ sym same;
      columns_are = subst (AreColumns (n - m) 0) (sym js)
          (columns_dropped n spare m cs r.columns_are);
      few_kinds = omega (arith, lk, r.few_kinds);
      at_most = omega (arith, le, r.at_most);
      shape = subst (λ l. HaveShape k l (docs_in (n - m) k ids' cs')) (sym same)
          (subst (HaveShape k ks) (sym docs) (shape_drop m k ks (docs_in n k ids cs) r.shape));
      stored = subst AreStored (sym docs) (stored_drop m (docs_in n k ids cs) r.stored);
      ids_fit = let z : 0 * k ≡ 0 = omega arith in omega (arith, ia, z);
    }

-- the room that is left in a region's lists is no matter
pub front_there : (m n k len : ℕ) → m ≤ n → len ≡ n * k → m * k ≤ len
front_there m n k len le is = let t = less_times m n k le in omega (arith, t, is)
