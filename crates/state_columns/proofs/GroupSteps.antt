-- Words by combination.
use Rattle.std.proofs.Common.{◌≡◌, ℕ, zero, suc, ◌+◌, ◌*◌, ◌-◌, ◌/◌, ◌%◌, ◌^◌, ◌<◌, ◌≤◌, List, []}
use Rattle.std.proofs.Common.{◌∷◌, ◌++◌, ◌&&◌, map, All, Bool, true, false, length, take, drop}
use Rattle.std.proofs.Common.{get_or, set, refl, sym, ap, subst, ◌∙◌, arith, append_assoc}
use Rattle.std.proofs.Common.{length-append, add-one}
use Rattle.std.specs.List.Sorted.{IsPermutation}
use Rattle.std.specs.FinMap.{is_sorted}
use Rattle.std.specs.FinMap.Entries.{below_all}
use Rattle.std.specs.declared.cmp.Ordering.TheVariants.{Less, Equal, Greater}
use Rattle.std.specs.Ordering.{is_lt, ordering_reverse}
use Rattle.std.proofs.lemmas.Cmp.{nat_list_cmp_total}
use Rattle.std.proofs.lemmas.List.{length-map, get_or_append_left, at_drop_all, append-nil}
use Rattle.std.proofs.lemmas.List.Sorted.{IsPermutation-refl, IsPermutation-trans}
use Rattle.std.proofs.lemmas.List.Sorted.{IsPermutation-cons, IsPermutation-middle}
use Rattle.std.proofs.lemmas.List.Sorted.{IsPermutation-to_front, IsPermutation-append_left}
use Rattle.std.proofs.Math.Seq.{take-suc, drop-cons}
use Rattle.std.proofs.lemmas.Nat.{div-add-mod', mod-mul-add}
use Rattle.state_columns.specs.declared.packing.Span.{Span}
use Rattle.agg_laws.specs.Tree.{dims_order, set_star}
use Rattle.state_columns.specs.Docs.{Doc, doc_at}
use Rattle.state_columns.specs.Packing.{pack, place, IsWord}
use Rattle.state_columns.specs.Grouping.{key_of, entry_of, first_words, numbered, starred_docs}
use Rattle.state_columns.specs.Grouping.{HasSlot}
use Rattle.state_columns.proofs.ListLemmas.{same_dims}
use Rattle.state_columns.proofs.PackSteps.{pack_orders}

-- a first word more
pub put_first : (key : ℕ) (table : List ℕ) (k at : ℕ) → k < length table → get_or table k 0 ≡ 0
    → IsPermutation ((((key + k) * 2 ^ 20) + at) ∷ first_words key table)
    (first_words key (set table k (suc at)))
put_first key [] k at lt is = absurd (omega arith)
put_first key (zero ∷ rest) zero at lt is =
    let e : key ≡ key + 0 = omega arith in
    subst (λ n. IsPermutation ((n * 2 ^ 20 + at) ∷ first_words (suc key) rest)
    ((key * 2 ^ 20 + at) ∷ first_words (suc key) rest)) e (IsPermutation-refl _)
put_first key (suc a ∷ rest) zero at lt is = absurd (omega (arith, is))
put_first key (zero ∷ rest) (suc k) at lt is =
    let e : suc key + k ≡ key + suc k = omega arith in
    subst (λ n. IsPermutation ((n * 2 ^ 20 + at) ∷ first_words (suc key) rest)
    (first_words (suc key) (set rest k (suc at)))) e
    (put_first (suc key) rest k at (omega arith) is)
put_first key (suc a ∷ rest) (suc k) at lt is =
    let e : suc key + k ≡ key + suc k = omega arith in
    let w = (key + suc k) * 2 ^ 20 + at in
    let v = key * 2 ^ 20 + a in
    let xs = first_words (suc key) rest in
    let ys = first_words (suc key) (set rest k (suc at)) in
    IsPermutation-trans (w ∷ v ∷ xs) (v ∷ w ∷ xs) (v ∷ ys)
    (IsPermutation-middle (w ∷ []) v xs)
    (IsPermutation-cons v (w ∷ xs) ys
    (subst (λ n. IsPermutation ((n * 2 ^ 20 + at) ∷ xs) ys) e
    (put_first (suc key) rest k at (omega arith) is)))

-- one word more, which is the first of its combination
pub split_first : (words table others : List ℕ) (i word v : ℕ) → i < length words
    → word ≡ get_or words i 0 → v ≡ suc (word % 2 ^ 20) → key_of word < length table
    → entry_of table word ≡ 0
    → IsPermutation (take i words) (first_words 0 table ++ others)
    → IsPermutation (take (i + 1) words) (first_words 0 (set table (key_of word) v) ++ others)
split_first words table others i word v lt is val in' none h =
    let n : suc i ≡ i + 1 = omega arith in
    let z : 0 + key_of word ≡ key_of word = omega arith in
    let w : (0 + key_of word) * 2 ^ 20 + word % 2 ^ 20 ≡ word =
    ap (λ m. m * 2 ^ 20 + word % 2 ^ 20) z ∙ div-add-mod' word (2 ^ 20) in
    let more : take (i + 1) words ≡ take i words ++ (word ∷ []) =
    ap (λ m. take m words) (sym n) ∙ take-suc words i 0 lt
    ∙ ap (λ x. take i words ++ (x ∷ [])) (sym is) in
    let new = first_words 0 (set table (key_of word) v) in
    subst (λ l. IsPermutation l (new ++ others)) (sym more)
    (IsPermutation-trans (take i words ++ (word ∷ [])) (word ∷ take i words) (new ++ others)
    (IsPermutation-to_front (take i words) word)
    (IsPermutation-trans (word ∷ take i words) (word ∷ (first_words 0 table ++ others))
    (new ++ others)
    (IsPermutation-cons word (take i words) (first_words 0 table ++ others) h)
    (IsPermutation-append_left others (word ∷ first_words 0 table) new
    (subst (λ u. IsPermutation (word ∷ first_words 0 table)
    (first_words 0 (set table (key_of word) u))) (sym val)
    (subst (λ u. IsPermutation (u ∷ first_words 0 table)
    (first_words 0 (set table (key_of word) (suc (word % 2 ^ 20))))) w
    (put_first 0 table (key_of word) (word % 2 ^ 20) in' none))))))

-- one word more of a combination that is there
pub split_other : (words table others : List ℕ) (i word : ℕ) → i < length words
    → word ≡ get_or words i 0
    → IsPermutation (take i words) (first_words 0 table ++ others)
    → IsPermutation (take (i + 1) words) (first_words 0 table ++ (others ++ (word ∷ [])))
split_other words table others i word lt is h =
    let n : suc i ≡ i + 1 = omega arith in
    let more : take (i + 1) words ≡ take i words ++ (word ∷ []) =
    ap (λ m. take m words) (sym n) ∙ take-suc words i 0 lt
    ∙ ap (λ x. take i words ++ (x ∷ [])) (sym is) in
    subst (λ l. IsPermutation l (first_words 0 table ++ (others ++ (word ∷ [])))) (sym more)
    (subst (IsPermutation (take i words ++ (word ∷ [])))
    (append_assoc (first_words 0 table) others (word ∷ []))
    (IsPermutation-append_left (word ∷ []) (take i words) (first_words 0 table ++ others) h))

-- entries that are there stay there
pub found_still : (table others : List ℕ) (k v : ℕ) → 0 < v
    → All (λ word. 0 < entry_of table word) others
    → All (λ word. 0 < entry_of (set table k v) word) others
found_still table others k v some h j d lt =
    unchanged table k v (key_of (get_or others j d)) some (h j d lt)
  where
    unchanged : (xs : List ℕ) (k v j : ℕ) → 0 < v → 0 < get_or xs j 0 → 0 < get_or (set xs k v) j 0
    unchanged [] k v j some h = h
    unchanged (x ∷ xs) zero v zero some h = some
    unchanged (x ∷ xs) zero v (suc j) some h = h
    unchanged (x ∷ xs) (suc k) v zero some h = h
    unchanged (x ∷ xs) (suc k) v (suc j) some h = unchanged xs k v j some h

-- the numbers of the first documents, as far as a combination
pub first_step : (start key : ℕ) (table firsts : List ℕ) (at : ℕ) → key < length table
    → at ≡ get_or table key 0 → 0 < at → at ≤ 2 ^ 20
    → (firsts ++ ((start + (at - 1)) % 2 ^ 32 ∷ []))
    ++ map (place start) (first_words (key + 1) (drop (key + 1) table))
    ≡ firsts ++ map (place start) (first_words key (drop key table))
first_step start key table firsts at lt is some at_most =
    let here : drop key table ≡ suc (at - 1) ∷ drop (suc key) table = drop-cons table key 0 lt
    ∙ ap (λ v. v ∷ drop (suc key) table) (omega (arith, is, some)) in
    let p : (key * 2 ^ 20 + (at - 1)) % 2 ^ 20 ≡ at - 1 =
    mod-mul-add key (2 ^ 20) (at - 1) (omega (arith, at_most, some)) in
    subst (λ k. (firsts ++ ((start + (at - 1)) % 2 ^ 32 ∷ []))
    ++ map (place start) (first_words k (drop k table))
    ≡ firsts ++ map (place start) (first_words key (drop key table))) (sym (add-one key))
    (append_assoc firsts ((start + (at - 1)) % 2 ^ 32 ∷ [])
    (map (place start) (first_words (suc key) (drop (suc key) table)))
    ∙ ap (λ v. firsts ++ ((start + v) % 2 ^ 32
    ∷ map (place start) (first_words (suc key) (drop (suc key) table)))) (sym p)
    ∙ ap (λ l. firsts ++ map (place start) (first_words key l)) (sym here))

pub no_first : (key : ℕ) (table : List ℕ) (at : ℕ) → key < length table
    → at ≡ get_or table key 0 → at ≡ 0
    → first_words (key + 1) (drop (key + 1) table) ≡ first_words key (drop key table)
no_first key table at lt is none =
    subst (λ k. first_words k (drop k table) ≡ first_words key (drop key table)) (sym (add-one key))
    (ap (first_words key) (sym (drop-cons table key 0 lt
    ∙ ap (λ v. v ∷ drop (suc key) table) (sym is ∙ none))))

-- their slots, as far as a combination
pub slot_step : (n key : ℕ) (table slots : List ℕ) (at : ℕ) → key < length table
    → at ≡ get_or table key 0 → 0 < at
    → (slots ++ ((n + 1) ∷ [])) ++ numbered (n + 1) (drop (key + 1) table)
    ≡ slots ++ numbered n (drop key table)
slot_step n key table slots at lt is some =
    let here : drop key table ≡ suc (at - 1) ∷ drop (suc key) table = drop-cons table key 0 lt
    ∙ ap (λ v. v ∷ drop (suc key) table) (omega (arith, is, some)) in
    subst (λ k. (slots ++ ((n + 1) ∷ [])) ++ numbered (n + 1) (drop k table)
    ≡ slots ++ numbered n (drop key table)) (sym (add-one key))
    (subst (λ m. (slots ++ (m ∷ [])) ++ numbered m (drop (suc key) table)
    ≡ slots ++ numbered n (drop key table)) (sym (add-one n))
    (append_assoc slots (suc n ∷ []) (numbered (suc n) (drop (suc key) table))
    ∙ ap (λ l. slots ++ numbered n l) (sym here)))

pub no_slot : (n key : ℕ) (table slots : List ℕ) (at : ℕ) → key < length table
    → at ≡ get_or table key 0 → at ≡ 0
    → (slots ++ (0 ∷ [])) ++ numbered n (drop (key + 1) table)
    ≡ slots ++ numbered n (drop key table)
no_slot n key table slots at lt is none =
    let here : drop key table ≡ 0 ∷ drop (suc key) table = drop-cons table key 0 lt
    ∙ ap (λ v. v ∷ drop (suc key) table) (sym is ∙ none) in
    subst (λ k. (slots ++ (0 ∷ [])) ++ numbered n (drop k table)
    ≡ slots ++ numbered n (drop key table)) (sym (add-one key))
    (append_assoc slots (0 ∷ []) (numbered n (drop (suc key) table))
    ∙ ap (λ l. slots ++ numbered n l) (sym here))

-- none is left past the last combination
pub no_firsts_left : (start key : ℕ) (table firsts : List ℕ) → length table ≤ key
    → firsts ++ map (place start) (first_words key (drop key table)) ≡ firsts
no_firsts_left start key table firsts all =
    ap (λ ws. firsts ++ map (place start) ws) (at_drop_all (first_words key) table key all)
    ∙ append-nil firsts

pub no_slots_left : (n key : ℕ) (table slots : List ℕ) → length table ≤ key
    → slots ++ numbered n (drop key table) ≡ slots
no_slots_left n key table slots all =
    ap (λ ns. slots ++ ns) (at_drop_all (numbered n) table key all) ∙ append-nil slots

-- the combination of a first word
key_here : (key at : ℕ) → at < 2 ^ 20 → key_of (key * 2 ^ 20 + at) ≡ key
key_here key at lt =
    let w = key * 2 ^ 20 + at in
    let e : w / 2 ^ 20 * 2 ^ 20 + w % 2 ^ 20 ≡ w = div-add-mod' w (2 ^ 20) in
    let m : w % 2 ^ 20 ≡ at = mod-mul-add key (2 ^ 20) at lt in
    omega (arith, e, m)

-- the slot of a combination that is there
slot_at : (key n : ℕ) (table : List ℕ) (k : ℕ) → 0 < get_or table k 0
    → (n < get_or (numbered n table) k 0)
    × (get_or (numbered n table) k 0 ≤ n + length (first_words key table))
    × (get_or (first_words key table) (get_or (numbered n table) k 0 - 1 - n) 0
    ≡ (key + k) * 2 ^ 20 + (get_or table k 0 - 1))
slot_at key n [] k some = absurd (omega arith)
slot_at key n (zero ∷ rest) zero some = absurd (omega arith)
slot_at key n (zero ∷ rest) (suc k) some =
    let more = slot_at (suc key) n rest k some in
    let e : suc key + k ≡ key + suc k = omega arith in
    (more.0, more.1, more.2 ∙ ap (λ m. m * 2 ^ 20 + (get_or rest k 0 - 1)) e)
slot_at key n (suc a ∷ rest) zero some =
    let z : suc n - 1 - n ≡ 0 = omega arith in
    let e : key ≡ key + 0 = omega arith in (
      omega arith,
      omega arith,
      ap (λ i. get_or ((key * 2 ^ 20 + a) ∷ first_words (suc key) rest) i 0) z
          ∙ ap (λ m. m * 2 ^ 20 + a) e
          ∙ ap (λ m. (key + 0) * 2 ^ 20 + m) (let b : a ≡ suc a - 1 = omega arith in b),
    )
slot_at key n (suc a ∷ rest) (suc k) some =
    let more = slot_at (suc key) (suc n) rest k some in
    let s = get_or (numbered (suc n) rest) k 0 in
    let e : suc key + k ≡ key + suc k = omega arith in
    let i : s - 1 - n ≡ suc (s - 1 - suc n) = omega (arith, more.0) in (
      omega (arith, more.0),
      omega (arith, more.1),
      ap (λ i. get_or ((key * 2 ^ 20 + a) ∷ first_words (suc key) rest) i 0) i
          ∙ more.2 ∙ ap (λ m. m * 2 ^ 20 + (get_or rest k 0 - 1)) e,
    )

both : (a b : Bool) → a ≡ true → b ≡ true → (a && b) ≡ true
both true true p q = refl
both true false p q = q
both false b p q = p

module _ (spans : List Span) (level start : ℕ) (docs : List Doc) where
  abbrev pub xs : ℕ → List ℕ
  xs word = set_star level (doc_at docs (place start word)).0

  abbrev pub W : ℕ → Type 0
  W word = IsWord spans level start docs word

  key_is : (word : ℕ) → W word → key_of word ≡ pack 0 spans (xs word)
  key_is word w =
      let e : word / 2 ^ 20 * 2 ^ 20 + word % 2 ^ 20 ≡ word = div-add-mod' word (2 ^ 20) in
      let p : word ≡ pack 0 spans (xs word) * 2 ^ 20 + word % 2 ^ 20 = w.packs in
      omega (arith, e, p)

  rises : (v w : ℕ) → W v → W w → dims_order (xs v) (xs w) ≡ Less → key_of v < key_of w
  rises v w a b less =
      let up = pack_orders spans (xs v) (xs w) 0 0 a.within b.within (omega arith)
      (ap is_lt less) in
      omega (arith, up, key_is v a, key_is w b)

  turned : (v w : ℕ) → dims_order (xs v) (xs w) ≡ Greater → dims_order (xs w) (xs v) ≡ Less
  turned v w h = nat_list_cmp_total.antisymm (xs w) (xs v) ∙ ap ordering_reverse h

  same_ids : (v w : ℕ) → W v → W w → key_of v ≡ key_of w → xs v ≡ xs w
  same_ids v w a b is = elim (dims_order (xs v) (xs w)) as
      (λ o. dims_order (xs v) (xs w) ≡ o → xs v ≡ xs w) [
        | Less ↦ λ e. absurd (omega (arith, rises v w a b e, is))
        | Equal ↦ λ e. same_dims (xs v) (xs w) e
        | Greater ↦ λ e. absurd (omega (arith, rises w v b a (turned v w e), is))
      ] refl

  less_ids : (v w : ℕ) → W v → W w → key_of v < key_of w → dims_order (xs v) (xs w) ≡ Less
  less_ids v w a b lt = elim (dims_order (xs v) (xs w)) as
      (λ o. dims_order (xs v) (xs w) ≡ o → o ≡ Less) [
        | Less ↦ λ e. refl
        | Equal ↦ λ e. let s = ap (pack 0 spans) (same_dims (xs v) (xs w) e) in
            absurd (omega (arith, s, key_is v a, key_is w b, lt))
        | Greater ↦ λ e. absurd (omega (arith, rises w v b a (turned v w e), lt))
      ] refl

  above : (w key : ℕ) (table : List ℕ) → W w → key_of w < key → All (λ at. at ≤ 2 ^ 20) table
      → All W (first_words key table)
      → below_all dims_order (xs w)
      (starred_docs level docs (map (place start) (first_words key table))) ≡ true
  above w key [] a lt at_most all = refl
  above w key (zero ∷ rest) a lt at_most all =
      above w (suc key) rest a (omega (arith, lt)) (λ i d h. at_most (suc i) d (omega (arith, h))) all
  above w key (suc at ∷ rest) a lt at_most all =
      let here : suc at ≤ 2 ^ 20 = at_most 0 0 (omega arith) in
      let v = key * 2 ^ 20 + at in
      let k = key_here key at (omega (arith, here)) in
      let b : W v = all 0 0 (omega arith) in
      both _ _ (ap is_lt (less_ids w v a b (omega (arith, k, lt))))
      (above w (suc key) rest a (omega (arith, lt)) (λ i d h. at_most (suc i) d (omega (arith, h)))
      (λ i d h. all (suc i) d (omega (arith, h))))

  pub firsts_ascend : (key : ℕ) (table : List ℕ) → All (λ at. at ≤ 2 ^ 20) table
      → All W (first_words key table)
      → is_sorted dims_order
      (starred_docs level docs (map (place start) (first_words key table))) ≡ true
  firsts_ascend key [] at_most all = refl
  firsts_ascend key (zero ∷ rest) at_most all =
      firsts_ascend (suc key) rest (λ i d h. at_most (suc i) d (omega (arith, h))) all
  firsts_ascend key (suc at ∷ rest) at_most all =
      let here : suc at ≤ 2 ^ 20 = at_most 0 0 (omega arith) in
      let k = key_here key at (omega (arith, here)) in
      let at_most' : All (λ at. at ≤ 2 ^ 20) rest = (λ i d h. at_most (suc i) d (omega (arith, h))) in
      let all' : All W (first_words (suc key) rest) =
      (λ i d h. all (suc i) d (omega (arith, h))) in
      both _ _ (above (key * 2 ^ 20 + at) (suc key) rest (all 0 0 (omega arith))
      (omega (arith, k)) at_most' all')
      (firsts_ascend (suc key) rest at_most' all')

  mapped : (is : List ℕ) (k d : ℕ) → k < length is
      → get_or (map (place start) is) k d ≡ place start (get_or is k 0)
  mapped [] k d h = absurd (omega arith)
  mapped (y ∷ ys) zero d h = refl
  mapped (y ∷ ys) (suc k) d h = mapped ys k d (omega arith)

  -- a word whose combination is there has its slot
  pub slot_is : (table : List ℕ) (word : ℕ) → All (λ at. at ≤ 2 ^ 20) table
      → All W (first_words 0 table) → W word → 0 < entry_of table word
      → HasSlot start level docs (map (place start) (first_words 0 table)) (numbered 0 table) word
  slot_is table word at_most all w some =
      let fw = first_words 0 table in
      let k = key_of word in
      let s = entry_of (numbered 0 table) word in
      let found = slot_at 0 0 table k some in
      let l = length-map fw (place start) in
      let lt : s - 1 < length fw = omega (arith, found.0, found.1) in
      let i : s - 1 - 0 ≡ s - 1 = omega arith in
      let there : get_or fw (s - 1) 0 ≡ k * 2 ^ 20 + (entry_of table word - 1) =
      ap (λ i. get_or fw i 0) (sym i) ∙ found.2
      ∙ ap (λ m. m * 2 ^ 20 + (entry_of table word - 1)) (let z : 0 + k ≡ k = omega arith in z) in
      let in' : k < length table = inside table k some in
      let small : entry_of table word ≤ 2 ^ 20 = at_most k 0 in' in
      let same : key_of (get_or fw (s - 1) 0) ≡ k = ap key_of there
      ∙ key_here k (entry_of table word - 1) (omega (arith, small, some)) in
      record {
        some = found.0;
        there = omega (arith, found.1, l);
        same = ap (λ i. set_star level (doc_at docs i).0) (mapped fw (s - 1) 0 lt)
            ∙ same_ids (get_or fw (s - 1) 0) word (all (s - 1) 0 lt) w same;
      }
    where
      inside : (ys : List ℕ) (k : ℕ) → 0 < get_or ys k 0 → k < length ys
      inside [] k h = absurd (omega arith)
      inside (y ∷ ys) zero h = omega arith
      inside (y ∷ ys) (suc k) h = let m = inside ys k h in omega (arith, m)

-- parts of a list
pub all_left : {X : Type 0} (P : X → Type 0) (xs ys : List X) → All P (xs ++ ys) → All P xs
all_left P xs ys h i d lt =
    let l = length-append xs ys in
    subst P (get_or_append_left xs ys d i lt) (h i d (omega (arith, l, lt)))

pub all_right : {X : Type 0} (P : X → Type 0) (xs ys : List X) → All P (xs ++ ys) → All P ys
all_right P [] ys h = h
all_right P (x ∷ xs) ys h = all_right P xs ys (λ i d lt. h (suc i) d (omega (arith, lt)))

-- a table of nothing has no first word
pub no_words : (key : ℕ) (table : List ℕ)
    → ((k : ℕ) → k < length table → get_or table k 0 ≡ 0) → first_words key table ≡ []
no_words key [] h = refl
no_words key (zero ∷ rest) h = no_words (suc key) rest (λ k lt. h (suc k) (omega (arith, lt)))
no_words key (suc at ∷ rest) h = let e : suc at ≡ 0 = h 0 (omega arith) in absurd (omega (arith, e))
