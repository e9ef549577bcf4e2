-- Cells between the separators of a text, as the machine of `csv` reads them.
use Rattle.std.proofs.Common.{◌≡◌, ◌∙◌, ◌<◌, ◌≤◌, ◌+◌, ◌-◌, ◌++◌, ◌&&◌, ◌==◌, ◌⊎◌, inl, inr, ℕ, zero, suc, List, [], ◌∷◌, length, take, drop, get_or, Bool, true, false, not, cond, Some, refl, sym, ap, ap₂, subst, arith, append_assoc, append-nil, add-one}
use Rattle.std.proofs.Math.Seq.{drop-cons}
use Rattle.std.proofs.lemmas.Bool.Decides.{nat_tests}
use Rattle.std.proofs.lemmas.List.{drop-drop, get_or-drop, length-drop, take-append-drop}
use Rattle.std.specs.List.{list_all}
use Rattle.csv.specs.Machine.{next_record}
use Rattle.csv.specs.Reading.{default_config, records_from, records_next}
use Rattle.csv.specs.declared.parser.State.{State}
use Rattle.csv.specs.declared.parser.State.TheVariants as st
use Rattle.csv_ingest.specs.Lines.{EndsCell, IsStart}
use Rattle.csv_ingest.specs.Parts.{AreMarks, IsLineAt, cell_at, cells_at, mark_at}
use Rattle.csv_ingest.specs.Places.{is_separator, places}

-- ---- between two separators

-- whether a byte does not pass a test
abbrev pub other : (ℕ → Bool) → ℕ → Bool
other p b = not (p b)

-- the first place where the test holds
record IsFirst (p : ℕ → Bool) (xs : List ℕ) (at m : ℕ) (ms : List ℕ) : Type 0 where
  pub j : ℕ
  pub within : j < length xs
  pub place : m ≡ at + j
  pub rest : places p (m + 1) (drop (suc j) xs) ≡ ms
  pub plain : list_all (other p) (take j xs) ≡ true

first : (p : ℕ → Bool) (xs : List ℕ) (at m : ℕ) (ms : List ℕ) → places p at xs ≡ m ∷ ms → IsFirst p xs at m ms
first p [] at m ms e = absurd cc
first p (x ∷ xs) at m ms e = by_test (p x) refl (first p xs (at + 1) m ms)
  where
    later : List ℕ
    later = places p (at + 1) xs

    by_test : (b : Bool) → p x ≡ b → (later ≡ m ∷ ms → IsFirst p xs (at + 1) m ms) → IsFirst p (x ∷ xs) at m ms
    by_test true is more =
        let same : at ∷ later ≡ m ∷ ms = sym (ap (λ b. cond b (at ∷ later) later) is) ∙ e in
        let here : at ≡ m = cc in
        let tail : later ≡ ms = cc in
        record {
          j = 0;
          within = omega arith;
          place = omega (arith, here);
          rest = ap (λ a. places p (a + 1) xs) (sym here) ∙ tail;
          plain = refl;
        }
    by_test false is more =
        let f = more (sym (ap (λ b. cond b (at ∷ later) later) is) ∙ e) in
        record {
          j = suc f.j;
          within = omega (arith, f.within);
          place = omega (arith, f.place);
          rest = f.rest;
          plain = ap (λ b. not b && list_all (other p) (take f.j xs)) is ∙ f.plain;
        }

-- two places after another, with no such byte between them
record ArePair (p : ℕ → Bool) (xs : List ℕ) (at a b : ℕ) : Type 0 where
  pub low : at ≤ a
  pub lt : a < b
  pub within : b < at + length xs
  pub plain : list_all (other p) (take (b - suc a) (drop (suc a - at) xs)) ≡ true

pair : (p : ℕ → Bool) (ms : List ℕ) (i : ℕ) (xs : List ℕ) (at : ℕ) (more : List ℕ) → places p at xs ≡ ms ++ more → suc i < length ms → ArePair p xs at (get_or ms i 0) (get_or ms (suc i) 0)
pair p [] i xs at more e lt = absurd (omega (arith, lt))
pair p (m ∷ []) i xs at more e lt = absurd (omega (arith, lt))
pair p (m ∷ m2 ∷ ms) zero xs at more e lt =
    let f = first p xs at m ((m2 ∷ ms) ++ more) e in
    let g = first p (drop (suc f.j) xs) (m + 1) m2 (ms ++ more) f.rest in
    let long = length-drop (suc f.j) xs in
    let wide : m2 - suc m ≡ g.j = omega (arith, g.place) in
    let from : suc m - at ≡ suc f.j = omega (arith, f.place) in
    record {
      low = omega (arith, f.place);
      lt = omega (arith, g.place);
      within = omega (arith, g.within, long, f.within, f.place, g.place);
      plain = ap₂ (λ n k. list_all (other p) (take n (drop k xs))) wide from ∙ g.plain;
    }
pair p (m ∷ m2 ∷ ms) (suc i) xs at more e lt =
    let f = first p xs at m ((m2 ∷ ms) ++ more) e in
    let a = get_or (m2 ∷ ms) i 0 in
    let b = get_or (m2 ∷ ms) (suc i) 0 in
    let r = pair p (m2 ∷ ms) i (drop (suc f.j) xs) (m + 1) more f.rest (omega (arith, lt)) in
    let long = length-drop (suc f.j) xs in
    let from : suc a - at ≡ suc f.j + (suc a - (m + 1)) = omega (arith, r.low, f.place) in
    record {
      low = omega (arith, r.low, f.place);
      lt = r.lt;
      within = omega (arith, r.within, long, f.within, f.place);
      plain = ap (λ l. list_all (other p) (take (b - suc a) l)) (ap (λ k. drop k xs) from ∙ sym (drop-drop (suc a - (m + 1)) (suc f.j) xs)) ∙ r.plain;
    }

place_below : (p : ℕ → Bool) (ms : List ℕ) (i : ℕ) (xs : List ℕ) (at : ℕ) (more : List ℕ) → places p at xs ≡ ms ++ more → i < length ms → get_or ms i 0 < at + length xs
place_below p [] i xs at more e lt = absurd (omega (arith, lt))
place_below p (m ∷ ms) zero xs at more e lt = let f = first p xs at m (ms ++ more) e in omega (arith, f.place, f.within)
place_below p (m ∷ ms) (suc i) xs at more e lt =
    let f = first p xs at m (ms ++ more) e in
    let long = length-drop (suc f.j) xs in
    let r = place_below p ms i (drop (suc f.j) xs) (m + 1) more f.rest (omega (arith, lt)) in
    omega (arith, r, long, f.within, f.place)

-- a place lies in the text
pub mark-within : (text marks : List ℕ) → AreMarks text marks → (i : ℕ) → i < length marks → get_or marks i 0 < length text
mark-within text marks m i lt = let r = place_below is_separator marks i text 0 m.more m.all lt in omega (arith, r)

-- the bytes before a place, the byte there, and those after it
pub parts : (text : List ℕ) (k end : ℕ) → k < length text → get_or text k 0 ≡ end → text ≡ take k text ++ end ∷ drop (suc k) text
parts text k end lt ends = sym (take-append-drop k text) ∙ ap (λ rest. take k text ++ rest) (drop-cons text k 0 lt ∙ ap (λ b. b ∷ drop (suc k) text) ends)

-- a cell, and the text from it on
pub record IsCellAt (text marks : List ℕ) (i : ℕ) : Type 0 where
  pub lt : get_or marks i 0 < get_or marks (suc i) 0
  pub within : get_or marks (suc i) 0 < length text
  pub plain : list_all (other is_separator) (cell_at text marks i) ≡ true
  pub split : drop (suc (get_or marks i 0)) text ≡ cell_at text marks i ++ mark_at text marks (suc i) ∷ drop (suc (get_or marks (suc i) 0)) text

pub cell-is : (text marks : List ℕ) → AreMarks text marks → (i : ℕ) → suc i < length marks → IsCellAt text marks i
cell-is text marks m i lt =
    let q = pair is_separator marks i text 0 m.more m.all lt in
    let a = get_or marks i 0 in
    let b = get_or marks (suc i) 0 in
    let k = b - suc a in
    let rest : List ℕ = drop (suc a) text in
    let long = length-drop (suc a) text in
    let there : suc a + k ≡ b = omega (arith, q.lt) in
    let after : suc a + suc k ≡ suc b = omega (arith, q.lt) in
    let off : suc a ≡ suc a - 0 = omega arith in
    record {
      lt = q.lt;
      within = omega (arith, q.within);
      plain = ap (λ n. list_all (other is_separator) (take k (drop n text))) off ∙ q.plain;
      split = parts rest k (get_or text b 0) (omega (arith, long, q.lt, q.within)) (get_or-drop (suc a) text k 0 ∙ ap (λ n. get_or text n 0) there)
          ∙ ap (λ r. take k rest ++ get_or text b 0 ∷ r) (drop-drop (suc k) (suc a) text ∙ ap (λ n. drop n text) after);
    }

-- ---- the machine

plain-byte : (b : ℕ) → other is_separator b ≡ true → ((b == 44) ≡ false) × ((b == 13) ≡ false) × ((b == 10) ≡ false) × ((b == 34) ≡ false)
plain-byte b one = (grind (arith, nat_tests), grind (arith, nat_tests), grind (arith, nat_tests), grind (arith, nat_tests))

pub and-left : (b c : Bool) → b && c ≡ true → b ≡ true
and-left true c e = refl
and-left false c e = e

pub and-right : (b c : Bool) → b && c ≡ true → c ≡ true
and-right true c e = e
and-right false c e = absurd cc

copy-one : (fields : List (List ℕ)) (field : List ℕ) (b : ℕ) (rest : List ℕ) → other is_separator b ≡ true
    → next_record default_config st.InField fields field (b ∷ rest) ≡ next_record default_config st.InField fields (field ++ b ∷ []) rest
unfolding next_record
copy-one fields field b rest one =
    let (comma, cr, lf, quote) = plain-byte b one in
    rw (comma, cr, lf) refl

copy-all : (fields : List (List ℕ)) (field xs rest : List ℕ) → list_all (other is_separator) xs ≡ true
    → next_record default_config st.InField fields field (xs ++ rest) ≡ next_record default_config st.InField fields (field ++ xs) rest
copy-all fields field [] rest all = ap (λ f. next_record default_config st.InField fields f rest) (sym (append-nil field))
copy-all fields field (x ∷ xs) rest all =
    copy-one fields field x (xs ++ rest) (and-left (other is_separator x) (list_all (other is_separator) xs) all)
    ∙ copy-all fields (field ++ x ∷ []) xs rest (and-right (other is_separator x) (list_all (other is_separator) xs) all)
    ∙ ap (λ f. next_record default_config st.InField fields f rest) (append_assoc field (x ∷ []) xs)

pub start-one : (text : List ℕ) (s : State) → IsStart text s → (fields : List (List ℕ)) (b : ℕ) (rest : List ℕ) → (b == 44) ≡ false → (b == 13) ≡ false → (b == 10) ≡ false → (b == 34) ≡ false
    → next_record default_config s fields [] (b ∷ rest) ≡ next_record default_config st.InField fields (b ∷ []) rest
unfolding next_record
start-one text s (inl (e, bare)) fields b rest comma cr lf quote = rw e (rw (comma, cr, lf, quote) refl)
start-one text s (inr e) fields b rest comma cr lf quote = rw e (rw (comma, cr, lf, quote) refl)

-- an empty cell
pub no-byte : (s : State) (fields : List (List ℕ)) (end : ℕ) (rest : List ℕ) → EndsCell end → IsStart (end ∷ rest) s → next_record default_config s fields [] (end ∷ rest) ≡ next_record default_config st.InField fields [] (end ∷ rest)
unfolding next_record
no-byte s fields end rest (inl comma) (inl (e, bare)) = rw (e, comma) refl
no-byte s fields end rest (inl comma) (inr e) = rw (e, comma) refl
no-byte s fields end rest (inr (inl lf)) (inl (e, bare)) = absurd (grind (arith, nat_tests))
no-byte s fields end rest (inr (inl lf)) (inr e) = rw (e, lf) refl
no-byte s fields end rest (inr (inr cr)) (inl (e, bare)) = absurd (grind (arith, nat_tests))
no-byte s fields end rest (inr (inr cr)) (inr e) = rw (e, cr) refl

-- a cell of plain bytes
cell-read : (s : State) (fields : List (List ℕ)) (cell : List ℕ) (end : ℕ) (rest : List ℕ) → list_all (other is_separator) cell ≡ true → EndsCell end → IsStart (cell ++ end ∷ rest) s
    → next_record default_config s fields [] (cell ++ end ∷ rest) ≡ next_record default_config st.InField fields cell (end ∷ rest)
cell-read s fields [] end rest plain ends is = no-byte s fields end rest ends is
cell-read s fields (b ∷ bs) end rest plain ends is =
    let (comma, cr, lf, quote) = plain-byte b (and-left (other is_separator b) (list_all (other is_separator) bs) plain) in
    start-one ((b ∷ bs) ++ end ∷ rest) s is fields b (bs ++ end ∷ rest) comma cr lf quote
    ∙ copy-all fields (b ∷ []) bs (end ∷ rest) (and-right (other is_separator b) (list_all (other is_separator) bs) plain)

pub comma-read : (fields : List (List ℕ)) (cell rest : List ℕ) → next_record default_config st.InField fields cell (44 ∷ rest) ≡ next_record default_config st.StartField (fields ++ cell ∷ []) [] rest
unfolding next_record
comma-read fields cell rest = refl

pub line-feed : (fields : List (List ℕ)) (cell rest : List ℕ) → next_record default_config st.InField fields cell (10 ∷ rest) ≡ Some (fields ++ cell ∷ [], st.StartRecord, rest)
unfolding next_record
line-feed cells cell rest = refl

pub carriage-return : (fields : List (List ℕ)) (cell rest : List ℕ) → next_record default_config st.InField fields cell (13 ∷ rest) ≡ Some (fields ++ cell ∷ [], st.AfterCr, rest)
unfolding next_record
carriage-return cells cell rest = refl

pub after-return : (n : ℕ) (rest : List ℕ) → records_from default_config n st.AfterCr (10 ∷ rest) ≡ records_from default_config n st.StartRecord (10 ∷ rest)
unfolding records_from next_record
after-return zero rest = refl
after-return (suc n) rest = refl

-- the end of a line before a record is passed over
pub passed : (n : ℕ) (rest : List ℕ) → records_from default_config n st.StartRecord (10 ∷ rest) ≡ records_from default_config n st.StartRecord rest
unfolding records_from next_record
passed zero rest = refl
passed (suc n) rest = refl

pub next-of : (n : ℕ) (text : List ℕ) → records_from default_config (n + 1) st.StartRecord text ≡ records_next (records_from default_config n) (next_record default_config st.StartRecord [] [] text)
unfolding records_from
next-of n text = rw add-one refl

-- ---- a line

pub cells-last : (text marks : List ℕ) (i n : ℕ) → cells_at text marks i (suc n) ≡ cells_at text marks i n ++ cell_at text marks (i + n) ∷ []
cells-last text marks i zero = let same : i ≡ i + 0 = omega arith in ap (λ k. cell_at text marks k ∷ []) same
cells-last text marks i (suc n) = let same : suc i + n ≡ i + suc n = omega arith in ap (λ l. cell_at text marks i ∷ l) (cells-last text marks (suc i) n ∙ ap (λ k. cells_at text marks (suc i) n ++ cell_at text marks k ∷ []) same)

module _ (text marks : List ℕ) (m : AreMarks text marks) where
  abbrev pub from : ℕ → List ℕ
  from i = drop (suc (get_or marks i 0)) text

  -- one cell
  one-read : (i : ℕ) (s : State) (fields : List (List ℕ)) → suc i < length marks → EndsCell (mark_at text marks (suc i)) → IsStart (from i) s
      → next_record default_config s fields [] (from i) ≡ next_record default_config st.InField fields (cell_at text marks i) (mark_at text marks (suc i) ∷ from (suc i))
  one-read i s fields lt ends is =
      let c = cell-is text marks m i lt in
      ap (next_record default_config s fields []) c.split
      ∙ cell-read s fields (cell_at text marks i) (mark_at text marks (suc i)) (from (suc i)) c.plain ends (subst (λ t. IsStart t s) c.split is)

  -- so many cells with commas after them, and the cell after those
  line-read : (n i : ℕ) (s : State) (fields : List (List ℕ)) → suc (i + n) < length marks → ((k : ℕ) → 0 < k → k ≤ n → mark_at text marks (i + k) ≡ 44) → EndsCell (mark_at text marks (suc (i + n))) → IsStart (from i) s
      → next_record default_config s fields [] (from i)
      ≡ next_record default_config st.InField (fields ++ cells_at text marks i n) (cell_at text marks (i + n)) (mark_at text marks (suc (i + n)) ∷ from (suc (i + n)))
  line-read zero i s fields lt commas ends is =
      let same : i + 0 ≡ i = omega arith in
      one-read i s fields (omega (arith, lt)) (subst (λ k. EndsCell (mark_at text marks (suc k))) same ends) is
      ∙ ap₂ (λ fs k. next_record default_config st.InField fs (cell_at text marks k) (mark_at text marks (suc k) ∷ from (suc k))) (sym (append-nil fields)) (sym same)
  line-read (suc n) i s fields lt commas ends is =
      let one : i + 1 ≡ suc i = omega arith in
      let same : suc i + n ≡ i + suc n = omega arith in
      let comma : mark_at text marks (suc i) ≡ 44 = ap (mark_at text marks) (sym one) ∙ commas 1 (omega arith) (omega arith) in
      let cell = cell_at text marks i in
      one-read i s fields (omega (arith, lt)) (inl comma) is
      ∙ ap (λ b. next_record default_config st.InField fields cell (b ∷ from (suc i))) comma
      ∙ comma-read fields cell (from (suc i))
      ∙ line-read n (suc i) st.StartField (fields ++ cell ∷ []) (omega (arith, lt))
      (λ k some le. let there : suc i + k ≡ i + suc k = omega arith in ap (mark_at text marks) there ∙ commas (suc k) (omega arith) (omega (arith, le)))
      (subst (λ k. EndsCell (mark_at text marks (suc k))) (sym same) ends) (inr refl)
      ∙ ap₂ (λ fs k. next_record default_config st.InField fs (cell_at text marks k) (mark_at text marks (suc k) ∷ from (suc k))) (append_assoc fields (cell ∷ []) (cells_at text marks (suc i) n)) same

  -- the text from a line feed on
  feed-is : (i : ℕ) → i < length marks → mark_at text marks i ≡ 10 → drop (get_or marks i 0) text ≡ 10 ∷ from i
  feed-is i lt feed = drop-cons text (get_or marks i 0) 0 (mark-within text marks m i lt) ∙ ap (λ b. b ∷ from i) feed

  -- a line's record, and those after it
  pub line-record : (width step at n : ℕ) → 0 < width → IsLineAt text marks width step at
      → records_from default_config (n + 1) st.StartRecord (drop (get_or marks at 0) text) ≡ cells_at text marks at width ∷ records_from default_config n st.StartRecord (drop (get_or marks (at + step) 0) text)
  line-record zero step at n some l = absurd (omega (arith, some))
  line-record (suc w) step at n some l =
      ap (records_from default_config (n + 1) st.StartRecord) (feed-is at (omega (arith, l.within)) l.feed)
      ∙ passed (n + 1) (from at)
      ∙ next-of n (from at)
      ∙ ending l.ends
    where
      last : at + suc w ≡ suc (at + w)
      last = omega arith

      commas : (k : ℕ) → 0 < k → k ≤ w → mark_at text marks (at + k) ≡ 44
      commas k pos le = l.commas k pos (omega (arith, le))

      whole : List (List ℕ)
      whole = cells_at text marks at (suc w)

      ending : ((step ≡ suc w) × (mark_at text marks (at + suc w) ≡ 10))
          ⊎ ((step ≡ suc w + 1) × (mark_at text marks (at + suc w) ≡ 13) × (mark_at text marks (at + step) ≡ 10) × (get_or marks (at + step) 0 ≡ get_or marks (at + suc w) 0 + 1))
          → records_next (records_from default_config n) (next_record default_config st.StartRecord [] [] (from at)) ≡ whole ∷ records_from default_config n st.StartRecord (drop (get_or marks (at + step) 0) text)
      ending (inl (is, feed)) =
          let feed' : mark_at text marks (suc (at + w)) ≡ 10 = ap (mark_at text marks) (sym last) ∙ feed in
          let there : at + step ≡ suc (at + w) = omega (arith, is) in
          ap (records_next (records_from default_config n))
          (line-read w at st.StartRecord [] (omega (arith, l.within, is)) commas (inr (inl feed')) (inl (refl, l.starts))
          ∙ ap (λ b. next_record default_config st.InField (cells_at text marks at w) (cell_at text marks (at + w)) (b ∷ from (suc (at + w)))) feed'
          ∙ line-feed (cells_at text marks at w) (cell_at text marks (at + w)) (from (suc (at + w))))
          ∙ ap₂ ◌∷◌ (sym (cells-last text marks at w))
          (sym (passed n (from (suc (at + w)))) ∙ ap (records_from default_config n st.StartRecord) (sym (feed-is (suc (at + w)) (omega (arith, l.within, is)) feed') ∙ ap (λ k. drop (get_or marks k 0) text) (sym there)))
      ending (inr (is, cr, feed, next)) =
          let cr' : mark_at text marks (suc (at + w)) ≡ 13 = ap (mark_at text marks) (sym last) ∙ cr in
          let after : suc (get_or marks (suc (at + w)) 0) ≡ get_or marks (at + step) 0 = omega (arith, next, ap (λ k. get_or marks k 0) last) in
          let left : from (suc (at + w)) ≡ 10 ∷ from (at + step) = ap (λ k. drop k text) after ∙ feed-is (at + step) l.within feed in
          ap (records_next (records_from default_config n))
          (line-read w at st.StartRecord [] (omega (arith, l.within, is)) commas (inr (inr cr')) (inl (refl, l.starts))
          ∙ ap (λ b. next_record default_config st.InField (cells_at text marks at w) (cell_at text marks (at + w)) (b ∷ from (suc (at + w)))) cr'
          ∙ carriage-return (cells_at text marks at w) (cell_at text marks (at + w)) (from (suc (at + w))))
          ∙ ap₂ ◌∷◌ (sym (cells-last text marks at w))
          (ap (records_from default_config n st.AfterCr) left ∙ after-return n (from (at + step)) ∙ ap (records_from default_config n st.StartRecord) (sym (feed-is (at + step) l.within feed)))
