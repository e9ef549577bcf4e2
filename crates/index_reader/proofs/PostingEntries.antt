-- Between the offsets of a run of keys stand their entries, which are the documents whose key is in the run.
use Rattle.std.proofs.Common.{◌≡◌, ◌∙◌, ℕ, zero, suc, ◌+◌, ◌-◌, ◌<◌, ◌≤◌, ◌==◌, Bool, true, false, cond, ◌&&◌, ◌||◌, nat_eq, nat_le, nat_lt, List, [], ◌∷◌, ◌++◌, All, length, map, take, drop, get_or, refl, sym, ap, arith, eq-eqb, inl, inr, length-append, append_assoc}
use Rattle.std.specs.List.{filter, enumerate_from}
use Rattle.std.proofs.lemmas.Bool.{leb-true, leb-false, lt-ltb, le-ltb, ltb-true, ltb-false, eqb-true, eqb-false, ne_eqb}
use Rattle.std.proofs.Math.Bool.{and-false, and-true, or-false}
use Rattle.std.proofs.Math.Nat.{eq-or-lt_of_le}
use Rattle.std.proofs.lemmas.List.{append-nil}
use Rattle.std.proofs.lemmas.List.Elements.{All-head, All-tail}
use Rattle.std.proofs.lemmas.List.Folds.{list_any-append}
use Rattle.bit_column.specs.Postings.{places_from, places_of, entries, offset}
use Rattle.doc_lists.specs.Docs.{Apart, has_doc}
use Rattle.doc_lists.specs.Sets.{in_run, in_runs}
use Rattle.doc_lists.specs.declared.run.Run.{Run}
use Rattle.index_reader.specs.Entries.{entries_in, entries_of, part_between, part_of}
use Rattle.index_reader.proofs.DocsOfRuns.{spread}

-- ---- the places of one key

head_by : (b : Bool) (place k doc : ℕ) (rest : List (ℕ × ℕ)) → has_doc (map (λ e. e.0) (cond b ((place, k) ∷ rest) rest)) doc ≡ (b && nat_eq doc place) || has_doc (map (λ e. e.0) rest) doc
head_by true place k doc rest = refl
head_by false place k doc rest = refl

-- whether a document is among the places of a key, by the first of the keys and the others
one_more : (place key k doc : ℕ) (ks : List ℕ) → has_doc (places_from place key (k ∷ ks)) doc ≡ ((k == key) && nat_eq doc place) || has_doc (places_from (place + 1) key ks) doc
one_more place key k doc ks = head_by (k == key) place k doc (filter (λ e. e.1 == key) (enumerate_from (place + 1) ks))

before_all : (place key doc : ℕ) (ks : List ℕ) → doc < place → has_doc (places_from place key ks) doc ≡ false
before_all place key doc [] lt = refl
before_all place key doc (k ∷ ks) lt =
    let no : nat_eq doc place ≡ false = ne_eqb doc place (λ e. omega (arith, e, lt)) in
    one_more place key k doc ks ∙ ap (λ t. ((k == key) && t) || has_doc (places_from (place + 1) key ks) doc) no
    ∙ ap (λ t. t || has_doc (places_from (place + 1) key ks) doc) (and-false (k == key)) ∙ before_all (place + 1) key doc ks (omega (arith, lt))

suc_lt : (d n : ℕ) (b : Bool) → nat_lt d n ≡ b → nat_lt (suc d) (suc n) ≡ b
suc_lt d n true e = lt-ltb (suc d) (suc n) (omega (arith, ltb-true d n e))
suc_lt d n false e = le-ltb (suc d) (suc n) (omega (arith, ltb-false d n e))

place_is : (place key d : ℕ) (ks : List ℕ) → has_doc (places_from place key ks) (place + d) ≡ nat_lt d (length ks) && nat_eq (get_or ks d 0) key
place_is place key d [] = let no : nat_lt d 0 ≡ false = le-ltb d 0 (omega arith) in sym (ap (λ t. t && nat_eq 0 key) no)
place_is place key zero (k ∷ ks) =
    let same : nat_eq (place + 0) place ≡ true = eq-eqb (place + 0) place (omega arith) in
    let inside : nat_lt 0 (suc (length ks)) ≡ true = lt-ltb 0 (suc (length ks)) (omega arith) in
    one_more place key k (place + 0) ks
    ∙ ap (λ t. ((k == key) && nat_eq (place + 0) place) || t) (before_all (place + 1) key (place + 0) ks (omega arith))
    ∙ or-false ((k == key) && nat_eq (place + 0) place) ∙ ap (λ t. (k == key) && t) same ∙ and-true (k == key)
    ∙ sym (ap (λ t. t && nat_eq k key) inside)
place_is place key (suc d) (k ∷ ks) =
    let apart : nat_eq (place + suc d) place ≡ false = ne_eqb (place + suc d) place (λ e. omega (arith, e)) in
    let next : place + suc d ≡ place + 1 + d = omega arith in
    one_more place key k (place + suc d) ks
    ∙ ap (λ t. ((k == key) && t) || has_doc (places_from (place + 1) key ks) (place + suc d)) apart
    ∙ ap (λ t. t || has_doc (places_from (place + 1) key ks) (place + suc d)) (and-false (k == key))
    ∙ ap (has_doc (places_from (place + 1) key ks)) next ∙ place_is (place + 1) key d ks
    ∙ ap (λ t. t && nat_eq (get_or ks d 0) key) (sym (suc_lt d (length ks) (nat_lt d (length ks)) refl))

pub key_places : (key doc : ℕ) (keys : List ℕ) → has_doc (places_of key keys) doc ≡ nat_lt doc (length keys) && nat_eq (get_or keys doc 0) key
key_places key doc keys =
    let same : doc ≡ 0 + doc = omega arith in
    ap (has_doc (places_of key keys)) same ∙ place_is 0 key doc keys

-- ---- the places of keys that follow one another

-- the entries of so many keys from one on
abbrev run_entries : ℕ → ℕ → List ℕ → List ℕ
run_entries key zero keys = []
run_entries key (suc more) keys = run_entries key more keys ++ places_of (key + more) keys

split : (key more : ℕ) (keys : List ℕ) → entries (key + more) keys ≡ entries key keys ++ run_entries key more keys
split key zero keys =
    let same : key + 0 ≡ key = omega arith in
    ap (λ n. entries n keys) same ∙ sym (append-nil (entries key keys))
split key (suc more) keys =
    let up : key + suc more ≡ suc (key + more) = omega arith in
    ap (λ n. entries n keys) up ∙ ap (λ es. es ++ places_of (key + more) keys) (split key more keys) ∙ append_assoc (entries key keys) (run_entries key more keys) (places_of (key + more) keys)

-- the offsets of keys ascend
pub offsets_ascend : (keys : List ℕ) (low high : ℕ) → low ≤ high → offset keys low ≤ offset keys high
offsets_ascend keys low high le =
    let whole : low + (high - low) ≡ high = omega (arith, le) in
    let lengths = ap length (split low (high - low) keys) ∙ length-append (entries low keys) (run_entries low (high - low) keys) in
    let same = ap (offset keys) whole in
    omega (arith, lengths, same)

-- whether a key is one of so many from another on
abbrev among : ℕ → ℕ → ℕ → Bool
among key more x = nat_le key x && nat_lt x (key + more)

above_other : (x low high : ℕ) → low ≤ x → (x ≡ low → ⊥) → high ≡ suc low → high ≤ x
above_other x low high le other is = elim (eq-or-lt_of_le le) [ inl same ↦ absurd (other (sym same)) | inr less ↦ omega (arith, less, is) ]

no_key : (a inside : Bool) (key x : ℕ) → nat_le key x ≡ a → false ≡ inside && (a && nat_lt x (key + 0))
no_key true inside key x p = sym (ap (λ t. inside && t) (le-ltb x (key + 0) (omega (arith, leb-true key x p))) ∙ and-false inside)
no_key false inside key x p = sym (and-false inside)

among_by : (a b c : Bool) (key more x : ℕ) → nat_le key x ≡ a → nat_lt x (key + more) ≡ b → nat_eq x (key + more) ≡ c → (a && b) || c ≡ a && nat_lt x (key + suc more)
among_by true true c key more x p q r = sym (lt-ltb x (key + suc more) (omega (arith, ltb-true x (key + more) q)))
among_by true false true key more x p q r = sym (lt-ltb x (key + suc more) (omega (arith, eqb-true x (key + more) r)))
among_by true false false key more x p q r =
    let past = ltb-false x (key + more) q in
    let other = eqb-false x (key + more) r in
    sym (le-ltb x (key + suc more) (above_other x (key + more) (key + suc more) past other (omega arith)))
among_by false b true key more x p q r = absurd (omega (arith, leb-false key x p, eqb-true x (key + more) r))
among_by false b false key more x p q r = refl

-- one key more
one_key : (key more x : ℕ) → among key more x || nat_eq x (key + more) ≡ among key (suc more) x
one_key key more x = among_by (nat_le key x) (nat_lt x (key + more)) (nat_eq x (key + more)) key more x refl refl refl

run_places : (key more doc : ℕ) (keys : List ℕ) → has_doc (run_entries key more keys) doc ≡ nat_lt doc (length keys) && among key more (get_or keys doc 0)
run_places key zero doc keys = no_key (nat_le key (get_or keys doc 0)) (nat_lt doc (length keys)) key (get_or keys doc 0) refl
run_places key (suc more) doc keys =
    let x = get_or keys doc 0 in
    let inside = nat_lt doc (length keys) in
    list_any-append (nat_eq doc) (run_entries key more keys) (places_of (key + more) keys)
    ∙ ap (λ t. t || has_doc (places_of (key + more) keys) doc) (run_places key more doc keys)
    ∙ ap (λ t. (inside && among key more x) || t) (key_places (key + more) doc keys)
    ∙ spread inside (among key more x) (nat_eq x (key + more))
    ∙ ap (λ t. inside && t) (one_key key more x)

dropped : (xs ys : List ℕ) → drop (length xs) (xs ++ ys) ≡ ys
dropped [] ys = refl
dropped (x ∷ xs) ys = dropped xs ys

taken : (xs ys : List ℕ) → take (length xs) (xs ++ ys) ≡ xs
taken [] ys = refl
taken (x ∷ xs) ys = ap (λ zs. x ∷ zs) (taken xs ys)

-- the entries of the keys from one up to another
between_entries : (count from to : ℕ) (keys : List ℕ) → from ≤ to → to ≤ count → entries_of count keys (part_between keys from to) ≡ run_entries from (to - from) keys
between_entries count from to keys order within =
    let own = run_entries from (to - from) keys in
    let before = entries from keys in
    let next : from + (to - from) ≡ to = omega (arith, order) in
    let whole : to + (count - to) ≡ count = omega (arith, within) in
    let after = run_entries to (count - to) keys in
    let upto : entries to keys ≡ before ++ own = ap (λ n. entries n keys) (sym next) ∙ split from (to - from) keys in
    let all : entries count keys ≡ before ++ (own ++ after) =
    ap (λ n. entries n keys) (sym whole) ∙ split to (count - to) keys ∙ ap (λ es. es ++ after) upto ∙ append_assoc before own after in
    let size : offset keys to - offset keys from ≡ length own = omega (arith, ap length upto, length-append before own) in
    ap (λ n. take n (drop (offset keys from) (entries count keys))) size
    ∙ ap (λ es. take (length own) (drop (length before) es)) all
    ∙ ap (take (length own)) (dropped before (own ++ after)) ∙ taken own after

-- whether a document is among them
pub between_places : (count from to : ℕ) (keys : List ℕ) (doc : ℕ) → from ≤ to → to ≤ count
    → has_doc (entries_of count keys (part_between keys from to)) doc ≡ nat_lt doc (length keys) && (nat_le from (get_or keys doc 0) && nat_lt (get_or keys doc 0) to)
between_places count from to keys doc order within =
    let x = get_or keys doc 0 in
    let next : from + (to - from) ≡ to = omega (arith, order) in
    ap (λ es. has_doc es doc) (between_entries count from to keys order within) ∙ run_places from (to - from) doc keys
    ∙ ap (λ n. nat_lt doc (length keys) && (nat_le from x && nat_lt x n)) next

-- the entries of a run of keys
part_entries : (count : ℕ) (keys : List ℕ) (run : Run) → run.first ≤ run.last → run.last < count → entries_of count keys (part_of keys run) ≡ run_entries run.first (run.last + 1 - run.first) keys
part_entries count keys run order within = between_entries count run.first (run.last + 1) keys (omega (arith, order)) (omega (arith, within))

upto_by : (b : Bool) (run : Run) (x : ℕ) → run.first ≤ run.last → nat_le x run.last ≡ b → nat_lt x (run.first + (run.last + 1 - run.first)) ≡ b
upto_by true run x order p = lt-ltb x (run.first + (run.last + 1 - run.first)) (omega (arith, order, leb-true x run.last p))
upto_by false run x order p = le-ltb x (run.first + (run.last + 1 - run.first)) (omega (arith, order, leb-false x run.last p))

among_run : (a : Bool) (run : Run) (x : ℕ) → run.first ≤ run.last → nat_le run.first x ≡ a → a && nat_lt x (run.first + (run.last + 1 - run.first)) ≡ a && nat_le x run.last
among_run false run x order p = refl
among_run true run x order p = upto_by (nat_le x run.last) run x order refl

-- whether a document is among the entries of runs of keys
pub runs_places : (count from : ℕ) (keys : List ℕ) (runs : List Run) (doc : ℕ) → Apart from runs → All (λ run. run.last < count) runs
    → has_doc (entries_in count keys (map (part_of keys) runs)) doc ≡ nat_lt doc (length keys) && in_runs runs (get_or keys doc 0)
runs_places count from keys [] doc apart within = sym (and-false (nat_lt doc (length keys)))
runs_places count from keys (run ∷ runs) doc apart within =
    let x = get_or keys doc 0 in
    let inside = nat_lt doc (length keys) in
    let own = All-head (λ r. r.last < count) run runs within in
    let rest = entries_in count keys (map (part_of keys) runs) in
    list_any-append (nat_eq doc) (entries_of count keys (part_of keys run)) rest
    ∙ ap (λ es. has_doc es doc || has_doc rest doc) (part_entries count keys run apart.1 own)
    ∙ ap (λ t. t || has_doc rest doc) (run_places run.first (run.last + 1 - run.first) doc keys)
    ∙ ap (λ t. (inside && t) || has_doc rest doc) (among_run (nat_le run.first x) run x apart.1 refl)
    ∙ ap (λ t. (inside && in_run x run) || t) (runs_places count (run.last + 2) keys runs doc apart.3 (All-tail (λ r. r.last < count) run runs within))
    ∙ spread inside (in_run x run) (in_runs runs x)
