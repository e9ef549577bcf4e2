-- The bytes of reads, counted.
use Rattle.std.proofs.Common.{◌≡◌, ◌∙◌, ◌<◌, ◌≤◌, ◌+◌, ◌-◌, ◌*◌, ◌/◌, ◌∷◌, ◌++◌, [], ℕ, zero, suc, Bool, true, false, nat_lt, take, get_or, inl, inr, List, Option, Some, None, length, map, refl, sym, ap, subst, arith, append_assoc, append-nil, length-append}
use Rattle.std.specs.Prelude.{if◌then◌else◌, option_map}
use Rattle.std.specs.List.{sum_by}
use Rattle.std.proofs.lemmas.Bool.Decides.{nat_tests}
use Rattle.std.proofs.lemmas.Bool.{false≢true}
use Rattle.std.proofs.lemmas.List.Sums.{sum_by-append, sum_by-cons}
use Rattle.std.proofs.lemmas.List.FromFn.{length-range_with_len}
use Rattle.std.proofs.lemmas.Nat.{mul-le}
use Rattle.outside.specs.Reads.{AllGive, Entry, LogsOn}
use Rattle.bit_column.specs.Sections.{end_byte, first_byte}
use Rattle.doc_lists.specs.Docs.{Apart, docs_of, docs_of_run}
use Rattle.doc_lists.specs.declared.run.Run.{Run}
use Rattle.outside.specs.Stretches.{LogsOver}
use Rattle.column_reader.specs.Bytes.{GrowsBy, column_bytes, most_bytes}
use Rattle.column_reader.specs.Picked.{ids_of_run}
use Rattle.std.proofs.lemmas.Bool.{cases_lt}
use Rattle.std.proofs.Math.Seq.{get_or-append_seam}
use Rattle.std.proofs.lemmas.List.{get_or_append_left}

joined_told : (old mid new : Option (List Entry)) (a b : List Entry) → mid ≡ option_map (λ before. before ++ a) old → new ≡ option_map (λ before. before ++ b) mid → new ≡ option_map (λ before. before ++ (a ++ b)) old
joined_told None mid new a b one two = two ∙ ap (option_map (λ before. before ++ b)) one
joined_told (Some log) mid new a b one two = two ∙ ap (option_map (λ before. before ++ b)) one ∙ ap Some (append_assoc log a b)

sum_joined : (a b : List Entry) → sum_by (λ entry. entry.count) (a ++ b) ≡ sum_by (λ entry. entry.count) a + sum_by (λ entry. entry.count) b
sum_joined a b = sum_by-append (λ entry. entry.count) a b

pub grows_none : (log : Option (List Entry)) → GrowsBy 0 log log
grows_none None = ([], refl, omega arith)
grows_none (Some log) = ([], ap Some (sym (append-nil log)), omega arith)

pub grows_same : (old new : Option (List Entry)) → new ≡ old → GrowsBy 0 old new
grows_same old new is = subst (GrowsBy 0 old) (sym is) (grows_none old)

pub grows_both : (m n most : ℕ) (old mid new : Option (List Entry)) → m + n ≤ most → GrowsBy m old mid → GrowsBy n mid new → GrowsBy most old new
grows_both m n most old mid new le one two = (one.0 ++ two.0, joined_told old mid new one.0 two.0 one.1 two.1, omega (arith, sum_joined one.0 two.0, one.2, two.2, le))

given_bytes : (file : List ℕ) (from to : ℕ) (entries : List Entry) → AllGive file from to entries → sum_by (λ entry. entry.count) entries ≤ to - from
given_bytes file from to [] give = omega arith
given_bytes file from to (x ∷ xs) give =
    let rest = given_bytes file (from + x.count) to xs give.3 in
    let reach = reaches file (from + x.count) to xs give.3 in
    let sum = sum_by-cons (λ entry. entry.count) x xs in
    omega (arith, rest, reach, sum)
  where
    reaches : (file : List ℕ) (a b : ℕ) (entries : List Entry) → AllGive file a b entries → a ≤ b
    reaches file a b [] give = omega (arith, give)
    reaches file a b (x ∷ xs) give = let more = reaches file (a + x.count) b xs give.3 in omega (arith, more)

pub grows_on : (file : List ℕ) (from to most : ℕ) (old new : Option (List Entry)) → to - from ≤ most → LogsOn file from to old new → GrowsBy most old new
grows_on file from to most old new le logs = (logs.0, logs.1, let at_most = given_bytes file from to logs.0 logs.2 in omega (arith, at_most, le))

-- a run of documents has at most four bytes a document
sum_of : (a n w : ℕ) → (a + n) * w ≡ a * w + n * w
sum_of a n w = omega arith

run_bytes : (b : Bool) (a c n from : ℕ) → b ≡ true → 1 ≤ n → c ≤ n * 25 → (if b then (a + c + 7) / 8 else from) - a / 8 ≤ 4 * n
run_bytes true a c n from is some small = omega (arith, some, small)
run_bytes false a c n from is some small = absurd (false≢true is)

inside : (a b : ℕ) → a < b → nat_lt a b ≡ true
inside a b lt = grind (arith, nat_tests)

short_run : (width first last : ℕ) → first ≤ last → width ≤ 25 → end_byte width first (last + 1) - first_byte width first ≤ 4 * (last + 1 - first)
short_run width first last order small =
    let n : ℕ = last + 1 - first in
    let whole : last + 1 ≡ first + n = omega (arith, order) in
    let most : n * width ≤ n * 25 = mul-le n width n 25 (omega arith) small in
    subst (λ m. (if nat_lt first (last + 1) then (m + 7) / 8 else first * width / 8) - first * width / 8 ≤ 4 * n) (sym (ap (λ k. k * width) whole ∙ sum_of first n width))
    (run_bytes (nat_lt first (last + 1)) (first * width) (n * width) n (first * width / 8) (inside first (last + 1) (omega (arith, order))) (omega (arith, order)) most)

pub grows_runs : (file : List ℕ) (width offset key : ℕ) (runs : List Run) (old new : Option (List Entry)) → width ≤ 25 → Apart key runs → LogsOver file (map (ids_of_run width offset) runs) old new → GrowsBy (4 * length (docs_of runs)) old new
grows_runs file width offset key [] old new small apart logs = grows_same old new logs
grows_runs file width offset key (run ∷ runs) old new small apart logs =
    let own = short_run width run.first run.last apart.1 small in
    let size = length-append (docs_of_run run) (docs_of runs) in
    let lengths = length-range_with_len run.first (run.last + 1 - run.first) in
    grows_both (4 * (run.last + 1 - run.first)) (4 * length (docs_of runs)) (4 * length (docs_of (run ∷ runs))) old logs.0 new (omega (arith, size, lengths))
    (grows_on file (offset + first_byte width run.first) (offset + end_byte width run.first (run.last + 1)) (4 * (run.last + 1 - run.first)) old logs.0 (omega (arith, own)) logs.1)
    (grows_runs file width offset (run.last + 2) runs logs.0 new small apart.3 logs.2)

-- the bytes of the first columns, and of one more
pub bytes_more : (docs : List ℕ) (named : List Bool) (i : ℕ) → i < length named → most_bytes (take i named) docs + column_bytes docs (get_or named i false) ≡ most_bytes (take (suc i) named) docs
bytes_more docs [] i lt = absurd (omega (arith, lt))
bytes_more docs (b ∷ bs) zero lt = let sum = sum_by-cons (column_bytes docs) b [] in omega (arith, sum)
bytes_more docs (b ∷ bs) (suc i) lt =
    let rest = bytes_more docs bs i (omega (arith, lt)) in
    let one = sum_by-cons (column_bytes docs) b (take i bs) in
    let two = sum_by-cons (column_bytes docs) b (take (suc i) bs) in
    omega (arith, rest, one, two)

-- what holds of the items of a list holds of one item more
pub grown_at : {X : Type 0} (P : ℕ → X → Type 0) (d : X) (old new : List X) (x : X) (n : ℕ) → length old ≡ n → new ≡ old ++ x ∷ [] → ((k : ℕ) → k < n → P k (get_or old k d)) → P n x → (k : ℕ) → k < n + 1 → P k (get_or new k d)
grown_at {X} P d old new x n lengths is each own k lt = elim (cases_lt k n) [
  | inl less ↦ subst (P k) (sym (ap (λ (l : List X). get_or l k d) is ∙ get_or_append_left old (x ∷ []) d k (omega (arith, less, lengths)))) (each k less)
  | inr ge ↦
      let same : n ≡ k = omega (arith, ge, lt) in
      let there : get_or new n d ≡ x = ap (λ (l : List X). get_or l n d) is ∙ ap (λ m. get_or (old ++ x ∷ []) m d) (sym lengths) ∙ get_or-append_seam old x [] d in
      subst (λ m. P m (get_or new m d)) same (subst (P n) (sym there) own)
]
