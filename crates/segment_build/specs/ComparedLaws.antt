-- Bytes that are compared with a file, one piece after another.
use Rattle.std.proofs.Common.{◌≡◌, ◌∙◌, ◌<◌, ◌+◌, ℕ, zero, suc, List, [], ◌∷◌, ◌++◌, length, take, drop, slice_get, Option, Some, None, IfSome, Result, Ok, Err, OnOk, IsErrOf, refl, sym, ap, subst, arith, zero-add, length-append}
use Rattle.std.proofs.lemmas.List.{drop-drop, take-append-le}
use Rattle.outside.specs.Counts.{Rose}
use Rattle.outside.specs.Files.{Files, bytes_of}
use Rattle.outside.specs.Seen.{OnlyReads, Seen}
use Rattle.segment_build.specs.declared.fault.CompareFault.{CompareFault}
use Rattle.segment_build.specs.declared.fault.CompareFault.TheVariants.{Failed, NoMemory}
use Rattle.segment_build.specs.Compared.{Compared, Compares, DifferAt}
use Rattle.segment_build.specs.FileReads.{LogsFile, LogsOnce, file_then, file_unread, once_none, once_then, once_wider}

-- ---- lists

abbrev none_of : List ℕ
none_of = []

pub slice_get_after : (a b : List ℕ) (n : ℕ) → slice_get (a ++ b) (length a + n) ≡ slice_get b n
slice_get_after [] b n = ap (slice_get b) (zero-add n)
slice_get_after (x ∷ a) b n =
    let next : suc (length a) + n ≡ suc (length a + n) = omega arith in
    ap (slice_get (x ∷ (a ++ b))) next ∙ slice_get_after a b n

pub slice_get_front : (a b : List ℕ) (n : ℕ) → n < length a → slice_get (a ++ b) n ≡ slice_get a n
slice_get_front [] b n lt = absurd (omega arith)
slice_get_front (x ∷ a) b zero lt = refl
slice_get_front (x ∷ a) b (suc n) lt = slice_get_front a b n (omega arith)

pub slice_get_drop : (at : ℕ) (l : List ℕ) (n : ℕ) → slice_get (drop at l) n ≡ slice_get l (at + n)
slice_get_drop zero l n = ap (slice_get l) (sym (zero-add n))
slice_get_drop (suc at) [] n = refl
slice_get_drop (suc at) (x ∷ l) n =
    let next : suc (at + n) ≡ suc at + n = omega arith in
    slice_get_drop at l n ∙ ap (slice_get (x ∷ l)) next

pub take_after : (a b : List ℕ) (n : ℕ) → take (length a + n) (a ++ b) ≡ a ++ take n b
take_after [] b n = ap (λ m. take m b) (zero-add n)
take_after (x ∷ a) b n =
    let next : suc (length a) + n ≡ suc (length a + n) = omega arith in
    ap (λ m. take m (x ∷ (a ++ b))) next ∙ ap (λ l. x ∷ l) (take_after a b n)

take_none : (k : ℕ) → take k (none_of) ≡ none_of
take_none zero = refl
take_none (suc k) = refl

pub take_two : (m n : ℕ) (l : List ℕ) → take (m + n) l ≡ take m l ++ take n (drop m l)
take_two zero n l = ap (λ k. take k l) (zero-add n)
take_two (suc m) n [] =
    let next : suc m + n ≡ suc (m + n) = omega arith in
    ap (λ k. take k []) next ∙ sym (take_none n)
take_two (suc m) n (x ∷ l) =
    let next : suc m + n ≡ suc (m + n) = omega arith in
    ap (λ k. take k (x ∷ l)) next ∙ ap (λ r. x ∷ r) (take_two m n l)

-- ---- two pieces

joined_same : (file a b : List ℕ) (at : ℕ) → take (length a) (drop at file) ≡ a
    → take (length b) (drop (at + length a) file) ≡ b
    → take (length (a ++ b)) (drop at file) ≡ a ++ b
joined_same file a b at first second =
    ap (λ n. take n (drop at file)) (length-append a b)
    ∙ take_two (length a) (length b) (drop at file)
    ∙ ap (λ l. l ++ take (length b) (drop (length a) (drop at file))) first
    ∙ ap (λ l. a ++ take (length b) l) (drop-drop (length a) at file) ∙ ap (λ l. a ++ l) second

joined_differs : (file a b : List ℕ) (at n : ℕ) → take (length a) (drop at file) ≡ a
    → DifferAt b (drop (at + length a) file) n → DifferAt (a ++ b) (drop at file) (length a + n)
joined_differs file a b at n first d =
    let rest : List ℕ = drop at file in
    let moved : drop (length a) rest ≡ drop (at + length a) file = drop-drop (length a) at file in
    record {
      same = take_after a b n ∙ ap (λ l. a ++ l) (d.same ∙ ap (take n) (sym moved))
          ∙ ap (λ l. l ++ take n (drop (length a) rest)) (sym first)
          ∙ sym (take_two (length a) n rest);
      other = λ e. d.other (sym (slice_get_after a b n) ∙ e
          ∙ sym (slice_get_drop (length a) rest n) ∙ ap (λ l. slice_get l n) moved);
    }

stopped_differs : (list a b : List ℕ) (n : ℕ) → n < length a → DifferAt a list n
    → DifferAt (a ++ b) list n
stopped_differs list a b n lt d = record {
  same = take-append-le n a b (omega arith) ∙ d.same;
  other = λ e. d.other (sym (slice_get_front a b n lt) ∙ e);
}

if_both : {X : Type 0} (o : Option X) {P Q R : X → Type 0} → ((x : X) → P x → Q x → R x)
    → IfSome o P → IfSome o Q → IfSome o R
if_both None f p q = tt
if_both (Some x) f p q = f x p q

if_then : {X : Type 0} (o : Option X) {P Q : X → Type 0} → ((x : X) → P x → Q x)
    → IfSome o P → IfSome o Q
if_then None f p = tt
if_then (Some x) f p = f x p

on_ok : {A E P Q : Type 0} (r : Result A E) → (P → Q) → OnOk r P → OnOk r Q
on_ok (Ok x) f p = f p
on_ok (Err e) f p = tt

-- reads after reads that went well
pub reads_then : (Fails : Type 0) (s t u : Seen) → OnlyReads ⊥ s t → OnlyReads Fails t u
    → OnlyReads Fails s u
reads_then Fails s t u a b =
    let same : t.read_faults ≡ s.read_faults = a.unchanged (λ x. x) in
    record {
      held = b.held ∙ a.held;
      parts = b.parts ∙ a.parts;
      writes = b.writes ∙ a.writes;
      later = omega (arith, a.later, b.later);
      rose = λ fails. subst (λ n. Rose n u.read_faults) same (b.rose fails);
      unchanged = λ fine. b.unchanged fine ∙ same;
    }

went_well : (s t : Seen) → OnlyReads (◌≡◌ {A = Result (Unit {0}) CompareFault} (Ok tt)
    (Err Failed)) s t → OnlyReads ⊥ s t
went_well s t a = record {
  held = a.held;
  parts = a.parts;
  writes = a.writes;
  later = a.later;
  rose
      = λ x. absurd x;
  unchanged = λ x. a.unchanged (λ e. cc);
}

pub compares_joined : (a b : List ℕ) (r : Result (Unit {0}) CompareFault) (x y z : Compared)
    (s t u : Seen) → Compares a (Ok tt) x s y t → Compares b r y t z u → Compares (a ++ b) r x s z u
compares_joined a b r x y z s t u first then =
    let long : length (a ++ b) ≡ length a + length b = length-append a b in
    let held : t.held ≡ s.held = first.only_reads.held in
    let File : Files → List ℕ = λ files. bytes_of (Some files) x.file in
    record {
      file = then.file ∙ first.file;
      moved = λ small.
          let at : y.at ≡ x.at + length a = first.moved (omega (arith, long)) in
          on_ok r (λ e. let h = e in omega (arith, long, at)) (then.moved (omega
          (arith, long, at)));
      same = λ small.
          let at : y.at ≡ x.at + length a = first.moved (omega (arith, long)) in
          on_ok r
          (λ found. if_both s.held (λ files p q. joined_same (File files) a b x.at p q)
          (first.same (omega (arith, long)))
          (subst (λ p. IfSome s.held (λ files. take (length b) (drop p (File files)) ≡ b)) at
          (subst (λ f. IfSome s.held (λ files. take (length b) (drop y.at (bytes_of
          (Some files) f)) ≡ b)) first.file
          (subst (λ h. IfSome h (λ files. take (length b) (drop y.at (bytes_of
          (Some files) y.file)) ≡ b)) held found))))
          (then.same (omega (arith, long, at)));
      differs = λ small is.
          let at : y.at ≡ x.at + length a = first.moved (omega (arith, long)) in
          let Found : ℕ → List ℕ → Files → Type 0 = λ p f files. (n : ℕ) × (z.at
          ≡ p + n) × (n < length b) × DifferAt b (drop p (bytes_of (Some files) f)) n in
          if_both s.held
          (λ files p q. (
            length a + q.0,
            omega (arith, q.1),
            omega
                (arith, long, q.2),
            joined_differs (File files) a b x.at q.0 p q.3,
          ))
          (first.same (omega (arith, long)))
          (subst (λ p. IfSome s.held (Found p x.file)) at
          (subst (λ f. IfSome s.held (Found y.at f)) first.file
          (subst (λ h. IfSome h (Found y.at y.file)) held (then.differs (omega
          (arith, long, at)) is))));
      only_reads = reads_then (IsErrOf r Failed) s t u
          (went_well s t first.only_reads) then.only_reads;
      log = file_then x.file s.log t.log u.log first.log
          (subst (λ f. LogsFile f t.log u.log) first.file then.log);
      once = λ small.
          (let at : y.at ≡ x.at + length a = first.moved (omega (arith, long)) in
          let rest : LogsOnce x.file y.at (y.at + length b) t.log u.log =
          subst (λ f. LogsOnce f y.at (y.at + length b) t.log u.log) first.file (then.once (omega
          (arith, long, at))) in
          once_wider x.file x.at (y.at + length b) x.at (x.at + length (a ++ b)) s.log u.log
          (once_then x.file x.at (x.at + length a) y.at (y.at + length b) s.log t.log u.log
          (omega (arith, at)) (omega (arith, at)) (omega (arith, at))
          (first.once (omega (arith, long))) rest)
          (omega arith) (omega (arith, at, long)));
    }

pub compares_stopped : (a b : List ℕ) (fault : CompareFault) (x y : Compared)
    (s t : Seen) → Compares a (Err fault) x s y t → Compares (a ++ b) (Err fault) x s y t
compares_stopped a b fault x y s t first =
    let long : length (a ++ b) ≡ length a + length b = length-append a b in
    record {
      file = first.file;
      moved = λ small. tt;
      same = λ small. tt;
      differs = λ small is.
          if_then s.held
          (λ files q. (
            q.0,
            q.1,
            omega (arith, long, q.2),
            stopped_differs (drop x.at
                (bytes_of (Some files) x.file)) a b q.0 q.2 q.3,
          ))
          (first.differs (omega (arith, long)) is);
      only_reads = first.only_reads;
      log = first.log;
      once = λ small.
          once_wider x.file x.at (x.at + length a) x.at (x.at + length (a ++ b)) s.log t.log
          (first.once (omega (arith, long))) (omega arith) (omega (arith, long));
    }

-- where there is no memory for some, nothing is compared
pub compares_declined : (a : List ℕ) (x : Compared) (s : Seen)
    → Compares a (Err NoMemory) x s x s
compares_declined a x s = record {
  file = refl;
  moved = λ small. tt;
  same = λ small. tt;
  differs = λ small is. absurd cc;
  only_reads = record {
    held = refl;
    parts = refl;
    writes = refl;
    later = omega arith;
    rose = λ fails. absurd cc;
    unchanged = λ fine. refl;
  };
  log = file_unread x.file s.log s.log refl;
  once = λ small. once_none x.file x.at (x.at + length a) s.log s.log refl;
}
