-- The documents of picks are read, pick by pick.
use Rattle.std.proofs.Common.{◌≡◌, ◌∙◌, ℕ, zero, suc, ◌+◌, ◌-◌, ◌*◌, ◌<◌, ◌≤◌, inl, inr, List, []}
use Rattle.std.proofs.Common.{◌∷◌, ◌++◌, Bool, true, false, cond, Option, Some, None, IfSome, length, get_or, take, drop}
use Rattle.std.proofs.Common.{refl, sym, ap, subst, arith, append_assoc, append-nil, le_refl}
use Rattle.std.specs.List.{filter}
use Rattle.std.proofs.lemmas.List.{drop_more, drop_all, length-map, length-append, map-append}
use Rattle.std.proofs.lemmas.List.{take_all, take_more}
use Rattle.std.proofs.lemmas.List.Elements.{All-nil}
use Rattle.std.proofs.Math.Nat.{mul-le-mul_right}
use Rattle.outside.specs.Files.{Files}
use Rattle.outside.specs.Reads.{Entry, LogsOn, LogsUpTo}
use Rattle.outside.specs.Seen.{OnlyReads, Seen}
use Rattle.outside.proofs.ReadLemmas.{logs-none, logs-up}
use Rattle.outside.proofs.SeenLemmas.{reads_after, reads_none}
use Rattle.agg_laws.specs.declared.tree_shape.TreeShape.{TreeShape}
use Rattle.state_columns.specs.Docs.{Doc, Docs}
use Rattle.star_tree.specs.Picks as asks
use Rattle.star_tree.specs.Picks.{holds_from}
use Rattle.star_file.specs.Reading.{doc_width, section, HasDocuments}
use Rattle.star_file.proofs.DocLaws.{only}
use Rattle.star_walk.specs.declared.pick.Pick.{Pick}
use Rattle.star_walk.specs.declared.task.Task.{Task}
use Rattle.star_walk.specs.Images.{AreWithin, read_of}
use Rattle.star_reader.specs.declared.asked.Asked.{Asked}
use Rattle.star_reader.specs.declared.tree_part.TreePart.{TreePart}
use Rattle.star_reader.specs.Asked.{kinds_for}
use Rattle.star_reader.specs.Answers.{AreRead, LogsPicks, LogsSome, TellsRead, asked_of, left_of}
use Rattle.star_reader.specs.Answers.{passed}
use Rattle.star_reader.specs.Selected.{AreKeyIds, ArePicked, IsSelected, MayBeSelected, selected_doc, selected_docs}
use Rattle.star_reader.specs.Taken.{RefusesPart}
use Rattle.star_reader.proofs.TakeSteps.{may_first}

-- ---- documents pick by pick

module _ (shape : TreeShape) (counts bytes : List ℕ) where
  -- the documents of one pick more
  pub read_more : (ps : List Pick) (read : List (List Doc)) (p : Pick) (docs : List Doc)
      → AreRead shape counts bytes ps read → HasDocuments shape counts p.start p.end bytes docs
      → AreRead shape counts bytes (ps ++ p ∷ []) (read ++ docs ∷ [])
  read_more [] [] p docs are has = (has, tt)
  read_more [] (d ∷ ds) p docs are has = absurd are
  read_more (q ∷ ps) [] p docs are has = absurd are
  read_more (q ∷ ps) (d ∷ ds) p docs are has = (are.0, read_more ps ds p docs are.1 has)

  -- each pick has documents
  pub read_at : (ps : List Pick) (read : List (List Doc)) (i : ℕ) (d : Pick) → i < length ps
      → AreRead shape counts bytes ps read
      → (docs : List Doc)
      × HasDocuments shape counts (get_or ps i d).start (get_or ps i d).end bytes docs
  read_at [] read i d lt are = absurd (omega arith)
  read_at (p ∷ ps) [] i d lt are = absurd are
  read_at (p ∷ ps) (docs ∷ rest) zero d lt are = (docs, are.0)
  read_at (p ∷ ps) (docs ∷ rest) (suc i) d lt are = read_at ps rest i d (omega arith) are.1

  -- the documents of the first picks and of the next are those that are read of them
  pub passed_split : (t : asks.Task) (k : ℕ) (ps : List Pick) (i : ℕ) (d : Pick)
      (read all : List (List Doc)) (docs : List Doc) → i < length ps
      → AreRead shape counts bytes (take i ps) read
      → HasDocuments shape counts (get_or ps i d).start (get_or ps i d).end bytes docs
      → AreRead shape counts bytes ps all
      → (rest : List Doc) × (passed t k ps all
      ≡ (passed t k (take i ps) read ++ left_of t k (get_or ps i d).level docs) ++ rest)
  passed_split t k [] i d read all docs lt first next are = absurd (omega arith)
  passed_split t k (p ∷ ps) i d read [] docs lt first next are = absurd are
  passed_split t k (p ∷ ps) zero d [] (own ∷ all) docs lt first next are = (
    passed t k ps all,
    ap (λ l. left_of t k p.level l ++ passed t k ps all)
        (only shape counts (p.end - p.start) (drop (p.start * doc_width shape) bytes) own docs
        are.0.are next.are),
  )
  passed_split t k (p ∷ ps) zero d (r ∷ read) (own ∷ all) docs lt first next are = absurd first
  passed_split t k (p ∷ ps) (suc i) d [] (own ∷ all) docs lt first next are = absurd first
  passed_split t k (p ∷ ps) (suc i) d (r ∷ read) (own ∷ all) docs lt first next are =
      let more = passed_split t k ps i d read all docs (omega arith) first.1 next are.1 in
      let same = only shape counts (p.end - p.start) (drop (p.start * doc_width shape) bytes) own r
      are.0.are first.0.are in
      let front = left_of t k p.level r in
      let mid = passed t k (take i ps) read in
      let next_docs = left_of t k (get_or ps i d).level docs in (
        more.0,
        (λ j. left_of t k p.level (same j) ++ more.1 j)
            ∙ sym (append_assoc front (mid ++ next_docs) more.0)
            ∙ ap (λ l. l ++ more.0) (sym (append_assoc front mid next_docs)),
      )

-- those that pass, of one pick more
pub passed_more : (t : asks.Task) (k : ℕ) (ps : List Pick) (read : List (List Doc)) (p : Pick)
    (docs : List Doc) → length read ≡ length ps
    → passed t k (ps ++ p ∷ []) (read ++ docs ∷ [])
    ≡ passed t k ps read ++ left_of t k p.level docs
passed_more t k [] [] p docs same = append-nil (left_of t k p.level docs)
passed_more t k [] (d ∷ ds) p docs same = absurd (omega (arith, same))
passed_more t k (q ∷ ps) [] p docs same = absurd (omega (arith, same))
passed_more t k (q ∷ ps) (d ∷ ds) p docs same =
    ap (λ l. left_of t k q.level d ++ l) (passed_more t k ps ds p docs (omega (arith, same)))
    ∙ sym (append_assoc (left_of t k q.level d) (passed t k ps ds) (left_of t k p.level docs))

read_of-append : (ps qs : List Pick) → read_of (ps ++ qs) ≡ read_of ps + read_of qs
read_of-append [] qs = omega arith
read_of-append (p ∷ ps) qs = omega (arith, read_of-append ps qs)

-- ---- what is known between two picks

pub record PickedStep (tree : TreePart) (task : Task) (asked : Asked) (rows : ℕ) (ps : List Pick)
    (i : ℕ) (first now : Seen) (table : Docs) : Type 0 where
  pub reads : OnlyReads ⊥ first now
  pub whole : (last : Option (List Entry)) → LogsPicks tree (drop i ps) now.log last
      → LogsPicks tree ps first.log last
  pub partly : (last : Option (List Entry)) → LogsSome tree (drop i ps) now.log last
      → LogsSome tree ps first.log last
  pub within : (documents : ℕ) × AreWithin documents (length task.matched) (drop i ps)
  pub picked : ArePicked tree task asked rows first.held (take i ps) table

none_told : (tree : TreePart) (held : Option Files) → TellsRead tree held [] []
none_told tree None = tt
none_told tree (Some files) = tt

pub picked_start : (tree : TreePart) (task : Task) (asked : Asked) (rows : ℕ) (ps : List Pick)
    (shelf : Seen) (table : Docs)
    → ((documents : ℕ) × AreWithin documents (length task.matched) ps)
    → table.dims ≡ length asked.columns.now
    → table.kinds ≡ kinds_for asked.pairs.now tree.shape.now.kinds → table.docs ≡ []
    → PickedStep tree task asked rows ps 0 shelf shelf table
picked_start tree task asked rows ps shelf table within dims kinds none = record {
  reads = reads_none shelf;
  whole = λ last logs. logs;
  partly = λ last logs. logs;
  within = within;
  picked = record {
    read = [];
    each = refl;
    told = none_told tree shelf.held;
    docs_are = none;
    at_most = (let e = ap length none in omega (arith, e));
    selected = record {
      dims = dims;
      kinds = kinds;
      may = subst (MayBeSelected asked.columns.now rows) (sym none) (record {
        keyed = All-nil (λ e. AreKeyIds asked.columns.now e.0);
        weight_fits = omega arith;
      });
    };
  };
}

-- nothing of picks was read
pub nothing_read : (tree : TreePart) (documents k : ℕ) (ps : List Pick) (log : Option (List Entry))
    → AreWithin documents k ps → LogsSome tree ps log log
nothing_read tree documents k [] log within = refl
nothing_read tree documents k (p ∷ ps) log within =
    let width = doc_width tree.shape.now in
    let offset = tree.documents.now.offset in
    let lt : p.start ≤ p.end = omega (arith, within.0) in
    let le = mul-le-mul_right width lt in
    inl (logs-none tree.documents.now.file (offset + p.start * width) (offset + p.end * width) log
    log (omega (arith, le)) refl)

length_selected : (asked : Asked) (t : asks.Task) (k level : ℕ) (docs : List Doc)
    → length (selected_docs asked (left_of t k level docs)) ≤ length docs
length_selected asked t k level docs =
    let same = length-map (left_of t k level docs) (selected_doc asked) in
    let at_most = filter_few (λ e. holds_from t (k - level) level e.0) docs in
    omega (arith, same, at_most)
  where
    filter_few : (p : Doc → Bool) (xs : List Doc) → length (filter p xs) ≤ length xs
    filter_few p [] = omega arith
    filter_few p (x ∷ xs) = let more = filter_few p xs in
        elim (p x) as (λ b. length (cond b (x ∷ filter p xs) (filter p xs)) ≤ length (x ∷ xs)) [
          | true ↦ omega (arith, more)
          | false ↦ omega (arith, more)
        ]

told_more : (tree : TreePart) (held now : Option Files) (ps : List Pick) (read : List (List Doc))
    (p : Pick) (docs : List Doc) → now ≡ held → TellsRead tree held ps read
    → IfSome now (λ files. HasDocuments tree.shape.now tree.counts.now p.start p.end
    (section files tree.documents.now) docs)
    → TellsRead tree held (ps ++ p ∷ []) (read ++ docs ∷ [])
told_more tree held now ps read p docs same told has = by held told
    (subst (λ h. IfSome h (λ files. HasDocuments tree.shape.now tree.counts.now p.start p.end
    (section files tree.documents.now) docs)) same has)
  where
    by : (h : Option Files) → TellsRead tree h ps read
        → IfSome h (λ files. HasDocuments tree.shape.now tree.counts.now p.start p.end
        (section files tree.documents.now) docs)
        → TellsRead tree h (ps ++ p ∷ []) (read ++ docs ∷ [])
    by None told has = tt
    by (Some files) told has = read_more tree.shape.now tree.counts.now
        (section files tree.documents.now) ps read p docs told has

module _ (tree : TreePart) (task : Task) (asked : Asked) (rows : ℕ) (ps : List Pick) (i : ℕ)
    (d : Pick) (first now : Seen) (table : Docs) (lt : i < length ps)
    (step : PickedStep tree task asked rows ps i first now table) where
  abbrev p : Pick
  p = get_or ps i d

  abbrev file : List ℕ
  file = tree.documents.now.file

  abbrev from : ℕ
  from = tree.documents.now.offset + p.start * doc_width tree.shape.now

  abbrev to : ℕ
  to = tree.documents.now.offset + p.end * doc_width tree.shape.now

  abbrev k : ℕ
  k = length task.matched

  left_is : drop i ps ≡ p ∷ drop (i + 1) ps
  left_is = drop_more ps i d lt

  done_is : take (i + 1) ps ≡ take i ps ++ p ∷ []
  done_is = take_more ps i d lt

  within_p : (documents : ℕ) × AreWithin documents k (p ∷ drop (i + 1) ps)
  within_p = (step.within.0, subst (AreWithin step.within.0 k) left_is step.within.1)

  pub pick_order : p.start ≤ p.end
  pick_order = omega (arith, within_p.1)

  pub pick_level : p.level ≤ k
  pick_level = within_p.1.2

  -- a read that failed on its way
  pub read_partly : (last : Option (List Entry)) → LogsUpTo file from to now.log last
      → LogsSome tree ps first.log last
  read_partly last logs = step.partly last
      (subst (λ l. LogsSome tree l now.log last) (sym left_is) (inl logs))

  -- no pick was read yet
  pub picked_next : (next : Seen) (new : Docs) (docs : List Doc) → OnlyReads ⊥ now next
      → LogsOn file from to now.log next.log
      → IfSome now.held (λ files. HasDocuments tree.shape.now tree.counts.now p.start p.end
      (section files tree.documents.now) docs)
      → length docs ≡ p.end - p.start → IsSelected tree.shape.now asked rows new
      → new.docs ≡ table.docs ++ selected_docs asked (left_of (asked_of task) k p.level docs)
      → PickedStep tree task asked rows ps (i + 1) first next new
  picked_next next new docs reads logs has number selected docs_are =
      let picked = step.picked in
      let t = asked_of task in
      let done = take i ps in
      let more = passed_more t k done picked.read p docs picked.each in
      let lengths = ap length docs_are in
      let sum = length-append table.docs (selected_docs asked (left_of t k p.level docs)) in
      let at_most = length_selected asked t k p.level docs in
      let reads_more = read_of-append done (p ∷ []) in
      let as_many = length-append picked.read (docs ∷ []) in
      let done_many = length-append done (p ∷ []) in
      record {
        reads = reads_after ⊥ first now next step.reads reads;
        whole = λ last rest. step.whole last (subst (λ l. LogsPicks tree l now.log last)
            (sym left_is) (next.log, logs, rest));
        partly = λ last rest. step.partly last (subst (λ l. LogsSome tree l now.log last)
            (sym left_is) (inr (next.log, logs, rest)));
        within = (within_p.0, within_p.1.3);
        picked = subst (λ l. ArePicked tree task asked rows first.held l new) (sym done_is) (record {
          read = picked.read ++ docs ∷ [];
          each = omega (arith, as_many, done_many, picked.each);
          told = told_more tree first.held now.held done picked.read p docs step.reads.held
              picked.told has;
          docs_are = docs_are ∙ ap (λ l. l ++ selected_docs asked (left_of t k p.level docs))
              picked.docs_are
              ∙ sym (map-append (selected_doc asked) (passed t k done picked.read)
              (left_of t k p.level docs))
              ∙ ap (selected_docs asked) (sym more);
          at_most = omega (arith, lengths, sum, at_most, number, reads_more, picked.at_most);
          selected = selected;
        });
      }

  abbrev IsBadIn : Option Files → Type 0
  IsBadIn held = IfSome held (λ files. (all : List (List Doc))
      → AreRead tree.shape.now tree.counts.now (section files tree.documents.now) ps all
      → ¬ MayBeSelected asked.columns.now rows (selected_docs asked (passed (asked_of task) k ps all)))

  -- the section has no documents of a pick that may be selected beside those before
  pub part_bad : RefusesPart tree task asked rows now.held p table → IsBadIn first.held
  part_bad bad = by first.held step.picked.told (subst (λ h. RefusesPart tree task asked rows h p
      table) step.reads.held bad)
    where
      by : (h : Option Files) → TellsRead tree h (take i ps) step.picked.read
          → RefusesPart tree task asked rows h p table → IsBadIn h
      by None told bad = tt
      by (Some files) told bad = λ all are may.
          let bytes = section files tree.documents.now in
          let own = read_at tree.shape.now tree.counts.now bytes ps all i d lt are in
          let mid = passed (asked_of task) k (take i ps) step.picked.read in
          let next = left_of (asked_of task) k p.level own.0 in
          let split = passed_split tree.shape.now tree.counts.now bytes (asked_of task) k ps i d
          step.picked.read all own.0 lt told own.1 are in
          let all_are : selected_docs asked (passed (asked_of task) k ps all)
          ≡ (table.docs ++ selected_docs asked next) ++ selected_docs asked split.0 =
          ap (selected_docs asked) split.1
          ∙ map-append (selected_doc asked) (mid ++ next) split.0
          ∙ ap (λ l. l ++ selected_docs asked split.0) (map-append (selected_doc asked) mid next
          ∙ ap (λ l. l ++ selected_docs asked next) (sym step.picked.docs_are)) in
          bad own.0 own.1 (may_first asked.columns.now rows (table.docs ++ selected_docs asked next)
          (selected_docs asked split.0) (subst (MayBeSelected asked.columns.now rows) all_are may))

-- all picks were read
module _ (tree : TreePart) (task : Task) (asked : Asked) (rows : ℕ) (ps : List Pick) (i : ℕ)
    (first now : Seen) (table : Docs) (le : length ps ≤ i)
    (step : PickedStep tree task asked rows ps i first now table) where
  pub all_picked : ArePicked tree task asked rows first.held ps table
  all_picked = subst (λ l. ArePicked tree task asked rows first.held l table)
      (take_all i ps le) step.picked

  pub all_logged : LogsPicks tree ps first.log now.log
  all_logged = step.whole now.log
      (subst (λ l. LogsPicks tree l now.log now.log) (sym (drop_all i ps le)) refl)
