-- The documents of a pick are read and taken part by part.
use Rattle.std.proofs.Common.{◌≡◌, ◌∙◌, ℕ, zero, suc, ◌+◌, ◌-◌, ◌*◌, ◌<◌, ◌≤◌, List, [], ◌∷◌, ◌++◌}
use Rattle.std.proofs.Common.{Option, Some, None, IfSome, length, take, drop, refl, sym, ap, subst, arith}
use Rattle.std.proofs.Common.{append_assoc, append-nil, inl, inr, le_refl, length-append}
use Rattle.std.specs.Prelude.{option_map}
use Rattle.std.proofs.lemmas.List.{drop-drop, map-append}
use Rattle.std.proofs.lemmas.List.Elements.{filter-append}
use Rattle.std.proofs.Math.Nat.{eq-or-lt_of_le, mul-le-mul_right}
use Rattle.outside.specs.Files.{Files}
use Rattle.outside.specs.Reads.{AllGive, Entry, LogsOn, LogsUpTo}
use Rattle.outside.specs.Seen.{OnlyReads, Seen}
use Rattle.outside.proofs.ReadLemmas.{LogsOn-none, LogsOn-through, LogsThrough-append}
use Rattle.outside.proofs.SeenLemmas.{reads_after, reads_none}
use Rattle.agg_laws.specs.declared.tree_shape.TreeShape.{TreeShape}
use Rattle.state_columns.specs.Docs.{Doc, Docs}
use Rattle.star_tree.specs.Picks.{holds_from}
use Rattle.star_file.specs.Reading.{HasDocuments, SpellDocs, doc_width, section}
use Rattle.star_file.proofs.DocLaws.{only}
use Rattle.star_file.proofs.RangeSteps.{span}
use Rattle.star_walk.specs.declared.pick.Pick.{Pick}
use Rattle.star_walk.specs.declared.task.Task.{Task}
use Rattle.star_reader.specs.declared.asked.Asked.{Asked}
use Rattle.star_reader.specs.declared.tree_part.TreePart.{TreePart}
use Rattle.star_reader.specs.Answers.{asked_of, left_of}
use Rattle.star_reader.specs.Selected.{IsSelected, MayBeSelected, selected_doc, selected_docs}
use Rattle.star_reader.specs.Taken.{LogsPart, LogsPartUpTo, RefusesPart, TakesPart, TellsPart, place_of}
use Rattle.star_reader.specs.Taken.{taken_of}
use Rattle.star_reader.proofs.TakeSteps.{may_first}

-- ---- documents one after the other

module _ (shape : TreeShape) (counts : List ℕ) where
  abbrev w : ℕ
  w = doc_width shape

  further : (n : ℕ) (bytes : List ℕ) → drop (suc n * w) bytes ≡ drop (n * w) (drop w bytes)
  further n bytes =
      let e : suc n * w ≡ w + n * w = omega arith in
      ap (λ m. drop m bytes) e ∙ sym (drop-drop (n * w) w bytes)

  spelled_both : (n m : ℕ) (bytes : List ℕ) (xs ys : List Doc)
      → SpellDocs shape counts n bytes xs → SpellDocs shape counts m (drop (n * w) bytes) ys
      → SpellDocs shape counts (n + m) bytes (xs ++ ys)
  spelled_both zero m bytes [] ys h k =
      let a : m ≡ zero + m = omega arith in
      let b : zero * w ≡ 0 = omega arith in
      subst (λ (j : ℕ). SpellDocs shape counts j bytes ys) a
      (subst (λ (j : ℕ). SpellDocs shape counts m (drop j bytes) ys) b k)
  spelled_both zero m bytes (x ∷ xs) ys h k = absurd h
  spelled_both (suc n) m bytes [] ys h k = absurd h
  spelled_both (suc n) m bytes (x ∷ xs) ys h k =
      let a : suc (n + m) ≡ suc n + m = omega arith in
      let more = spelled_both n m (drop w bytes) xs ys h.1
      (subst (λ (l : List ℕ). SpellDocs shape counts m l ys) (further n bytes) k) in
      let both : SpellDocs shape counts (suc (n + m)) bytes (x ∷ (xs ++ ys)) = (h.0, more) in
      subst (λ (j : ℕ). SpellDocs shape counts j bytes (x ∷ (xs ++ ys))) a both

  record Parts (n m : ℕ) (bytes : List ℕ) (all : List Doc) : Type 0 where
    firsts : List Doc
    lasts : List Doc
    first : SpellDocs shape counts n bytes firsts
    last : SpellDocs shape counts m (drop (n * w) bytes) lasts
    all_are : all ≡ firsts ++ lasts

  parts_of : (n m : ℕ) (bytes : List ℕ) (all : List Doc) → SpellDocs shape counts (n + m) bytes all
      → Parts n m bytes all
  parts_of zero m bytes all h =
      let a : zero + m ≡ m = omega arith in
      let b : 0 ≡ zero * w = omega arith in
      record {
        firsts = [];
        lasts = all;
        first = tt;
        last = subst (λ (j : ℕ). SpellDocs shape counts m (drop j bytes) all) b
            (subst (λ (j : ℕ). SpellDocs shape counts j bytes all) a h);
        all_are = refl;
      }
  parts_of (suc n) m bytes [] h =
      let a : suc n + m ≡ suc (n + m) = omega arith in
      absurd (subst (λ (j : ℕ). SpellDocs shape counts j bytes []) a h)
  parts_of (suc n) m bytes (x ∷ rest) h =
      let a : suc n + m ≡ suc (n + m) = omega arith in
      let own = subst (λ (j : ℕ). SpellDocs shape counts j bytes (x ∷ rest)) a h in
      let more = parts_of n m (drop w bytes) rest own.1 in
      record {
        firsts = x ∷ more.firsts;
        lasts = more.lasts;
        first = (own.0, more.first);
        last = subst (λ (l : List ℕ). SpellDocs shape counts m l more.lasts) (sym (further n bytes))
            more.last;
        all_are = ap (λ l. x ∷ l) more.all_are;
      }

  module _ (bytes : List ℕ) (from mid to : ℕ) (before : from ≤ mid) (after : mid ≤ to) where
    many : (mid - from) + (to - mid) ≡ to - from
    many = omega arith

    past_first : drop ((mid - from) * w) (drop (from * w) bytes) ≡ drop (mid * w) bytes
    past_first =
        let s = span w from mid before in
        drop-drop ((mid - from) * w) (from * w) bytes ∙ ap (λ m. drop m bytes) (sym s)

    pub has_both : (xs ys : List Doc) → HasDocuments shape counts from mid bytes xs
        → HasDocuments shape counts mid to bytes ys → HasDocuments shape counts from to bytes (xs ++ ys)
    has_both xs ys h k = record {
      reach = λ lt. reached lt;
      are = subst (λ (n : ℕ). SpellDocs shape counts n (drop (from * w) bytes) (xs ++ ys)) many
          (spelled_both (mid - from) (to - mid) (drop (from * w) bytes) xs ys h.are
          (subst (λ (l : List ℕ). SpellDocs shape counts (to - mid) l ys) (sym past_first) k.are));
    }
      where
        reached : from < to → to * w ≤ length bytes
        reached lt = elim (eq-or-lt_of_le after) [
          | inl same ↦ subst (λ (n : ℕ). n * w ≤ length bytes) same
              (h.reach (subst (λ (n : ℕ). from < n) (sym same) lt))
          | inr more ↦ k.reach more
        ]

    record HasParts (all : List Doc) : Type 0 where
      pub firsts : List Doc
      pub lasts : List Doc
      pub first : HasDocuments shape counts from mid bytes firsts
      pub last : HasDocuments shape counts mid to bytes lasts
      pub all_are : all ≡ firsts ++ lasts

    has_parts : (all : List Doc) → HasDocuments shape counts from to bytes all → HasParts all
    has_parts all h =
        let parts = parts_of (mid - from) (to - mid) (drop (from * w) bytes) all
        (subst (λ (n : ℕ). SpellDocs shape counts n (drop (from * w) bytes) all) (sym many) h.are) in
        let below = mul-le-mul_right w after in
        record {
          firsts = parts.firsts;
          lasts = parts.lasts;
          first = record {
            reach = λ lt. (let r = h.reach (omega (arith, lt, after)) in omega (arith, r, below));
            are = parts.first;
          };
          last = record {
            reach = λ lt. h.reach (omega (arith, lt, before));
            are = subst (λ (l : List ℕ). SpellDocs shape counts (to - mid) l parts.lasts) past_first
                parts.last;
          };
          all_are = parts.all_are;
        }

-- ---- reads one after the other

some_more : (log : Option (List Entry)) (xs ys : List Entry)
    → option_map (λ before. before ++ ys) (option_map (λ before. before ++ xs) log)
    ≡ option_map (λ before. before ++ (xs ++ ys)) log
some_more None xs ys = refl
some_more (Some before) xs ys = ap (λ l. Some l) (append_assoc before xs ys)

all_give : (file : List ℕ) (a b c : ℕ) (xs ys : List Entry) → AllGive file a b xs
    → AllGive file b c ys → AllGive file a c (xs ++ ys)
all_give file a b c [] ys e h = subst (λ (k : ℕ). AllGive file k c ys) (sym e) h
all_give file a b c (x ∷ xs) ys h after =
    (h.0, h.1, h.2, all_give file (a + x.count) b c xs ys h.3 after)

logs_both : (file : List ℕ) (a b c : ℕ) (first between last : Option (List Entry))
    → LogsOn file a b first between → LogsOn file b c between last → LogsOn file a c first last
logs_both file a b c first between last h k = (
  h.0 ++ k.0,
  k.1 ∙ ap (λ log. option_map (λ before. before ++ k.0) log) h.1 ∙ some_more first h.0 k.0,
  all_give file a b c h.0 k.0 h.2 k.2,
)

-- ---- a pick, part by part

abbrev up_to : Pick → ℕ → Pick
up_to p at = record { start = p.start; end = at; level = p.level }

pub record PartStep (tree : TreePart) (task : Task) (asked : Asked) (rows : ℕ) (p : Pick) (at : ℕ)
    (first now : Seen) (old table : Docs) : Type 0 where
  pub reads : OnlyReads ⊥ first now
  pub logs : LogsPart tree (up_to p at) first.log now.log
  pub order : p.start ≤ at
  pub within : at ≤ p.end
  pub taken : TakesPart tree task asked rows first.held (up_to p at) old table

taken_both : (task : Task) (asked : Asked) (p : Pick) (xs ys : List Doc)
    → taken_of task asked p (xs ++ ys) ≡ taken_of task asked p xs ++ taken_of task asked p ys
taken_both task asked p xs ys =
    let k = length task.matched in
    let t = asked_of task in
    ap (selected_docs asked) (filter-append (λ e. holds_from t (k - p.level) p.level e.0) xs ys)
    ∙ map-append (selected_doc asked) (left_of t k p.level xs) (left_of t k p.level ys)

pub part_start : (tree : TreePart) (task : Task) (asked : Asked) (rows : ℕ) (p : Pick)
    (shelf : Seen) (table : Docs) → p.start ≤ p.end → IsSelected tree.shape.now asked rows table
    → PartStep tree task asked rows p p.start shelf shelf table table
part_start tree task asked rows p shelf table order selected = record {
  reads = reads_none shelf;
  logs = LogsOn-none tree.documents.now.file (place_of tree p.start) shelf.log;
  order = le_refl p.start;
  within = order;
  taken = record {
    docs = [];
    told = none_there shelf.held;
    number = (let n : 0 ≡ p.start - p.start = omega arith in n);
    selected = selected;
    docs_are = sym (append-nil table.docs);
  };
}
  where
    none_there : (held : Option Files) → TellsPart tree held (up_to p p.start) []
    none_there None = tt
    none_there (Some files) = record {
      reach = λ lt. absurd (omega (arith, lt));
      are = (let n : 0 ≡ p.start - p.start = omega arith in
          subst (λ (k : ℕ). SpellDocs tree.shape.now tree.counts.now k
          (drop (p.start * doc_width tree.shape.now) (section files tree.documents.now)) []) n tt);
    }

module _ (tree : TreePart) (task : Task) (asked : Asked) (rows : ℕ) (p q : Pick) (first now : Seen)
    (old table : Docs) (step : PartStep tree task asked rows p q.start first now old table)
    (more : q.start < q.end) (within : q.end ≤ p.end) (level : q.level ≡ p.level) where
  same_taken : (docs : List Doc) → taken_of task asked q docs ≡ taken_of task asked p docs
  same_taken docs =
      ap (λ (l : ℕ). selected_docs asked (left_of (asked_of task) (length task.matched) l docs)) level

  pub part_next : (next : Seen) (new : Docs) → OnlyReads ⊥ now next
      → LogsPart tree q now.log next.log → TakesPart tree task asked rows now.held q table new
      → PartStep tree task asked rows p q.end first next old new
  part_next next new reads logs part =
      let a = step.taken in
      let as_many = length-append a.docs part.docs in
      let own : taken_of task asked p (a.docs ++ part.docs)
      ≡ taken_of task asked p a.docs ++ taken_of task asked p part.docs =
      taken_both task asked p a.docs part.docs in
      record {
        reads = reads_after ⊥ first now next step.reads reads;
        logs = logs_both tree.documents.now.file (place_of tree p.start) (place_of tree q.start)
            (place_of tree q.end) first.log now.log next.log step.logs logs;
        order = omega (arith, step.order, more);
        within = within;
        taken = record {
          docs = a.docs ++ part.docs;
          told = both first.held a.told
              (subst (λ (h : Option Files). TellsPart tree h q part.docs) step.reads.held part.told);
          number = omega (arith, as_many, a.number, part.number, step.order, more);
          selected = part.selected;
          docs_are = part.docs_are
              ∙ (λ j. a.docs_are j ++ same_taken part.docs j)
              ∙ append_assoc old.docs (taken_of task asked p a.docs) (taken_of task asked p part.docs)
              ∙ ap (λ l. old.docs ++ l) (sym own);
        };
      }
    where
      both : (held : Option Files) → TellsPart tree held (up_to p q.start) step.taken.docs
          → TellsPart tree held q part.docs
          → TellsPart tree held (up_to p q.end) (step.taken.docs ++ part.docs)
      both None told has = tt
      both (Some files) told has = has_both tree.shape.now tree.counts.now
          (section files tree.documents.now) p.start q.start q.end step.order (omega (arith, more))
          step.taken.docs part.docs told has

  pub part_refused : RefusesPart tree task asked rows now.held q table
      → RefusesPart tree task asked rows first.held p old
  part_refused bad = by first.held step.taken.told
      (subst (λ (h : Option Files). RefusesPart tree task asked rows h q table) step.reads.held bad)
    where
      by : (held : Option Files) → TellsPart tree held (up_to p q.start) step.taken.docs
          → RefusesPart tree task asked rows held q table
          → RefusesPart tree task asked rows held p old
      by None told bad = tt
      by (Some files) told bad = λ all has may.
          let shape = tree.shape.now in
          let counts = tree.counts.now in
          let bytes = section files tree.documents.now in
          let one = has_parts shape counts bytes p.start q.start p.end step.order
          (omega (arith, more, within)) all has in
          let two = has_parts shape counts bytes q.start q.end p.end (omega (arith, more)) within
          one.lasts one.last in
          let same : one.firsts ≡ step.taken.docs = only shape counts (q.start - p.start)
          (drop (p.start * doc_width shape) bytes) one.firsts step.taken.docs one.first.are told.are in
          let front = taken_of task asked p step.taken.docs in
          let next = taken_of task asked p two.firsts in
          let last = taken_of task asked p two.lasts in
          let all_are : old.docs ++ taken_of task asked p all ≡ (table.docs ++ next) ++ last =
          ap (λ l. old.docs ++ taken_of task asked p l)
          (one.all_are ∙ (λ j. same j ++ two.all_are j))
          ∙ ap (λ l. old.docs ++ l) (taken_both task asked p step.taken.docs (two.firsts ++ two.lasts)
          ∙ ap (λ l. front ++ l) (taken_both task asked p two.firsts two.lasts))
          ∙ sym (append_assoc old.docs front (next ++ last))
          ∙ ap (λ l. l ++ (next ++ last)) (sym step.taken.docs_are)
          ∙ sym (append_assoc table.docs next last) in
          bad two.firsts two.first (subst (λ l. MayBeSelected asked.columns.now rows (table.docs ++ l))
          (sym (same_taken two.firsts)) (may_first asked.columns.now rows (table.docs ++ next) last
          (subst (MayBeSelected asked.columns.now rows) all_are may)))

  pub part_failed : (last : Option (List Entry)) → LogsPartUpTo tree q now.log last
      → LogsPartUpTo tree p first.log last
  part_failed last h =
      let below = mul-le-mul_right (doc_width tree.shape.now) within in (
        h.0,
        omega (arith, h.1, below),
        LogsThrough-append tree.documents.now.file (place_of tree p.start) (place_of tree q.start) h.0
            first.log now.log last (LogsOn-through tree.documents.now.file (place_of tree p.start)
            (place_of tree q.start) first.log now.log step.logs) h.2,
      )

-- all parts of a pick were taken
pub part_all : (tree : TreePart) (task : Task) (asked : Asked) (rows : ℕ) (p : Pick) (at : ℕ)
    (first now : Seen) (old table : Docs)
    → PartStep tree task asked rows p at first now old table → p.end ≤ at
    → PartStep tree task asked rows p p.end first now old table
part_all tree task asked rows p at first now old table step le =
    let e : at ≡ p.end = omega (arith, step.within, le) in
    subst (λ (n : ℕ). PartStep tree task asked rows p n first now old table) e step

-- a refusal of the documents that a part has
pub told_refused : (tree : TreePart) (task : Task) (asked : Asked) (rows : ℕ) (held : Option Files)
    (p : Pick) (old : Docs) (docs : List Doc) → TellsPart tree held p docs
    → ¬ MayBeSelected asked.columns.now rows (old.docs ++ taken_of task asked p docs)
    → RefusesPart tree task asked rows held p old
told_refused tree task asked rows None p old docs told bad = tt
told_refused tree task asked rows (Some files) p old docs told bad = λ ds has may.
    let shape = tree.shape.now in
    let same : ds ≡ docs = only shape tree.counts.now (p.end - p.start)
    (drop (p.start * doc_width shape) (section files tree.documents.now)) ds docs has.are told.are in
    bad (subst (λ (l : List Doc). MayBeSelected asked.columns.now rows
    (old.docs ++ taken_of task asked p l)) same may)

-- a refusal as there are no documents
pub none_refused : (tree : TreePart) (task : Task) (asked : Asked) (rows : ℕ) (held : Option Files)
    (p : Pick) (old : Docs) → IfSome held (λ files. (docs : List Doc) → HasDocuments tree.shape.now
    tree.counts.now p.start p.end (section files tree.documents.now) docs → ⊥)
    → RefusesPart tree task asked rows held p old
none_refused tree task asked rows None p old none = tt
none_refused tree task asked rows (Some files) p old none = λ ds has may. none ds has
