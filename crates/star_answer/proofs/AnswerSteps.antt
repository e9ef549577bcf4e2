-- The answer from a tree, by the documents that were selected.
use Rattle.std.proofs.Common.{◌≡◌, ◌∙◌, ℕ, ◌+◌, ◌<◌, ◌≤◌, inr, All, List, [], ◌∷◌, Option, Some, None, IfSome, length, refl, sym, ap, subst}
use Rattle.std.specs.FinMap as finite
use Rattle.std.proofs.lemmas.List.Elements.{All-cons, All-head, All-nil, All-tail}
use Rattle.outside.specs.Files.{Files}
use Rattle.star_tree.specs.declared.node.Node.{Node}
use Rattle.agg_laws.specs.declared.tree_shape.TreeShape.{TreeShape}
use Rattle.star_tree.specs.NodeRules.{KeepsRules}
use Rattle.star_tree.specs.Picks as asks
use Rattle.star_walk.specs.Coalescing.{coalesced}
use Rattle.star_walk.specs.Walking.{tree_picks}
use Rattle.star_walk.proofs.CoalesceSteps.{coalesced_within}
use Rattle.outside.proofs.SeriesLemmas.{over_partly}
use Rattle.star_reader.specs.Answers.{IsTree, LogsPicks, LogsSome, stretches_of, Answers, AreRead, IsBad, IsOverfull, asked_of, passed, picks_of, reads_of, selected_of}
use Rattle.star_reader.proofs.ReadSteps.{nothing_read}
use Rattle.outside.specs.Reads.{Entry}
use Rattle.state_columns.specs.Docs.{Doc, Docs}
use Rattle.agg_laws.specs.Merged.{weights}
use Rattle.agg_laws.specs.Rows.{row_weight}
use Rattle.agg_laws.specs.Tree.{dim}
use Rattle.star_file.specs.Reading.{section}
use Rattle.star_walk.specs.declared.pick.Pick.{Pick}
use Rattle.star_walk.specs.declared.task.Task.{Task}
use Rattle.star_walk.specs.Images.{AreWithin, read_of}
use Rattle.group_table.specs.Kept.{KeptGroups, groups_in}
use Rattle.star_reader.specs.declared.asked.Asked.{Asked}
use Rattle.star_reader.specs.declared.asked.GroupColumn.{GroupColumn}
use Rattle.star_reader.specs.declared.tree_part.TreePart.{TreePart}
use Rattle.star_reader.specs.Asked.{AreSound, HasKey, entries_of, key_of, value_of}
use Rattle.group_table.specs.Groups.{with_entries}
use Rattle.star_reader.specs.Entries.{MergesEntries}
use Rattle.star_reader.specs.Selected.{AreKeyIds, ArePicked, MayBeSelected, key_ids, key_values, keyed, selected_doc, selected_docs}
use Rattle.star_answer.proofs.EntryLemmas.{merges_so}
use Rattle.star_reader.proofs.TakeSteps.{keyed_back, keyed_from}

-- ---- what documents that are selected give to groups

values_of_ids : (columns : List GroupColumn) (ids : List ℕ)
    → key_values columns (key_ids columns ids) ≡ key_of columns ids
values_of_ids [] ids = refl
values_of_ids (c ∷ cs) ids = ap (λ t. value_of c (dim c.dim ids) ∷ t) (values_of_ids cs ids)

pub entries_keyed : (asked : Asked) (docs : List Doc)
    → keyed asked.columns.now (selected_docs asked docs) ≡ entries_of asked docs
entries_keyed asked [] = refl
entries_keyed asked (e ∷ es) =
    λ i. (values_of_ids asked.columns.now e.0 i, (selected_doc asked e).1) ∷ entries_keyed asked es i

same_weights : (asked : Asked) (docs : List Doc)
    → weights row_weight (selected_docs asked docs) ≡ weights row_weight (entries_of asked docs)
same_weights asked [] = refl
same_weights asked (e ∷ es) = ap (λ n. row_weight (selected_doc asked e).1 + n) (same_weights asked es)

module _ (asked : Asked) where
  abbrev HasOwn : Doc → Type 0
  HasOwn e = HasKey asked.columns.now e.0

  abbrev HasIds : Doc → Type 0
  HasIds e = AreKeyIds asked.columns.now e.0

  all_own : (docs : List Doc) → All (λ e. AreKeyIds asked.columns.now e.0) (selected_docs asked docs)
      → All (λ e. HasKey asked.columns.now e.0) docs
  all_own [] h = All-nil HasOwn
  all_own (e ∷ es) h = All-cons HasOwn e es
      (keyed_back asked.columns.now e.0 (All-head HasIds (selected_doc asked e) (selected_docs asked es) h))
      (all_own es (All-tail HasIds (selected_doc asked e) (selected_docs asked es) h))

  all_ids : (docs : List Doc) → All (λ e. HasKey asked.columns.now e.0) docs
      → All (λ e. AreKeyIds asked.columns.now e.0) (selected_docs asked docs)
  all_ids [] h = All-nil HasIds
  all_ids (e ∷ es) h = All-cons HasIds (selected_doc asked e) (selected_docs asked es)
      (keyed_from asked.columns.now e.0 (All-head HasOwn e es h))
      (all_ids es (All-tail HasOwn e es h))

  -- documents may be merged just where they may be selected
  pub sound_so : (rows : ℕ) (docs : List Doc)
      → MayBeSelected asked.columns.now rows (selected_docs asked docs) → AreSound asked rows docs
  sound_so rows docs h = record {
    keyed = all_own docs h.keyed;
    weight_fits = subst (λ n. n ≤ rows) (same_weights asked docs) h.weight_fits;
  }

  pub sound_back : (rows : ℕ) (docs : List Doc) → AreSound asked rows docs
      → MayBeSelected asked.columns.now rows (selected_docs asked docs)
  sound_back rows docs h = record {
    keyed = all_ids docs h.keyed;
    weight_fits = subst (λ n. n ≤ rows) (sym (same_weights asked docs)) h.weight_fits;
  }

-- ---- the answer

module _ (tree : TreePart) (task : Task) (asked : Asked) (rows : ℕ) (held : Option Files)
    (ps : List Pick) (is : ps ≡ reads_of tree task) where
  -- why documents are refused
  pub bad_so : IfSome held (λ files. (read : List (List Doc))
      → AreRead tree.shape.now tree.counts.now (section files tree.documents.now) ps read
      → ¬ MayBeSelected asked.columns.now rows (selected_docs asked (passed (asked_of task)
      (length task.matched) ps read))) → IsBad tree task asked rows held
  bad_so bad = inr (by held (subst (λ l. IfSome held (λ files. (read : List (List Doc))
      → AreRead tree.shape.now tree.counts.now (section files tree.documents.now) l read
      → ¬ MayBeSelected asked.columns.now rows (selected_docs asked (passed (asked_of task)
      (length task.matched) l read)))) is bad))
    where
      by : (h : Option Files) → IfSome h (λ files. (read : List (List Doc))
          → AreRead tree.shape.now tree.counts.now (section files tree.documents.now)
          (reads_of tree task) read → ¬ MayBeSelected asked.columns.now rows
          (selected_docs asked (selected_of tree task read)))
          → IfSome h (λ files. (read : List (List Doc))
          → AreRead tree.shape.now tree.counts.now (section files tree.documents.now)
          (reads_of tree task) read → ¬ AreSound asked rows (selected_of tree task read))
      by None bad = tt
      by (Some files) bad = λ read are sound.
          bad read are (sound_back asked rows (selected_of tree task read) sound)

  module _ (table : Docs) (picked : ArePicked tree task asked rows held ps table) where
    own : ArePicked tree task asked rows held (reads_of tree task) table
    own = subst (λ l. ArePicked tree task asked rows held l table) is picked

    -- the groups with the states of the documents
    pub answers : (old new : KeptGroups) → read_of (picks_of tree task) ≤ rows
        → MergesEntries (weights row_weight table.docs) (keyed asked.columns.now table.docs) old new
        → Answers tree task asked rows held old new
    answers old new at_most a = record {
      read = own.read;
      told = own.told;
      sound = sound_so asked rows (selected_of tree task own.read)
          (subst (MayBeSelected asked.columns.now rows) own.docs_are own.selected.may);
      at_most = at_most;
      merged = subst (λ l. MergesEntries rows l old new)
          (ap (keyed asked.columns.now) own.docs_are
          ∙ entries_keyed asked (selected_of tree task own.read))
          (merges_so (weights row_weight table.docs) rows (keyed asked.columns.now table.docs)
          (keyed asked.columns.now table.docs) old new own.selected.may.weight_fits (λ q. refl) a);
    }

    -- they are too many
    pub over : (old : KeptGroups) → old.most < finite.len
        (with_entries (groups_in old) (keyed asked.columns.now table.docs))
        → IsOverfull tree task asked held old
    over old full = record {
      read = own.read;
      told = own.told;
      over = subst (λ l. old.most < finite.len (with_entries (groups_in old) l))
          (ap (keyed asked.columns.now) own.docs_are
          ∙ entries_keyed asked (selected_of tree task own.read)) full;
    }

-- ---- the picks, as they are read

-- what the law of walks says of nodes that keep the rules
abbrev pub PicksWithin : Type 0
PicksWithin = (t : asks.Task) (shape : TreeShape) (counts : List ℕ) (documents : ℕ)
    (ns : List Node) → ((at : ℕ) → at < length ns → KeepsRules shape shape.dims counts documents ns at)
    → AreWithin documents shape.dims (tree_picks t shape.dims ns)

-- what the law of coalesced picks says of how many documents they have
abbrev pub AreAsMany : Type 0
AreAsMany = (documents k : ℕ) (ps : List Pick) → AreWithin documents k ps
    → read_of (coalesced ps) ≡ read_of ps

module _ (tree : TreePart) (task : Task) (ok : IsTree tree task) (law : PicksWithin) where
  picks_within : AreWithin ok.documents (length task.matched) (picks_of tree task)
  picks_within = subst (λ n. AreWithin ok.documents n
      (tree_picks (asked_of task) n tree.nodes.now)) (sym ok.entries)
      (law (asked_of task) tree.shape.now tree.counts.now ok.documents tree.nodes.now ok.keep.each)

  pub reads_within : AreWithin ok.documents (length task.matched) (reads_of tree task)
  reads_within = coalesced_within ok.documents (length task.matched) (picks_of tree task) picks_within

  pub nothing_logged : (log : Option (List Entry)) → LogsSome tree (reads_of tree task) log log
  nothing_logged log = nothing_read tree ok.documents (length task.matched) (reads_of tree task) log
      reads_within

  -- they have as many documents
  pub reads_many : AreAsMany → (ps : List Pick) → ps ≡ reads_of tree task
      → read_of ps ≡ read_of (picks_of tree task)
  reads_many many ps is =
      ap read_of is ∙ many ok.documents (length task.matched) (picks_of tree task) picks_within

-- a log of all picks is one of some
pub logged_some : (tree : TreePart) (ps reads : List Pick) (old new : Option (List Entry))
    → ps ≡ reads → LogsPicks tree ps old new → LogsSome tree reads old new
logged_some tree ps reads old new is logs =
    over_partly tree.documents.now.file (stretches_of tree reads) old new
    (subst (λ l. LogsPicks tree l old new) is logs)
