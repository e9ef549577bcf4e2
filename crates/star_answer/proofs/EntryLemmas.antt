-- What groups have at a key once keys with states are merged in, and how many there are.
use Rattle.std.proofs.Common.{◌≡◌, ◌∙◌, ℕ, ◌+◌, ◌<◌, ◌≤◌, Bool, true, false, cond, List, [], ◌∷◌}
use Rattle.std.proofs.Common.{◌++◌, Option, Some, None, refl, sym, ap, subst, arith, is_some}
use Rattle.std.proofs.lemmas.Map.Views.{tells_apart}
use Rattle.std.specs.Option.{option_map_or}
use Rattle.std.specs.Ordering.{eq_by_cmp}
use Rattle.std.specs.FinMap as finite
use Rattle.values.specs.declared.value.Value.{Value}
use Rattle.agg_laws.specs.declared.states.AggState.{AggState}
use Rattle.agg_laws.specs.Rows.{RowFits, merged_rows}
use Rattle.agg_laws.specs.Merged.{join_some, total}
use Rattle.state_columns.proofs.DocLemmas.{rows_join}
use Rattle.state_columns.proofs.MergedLemmas.{join_assoc, join_none}
use Rattle.group_table.specs.Groups.{Group, Groups, key_order, merged_in, with_entries, with_states}
use Rattle.group_table.specs.Kept.{IsNewKey, KeptGroups, Merges, groups_in}
use Rattle.group_table.proofs.EntryLemmas.{entries_at, states_at}
use Rattle.group_table.proofs.KeptLemmas.{key_same, key_total}
use Rattle.scan_engine.specs.Scanned.{HaveAtMost}
use Rattle.scan_engine.proofs.AddLemmas.{at_most_more, merged_fits, new_one}
use Rattle.star_reader.specs.Entries.{MergesEntries}

-- entries with the same states at each key give the same groups
pub same_entries : (groups : Groups) (es fs : List Group)
    → ((q : List Value) → states_at q es ≡ states_at q fs)
    → with_entries groups es ≡ with_entries groups fs
same_entries groups es fs same =
    finite.same_map key_total key_same (with_entries groups es) (with_entries groups fs)
    (λ q. entries_at groups es q ∙ ap (join_some merged_rows (finite.get groups q)) (same q)
    ∙ sym (entries_at groups fs q))

pub entries-append : (groups : Groups) (es fs : List Group)
    → with_entries groups (es ++ fs) ≡ with_entries (with_entries groups es) fs
entries-append groups [] fs = refl
entries-append groups (e ∷ es) fs = entries-append (merged_in groups e.0 e.1) es fs

-- ---- how many groups there are

len_insert : (b : Bool) (n : ℕ) → n ≤ cond b n (n + 1)
len_insert true n = omega arith
len_insert false n = omega arith

pub len_more : (groups : Groups) (es : List Group)
    → finite.len groups ≤ finite.len (with_entries groups es)
len_more groups [] = omega arith
len_more groups (e ∷ es) =
    let own : finite.len groups ≤ finite.len (merged_in groups e.0 e.1) =
    subst (λ n. finite.len groups ≤ n)
    (sym (finite.len-insert key_total groups e.0 (with_states groups e.0 e.1)))
    (len_insert (finite.contains_key groups e.0) (finite.len groups)) in
    let rest = len_more (merged_in groups e.0 e.1) es in
    omega (arith, own, rest)

-- a new key in a full table is one too many
pub no_room : (old mid : KeptGroups) (before rest : List Group) (e : Group)
    → groups_in mid ≡ with_entries (groups_in old) before → mid.most ≡ old.most
    → IsNewKey mid e.0 → finite.len (groups_in mid) ≡ mid.most
    → old.most < finite.len (with_entries (groups_in old) (before ++ e ∷ rest))
no_room old mid before rest e is most new full =
    let g = groups_in mid in
    let one : mid.most < finite.len (merged_in g e.0 e.1) =
    subst (λ n. mid.most < n) (sym (finite.len-insert key_total g e.0 (with_states g e.0 e.1)))
    (new_one (finite.contains_key g e.0) (finite.len g) mid.most (ap is_some new) full) in
    let rest_more = len_more (merged_in g e.0 e.1) rest in
    let whole : with_entries (groups_in old) (before ++ e ∷ rest)
    ≡ with_entries (merged_in g e.0 e.1) rest =
    entries-append (groups_in old) before (e ∷ rest)
    ∙ ap (λ (h : Groups). with_entries (merged_in h e.0 e.1) rest) (sym is) in
    let same = ap finite.len whole in
    omega (arith, one, rest_more, same, most)

-- ---- merged into a table, one after the other

pub merges_none : (t : KeptGroups) → MergesEntries 0 [] t t
merges_none t = record {
  columns = refl;
  kinds = refl;
  most = refl;
  groups = refl;
  fits = λ n h. at_most_more (groups_in t) n (n + 0) (omega arith) h;
}

pub merges_next : (n m : ℕ) (es : List Group) (key : List Value) (s : List AggState)
    (old mid new : KeptGroups) → MergesEntries n es old mid → Merges key s mid new → RowFits s m
    → MergesEntries (n + m) (es ++ (key, s) ∷ []) old new
merges_next n m es key s old mid new a b fits = record {
  columns = b.columns ∙ a.columns;
  kinds = b.kinds ∙ a.kinds;
  most = b.most ∙ a.most;
  groups = b.groups ∙ ap (λ (g : Groups). merged_in g key s) a.groups
      ∙ sym (entries-append (groups_in old) es ((key, s) ∷ []));
  fits = λ k h. subst (HaveAtMost (k + (n + m))) (sym b.groups)
      (at_most_more (merged_in (groups_in mid) key s) ((k + n) + m) (k + (n + m)) (omega arith)
      (merged_fits (groups_in mid) key s (k + n) m (a.fits k h) fits));
}

-- the same table holds more, and has the groups of entries with the same states at each key
pub merges_so : (n m : ℕ) (es fs : List Group) (old new : KeptGroups) → n ≤ m
    → ((q : List Value) → states_at q es ≡ states_at q fs) → MergesEntries n es old new
    → MergesEntries m fs old new
merges_so n m es fs old new le same a = record {
  columns = a.columns;
  kinds = a.kinds;
  most = a.most;
  groups = a.groups ∙ same_entries (groups_in old) es fs same;
  fits = λ k h. at_most_more (groups_in new) (k + n) (k + m) (omega (arith, le)) (a.fits k h);
}
