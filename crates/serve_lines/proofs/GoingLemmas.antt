-- Kept files are taken away one after another.
use Rattle.std.proofs.Common.{◌≡◌, ◌≢◌, ◌⊎◌, ◌∙◌, ◌+◌, ◌++◌, ◌||◌, ◌<◌, ◌≤◌, inl, inr, ℕ, suc, Bool, true, false, cond, List, [], ◌∷◌, drop, get_or, length, Option, Some, None, IfSome, Result, Ok, Err, IsErrOf, refl, sym, ap, subst, is_some}
use Rattle.std.specs.FinMap as finite
use Rattle.std.specs.List.{AllByRecursion, list_any}
use Rattle.std.specs.Ordering.{eq_by_cmp}
use Rattle.std.proofs.lemmas.Bool.{false≢true}
use Rattle.std.proofs.lemmas.Cmp.{nat_list_cmp_total}
use Rattle.std.proofs.lemmas.List.{drop_all, drop_more}
use Rattle.outside.specs.Files.{Files, IsNames, name_order, without_file}
use Rattle.outside.specs.Seen.{Seen}
use Rattle.table_store.specs.Kept.{IsKeptName}
use Rattle.cursor_serve.proofs.FetchLemmas.{itself, tied}
use Rattle.cursor_serve.proofs.SoundLemmas.{all_joined}
use Rattle.serving.specs.Calls.{LosesKept}
use Rattle.serving.specs.Closed.{without_files}
use Rattle.command_words.specs.declared.fault.Fault.{Fault}
use Rattle.command_words.specs.declared.fault.Fault.TheVariants as fault
use Rattle.serve_lines.specs.Calls.{HasFaultOf, IsGoneIfKept}
use Rattle.serve_lines.specs.Kept.{HasNoKept}

abbrev is_name : List ℕ → List ℕ → Bool
is_name = eq_by_cmp name_order

-- each kept file is one of these
abbrev pub KeptAmong : List (List ℕ) → Option Files → Type 0
KeptAmong names held = IfSome held (λ files. (file : List ℕ) → IsKeptName file → is_some (finite.get files file) ≡ true → list_any (is_name file) names ≡ true)

-- those before a place are gone, and no call failed
pub record Going (names : List (List ℕ)) (at : ℕ) (old now : Seen) : Type 0 where
  pub lost : LosesKept old.held now.held
  pub left : KeptAmong (drop at names) now.held
  pub reads : now.read_faults ≡ old.read_faults
  pub writes : now.write_faults ≡ old.write_faults

pub going_first : (names : List (List ℕ)) (old now : Seen) → IsNames old.held names → now.held ≡ old.held → now.read_faults ≡ old.read_faults → now.write_faults ≡ old.write_faults → Going names 0 old now
going_first names old now are held reads writes = record {
  lost = ([], tt, held);
  left = subst (KeptAmong names) (sym held) (among old.held are);
  reads = reads;
  writes = writes;
}
  where
    among : (told : Option Files) → IsNames told names → KeptAmong names told
    among None are = tt
    among (Some files) are = λ file kept there. ap (list_any (is_name file)) are ∙ sym (finite.contains_key-keys files file) ∙ there

without_last : (names : List (List ℕ)) (name : List ℕ) (held : Option Files) → without_files (names ++ name ∷ []) held ≡ without_file name (without_files names held)
without_last [] name held = refl
without_last (x ∷ names) name held = without_last names name (without_file x held)

-- one file more is gone, if it is a kept one
pub going_next : (names : List (List ℕ)) (at : ℕ) (name : List ℕ) (old now new : Seen) → drop at names ≡ name ∷ drop (at + 1) names → Going names at old now → IsGoneIfKept name now.held new.held → new.read_faults ≡ now.read_faults → new.write_faults ≡ now.write_faults
    → Going names (at + 1) old new
going_next names at name old now new first g gone reads writes = record {
  lost = lost gone g.lost;
  left = left now.held new.held gone (subst (λ l. KeptAmong l now.held) first g.left);
  reads = reads ∙ g.reads;
  writes = writes ∙ g.writes;
}
  where
    lost : IsGoneIfKept name now.held new.held → LosesKept old.held now.held → LosesKept old.held new.held
    lost (inl (kept, is)) (gone, all, was) = (gone ++ name ∷ [], all_joined IsKeptName gone (name ∷ []) all (kept, tt), is ∙ ap (without_file name) was ∙ sym (without_last gone name old.held))
    lost (inr (apart, is)) (gone, all, was) = (gone, all, is ∙ was)

    other : (file : List ℕ) (b : Bool) → is_name file name ≡ b → (b || list_any (is_name file) (drop (at + 1) names)) ≡ true → (file ≡ name → ⊥) → list_any (is_name file) (drop (at + 1) names) ≡ true
    other file true is any apart = absurd (apart (tied file name is))
    other file false is any apart = any

    there_still : (file : List ℕ) (b : Bool) (o : Option (List ℕ)) → is_some (cond b None o) ≡ true → (b ≡ false) × (is_some o ≡ true)
    there_still file true o is = absurd (false≢true is)
    there_still file false o is = (refl, is)

    left : (was will : Option Files) → IsGoneIfKept name was will → KeptAmong (name ∷ drop (at + 1) names) was → KeptAmong (drop (at + 1) names) will
    left None will (inl (kept, is)) among = subst (KeptAmong (drop (at + 1) names)) (sym is) tt
    left None will (inr (apart, is)) among = subst (KeptAmong (drop (at + 1) names)) (sym is) tt
    left (Some files) will (inl (kept, is)) among = subst (KeptAmong (drop (at + 1) names)) (sym is)
        (λ file of there.
        let both = there_still file (is_name file name) (finite.get files file) (sym (ap is_some (finite.get-remove nat_list_cmp_total files name file)) ∙ there) in
        other file (is_name file name) refl (among file of both.1) (λ same. false≢true (sym both.0 ∙ ap (λ n. is_name n name) same ∙ itself name)))
    left (Some files) will (inr (apart, is)) among = subst (KeptAmong (drop (at + 1) names)) (sym is)
        (λ file of there. other file (is_name file name) refl (among file of there) (λ same. apart (subst IsKeptName same of)))

none_some : (o : Option (List ℕ)) → (is_some o ≡ true → ⊥) → o ≡ None
none_some None never = refl
none_some (Some x) never = absurd (never refl)

-- at the end no kept file is left
pub going_done : (names : List (List ℕ)) (at : ℕ) (old now : Seen) → drop at names ≡ [] → Going names at old now → IfSome now.held HasNoKept
going_done names at old now all g = by now.held (subst (λ l. KeptAmong l now.held) all g.left)
  where
    by : (held : Option Files) → KeptAmong [] held → IfSome held HasNoKept
    by None among = tt
    by (Some files) among = λ file is. none_some (finite.get files file) (λ there. false≢true (among file is there))
