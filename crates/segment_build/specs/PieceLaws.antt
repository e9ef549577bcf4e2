-- A part that grows by pieces.
use Rattle.std.proofs.Common.{◌≡◌, ◌∙◌, ℕ, List, [], ◌++◌, Option, Some, None, cond, refl, sym, ap, subst, unwrap_or, Result, Ok, Err, OnErr, IsErrOf, append_assoc, arith}
use Rattle.outside.specs.Calls.{AppendsToPart, Seen, Writes}
use Rattle.outside.specs.Counts.{Rose}
use Rattle.outside.specs.declared.depot.DepotFault.{DepotFault}
use Rattle.outside.specs.declared.depot.DepotFault.TheVariants.{Failed, NoMemory}
use Rattle.outside.specs.Files.{Files, SameBut, bytes_of, name_order, with_file}
use Rattle.std.specs.FinMap as map
use Rattle.std.specs.Ordering.{eq_by_cmp}
use Rattle.std.proofs.lemmas.Cmp.{nat_list_cmp_total}
use Rattle.segment_build.specs.FileLaws.{again, get_put, on_ok_then, same_but, same_but_new, same_but_then, same_name}

-- what is put twice under a name is what was put last
put_twice : (told : Option Files) (name some all : List ℕ)
    → with_file name all (with_file name some told) ≡ with_file name all told
put_twice None name some all = refl
put_twice (Some files) name some all =
    let o = nat_list_cmp_total in
    ap Some (map.same_map o same_name _ _ (λ q. map.get-insert o
    (map.insert files name some) name all q
    ∙ ap (λ v. cond (eq_by_cmp name_order q name) (Some all) v) (map.get-insert o files name some q)
    ∙ again (eq_by_cmp name_order q name) (Some all) (Some some) (map.get files q)
    ∙ sym (map.get-insert o files name all q)))

-- the bytes that were put, where files are told
put_bytes : (files : Files) (name bytes : List ℕ) → bytes_of (with_file name bytes
    (Some files)) name ≡ bytes
put_bytes files name bytes = ap (λ o. unwrap_or o []) (get_put files name bytes)

-- bytes at the end of bytes that were put
pub put_more : (told : Option Files) (name some more : List ℕ)
    → with_file name (bytes_of (with_file name some told) name ++ more)
    (with_file name some told) ≡ with_file name (some ++ more) told
put_more None name some more = refl
put_more (Some files) name some more =
    ap (λ b. with_file name (b ++ more) (with_file name some (Some files)))
    (put_bytes files name some) ∙ put_twice (Some files) name some (some ++ more)

-- a depot whose part is still to grow by these bytes for it to have grown by all
pub record IsGrowing (part left all : List ℕ) (old now : Seen) : Type 0 where
  pub comes : with_file part (bytes_of now.parts part ++ left) now.parts
      ≡ with_file part (bytes_of old.parts part ++ all) old.parts
  pub same : SameBut part old.parts now.parts
  pub held : now.held ≡ old.held
  pub log : now.log ≡ old.log
  pub reads : now.read_faults ≡ old.read_faults
  pub writes : now.write_faults ≡ old.write_faults

-- what follows where a call failed
on_err_then : {A E P Q : Type 0} (r : Result A E) → (P → Q) → OnErr r P → OnErr r Q
on_err_then (Ok x) f p = tt
on_err_then (Err e) f p = f p

-- what a call leaves of the rest of a depot after calls that went well
writes_then : {A : Type 0} (r : Result A DepotFault) (part left all : List ℕ)
    (old mid new : Seen) → IsGrowing part left all old mid
    → Writes (IsErrOf r Failed) mid new → Writes (IsErrOf r Failed) old new
writes_then r part left all old mid new is w =
    record {
      log = w.log ∙ is.log;
      reads = w.reads ∙ is.reads;
      later = omega (arith, w.later, is.writes);
      rose = λ fails. subst (λ n. Rose n new.write_faults) is.writes (w.rose fails);
      unchanged = λ fine. w.unchanged fine ∙ is.writes;
    }

-- with the last piece the part has grown by all
pub grows_last : (r : Result (Unit {0}) DepotFault) (part left all : List ℕ)
    (old mid new : Seen) → IsGrowing part left all old mid
    → AppendsToPart part left r mid new → AppendsToPart part all r old new
grows_last r part left all old mid new is a =
    record {
      appended = on_ok_then r (λ e. e ∙ is.comes) a.appended;
      unknown = on_err_then r (same_but_then part old.parts mid.parts new.parts is.same) a.unknown;
      held = a.held ∙ is.held;
      writes = writes_then r part left all old mid new is a.writes;
      never_missing = a.never_missing;
    }

-- a depot whose part has grown by these bytes
pub record HasGrown (part some : List ℕ) (old now : Seen) : Type 0 where
  pub grown : now.parts ≡ with_file part (bytes_of old.parts part ++ some) old.parts
  pub held : now.held ≡ old.held
  pub log : now.log ≡ old.log
  pub reads : now.read_faults ≡ old.read_faults
  pub writes : now.write_faults ≡ old.write_faults

pub has_grown : (part some : List ℕ) (old now : Seen)
    → AppendsToPart part some (Ok tt) old now → HasGrown part some old now
has_grown part some old now a = record {
  grown = a.appended;
  held = a.held;
  log = a.writes.log;
  reads = a.writes.reads;
  writes = a.writes.unchanged (λ e. cc);
}

-- by more bytes
grown_by : (part some more : List ℕ) (old mid : Seen) → HasGrown part some old mid
    → IsGrowing part more (some ++ more) old mid
grown_by part some more old mid has =
    record {
      comes = ap (λ p. with_file part (bytes_of p part ++ more) p) has.grown
          ∙ put_more old.parts part (bytes_of old.parts part ++ some) more
          ∙ ap (λ b. with_file part b old.parts) (append_assoc (bytes_of old.parts part) some more);
      same = same_but_new part (bytes_of old.parts part ++ some) old.parts mid.parts has.grown;
      held = has.held;
      log = has.log;
      reads = has.reads;
      writes = has.writes;
    }

-- bytes that are added after others are added with them
pub appends_joined : (part a b : List ℕ) (r : Result (Unit {0}) DepotFault)
    (s t u : Seen) → AppendsToPart part a (Ok tt) s t → AppendsToPart part b r t u
    → AppendsToPart part (a ++ b) r s u
appends_joined part a b r s t u first then = grows_last r part b (a ++ b) s t u
    (grown_by part a b s t (has_grown part a s t first)) then

-- where there is no memory for some, nothing is added
pub appends_declined : (part a : List ℕ) (s : Seen) → AppendsToPart part a (Err NoMemory) s s
appends_declined part a s = record {
  appended = tt;
  unknown = same_but part s.parts;
  held = refl;
  writes = record {
    log = refl;
    reads = refl;
    later = omega arith;
    rose = λ fails. absurd cc;
    unchanged = λ fine. refl;
  };
  never_missing = λ is. absurd cc;
}

-- and where some fail, so do all that begin with them
pub appends_stopped : (part a b : List ℕ) (fault : DepotFault) (s t : Seen)
    → AppendsToPart part a (Err fault) s t → AppendsToPart part (a ++ b) (Err fault) s t
appends_stopped part a b fault s t first = record {
  appended = tt;
  unknown = first.unknown;
  held =
      first.held;
  writes = first.writes;
  never_missing = first.never_missing;
}
