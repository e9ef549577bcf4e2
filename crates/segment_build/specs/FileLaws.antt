-- Told files after a part was written and published.
use Rattle.std.proofs.Common.{◌≡◌, ◌≢◌, ◌∙◌, ◌↔◌, ℕ, Bool, true, false, List, [], ◌++◌, Option, Some, None, cond, refl, sym, ap, subst, unwrap_or, Result, Ok, Err, OnOk, OnErr, IsErrAnd, IsErrOf, arith}
use Rattle.outside.specs.Counts.{Rose}
use Rattle.outside.specs.Seen.{OnlyWrites, Seen}
use Rattle.outside.specs.declared.depot.DepotFault.{DepotFault}
use Rattle.outside.specs.declared.depot.DepotFault.TheVariants.{Failed}
use Rattle.std.specs.FinMap as map
use Rattle.std.specs.Ordering.{eq_by_cmp, is_eq}
use Rattle.std.specs.Cmp.{eq_by_cmp_equiv}
use Rattle.std.specs.declared.cmp.Ordering.TheVariants.{Less, Equal, Greater}
use Rattle.std.proofs.lemmas.Cmp.{nat_list_cmp_total}
use Rattle.outside.specs.Files.{Files, SameBut, bytes_of, name_order, with_file, without_file}

pub same_name : (x y : List ℕ) → name_order x y ≡ Equal → x ≡ y
same_name = map.slice_cmp-IsAntisymmetric map.nat_cmp-IsAntisymmetric

other_name : (q name : List ℕ) → q ≢ name → eq_by_cmp name_order q name ≡ false
other_name q name ne = elim (name_order q name) as (λ r. name_order q name ≡ r
    → is_eq r ≡ false) [
      | Less ↦ λ e. refl
      | Equal ↦ λ e. absurd (ne
          (same_name q name e))
      | Greater ↦ λ e. refl
    ] refl

-- the file that was put under a name, and those of other names
pub get_put : (files : Files) (name bytes : List ℕ)
    → map.get (map.insert files name bytes) name ≡ Some bytes
get_put files name bytes = map.get-insert nat_list_cmp_total files name bytes name
    ∙ ap (λ b. cond b (Some bytes) (map.get files name))
    ((eq_by_cmp_equiv nat_list_cmp_total).refl name)

pub get_other : (files : Files) (name bytes q : List ℕ) → q ≢ name
    → map.get (map.insert files name bytes) q ≡ map.get files q
get_other files name bytes q ne = map.get-insert nat_list_cmp_total files name bytes q
    ∙ ap (λ b. cond b (Some bytes) (map.get files q)) (other_name q name ne)

pub again : {A : Type 0} (b : Bool) (x y z : A) → cond b x (cond b y z) ≡ cond b x z
again true x y z = refl
again false x y z = refl

-- to take away what was put is to take away what was there before
remove_put : (files : Files) (name bytes : List ℕ) → map.remove
    (map.insert files name bytes) name ≡ map.remove files name
remove_put files name bytes =
    let o = nat_list_cmp_total in
    map.same_map o same_name _ _ (λ q. map.get-remove o (map.insert files name bytes) name q
    ∙ ap (λ v. cond (eq_by_cmp name_order q name) None v) (map.get-insert o files name bytes q)
    ∙ again (eq_by_cmp name_order q name) None (Some bytes) (map.get files q)
    ∙ sym (map.get-remove o files name q))

-- the bytes of a part that was begun and written to
bytes_written : (parts : Files) (name bytes : List ℕ)
    → bytes_of (with_file name (bytes_of (with_file name [] (Some parts)) name ++ bytes)
    (with_file name [] (Some parts))) name ≡ bytes
bytes_written parts name bytes =
    let begun = map.insert parts name [] in
    let empty : bytes_of (Some begun) name ≡ [] = ap (λ o. unwrap_or o [])
    (get_put parts name []) in
    ap (λ o. unwrap_or o []) (get_put begun name (bytes_of (Some begun) name ++ bytes))
    ∙ ap (λ front. front ++ bytes) empty

-- what is published is what was written
pub published : (held parts : Option Files) (part name bytes : List ℕ)
    → (held ≡ None) ↔ (parts ≡ None)
    → with_file name (bytes_of (with_file part (bytes_of
    (with_file part [] parts) part ++ bytes) (with_file part [] parts)) part) held
    ≡ with_file name bytes held
published None parts part name bytes both = refl
published (Some files) None part name bytes both = absurd (let e : Some files
    ≡ None = both.1 refl in cc)
published (Some files) (Some told) part name bytes both = ap (λ written. Some
    (map.insert files name written)) (bytes_written told part bytes)

-- the part is gone
pub parts_gone : (parts : Option Files) (name some all : List ℕ)
    → without_file name (with_file name all (with_file name some parts)) ≡ without_file name parts
parts_gone None name some all = refl
parts_gone (Some parts) name some all = ap Some (remove_put
    (map.insert parts name some) name all ∙ remove_put parts name some)

-- what changes one part twice changes no other
pub same_but : (name : List ℕ) (told : Option Files) → SameBut name told told
same_but name None = refl
same_but name (Some files) = λ q ne. refl

pub same_but_put : (name bytes : List ℕ) (told now : Option Files)
    → SameBut name (with_file name bytes told) now → SameBut name told now
same_but_put name bytes None now same = same
same_but_put name bytes (Some files) None same = same
same_but_put name bytes (Some files) (Some new) same = λ q ne. same q ne
    ∙ get_other files name bytes q ne

-- what follows from what a call that went well says
pub on_ok_then : {A E P Q : Type 0} (r : Result A E) → (P → Q) → OnOk r P → OnOk r Q
on_ok_then (Ok x) f p = f p
on_ok_then (Err e) f p = tt

-- a device before a part is begun, after it, after it was written to
pub record IsWritten (name bytes : List ℕ) (held0 held1 held2 parts0 parts1 parts2 : Option Files) :
    Type 0 where
  pub begun : parts1 ≡ with_file name [] parts0
  pub grown : parts2 ≡ with_file name (bytes_of parts1 name ++ bytes) parts1
  pub held_first : held1 ≡ held0
  pub held_then : held2 ≡ held1

pub published_after : (part name bytes : List ℕ) (held0 held1 held2 held3 parts0 parts1 parts2 :
    Option Files) → (held0 ≡ None) ↔ (parts0 ≡ None)
    → IsWritten part bytes held0 held1 held2 parts0 parts1 parts2
    → held3 ≡ with_file name (bytes_of parts2 part) held2 → held3 ≡ with_file name bytes held0
published_after part name bytes held0 held1 held2 held3 parts0 parts1 parts2 both is e =
    let first : with_file part (bytes_of parts1 part ++ bytes) parts1
    ≡ with_file part (bytes_of (with_file part [] parts0) part ++ bytes)
    (with_file part [] parts0) = ap (λ p. with_file part
    (bytes_of p part ++ bytes) p) is.begun in
    e ∙ ap (with_file name (bytes_of parts2 part)) (is.held_then ∙ is.held_first)
    ∙ ap (λ p. with_file name (bytes_of p part) held0) (is.grown ∙ first)
    ∙ published held0 parts0 part name bytes both

pub gone_after : (name bytes : List ℕ) (held0 held1 held2 parts0 parts1 parts2 parts3 : Option
    Files)
    → IsWritten name bytes held0 held1 held2 parts0 parts1 parts2
    → parts3 ≡ without_file name parts2 → parts3 ≡ without_file name parts0
gone_after name bytes held0 held1 held2 parts0 parts1 parts2 parts3 is e =
    let all : List ℕ = bytes_of parts1 name ++ bytes in
    e ∙ ap (without_file name) (is.grown ∙ ap (with_file name all) is.begun)
    ∙ parts_gone parts0 name [] all

-- nor does a part that is gone
same_but_gone : (name : List ℕ) (parts now : Option Files) → now ≡ without_file name parts
    → SameBut name parts now
same_but_gone name None now gone = gone
same_but_gone name (Some files) None gone = absurd cc
same_but_gone name (Some files) (Some new) gone = λ q ne.
    let same : new ≡ map.remove files name = cc in
    ap (λ m. map.get m q) same ∙ map.get-remove nat_list_cmp_total files name q
    ∙ ap (λ b. cond b None (map.get files q)) (other_name q name ne)

-- a part that was published is gone, and one that was not is unknown
pub after_publish : {A E : Type 0} (r : Result A E) (name : List ℕ)
    (parts now : Option Files) → OnOk r (now ≡ without_file name parts)
    → OnErr r (SameBut name parts now) → SameBut name parts now
after_publish (Ok x) name parts now gone unknown = same_but_gone name parts now gone
after_publish (Err e) name parts now gone unknown = unknown

-- ---- what calls that write one part leave, one after another

-- a part that was put is the only one that changed
pub same_but_new : (name bytes : List ℕ) (told now : Option Files)
    → now ≡ with_file name bytes told → SameBut name told now
same_but_new name bytes told now is = same_but_put name bytes told now (subst
    (λ t. SameBut name t now) is (same_but name now))

pub same_but_then : (name : List ℕ) (first between last : Option Files)
    → SameBut name first between → SameBut name between last → SameBut name first last
same_but_then name None between last a b = subst (λ t. SameBut name t last) a b
same_but_then name (Some files) None last a b = absurd a
same_but_then name (Some files) (Some new) None a b = b
same_but_then name (Some files) (Some new) (Some now) a b = λ q ne. b q ne ∙ a q ne

pub writes_after : (Fails : Type 0) (part : List ℕ) (first between last : Seen)
    → OnlyWrites ⊥ part first between → OnlyWrites Fails part between last
    → OnlyWrites Fails part first last
writes_after Fails part first between last before now =
    let same : between.write_faults ≡ first.write_faults = before.unchanged (λ fails. fails) in
    record {
      parts = same_but_then part first.parts between.parts last.parts before.parts now.parts;
      log = now.log ∙ before.log;
      reads = now.reads ∙ before.reads;
      later = omega (arith, before.later, now.later);
      rose = λ fails. subst (λ n. Rose n last.write_faults) same (now.rose fails);
      unchanged = λ fine. now.unchanged fine ∙ same;
    }

-- a fault that is handed on
pub writes_handed : {A : Type 0} (r : Result A DepotFault) (fault : DepotFault) (part : List ℕ)
    (old new : Seen) → IsErrAnd r (λ f. f ≡ fault) → OnlyWrites (◌≡◌ {A = Result A DepotFault}
    (Err fault) (Err Failed)) part old new → OnlyWrites (IsErrOf r Failed) part old new
writes_handed (Ok x) fault part old new is writes = absurd is
writes_handed {A = A} (Err f) fault part old new is writes = subst (λ e. OnlyWrites
    (◌≡◌ {A = Result A DepotFault} (Err e) (Err Failed)) part old new) (sym is) writes
