-- Reads of a part of a file, the first of which may give fewer bytes than are wanted.
use Rattle.std.proofs.Common.{◌≡◌, ◌≤◌, ◌<◌, ◌+◌, ℕ, List, [], ◌∷◌, ◌++◌, length, take, drop, Option, Some, None, refl, sym, ap, ◌∙◌, subst, arith, append_assoc, option_map, length-drop}
use Rattle.std.proofs.lemmas.List.{length-take, take_at}
use Rattle.outside.specs.Files.{Files, bytes_of}
use Rattle.outside.specs.Reads.{AllGive, Entry, Fills, LogsOn, LogsUpTo, ReadsAt, logged}
use Rattle.outside.proofs.ReadLemmas.{LogsOn-none, LogsOn-push, LogsOn-through, LogsThrough-append, LogsThrough-none, LogsThrough-push, there}

-- a read fills the front of a buffer with what there is
pub read-fills : (held : Option Files) (name : List ℕ) (offset n : ℕ) (old new : List ℕ) → length new ≡ length old → ReadsAt held name offset n old new → Fills held name offset n new
read-fills None name offset n old new lengths reads = tt
read-fills (Some files) name offset n old new lengths (file, got, (count, is)) =
    let told : bytes_of (Some files) name ≡ file = there files name file got in
    let sizes : length (bytes_of (Some files) name) ≡ length file = ap length told in
    let size : length (take n (drop offset file)) ≡ n = omega (arith, length-take n (drop offset file), length-drop offset file, count) in
    (omega (arith, count, sizes, lengths), ap (take n) is ∙ take_at (take n (drop offset file)) (drop n old) n size ∙ ap (λ bytes. take n (drop offset bytes)) (sym told))

-- ---- logs that grow one after another

some_append : (log : Option (List Entry)) (entries more : List Entry) → option_map (λ before. before ++ more) (option_map (λ before. before ++ entries) log) ≡ option_map (λ before. before ++ (entries ++ more)) log
some_append None entries more = refl
some_append (Some before) entries more = ap (λ x. Some x) (append_assoc before entries more)

AllGive-append : (file : List ℕ) (a b c : ℕ) (entries more : List Entry) → AllGive file a b entries → AllGive file b c more → AllGive file a c (entries ++ more)
AllGive-append file a b c [] more same give = subst (λ k. AllGive file k c more) (sym same) give
AllGive-append file a b c (entry ∷ entries) more first give = (first.0, first.1, first.2, AllGive-append file (a + entry.count) b c entries more first.3 give)

pub LogsOn-append : (file : List ℕ) (a b c : ℕ) (first between last : Option (List Entry)) → LogsOn file a b first between → LogsOn file b c between last → LogsOn file a c first last
LogsOn-append file a b c first between last (entries, is, on) (more, after, give) =
    (entries ++ more, after ∙ ap (λ log. option_map (λ before. before ++ more) log) is ∙ some_append first entries more, AllGive-append file a b c entries more on give)

pub LogsUpTo-after : (file : List ℕ) (a b limit : ℕ) (first between last : Option (List Entry)) → LogsOn file a b first between → LogsUpTo file b limit between last → LogsUpTo file a limit first last
LogsUpTo-after file a b limit first between last on (to, within, through) = (to, within, LogsThrough-append file a b to first between last (LogsOn-through file a b first between on) through)

-- one read, which may have given nothing
pub one-up : (file : List ℕ) (from n limit : ℕ) (log now : Option (List Entry)) → from + n ≤ limit → now ≡ logged file from n log → LogsUpTo file from limit log now
one-up file from n limit log now within is = (from + n, within, LogsThrough-push file from from n log log now (LogsThrough-none file from log) is)

pub one-on : (file : List ℕ) (from n : ℕ) (log now : Option (List Entry)) → now ≡ logged file from n log → 0 < n → LogsOn file from (from + n) log now
one-on file from n log now is some = LogsOn-push file from from n log log now (LogsOn-none file from log) is some
