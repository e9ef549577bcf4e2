-- Reads of one place, one after another.
use Rattle.std.proofs.Common.{◌≡◌, ◌∙◌, ◌≤◌, ◌+◌, ℕ, List, [], ◌∷◌, ◌++◌, Option, Some, None, option_map, sum_by, refl, sym, ap, subst, arith, append-nil, append_assoc}
use Rattle.std.specs.List.{All}
use Rattle.std.proofs.lemmas.List.Elements.{All-append, All-cons, All-nil}
use Rattle.std.proofs.lemmas.List.Sums.{sum_by-append, sum_by-cons}
use Rattle.outside.specs.declared.place.Place.{Place}
use Rattle.outside.specs.Reads.{Consecutive, Entry, LogsFilled, LogsThrough, LogsUpTo}
use Rattle.outside.proofs.ReadLemmas.{Consecutive-le, LogsFilled-through}
use Rattle.dictionary_reading.specs.InFile.{IsInside, LogsInside}

none_more : (log : Option (List Entry)) → log ≡ option_map (λ before. before ++ []) log
none_more None = refl
none_more (Some xs) = ap Some (sym (append-nil xs))

two_more : (log : Option (List Entry)) (xs ys : List Entry) → option_map (λ before. before ++ ys) (option_map (λ before. before ++ xs) log) ≡ option_map (λ before. before ++ (xs ++ ys)) log
two_more None xs ys = refl
two_more (Some zs) xs ys = ap Some (append_assoc zs xs ys)

-- no read
pub logs_none : (place : Place) (most : ℕ) (log : Option (List Entry)) → LogsInside place most log log
logs_none place most log = record { entries = []; grown = none_more log; inside = All-nil (IsInside place); few = omega arith }

-- a greater bound
pub logs_more : (place : Place) (most greater : ℕ) (old new : Option (List Entry)) → most ≤ greater → LogsInside place most old new → LogsInside place greater old new
logs_more place most greater old new le logs = let few = logs.few in record { entries = logs.entries; grown = logs.grown; inside = logs.inside; few = omega (arith, le, few) }

-- reads after reads
pub logs_then : (place : Place) (m n : ℕ) (a b c : Option (List Entry)) → LogsInside place m a b → LogsInside place n b c → LogsInside place (m + n) a c
logs_then place m n a b c first second =
    let xs = first.entries in
    let ys = second.entries in
    let fx = first.few in
    let fy = second.few in
    record {
      entries = xs ++ ys;
      grown = second.grown ∙ ap (option_map (λ before. before ++ ys)) first.grown ∙ two_more a xs ys;
      inside = All-append (IsInside place) xs ys first.inside second.inside;
      few = omega (arith, fx, fy, sum_by-append (λ entry. entry.count) xs ys);
    }

-- reads that go back to back within the place
consecutive_inside : (place : Place) (from to : ℕ) (entries : List Entry) → place.offset ≤ from → to ≤ place.offset + place.length → Consecutive place.file from to entries → All (IsInside place) entries
consecutive_inside place from to [] low high back = All-nil (IsInside place)
consecutive_inside place from to (e ∷ es) low high back =
    let at = back.1 in
    let ends = Consecutive-le place.file (from + e.count) to es back.2 in
    All-cons (IsInside place) e es (record { file = back.0; from = omega (arith, at, low); to = omega (arith, at, ends, high) }) (consecutive_inside place (from + e.count) to es (omega (arith, low)) high back.2)

consecutive_sum : (file : List ℕ) (from to : ℕ) (entries : List Entry) → Consecutive file from to entries → from + sum_by (λ entry. entry.count) entries ≡ to
consecutive_sum file from to [] back = omega (arith, back)
consecutive_sum file from to (e ∷ es) back =
    let first : sum_by (λ entry. entry.count) (e ∷ es) ≡ e.count + sum_by (λ entry. entry.count) es = sum_by-cons (λ entry. entry.count) e es in
    omega (arith, first, consecutive_sum file (from + e.count) to es back.2)

pub logs_through : (place : Place) (file : List ℕ) (from to most : ℕ) (old new : Option (List Entry)) → file ≡ place.file → place.offset ≤ from → to ≤ place.offset + place.length → to ≤ from + most → LogsThrough file from to old new → LogsInside place most old new
logs_through place file from to most old new named low high few through =
    let back = subst (λ f. Consecutive f from to through.0) named through.2 in
    record {
      entries = through.0;
      grown = through.1;
      inside = consecutive_inside place from to through.0 low high back;
      few = omega (arith, few, consecutive_sum place.file from to through.0 back);
    }

pub logs_up_to : (place : Place) (file : List ℕ) (from limit most : ℕ) (old new : Option (List Entry)) → file ≡ place.file → place.offset ≤ from → limit ≤ place.offset + place.length → limit ≤ from + most → LogsUpTo file from limit old new → LogsInside place most old new
logs_up_to place file from limit most old new named low high few up = let le = up.1 in logs_through place file from up.0 most old new named low (omega (arith, le, high)) (omega (arith, le, few)) up.2

pub logs_filled : (place : Place) (file : List ℕ) (from to limit most : ℕ) (old new : Option (List Entry)) → file ≡ place.file → place.offset ≤ from → to ≤ place.offset + place.length → to ≤ from + most → LogsFilled file from to limit old new → LogsInside place most old new
logs_filled place file from to limit most old new named low high few filled = logs_through place file from to most old new named low high few (LogsFilled-through file from to limit old new filled)
