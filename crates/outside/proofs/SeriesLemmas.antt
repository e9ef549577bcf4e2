-- Reads that are made one after the other, where they end early.
use Rattle.std.proofs.Common.{◌<◌, ◌∷◌, [], ℕ, suc, List, Option, inl, inr, refl, arith}
use Rattle.outside.specs.Reads.{Entry}
use Rattle.outside.specs.Stretches.{LogsOver, LogsPartly, Stretch}
use Rattle.outside.specs.Series.{Logs, LogsPartOf, LogsTo}

-- nothing was read
pub series_none : (each partly : ℕ → Logs) (count : ℕ) (log : Option (List Entry)) → LogsPartOf each partly count log log
series_none each partly count log = record { upto = 0; at_most = omega arith; between = log; before = refl; rest = inl refl }

-- a part of the next one
pub series_part : (each partly : ℕ → Logs) (count n : ℕ) (old mid new : Option (List Entry)) → n < count → LogsTo each n old mid → partly n mid new → LogsPartOf each partly count old new
series_part each partly count n old mid new lt first rest = record { upto = n; at_most = omega (arith, lt); between = mid; before = first; rest = inr (lt, rest) }

-- the next one too
pub series_more : (each partly : ℕ → Logs) (count n : ℕ) (old mid new : Option (List Entry)) → n < count → LogsTo each n old mid → each n mid new → LogsPartOf each partly count old new
series_more each partly count n old mid new lt first more = record { upto = suc n; at_most = omega (arith, lt); between = new; before = (mid, first, more); rest = inl refl }

-- all of them
pub series_all : (each partly : ℕ → Logs) (count : ℕ) (old new : Option (List Entry)) → LogsTo each count old new → LogsPartOf each partly count old new
series_all each partly count old new first = record { upto = count; at_most = omega arith; between = new; before = first; rest = inl refl }

-- all of some stretches are a part of them
pub over_partly : (file : List ℕ) (stretches : List Stretch) (old new : Option (List Entry)) → LogsOver file stretches old new → LogsPartly file stretches old new
over_partly file [] old new over = over
over_partly file (stretch ∷ stretches) old new (between, on, rest) = inr (between, on, over_partly file stretches between new rest)
