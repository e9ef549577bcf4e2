-- What a sink over a stream is seen as, and what it does to the bytes that the stream tells.
use Rattle.std.specs.Prelude.{◌≤◌, ℕ, List, length, take, Option, None, refl}
use Rattle.std.specs.Coded.{Coded, code_by, coded×, coded_ℕ}
use Rattle.std.specs.Io.KnownBytes.{Appends}
use Rattle.outside.specs.Calls.{Heard}

-- a stream, and the faults so far
pub record Stream (W : Type 0) : Type 0 where
  pub stream : W
  pub faults : ℕ

-- a sink over a stream, seen as the stream and a count of faults
abbrev pub stream_code : {W : Type 0} → Coded W → Coded (Stream W)
stream_code {W = W} code = code_by (W × ℕ) (coded× code coded_ℕ) (λ s. (s.stream, s.faults))
    (λ p. record { stream = p.0; faults = p.1 }) (λ _. refl)

-- what a sink over a stream tells: its faults alone
abbrev pub sink_told : {W : Type 0} → Stream W → Heard
sink_told sink = record { written = None; faults = sink.faults }

-- the bytes that a stream tells grew by the first so many of these
abbrev pub AppendsSome : Option (List ℕ) → Option (List ℕ) → List ℕ → Type 0
AppendsSome old new bytes = (n : ℕ) × (n ≤ length bytes) × Appends old new (take n bytes)
