-- A read of one record, by the records that a text has left.
use Rattle.std.proofs.Common.{Bool, true, false, ℕ, List, [], ◌∷◌, ◌≡◌, ◌∙◌, ◌+◌, Some, None, MatchBool, inl, refl, sym, ap, add-one}
use Rattle.csv.proofs.ReadFacts.{rows-more, rows-end}
use Rattle.csv.specs.Machine.{Read, next_record}
use Rattle.csv.specs.Reading.{Reached, ReadRecord, default_config, reader_state, records_from, records_next, took_first}
use Rattle.csv.specs.declared.parser.State.{State}
use Rattle.csv_ingest.specs.Reading.{Reads, TextReader, in_memory, records_left}

-- what a read of one record shows
abbrev pub Shows : TextReader → TextReader → List (List ℕ) → List ℕ → Bool → Type 0
Shows old new fields rest found = MatchBool found
    ((after : List ℕ) × Reads new after × ((n : ℕ) → records_left (n + 1) old rest ≡ fields ∷ records_left n new after))
    ((n : ℕ) → records_left (n + 1) old rest ≡ [])

one_more : (n : ℕ) (s : State) (rest : List ℕ) (p : Read) → next_record default_config s [] [] rest ≡ Some p
    → records_from default_config (n + 1) s rest ≡ p.0 ∷ records_from default_config n p.1 p.2
unfolding records_from
one_more n s rest p e = rw add-one (ap (records_next (records_from default_config n)) e)

no_more : (n : ℕ) (s : State) (rest : List ℕ) → next_record default_config s [] [] rest ≡ None → records_from default_config (n + 1) s rest ≡ []
unfolding records_from
no_more n s rest e = rw add-one (ap (records_next (records_from default_config n)) e)

found_one : (old new : TextReader) (fields : List (List ℕ)) (rest : List ℕ) → Reads old rest → took_first new ≡ true → ReadRecord in_memory old new true fields → Shows old new fields rest true
unfolding Reached
found_one old new fields rest r first reads =
    let (z, at_z, (p, read, same, (state, left))) = rows-more in_memory old new fields default_config (reader_state old) rest rest [] r.by_defaults r.rest_is (refl, refl) reads in (
      z,
      record { trims_nothing = reads.3 ∙ r.trims_nothing; ready = inl first; by_defaults = reads.2 ∙ r.by_defaults; rest_is = at_z },
      λ n. one_more n (reader_state old) rest p read ∙ (λ i. (sym same i) ∷ records_from default_config n (state i) (left i)),
    )

pub shows : (old new : TextReader) (fields : List (List ℕ)) (rest : List ℕ) (found : Bool) → Reads old rest → took_first new ≡ true → ReadRecord in_memory old new found fields → Shows old new fields rest found
shows old new fields rest true r first reads = found_one old new fields rest r first reads
shows old new fields rest false r first reads = λ n. no_more n (reader_state old) rest (rows-end in_memory old new fields default_config rest r.by_defaults r.rest_is reads)
