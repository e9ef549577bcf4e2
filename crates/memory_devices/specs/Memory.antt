-- What a shelf, a depot and a sink in memory are seen as, and what a call of theirs does.
use Rattle.std.specs.Prelude.{◌-◌, ◌++◌, ◌∷◌, ℕ, Bool, false, ◌||◌, nat_eq, nat_le, nat_lt, List, [], length, Option, Some, None, if◌then◌else◌, refl}
use Rattle.std.specs.List.{list_any}
use Rattle.std.specs.Coded.{Coded, code_by, coded×, coded_ℕ, coded_list, coded_option}
use Rattle.std.specs.FinMap as map
use Rattle.outside.specs.Counts.{next}
use Rattle.outside.specs.Files.{Files, files_of, bytes_of}
use Rattle.outside.specs.Reads.{Entry, entry_of}
use Rattle.outside.specs.Calls.{Heard, Seen}

-- the code of files, by which a proof tells them apart
abbrev pub files_code : Coded Files
files_code = map.code (coded_list coded_ℕ) (coded_list coded_ℕ)

-- published files, parts, the reads so far, the numbers of the calls that are to fail, the number
-- of the call from which on all are to fail, the calls so far, and the faults so far
pub record Memory : Type 0 where
  pub held : Files
  pub parts : Files
  pub log : List Entry
  pub failing : List ℕ
  pub stop : Option ℕ
  pub calls : ℕ
  pub read_faults : ℕ
  pub write_faults : ℕ

-- what a device in memory tells, which is everything
abbrev pub told : Memory → Seen
told memory = record {
  held = Some memory.held;
  parts = Some memory.parts;
  log = Some memory.log;
  read_faults = memory.read_faults;
  write_faults = memory.write_faults;
}

-- the code of a read
abbrev pub entry_code : Coded Entry
entry_code = code_by (List ℕ × (ℕ × ℕ)) (coded× (coded_list coded_ℕ) (coded× coded_ℕ coded_ℕ))
    (λ e. (e.file, (e.offset, e.count)))
    (λ p. record { file = p.0; offset = p.1.0; count = p.1.1 }) (λ _. refl)

-- the code of that
abbrev pub memory_code : Coded Memory
memory_code =
    code_by ((Files × Files) × ((List Entry × (List ℕ × Option ℕ)) × (ℕ × (ℕ × ℕ))))
    (coded× (coded× files_code files_code) (coded× (coded× (coded_list entry_code)
    (coded× (coded_list coded_ℕ) (coded_option coded_ℕ))) (coded× coded_ℕ (coded× coded_ℕ
    coded_ℕ))))
    (λ m. (
      (m.held, m.parts),
      (
        (m.log, (m.failing, m.stop)),
        (
          m.calls,
          (
            m.read_faults,
            m.write_faults,
          ),
        ),
      ),
    ))
    (λ p. record {
      held = p.0.0;
      parts = p.0.1;
      log = p.1.0.0;
      failing = p.1.0.1.0;
      stop = p.1.0.1.1;
      calls = p.1.1.0;
      read_faults = p.1.1.1.0;
      write_faults = p.1.1.1.1;
    })
    (λ _. refl)

-- a device as it is made: of two files with one name the last
abbrev pub fresh : List (List ℕ × List ℕ) → List ℕ → Memory
fresh files failing = record {
  held = files_of files;
  parts = map.empty;
  log = [];
  failing = failing;
  stop = None;
  calls = 0;
  read_faults = 0;
  write_faults = 0;
}

-- a device of these files that stops: the call of this number is to fail, and each after it
abbrev pub stopping : List (List ℕ × List ℕ) → ℕ → Memory
stopping files after = record (fresh files []) { stop = Some after }

-- whether the call of this number is to fail
abbrev pub is_listed : List ℕ → ℕ → Bool
is_listed failing call = list_any (λ listed. nat_eq listed call) failing

-- whether a device that stops with a call, if it does, has stopped when this call comes
abbrev pub has_stopped : Option ℕ → ℕ → Bool
has_stopped None _ = false
has_stopped (Some after) call = nat_le after call

-- whether the call that comes now is to fail
abbrev pub fails : Memory → Bool
fails memory = is_listed memory.failing memory.calls || has_stopped memory.stop memory.calls

-- a call that reads was made: it is counted, and so is its fault where it is to fail
abbrev pub read_called : Memory → Memory
read_called memory =
    record memory {
      calls = next memory.calls;
      read_faults = if fails memory then next memory.read_faults else memory.read_faults;
    }

-- a call that writes was made
abbrev pub write_called : Memory → Memory
write_called memory =
    record memory {
      calls = next memory.calls;
      write_faults = if fails memory then next memory.write_faults else memory.write_faults;
    }

-- the log has this read as its last
abbrev pub read_logged : List ℕ → ℕ → ℕ → Memory → Memory
read_logged file offset count memory = record memory {
  log = memory.log
      ++ entry_of file offset count ∷ [];
}

-- the part is there and empty
abbrev pub part_begun : List ℕ → Memory → Memory
part_begun part memory = record memory { parts = map.insert memory.parts part [] }

-- the part has these bytes at its end; one that was not there counts as empty
abbrev pub part_grown : List ℕ → List ℕ → Memory → Memory
part_grown part bytes memory = record memory {
  parts = map.insert memory.parts part
      (bytes_of (Some memory.parts) part ++ bytes);
}

-- the part is gone
abbrev pub part_lost : List ℕ → Memory → Memory
part_lost part memory = record memory { parts = map.remove memory.parts part }

-- the bytes of the part stand under the name, and the part is gone
abbrev pub part_published : List ℕ → List ℕ → Memory → Memory
part_published part name memory =
    record memory {
      held = map.insert memory.held name (bytes_of (Some memory.parts) part);
      parts = map.remove memory.parts part;
    }

-- the file is gone
abbrev pub file_removed : List ℕ → Memory → Memory
file_removed name memory = record memory { held = map.remove memory.held name }

-- all that was written, the room for it, the numbers of the calls that are to fail, the calls so
-- far, and the faults so far
pub record SinkMemory : Type 0 where
  pub written : List ℕ
  pub room : ℕ
  pub failing : List ℕ
  pub calls : ℕ
  pub faults : ℕ

-- what a sink in memory tells, which is everything
abbrev pub sink_told : SinkMemory → Heard
sink_told sink = record { written = Some sink.written; faults = sink.faults }

-- a sink to which nothing was given yet
abbrev pub fresh_sink : ℕ → List ℕ → SinkMemory
fresh_sink room failing = record {
  written = [];
  room = room;
  failing = failing;
  calls = 0;
  faults = 0;
}

-- whether the sink refuses these bytes: the call is to fail, or the room ends before them
abbrev pub refuses : List ℕ → SinkMemory → Bool
refuses bytes sink = is_listed sink.failing sink.calls || nat_lt (sink.room - length sink.written)
    (length bytes)

-- the sink after these bytes were put: all of them are written, or none and the fault is counted
abbrev pub after_put : List ℕ → SinkMemory → SinkMemory
after_put bytes sink =
    if refuses bytes sink
    then record sink { calls = next sink.calls; faults = next sink.faults }
    else record sink { calls = next sink.calls; written = sink.written ++ bytes }
