use Rattle.std.proofs.Common.{◌∙◌, Err, refl, sym, ap}
use Rattle.segment_file.proofs.Faults.{shelf_other, shelf_ok, well_read}
use Rattle.segment_file.proofs.reading.file_length.Goals as goal

pub returns-in-Ok-clause-only_reads : goal.returns-in-Ok-clause-only_reads
returns-in-Ok-clause-only_reads g c =
    let is = c.in-Ok.ensures.only_reads in
    record { held = is.held; parts = is.parts; writes = is.writes; later = is.later; rose = λ e. absurd (well_read c.in-Ok.length e); unchanged = λ no. is.unchanged (λ e. shelf_ok c.in-Ok.length e) }

pub returns-in-Err-Failed-clause-only_reads : goal.returns-in-Err-Failed-clause-only_reads
returns-in-Err-Failed-clause-only_reads g c =
    let is = c.in-Err-Failed.ensures.only_reads in
    record { held = is.held; parts = is.parts; writes = is.writes; later = is.later; rose = λ e. is.rose (ap Err c.in-Err-Failed.field-0-is); unchanged = λ no. absurd (no refl) }

pub returns-in-Err-Missing-clause-only_reads : goal.returns-in-Err-Missing-clause-only_reads
returns-in-Err-Missing-clause-only_reads g c =
    let is = c.in-Err-Missing.ensures.only_reads in
    record { held = is.held; parts = is.parts; writes = is.writes; later = is.later; rose = λ e. absurd (well_read 0 e); unchanged = λ no. is.unchanged (shelf_other c.in-Err-Missing.field-0 (λ e. let same = sym c.in-Err-Missing.field-0-is ∙ e in cc)) }

pub returns-in-Err-NoMemory-clause-only_reads : goal.returns-in-Err-NoMemory-clause-only_reads
returns-in-Err-NoMemory-clause-only_reads g c =
    let is = c.in-Err-NoMemory.ensures.only_reads in
    record { held = is.held; parts = is.parts; writes = is.writes; later = is.later; rose = λ e. absurd cc; unchanged = λ no. is.unchanged (shelf_other c.in-Err-NoMemory.field-0 (λ e. let same = sym c.in-Err-NoMemory.field-0-is ∙ e in cc)) }
