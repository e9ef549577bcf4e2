use Rattle.bit_column.proofs.PostingLaws.{posting_length, entry_read, buckets_in}
use Rattle.bit_column.proofs.SortedLaws.{places_ascend}
use Rattle.bit_column.proofs.laws.postings_read_back.Goals as goal

pub returns-clause-length : goal.returns-clause-length
returns-clause-length c = posting_length

pub returns-clause-entry : goal.returns-clause-entry
returns-clause-entry c = λ count key keys all at_most known. entry_read count key keys all at_most known

pub returns-clause-ascending : goal.returns-clause-ascending
returns-clause-ascending c = places_ascend

pub returns-clause-buckets : goal.returns-clause-buckets
returns-clause-buckets c = buckets_in
