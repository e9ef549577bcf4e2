-- A segment's file as it is made.
use Rattle.std.specs.Prelude.{ℕ, List, ◌++◌, length, map}
use Rattle.std.specs.List.{concat}
use Rattle.star_file.specs.Bytes.{doc_bytes}
use Rattle.segment_file.specs.Front.{Front}
use Rattle.segment_build.specs.declared.made.MadeFile.{MadeFile}
use Rattle.segment_build.specs.declared.section.MadeSection.{MadeSection}
use Rattle.segment_build.specs.declared.section.MadeSection.TheVariants as made

-- the bytes of a section
abbrev pub section_bytes : MadeSection → List ℕ
section_bytes (made.Stands bytes) = bytes
section_bytes (made.Docs docs) = doc_bytes docs.tree.docs.docs

-- the bytes of each section
abbrev pub each_bytes : List MadeSection → List (List ℕ)
each_bytes sections = map section_bytes sections

-- what the front of a file of these sections says
abbrev pub front_over : ℕ → List MadeSection → Front
front_over rows sections = record {
  format = 1;
  rows = rows;
  sizes = map length (each_bytes sections);
}

-- the bytes of the file
abbrev pub file_bytes : MadeFile → List ℕ
file_bytes made = made.front.items ++ concat (each_bytes made.sections.items)
