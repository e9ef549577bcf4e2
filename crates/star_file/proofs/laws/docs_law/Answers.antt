use Rattle.star_file.proofs.DocLaws as laws
use Rattle.star_file.proofs.laws.docs_law.Goals as goal

pub returns : goal.returns
returns c = record {
  written = λ shape counts docs from to dims h s i le in'. laws.written shape counts dims docs from
      to h s i le in';
  only = laws.only;
}
