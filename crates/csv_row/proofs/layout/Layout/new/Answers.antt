use Rattle.csv_row.proofs.layout.Layout.new.Goals as goal

pub returns-clause-is : goal.returns-clause-is
returns-clause-is c = record {
  places = c.in_ok-places.ensures;
  most = c.most_rows-most.ensures;
  at_most = c.requires.at_most;
  defaults = c.requires.defaults;
}
