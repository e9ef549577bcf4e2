use Rattle.std.proofs.Common.{◌≡◌, ◌+◌, ◌-◌, ◌++◌, ◌∷◌, []}
use Rattle.state_columns.specs.Docs.{doc_at}
use Rattle.star_table.proofs.TotalSteps.{star_levels, states_from}
use Rattle.star_table.proofs.star_table.StarTable.append_total.Given as goal

abbrev pub invariant-loop-at : goal.invariant-loop-at
invariant-loop-at l = l.self ≡ record l.fn.self {
  docs = l.fn.self.docs
      ++ ((
        star_levels l.level (l.at - l.level) (doc_at l.fn.self.docs l.start).0,
        (doc_at l.fn.self.docs l.start).1,
      ) ∷ []);
  spare = l.fn.self.spare - 1;
}

abbrev pub invariant-loop-from : goal.invariant-loop-from
invariant-loop-from l = l.self ≡ record l.fn.self {
  docs = l.fn.self.docs
      ++ ((
        star_levels l.level (l.fn.self.dims - l.level)
            (doc_at l.fn.self.docs l.start).0,
        states_from l.start
            (l.from - (l.start + 1)) l.fn.self.docs,
      ) ∷ []);
  spare = l.fn.self.spare - 1;
}
