use Rattle.outside.proofs.CountLemmas.{Rose-first, Rose-second, unchanged}
use Rattle.outside.proofs.laws.rises_compose.Goals as goal

pub returns-clause-first : goal.returns-clause-first
returns-clause-first c = Rose-first

pub returns-clause-second : goal.returns-clause-second
returns-clause-second c = λ before between after p q. Rose-second before between after p

pub returns-clause-none : goal.returns-clause-none
returns-clause-none c = λ before between after p q none. (λ r. none (Rose-first before between after p q r), λ r. none (Rose-second before between after p r))

pub returns-clause-unchanged : goal.returns-clause-unchanged
returns-clause-unchanged c = unchanged
